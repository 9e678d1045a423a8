-- What a refusal says on the wire: its number, its name and the value that it carries.
use Rattle.std.specs.Prelude.{ℕ, List, codes, Option, Some, None}
use Rattle.site_types.specs.declared.refusal.NameKind.{NameKind}
use Rattle.site_types.specs.declared.refusal.NameKind.TheVariants.{User, Group, Task, Workflow}
use Rattle.site_types.specs.declared.refusal.Refusal.{Refusal}
use Rattle.site_types.specs.declared.refusal.Refusal.TheVariants.{NoPage, IsRoot, Denied, Locked, IsAlias, InModeration, IntoItself, SlugTaken, StepsFull, TooDeep, UrlTooLong, IdsFull, NoDesk, DeskTaken, NothingNew, NotLive, NoWorkflow, NotModerated, NoName, AlreadyExpired, ContentFull, LogFull}

-- the number of a kind of name, from 1 to 4
abbrev pub kind_number : NameKind → ℕ
kind_number User = 1
kind_number Group = 2
kind_number Task = 3
kind_number Workflow = 4

-- the number of a refusal: the place of its rule, from 1 to 22
abbrev pub refusal_number : Refusal → ℕ
refusal_number (NoPage _) = 1
refusal_number IsRoot = 2
refusal_number (Denied _) = 3
refusal_number (Locked _) = 4
refusal_number IsAlias = 5
refusal_number (InModeration _) = 6
refusal_number IntoItself = 7
refusal_number (SlugTaken _) = 8
refusal_number StepsFull = 9
refusal_number TooDeep = 10
refusal_number UrlTooLong = 11
refusal_number IdsFull = 12
refusal_number NoDesk = 13
refusal_number (DeskTaken _) = 14
refusal_number NothingNew = 15
refusal_number NotLive = 16
refusal_number NoWorkflow = 17
refusal_number NotModerated = 18
refusal_number (NoName _) = 19
refusal_number AlreadyExpired = 20
refusal_number ContentFull = 21
refusal_number LogFull = 22

-- the name of a refusal, in ASCII
abbrev pub refusal_name : Refusal → List ℕ
refusal_name (NoPage _) = codes "NoPage"
refusal_name IsRoot = codes "IsRoot"
refusal_name (Denied _) = codes "Denied"
refusal_name (Locked _) = codes "Locked"
refusal_name IsAlias = codes "IsAlias"
refusal_name (InModeration _) = codes "InModeration"
refusal_name IntoItself = codes "IntoItself"
refusal_name (SlugTaken _) = codes "SlugTaken"
refusal_name StepsFull = codes "StepsFull"
refusal_name TooDeep = codes "TooDeep"
refusal_name UrlTooLong = codes "UrlTooLong"
refusal_name IdsFull = codes "IdsFull"
refusal_name NoDesk = codes "NoDesk"
refusal_name (DeskTaken _) = codes "DeskTaken"
refusal_name NothingNew = codes "NothingNew"
refusal_name NotLive = codes "NotLive"
refusal_name NoWorkflow = codes "NoWorkflow"
refusal_name NotModerated = codes "NotModerated"
refusal_name (NoName _) = codes "NoName"
refusal_name AlreadyExpired = codes "AlreadyExpired"
refusal_name ContentFull = codes "ContentFull"
refusal_name LogFull = codes "LogFull"

-- the value that a refusal carries, if it carries one
abbrev pub refusal_carried : Refusal → Option ℕ
refusal_carried (NoPage page) = Some page
refusal_carried (Denied need) = Some need
refusal_carried (Locked user) = Some user
refusal_carried (InModeration task) = Some task
refusal_carried (SlugTaken page) = Some page
refusal_carried (DeskTaken user) = Some user
refusal_carried (NoName kind) = Some (kind_number kind)
refusal_carried _ = None
