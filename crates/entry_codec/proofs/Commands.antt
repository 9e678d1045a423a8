-- Commands are read as they are written.
use Rattle.std.proofs.Common.{◌≡◌, ℕ, zero, suc, ◌+◌, List, [], ◌∷◌, ◌++◌, Option, Some, refl, sym, ap, subst, arith}
use Rattle.std.specs.List.{slice_get}
use Rattle.site_types.specs.Ids.{IsPageId}
use Rattle.site_ids.specs.declared.digest.TheConstants.{DIGEST_BYTES}
use Rattle.site_types.specs.declared.command.Command.{Command}
use Rattle.site_types.specs.declared.command.Command.TheVariants.{Create, Move, Delete, SetSlug, Alias, Detach, Copy, OpenDesk, SaveDesk, ShutDesk, File, Publish, Unpublish, Unschedule, Lock, Unlock, Purge, DefineTask, DefineWorkflow, Assign, Submit, Approve, Reject, Cancel, DefineUser, DefineGroup, Member, Grant, Tick}
use Rattle.byte_forms.specs.Fields.{id_form}
use Rattle.byte_forms.specs.Commands.{command_form, IsCommand}
use Rattle.content_codec.specs.Reading.{made, byte_at}
use Rattle.content_codec.proofs.Readings.{AreBytes, Takes, IsReading, step_gives, some_is, both_reading, made_again, made_takes, byte_reading, bytes_reading}
use Rattle.content_codec.proofs.Fields.{truth_reading, page_reading, user_reading, group_reading, optional_workflow_reading, optional_moment_reading, slug_reading}
use Rattle.content_codec.proofs.Contents.{content_reading}
use Rattle.entry_codec.specs.Commands.{create_at, move_at, set_slug_at, alias_at, copy_at, save_at, file_at, assign_at, define_user_at, member_at, grant_at, on_page, readers, fields_at, command_at}
use Rattle.entry_codec.specs.Lists.{groups_at, tasks_at}
use Rattle.entry_codec.proofs.ListReadings.{position_reading, permission_reading, groups_reading, tasks_reading}

-- what reads the fields of a command
abbrev Reader : Type 0
Reader = List ℕ → Option (Command × List ℕ)

-- what is read after a tag has the form with that tag
abbrev IsRight : ℕ → Reader → Type 0
IsRight tag read =
    (bytes : List ℕ) (command : Command) (rest : List ℕ) → AreBytes bytes →
    read bytes ≡ Some (command, rest) → Takes command_form IsCommand (tag ∷ bytes) command rest

-- a command that has a page alone
on_page_right : (make : ℕ → Command) (tag : ℕ) →
    ((page : ℕ) → IsPageId page → IsCommand (make page)) →
    ((page : ℕ) → command_form (make page) ≡ tag ∷ id_form page) → IsRight tag (on_page make)
on_page_right make tag stands forms =
    made_takes page_reading make command_form IsCommand tag stands forms

-- a command without fields
alone_right : (command : Command) (tag : ℕ) → IsCommand command →
    command_form command ≡ tag ∷ [] → IsRight tag (λ bytes. Some (command, bytes))
alone_right command tag is form bytes found rest are e =
    let it : Command × List ℕ = (command, bytes) in
    let P : Command × List ℕ → Type 0 = λ q. Takes command_form IsCommand (tag ∷ bytes) q.0 q.1 in
    let parts : tag ∷ bytes ≡ command_form command ++ bytes =
    ap (λ (t : List ℕ). t ++ bytes) (sym form) in
    subst P (some_is it (found, rest) e) (record { is = is; parts = parts; rest_are = are })

-- the fields of Create
create_right : IsRight 1 create_at
unfolding create_at command_form IsCommand
create_right =
    made_takes (both_reading (both_reading page_reading slug_reading) content_reading)
    (λ x. Create x.0.0 x.0.1 x.1) command_form IsCommand 1
    (λ x is. (is.0.0, is.0.1, is.1)) (λ x. refl)

-- the fields of Move
move_right : IsRight 2 move_at
unfolding move_at command_form IsCommand
move_right =
    made_takes (both_reading (both_reading page_reading page_reading) position_reading)
    (λ x. Move x.0.0 x.0.1 x.1) command_form IsCommand 2
    (λ x is. (is.0.0, is.0.1)) (λ x. refl)

-- the fields of SetSlug
set_slug_right : IsRight 4 set_slug_at
unfolding set_slug_at command_form IsCommand
set_slug_right =
    made_takes (both_reading page_reading slug_reading)
    (λ x. SetSlug x.0 x.1) command_form IsCommand 4
    (λ x is. (is.0, is.1)) (λ x. refl)

-- the fields of Alias
alias_right : IsRight 5 alias_at
unfolding alias_at command_form IsCommand
alias_right =
    made_takes (both_reading (both_reading page_reading page_reading) slug_reading)
    (λ x. Alias x.0.0 x.0.1 x.1) command_form IsCommand 5
    (λ x is. (is.0.0, is.0.1, is.1)) (λ x. refl)

-- the fields of Copy
copy_right : IsRight 7 copy_at
unfolding copy_at command_form IsCommand
copy_right =
    made_takes
    (both_reading (both_reading (both_reading page_reading page_reading) slug_reading)
    truth_reading)
    (λ x. Copy x.0.0.0 x.0.0.1 x.0.1 x.1) command_form IsCommand 7
    (λ x is. (is.0.0.0, is.0.0.1, is.0.1)) (λ x. refl)

-- the fields of SaveDesk
save_right : IsRight 9 save_at
unfolding save_at command_form IsCommand
save_right =
    made_takes (both_reading page_reading content_reading)
    (λ x. SaveDesk x.0 x.1) command_form IsCommand 9
    (λ x is. (is.0, is.1)) (λ x. refl)

-- the fields of File
file_right : IsRight 11 file_at
unfolding file_at command_form IsCommand
file_right =
    made_takes
    (both_reading (both_reading page_reading optional_moment_reading) optional_moment_reading)
    (λ x. File x.0.0 x.0.1 x.1) command_form IsCommand 11
    (λ x is. (is.0.0, is.0.1, is.1)) (λ x. refl)

-- the fields of Assign
assign_right : IsRight 20 assign_at
unfolding assign_at command_form IsCommand
assign_right =
    made_takes (both_reading page_reading optional_workflow_reading)
    (λ x. Assign x.0 x.1) command_form IsCommand 20
    (λ x is. (is.0, is.1)) (λ x. refl)

-- the fields of DefineUser
define_user_right : IsRight 25 define_user_at
unfolding define_user_at command_form IsCommand
define_user_right =
    made_takes (both_reading truth_reading (bytes_reading DIGEST_BYTES))
    (λ x. DefineUser x.0 x.1) command_form IsCommand 25
    (λ x is. is.1) (λ x. refl)

-- the fields of Member
member_right : IsRight 27 member_at
unfolding member_at command_form IsCommand
member_right =
    made_takes (both_reading (both_reading user_reading group_reading) truth_reading)
    (λ x. Member x.0.0 x.0.1 x.1) command_form IsCommand 27
    (λ x is. (is.0.0, is.0.1)) (λ x. refl)

-- the fields of Grant
grant_right : IsRight 28 grant_at
unfolding grant_at command_form IsCommand
grant_right =
    made_takes
    (both_reading (both_reading (both_reading group_reading page_reading) permission_reading)
    truth_reading)
    (λ x. Grant x.0.0.0 x.0.0.1 x.0.1 x.1) command_form IsCommand 28
    (λ x is. (is.0.0.0, is.0.0.1)) (λ x. refl)

-- each of some readers is right, the first one after this tag, each next one after the next tag
abbrev AreRight : ℕ → List Reader → Type 0
AreRight tag [] = Unit {0}
AreRight tag (read ∷ reads) = IsRight tag read × AreRight (suc tag) reads

-- the groups of a DefineTask
define_task_right : IsRight 18 (λ bytes. made DefineTask (groups_at bytes))
unfolding command_form IsCommand
define_task_right =
    made_takes groups_reading DefineTask command_form IsCommand 18 (λ _ is. is) (λ _. refl)

-- the tasks of a DefineWorkflow
define_workflow_right : IsRight 19 (λ bytes. made DefineWorkflow (tasks_at bytes))
unfolding command_form IsCommand
define_workflow_right =
    made_takes tasks_reading DefineWorkflow command_form IsCommand 19 (λ _ is. is) (λ _. refl)

infixr 5 ◌and◌
-- one fact and another one
abbrev ◌and◌ : {A B : Type 0} → A → B → A × B
a and b = (a, b)

-- each reader is right
readers_right : AreRight 1 readers
unfolding command_form IsCommand
readers_right =
    create_right and move_right and on_page_right Delete 3 (λ _ is. is) (λ _. refl)
    and set_slug_right and alias_right and on_page_right Detach 6 (λ _ is. is) (λ _. refl)
    and copy_right and on_page_right OpenDesk 8 (λ _ is. is) (λ _. refl) and save_right
    and on_page_right ShutDesk 10 (λ _ is. is) (λ _. refl) and file_right
    and on_page_right Publish 12 (λ _ is. is) (λ _. refl)
    and on_page_right Unpublish 13 (λ _ is. is) (λ _. refl)
    and on_page_right Unschedule 14 (λ _ is. is) (λ _. refl)
    and on_page_right Lock 15 (λ _ is. is) (λ _. refl)
    and on_page_right Unlock 16 (λ _ is. is) (λ _. refl)
    and on_page_right Purge 17 (λ _ is. is) (λ _. refl) and define_task_right
    and define_workflow_right and assign_right
    and on_page_right Submit 21 (λ _ is. is) (λ _. refl)
    and on_page_right Approve 22 (λ _ is. is) (λ _. refl)
    and on_page_right Reject 23 (λ _ is. is) (λ _. refl)
    and on_page_right Cancel 24 (λ _ is. is) (λ _. refl) and define_user_right
    and alone_right DefineGroup 26 tt refl and member_right and grant_right
    and alone_right Tick 29 tt refl
    and tt

-- the reader at a place is right after its tag
right_at : (reads : List Reader) (tag n : ℕ) (read : Reader) → AreRight tag reads →
    slice_get reads n ≡ Some read → IsRight (tag + n) read
right_at [] tag n read all e = absurd cc
right_at (first ∷ reads) tag zero read all e =
    let same : tag ≡ tag + 0 = omega arith in
    let P : ℕ → Type 0 = λ k. IsRight k read in
    let Q : Reader → Type 0 = λ r. IsRight tag r in
    subst P same (subst Q (some_is first read e) all.0)
right_at (first ∷ reads) tag (suc n) read all e =
    let same : suc tag + n ≡ tag + suc n = omega arith in
    let P : ℕ → Type 0 = λ k. IsRight k read in
    subst P same (right_at reads (suc tag) n read all.1 e)

-- fields that are read are those of a command with that tag
fields_take : (tag : ℕ) → IsRight tag (fields_at tag)
unfolding fields_at
fields_take zero bytes command rest are e = absurd cc
fields_take (suc n) bytes command rest are e =
    let read = step_gives (slice_get readers n) (λ read. read bytes) (command, rest) e in
    let right = right_at readers 1 n read.0 readers_right read.1 in
    let same : 1 + n ≡ suc n = omega arith in
    let P : ℕ → Type 0 = λ k. Takes command_form IsCommand (k ∷ bytes) command rest in
    subst P same (right bytes command rest are read.2)

-- a command that is read is written
command_takes : (bytes : List ℕ) (command : Command) (rest : List ℕ) → AreBytes bytes →
    command_at bytes ≡ Some (command, rest) → Takes command_form IsCommand bytes command rest
unfolding command_at
command_takes bytes command rest are e =
    let tag = step_gives (byte_at bytes) (λ tag. fields_at tag.0 tag.1) (command, rest) e in
    let one = byte_reading.takes bytes tag.0.0 tag.0.1 are tag.1 in
    let P : List ℕ → Type 0 = λ all. Takes command_form IsCommand all command rest in
    subst P (sym one.parts) (fields_take tag.0.0 tag.0.1 command rest one.rest_are tag.2)

-- a command that is written is read
command_again : (command : Command) (rest : List ℕ) → IsCommand command →
    command_at (command_form command ++ rest) ≡ Some (command, rest)
unfolding command_at byte_at fields_at command_form IsCommand create_at move_at set_slug_at alias_at
    copy_at save_at file_at assign_at define_user_at member_at grant_at
command_again (Create parent slug content) rest is =
    made_again (both_reading (both_reading page_reading slug_reading) content_reading)
    (λ x. Create x.0.0 x.0.1 x.1) ((parent, slug), content) rest ((is.0, is.1), is.2)
command_again (Move page target position) rest is =
    made_again (both_reading (both_reading page_reading page_reading) position_reading)
    (λ x. Move x.0.0 x.0.1 x.1) ((page, target), position) rest ((is.0, is.1), tt)
command_again (Delete page) rest is = made_again page_reading Delete page rest is
command_again (SetSlug page slug) rest is =
    made_again (both_reading page_reading slug_reading)
    (λ x. SetSlug x.0 x.1) (page, slug) rest (is.0, is.1)
command_again (Alias source parent slug) rest is =
    made_again (both_reading (both_reading page_reading page_reading) slug_reading)
    (λ x. Alias x.0.0 x.0.1 x.1) ((source, parent), slug) rest ((is.0, is.1), is.2)
command_again (Detach page) rest is = made_again page_reading Detach page rest is
command_again (Copy page parent slug deep) rest is =
    made_again
    (both_reading (both_reading (both_reading page_reading page_reading) slug_reading)
    truth_reading)
    (λ x. Copy x.0.0.0 x.0.0.1 x.0.1 x.1) (((page, parent), slug), deep)
    rest (((is.0, is.1), is.2), tt)
command_again (OpenDesk page) rest is = made_again page_reading OpenDesk page rest is
command_again (SaveDesk page content) rest is =
    made_again (both_reading page_reading content_reading)
    (λ x. SaveDesk x.0 x.1) (page, content) rest (is.0, is.1)
command_again (ShutDesk page) rest is = made_again page_reading ShutDesk page rest is
command_again (File page go_live expire) rest is =
    made_again
    (both_reading (both_reading page_reading optional_moment_reading) optional_moment_reading)
    (λ x. File x.0.0 x.0.1 x.1) ((page, go_live), expire) rest ((is.0, is.1), is.2)
command_again (Publish page) rest is = made_again page_reading Publish page rest is
command_again (Unpublish page) rest is = made_again page_reading Unpublish page rest is
command_again (Unschedule page) rest is = made_again page_reading Unschedule page rest is
command_again (Lock page) rest is = made_again page_reading Lock page rest is
command_again (Unlock page) rest is = made_again page_reading Unlock page rest is
command_again (Purge page) rest is = made_again page_reading Purge page rest is
command_again (DefineTask groups) rest is = made_again groups_reading DefineTask groups rest is
command_again (DefineWorkflow tasks) rest is =
    made_again tasks_reading DefineWorkflow tasks rest is
command_again (Assign page workflow) rest is =
    made_again (both_reading page_reading optional_workflow_reading)
    (λ x. Assign x.0 x.1) (page, workflow) rest (is.0, is.1)
command_again (Submit page) rest is = made_again page_reading Submit page rest is
command_again (Approve page) rest is = made_again page_reading Approve page rest is
command_again (Reject page) rest is = made_again page_reading Reject page rest is
command_again (Cancel page) rest is = made_again page_reading Cancel page rest is
command_again (DefineUser superuser digest) rest is =
    made_again (both_reading truth_reading (bytes_reading DIGEST_BYTES))
    (λ x. DefineUser x.0 x.1) (superuser, digest) rest (tt, is)
command_again DefineGroup rest is = refl
command_again (Member user group on) rest is =
    made_again (both_reading (both_reading user_reading group_reading) truth_reading)
    (λ x. Member x.0.0 x.0.1 x.1) ((user, group), on) rest ((is.0, is.1), tt)
command_again (Grant group page permission on) rest is =
    made_again
    (both_reading (both_reading (both_reading group_reading page_reading) permission_reading)
    truth_reading)
    (λ x. Grant x.0.0.0 x.0.0.1 x.0.1 x.1) (((group, page), permission), on)
    rest (((is.0, is.1), tt), tt)
command_again Tick rest is = refl

-- commands are read as they are written
pub command_reading : IsReading command_form IsCommand command_at
command_reading = record { again = command_again; takes = command_takes }
