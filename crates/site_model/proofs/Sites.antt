-- Small sites, and what commands are answered on them, for the worked values.
use Rattle.std.proofs.Common.{ℕ, true, false, List, [], codes, None, Result, Ok, Err}
use Rattle.site_types.specs.Content.{ContentValue}
use Rattle.site_types.specs.declared.command.Command.{Command}
use Rattle.site_types.specs.declared.command.Command.TheVariants.{Create, DefineUser, DefineGroup, Member, Grant}
use Rattle.site_types.specs.declared.permission.Permission.TheVariants.{Change}
use Rattle.site_types.specs.declared.refusal.Refusal.{Refusal}
use Rattle.site_types.specs.declared.reply.Reply.{Reply}
use Rattle.site_model.specs.World.{TreePart, Effect}
use Rattle.site_model.specs.Start.{new_part}
use Rattle.site_model.specs.Step.{step_by}

-- what the step answers
abbrev pub answered : Result (TreePart × Effect) Refusal → Result Reply Refusal
answered (Ok done) = Ok done.1.reply
answered (Err refusal) = Err refusal

-- the part after the step, or as it was
abbrev pub part_after : Result (TreePart × Effect) Refusal → TreePart → TreePart
part_after (Ok done) part = done.0
part_after (Err refusal) part = part

-- what a command of a caller is answered
abbrev pub said : TreePart → ℕ → Command → Result Reply Refusal
said part caller command = answered (step_by part None 100 caller command)

-- the part after a command of a caller
abbrev pub after : TreePart → ℕ → Command → TreePart
after part caller command = part_after (step_by part None 100 caller command) part

-- a content that is its title
abbrev pub titled : List ℕ → ContentValue
titled title = record { title = title; blocks = [] }

-- a page below a parent
abbrev pub page_below : ℕ → List ℕ → Command
page_below parent slug = Create parent slug (titled slug)

-- the digest of one token
abbrev pub first_digest : List ℕ
first_digest = codes "abc"

-- and of another
abbrev pub second_digest : List ℕ
second_digest = codes "hello"

-- a new site, whose user 1 is a superuser
abbrev pub fresh : TreePart
fresh = new_part first_digest

-- with user 2, who is none
abbrev pub with_two : TreePart
with_two = after fresh 1 (DefineUser false second_digest)

-- and with group 1
abbrev pub with_group_1 : TreePart
with_group_1 = after with_two 1 DefineGroup

-- of which user 2 is a member
abbrev pub joined : TreePart
joined = after with_group_1 1 (Member 2 1 true)

-- and which may change every page
abbrev pub changing : TreePart
changing = after joined 1 (Grant 1 1 Change true)

-- with pages 2 and 3, a and b, below the root, and page 4, c, below a
abbrev pub with_pages : TreePart
with_pages =
    after (after (after changing 1 (page_below 1 (codes "a"))) 1 (page_below 1 (codes "b"))) 1
    (page_below 2 (codes "c"))
