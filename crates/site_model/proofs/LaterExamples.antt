-- Schedules, moderations, aliases and copies at worked values.
use Rattle.std.proofs.Common.{◌≡◌, ℕ, true, false, List, [], ◌∷◌, refl, codes, Option, Some, None}
use Rattle.page_tree.specs.Walk.{url_of}
use Rattle.step_path.specs.Path.{path_text}
use Rattle.step_path.specs.Step.{step_text}
use Rattle.site_types.specs.declared.command.Command.{Command}
use Rattle.site_types.specs.declared.command.Command.TheVariants as commands
use Rattle.site_types.specs.declared.moderation.ModerationStatus.TheVariants.{InProgress, Approved, NeedsChanges}
use Rattle.site_types.specs.declared.refusal.NameKind.TheVariants as kinds
use Rattle.site_types.specs.declared.refusal.Refusal.{Refusal}
use Rattle.site_types.specs.declared.refusal.Refusal.TheVariants.{SlugTaken, IntoItself, NothingNew, NoWorkflow, NotModerated, NoName}
use Rattle.site_types.specs.declared.reply.Reply.{Reply}
use Rattle.site_types.specs.declared.reply.Reply.TheVariants.{Page, Ticked, Moderated}
use Rattle.site_model.specs.World.{TreePart, Effect}
use Rattle.site_model.specs.Views.{is_live_page}
use Rattle.site_model.specs.Needs.{needs_of}
use Rattle.site_model.specs.Front.{row_of, front_rules}
use Rattle.site_model.specs.Desks.{desk_page, settled}
use Rattle.site_model.specs.Aliases.{shown_content}
use Rattle.site_model.specs.Step.{rules, effect, step_by}
use Rattle.site_model.proofs.Sites.{titled, fresh}

-- what a command of user 1 at a moment does that no rule refuses
abbrev done : ℕ → Command → TreePart → TreePart × Effect
done now command part =
    settled 1 (desk_page command) (effect part (Some (titled (codes "z"))) now 1 command)

-- the part after it
abbrev pub then : ℕ → Command → TreePart → TreePart
then now command part = (done now command part).0

-- its reply
abbrev pub reply : ℕ → Command → TreePart → Reply
reply now command part = (done now command part).1.reply

-- why it is refused by a rule of its own
abbrev pub refused : ℕ → Command → TreePart → Option Refusal
refused now command part = rules part (Some (titled (codes "z"))) now 1 command

-- a new page below a parent
abbrev pub make : ℕ → List ℕ → TreePart → TreePart
make parent slug part = then 0 (commands.Create parent slug (titled slug)) part

-- a site with page 2, p
abbrev pub with_p : TreePart
with_p = make 1 (codes "p") fresh

-- whose second revision goes live at moment 5 and is published
abbrev waits : TreePart
waits = then 3 (commands.Publish 2) (then 2 (commands.File 2 (Some 5) None) with_p)

-- before that nothing is due
nothing_due : refused 4 commands.Tick waits ≡ Some NothingNew
unfolding needs_of front_rules row_of rules effect step_by desk_page
nothing_due = refl

-- then it is published
goes_live : reply 5 commands.Tick waits ≡ Ticked [] (2 ∷ []) []
unfolding needs_of front_rules row_of rules effect step_by desk_page
goes_live = refl

-- and is live
is_live_then : is_live_page (then 5 commands.Tick waits).tree 2 ≡ true
unfolding needs_of front_rules row_of rules effect step_by desk_page
is_live_then = refl

-- after which nothing is due
nothing_left : refused 9 commands.Tick (then 5 commands.Tick waits) ≡ Some NothingNew
unfolding needs_of front_rules row_of rules effect step_by desk_page
nothing_left = refl

-- a page that expires at the moment at which its next revision goes live
abbrev both_due : TreePart
both_due =
    then 7 (commands.Publish 2) (then 6 (commands.File 2 (Some 8) None)
    (then 5 (commands.Publish 2) (then 3 (commands.File 2 None (Some 8))
    (then 1 (commands.Alias 2 1 (codes "q")) with_p))))

-- it stops being live, and then is published
ends_and_begins : reply 8 commands.Tick both_due ≡ Ticked (2 ∷ []) (2 ∷ []) []
unfolding needs_of front_rules row_of rules effect step_by desk_page
ends_and_begins = refl

-- its alias, page 3, is live with it
alias_is_live : is_live_page (then 8 commands.Tick both_due).tree 3 ≡ true
unfolding needs_of front_rules row_of rules effect step_by desk_page
alias_is_live = refl

-- and shows what it shows
alias_shows : shown_content (then 8 commands.Tick both_due) 3 ≡ titled (codes "z")
unfolding needs_of front_rules row_of rules effect step_by desk_page
alias_shows = refl

-- a scheduled revision that has expired by then is dropped
drops_expired :
    reply 9 commands.Tick
    (then 3 (commands.Publish 2) (then 2 (commands.File 2 (Some 5) (Some 8)) with_p))
    ≡ Ticked [] [] (2 ∷ [])
unfolding needs_of front_rules row_of rules effect step_by desk_page
drops_expired = refl

-- page 2 below the root, whose workflow has two tasks of group 1
abbrev with_workflow : TreePart
with_workflow =
    make 1 (codes "p") (then 0 (commands.Assign 1 (Some 1))
    (then 0 (commands.DefineWorkflow (1 ∷ 2 ∷ [])) (then 0 (commands.DefineTask (1 ∷ []))
    (then 0 (commands.DefineTask (1 ∷ [])) (then 0 commands.DefineGroup fresh)))))

-- a task of a group that is not there
no_group : refused 0 (commands.DefineTask (1 ∷ [])) fresh ≡ Some (NoName kinds.Group)
unfolding needs_of front_rules row_of rules effect step_by desk_page
no_group = refl

-- a workflow of a task that is not there
no_task : refused 0 (commands.DefineWorkflow (1 ∷ [])) fresh ≡ Some (NoName kinds.Task)
unfolding needs_of front_rules row_of rules effect step_by desk_page
no_task = refl

-- a workflow that is not there
no_workflow : refused 0 (commands.Assign 1 (Some 1)) fresh ≡ Some (NoName kinds.Workflow)
unfolding needs_of front_rules row_of rules effect step_by desk_page
no_workflow = refl

-- a page without one is not submitted
nothing_to_run : refused 0 (commands.Submit 2) with_p ≡ Some NoWorkflow
unfolding needs_of front_rules row_of rules effect step_by desk_page
nothing_to_run = refl

-- a page below the root runs through the root's
submitted : reply 1 (commands.Submit 2) with_workflow ≡ Moderated InProgress 1
unfolding needs_of front_rules row_of rules effect step_by desk_page
submitted = refl

-- submitted, and approved once
abbrev at_second : TreePart
at_second = then 2 (commands.Approve 2) (then 1 (commands.Submit 2) with_workflow)

-- it is at the second task
approved_once : reply 2 (commands.Approve 2) (then 1 (commands.Submit 2) with_workflow) ≡
    Moderated InProgress 2
unfolding needs_of front_rules row_of rules effect step_by desk_page
approved_once = refl

-- it is rejected there
rejected : reply 3 (commands.Reject 2) at_second ≡ Moderated NeedsChanges 2
unfolding needs_of front_rules row_of rules effect step_by desk_page
rejected = refl

-- goes on there when it is submitted again
submitted_again : reply 4 (commands.Submit 2) (then 3 (commands.Reject 2) at_second) ≡
    Moderated InProgress 2
unfolding needs_of front_rules row_of rules effect step_by desk_page
submitted_again = refl

-- is approved at the last task
approved_twice : reply 5 (commands.Approve 2) at_second ≡ Moderated Approved 2
unfolding needs_of front_rules row_of rules effect step_by desk_page
approved_twice = refl

-- and is live then
live_by_approval : is_live_page (then 5 (commands.Approve 2) at_second).tree 2 ≡ true
unfolding needs_of front_rules row_of rules effect step_by desk_page
live_by_approval = refl

-- nothing is approved twice over
approved_when_over : refused 6 (commands.Approve 2) (then 5 (commands.Approve 2) at_second) ≡
    Some NotModerated
unfolding needs_of front_rules row_of rules effect step_by desk_page
approved_when_over = refl

-- an alias of an alias is one of its source
alias_of_alias :
    (then 2 (commands.Alias 3 1 (codes "r")) (then 1 (commands.Alias 2 1 (codes "q")) with_p)).tree
    ≡ (then 2 (commands.Alias 2 1 (codes "r"))
    (then 1 (commands.Alias 2 1 (codes "q")) with_p)).tree
unfolding needs_of front_rules row_of rules effect step_by desk_page
alias_of_alias = refl

-- an alias is placed as a page is
alias_is_placed : reply 1 (commands.Alias 2 1 (codes "q")) with_p ≡
    Page 3 (codes "00010002") (codes "/q/")
unfolding needs_of front_rules row_of rules effect step_by desk_page path_text step_text
alias_is_placed = refl

-- a page that is no alias is not made regular
nothing_to_detach : refused 1 (commands.Detach 2) with_p ≡ Some NothingNew
unfolding needs_of front_rules row_of rules effect step_by desk_page
nothing_to_detach = refl

-- an alias that is made regular shows what it showed
detached_shows :
    shown_content (then 2 (commands.Detach 3) (then 1 (commands.Alias 2 1 (codes "q")) with_p)) 3
    ≡ titled (codes "p")
unfolding needs_of front_rules row_of rules effect step_by desk_page
detached_shows = refl

-- page 2, a, with page 3, b, below it
abbrev with_ab : TreePart
with_ab = make 2 (codes "b") (make 1 (codes "a") fresh)

-- a deep copy has the next id
copy_is_placed : reply 1 (commands.Copy 2 1 (codes "z") true) with_ab ≡
    Page 4 (codes "00010002") (codes "/z/")
unfolding needs_of front_rules row_of rules effect step_by desk_page path_text step_text
copy_is_placed = refl

-- and those below it the next ones
copy_below : url_of 5 (then 1 (commands.Copy 2 1 (codes "z") true) with_ab).tree ≡ codes "/z/b/"
unfolding needs_of front_rules row_of rules effect step_by desk_page
copy_below = refl

-- with contents of their own
copy_shows : shown_content (then 1 (commands.Copy 2 1 (codes "z") true) with_ab) 5 ≡
    titled (codes "b")
unfolding needs_of front_rules row_of rules effect step_by desk_page
copy_shows = refl

-- a deep copy does not come below what it copies
copy_into_itself : refused 1 (commands.Copy 2 3 (codes "z") true) with_ab ≡ Some IntoItself
unfolding needs_of front_rules row_of rules effect step_by desk_page
copy_into_itself = refl

-- one of the page alone may
shallow_copy : refused 1 (commands.Copy 2 3 (codes "z") false) with_ab ≡ None
unfolding needs_of front_rules row_of rules effect step_by desk_page
shallow_copy = refl

-- where its slug is free
copy_slug_taken : refused 1 (commands.Copy 3 1 (codes "a") false) with_ab ≡ Some (SlugTaken 2)
unfolding needs_of front_rules row_of rules effect step_by desk_page
copy_slug_taken = refl
