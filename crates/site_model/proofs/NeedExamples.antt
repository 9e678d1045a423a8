-- Needs and the first six rules of later commands, at worked values.
use Rattle.std.proofs.Common.{◌≡◌, ℕ, true, List, [], ◌∷◌, refl, codes, Some, None}
use Rattle.site_types.specs.declared.body.Body.{Body}
use Rattle.site_types.specs.declared.command.Command.TheVariants as commands
use Rattle.site_types.specs.declared.moderation.ModerationStatus.TheVariants.{InProgress}
use Rattle.site_types.specs.declared.position.Position.TheVariants.{LastChild}
use Rattle.site_types.specs.declared.refusal.Refusal.TheVariants.{NoPage, IsRoot, Denied, Locked, IsAlias, InModeration}
use Rattle.site_model.specs.World.{TreePart}
use Rattle.site_model.specs.Needs.{needs_of, may}
use Rattle.site_model.specs.Front.{row_of, front_rules}
use Rattle.site_model.specs.Desks.{desk_page}
use Rattle.site_model.specs.Bodies.{rebodied}
use Rattle.site_model.specs.Step.{rules, effect, step_by}
use Rattle.site_model.proofs.Sites.{with_pages}

-- the site of pages a, b and c with another body for page 2, a
abbrev with_a : (Body → Body) → TreePart
with_a change = record with_pages { tree = rebodied 2 change with_pages.tree }

-- where user 1 has locked it
abbrev locked_by_1 : TreePart
locked_by_1 = with_a (λ body. record body { locked_by = Some 1 })

-- where user 2 has
abbrev locked_by_2 : TreePart
locked_by_2 = with_a (λ body. record body { locked_by = Some 2 })

-- where it is live
abbrev a_is_live : TreePart
a_is_live = with_a (λ body. record body { live = true })

-- where it is an alias of b
abbrev a_is_alias : TreePart
a_is_alias = with_a (λ body. record body { source = Some 3 })

-- a moderation of it in progress at the task of these groups, which user 1 submitted
abbrev moderated_by : List ℕ → TreePart
moderated_by groups =
    record (with_a (λ body. record body {
      moderation = Some (record {
        workflow = 1;
        task = 1;
        status = InProgress;
        revision = 1;
        by = 1;
      });
    })) { tasks = groups ∷ []; workflows = (1 ∷ []) ∷ [] }

-- user 2, who holds change everywhere, lacks add for an alias
alias_needs_add : may with_pages 2 (commands.Alias 2 1 (codes "q")) ≡ Some 1
unfolding needs_of front_rules row_of rules effect step_by desk_page
alias_needs_add = refl

-- and for a copy
copy_needs_add : may with_pages 2 (commands.Copy 2 1 (codes "q") true) ≡ Some 1
unfolding needs_of front_rules row_of rules effect step_by desk_page
copy_needs_add = refl

-- detaching is editing
detach_is_editing : may with_pages 2 (commands.Detach 2) ≡ None
unfolding needs_of front_rules row_of rules effect step_by desk_page
detach_is_editing = refl

-- and publishing, where the page is live
detach_of_live : may a_is_live 2 (commands.Detach 2) ≡ Some 3
unfolding needs_of front_rules row_of rules effect step_by desk_page
detach_of_live = refl

-- another slug of a page above a live one wants to publish
slug_above_live : may a_is_live 2 (commands.SetSlug 2 (codes "q")) ≡ Some 3
unfolding needs_of front_rules row_of rules effect step_by desk_page
slug_above_live = refl

-- a desk is opened by an editor
open_is_editing : may with_pages 2 (commands.OpenDesk 2) ≡ None
unfolding needs_of front_rules row_of rules effect step_by desk_page
open_is_editing = refl

-- and not by a stranger
open_by_stranger : may with_pages 3 (commands.OpenDesk 2) ≡ Some 2
unfolding needs_of front_rules row_of rules effect step_by desk_page
open_by_stranger = refl

-- who has a desk needs nothing more
shut_needs_nothing : may with_pages 3 (commands.ShutDesk 2) ≡ None
unfolding needs_of front_rules row_of rules effect step_by desk_page
shut_needs_nothing = refl

-- to publish one needs to publish
publish_needs : may with_pages 2 (commands.Publish 2) ≡ Some 3
unfolding needs_of front_rules row_of rules effect step_by desk_page
publish_needs = refl

-- to unpublish too
unpublish_needs : may with_pages 2 (commands.Unpublish 2) ≡ Some 3
unfolding needs_of front_rules row_of rules effect step_by desk_page
unpublish_needs = refl

-- and to empty a schedule
unschedule_needs : may with_pages 2 (commands.Unschedule 2) ≡ Some 3
unfolding needs_of front_rules row_of rules effect step_by desk_page
unschedule_needs = refl

-- to lock
lock_needs : may with_pages 2 (commands.Lock 2) ≡ Some 5
unfolding needs_of front_rules row_of rules effect step_by desk_page
lock_needs = refl

-- to unlock what another has locked
unlock_needs : may locked_by_1 2 (commands.Unlock 2) ≡ Some 6
unfolding needs_of front_rules row_of rules effect step_by desk_page
unlock_needs = refl

-- but not what one has locked oneself
unlock_own : may locked_by_2 2 (commands.Unlock 2) ≡ None
unfolding needs_of front_rules row_of rules effect step_by desk_page
unlock_own = refl

-- an answer is for a member of a group of the task
approve_by_member : may (moderated_by (1 ∷ [])) 2 (commands.Approve 2) ≡ None
unfolding needs_of front_rules row_of rules effect step_by desk_page
approve_by_member = refl

-- and for nobody else
approve_by_other : may (moderated_by (2 ∷ [])) 2 (commands.Approve 2) ≡ Some 8
unfolding needs_of front_rules row_of rules effect step_by desk_page
approve_by_other = refl

-- where nothing is in progress the need is met, and the status refuses
approve_of_nothing : may with_pages 3 (commands.Reject 2) ≡ None
unfolding needs_of front_rules row_of rules effect step_by desk_page
approve_of_nothing = refl

-- to give up another's moderation one needs to publish
cancel_needs : may (moderated_by (1 ∷ [])) 2 (commands.Cancel 2) ≡ Some 3
unfolding needs_of front_rules row_of rules effect step_by desk_page
cancel_needs = refl

-- a moderator edits without any permission
moderator_edits : may (record (moderated_by (1 ∷ [])) { grants = [] }) 2 (commands.Purge 2) ≡ None
unfolding needs_of front_rules row_of rules effect step_by desk_page
moderator_edits = refl

-- definitions, assignments and ticks are a superuser's
task_needs : may with_pages 2 (commands.DefineTask (1 ∷ [])) ≡ Some 7
unfolding needs_of front_rules row_of rules effect step_by desk_page
task_needs = refl

-- so is an assignment
assign_needs : may with_pages 2 (commands.Assign 2 None) ≡ Some 7
unfolding needs_of front_rules row_of rules effect step_by desk_page
assign_needs = refl

-- and a tick
tick_needs : may with_pages 2 commands.Tick ≡ Some 7
unfolding needs_of front_rules row_of rules effect step_by desk_page
tick_needs = refl

-- a lock stops others
lock_stops_others : front_rules locked_by_1 2 (commands.SetSlug 2 (codes "q")) ≡ Some (Locked 1)
unfolding needs_of front_rules row_of rules effect step_by desk_page
lock_stops_others = refl

-- a superuser among them
lock_stops_superusers : front_rules locked_by_2 1 (commands.Delete 2) ≡ Some (Locked 2)
unfolding needs_of front_rules row_of rules effect step_by desk_page
lock_stops_superusers = refl

-- but not whoever has it
lock_lets_owner : front_rules locked_by_1 1 (commands.Move 2 3 LastChild) ≡ None
unfolding needs_of front_rules row_of rules effect step_by desk_page
lock_lets_owner = refl

-- except for another lock
lock_stops_lock : front_rules locked_by_1 1 (commands.Lock 2) ≡ Some (Locked 1)
unfolding needs_of front_rules row_of rules effect step_by desk_page
lock_stops_lock = refl

-- needs are tried before locks
needs_before_locks : front_rules locked_by_1 3 (commands.SetSlug 2 (codes "q")) ≡ Some (Denied 2)
unfolding needs_of front_rules row_of rules effect step_by desk_page
needs_before_locks = refl

-- an alias is not published
alias_not_published : front_rules a_is_alias 1 (commands.Publish 2) ≡ Some IsAlias
unfolding needs_of front_rules row_of rules effect step_by desk_page
alias_not_published = refl

-- but moved
alias_is_moved : front_rules a_is_alias 1 (commands.Move 2 3 LastChild) ≡ None
unfolding needs_of front_rules row_of rules effect step_by desk_page
alias_is_moved = refl

-- a moderation stops who is not asked
moderation_stops : front_rules (moderated_by (2 ∷ [])) 2 (commands.SetSlug 2 (codes "q")) ≡
    Some (InModeration 1)
unfolding needs_of front_rules row_of rules effect step_by desk_page
moderation_stops = refl

-- not who is asked
moderation_lets_members :
    front_rules (moderated_by (1 ∷ [])) 2 (commands.SetSlug 2 (codes "q")) ≡ None
unfolding needs_of front_rules row_of rules effect step_by desk_page
moderation_lets_members = refl

-- nor a superuser
moderation_lets_superusers :
    front_rules (moderated_by (2 ∷ [])) 1 (commands.SetSlug 2 (codes "q")) ≡ None
unfolding needs_of front_rules row_of rules effect step_by desk_page
moderation_lets_superusers = refl

-- but it stops everybody from submitting again
moderation_stops_submitting : front_rules (moderated_by (2 ∷ [])) 1 (commands.Submit 2) ≡
    Some (InModeration 1)
unfolding needs_of front_rules row_of rules effect step_by desk_page
moderation_stops_submitting = refl

-- the root is not published
root_not_published : front_rules with_pages 2 (commands.Publish 1) ≡ Some IsRoot
unfolding needs_of front_rules row_of rules effect step_by desk_page
root_not_published = refl

-- but may have a workflow
root_is_assigned : front_rules with_pages 1 (commands.Assign 1 None) ≡ None
unfolding needs_of front_rules row_of rules effect step_by desk_page
root_is_assigned = refl

-- the source is looked for before the parent
source_first : front_rules with_pages 1 (commands.Alias 8 9 (codes "q")) ≡ Some (NoPage 8)
unfolding needs_of front_rules row_of rules effect step_by desk_page
source_first = refl
