-- Each command keeps a world sound, before its desks are looked at.
use Rattle.std.proofs.Common.{◌≡◌, ℕ, Bool, true, false, cond, ◌||◌, ◌&&◌, nat_eq, List, [], ◌∷◌, Option, Some, None, refl, sym, arith}
use Rattle.site_ids.specs.Moment.{IsMoment}
use Rattle.site_types.specs.Content.{ContentValue}
use Rattle.site_types.specs.declared.command.Command.{Command}
use Rattle.site_types.specs.declared.command.Command.TheVariants.{Create, Move, Delete, SetSlug, Alias, Detach, Copy, OpenDesk, SaveDesk, ShutDesk, File, Publish, Unpublish, Unschedule, Lock, Unlock, Purge, DefineTask, DefineWorkflow, Assign, Submit, Approve, Reject, Cancel, DefineUser, DefineGroup, Member, Grant, Tick}
use Rattle.site_types.specs.declared.permission.Permission.{Permission}
use Rattle.site_types.specs.declared.permission.Permission.TheVariants.{Add}
use Rattle.site_types.specs.declared.position.Position.{Position}
use Rattle.site_types.specs.declared.refusal.Refusal.TheVariants.{IsRoot}
use Rattle.site_types.specs.declared.reply.Reply.TheVariants.{Done}
use Rattle.tree_model.specs.Places.{is_beside}
use Rattle.tree_model.proofs.CountLemmas.{apart_by_test}
use Rattle.site_model.specs.World.{TreePart}
use Rattle.site_model.specs.Rules.{are_root}
use Rattle.site_model.specs.Needs.{needs_of, create_needs, move_needs, slug_needs, superuser_needs}
use Rattle.site_model.specs.Front.{StopsOthers, row_of, naming, on_page, on_move, front_rules}
use Rattle.site_model.specs.Desks.{desk_page}
use Rattle.site_model.specs.Step.{rules}
use Rattle.site_model.specs.Step as steps
use Rattle.site_model.specs.Sound.{AreDesks}
use Rattle.site_model.specs.Laws.{FitsCommand, FitsDesk}
use Rattle.site_model.proofs.AcceptLemmas.{front_parts, page_found}
use Rattle.site_model.proofs.AliasSound.{alias_sound}
use Rattle.site_model.proofs.ClearLemmas.{test_clear, neither}
use Rattle.site_model.proofs.CopyStepSound.{copy_sound}
use Rattle.site_model.proofs.CreationSound.{creation_keeps_sound, creation_keeps_regular}
use Rattle.site_model.proofs.Deeds.{KeepsSound, below_root, plain_keeps}
use Rattle.site_model.proofs.DeletingSound.{delete_sound}
use Rattle.site_model.proofs.DetachSound.{detach_sound}
use Rattle.site_model.proofs.DraftSound.{open_sound, shut_sound, file_sound, publish_sound, unpublish_sound, lock_sound, unlock_sound}
use Rattle.site_model.proofs.FlowSound.{task_sound, workflow_sound, assign_sound, submit_sound, approve_sound, reject_sound, cancel_sound}
use Rattle.site_model.proofs.GrantSound.{grant_keeps_sound}
use Rattle.site_model.proofs.Groups.{AreGroups}
use Rattle.site_model.proofs.MoveSound.{move_keeps_sound, move_keeps_regular}
use Rattle.site_model.proofs.PeopleSound.{user_keeps_sound, group_keeps_sound, member_keeps_sound}
use Rattle.site_model.proofs.PurgeSound.{purge_keeps_sound}
use Rattle.site_model.proofs.RegularLemmas.{same_regular, kept_stay}
use Rattle.site_model.proofs.SlugSound.{slug_keeps_sound, slug_keeps_regular}
use Rattle.site_model.proofs.TickSound.{unschedule_sound, tick_sound}
use Rattle.site_model.proofs.StrangerLemmas.{maker_is_user}

-- of a move neither the page is, nor a target that would be its sibling
move_below_root : (page target : ℕ) (beside : Bool) →
    are_root (cond beside (page ∷ target ∷ []) (page ∷ [])) ≡ None →
    (1 ≡ page → ⊥) × ((nat_eq target 1 && beside) ≡ false)
move_below_root page target true none =
    let tests = neither (nat_eq page 1) (nat_eq target 1 || false) (test_clear _ IsRoot none) in
    let last = neither (nat_eq target 1) false tests.1 in
    ((λ same. apart_by_test page 1 tests.0 (sym same)), rw (last.0) refl)
move_below_root page target false none =
    (below_root page none, no_sibling (nat_eq target 1))
  where
    no_sibling : (t : Bool) → (t && false) ≡ false
    no_sibling true = refl
    no_sibling false = refl

-- a creation
create_sound : (part : TreePart) (desk : Option ContentValue) (now caller parent : ℕ)
    (slug : List ℕ) (content : ContentValue) → AreGroups part → IsMoment now →
    FitsCommand (Create parent slug content) →
    front_rules part caller (Create parent slug content) ≡ None →
    rules part desk now caller (Create parent slug content) ≡ None →
    KeepsSound part caller (desk_page (Create parent slug content))
    (steps.effect part desk now caller (Create parent slug content))
unfolding front_rules row_of needs_of rules steps.effect desk_page
create_sound part desk now caller parent slug content sound moment fits front own =
    let parts = front_parts part caller (naming (parent ∷ []) []) (create_needs part caller parent)
    front in
    let found = page_found part.tree parent [] parts.pages in
    let user = maker_is_user part caller parent Add sound.people parts.may in
    record {
      sound = creation_keeps_sound part now caller parent slug content sound found.0 fits.0 fits.1
          moment user own;
      regular = kept_stay part.tree _
          (creation_keeps_regular part caller parent slug sound.pages found.0);
      opened = tt;
      pairs = refl;
      users = omega arith;
    }

-- a move
move_sound : (part : TreePart) (desk : Option ContentValue) (now caller page target : ℕ)
    (position : Position) → AreGroups part → IsMoment now →
    front_rules part caller (Move page target position) ≡ None →
    rules part desk now caller (Move page target position) ≡ None →
    KeepsSound part caller (desk_page (Move page target position))
    (steps.effect part desk now caller (Move page target position))
unfolding front_rules row_of needs_of rules steps.effect desk_page
move_sound part desk now caller page target position sound moment front own =
    let parts = front_parts part caller (on_move page target position)
    (move_needs part caller page target position) front in
    let found = page_found part.tree page (target ∷ []) parts.pages in
    let there = page_found part.tree target [] found.1 in
    let below = move_below_root page target (is_beside position) parts.below in
    record {
      sound = move_keeps_sound part now page target position sound moment found.0 there.0 below.0
          below.1 own;
      regular = kept_stay part.tree _
          (move_keeps_regular part.tree part.next_page page target position sound.pages found.0
          there.0 below.1 own);
      opened = tt;
      pairs = refl;
      users = omega arith;
    }

-- another slug
slug_sound : (part : TreePart) (desk : Option ContentValue) (now caller page : ℕ)
    (slug : List ℕ) → AreGroups part → IsMoment now → FitsCommand (SetSlug page slug) →
    front_rules part caller (SetSlug page slug) ≡ None →
    rules part desk now caller (SetSlug page slug) ≡ None →
    KeepsSound part caller (desk_page (SetSlug page slug))
    (steps.effect part desk now caller (SetSlug page slug))
unfolding front_rules row_of needs_of rules steps.effect desk_page
slug_sound part desk now caller page slug sound moment fits front own =
    let parts = front_parts part caller (on_page page StopsOthers false StopsOthers)
    (slug_needs part caller page) front in
    record {
      sound = slug_keeps_sound part now page slug sound moment fits (below_root page parts.below)
          own;
      regular = kept_stay part.tree _ (slug_keeps_regular part.tree page slug);
      opened = tt;
      pairs = refl;
      users = omega arith;
    }

-- a grant
grant_sound : (part : TreePart) (desk : Option ContentValue) (now caller group page : ℕ)
    (permission : Permission) (on : Bool) → AreGroups part → IsMoment now →
    front_rules part caller (Grant group page permission on) ≡ None →
    rules part desk now caller (Grant group page permission on) ≡ None →
    KeepsSound part caller (desk_page (Grant group page permission on))
    (steps.effect part desk now caller (Grant group page permission on))
unfolding front_rules row_of needs_of rules steps.effect desk_page
grant_sound part desk now caller group page permission on sound moment front own =
    let parts = front_parts part caller (naming (page ∷ []) []) (superuser_needs part caller) front
    in
    let found = page_found part.tree page [] parts.pages in
    record {
      sound = grant_keeps_sound part now group page permission on sound moment found.0 own;
      regular = same_regular part.tree;
      opened = tt;
      pairs = refl;
      users = omega arith;
    }

-- each command
pub command_sound : (part : TreePart) (desk : Option ContentValue) (now caller : ℕ)
    (command : Command) → AreGroups part → AreDesks part → IsMoment now →
    FitsCommand command → FitsDesk part caller (desk_page command) desk →
    front_rules part caller command ≡ None →
    rules part desk now caller command ≡ None →
    KeepsSound part caller (desk_page command) (steps.effect part desk now caller command)
unfolding rules steps.effect desk_page
command_sound part desk now caller (Create parent slug content) sound desks moment fits at
    front own =
    create_sound part desk now caller parent slug content sound moment fits front own
command_sound part desk now caller (Move page target position) sound desks moment fits at
    front own =
    move_sound part desk now caller page target position sound moment front own
command_sound part desk now caller (Delete page) sound desks moment fits at front own =
    delete_sound part desk now caller page sound moment front own
command_sound part desk now caller (SetSlug page slug) sound desks moment fits at front
    own =
    slug_sound part desk now caller page slug sound moment fits front own
command_sound part desk now caller (DefineUser superuser digest) sound desks moment fits at
    front own =
    plain_keeps part _ caller None _
    (user_keeps_sound part now superuser digest sound moment fits own) (same_regular part.tree)
    refl (omega arith)
command_sound part desk now caller DefineGroup sound desks moment fits at front own =
    plain_keeps part _ caller None _ (group_keeps_sound part now sound moment own)
    (same_regular part.tree) refl (omega arith)
command_sound part desk now caller (Member user group on) sound desks moment fits at front
    own =
    plain_keeps part _ caller None _ (member_keeps_sound part now user group on sound moment own)
    (same_regular part.tree) refl (omega arith)
command_sound part desk now caller (Grant group page permission on) sound desks moment fits at
    front own =
    grant_sound part desk now caller group page permission on sound moment front own
command_sound part desk now caller (OpenDesk page) sound desks moment fits at front
    own =
    open_sound part desk now caller page sound moment front own
command_sound part desk now caller (SaveDesk page content) sound desks moment fits at front
    own =
    plain_keeps part part caller (Some page) Done sound (same_regular part.tree) refl (omega arith)
command_sound part desk now caller (ShutDesk page) sound desks moment fits at front
    own =
    shut_sound part now caller page sound moment
command_sound part desk now caller (File page go_live expire) sound desks moment fits at front
    own =
    file_sound part desk now caller page go_live expire sound desks moment fits at own
command_sound part desk now caller (Publish page) sound desks moment fits at front own =
    publish_sound part desk now caller page sound moment front
command_sound part desk now caller (Unpublish page) sound desks moment fits at front
    own =
    unpublish_sound part desk now caller page sound moment front
command_sound part desk now caller (Lock page) sound desks moment fits at front own =
    lock_sound part desk now caller page sound moment front own
command_sound part desk now caller (Unlock page) sound desks moment fits at front own =
    unlock_sound part desk now caller page sound moment front
command_sound part desk now caller (Purge page) sound desks moment fits at front own =
    plain_keeps part _ caller None _ (purge_keeps_sound part now page sound moment)
    (same_regular part.tree) refl (omega arith)
command_sound part desk now caller (Alias source parent slug) sound desks moment fits at front
    own =
    alias_sound part desk now caller source parent slug sound moment fits front own
command_sound part desk now caller (Detach page) sound desks moment fits at front own =
    detach_sound part desk now caller page sound moment front own
command_sound part desk now caller (Copy page parent slug deep) sound desks moment fits at front
    own =
    copy_sound part desk now caller page parent slug deep sound moment fits front own
command_sound part desk now caller (Unschedule page) sound desks moment fits at front own =
    unschedule_sound part desk now caller page sound moment front
command_sound part desk now caller Tick sound desks moment fits at front own =
    tick_sound part desk now caller sound moment
command_sound part desk now caller (DefineTask groups) sound desks moment fits at front own =
    task_sound part desk now caller groups sound moment fits own
command_sound part desk now caller (DefineWorkflow tasks) sound desks moment fits at front own =
    workflow_sound part desk now caller tasks sound moment fits own
command_sound part desk now caller (Assign page workflow) sound desks moment fits at front own =
    assign_sound part desk now caller page workflow sound moment own
command_sound part desk now caller (Submit page) sound desks moment fits at front own =
    submit_sound part desk now caller page sound moment front own
command_sound part desk now caller (Approve page) sound desks moment fits at front own =
    approve_sound part desk now caller page sound moment front
command_sound part desk now caller (Reject page) sound desks moment fits at front own =
    reject_sound part desk now caller page sound moment front
command_sound part desk now caller (Cancel page) sound desks moment fits at front own =
    cancel_sound part desk now caller page sound moment front
