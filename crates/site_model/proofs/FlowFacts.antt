-- What plans of moderations look at in a sound world is there.
use Rattle.std.proofs.Common.{◌≡◌, ℕ, true, false, cond, length, Option, None, Some, refl}
use Rattle.std.specs.Prelude.{IfSome}
use Rattle.std.specs.Option.{option_map, option_and_then, is_none}
use Rattle.site_types.specs.declared.body.Body.{Body}
use Rattle.site_types.specs.declared.command.Command.TheVariants.{Submit}
use Rattle.site_types.specs.declared.moderation.Moderation.{Moderation}
use Rattle.site_types.specs.declared.moderation.ModerationStatus.{ModerationStatus}
use Rattle.site_types.specs.declared.moderation.ModerationStatus.TheVariants.{InProgress, Approved, NeedsChanges, Cancelled}
use Rattle.site_model.specs.World.{TreePart}
use Rattle.site_model.specs.Rights.{rights_of, above_of}
use Rattle.site_model.specs.Views.{Stage, body_of, list_at, is_in_progress, current_task, stage_of}
use Rattle.site_model.specs.Needs.{needs_of, edit_needs}
use Rattle.site_model.specs.Front.{StopsOthers, StopsEveryone, row_of, on_page, in_moderation, stage_in, front_rules}
use Rattle.site_model.specs.Moderations.{moved_on, moderated}
use Rattle.site_model.specs.Moderating.{nearest_workflow, moderation_of, submission, after_event}
use Rattle.site_model.specs.Sound.{IsGiven, FitsModeration, IsSoundPart}
use Rattle.site_model.proofs.AcceptLemmas.{front_parts}
use Rattle.site_model.proofs.Groups.{groups_of}
use Rattle.site_model.proofs.ModerationSound.{moderation_fits}
use Rattle.site_model.proofs.SubmitSound.{nearest_given}
use Rattle.site_model.proofs.ViewLemmas.{seen, view_is}

-- In a sound world the nearest workflow of a page is there.
pub nearest_is_given : (part : TreePart) (page : ℕ) → IsSoundPart part →
    IfSome (nearest_workflow part page) (IsGiven part.next_workflow)
nearest_is_given part page sound = nearest_given part page (groups_of part sound)

-- In a sound world the moderation of a page names what is there.
pub moderation_names : (part : TreePart) (page : ℕ) → IsSoundPart part →
    IfSome (moderation_of part page)
    (FitsModeration part.revisions part.next_user part.next_workflow part.workflows page)
moderation_names part page sound = moderation_fits part page (groups_of part sound)

-- Where the first six rules do not refuse to submit a page, a moderation begins or goes on.
pub submission_has_place : (part : TreePart) (caller page : ℕ) →
    front_rules part caller (Submit page) ≡ None →
    is_none (after_event part (submission part caller page) page) ≡ false
unfolding front_rules row_of needs_of
submission_has_place part caller page front =
    let parts = front_parts part caller (on_page page StopsOthers true StopsEveryone)
    (edit_needs part caller page) front in
    by_body (body_of part.tree page) (rw (view_is part page) at parts.stage)
  where
    by_status : (moderation : Moderation) (status : ModerationStatus) (stage : Stage) →
        in_moderation StopsEveryone (rights_of part caller)
        (cond (is_in_progress status) (Some stage) None)
        ≡ None →
        is_none
        (moved_on (length (list_at part.workflows moderation.workflow))
        (submission part caller page) status moderation)
        ≡ false
    by_status moderation InProgress stage clear = absurd (cc)
    by_status moderation Approved stage clear = refl
    by_status moderation NeedsChanges stage clear = refl
    by_status moderation Cancelled stage clear = refl

    by_moderation : (moderation : Option Moderation) →
        in_moderation StopsEveryone (rights_of part caller) (stage_of part moderation) ≡ None →
        is_none (moderated part.workflows (submission part caller page) moderation) ≡ false
    by_moderation None clear = refl
    by_moderation (Some moderation) clear =
        by_status moderation moderation.status (record {
          task = current_task part moderation;
          groups = list_at part.tasks (current_task part moderation);
        }) clear

    by_body : (found : Option Body) →
        in_moderation StopsEveryone (rights_of part caller)
        (stage_in (option_map (seen part (above_of part.tree page)) found))
        ≡ None →
        is_none (moderated part.workflows (submission part caller page)
        (option_and_then (λ body. body.moderation) found))
        ≡ false
    by_body None clear = refl
    by_body (Some body) clear = by_moderation body.moderation clear
