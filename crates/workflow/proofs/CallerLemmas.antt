-- What a sound world gives to those who define tasks and look moderations up.
use Rattle.std.proofs.Common.{◌≡◌, ◌≤◌, ◌+◌, ℕ, List, length, sym, subst}
use Rattle.site_ids.specs.declared.ids.TheConstants.{LAST_GROUP_ID}
use Rattle.site_types.specs.declared.moderation.Moderation.{Moderation}
use Rattle.site_model.specs.World.{TreePart}
use Rattle.site_model.specs.Sound.{IsGiven, NamesSome, NumbersRise, FitsModeration}
use Rattle.workflow.specs.Flows.{FlowLists, FlowsStandFor, IsCounted, IsTask}
use Rattle.workflow.proofs.FlowLemmas.{still_given}

-- a list of 1 to 16 groups that are there, rising, may be a task's
pub is_task : (next : ℕ) (groups : List ℕ) → next ≤ LAST_GROUP_ID + 1 → NamesSome next groups →
    NumbersRise 0 groups → IsTask groups
is_task next groups within names rise =
    record {
      named =
          record {
            not_empty = names.not_empty;
            fits = names.fits;
            there = still_given next (LAST_GROUP_ID + 1) groups within names.there;
          };
      rise = rise;
    }

-- a moderation that fits a world counts a task of what stands for it
pub is_counted : (kept : FlowLists) (part : TreePart) (page : ℕ) (moderation : Moderation) →
    FlowsStandFor kept part → part.next_workflow ≡ length part.workflows + 1 →
    FitsModeration part.revisions part.next_user part.next_workflow part.workflows page moderation →
    IsCounted kept.workflows moderation
is_counted kept part page moderation stand next fits =
    subst (λ lists. IsCounted lists moderation) (sym stand.workflows)
    record {
      workflow = subst (λ id. IsGiven id moderation.workflow) next fits.workflow;
      task_counted = fits.task_counted;
      task_within = fits.task_within;
    }
