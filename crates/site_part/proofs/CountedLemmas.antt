-- The moderation of a page in memory counts a task that is there.
use Rattle.std.proofs.Common.{◌≡◌, ℕ, Option, None, Some, ap, subst}
use Rattle.std.specs.Prelude.{IfSome, option_and_then}
use Rattle.site_types.specs.declared.body.Body.{Body}
use Rattle.site_types.specs.declared.moderation.Moderation.{Moderation}
use Rattle.site_model.specs.World as worlds
use Rattle.site_model.specs.Views.{body_of}
use Rattle.site_model.specs.Sound.{FitsModeration}
use Rattle.site_model.proofs.FlowFacts.{moderation_names}
use Rattle.workflow.specs.Flows.{IsCounted}
use Rattle.workflow.proofs.CallerLemmas.{is_counted}
use Rattle.site_part.specs.Standing.{IsReady}
use Rattle.site_part.specs.declared.part.TreePart.{TreePart}

-- what is kept of a page that has a moderation counts a task of a workflow that is kept
pub page_counted : (kept : TreePart) (part : worlds.TreePart) (page : ℕ) (body : Body) →
    IsReady kept part → body_of part.tree page ≡ Some body →
    IfSome body.moderation (IsCounted kept.flows.workflows)
page_counted kept part page body ready found =
    by body.moderation
    (subst (λ (moderation : Option Moderation). IfSome moderation
    (FitsModeration part.revisions part.next_user part.next_workflow part.workflows page))
    (ap (option_and_then (λ (one : Body). one.moderation)) found)
    (moderation_names part page ready.reached.sound))
  where
    by : (moderation : Option Moderation) →
        IfSome moderation
        (FitsModeration part.revisions part.next_user part.next_workflow part.workflows page) →
        IfSome moderation (IsCounted kept.flows.workflows)
    by None fits = tt
    by (Some moderation) fits =
        is_counted kept.flows part page moderation ready.stands.flows
        ready.reached.sound.tasks.workflows_numbered fits
