-- Whom the current task of a moderation asks.
use Rattle.std.proofs.Common.{◌≡◌, ℕ, Bool, List, Option, None, Some, refl, ap, ◌∙◌}
use Rattle.std.specs.List.{list_any}
use Rattle.site_types.specs.declared.moderation.Moderation.{Moderation}
use Rattle.site_model.specs.World.{TreePart}
use Rattle.site_model.specs.Rights.{has_group, groups_of, rights_of}
use Rattle.site_model.specs.Views.{Stage, stage_of, moderates}
use Rattle.workflow.specs.Stages.{groups_asked}
use Rattle.grants.proofs.GroupLemmas.{none_any}

module _ (part : TreePart) (user : ℕ) (moderation : Moderation) (groups : List ℕ)
    (result : Bool) (are : groups ≡ groups_asked (stage_of part (Some moderation)))
    (is : result ≡ list_any (λ own. has_group groups own) (groups_of part.members user)) where
  -- one of the groups that are asked is the user's
  asked : result
      ≡ list_any (λ own. has_group (groups_asked (stage_of part (Some moderation))) own)
      (groups_of part.members user)
  asked =
      is ∙ ap (λ gs. list_any (λ own. has_group gs own) (groups_of part.members user)) are

  -- so the user moderates the page
  pub moderates_if : result ≡ moderates (rights_of part user) (stage_of part (Some moderation))
  moderates_if = asked ∙ by (stage_of part (Some moderation))
    where
      by : (stage : Option Stage) →
          list_any (λ own. has_group (groups_asked stage) own) (groups_of part.members user)
          ≡ moderates (rights_of part user) stage
      by None = none_any (groups_of part.members user)
      by (Some stage) = refl
