-- Another slug for a page: its own rules, in their order, and its effect.
use Rattle.std.specs.Prelude.{ℕ, List, [], ◌∷◌, bytes_eq, Option, Some, if◌then◌else◌}
use Rattle.page_tree.specs.Tree.{Forest, without}
use Rattle.page_tree.specs.Rows.{rows_of}
use Rattle.site_types.specs.declared.body.Body.{Body}
use Rattle.site_types.specs.declared.refusal.Refusal.{Refusal}
use Rattle.site_types.specs.declared.refusal.Refusal.TheVariants.{NothingNew}
use Rattle.tree_model.specs.Places.{parent_in, slug_in}
use Rattle.tree_model.specs.Renames.{renamed}
use Rattle.site_model.specs.World.{TreePart, Deed, time_at}
use Rattle.site_model.specs.Rules.{first_of, slug_taken, url_too_long}
use Rattle.site_model.specs.Create.{page_reply, plain_deed}

-- what the effect of another slug refuses
abbrev pub effect_refusal : Forest Body → ℕ → List ℕ → Option Refusal
effect_refusal tree page slug =
    first_of
    (slug_taken (without page tree) (parent_in tree page) slug
    ∷ url_too_long (rows_of (renamed page slug tree))
    ∷ [])

-- the rules of another slug
abbrev pub slug_rules : Forest Body → ℕ → List ℕ → Option Refusal
slug_rules tree page slug =
    if bytes_eq (slug_in tree page) slug
    then Some NothingNew
    else effect_refusal tree page slug

-- the world with another slug for the page
abbrev pub with_slug : TreePart → ℕ → ℕ → List ℕ → TreePart
with_slug part now page slug =
    record part { time = time_at part now; tree = renamed page slug part.tree }

-- what another slug does
abbrev pub set_slug : TreePart → ℕ → ℕ → List ℕ → Deed
set_slug part now page slug =
    let after = with_slug part now page slug in
    plain_deed after (page_reply page after.tree)
