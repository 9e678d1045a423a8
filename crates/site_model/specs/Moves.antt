-- Moves of pages: their own rules, in their order, and their effect (django-treebeard,
-- MP_Node.move).
use Rattle.std.specs.Prelude.{ℕ, [], ◌∷◌, Option, Some, if◌then◌else◌}
use Rattle.page_tree.specs.Tree.{Forest, without}
use Rattle.page_tree.specs.Rows.{rows_of}
use Rattle.site_types.specs.declared.body.Body.{Body}
use Rattle.site_types.specs.declared.position.Position.{Position}
use Rattle.site_types.specs.declared.refusal.Refusal.{Refusal}
use Rattle.site_types.specs.declared.refusal.Refusal.TheVariants.{IntoItself, NothingNew}
use Rattle.tree_model.specs.Places.{stays_put, parent_at, slug_in, moved_to, leads_into_itself}
use Rattle.site_model.specs.World.{TreePart, Deed, time_at}
use Rattle.site_model.specs.Rules.{refused_if, first_of, slug_taken, steps_full, too_deep, url_too_long}
use Rattle.site_model.specs.Create.{page_reply, plain_deed}

-- the target lies below the page, or is the page at a position below it
abbrev pub into_itself : Forest Body → ℕ → ℕ → Position → Option Refusal
into_itself tree page target position =
    refused_if (leads_into_itself tree page target position) IntoItself

-- what the effect of a move refuses
abbrev pub effect_refusal : Forest Body → ℕ → ℕ → Position → Option Refusal
effect_refusal tree page target position =
    let rows = rows_of (moved_to tree page target position) in
    first_of
    (slug_taken (without page tree) (parent_at tree target position) (slug_in tree page)
    ∷ steps_full rows
    ∷ too_deep rows
    ∷ url_too_long rows
    ∷ [])

-- the rules of a move
abbrev pub move_rules : Forest Body → ℕ → ℕ → Position → Option Refusal
move_rules tree page target position =
    first_of
    (into_itself tree page target position
    ∷ (if stays_put page target position
    then Some NothingNew
    else effect_refusal tree page target position)
    ∷ [])

-- the world with the page moved
abbrev pub with_move : TreePart → ℕ → ℕ → ℕ → Position → TreePart
with_move part now page target position =
    record part {
      time = time_at part now;
      tree = moved_to part.tree page target position;
    }

-- what a move does
abbrev pub move : TreePart → ℕ → ℕ → ℕ → Position → Deed
move part now page target position =
    let after = with_move part now page target position in
    plain_deed after (page_reply page after.tree)
