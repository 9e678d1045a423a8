-- A copy that is asked for: what it copies is there, and what is tested of ids and contents.
use Rattle.std.proofs.Common.{◌≡◌, ◌≤◌, ◌+◌, ◌-◌, ℕ, Bool, true, List, length, ap, ◌∙◌, arith}
use Rattle.page_tree.specs.Tree.{node_of, has_page}
use Rattle.site_types.specs.Content.{ContentValue}
use Rattle.site_types.specs.declared.command.Command.TheVariants.{Copy}
use Rattle.revision_shelf.specs.Shelf.{total_weight}
use Rattle.site_model.specs.World as worlds
use Rattle.site_model.specs.Copies.{to_copy}
use Rattle.site_model.specs.Limits.{MAX_CONTENTS, contents_length}
use Rattle.site_part.specs.declared.part.TreePart.{TreePart}
use Rattle.page_copies.specs.Contents.{StandFor}
use Rattle.page_copies.specs.Copied.{IsSource as IsCopied, copied_pages}
use Rattle.page_copies.proofs.CopiedRows.{pages_count}
use Rattle.new_pages.specs.Copying.{IsSource}
use Rattle.new_pages.specs.Plans.{IsAsked, IsBelowRoot}
use Rattle.new_pages.specs.declared.source.Source.{Source}
use Rattle.new_pages.proofs.CommandLemmas.{copy_names}
use Rattle.new_pages.proofs.CopyRefusals.{size_is}
use Rattle.new_pages.proofs.CreationRules.{weights_are}

module _ (kept : TreePart) (part : worlds.TreePart) (caller page parent : ℕ) (slug : List ℕ)
    (deep : Bool) (asked : IsAsked kept part caller (Copy page parent slug deep)) where
  -- the page is there and is not the root, and the parent is there
  pub copy_there : IsBelowRoot part.tree page × (has_page parent part.tree ≡ true)
  copy_there = copy_names part caller page parent slug deep asked.front

  -- what is in memory has what the copy copies
  pub copy_stands : StandFor kept.rows.pages kept.shelf.revisions part
  copy_stands =
      record { rows_are = asked.ready.stands.pages; shelf_is = asked.ready.stands.revisions }

  pub copy_source : IsCopied part page
  copy_source = record {
    bodies = asked.ready.reached.sound.bodies;
    there = copy_there.0.0;
    below = copy_there.0.1;
  }

  -- so many contents come as pages are copied
  pub contents_counted : (source : Source) → IsSource kept.rows.pages part.tree page deep source →
      (plan : List (ℕ × ContentValue)) →
      plan ≡ copied_pages part (to_copy deep (node_of page part.tree)) →
      length plan ≤ source.rest + 1
  contents_counted source is plan plan_is =
      let same = ap length plan_is in
      let count = pages_count part (to_copy deep (node_of page part.tree)) in
      let size = size_is kept.rows.pages part.tree page deep source is in
      omega (arith, same, count, size)

  -- the weight of the shelf is the length of all contents, which has room
  pub weight_is : (weight : ℕ) → weight ≡ total_weight kept.shelf.revisions →
      weight ≡ contents_length part.revisions
  weight_is weight is =
      is ∙ (weights_are kept.shelf.revisions ∙ ap contents_length asked.ready.stands.revisions)

  pub weight_fits : (weight : ℕ) → weight ≡ total_weight kept.shelf.revisions →
      weight ≤ MAX_CONTENTS
  weight_fits weight is =
      let same = weight_is weight is in
      let fit = asked.ready.reached.sound.revisions.contents_fit in
      omega (arith, same, fit)

  -- what is left beside it is the room
  pub room_is : (weight : ℕ) → weight ≡ total_weight kept.shelf.revisions →
      (MAX_CONTENTS - weight) + contents_length part.revisions ≡ MAX_CONTENTS
  room_is weight is =
      let same = weight_is weight is in
      let fit = asked.ready.reached.sound.revisions.contents_fit in
      omega (arith, same, fit)
