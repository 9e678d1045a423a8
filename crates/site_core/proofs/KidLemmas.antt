-- The live kids of a page, found by their ids, are those whose rows are.
use Rattle.std.proofs.Common.{◌≡◌, ℕ, Bool, true, false, cond, ◌&&◌, List, [], ◌∷◌, map, take, filter, Some, refl, ap, ◌∙◌}
use Rattle.std.specs.List.{AllByRecursion}
use Rattle.std.proofs.lemmas.List.{take-map}
use Rattle.page_tree.specs.Tree.{Forest}
use Rattle.page_tree.specs.Rows.{rows_of, is_parent, kids_in, row_with}
use Rattle.page_store.specs.Pages.{Page, ArePages}
use Rattle.page_store.proofs.SeenLemmas.{found_by_own_id}
use Rattle.public_view.specs.declared.kid.TheConstants.{MAX_KIDS}
use Rattle.site_types.specs.declared.body.Body.{Body}
use Rattle.site_types.specs.declared.revision.Revision.{Revision}
use Rattle.site_model.specs.Views.{is_live}
use Rattle.site_model.specs.World.{World}
use Rattle.sight_model.specs.Cards.{kid_from, kids_shown}
use Rattle.site_core.specs.Kids.{kids_told}

module _ (tree : Forest Body) (revisions : List Revision) (pages : List Page) (page : ℕ) where
  -- whether a row is that of a live kid
  abbrev is_kid : Page → Bool
  is_kid row = is_parent page row.parent && is_live tree row.body

  -- the kids among these rows, each of which is found by its id
  kids_by_id : (rows : List Page) →
      AllByRecursion (λ (row : Page). row_with row.id pages ≡ Some row) rows →
      kids_told tree revisions pages (kids_in page rows)
      ≡ map (kid_from tree revisions) (filter is_kid rows)
  kids_by_id [] own = refl
  kids_by_id (row ∷ rows) own =
      by (is_parent page row.parent) (is_live tree row.body) refl (kids_by_id rows own.1)
    where
      by : (below live : Bool) → is_live tree row.body ≡ live →
          kids_told tree revisions pages (kids_in page rows)
          ≡ map (kid_from tree revisions) (filter is_kid rows) →
          kids_told tree revisions pages
          (map (λ (r : Page). r.id)
          (cond below (row ∷ filter (λ (r : Page). is_parent page r.parent) rows)
          (filter (λ (r : Page). is_parent page r.parent) rows)))
          ≡ map (kid_from tree revisions)
          (cond (below && live) (row ∷ filter is_kid rows) (filter is_kid rows))
      by false live is more = more
      by true true is more = rw (own.0, is) (ap (λ kids. kid_from tree revisions row ∷ kids) more)
      by true false is more = rw (own.0, is) more

  -- the first kids
  pub first_kids : (few : ℕ) → ArePages pages →
      take few (kids_told tree revisions pages (kids_in page pages))
      ≡ map (kid_from tree revisions) (take few (filter is_kid pages))
  first_kids few are =
      ap (take few) (kids_by_id pages (found_by_own_id pages are.own_ids))
      ∙ take-map (kid_from tree revisions) few (filter is_kid pages)

-- the first kids are those that a card shows
pub shown_first : (world : World) (pages : List Page) (revisions : List Revision) (page : ℕ) →
    ArePages pages → pages ≡ rows_of world.part.tree → revisions ≡ world.part.revisions →
    take MAX_KIDS (kids_told world.part.tree revisions pages (kids_in page pages))
    ≡ kids_shown world page
shown_first world pages revisions page are is same =
    first_kids world.part.tree revisions pages page MAX_KIDS are
    ∙ (ap (λ list. map (kid_from world.part.tree list) (take MAX_KIDS
    (filter (λ (row : Page). is_parent page row.parent && is_live world.part.tree row.body) pages))) same
    ∙ ap (λ rows. map (kid_from world.part.tree world.part.revisions) (take MAX_KIDS
    (filter (λ (row : Page). is_parent page row.parent && is_live world.part.tree row.body) rows))) is)
