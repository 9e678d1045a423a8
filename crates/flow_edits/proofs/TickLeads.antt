-- The rows that the bodies of a tick make are those of the world after it.
use Rattle.std.proofs.Common.{◌≡◌, ◌||◌, ℕ, Bool, cond, nat_eq, List, [], ◌∷◌, ◌++◌, Option, Some, sym, ap, ◌∙◌, is_some}
use Rattle.std.proofs.lemmas.List.Folds.{list_any-append}
use Rattle.std.specs.List.{AllByRecursion, list_any}
use Rattle.std.specs.Option.{option_and_then, option_map_or}
use Rattle.page_tree.specs.Tree.{HasDistinctIds}
use Rattle.page_tree.specs.Rows.{row_with, rows_of}
use Rattle.site_types.specs.declared.body.Body.{Body}
use Rattle.site_types.specs.declared.revision.Revision.{Revision}
use Rattle.site_model.specs.World as worlds
use Rattle.site_model.specs.Ticks as ticks
use Rattle.site_model.specs.Ticks.{DuePage, all_due, pages_due, each_changed, with_expired, go_lives}
use Rattle.page_store.specs.Pages.{Page, EachPair, HasOtherId}
use Rattle.flat_model.specs.Made.{with_bodies}
use Rattle.publishing.specs.Ticks.{expiring_in, going_live_in, due_expiries, due_go_lives}
use Rattle.publishing.specs.Ticked.{ticked_body, changed_bodies}
use Rattle.publishing.proofs.DueLaws.{later_is}
use Rattle.publishing.proofs.DueLemmas.{IsOwn, have_moments}
use Rattle.publishing.proofs.TickLemmas.{own_rows, own_expiry, own_go_live}
use Rattle.flow_edits.proofs.RowIds.{own_ids}
use Rattle.flow_edits.proofs.TickRows.{fields_by, bodies_rows, rows_twice, same_fields}
use Rattle.flow_edits.proofs.TickFound.{due_with, due_found, any_due, due_fields}
use Rattle.flow_edits.proofs.TickFields.{expire, ticked_as, changed_fields}

-- the pages that a tick changes
abbrev pub due_pages : List Page → List Revision → ℕ → List ℕ
due_pages rows revisions t =
    pages_due (due_expiries rows revisions t) ++ pages_due (due_go_lives rows revisions t)

-- with their fields
abbrev pub due_bodies : List Page → List Revision → ℕ → List (ℕ × Body)
due_bodies rows revisions t =
    changed_bodies (ticked_body revisions t) rows (due_pages rows revisions t)

module _ (rows : List Page) (revisions : List Revision) (t : ℕ) (ids : EachPair HasOtherId rows) where
  -- the fields of a row by a list of pages with their fields
  abbrev pub listed : ℕ → Body → Body
  listed =
      fields_by (λ (one : ℕ × Body). one.0) (λ one body. one.1) (due_bodies rows revisions t)

  -- and by what is due, one kind after the other
  abbrev pub stepped : ℕ → Body → Body
  stepped id body =
      fields_by (λ (one : DuePage). one.page) (ticks.gone_live t) (due_go_lives rows revisions t) id
      (fields_by (λ (one : DuePage). one.page) expire (due_expiries rows revisions t) id body)

  module _ (row : Page) (found : row_with row.id rows ≡ Some row) where
    -- what is due of a row that is there
    due_as : (test : Page → Option DuePage) → IsOwn test →
        due_with row.id (all_due test rows) ≡ test row
    due_as test own = due_found test own rows ids row.id ∙ ap (option_and_then test) found

    -- whether a tick changes it
    any_as : list_any (λ id. nat_eq id row.id) (due_pages rows revisions t)
        ≡ (is_some (expiring_in revisions t row) || is_some (going_live_in revisions t row))
    any_as =
        list_any-append (λ id. nat_eq id row.id) (pages_due (due_expiries rows revisions t))
        (pages_due (due_go_lives rows revisions t))
        ∙ ap (λ (b : Bool). b || list_any (λ id. nat_eq id row.id)
        (pages_due (due_go_lives rows revisions t)))
        (any_due row.id (due_expiries rows revisions t)
        ∙ ap (λ (o : Option DuePage). is_some o)
        (due_as (expiring_in revisions t) (own_expiry revisions t)))
        ∙ ap (λ (b : Bool). is_some (expiring_in revisions t row) || b)
        (any_due row.id (due_go_lives rows revisions t)
        ∙ ap (λ (o : Option DuePage). is_some o)
        (due_as (going_live_in revisions t) (own_go_live revisions t)))

    -- its fields after the first kind
    first_as : fields_by (λ (one : DuePage). one.page) expire (due_expiries rows revisions t) row.id
        row.body
        ≡ option_map_or (λ one. expire one row.body) (expiring_in revisions t row) row.body
    first_as =
        due_fields expire row.id (due_expiries rows revisions t)
        (have_moments (expiring_in revisions t) (own_expiry revisions t) rows ids).table row.body
        ∙ ap (λ (o : Option DuePage). option_map_or (λ one. expire one row.body) o row.body)
        (due_as (expiring_in revisions t) (own_expiry revisions t))

    -- and after the second
    last_as : (body : Body) →
        fields_by (λ (one : DuePage). one.page) (ticks.gone_live t) (due_go_lives rows revisions t)
        row.id body
        ≡ option_map_or (λ due. ticks.gone_live t due body) (going_live_in revisions t row) body
    last_as body =
        due_fields (ticks.gone_live t) row.id (due_go_lives rows revisions t)
        (have_moments (going_live_in revisions t) (own_go_live revisions t) rows ids).table body
        ∙ ap (λ (o : Option DuePage). option_map_or (λ due. ticks.gone_live t due body) o body)
        (due_as (going_live_in revisions t) (own_go_live revisions t))

    -- both ways its fields are the same
    row_same : listed row.id row.body ≡ stepped row.id row.body
    row_same =
        changed_fields (ticked_body revisions t) rows row found (due_pages rows revisions t) row.body
        ∙ ap (λ (b : Bool). cond b (ticked_body revisions t row.body) row.body) any_as
        ∙ sym (ap (λ (body : Body).
        fields_by (λ (one : DuePage). one.page) (ticks.gone_live t) (due_go_lives rows revisions t)
        row.id body) first_as
        ∙ last_as (option_map_or (λ one. expire one row.body) (expiring_in revisions t row) row.body)
        ∙ ticked_as revisions t row)

  -- so it is of some of the rows
  rows_same : (some : List Page) →
      AllByRecursion (λ (row : Page). row_with row.id rows ≡ Some row) some →
      AllByRecursion (λ (row : Page). listed row.id row.body ≡ stepped row.id row.body) some
  rows_same [] found = tt
  rows_same (row ∷ some) found = (row_same row found.0, rows_same some found.1)

-- the pages that a tick of a world changes, with their fields, make the rows of the tree after it
pub bodies_lead : (part : worlds.TreePart) (t : ℕ) → HasDistinctIds part.tree →
    with_bodies (due_bodies (rows_of part.tree) part.revisions t) (rows_of part.tree)
    ≡ rows_of (each_changed (ticks.gone_live t) (go_lives (with_expired part t) t)
    (with_expired part t)).tree
bodies_lead part t distinct =
    let rows = rows_of part.tree in
    let ids = own_ids part.tree distinct in
    bodies_rows (due_bodies (rows_of part.tree) part.revisions t) rows
    ∙ same_fields (listed rows part.revisions t ids) (stepped rows part.revisions t ids) rows
    (rows_same rows part.revisions t ids rows (own_rows rows ids))
    ∙ sym (rows_twice expire (ticks.gone_live t) (due_expiries rows part.revisions t)
    (due_go_lives rows part.revisions t) part distinct)
    ∙ ap (λ (later : List DuePage).
    rows_of (each_changed (ticks.gone_live t) later (with_expired part t)).tree)
    (sym (later_is part t))
