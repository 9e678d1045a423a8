-- The rows of a tree have ids of their own.
use Rattle.std.proofs.Common.{◌≡◌, ℕ, false, nat_eq, List, [], ◌∷◌, ◌++◌, map, Option, Some, None, refl, sym, ap, subst, ◌∙◌, arith}
use Rattle.std.proofs.lemmas.Bool.Decides.{nat_tests}
use Rattle.std.proofs.lemmas.List.{map-append}
use Rattle.std.specs.List.{AllByRecursion, IsDistinct}
use Rattle.page_tree.specs.Tree.{Forest, bare, grown, ids_of, HasDistinctIds}
use Rattle.page_tree.specs.Rows.{rows_below, rows_of, child_url}
use Rattle.site_types.specs.declared.body.Body.{Body}
use Rattle.page_store.specs.Pages.{Page, EachPair, HasOtherId}

-- the id of a row
abbrev id_of : Page → ℕ
id_of row = row.id

-- the ids of rows are those of their pages
rows_ids : (parent : Option ℕ) (path url : List ℕ) (f : Forest Body) →
    map id_of (rows_below parent path url f) ≡ ids_of f
rows_ids parent path url bare = refl
rows_ids parent path url (grown i s slug body kids rest) =
    ap (λ (more : List ℕ). i ∷ more)
    (map-append id_of (rows_below (Some i) (path ++ s ∷ []) (child_url url slug) kids)
    (rows_below parent path url rest)
    ∙ ap (λ (ids : List ℕ). ids ++ map id_of (rows_below parent path url rest))
    (rows_ids (Some i) (path ++ s ∷ []) (child_url url slug) kids)
    ∙ ap (λ (ids : List ℕ). ids_of kids ++ ids) (rows_ids parent path url rest))

-- rows differ where their ids do
ids_differ : (rows : List Page) → IsDistinct nat_eq (map id_of rows) → EachPair HasOtherId rows
unfolding IsDistinct
ids_differ [] distinct = tt
ids_differ (row ∷ rows) distinct = (others rows distinct.0, ids_differ rows distinct.1)
  where
    differ : (later : Page) → nat_eq row.id later.id ≡ false → HasOtherId row later
    differ later apart e = grind (arith, nat_tests)

    others : (rest : List Page) →
        AllByRecursion (λ id. nat_eq row.id id ≡ false) (map id_of rest) →
        AllByRecursion (HasOtherId row) rest
    others [] all = tt
    others (later ∷ rest) all = (differ later all.0, others rest all.1)

-- so do those of a tree
pub own_ids : (tree : Forest Body) → HasDistinctIds tree → EachPair HasOtherId (rows_of tree)
own_ids tree distinct =
    ids_differ (rows_of tree)
    (subst (IsDistinct nat_eq) (sym (rows_ids None [] [] tree)) distinct)
