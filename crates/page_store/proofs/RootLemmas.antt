-- The rows of a new tree.
use Rattle.std.proofs.Common.{◌≡◌, ℕ, Bool, true, false, cond, nat_eq, List, [], ◌∷◌, Some, None, refl, ap, subst, arith}
use Rattle.std.proofs.lemmas.Bool.Decides.{nat_tests}
use Rattle.std.specs.Option.{option_map, IfSome}
use Rattle.page_tree.specs.Rows.{row_with}
use Rattle.step_path.specs.Path.{IsPath}
use Rattle.step_path.proofs.PathLemmas.{IsPathText-path_text, steps_of-path_text}
use Rattle.page_store.specs.declared.stored.StoredRow.{StoredRow}
use Rattle.page_store.specs.PageRows.{root_rows}
use Rattle.page_store.specs.Pages.{Page, ArePages}
use Rattle.page_store.specs.KidIndex.{kid_key, own_key, keys_of}
use Rattle.page_store.proofs.KidIndexLemmas.{indexed_none}
use Rattle.page_store.specs.declared.kid_index.KidIndex.{KidIndex}
use Rattle.page_store.specs.Kept.{seen, IsStored, IsKept, IsRootPage}

-- the path of the root is a path
pub root_is_path : IsPath (1 ∷ [])
root_is_path = record { some = omega arith; within = omega arith; steps = ((omega arith, omega arith), tt) }

-- the root alone is a tree of pages
root_pages : ArePages root_rows
root_pages = record {
  root = (record { id_is = refl; no_parent = refl; path_is = refl; no_slug = refl }, tt);
  ids_fit = ((omega arith, omega arith), tt);
  paths = (root_is_path, tt);
  in_order = (tt, tt);
  own_ids = (tt, tt);
  parents = (refl, tt);
  counts = (refl, tt);
  own_slugs = (tt, tt);
}

-- the root is seen as the row of a new tree
seen_root : (page : StoredRow) → IsRootPage page → seen page ∷ [] ≡ root_rows
seen_root page is = rw (
  is.id_is,
  is.no_parent,
  is.path_is,
  steps_of-path_text (1 ∷ []) root_is_path.steps,
  is.url_is,
  is.no_slug,
  is.no_kids,
  is.body_is,
) refl

-- the text of the root's path is kept with its depth
stored_root : (page : StoredRow) → IsRootPage page → IsStored page
stored_root page is = record {
  path_is = rw is.path_is (IsPathText-path_text (1 ∷ []) root_is_path);
  depth_is = rw (is.depth_is, is.path_is, steps_of-path_text (1 ∷ []) root_is_path.steps) refl;
  not_counted = is.not_counted;
}

-- the tests for the root's id
root_tests : (a id : ℕ) → a ≡ 1 → nat_eq a id ≡ nat_eq id 1
root_tests a id is = by (nat_eq a id) (nat_eq id 1) refl refl
  where
    by : (t u : Bool) → nat_eq a id ≡ t → nat_eq id 1 ≡ u → t ≡ u
    by true true e f = refl
    by true false e f = absurd (grind (arith, nat_tests))
    by false true e f = absurd (grind (arith, nat_tests))
    by false false e f = refl

-- what is kept of the root stands for the rows of a new tree
pub root_kept : (page : StoredRow) (kids : KidIndex) → IsRootPage page → kids.keys.entries ≡ [] →
    kids.clashes.items ≡ [] → IsKept ((1, page) ∷ []) (1 ∷ []) kids root_rows
root_kept page kids is no_keys no_clashes = record {
  ids = refl;
  found = λ id. subst (λ (rows : List Page). row_with id rows ≡ option_map seen (cond (nat_eq id 1)
      (Some page) None)) (seen_root page is) (rw (root_tests page.row.id id is.id_is) (by (nat_eq id
      1)));
  texts = λ id. text (nat_eq id 1);
  indexed = rw (no_keys, no_clashes) (indexed_none (keys_of ((1, page) ∷ [])) (λ id. key (nat_eq id 1)));
  are_pages = root_pages;
}
  where
    by : (t : Bool) → cond t (Some (seen page)) None ≡ option_map seen (cond t (Some page) None)
    by true = refl
    by false = refl

    text : (t : Bool) → IfSome (cond t (Some page) None) IsStored
    text true = stored_root page is
    text false = tt

    key : (t : Bool) → own_key (cond t (Some page) None) ≡ None
    key true = ap (option_map (λ parent. kid_key parent page.row.slug)) is.no_parent
    key false = refl
