-- Which URLs differ where a page gets another slug: its own and those of all below it.
use Rattle.std.proofs.Common.{◌≡◌, ◌+◌, ◌≤◌, inl, inr, ℕ, Bool, true, false, cond, List, [], ◌∷◌, ◌++◌, Option, Some, is_some, filter, nat_eq, refl, sym, ap, ◌∙◌, arith}
use Rattle.std.specs.List.{AllByRecursion}
use Rattle.std.specs.Option.{option_map, option_map_or}
use Rattle.std.proofs.lemmas.List.{append-nil}
use Rattle.page_tree.specs.Tree.{Forest, bare, grown, node_of, or_else}
use Rattle.page_tree.specs.Walk.{kid_count}
use Rattle.page_tree.specs.Rows.{Row, child_url, rows_below, row_with}
use Rattle.page_tree.proofs.RowLemmas.{find-append}
use Rattle.tree_rows.proofs.Lists.{all_parts}
use Rattle.tree_model.specs.Changes.{url_in}
use Rattle.tree_model.specs.Renames.{renamed}
use Rattle.tree_model.proofs.CountLemmas.{one, count, none_or_some, not_first, node_absent, or_bare}
use Rattle.slug_urls.proofs.Grafts.{no_row, some_row, skip_front, skip_behind, same_behind}
use Rattle.slug_urls.proofs.Pairs.{differs, HasOwn, pairs_below}

module _ {Body : Type 0} where
  -- another slug for a page that is not there changes nothing
  pub renamed_absent : (j : ℕ) (slug : List ℕ) (f : Forest Body) → count j f ≡ 0 →
      renamed j slug f ≡ f
  renamed_absent j slug bare none = refl
  renamed_absent j slug (grown i s own body kids rest) none =
      let differ = not_first j i (count j kids + count j rest) none in
      let below = renamed_absent j slug kids (omega arith) in
      let behind = renamed_absent j slug rest (omega arith) in
      rw (differ, below, behind) refl

  -- the URL of the page above, as the rows tell it
  abbrev pub url_up : List (Row Body) → Option ℕ → List ℕ
  url_up before parent = option_map_or (λ id. url_in id before) parent []

  module _ (before : List (Row Body)) (j : ℕ) (slug : List ℕ) where
    -- Of a tree where a page has another slug, only that page and those below it differ, where all
    -- pages of the tree have their own URLs.
    pub renamed_differs : (q : Option ℕ) (path url : List ℕ) (f : Forest Body) (top : Row Body) →
        count j f ≤ 1 → row_with j (rows_below q path url f) ≡ Some top → url_up before q ≡ url →
        AllByRecursion (HasOwn before) (pairs_below url f) →
        filter (differs before) (pairs_below url (renamed j slug f))
        ≡ filter (differs before)
        (pairs_below (url_up before top.parent) (renamed j slug (node_of j f)))
    renamed_differs q path url bare top once found up own = absurd cc
    renamed_differs q path url (grown i s o b kids rest) top once found up own =
        let parts = all_parts (HasOwn before) (pairs_below (child_url url o) kids) (pairs_below url
        rest)
        own.1 in
        let both = find-append (λ (row : Row Body). nat_eq row.id j)
        (rows_below (Some i) (path ++ s ∷ []) (child_url url o) kids) (rows_below q path url rest)
        in
        choice (nat_eq i j) refl once parts.0 parts.1 (rw both at found)
        (λ few is. renamed_differs (Some i) (path
        ++ s ∷ []) (child_url url o) kids top few is own.0 parts.0)
        (λ few is. renamed_differs q path url rest top few is up parts.1)
      where
        choice : (t : Bool) → nat_eq i j ≡ t → one t + (count j kids + count j rest) ≤ 1 →
            AllByRecursion (HasOwn before) (pairs_below (child_url url o) kids) →
            AllByRecursion (HasOwn before) (pairs_below url rest) →
            cond t (Some (record {
              id = i;
              parent = q;
              path = path ++ s ∷ [];
              url = child_url url o;
              slug = o;
              numchild = kid_count kids;
              body = b;
            }))
            (cond (is_some (row_with j (rows_below (Some i) (path
            ++ s ∷ []) (child_url url o) kids)))
            (row_with j (rows_below (Some i) (path ++ s ∷ []) (child_url url o) kids))
            (row_with j (rows_below q path url rest))) ≡ Some top →
            (count j kids ≤ 1 →
            row_with j (rows_below (Some i) (path ++ s ∷ []) (child_url url o) kids) ≡ Some top →
            filter (differs before) (pairs_below (child_url url o) (renamed j slug kids))
            ≡ filter (differs before)
            (pairs_below (url_up before top.parent) (renamed j slug (node_of j kids)))) →
            (count j rest ≤ 1 → row_with j (rows_below q path url rest) ≡ Some top →
            filter (differs before) (pairs_below url (renamed j slug rest))
            ≡ filter (differs before)
            (pairs_below (url_up before top.parent) (renamed j slug (node_of j rest)))) →
            filter (differs before) (pairs_below url (cond t
            (grown i s slug b kids rest)
            (grown i s o b (renamed j slug kids) (renamed j slug rest))))
            ≡ filter (differs before) (pairs_below (url_up before top.parent)
            (renamed j slug (cond t (grown i s o b kids bare)
            (or_else (node_of j kids) (node_of j rest)))))
        choice true at few kids_own rest_own is in_kids in_rest =
            let parent_is : Some q ≡ Some top.parent =
            ap (λ (r : Option (Row Body)). option_map (λ (row : Row Body). row.parent) r) is in
            let same : q ≡ top.parent = cc in
            let url_is : url ≡ url_up before top.parent = sym up ∙ ap (url_up before) same in
            let alone : renamed j slug (grown i s o b kids bare) ≡ grown i s slug b kids bare =
            rw at refl in
            same_behind before (i, child_url url slug)
            (pairs_below (child_url url slug) kids ++ pairs_below url rest)
            (pairs_below (child_url url slug) kids ++ [])
            (skip_behind before (pairs_below (child_url url slug) kids) (pairs_below url rest)
            rest_own
            ∙ ap (filter (differs before)) (sym (append-nil (pairs_below (child_url url slug)
            kids))))
            ∙ (ap (λ u. filter (differs before) (pairs_below u (grown i s slug b kids bare))) url_is
            ∙ ap (λ f. filter (differs before) (pairs_below (url_up before top.parent) f)) (sym
            alone))
        choice false at few kids_own rest_own is in_kids in_rest =
            elim (none_or_some (count j kids)) [
              | inl none ↦
                  let missing = no_row j (Some i) (path ++ s ∷ []) (child_url url o) kids none in
                  ap (λ f. filter (differs before) ((i, child_url url o)
                  ∷ (pairs_below (child_url url o) f ++ pairs_below url (renamed j slug rest))))
                  (renamed_absent j slug kids none)
                  ∙ (skip_front before ((i, child_url url o) ∷ pairs_below (child_url url o) kids)
                  (pairs_below url (renamed j slug rest)) (own.0, kids_own)
                  ∙ (in_rest (omega arith) (rw missing at is)
                  ∙ ap (λ f. filter (differs before) (pairs_below (url_up before top.parent)
                  (renamed j slug (or_else f (node_of j rest))))) (sym (node_absent j kids none))))
              | inr some ↦
                  let there = some_row j (Some i) (path ++ s ∷ []) (child_url url o) kids some in
                  let none : count j rest ≡ 0 = omega arith in
                  let node_is : node_of j kids ≡ or_else (node_of j kids) (node_of j rest) =
                  sym (ap (λ f. or_else (node_of j kids) f) (node_absent j rest none)
                  ∙ or_bare (node_of j kids)) in
                  ap (λ f. filter (differs before) ((i, child_url url o)
                  ∷ (pairs_below (child_url url o) (renamed j slug kids) ++ pairs_below url f)))
                  (renamed_absent j slug rest none)
                  ∙ (skip_front before ((i, child_url url o) ∷ [])
                  (pairs_below (child_url url o) (renamed j slug kids) ++ pairs_below url rest)
                  (own.0, tt)
                  ∙ (skip_behind before (pairs_below (child_url url o) (renamed j slug kids))
                  (pairs_below url rest) rest_own
                  ∙ (in_kids (omega arith) (rw there at is)
                  ∙ ap (λ f. filter (differs before) (pairs_below (url_up before top.parent)
                  (renamed j slug f))) node_is)))
            ]
