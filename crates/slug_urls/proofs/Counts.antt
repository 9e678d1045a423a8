-- How often an id stands among pages, from what the rows of a store say.
use Rattle.std.proofs.Common.{◌≡◌, ◌+◌, ◌≤◌, inl, inr, ℕ, Bool, true, false, cond, List, [], ◌∷◌, ◌++◌, Option, Some, None, IsSome, is_some, nat_eq, refl, sym, ap, ◌∙◌, subst, arith}
use Rattle.std.specs.List.{AllByRecursion}
use Rattle.std.specs.Option.{IfSome}
use Rattle.std.specs.Str.{bytes_eq}
use Rattle.page_tree.specs.Tree.{Forest, bare, grown, has_page, kid_with_slug, kids_of, node_of, or_else}
use Rattle.page_tree.specs.Rows.{child_url, rows_below, rows_of, row_with}
use Rattle.page_tree.proofs.RowLemmas.{has_page-rows}
use Rattle.site_types.specs.declared.body.Body.{Body}
use Rattle.page_store.specs.Pages.{Page, ArePages, EachPair, HasOtherSlug}
use Rattle.page_store.specs.Search.{begins}
use Rattle.page_store.proofs.AllLemmas.{All-both, All-weaker}
use Rattle.page_store.proofs.InsertLemmas.{same_bytes}
use Rattle.page_store.proofs.PathOrder.{begins-self, begins-BeginsWith}
use Rattle.page_store.proofs.SeenLemmas.{found_by_own_id}
use Rattle.tree_rows.proofs.Apart.{Lacks, AreApart, has_page-lacks, lacks_after}
use Rattle.tree_rows.proofs.Lists.{all_parts, EachPair-parts}
use Rattle.tree_rows.proofs.SiteTree.{AllIds-rows, apart_tree}
use Rattle.tree_rows.proofs.SubtreeLemmas.{found_block, rows_begin}
use Rattle.tree_model.specs.Shape.{SlugsDiffer}
use Rattle.tree_model.proofs.CountLemmas.{one, count, none_or_some, not_first, told_apart, apart_by_test, id_found, counts_has, none_counts, node_absent}

module _ {Body : Type 0} where
  -- a page that stands nowhere is none of these
  pub lacks_from_count : (j : ℕ) (f : Forest Body) → count j f ≡ 0 → Lacks j f
  lacks_from_count j bare none = tt
  lacks_from_count j (grown i s slug body kids rest) none = (
    apart_by_test i j (not_first j i (count j kids + count j rest) none),
    lacks_from_count j kids (omega arith),
    lacks_from_count j rest (omega arith),
  )

  -- and what is none of these stands nowhere
  pub count_from_lacks : (j : ℕ) (f : Forest Body) → Lacks j f → count j f ≡ 0
  count_from_lacks j f lacks = none_counts j f (has_page-lacks j f lacks)

  -- ids that are apart stand once at most
  pub once_from_apart : (j : ℕ) (f : Forest Body) → AreApart f → count j f ≤ 1
  once_from_apart j bare apart = omega arith
  once_from_apart j (grown i s slug body kids rest) apart =
      choice (nat_eq i j) refl (once_from_apart j kids apart.1) (once_from_apart j rest apart.2)
    where
      choice : (t : Bool) → nat_eq i j ≡ t → count j kids ≤ 1 → count j rest ≤ 1 →
          one t + (count j kids + count j rest) ≤ 1
      choice true is below behind =
          let same = id_found i j is in
          let none = count_from_lacks j kids (subst (λ k. Lacks k kids) same apart.0.0) in
          let after = count_from_lacks j rest (subst (λ k. Lacks k rest) same apart.0.1) in
          omega (arith, none, after)
      choice false is below behind = elim (none_or_some (count j kids)) [
        | inl none ↦ omega arith
        | inr some ↦
            let after = count_from_lacks j rest
            (lacks_after j i kids rest apart.0.2 (counts_has j kids some)) in
            omega (arith, after)
      ]

  -- an id stands among the kids of a page as often as among all pages at most
  pub count-kids_of : (j p : ℕ) (f : Forest Body) → count j (kids_of p f) ≤ count j f
  count-kids_of j p bare = omega arith
  count-kids_of j p (grown i s slug body kids rest) =
      choice (nat_eq i p) (kids_of p kids) (count-kids_of j p kids) (count-kids_of j p rest)
    where
      choice : (t : Bool) (below : Forest Body) → count j below ≤ count j kids →
          count j (kids_of p rest) ≤ count j rest →
          count j (cond t kids (or_else below (kids_of p rest)))
          ≤ one (nat_eq i j) + (count j kids + count j rest)
      choice true below few more = omega arith
      choice false bare few more = omega arith
      choice false (grown k t own b inner later) few more = omega arith

  -- the slugs of a page's kids differ
  pub SlugsDiffer-kids_of : (p : ℕ) (f : Forest Body) → SlugsDiffer f → SlugsDiffer (kids_of p f)
  SlugsDiffer-kids_of p bare differ = tt
  SlugsDiffer-kids_of p (grown i s slug body kids rest) differ =
      choice (nat_eq i p) (kids_of p kids) (SlugsDiffer-kids_of p kids differ.1)
      (SlugsDiffer-kids_of p rest differ.2)
    where
      choice : (t : Bool) (below : Forest Body) → SlugsDiffer below →
          SlugsDiffer (kids_of p rest) → SlugsDiffer (cond t kids (or_else below (kids_of p rest)))
      choice true below few more = differ.1
      choice false bare few more = more
      choice false (grown k t own b inner later) few more = few

-- no sibling has a slug that no row of a sibling has
free_from_rows : (slug : List ℕ) (q : Option ℕ) (path url : List ℕ) (f : Forest Body) →
    AllByRecursion (λ (row : Page). row.parent ≡ q → row.slug ≡ slug → ⊥)
    (rows_below q path url f) → kid_with_slug slug f ≡ None
free_from_rows slug q path url bare all = refl
free_from_rows slug q path url (grown i s own body kids rest) all =
    let parts = all_parts (λ (row : Page). row.parent ≡ q → row.slug ≡ slug → ⊥)
    (rows_below (Some i) (path ++ s ∷ []) (child_url url own) kids) (rows_below q path url rest)
    all.1 in
    by (bytes_eq own slug) refl (free_from_rows slug q path url rest parts.1)
  where
    by : (t : Bool) → bytes_eq own slug ≡ t → kid_with_slug slug rest ≡ None →
        cond t (Some i) (kid_with_slug slug rest) ≡ None
    by true e more = absurd (all.0 refl (same_bytes own slug e))
    by false e more = more

-- the slugs of siblings differ where those of their rows do
differ_from_rows : (q : Option ℕ) (path url : List ℕ) (f : Forest Body) →
    EachPair HasOtherSlug (rows_below q path url f) → SlugsDiffer f
differ_from_rows q path url bare others = tt
differ_from_rows q path url (grown i s own body kids rest) others =
    let heads = all_parts _ (rows_below (Some i) (path ++ s ∷ []) (child_url url own) kids)
    (rows_below q path url rest) others.0 in
    let parts = EachPair-parts HasOtherSlug
    (rows_below (Some i) (path ++ s ∷ []) (child_url url own) kids) (rows_below q path url rest)
    others.1 in (
      free_from_rows own q path url rest heads.1,
      differ_from_rows (Some i) (path ++ s ∷ []) (child_url url own) kids parts.0,
      differ_from_rows q path url rest parts.1,
    )

-- a row that begins with the path of another one is not that of a page whose row does not
not_outside : (pages rows : List Page) (path : List ℕ) (p : ℕ) (top : Page) →
    row_with p pages ≡ Some top → begins path top.path ≡ false →
    AllByRecursion (λ (row : Page). row_with row.id pages ≡ Some row) rows →
    AllByRecursion (λ (row : Page). begins path row.path ≡ true) rows →
    AllByRecursion (λ (row : Page). row.id ≡ p → ⊥) rows
not_outside pages rows path p top found outside own below =
    All-both (λ (row : Page). row_with row.id pages ≡ Some row)
    (λ (row : Page). begins path row.path ≡ true) (λ (row : Page). row.id ≡ p → ⊥)
    (λ row is begin same.
    let both : Some top ≡ Some row =
    sym found ∙ (ap (λ id. row_with id pages) (sym same) ∙ is) in
    let equal : top ≡ row = cc in
    let begin_top : begins path top.path ≡ true =
    ap (λ (r : Page). begins path r.path) equal ∙ begin in
    cc) rows own below

module _ (tree : Forest Body) (are : ArePages (rows_of tree)) where
  -- no id stands twice in a tree whose rows are those of a store
  pub stands_once : (j : ℕ) → count j tree ≤ 1
  stands_once j = once_from_apart j tree (apart_tree tree are)

  -- and the slugs of siblings differ there
  pub slugs_differ : SlugsDiffer tree
  slugs_differ = differ_from_rows None [] [] tree are.own_slugs

  -- a page whose row does not begin with the path of another page is not below that page
  pub not_below : (page parent : ℕ) → IsSome (row_with parent (rows_of tree)) →
      IfSome (row_with page (rows_of tree)) (λ row. IfSome (row_with parent (rows_of tree))
      (λ top. begins row.path top.path ≡ false)) → count parent (node_of page tree) ≡ 0
  not_below page parent there outside =
      by (row_with page (rows_of tree)) refl (row_with parent (rows_of tree)) refl there outside
    where
      by : (o : Option Page) → row_with page (rows_of tree) ≡ o → (p : Option Page) →
          row_with parent (rows_of tree) ≡ p → IsSome p →
          IfSome o (λ row. IfSome p (λ top. begins row.path top.path ≡ false)) →
          count parent (node_of page tree) ≡ 0
      by None e p f some out =
          let absent : has_page page tree ≡ false =
          has_page-rows page None [] [] tree ∙ ap is_some e in
          ap (count parent) (node_absent page tree (none_counts page tree absent))
      by (Some row) e None f some out = absurd (cc)
      by (Some row) e (Some top) f some out =
          let block = found_block tree page row are e in
          let b = block.0 in
          let own = subst (λ rows. AllByRecursion (λ (r : Page). row_with r.id (rows_of tree)
          ≡ Some r) rows)
          b.rows_are (found_by_own_id (rows_of tree) are.own_ids) in
          let behind = (all_parts (λ (r : Page). row_with r.id (rows_of tree) ≡ Some r) b.front
          (b.top ∷ (rows_below (Some page) b.top.path b.top.url (kids_of page tree)
          ++ b.behind)) own).1 in
          let below = (all_parts (λ (r : Page). row_with r.id (rows_of tree) ≡ Some r)
          (rows_below (Some page) b.top.path b.top.url (kids_of page tree)) b.behind behind.1).0 in
          let begin = All-weaker _ (λ (r : Page). begins b.top.path r.path ≡ true)
          (λ (r : Page) on. begins-BeginsWith b.top.path r.path on) _
          (rows_begin (Some page) b.top.path b.top.url (kids_of page tree)) in
          let out_top : begins b.top.path top.path ≡ false =
          ap (λ (r : Page). begins r.path top.path) (sym block.1) ∙ out in
          let lacks = not_outside (rows_of tree)
          (b.top ∷ rows_below (Some page) b.top.path b.top.url (kids_of page tree)) b.top.path
          parent
          top f out_top (behind.0, below) (begins-self b.top.path, begin) in
          let first = told_apart page parent (λ same. lacks.0 (b.id_is ∙ same)) in
          let none = count_from_lacks parent (kids_of page tree)
          (AllIds-rows (λ k. k ≡ parent → ⊥) (Some page) b.top.path b.top.url (kids_of page tree)
          lacks.1) in
          ap (count parent) b.node_is ∙ rw (first, none) refl
