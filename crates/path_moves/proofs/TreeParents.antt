-- The rows of a tree tell the parents of pages and the numbers of their kids.
use Rattle.std.proofs.Common.{◌≡◌, ℕ, ◌+◌, ◌-◌, ◌<◌, Bool, true, false, cond, nat_eq, List, [], ◌∷◌, ◌++◌, Option, Some, None, find, filter, take, length, refl, ap, sym, ◌∙◌, subst, arith, length-append}
use Rattle.std.specs.List.{AllByRecursion}
use Rattle.std.specs.Option.{option_map}
use Rattle.std.specs.Str.{bytes_eq}
use Rattle.std.proofs.lemmas.List.{length-map}
use Rattle.std.proofs.lemmas.List.Elements.{filter-append}
use Rattle.std.proofs.Math.Seq.{take-append_seam}
use Rattle.site_types.specs.declared.body.Body.{Body}
use Rattle.page_tree.specs.Tree.{Forest, bare, grown, AllIds, AreRising, has_page, kids_of, or_else}
use Rattle.page_tree.specs.Walk.{kid_count}
use Rattle.page_tree.specs.Rows.{rows_below, rows_of, row_with, child_url, kids_in, is_parent}
use Rattle.step_path.specs.Path.{IsPath}
use Rattle.tree_model.proofs.CountLemmas.{none_counts, or_bare, id_found}
use Rattle.tree_model.proofs.PlaceLemmas.{kids_absent}
use Rattle.page_store.specs.PageRows.{above, parent_id}
use Rattle.page_store.specs.Pages.{Page, EachPair, IsBefore}
use Rattle.page_store.proofs.AllLemmas.{All-append, All-both, All-weaker}
use Rattle.page_store.proofs.InsertLemmas.{same_bytes, bytes_eq-self}
use Rattle.page_store.proofs.PathOrder.{comes_before-self}
use Rattle.tree_rows.proofs.Apart.{Lacks, AreApart, kids_of-lacks, lacks_after}
use Rattle.tree_rows.proofs.Lists.{all_parts}
use Rattle.path_moves.proofs.LawLemmas.{block_in}

-- paths in order differ
differ_in_order : (row later : Page) → IsBefore row later → bytes_eq row.path later.path ≡ false
differ_in_order row later before = by (bytes_eq row.path later.path) refl
  where
    by : (t : Bool) → bytes_eq row.path later.path ≡ t → bytes_eq row.path later.path ≡ false
    by false e = e
    by true e =
        let self = comes_before-self row.path in
        let never = rw (← same_bytes row.path later.path e) at before in absurd cc

-- each row is found by its path
pub found_by_own_path : (rows : List Page) → EachPair IsBefore rows →
    AllByRecursion (λ (row : Page). find (λ (r : Page). bytes_eq r.path row.path) rows ≡ Some row)
    rows
found_by_own_path [] order = tt
found_by_own_path (row ∷ rows) order = (
  rw (bytes_eq-self row.path) refl,
  All-both (IsBefore row)
      (λ (later : Page). find (λ (r : Page). bytes_eq r.path later.path) rows ≡ Some later)
      (λ (later : Page). find (λ (r : Page). bytes_eq r.path later.path) (row ∷ rows) ≡ Some later)
      (λ later before more. rw (differ_in_order row later before) more) rows order.0
      (found_by_own_path rows order.1),
)

-- a path without the last step that was put behind it
above-push : (path : List ℕ) (s : ℕ) → above (path ++ s ∷ []) ≡ path
above-push path s =
    let long = length-append path (s ∷ []) in
    let less : length (path ++ s ∷ []) - 1 ≡ length path = omega (arith, long) in
    ap (λ n. take n (path ++ s ∷ [])) less ∙ take-append_seam path (s ∷ [])

-- the page at a path
abbrev page_at_path : List ℕ → List Page → Option ℕ
page_at_path path rows =
    option_map (λ (row : Page). row.id) (find (λ (row : Page). bytes_eq row.path path) rows)

-- each row of pages below one tells its id as that of their parent
parents_below : (whole : List Page) (q : Option ℕ) (path url : List ℕ) (f : Forest Body) →
    page_at_path path whole ≡ q →
    AllByRecursion (λ (row : Page). find (λ (r : Page). bytes_eq r.path row.path) whole ≡ Some row)
    (rows_below q path url f) →
    AllByRecursion (λ (row : Page). row.parent ≡ parent_id row.path whole) (rows_below q path url f)
parents_below whole q path url bare top found = tt
parents_below whole q path url (grown i s slug body kids rest) top found =
    let parts = all_parts _ (rows_below (Some i) (path ++ s ∷ []) (child_url url slug) kids)
    (rows_below q path url rest) found.1 in (
      sym (ap (λ p. page_at_path p whole) (above-push path s) ∙ top),
      All-append _ _ _
          (parents_below whole (Some i) (path ++ s ∷ []) (child_url url slug) kids
          (ap (option_map (λ (row : Page). row.id)) found.0) parts.0)
          (parents_below whole q path url rest top parts.1),
    )

-- no page is at the path with no step
none_at_top : (rows : List Page) → AllByRecursion (λ (row : Page). IsPath row.path) rows →
    page_at_path [] rows ≡ None
none_at_top [] paths = refl
none_at_top (row ∷ rows) paths = rw (no_bytes row.path paths.0.some) (none_at_top rows paths.1)
  where
    no_bytes : (path : List ℕ) → 0 < length path → bytes_eq path [] ≡ false
    no_bytes [] some = absurd (omega arith)
    no_bytes (x ∷ path) some = refl

-- the rows of a tree tell the parents
pub parents_told : (tree : Forest Body) → EachPair IsBefore (rows_of tree) →
    AllByRecursion (λ (row : Page). IsPath row.path) (rows_of tree) →
    AllByRecursion (λ (row : Page). row.parent ≡ parent_id row.path (rows_of tree)) (rows_of tree)
parents_told tree order paths =
    parents_below (rows_of tree) None [] [] tree (none_at_top (rows_of tree) paths)
    (found_by_own_path (rows_of tree) order)

-- a number where a test holds, and else none
abbrev number_if : Bool → ℕ → ℕ
number_if true n = n
number_if false n = 0

-- the rows of the kids of a page
abbrev kid_rows : ℕ → List Page → List Page
kid_rows id rows = filter (λ (row : Page). is_parent id row.parent) rows

-- the kids of a page that is in one of two forests at most
kids_either : (id i : ℕ) (kids rest : Forest Body) → AllIds (λ j. Lacks j kids) rest →
    kid_count (or_else (kids_of id kids) (kids_of id rest))
    ≡ kid_count (kids_of id kids) + kid_count (kids_of id rest)
kids_either id i kids rest between = by (has_page id kids) refl
  where
    by : (t : Bool) → has_page id kids ≡ t →
        kid_count (or_else (kids_of id kids) (kids_of id rest))
        ≡ kid_count (kids_of id kids) + kid_count (kids_of id rest)
    by true e =
        rw (kids_of-lacks id rest (lacks_after id i kids rest between e), or_bare (kids_of id kids))
        (omega arith)
    by false e = rw (kids_absent id kids (none_counts id kids e)) (omega arith)

-- The rows of the kids of a page are as many as the page has kids.
pub kids_counted : (id : ℕ) (q : Option ℕ) (path url : List ℕ) (f : Forest Body) → AreApart f →
    length (kid_rows id (rows_below q path url f))
    ≡ number_if (is_parent id q) (kid_count f) + kid_count (kids_of id f)
kids_counted id q path url bare apart = by (is_parent id q)
  where
    by : (t : Bool) → 0 ≡ number_if t 0 + 0
    by true = omega arith
    by false = omega arith
kids_counted id q path url (grown i s slug body kids rest) apart =
    let below = rows_below (Some i) (path ++ s ∷ []) (child_url url slug) kids in
    let after = rows_below q path url rest in
    let both : length (kid_rows id (below ++ after))
    ≡ length (kid_rows id below) + length (kid_rows id after) =
    ap length (filter-append (λ (row : Page). is_parent id row.parent) below after)
    ∙ length-append (kid_rows id below) (kid_rows id after) in
    by (is_parent id q) (nat_eq i id) refl (below ++ after) both
    (kids_counted id (Some i) (path ++ s ∷ []) (child_url url slug) kids apart.1)
    (kids_counted id q path url rest apart.2)
  where
    own : Page
    own = record {
      id = i;
      parent = q;
      path = path ++ s ∷ [];
      url = child_url url slug;
      slug = slug;
      numchild = kid_count kids;
      body = body;
    }

    counts : (here : Bool) → nat_eq i id ≡ here →
        kid_count (cond here kids (or_else (kids_of id kids) (kids_of id rest)))
        ≡ number_if here (kid_count kids) + kid_count (kids_of id kids)
        + kid_count (kids_of id rest)
    counts true e =
        let same = id_found i id e in
        let lacks_kids = subst (λ n. Lacks n kids) same apart.0.0 in
        let lacks_rest = subst (λ n. Lacks n rest) same apart.0.1 in
        rw (kids_of-lacks id kids lacks_kids, kids_of-lacks id rest lacks_rest) (omega arith)
    counts false e = let sum = kids_either id i kids rest apart.0.2 in omega (arith, sum)

    by : (t here : Bool) → nat_eq i id ≡ here → (others : List Page) →
        length (kid_rows id others)
        ≡ length (kid_rows id (rows_below (Some i) (path ++ s ∷ []) (child_url url slug) kids))
        + length (kid_rows id (rows_below q path url rest)) →
        length (kid_rows id (rows_below (Some i) (path ++ s ∷ []) (child_url url slug) kids))
        ≡ number_if here (kid_count kids) + kid_count (kids_of id kids) →
        length (kid_rows id (rows_below q path url rest))
        ≡ number_if t (kid_count rest) + kid_count (kids_of id rest) →
        length (cond t (own ∷ kid_rows id others) (kid_rows id others))
        ≡ number_if t (kid_count rest + 1)
        + kid_count (cond here kids (or_else (kids_of id kids) (kids_of id rest)))
    by true here e others both inside behind =
        let all = counts here e in omega (arith, all, both, inside, behind)
    by false here e others both inside behind =
        let all = counts here e in omega (arith, all, both, inside, behind)

-- the rows of a tree tell the numbers of kids
pub counts_told : (tree : Forest Body) → AreRising 0 tree → AreApart tree →
    AllByRecursion (λ (row : Page). row_with row.id (rows_of tree) ≡ Some row) (rows_of tree) →
    AllByRecursion (λ (row : Page). row.numchild ≡ length (kids_in row.id (rows_of tree)))
    (rows_of tree)
counts_told tree rising apart found =
    All-weaker _ (λ (row : Page). row.numchild ≡ length (kids_in row.id (rows_of tree))) one
    (rows_of tree) found
  where
    one : (row : Page) → row_with row.id (rows_of tree) ≡ Some row →
        row.numchild ≡ length (kids_in row.id (rows_of tree))
    one row is =
        let block = block_in tree row.id row rising apart is in
        let count = ap (λ (r : Page). r.numchild) block.1 ∙ block.0.count_is in
        let kids = kids_counted row.id None [] [] tree apart in
        let long = length-map (kid_rows row.id (rows_of tree)) (λ (r : Page). r.id) in
        omega (arith, count, kids, long)
