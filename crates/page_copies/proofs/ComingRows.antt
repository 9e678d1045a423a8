-- Pages that come one after the other, depth first, behind the kids that their parent has: their
-- rows may be put in, and the rows are then those of the tree with them.
use Rattle.std.proofs.Common.{◌≡◌, ◌+◌, ℕ, suc, Bool, true, false, cond, nat_eq, List, [], ◌∷◌, ◌++◌, length, find, Option, Some, None, refl, sym, ap, subst, ◌∙◌, arith}
use Rattle.std.specs.List.{AllByRecursion}
use Rattle.std.specs.Option.{option_map}
use Rattle.std.specs.Str.{bytes_eq}
use Rattle.std.proofs.lemmas.List.{append_assoc, map-append}
use Rattle.page_tree.specs.Tree.{Forest, bare, grown}
use Rattle.page_tree.specs.Rows.{row_with, rows_below, kid_named, child_url, is_parent, raise_count, with_kid, with_row, insert_in_order}
use Rattle.page_tree.specs.Walk.{kid_count}
use Rattle.step_path.specs.Path.{IsPath, path_text, steps_of}
use Rattle.step_path.proofs.PathLemmas.{IsPathText-path_text, steps_of-path_text}
use Rattle.site_types.specs.declared.body.Body.{Body}
use Rattle.site_types.specs.declared.page_row.PageRow.{PageRow}
use Rattle.page_store.specs.PageRows.{parent_id, seen_row, IsNewRow}
use Rattle.page_store.specs.Pages.{Page, EachPair, IsBefore}
use Rattle.page_store.proofs.AllLemmas.{raised, All-weaker, All-append, All-raise_count}
use Rattle.page_store.proofs.InsertLemmas.{find-raise_count}
use Rattle.page_store.proofs.KeptLemmas.{found_passes}
use Rattle.page_store.proofs.SeenLemmas.{All-find}
use Rattle.tree_model.proofs.CountLemmas.{same_id, id_found}
use Rattle.tree_rows.proofs.Lists.{all_parts, EachPair-parts}
use Rattle.publishing.specs.Laws.{IsUntimed}
use Rattle.flat_model.specs.Fits.{PagesFit}
use Rattle.flat_model.specs.Made.{with_page, with_pages}
use Rattle.page_copies.specs.Coming.{coming_row, coming_rows}
use Rattle.page_copies.proofs.ComingPairs.{Differ, raised_front, recounted, without_middle, pairs_weaker, not_among, none_named, found_first, found_second, raised_by, raise-append, raise-absent, raised_by-absent, raised_by-append, raised_by-own}
use Rattle.page_copies.proofs.RowPlaces.{between, path_between, by_path, above_is}

-- pages that come, and then others
pub with_pages-append : (xs ys : List (PageRow × List ℕ)) (rows : List Page) →
    with_pages (xs ++ ys) rows ≡ with_pages ys (with_pages xs rows)
with_pages-append [] ys rows = refl
with_pages-append (x ∷ xs) ys rows = with_pages-append xs ys (with_page x rows)

-- they may come where the first may, and then the others
pub PagesFit-append : (xs ys : List (PageRow × List ℕ)) (rows : List Page) → PagesFit xs rows →
    PagesFit ys (with_pages xs rows) → PagesFit (xs ++ ys) rows
PagesFit-append [] ys rows first second = second
PagesFit-append (x ∷ xs) ys rows first second =
    (first.0, first.1, PagesFit-append xs ys (with_page x rows) first.2 second)

-- one page that comes below a page whose row stands before: its row without kids
module _ (parent step : ℕ) (path : List ℕ) (top row : Page) (front behind : List Page)
    (found : row_with parent front ≡ Some top) (top_is : top.path ≡ path)
    (below : row.parent ≡ Some parent) (path_is : row.path ≡ path ++ step ∷ [])
    (is_path : IsPath row.path) (pairs : EachPair Differ (front ++ row ∷ behind)) where
  -- the rows before it, and it, and those behind it
  abbrev rows : List Page
  rows = front ++ behind

  parts : EachPair Differ front × EachPair Differ (row ∷ behind)
      × AllByRecursion (λ x. AllByRecursion (Differ x) (row ∷ behind)) front
  parts = EachPair-parts Differ front (row ∷ behind) pairs

  -- the rows without it are in order
  order : EachPair IsBefore rows
  order =
      pairs_weaker Differ IsBefore (λ x y differ. differ.0) rows
      (without_middle front (row ∷ []) behind pairs)

  -- it comes behind those before it
  late : AllByRecursion (λ x. Differ x row) front
  late = All-weaker (λ x. AllByRecursion (Differ x) (row ∷ behind)) (λ x. Differ x row)
      (λ x all. all.0) front parts.2

  -- the parent has the id
  top_id : top.id ≡ parent
  top_id = id_found top.id parent (found_passes (λ (r : Page). nat_eq r.id parent) front top found)

  -- no row behind has the parent's id
  top_first : AllByRecursion (λ (r : Page). r.id ≡ parent → ⊥) (row ∷ behind)
  top_first =
      All-weaker (Differ top) (λ (r : Page). r.id ≡ parent → ⊥)
      (λ r differ same. differ.1 (same ∙ sym top_id)) (row ∷ behind)
      (All-find (λ x. AllByRecursion (Differ x) (row ∷ behind)) (λ (r : Page). nat_eq r.id parent)
      front top parts.2 found)

  -- the page above its path is the parent
  parent_found : parent_id row.path rows ≡ Some parent
  parent_found =
      ap (λ p. parent_id p rows) (path_is ∙ ap (λ p. p ++ step ∷ []) (sym top_is))
      ∙ (ap (λ p. option_map (λ (r : Page). r.id) (find (λ (r : Page). bytes_eq r.path p) rows))
      (above_is top.path step)
      ∙ (ap (option_map (λ (r : Page). r.id))
      (by_path parent top rows order (found_first parent front behind top found))
      ∙ ap Some top_id))

  -- its text reads back
  reads : steps_of (path_text row.path) ≡ row.path
  reads = steps_of-path_text row.path is_path.steps

  -- it may come
  pub one_fits : IsNewRow rows (coming_row row).0
  one_fits = record {
    path_is = IsPathText-path_text row.path is_path;
    depth_is = ap length (sym reads);
    childless = refl;
    new_id = not_among row.id rows
        (All-append (λ (r : Page). r.id ≡ row.id → ⊥) front behind
        (All-weaker (λ x. Differ x row) (λ (r : Page). r.id ≡ row.id → ⊥)
        (λ x differ same. differ.1 (sym same)) front late)
        (All-weaker (Differ row) (λ (r : Page). r.id ≡ row.id → ⊥) (λ x differ. differ.1) behind
        parts.1.0));
    new_path = subst (λ p. AllByRecursion (λ (r : Page). r.path ≡ p → ⊥) rows) (sym reads)
        (path_between row front behind
        (All-weaker (λ x. Differ x row) (λ x. IsBefore x row) (λ x differ. differ.0) front late)
        (All-weaker (Differ row) (IsBefore row) (λ x differ. differ.0) behind parts.1.0));
    has_parent = rw (reads, parent_found) refl;
    free_slug = rw (reads, parent_found) slug_free;
  }
    where
      slug_free : kid_named parent row.slug rows ≡ None
      slug_free =
          none_named parent row.slug rows
          (All-append (λ (r : Page). r.parent ≡ Some parent → r.slug ≡ row.slug → ⊥) front behind
          (All-weaker (λ x. Differ x row)
          (λ (r : Page). r.parent ≡ Some parent → r.slug ≡ row.slug → ⊥)
          (λ x differ own same. differ.2 (below ∙ sym own) (sym same)) front late)
          (All-weaker (Differ row) (λ (r : Page). r.parent ≡ Some parent → r.slug ≡ row.slug → ⊥)
          (λ x differ own same. differ.2 (own ∙ sym below) same) behind parts.1.0))

  -- and then it stands between them, and its parent has one kid more
  pub one_comes : with_page (coming_row row) rows
      ≡ raise_count (Some parent) front ++ record row { numchild = 0 } ∷ behind
  one_comes =
      let new : Page = record row { numchild = 0 } in
      let seen : with_page (coming_row row) rows ≡ with_row new rows =
      ap (λ p. with_row (seen_row (coming_row row).0 (parent_id p rows) row.url) rows) reads
      ∙ (ap (λ o. with_row (seen_row (coming_row row).0 o row.url) rows)
      (parent_found ∙ sym below)
      ∙ ap (λ p. with_row (record new { path = p }) rows) reads) in
      let raised_rows : raise_count row.parent rows
      ≡ raise_count (Some parent) front ++ behind =
      ap (λ o. raise_count o rows) below
      ∙ (raise-append (Some parent) front behind
      ∙ ap (λ more. raise_count (Some parent) front ++ more)
      (raise-absent parent behind top_first.1)) in
      seen
      ∙ (ap (insert_in_order new) raised_rows
      ∙ between new (raise_count (Some parent) front) behind
      (All-raise_count (λ x. IsBefore x new) (Some parent) (λ x before. before) front
      (All-weaker (λ x. Differ x row) (λ x. IsBefore x new) (λ x differ. differ.0) front late))
      (All-weaker (Differ row) (IsBefore new) (λ x differ. differ.0) behind parts.1.0))

-- Pages that came below a parent: their rows might be put in one after the other, behind rows among
-- which the parent's is, and before others; and they stand between them then.
pub record HaveCome (parent : ℕ) (path url : List ℕ) (f : Forest Body) (front behind : List Page) :
    Type 0 where
  pub fit : PagesFit (coming_rows (rows_below (Some parent) path url f)) (front ++ behind)
  pub come : with_pages (coming_rows (rows_below (Some parent) path url f)) (front ++ behind)
      ≡ raised_by parent (kid_count f) front ++ (rows_below (Some parent) path url f ++ behind)

-- rows with one more at the end, before others
snoc : (front behind : List Page) (row : Page) →
    (front ++ row ∷ []) ++ behind ≡ front ++ row ∷ behind
snoc front behind row = append_assoc front (row ∷ []) behind

-- a row with a kid more has its path
raised_path : (parent : Option ℕ) (row : Page) → (raised parent row).path ≡ row.path
raised_path parent row = by (is_parent row.id parent)
  where
    by : (t : Bool) → (cond t (with_kid row) row).path ≡ row.path
    by true = refl
    by false = refl

module _ (parent i step : ℕ) (path url slug : List ℕ) (body : Body) (kids rest : Forest Body)
    (front behind : List Page) (top : Page) (found : row_with parent front ≡ Some top)
    (top_is : top.path ≡ path) where
  -- the path, the URL and the row of the first page, and its row without kids
  abbrev own : List ℕ
  own = path ++ step ∷ []

  abbrev own_url : List ℕ
  own_url = child_url url slug

  abbrev row : Page
  row = record {
    id = i;
    parent = Some parent;
    path = own;
    url = own_url;
    slug = slug;
    numchild = kid_count kids;
    body = body;
  }

  abbrev childless : Page
  childless = record row { numchild = 0 }

  -- the rows below it, and those of the pages after it
  abbrev inner : List Page
  inner = rows_below (Some i) own own_url kids

  abbrev later : List Page
  later = rows_below (Some parent) path url rest

  module _ (pairs : EachPair Differ (front ++ row ∷ ((inner ++ later) ++ behind)))
      (paths : AllByRecursion (λ (r : Page). IsPath r.path) (row ∷ (inner ++ later)))
      (untimed : AllByRecursion (λ (r : Page). IsUntimed r.body) (row ∷ (inner ++ later))) where
    -- without the others
    one_pairs : EachPair Differ (front ++ row ∷ behind)
    one_pairs =
        subst (EachPair Differ) (snoc front behind row)
        (without_middle (front ++ row ∷ []) (inner ++ later) behind
        (subst (EachPair Differ) (sym (snoc front ((inner ++ later) ++ behind) row)) pairs))

    -- the rows before it once it came, without it and with it, and with all below it
    abbrev before : List Page
    before = raise_count (Some parent) front

    abbrev with_it : List Page
    with_it = before ++ childless ∷ []

    abbrev with_all : List Page
    with_all = before ++ row ∷ inner

    -- it comes
    first_fits : IsNewRow (front ++ behind) (coming_row row).0
    first_fits =
        one_fits parent step path top row front behind found top_is refl refl paths.0 one_pairs

    first_comes : with_page (coming_row row) (front ++ behind) ≡ with_it ++ behind
    first_comes =
        one_comes parent step path top row front behind found top_is refl refl paths.0 one_pairs
        ∙ sym (snoc before behind childless)

    -- all rows with the parent's new count
    raised_pairs : EachPair Differ (before ++ row ∷ ((inner ++ later) ++ behind))
    raised_pairs =
        raised_front (Some parent) front (row ∷ ((inner ++ later) ++ behind)) pairs

    -- and with the page's own
    pub kid_pairs : EachPair Differ (with_it ++ (inner ++ behind))
    kid_pairs =
        subst (EachPair Differ) (append_assoc with_it inner behind)
        (without_middle (with_it ++ inner) later behind
        (subst (EachPair Differ) (sym (append_assoc with_it inner (later ++ behind)))
        (subst (λ more. EachPair Differ (with_it ++ more)) (append_assoc inner later behind)
        (subst (EachPair Differ) (sym (snoc before ((inner ++ later) ++ behind) childless))
        (recounted before ((inner ++ later) ++ behind) row 0 raised_pairs)))))

    -- with all below it
    pub rest_pairs : EachPair Differ (with_all ++ (later ++ behind))
    rest_pairs =
        subst (EachPair Differ) (sym (append_assoc before (row ∷ inner) (later ++ behind)))
        (subst (λ more. EachPair Differ (before ++ row ∷ more)) (append_assoc inner later behind)
        raised_pairs)

    -- no row before it has its id
    other_ids : AllByRecursion (λ (r : Page). r.id ≡ i → ⊥) before
    other_ids =
        All-raise_count (λ (r : Page). r.id ≡ i → ⊥) (Some parent) (λ r other. other) front
        (All-weaker (λ x. AllByRecursion (Differ x) (row ∷ behind)) (λ (r : Page). r.id ≡ i → ⊥)
        (λ x all same. all.0.1 (sym same)) front
        (EachPair-parts Differ front (row ∷ behind) one_pairs).2)

    -- its row is found
    pub kid_found : row_with i with_it ≡ Some childless
    kid_found =
        found_second i before (childless ∷ []) (not_among i before other_ids)
        ∙ rw (same_id i) refl

    -- and its parent's
    pub rest_found : row_with parent with_all ≡ Some (raised (Some parent) top)
    rest_found =
        found_first parent before (row ∷ inner) (raised (Some parent) top)
        (find-raise_count (λ (r : Page). nat_eq r.id parent) (λ r. refl) (Some parent) front
        ∙ ap (option_map (raised (Some parent))) found)

    pub rest_path : (raised (Some parent) top).path ≡ path
    rest_path = raised_path (Some parent) top ∙ top_is

    -- no row below it is the parent's
    not_parent : AllByRecursion (λ (r : Page). r.id ≡ parent → ⊥) (row ∷ inner)
    not_parent =
        let top_id : top.id ≡ parent =
        id_found top.id parent (found_passes (λ (r : Page). nat_eq r.id parent) front top found) in
        let all : AllByRecursion (Differ top) (row ∷ ((inner ++ later) ++ behind)) =
        All-find (λ x. AllByRecursion (Differ x) (row ∷ ((inner ++ later) ++ behind)))
        (λ (r : Page). nat_eq r.id parent) front top
        (EachPair-parts Differ front (row ∷ ((inner ++ later) ++ behind)) pairs).2 found in
        let below = (all_parts (Differ top) inner later
        (all_parts (Differ top) (inner ++ later) behind all.1).0).0 in
        All-weaker (Differ top) (λ (r : Page). r.id ≡ parent → ⊥)
        (λ r differ same. differ.1 (same ∙ sym top_id)) (row ∷ inner) (all.0, below)

    module _ (kids_come : HaveCome i own own_url kids with_it behind)
        (rest_come : HaveCome parent path url rest with_all behind) where
      -- its kids are counted
      kids_counted : raised_by i (kid_count kids) with_it ≡ before ++ row ∷ []
      kids_counted =
          let n = kid_count kids in
          let none : 0 + n ≡ n = omega arith in
          raised_by-append i n before (childless ∷ [])
          ∙ (ap (λ xs. xs ++ raised_by i n (childless ∷ []))
          (raised_by-absent i n before other_ids)
          ∙ ap (λ ys. before ++ ys)
          (raised_by-own i n 0 row refl ∙ ap (λ m. record row { numchild = m } ∷ []) none))

      -- once all below it came
      inner_comes : with_pages (coming_rows inner) (with_it ++ behind) ≡ with_all ++ behind
      inner_comes =
          kids_come.come
          ∙ (ap (λ xs. xs ++ (inner ++ behind)) kids_counted
          ∙ (snoc before (inner ++ behind) row ∙ sym (append_assoc before (row ∷ inner) behind)))

      -- the parent's kids are counted
      rest_counted : raised_by parent (kid_count rest) with_all
          ≡ raised_by parent (kid_count rest + 1) front ++ row ∷ inner
      rest_counted =
          let n = kid_count rest in
          let next : suc n ≡ n + 1 = omega arith in
          raised_by-append parent n before (row ∷ inner)
          ∙ (ap (λ ys. raised_by parent n before ++ ys)
          (raised_by-absent parent n (row ∷ inner) not_parent)
          ∙ ap (λ m. raised_by parent m front ++ row ∷ inner) next)

      -- so all of them come
      grown_come : HaveCome parent path url (grown i step slug body kids rest) front behind
      grown_come =
          let both : coming_rows (inner ++ later) ≡ coming_rows inner ++ coming_rows later =
          map-append coming_row inner later in record {
            fit = (
              first_fits,
              untimed.0,
              subst (PagesFit (coming_rows (inner ++ later))) (sym first_comes)
                  (subst (λ news. PagesFit news (with_it ++ behind)) (sym both)
                  (PagesFit-append (coming_rows inner) (coming_rows later) (with_it ++ behind)
                  kids_come.fit
                  (subst (PagesFit (coming_rows later)) (sym inner_comes) rest_come.fit))),
            );
            come =
                ap (with_pages (coming_rows (inner ++ later))) first_comes
                ∙ (ap (λ news. with_pages news (with_it ++ behind)) both
                ∙ (with_pages-append (coming_rows inner) (coming_rows later) (with_it ++ behind)
                ∙ (ap (with_pages (coming_rows later)) inner_comes
                ∙ (rest_come.come
                ∙ (ap (λ xs. xs ++ (later ++ behind)) rest_counted
                ∙ (append_assoc (raised_by parent (kid_count rest + 1) front) (row ∷ inner)
                (later ++ behind)
                ∙ ap (λ more. raised_by parent (kid_count rest + 1) front ++ row ∷ more)
                (sym (append_assoc inner later behind))))))));
          }

-- Pages side by side come, each with all below it, where their rows differ from each other and from
-- those before and behind, and have paths.
pub all_come : (parent : ℕ) (path url : List ℕ) (f : Forest Body) (front behind : List Page)
    (top : Page) → row_with parent front ≡ Some top → top.path ≡ path →
    EachPair Differ (front ++ (rows_below (Some parent) path url f ++ behind)) →
    AllByRecursion (λ (r : Page). IsPath r.path) (rows_below (Some parent) path url f) →
    AllByRecursion (λ (r : Page). IsUntimed r.body) (rows_below (Some parent) path url f) →
    HaveCome parent path url f front behind
all_come parent path url bare front behind top found top_is pairs paths untimed =
    record { fit = tt; come = refl }
all_come parent path url (grown i step slug body kids rest) front behind top found top_is pairs
    paths untimed =
    let own = path ++ step ∷ [] in
    let own_url = child_url url slug in
    let inner = rows_below (Some i) own own_url kids in
    let later = rows_below (Some parent) path url rest in
    let both = all_parts (λ (r : Page). IsPath r.path) inner later paths.1 in
    let quiet = all_parts (λ (r : Page). IsUntimed r.body) inner later untimed.1 in
    grown_come parent i step path url slug body kids rest front behind top found top_is pairs paths
    untimed
    (all_come i own own_url kids _ behind _
    (kid_found parent i step path url slug body kids rest front behind top found top_is pairs paths
    untimed)
    refl
    (kid_pairs parent i step path url slug body kids rest front behind top found top_is pairs paths
    untimed)
    both.0 quiet.0)
    (all_come parent path url rest _ behind _
    (rest_found parent i step path url slug body kids rest front behind top found top_is pairs paths
    untimed)
    (rest_path parent i step path url slug body kids rest front behind top found top_is pairs paths
    untimed)
    (rest_pairs parent i step path url slug body kids rest front behind top found top_is pairs paths
    untimed)
    both.1 quiet.1)
