-- What a plan of a move tells, read off the rows after it: the changed paths, the place of the page,
-- and whether a page has too many steps.
use Rattle.std.proofs.Common.{◌≡◌, ℕ, suc, ◌+◌, ◌-◌, ◌<◌, ◌≤◌, Bool, true, false, not, nat_eq, List, [], ◌∷◌, ◌++◌, Some, None, map, length, take, drop, refl, ap, sym, ◌∙◌, subst, arith}
use Prim.Native.Nat.{zero}
use Rattle.std.specs.List.{AllByRecursion}
use Rattle.std.proofs.lemmas.Bool.Decides.{nat_tests}
use Rattle.std.proofs.lemmas.List.{append-nil, length-map}
use Rattle.std.proofs.lemmas.List.Elements.{filter-append}
use Rattle.page_tree.specs.Tree.{Forest, Place, kids_of, last_step, moved, without}
use Rattle.page_tree.specs.Rows.{child_url, row_with, rows_of}
use Rattle.step_path.specs.declared.path.TheConstants.{MAX_DEPTH}
use Rattle.step_path.specs.declared.step.TheConstants.{LAST_STEP}
use Rattle.step_path.specs.Path.{BeginsWith, IsPath}
use Rattle.site_types.specs.declared.body.Body.{Body}
use Rattle.tree_model.specs.Limits.{height}
use Rattle.tree_model.specs.Changes.{changed_paths}
use Rattle.tree_model.proofs.PlaceLemmas.{IsAmong}
use Rattle.page_store.specs.Pages.{Page}
use Rattle.page_store.specs.Search.{begins}
use Rattle.page_store.proofs.PathOrder.{begins-self}
use Rattle.page_store.proofs.AllLemmas.{All-append, All-weaker, All-both, All-map}
use Rattle.page_store.proofs.RangeLemmas.{All-drop}
use Rattle.page_store.proofs.WindowLemmas.{All-take}
use Rattle.page_store.proofs.SeenLemmas.{found_by_own_id}
use Rattle.path_moves.specs.declared.spot.Spot.{Spot}
use Rattle.tree_rows.specs.Cuts.{moved_rows, relabel_row, raise_row, raised_path, place_of}
use Rattle.path_moves.specs.Spots.{place_of_spot, place_without, moved_pair, raised_pair, FitBelow, GoesUp}
use Rattle.tree_rows.proofs.Lists.{all_parts}
use Rattle.tree_rows.proofs.Paths.{GoesOn}
use Rattle.tree_rows.proofs.SubtreeLemmas.{range_rows, range_some}
use Rattle.path_moves.proofs.LawLemmas.{leading-front, other_id}
use Rattle.path_moves.proofs.Windows.{between, failing, between_split, between_next, failing_before}
use Rattle.path_moves.proofs.Remaining.{All-kept, All-passes, found_id}
use Rattle.path_moves.proofs.Landing.{Grounds, together, kids_go_on}
use Rattle.path_moves.proofs.Behind.{IsSpot}
use Rattle.path_moves.proofs.ChangedLemmas.{Known, known_all, changed_append, changed_kept, changed_raised, moved_changed, moved_same, relabelled-self, short_rows, short_height}
use Rattle.path_moves.proofs.After.{counted, counted_keeps, put, after_is}

-- a raised step leaves the number of steps
length-raised_path : (depth : ℕ) (path : List ℕ) → length (raised_path depth path) ≡ length path
length-raised_path depth [] = refl
length-raised_path zero (step ∷ path) = refl
length-raised_path (suc depth) (step ∷ path) = ap suc (length-raised_path depth path)

module _ (tree : Forest Body) (page parent : ℕ) (top above : Page) (p n a m : ℕ)
    (at : Grounds tree page parent top above p n a m) (place : Place) (spot : Spot)
    (spot_is : IsSpot (rows_of tree) (λ (row : Page). begins top.path row.path) place spot)
    (among : IsAmong place (kids_of parent (without page tree)))
    (low : a < place_of_spot spot a (a + m)) (high : place_of_spot spot a (a + m) ≤ a + m) where
  -- whether a row moves
  abbrev moving : Page → Bool
  moving row = begins top.path row.path

  -- the place of the spot among all rows
  abbrev from : ℕ
  from = place_of_spot spot a (a + m)

  -- the new path of the page
  abbrev pub path : List ℕ
  path = above.path
      ++ (put tree page parent top above p n a m at place spot spot_is among).step ∷ []

  -- its new URL
  abbrev url : List ℕ
  url = child_url above.url top.slug

  -- the rows below the page
  abbrev inner : List Page
  inner = between (suc p) (p + n) (rows_of tree)

  -- the later rows of the new parent
  abbrev pub later : List Page
  later = failing moving (between from (a + m) (rows_of tree))

  -- a row after the move
  abbrev shown : Page → Page
  shown = counted tree page parent top above p n a m at

  -- the rows that move
  pub own_rows : take n (drop p (rows_of tree)) ≡ top ∷ inner
  own_rows =
      let some = range_some (rows_of tree) top p n at.range in
      let size : n ≡ p + n - p = omega arith in
      ap (λ k. take k (drop p (rows_of tree))) size
      ∙ between_next p (p + n) (rows_of tree) top at.range.page (omega arith)

  -- the rows after the move, in four parts
  parts : rows_of (moved page parent place tree)
      ≡ map shown (failing moving (take from (rows_of tree)))
      ++ (moved_rows parent path url (top ∷ inner)
      ++ (map (raise_row (length above.path)) (map shown later)
      ++ map shown (failing moving (drop (a + m) (rows_of tree)))))
  parts =
      after_is tree page parent top above p n a m at place spot spot_is among high
      ∙ ap (λ rows. map shown (failing moving (take from (rows_of tree)))
      ++ (moved_rows parent path url rows
      ++ (map (raise_row (length above.path)) (map shown later)
      ++ map shown (failing moving (drop (a + m) (rows_of tree))))))
      (range_rows (rows_of tree) top p n at.range ∙ own_rows)

  -- the path of each row before the move is known
  known : AllByRecursion (Known (rows_of tree)) (rows_of tree)
  known = known_all (rows_of tree) at.are.own_ids

  -- that of each that moves
  known_own : AllByRecursion (Known (rows_of tree)) (top ∷ inner)
  known_own = subst (AllByRecursion (Known (rows_of tree))) own_rows
      (All-take (Known (rows_of tree)) n (drop p (rows_of tree))
      (All-drop (Known (rows_of tree)) p (rows_of tree) known))

  -- each that moves begins with the page's path
  begins_own : AllByRecursion (λ (row : Page). BeginsWith top.path row.path) inner
  begins_own = (subst (AllByRecursion (λ (row : Page). BeginsWith top.path row.path)) own_rows
      at.range.inside).1

  -- that of each later row of the new parent
  known_later : AllByRecursion (Known (rows_of tree)) later
  known_later = All-kept (Known (rows_of tree)) (λ row. not (moving row))
      (between from (a + m) (rows_of tree))
      (All-take (Known (rows_of tree)) (a + m - from) (drop from (rows_of tree))
      (All-drop (Known (rows_of tree)) from (rows_of tree) known))

  -- each later row goes on from the parent's path by the step of a kid
  later_go_on : AllByRecursion (λ (row : Page).
      GoesOn above.path 0 (last_step 0 (kids_of parent (without page tree))) row.path) later
  later_go_on =
      let all = kids_go_on tree page parent top above p n a m at in
      let split = ap (failing moving)
      (between_split (suc a) from (a + m) (rows_of tree) (omega arith) high)
      ∙ filter-append (λ (row : Page). not (moving row)) (between (suc a) from (rows_of tree))
      (between from (a + m) (rows_of tree)) in
      (all_parts _ _ _ (subst (AllByRecursion (λ (row : Page).
      GoesOn above.path 0 (last_step 0 (kids_of parent (without page tree))) row.path)) split
      all)).1

  -- so each has a step to raise, where the last kid's is not the greatest
  pub later_go_up : last_step 0 (kids_of parent (without page tree)) + 1 ≤ LAST_STEP →
      AllByRecursion (λ (row : Page). GoesUp above.path row.path) later
  later_go_up room =
      All-weaker (λ (row : Page).
      GoesOn above.path 0 (last_step 0 (kids_of parent (without page tree))) row.path)
      (λ (row : Page). GoesUp above.path row.path) up later later_go_on
    where
      up : (row : Page) →
          GoesOn above.path 0 (last_step 0 (kids_of parent (without page tree))) row.path →
          GoesUp above.path row.path
      up row on =
          let early = on.early in
          record { step = on.step; more = on.more; is = on.is; early = omega arith }

  -- the changes of the four parts
  changes : changed_paths (rows_of tree) (rows_of (moved page parent place tree))
      ≡ changed_paths (rows_of tree) (moved_rows parent path url (top ∷ inner))
      ++ map (raised_pair (length above.path)) later
  changes =
      let pages = rows_of tree in
      let first = map shown (failing moving (take from pages)) in
      let own = moved_rows parent path url (top ∷ inner) in
      let raised = map (raise_row (length above.path)) (map shown later) in
      let rest = map shown (failing moving (drop (a + m) pages)) in
      let keeps = counted_keeps tree page parent top above p n a m at in
      let none_first = changed_kept pages shown keeps (failing moving (take from pages))
      (All-kept (Known pages) (λ row. not (moving row)) (take from pages)
      (All-take (Known pages) from pages known)) in
      let none_rest = changed_kept pages shown keeps (failing moving (drop (a + m) pages))
      (All-kept (Known pages) (λ row. not (moving row)) (drop (a + m) pages)
      (All-drop (Known pages) (a + m) pages known)) in
      let all_raised = changed_raised pages shown keeps above.path
      (last_step 0 (kids_of parent (without page tree))) later known_later later_go_on in
      ap (changed_paths pages) parts
      ∙ (changed_append pages first (own ++ (raised ++ rest))
      ∙ (ap (λ xs. xs ++ changed_paths pages (own ++ (raised ++ rest))) none_first
      ∙ (changed_append pages own (raised ++ rest)
      ∙ ap (λ xs. changed_paths pages own ++ xs) (changed_append pages raised rest
      ∙ (ap (λ xs. changed_paths pages raised ++ xs) none_rest
      ∙ (append-nil (changed_paths pages raised) ∙ all_raised))))))

  -- The pages whose path changes, where the page takes another path.
  pub changed_other : (path ≡ top.path → ⊥) →
      changed_paths (rows_of tree) (rows_of (moved page parent place tree))
      ≡ map (moved_pair top.path path) (take n (drop p (rows_of tree)))
      ++ map (raised_pair (length above.path)) later
  changed_other other =
      changes ∙ ap (λ xs. xs ++ map (raised_pair (length above.path)) later)
      (moved_changed (rows_of tree) parent path url top inner other known_own begins_own
      ∙ ap (map (moved_pair top.path path)) (sym own_rows))

  -- and where it keeps its own.
  pub changed_same : path ≡ top.path →
      changed_paths (rows_of tree) (rows_of (moved page parent place tree))
      ≡ map (raised_pair (length above.path)) later
  changed_same same =
      changes ∙ ap (λ xs. xs ++ map (raised_pair (length above.path)) later)
      (moved_same (rows_of tree) parent path url top inner same known_own begins_own)

  -- The place of the page after the move.
  pub place_after : place_of page (rows_of (moved page parent place tree))
      ≡ place_without p n from
  place_after =
      let pages = rows_of tree in
      let own_id = found_id page pages top at.found in
      let same : nat_eq top.id page ≡ true = grind (arith, nat_tests) in
      let ids = All-both (λ (row : Page). row_with row.id pages ≡ Some row)
      (λ (row : Page). not (moving row) ≡ true) (λ (row : Page). row.id ≡ page → ⊥) other
      (failing moving (take from pages))
      (All-kept (λ (row : Page). row_with row.id pages ≡ Some row) (λ row. not (moving row))
      (take from pages) (All-take (λ (row : Page). row_with row.id pages ≡ Some row) from pages
      (found_by_own_id pages at.are.own_ids)))
      (All-passes (λ (row : Page). not (moving row)) (take from pages)) in
      let shown_ids = All-map (λ (row : Page). not (nat_eq row.id page) ≡ true) shown
      (failing moving (take from pages))
      (All-weaker (λ (row : Page). row.id ≡ page → ⊥)
      (λ (row : Page). not (nat_eq (shown row).id page) ≡ true)
      (λ (row : Page) differs. ap (λ i. not (nat_eq i page))
      (counted_keeps tree page parent top above p n a m at row).0
      ∙ ap not (other_id page row.id differs)) (failing moving (take from pages)) ids) in
      ap (place_of page) parts
      ∙ (leading-front (λ (row : Page). not (nat_eq row.id page))
      (map shown (failing moving (take from pages)))
      (record top { parent = Some parent; path = path; url = url })
      (map (relabel_row top.path path top.url url) inner
      ++ (map (raise_row (length above.path)) (map shown later)
      ++ map shown (failing moving (drop (a + m) pages)))) shown_ids (ap not same)
      ∙ (length-map (failing moving (take from pages)) shown
      ∙ failing_before moving p n pages (together tree page parent top above p n a m at) from
      (let within = at.above_range.within in omega arith)))
    where
      other : (row : Page) → row_with row.id (rows_of tree) ≡ Some row →
          not (moving row) ≡ true → row.id ≡ page → ⊥
      other row found stays same =
          let both : Some row ≡ Some top =
          sym found ∙ (ap (λ i. row_with i (rows_of tree)) same ∙ at.found) in
          let one : row ≡ top = cc in
          let moves : begins top.path row.path ≡ true =
          ap (λ (r : Page). begins top.path r.path) one ∙ begins-self top.path in
          let never : not (begins top.path row.path) ≡ false = ap not moves in cc

  -- each row before the move is short enough
  short : AllByRecursion (λ (row : Page). length row.path ≤ MAX_DEPTH) (rows_of tree)
  short = All-weaker (λ (row : Page). IsPath row.path)
      (λ (row : Page). length row.path ≤ MAX_DEPTH) (λ (row : Page) is. is.within) (rows_of tree)
      at.are.paths

  -- No page has too many steps after the move only where each that moves has few enough.
  pub fits_after : height (moved page parent place tree) ≤ MAX_DEPTH →
      FitBelow top.path path (take n (drop p (rows_of tree)))
  fits_after high_enough =
      let all = subst (AllByRecursion (λ (row : Page). length row.path ≤ MAX_DEPTH)) parts
      (short_rows MAX_DEPTH None [] [] (moved page parent place tree) (omega arith)) in
      let own = (all_parts (λ (row : Page). length row.path ≤ MAX_DEPTH)
      (moved_rows parent path url (top ∷ inner)) _ (all_parts (λ (row : Page).
      length row.path ≤ MAX_DEPTH) (map shown (failing moving (take from (rows_of tree)))) _
      all).1).0 in
      subst (FitBelow top.path path) (sym own_rows) (
        subst (λ xs. length xs ≤ MAX_DEPTH) (sym (relabelled-self top.path path)) own.0,
        unmapped inner own.1,
      )
    where
      unmapped : (rows : List Page) →
          AllByRecursion (λ (row : Page). length row.path ≤ MAX_DEPTH)
          (map (relabel_row top.path path top.url url) rows) → FitBelow top.path path rows
      unmapped [] all = tt
      unmapped (row ∷ rows) all = (all.0, unmapped rows all.1)

  -- And where each has, no page has too many.
  pub after_fits : FitBelow top.path path (take n (drop p (rows_of tree))) →
      height (moved page parent place tree) ≤ MAX_DEPTH
  after_fits fits =
      let pages = rows_of tree in
      let own = subst (FitBelow top.path path) own_rows fits in
      let all = All-append (λ (row : Page). length row.path ≤ MAX_DEPTH)
      (map shown (failing moving (take from pages))) _
      (shorts (failing moving (take from pages)) (All-kept _ (λ row. not (moving row))
      (take from pages) (All-take _ from pages short)))
      (All-append (λ (row : Page). length row.path ≤ MAX_DEPTH)
      (moved_rows parent path url (top ∷ inner)) _ (
        subst (λ xs. length xs ≤ MAX_DEPTH) (relabelled-self top.path path) own.0,
        All-map (λ (row : Page). length row.path ≤ MAX_DEPTH)
            (relabel_row top.path path top.url url) inner own.1,
      )
      (All-append (λ (row : Page). length row.path ≤ MAX_DEPTH)
      (map (raise_row (length above.path)) (map shown later)) _
      (All-map (λ (row : Page). length row.path ≤ MAX_DEPTH) (raise_row (length above.path))
      (map shown later) (All-weaker (λ (row : Page). length row.path ≤ MAX_DEPTH)
      (λ (row : Page). length (raised_path (length above.path) row.path) ≤ MAX_DEPTH)
      (λ (row : Page) few. subst (λ k. k ≤ MAX_DEPTH)
      (sym (length-raised_path (length above.path) row.path)) few) (map shown later)
      (shorts later (All-kept _ (λ row. not (moving row)) (between from (a + m) pages)
      (All-take _ (a + m - from) (drop from pages) (All-drop _ from pages short))))))
      (shorts (failing moving (drop (a + m) pages)) (All-kept _ (λ row. not (moving row))
      (drop (a + m) pages) (All-drop _ (a + m) pages short))))) in
      let whole = short_height MAX_DEPTH None [] [] (moved page parent place tree) (omega arith)
      (subst (AllByRecursion (λ (row : Page). length row.path ≤ MAX_DEPTH)) (sym parts) all) in
      omega arith
    where
      shorts : (rows : List Page) →
          AllByRecursion (λ (row : Page). length row.path ≤ MAX_DEPTH) rows →
          AllByRecursion (λ (row : Page). length row.path ≤ MAX_DEPTH) (map shown rows)
      shorts rows all =
          All-map (λ (row : Page). length row.path ≤ MAX_DEPTH) shown rows
          (All-weaker (λ (row : Page). length row.path ≤ MAX_DEPTH)
          (λ (row : Page). length (shown row).path ≤ MAX_DEPTH)
          (λ (row : Page) few. subst (λ xs. length xs ≤ MAX_DEPTH)
          (sym (counted_keeps tree page parent top above p n a m at row).1) few) rows all)
