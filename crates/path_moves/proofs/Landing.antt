-- Where a page lands: the kids of its new parent that remain, among the rows.
use Rattle.std.proofs.Common.{◌≡◌, ℕ, suc, ◌+◌, ◌-◌, Bool, true, false, not, cond, nat_eq, List, [], ◌∷◌, ◌++◌, Option, Some, None, map, length, take, drop, slice_get, refl, ap, sym, ◌∙◌, subst, arith, append_assoc, length-append}
use Rattle.std.specs.List.{AllByRecursion}
use Rattle.std.specs.Option.{option_map}
use Rattle.std.proofs.lemmas.List.{map-append, length-map}
use Rattle.std.proofs.lemmas.List.Elements.{filter-append}
use Rattle.std.proofs.lemmas.Option.{slice_get-map}
use Rattle.page_tree.specs.Tree.{Forest, bare, grown, AreRising, kids_of, last_step, or_else, without}
use Rattle.page_tree.specs.Rows.{row_with, rows_below, rows_of}
use Rattle.site_types.specs.declared.body.Body.{Body}
use Rattle.page_store.specs.PageRows.{IsRange}
use Rattle.page_store.specs.Pages.{Page, ArePages}
use Rattle.page_store.specs.Search.{begins}
use Rattle.page_store.proofs.PathOrder.{begins-self, begins-BeginsWith}
use Rattle.page_store.proofs.AllLemmas.{All-weaker}
use Rattle.tree_rows.specs.Subtree.{last_of, step_after}
use Rattle.tree_rows.specs.Cuts.{lower_row, cut_rows, end_of, place_of}
use Rattle.tree_rows.proofs.Apart.{AreApart-distinct}
use Rattle.tree_rows.proofs.Block.{Block}
use Rattle.tree_rows.proofs.Paths.{GoesOn, rows_go_on}
use Rattle.tree_rows.proofs.SubtreeLemmas.{rows_begin, range_some, step_after-last}
use Rattle.path_moves.proofs.LawLemmas.{block_in, cut_is}
use Rattle.path_moves.proofs.PlaceLemmas.{place_in_block}
use Rattle.path_moves.proofs.MoveLaws.{is_tree, left_is_tree, end_of-map}
use Rattle.path_moves.proofs.Windows.{between, failing, Passes, between_next, two_splits, take_split}
use Rattle.path_moves.proofs.Remaining.{same_parts, passes_range, end_of-parts, found_id, lower_keeps, place_of-map, row_with-cut, place_remaining, one_remaining, end_remaining}

-- the steps of a page's kids rise
pub rising_kids : {B : Type 0} (id before : ℕ) (f : Forest B) → AreRising before f →
    AreRising 0 (kids_of id f)
rising_kids id before bare rising = tt
rising_kids {B = B} id before (grown i s slug body kids rest) rising =
    by (nat_eq i id) (rising_kids id 0 kids rising.1) (rising_kids id s rest rising.2)
  where
    first : (f g : Forest B) → AreRising 0 f → AreRising 0 g → AreRising 0 (or_else f g)
    first bare g one more = more
    first (grown i s slug body kids rest) g one more = one

    by : (t : Bool) → AreRising 0 (kids_of id kids) → AreRising 0 (kids_of id rest) →
        AreRising 0 (cond t kids (or_else (kids_of id kids) (kids_of id rest)))
    by true inside later = rising.1
    by false inside later = first (kids_of id kids) (kids_of id rest) inside later

-- the last of what a function gives
last_of-map : {X Y : Type 0} (f : X → Y) (xs : List X) →
    last_of (map f xs) ≡ option_map f (last_of xs)
last_of-map f xs =
    ap (λ n. slice_get (map f xs) (n - 1)) (length-map xs f)
    ∙ slice_get-map f xs (length xs - 1)

-- rows below one path and URL
same_rows : (parent : Option ℕ) (path path' url url' : List ℕ) (f : Forest Body) →
    path ≡ path' → url ≡ url' → rows_below parent path url f ≡ rows_below parent path' url' f
same_rows parent path path' url url' f one more = rw (one, more) refl

-- What is known where a page is moved below a parent that is not among what moves: the rows and
-- the ranges of both.
pub record Grounds (tree : Forest Body) (page parent : ℕ) (top above : Page) (p n a m : ℕ) :
    Type 0 where
  pub are : ArePages (rows_of tree)
  pub found : row_with page (rows_of tree) ≡ Some top
  pub range : IsRange (rows_of tree) top p n
  pub above_found : row_with parent (rows_of tree) ≡ Some above
  pub above_range : IsRange (rows_of tree) above a m
  pub stays : begins top.path above.path ≡ false

module _ (tree : Forest Body) (page parent : ℕ) (top above : Page) (p n a m : ℕ)
    (at : Grounds tree page parent top above p n a m) where
  -- whether a row is of what moves
  abbrev pub moves : Page → Bool
  moves row = begins top.path row.path

  -- the rows between two places that do not move
  abbrev pub kept : ℕ → ℕ → List Page
  kept i k = failing moves (between i k (rows_of tree))

  -- the rows that move stand together
  pub together : Passes moves p n (rows_of tree)
  together = passes_range (rows_of tree) top p n at.range

  -- the rows that are left
  pub rows_left : rows_of (without page tree) ≡ cut_rows top (rows_of tree)
  rows_left = cut_is page tree top (is_tree tree at.are) at.found

  -- the new parent is left
  pub parent_left : row_with parent (cut_rows top (rows_of tree))
      ≡ Some (lower_row top.parent above)
  parent_left = row_with-cut parent top.parent moves (rows_of tree) above at.above_found at.stays

  -- its block there
  parent_block : (b : Block parent 0 None [] [] (without page tree))
      × (lower_row top.parent above ≡ b.top)
  parent_block =
      let left = left_is_tree page tree (is_tree tree at.are) in
      block_in (without page tree) parent (lower_row top.parent above) left.rising
      (AreApart-distinct (without page tree) left.distinct)
      (ap (row_with parent) rows_left ∙ parent_left)

  -- The place of the new parent is told by its own.
  pub parent_place : place_of parent (cut_rows top (rows_of tree))
      ≡ length (failing moves (take a (rows_of tree)))
  parent_place =
      place_of-map parent (lower_row top.parent) (λ row. (lower_keeps top.parent row).0)
      (failing moves (rows_of tree))
      ∙ place_remaining (rows_of tree) moves p n together a parent above at.are.own_ids
      at.above_range.page (found_id parent (rows_of tree) above at.above_found) at.stays

  -- and the end of its subtree by its end
  pub parent_end : end_of above.path (cut_rows top (rows_of tree))
      ≡ length (failing moves (take (a + m) (rows_of tree)))
  parent_end =
      end_of-map above.path (lower_row top.parent) (λ row. (lower_keeps top.parent row).1)
      (failing moves (rows_of tree))
      ∙ end_remaining (rows_of tree) moves p n together above a m at.above_range at.stays
      (range_some (rows_of tree) above a m at.above_range)

  -- The rows below the new parent that are left are those of its kids.
  pub kids_rows : map (lower_row top.parent) (kept (suc a) (a + m))
      ≡ rows_below (Some parent) above.path above.url (kids_of parent (without page tree))
  kids_rows =
      let lowered : Page → Page = lower_row top.parent in
      let b = parent_block.0 in
      let kids = kids_of parent (without page tree) in
      let inner = rows_below (Some parent) b.top.path b.top.url kids in
      let some = range_some (rows_of tree) above a m at.above_range in
      let first = failing moves (take (suc a) (rows_of tree)) in
      let behind = failing moves (drop (a + m) (rows_of tree)) in
      let whole : rows_of (without page tree)
      ≡ map lowered first ++ (map lowered (kept (suc a) (a + m)) ++ map lowered behind) =
      rows_left
      ∙ (ap (λ rows. map lowered (failing moves rows))
      (two_splits (suc a) (a + m) (rows_of tree) (omega arith))
      ∙ (ap (map lowered) (filter-append (λ (row : Page). not (moves row))
      (take (suc a) (rows_of tree))
      (between (suc a) (a + m) (rows_of tree) ++ drop (a + m) (rows_of tree))
      ∙ ap (λ rows. first ++ rows) (filter-append (λ (row : Page). not (moves row))
      (between (suc a) (a + m) (rows_of tree)) (drop (a + m) (rows_of tree))))
      ∙ (map-append lowered first (kept (suc a) (a + m) ++ behind)
      ∙ ap (λ rows. map lowered first ++ rows)
      (map-append lowered (kept (suc a) (a + m)) behind)))) in
      let blocks : rows_of (without page tree) ≡ (b.front ++ b.top ∷ []) ++ (inner ++ b.behind) =
      b.rows_are ∙ sym (append_assoc b.front (b.top ∷ []) (inner ++ b.behind)) in
      let path_is : above.path ≡ b.top.path =
      sym (lower_keeps top.parent above).1 ∙ ap (λ (r : Page). r.path) parent_block.1 in
      let url_is : above.url ≡ b.top.url =
      sym (lower_keeps top.parent above).2 ∙ ap (λ (r : Page). r.url) parent_block.1 in
      let place_is : length (failing moves (take a (rows_of tree))) ≡ length b.front =
      sym parent_place ∙ (ap (place_of parent) (sym rows_left)
      ∙ place_in_block parent (without page tree) b) in
      let one = ap length (one_remaining (rows_of tree) moves p n together a above
      at.above_range.page at.stays)
      ∙ length-append (failing moves (take a (rows_of tree))) (above ∷ []) in
      let end_is : length (failing moves (take (a + m) (rows_of tree)))
      ≡ length b.front + suc (length inner) =
      sym parent_end ∙ (ap (end_of above.path) (sym rows_left ∙ b.rows_are)
      ∙ (ap (λ path. end_of path (b.front ++ (b.top ∷ (inner ++ b.behind)))) path_is
      ∙ end_of-parts b.top.path b.front b.top inner b.behind b.front_out (
        begins-self b.top.path,
        All-weaker _ (λ (row : Page). begins b.top.path row.path ≡ true)
            (λ (row : Page) on. begins-BeginsWith b.top.path row.path on) _
            (rows_begin (Some parent) b.top.path b.top.url kids),
      ) b.behind_out)) in
      let long_first = length-map first lowered in
      let long_front = length-append b.front (b.top ∷ []) in
      let heads = same_parts (map lowered first)
      (map lowered (kept (suc a) (a + m)) ++ map lowered behind) (b.front ++ b.top ∷ [])
      (inner ++ b.behind) (omega arith) (sym whole ∙ blocks) in
      let split = ap length (ap (failing moves)
      (take_split (suc a) (a + m) (rows_of tree) (omega arith))
      ∙ filter-append (λ (row : Page). not (moves row)) (take (suc a) (rows_of tree))
      (between (suc a) (a + m) (rows_of tree)))
      ∙ length-append first (kept (suc a) (a + m)) in
      let long_kept = length-map (kept (suc a) (a + m)) lowered in
      let tails = same_parts (map lowered (kept (suc a) (a + m))) (map lowered behind) inner
      b.behind (omega arith) heads.1 in
      tails.0 ∙ same_rows (Some parent) b.top.path above.path b.top.url above.url kids (sym path_is)
      (sym url_is)

  -- Each of them goes on from the parent's path by a step up to the last kid's.
  pub kids_go_on : AllByRecursion (λ (row : Page).
      GoesOn above.path 0 (last_step 0 (kids_of parent (without page tree))) row.path)
      (kept (suc a) (a + m))
  kids_go_on =
      let left = left_is_tree page tree (is_tree tree at.are) in
      let kids = kids_of parent (without page tree) in
      let rows = rows_go_on (Some parent) above.path above.url 0 kids
      (rising_kids parent 0 (without page tree) left.rising) in
      unmapped (kept (suc a) (a + m)) (subst (AllByRecursion (λ (row : Page).
      GoesOn above.path 0 (last_step 0 kids) row.path)) (sym kids_rows) rows)
    where
      unmapped : (rows : List Page) →
          AllByRecursion (λ (row : Page). GoesOn above.path 0
          (last_step 0 (kids_of parent (without page tree))) row.path)
          (map (lower_row top.parent) rows) →
          AllByRecursion (λ (row : Page). GoesOn above.path 0
          (last_step 0 (kids_of parent (without page tree))) row.path) rows
      unmapped [] all = tt
      unmapped (row ∷ rows) all = (
        subst (GoesOn above.path 0 (last_step 0 (kids_of parent (without page tree))))
            (lower_keeps top.parent row).1 all.0,
        unmapped rows all.1,
      )

  -- The step behind the last kid that is left, read off the last row that is left.
  pub last_kid : (last : Page) → last_of (kept a (a + m)) ≡ Some last →
      step_after above.path last.path
      ≡ last_step 0 (kids_of parent (without page tree)) + 1
  last_kid last is =
      let lowered : Page → Page = lower_row top.parent in
      let kids = kids_of parent (without page tree) in
      let some = range_some (rows_of tree) above a m at.above_range in
      let one : failing moves (above ∷ between (suc a) (a + m) (rows_of tree))
      ≡ above ∷ kept (suc a) (a + m) = rw at.stays refl in
      let rows : kept a (a + m) ≡ above ∷ kept (suc a) (a + m) =
      ap (failing moves) (between_next a (a + m) (rows_of tree) above at.above_range.page
      (omega arith)) ∙ one in
      let mapped : map lowered (kept a (a + m))
      ≡ lowered above ∷ rows_below (Some parent) above.path above.url kids =
      ap (map lowered) rows ∙ ap (λ xs. lowered above ∷ xs) kids_rows in
      let path_is = (lower_keeps top.parent above).1 in
      let url_is = (lower_keeps top.parent above).2 in
      let found : last_of (lowered above ∷ rows_below (Some parent) (lowered above).path
      (lowered above).url kids) ≡ Some (lowered last) =
      ap (λ xs. last_of (lowered above ∷ xs))
      (same_rows (Some parent) (lowered above).path above.path (lowered above).url above.url kids
      path_is url_is)
      ∙ (ap last_of (sym mapped)
      ∙ (last_of-map lowered (kept a (a + m)) ∙ ap (option_map lowered) is)) in
      let step = step_after-last parent (lowered above) (lowered last) kids found in
      same_step_after (lowered above).path above.path (lowered last).path last.path path_is
      (lower_keeps top.parent last).1 ∙ step
    where
      same_step_after : (path path' end end' : List ℕ) → path ≡ path' → end ≡ end' →
          step_after path' end' ≡ step_after path end
      same_step_after path path' end end' one more = rw (one, more) refl
