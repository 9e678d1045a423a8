-- The rows after a move to a spot, by the rows before it.
use Rattle.std.proofs.Common.{◌≡◌, ℕ, ◌+◌, ◌<◌, ◌≤◌, Bool, true, false, cond, not, List, [], ◌∷◌, ◌++◌, Option, Some, None, map, length, take, drop, refl, ap, sym, ◌∙◌, subst, arith, append_assoc, add-one}
use Rattle.std.specs.Option.{option_map, SomeIff}
use Rattle.std.proofs.lemmas.Simd.{map-map}
use Rattle.std.proofs.lemmas.List.{map-append, length-map, length_push}
use Rattle.std.proofs.lemmas.List.Elements.{filter-append}
use Rattle.std.proofs.Math.Seq.{take-append_seam, drop-append_seam}
use Rattle.page_tree.specs.Tree.{Forest, Place, First, Before, End, kids_of, last_step, moved, without}
use Rattle.page_tree.specs.Rows.{child_url, row_with, rows_of, raise_count, with_kid, is_parent}
use Rattle.step_path.specs.declared.path.TheConstants.{MAX_DEPTH}
use Rattle.step_path.specs.Path.{IsPath}
use Rattle.site_types.specs.declared.body.Body.{Body}
use Rattle.tree_model.proofs.PlaceLemmas.{IsAmong}
use Rattle.page_store.specs.Pages.{Page}
use Rattle.page_store.specs.Search.{begins}
use Rattle.page_store.proofs.RangeLemmas.{All-at}
use Rattle.path_moves.specs.declared.spot.Spot.{Spot}
use Rattle.tree_rows.specs.Subtree.{subtree_rows}
use Rattle.tree_rows.specs.Cuts.{lower_row, cut_rows, moved_rows, raise_row, end_of, put_from}
use Rattle.path_moves.specs.Spots.{place_of_spot, path_of_spot}
use Rattle.tree_rows.proofs.SubtreeLemmas.{found_at_place}
use Rattle.path_moves.proofs.MoveLaws.{IsPut, TakesStep, is_tree, move_put, spot_place, end_of-map}
use Rattle.path_moves.proofs.Windows.{between, failing, two_splits, take_split}
use Rattle.path_moves.proofs.Remaining.{lower_keeps, place_of-map, row_with-cut, place_remaining, one_remaining}
use Rattle.path_moves.proofs.Landing.{Grounds, together, rows_left, parent_left, parent_place, parent_end}
use Rattle.path_moves.proofs.Behind.{IsSpot}

-- rows put in among others, whose parts are known
put_from-known : (path : List ℕ) (new rows front middle behind : List Page) (here : ℕ) →
    rows ≡ front ++ (middle ++ behind) → here ≡ length front →
    end_of path rows ≡ length (front ++ middle) →
    put_from path here new rows
    ≡ front ++ (new ++ (map (raise_row (length path)) middle ++ behind))
put_from-known path new rows front middle behind here is place end =
    let whole : rows ≡ (front ++ middle) ++ behind = is ∙ sym (append_assoc front middle behind) in
    let taken : take (end_of path rows) rows ≡ front ++ middle =
    ap (λ n. take n rows) end ∙ (ap (take (length (front ++ middle))) whole
    ∙ take-append_seam (front ++ middle) behind) in
    let left : drop (end_of path rows) rows ≡ behind =
    ap (λ n. drop n rows) end ∙ (ap (drop (length (front ++ middle))) whole
    ∙ drop-append_seam (front ++ middle) behind) in
    let inner : drop here (front ++ middle) ≡ middle =
    ap (λ n. drop n (front ++ middle)) place ∙ drop-append_seam front middle in
    let first : take here rows ≡ front =
    ap (λ n. take n rows) place ∙ (ap (take (length front)) is
    ∙ take-append_seam front (middle ++ behind)) in
    parts first (ap (drop here) taken ∙ inner) left
  where
    parts : take here rows ≡ front → drop here (take (end_of path rows) rows) ≡ middle →
        drop (end_of path rows) rows ≡ behind → put_from path here new rows
        ≡ front ++ (new ++ (map (raise_row (length path)) middle ++ behind))
    parts a b c =
        ap (λ xs. xs ++ (new ++ (map (raise_row (length path)) (drop here
        (take (end_of path rows) rows)) ++ drop (end_of path rows) rows))) a
        ∙ (ap (λ xs. front ++ (new ++ (map (raise_row (length path)) xs
        ++ drop (end_of path rows) rows))) b
        ∙ ap (λ xs. front ++ (new ++ (map (raise_row (length path)) middle ++ xs))) c)

module _ (tree : Forest Body) (page parent : ℕ) (top above : Page) (p n a m : ℕ)
    (at : Grounds tree page parent top above p n a m) where
  -- a row after the move, where it stays: its parent has lost a kid, or won one
  abbrev pub counted : Page → Page
  counted row = cond (is_parent (lower_row top.parent row).id (Some parent))
      (with_kid (lower_row top.parent row)) (lower_row top.parent row)

  -- it keeps its id and its path
  pub counted_keeps : (row : Page) →
      ((counted row).id ≡ row.id) × ((counted row).path ≡ row.path)
  counted_keeps row =
      by (is_parent (lower_row top.parent row).id (Some parent))
    where
      by : (t : Bool) →
          ((cond t (with_kid (lower_row top.parent row)) (lower_row top.parent row)).id ≡ row.id)
          × ((cond t (with_kid (lower_row top.parent row)) (lower_row top.parent row)).path
          ≡ row.path)
      by true = ((lower_keeps top.parent row).0, (lower_keeps top.parent row).1)
      by false = ((lower_keeps top.parent row).0, (lower_keeps top.parent row).1)

  -- the rows that do not move, counted anew
  pub counted_rows : raise_count (Some parent) (cut_rows top (rows_of tree))
      ≡ map counted (failing (λ (row : Page). begins top.path row.path) (rows_of tree))
  counted_rows =
      map-map (λ (row : Page). cond (is_parent row.id (Some parent)) (with_kid row) row)
      (lower_row top.parent)
      (failing (λ (row : Page). begins top.path row.path) (rows_of tree))

  module _ (place : Place) (spot : Spot)
      (spot_is : IsSpot (rows_of tree) (λ (row : Page). begins top.path row.path) place spot)
      (among : IsAmong place (kids_of parent (without page tree))) where
    -- the move, as one law for all places
    pub put : IsPut page parent place tree top (lower_row top.parent above)
    put = move_put page parent place tree top (lower_row top.parent above) (is_tree tree at.are)
        at.found (parent_left tree page parent top above p n a m at) among

    -- the place among the rows that remain is told by the spot
    pub spot_count : spot_place place parent (lower_row top.parent above).path
        (cut_rows top (rows_of tree))
        ≡ length (failing (λ (row : Page). begins top.path row.path)
        (take (place_of_spot spot a (a + m)) (rows_of tree)))
    spot_count = by place spot_is
      where
        moving : Page → Bool
        moving row = begins top.path row.path

        by : (place : Place) → IsSpot (rows_of tree) moving place spot →
            spot_place place parent (lower_row top.parent above).path (cut_rows top (rows_of tree))
            ≡ length (failing moving (take (place_of_spot spot a (a + m)) (rows_of tree)))
        by First is =
            ap (λ k. k + 1) (parent_place tree page parent top above p n a m at)
            ∙ (sym (length_push (failing moving (take a (rows_of tree))) above)
            ∙ (ap length (sym (one_remaining (rows_of tree) moving p n
            (together tree page parent top above p n a m at) a above at.above_range.page at.stays))
            ∙ (ap (λ k. length (failing moving (take k (rows_of tree)))) (sym (add-one a))
            ∙ ap (λ s. length (failing moving (take (place_of_spot s a (a + m)) (rows_of tree))))
            (sym is))))
        by End is =
            ap (λ path. end_of path (cut_rows top (rows_of tree))) (lower_keeps top.parent above).1
            ∙ (parent_end tree page parent top above p n a m at
            ∙ ap (λ s. length (failing moving (take (place_of_spot s a (a + m)) (rows_of tree))))
            (sym is))
        by (Before id) (k, row, is, here, id_is, out) =
            place_of-map id (lower_row top.parent) (λ r. (lower_keeps top.parent r).0)
            (failing moving (rows_of tree))
            ∙ (place_remaining (rows_of tree) moving p n
            (together tree page parent top above p n a m at) k id row at.are.own_ids here id_is out
            ∙ ap (λ s. length (failing moving (take (place_of_spot s a (a + m)) (rows_of tree))))
            (sym is))

    -- The rows after the move: those before the spot, those that moved, the later ones of the new
    -- parent with their step raised, and the rest.
    pub after_is : place_of_spot spot a (a + m) ≤ a + m →
        rows_of (moved page parent place tree)
        ≡ map counted (failing (λ (row : Page). begins top.path row.path)
        (take (place_of_spot spot a (a + m)) (rows_of tree)))
        ++ (moved_rows parent (above.path ++ put.step ∷ []) (child_url above.url top.slug)
        (subtree_rows top.path (rows_of tree))
        ++ (map (raise_row (length above.path))
        (map counted (failing (λ (row : Page). begins top.path row.path)
        (between (place_of_spot spot a (a + m)) (a + m) (rows_of tree))))
        ++ map counted (failing (λ (row : Page). begins top.path row.path)
        (drop (a + m) (rows_of tree)))))
    after_is within =
        let pages = rows_of tree in
        let moving : Page → Bool = λ row. begins top.path row.path in
        let from = place_of_spot spot a (a + m) in
        let front = failing moving (take from pages) in
        let middle = failing moving (between from (a + m) pages) in
        let behind = failing moving (drop (a + m) pages) in
        let parts : failing moving pages ≡ front ++ (middle ++ behind) =
        ap (failing moving) (two_splits from (a + m) pages within)
        ∙ (filter-append (λ (row : Page). not (moving row)) (take from pages)
        (between from (a + m) pages ++ drop (a + m) pages)
        ∙ ap (λ xs. front ++ xs) (filter-append (λ (row : Page). not (moving row))
        (between from (a + m) pages) (drop (a + m) pages))) in
        let rows : raise_count (Some parent) (cut_rows top pages)
        ≡ map counted front ++ (map counted middle ++ map counted behind) =
        counted_rows ∙ (ap (map counted) parts
        ∙ (map-append counted front (middle ++ behind)
        ∙ ap (λ xs. map counted front ++ xs) (map-append counted middle behind))) in
        let first : failing moving (take (a + m) pages) ≡ front ++ middle =
        ap (failing moving) (take_split from (a + m) pages within)
        ∙ filter-append (λ (row : Page). not (moving row)) (take from pages)
        (between from (a + m) pages) in
        let end : end_of above.path (raise_count (Some parent) (cut_rows top pages))
        ≡ length (map counted front ++ map counted middle) =
        end_of-map above.path
        (λ (row : Page). cond (is_parent row.id (Some parent)) (with_kid row) row)
        (Rattle.path_moves.proofs.MoveLaws.raised_keeps (Some parent)) (cut_rows top pages)
        ∙ (parent_end tree page parent top above p n a m at
        ∙ (ap length first ∙ (sym (length-map (front ++ middle) counted)
        ∙ ap length (map-append counted front middle)))) in
        let law = put.rows_are in
        let path_is = (lower_keeps top.parent above).1 in
        let url_is = (lower_keeps top.parent above).2 in
        law ∙ (same_put (lower_row top.parent above).path above.path
        (lower_row top.parent above).url above.url
        (spot_place place parent (lower_row top.parent above).path (cut_rows top pages)) path_is
        url_is
        ∙ put_from-known above.path
        (moved_rows parent (above.path ++ put.step ∷ []) (child_url above.url top.slug)
        (subtree_rows top.path pages)) (raise_count (Some parent) (cut_rows top pages))
        (map counted front) (map counted middle) (map counted behind)
        (spot_place place parent (lower_row top.parent above).path (cut_rows top pages)) rows
        (spot_count ∙ sym (length-map front counted)) end)
      where
        same_put : (path path' url url' : List ℕ) (here : ℕ) → path ≡ path' → url ≡ url' →
            put_from path here (moved_rows parent (path ++ put.step ∷ [])
            (child_url url top.slug) (subtree_rows top.path (rows_of tree)))
            (raise_count (Some parent) (cut_rows top (rows_of tree)))
            ≡ put_from path' here (moved_rows parent (path' ++ put.step ∷ [])
            (child_url url' top.slug) (subtree_rows top.path (rows_of tree)))
            (raise_count (Some parent) (cut_rows top (rows_of tree)))
        same_put path path' url url' here one more = rw (one, more) refl

    -- The path of the page at the spot.
    pub spot_path : (next : ℕ) (result : Option (List ℕ)) →
        next ≡ last_step 0 (kids_of parent (without page tree)) + 1 →
        path_of_spot (rows_of tree) above.path next spot result →
        SomeIff result (length (above.path ++ put.step ∷ []) ≤ MAX_DEPTH)
        (above.path ++ put.step ∷ [])
    spot_path next result next_is made = by place spot_is put.step put.takes
      where
        moving : Page → Bool
        moving row = begins top.path row.path

        room : (step : ℕ) (o : Option (List ℕ)) → (taken : ℕ) → taken ≡ step →
            SomeIff o (length above.path < MAX_DEPTH) (above.path ++ step ∷ []) →
            SomeIff o (length (above.path ++ taken ∷ []) ≤ MAX_DEPTH) (above.path ++ taken ∷ [])
        room step None taken same made =
            λ fits. made (let long = length_push above.path taken in omega (arith, long, fits))
        room step (Some path) taken same made =
            let long = length_push above.path taken in
            let short = made.0 in (
              omega (arith, long, short),
              made.1 ∙ ap (λ s. above.path ++ s ∷ []) (sym same),
            )

        by : (place : Place) → IsSpot (rows_of tree) moving place spot → (step : ℕ) →
            TakesStep place parent (lower_row top.parent above).path (without page tree) step →
            SomeIff result (length (above.path ++ step ∷ []) ≤ MAX_DEPTH)
            (above.path ++ step ∷ [])
        by First is step takes =
            room 1 result step takes (subst (λ s. path_of_spot (rows_of tree) above.path next s
            result) is made)
        by End is step takes =
            room next result step (takes ∙ sym next_is) (subst (λ s. path_of_spot (rows_of tree)
            above.path next s result) is made)
        by (Before id) (k, row, is, here, id_is, out) step (kid, found, kid_path) =
            let own = found_at_place (rows_of tree) k row at.are here in
            let own_id = ap (λ i. row_with i (rows_of tree)) (sym id_is) ∙ own in
            let left = ap (row_with id) (rows_left tree page parent top above p n a m at)
            ∙ row_with-cut id top.parent moving (rows_of tree) row own_id out in
            let same : kid ≡ lower_row top.parent row = cc in
            let path_is : row.path ≡ above.path ++ step ∷ [] =
            sym (lower_keeps top.parent row).1 ∙ (ap (λ (r : Page). r.path) (sym same)
            ∙ (kid_path ∙ ap (λ path. path ++ step ∷ []) (lower_keeps top.parent above).1)) in
            let path = All-at (λ (r : Page). IsPath r.path) k (rows_of tree) row at.are.paths here in
            let short = path.within in
            let long = ap length path_is in
            let read : result ≡ Some row.path =
            subst (λ s. path_of_spot (rows_of tree) above.path next s result) is made
            ∙ ap (option_map (λ (r : Page). r.path)) here in
            subst (λ o. SomeIff o (length (above.path ++ step ∷ []) ≤ MAX_DEPTH)
            (above.path ++ step ∷ [])) (sym read) (omega arith, path_is)
