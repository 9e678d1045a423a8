-- The plan of a move, where the program finds that no rule refuses it.
use Rattle.std.proofs.Common.{◌≡◌, ◌⊎◌, inl, inr, ℕ, suc, ◌+◌, ◌-◌, ◌<◌, ◌≤◌, max, Bool, true, false, cond, nat_lt, List, [], ◌++◌, Option, Some, None, Result, Ok, Err, map, length, take, drop, slice_get, refl, ap, sym, ◌∙◌, subst, arith}
use Rattle.std.specs.List.{AllByRecursion}
use Rattle.std.specs.Option.{SomeIff}
use Rattle.std.specs.Str.{bytes_eq}
use Rattle.std.proofs.lemmas.Bool.{cases_lt}
use Rattle.std.proofs.lemmas.Bool.Decides.{nat_tests}
use Rattle.page_tree.specs.Tree.{Forest, Place, kids_of, last_step, without}
use Rattle.page_tree.specs.Rows.{rows_of}
use Rattle.step_path.specs.declared.path.TheConstants.{MAX_DEPTH}
use Rattle.step_path.specs.declared.step.TheConstants.{LAST_STEP}
use Rattle.step_path.specs.Path.{BeginsWith, IsPath, relabelled}
use Rattle.site_types.specs.declared.body.Body.{Body}
use Rattle.site_types.specs.declared.position.Position.{Position}
use Rattle.site_types.specs.declared.position.Position.TheVariants.{FirstChild, LastChild, FirstSibling, Left, Right, LastSibling}
use Rattle.tree_model.specs.Places.{is_beside, parent_at, place_at, place_behind, moved_to}
use Rattle.tree_model.specs.Limits.{height, is_full, is_too_deep}
use Rattle.tree_model.specs.Changes.{changed_paths}
use Rattle.tree_model.proofs.PlaceLemmas.{IsAmong, full_told}
use Rattle.page_store.specs.declared.plan.MovePlan.{MovePlan}
use Rattle.page_store.specs.Pages.{Page}
use Rattle.page_store.specs.Search.{begins}
use Rattle.page_store.proofs.AllLemmas.{All-both}
use Rattle.page_store.proofs.RangeLemmas.{All-drop}
use Rattle.page_store.proofs.WindowLemmas.{All-take, there_is}
use Rattle.page_store.proofs.InsertLemmas.{bytes_eq-self, same_bytes}
use Rattle.path_moves.specs.declared.fault.PathFault.{PathFault}
use Rattle.path_moves.specs.declared.fault.PathFault.TheVariants.{StepsFull, TooDeep}
use Rattle.path_moves.specs.declared.spot.Spot.{Spot}
use Rattle.path_moves.specs.declared.spot.Spot.TheVariants.{Before as AtPlace, End as AtEnd}
use Rattle.path_moves.specs.declared.standing.Standing.{Standing}
use Rattle.tree_rows.specs.Subtree.{last_of, step_after}
use Rattle.tree_rows.specs.Cuts.{other_rows}
use Rattle.path_moves.specs.Plans.{planned_move}
use Rattle.path_moves.specs.Spots.{spot_for, place_past, place_of_spot, place_without, last_place, path_of_spot, rows_between, moved_pair, raised_pair, FitBelow, GoesUp}
use Rattle.tree_rows.proofs.SubtreeLemmas.{range_some}
use Rattle.path_moves.proofs.Windows.{between, failing, Passes, between_none, fails_outside, passes_inside, none_fails, last_failing}
use Rattle.path_moves.proofs.Remaining.{found_id}
use Rattle.path_moves.proofs.Landing.{together, last_kid}
use Rattle.path_moves.proofs.Behind.{IsSpot, target_place, target_end, behind_spot}
use Rattle.path_moves.proofs.ChangedLemmas.{relabelled-self, relabelled-same}
use Rattle.path_moves.proofs.After.{spot_path}
use Rattle.path_moves.proofs.PlanParts as parts
use Rattle.path_moves.proofs.Planned.{Leads}
use Rattle.path_moves.proofs.Verdicts as first
use Rattle.path_moves.proofs.Verdicts.{plan_with, not_above}

module _ (tree : Forest Body) (page target : ℕ) (position : Position) (own goal above : Standing)
    (it : Leads tree page target position own goal above) where
  -- whether a row moves
  abbrev moving : Page → Bool
  moving row = begins it.asks.top.path row.path

  -- the new parent
  abbrev parent : ℕ
  parent = parent_at tree target position

  -- the place among its kids that remain
  abbrev place : Place
  place = place_at (without page tree) target position

  -- the end of its rows
  abbrev end : ℕ
  end = above.place + above.count

  -- the spot of the position
  abbrev spot : Spot
  spot = first.spot tree page target position own goal above it

  -- the spot is the place
  abbrev spot_is : IsSpot (rows_of tree) moving place spot
  spot_is = first.spot_is tree page target position own goal above it

  -- it stands among the rows of the new parent
  abbrev within : (above.place < place_of_spot spot above.place end)
      × (place_of_spot spot above.place end ≤ end)
  within = first.within tree page target position own goal above it

  -- the step behind the last kid that remains
  abbrev next_step : ℕ
  next_step = first.next_step tree page target position own goal above it

  -- the place is among the kids that remain
  abbrev among : IsAmong place (kids_of parent (without page tree))
  among = it.new.among

  -- the new path of the page
  abbrev path : List ℕ
  path = first.path tree page target position own goal above it

  -- the rows that move
  abbrev own_rows : List Page
  own_rows = take own.count (drop own.place (rows_of tree))

  -- the later rows of the new parent
  abbrev later : List Page
  later = other_rows it.asks.top.path
      (rows_between (place_of_spot spot above.place end) end (rows_of tree))

  -- with its own path each has few enough steps
  fits_same : path ≡ it.asks.top.path → FitBelow it.asks.top.path path own_rows
  fits_same same =
      All-both (λ (row : Page). BeginsWith it.asks.top.path row.path)
      (λ (row : Page). IsPath row.path)
      (λ (row : Page). length (relabelled it.asks.top.path path row.path) ≤ MAX_DEPTH)
      (λ (row : Page) on is. subst (λ xs. length xs ≤ MAX_DEPTH)
      (sym (relabelled-same it.asks.top.path path row.path on same)) is.within) own_rows
      it.at.range.inside
      (All-take (λ (row : Page). IsPath row.path) own.count (drop own.place (rows_of tree))
      (All-drop (λ (row : Page). IsPath row.path) own.place (rows_of tree) it.at.are.paths))

  -- the plan, where the changes are known
  planned : (list : List (ℕ × List ℕ)) → next_step ≤ LAST_STEP →
      FitBelow it.asks.top.path path own_rows →
      list ≡ changed_paths (rows_of tree) (rows_of (moved_to tree page target position)) →
      planned_move tree page target position ≡ Ok (record {
        page = page;
        parent = parent;
        place = place_without own.place own.count (place_of_spot spot above.place end);
        rows = list;
      })
  planned list room fits is =
      let full : is_full (without page tree) parent place ≡ false =
      full_told (without page tree) parent place ∙ not_above LAST_STEP next_step room in
      let few = parts.after_fits tree page parent it.asks.top it.outer own.place own.count
      above.place above.count it.at place spot spot_is among within.0 within.1 fits in
      let shallow : is_too_deep (moved_to tree page target position) ≡ false =
      not_above MAX_DEPTH (height (moved_to tree page target position)) few in
      let here = parts.place_after tree page parent it.asks.top it.outer own.place own.count
      above.place above.count it.at place spot spot_is among within.0 within.1 in
      rw (it.not_into, full, shallow) (same_plan _ _ _ _ here (sym is))
    where
      same_plan : (k k' : ℕ) (list list' : List (ℕ × List ℕ)) → k ≡ k' → list ≡ list' →
          plan_with page parent k list ≡ plan_with page parent k' list'
      same_plan k k' list list' one more = rw (one, more) refl

  -- The plan that the program makes.
  pub plan_made : (new : List ℕ) (list : List (ℕ × List ℕ)) → next_step ≤ LAST_STEP →
      new ≡ path →
      (own.path ≡ new → list ≡ map (raised_pair (length above.path)) (other_rows own.path
      (rows_between (place_of_spot spot above.place end) end (rows_of tree)))) →
      ((own.path ≡ new → ⊥) → list ≡ map (moved_pair own.path new) own_rows
      ++ map (raised_pair (length above.path)) (other_rows own.path
      (rows_between (place_of_spot spot above.place end) end (rows_of tree)))) →
      ((own.path ≡ new → ⊥) → FitBelow own.path new own_rows) →
      planned_move tree page target position ≡ Ok (record {
        page = page;
        parent = parent;
        place = place_without own.place own.count (place_of_spot spot above.place end);
        rows = list;
      })
  plan_made new list room is same other fits =
      by (bytes_eq own.path new) refl
    where
      raised_is : map (raised_pair (length above.path)) (other_rows own.path
          (rows_between (place_of_spot spot above.place end) end (rows_of tree)))
          ≡ map (raised_pair (length it.outer.path)) later
      raised_is =
          ap (λ p. map (raised_pair (length p)) (other_rows own.path
          (rows_between (place_of_spot spot above.place end) end (rows_of tree))))
          it.outer_is.path_is
          ∙ ap (λ p. map (raised_pair (length it.outer.path)) (other_rows p
          (rows_between (place_of_spot spot above.place end) end (rows_of tree))))
          it.asks.own_is.path_is

      moved_is : map (moved_pair own.path new) own_rows
          ≡ map (moved_pair it.asks.top.path path) own_rows
      moved_is =
          ap (λ p. map (moved_pair p new) own_rows) it.asks.own_is.path_is
          ∙ ap (λ p. map (moved_pair it.asks.top.path p) own_rows) is

      by : (t : Bool) → bytes_eq own.path new ≡ t →
          planned_move tree page target position ≡ Ok (record {
            page = page;
            parent = parent;
            place = place_without own.place own.count (place_of_spot spot above.place end);
            rows = list;
          })
      by true e =
          let one = same_bytes own.path new e in
          let keeps : path ≡ it.asks.top.path = sym is ∙ (sym one ∙ it.asks.own_is.path_is) in
          planned list room (fits_same keeps)
          (same one ∙ (raised_is ∙ sym (parts.changed_same tree page parent it.asks.top it.outer
          own.place own.count above.place above.count it.at place spot spot_is among within.0
          within.1 keeps)))
      by false e =
          let differs : own.path ≡ new → ⊥ = λ one.
          (let never : bytes_eq own.path new ≡ true =
          ap (λ p. bytes_eq own.path p) (sym one) ∙ bytes_eq-self own.path in cc) in
          let changes : path ≡ it.asks.top.path → ⊥ = λ keeps.
          differs (it.asks.own_is.path_is ∙ (sym keeps ∙ sym is)) in
          planned list room
          (subst (λ old. FitBelow old path own_rows) it.asks.own_is.path_is
          (subst (λ p. FitBelow own.path p own_rows) is (fits differs)))
          (other differs ∙ (ap (λ xs. xs ++ map (raised_pair (length above.path)) (other_rows
          own.path (rows_between (place_of_spot spot above.place end) end (rows_of tree))))
          moved_is
          ∙ (ap (λ xs. map (moved_pair it.asks.top.path path) own_rows ++ xs) raised_is
          ∙ sym (parts.changed_other tree page parent it.asks.top it.outer own.place own.count
          above.place above.count it.at place spot spot_is among within.0 within.1 changes))))
