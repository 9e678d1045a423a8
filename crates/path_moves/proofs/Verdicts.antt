-- The answers of the program to a move, one by one.
use Rattle.std.proofs.Common.{◌≡◌, ◌⊎◌, inl, inr, ℕ, suc, ◌+◌, ◌-◌, ◌<◌, ◌≤◌, max, Bool, true, false, cond, nat_lt, List, [], ◌++◌, Option, Some, None, Result, Ok, Err, map, length, take, drop, slice_get, refl, ap, sym, ◌∙◌, subst, arith}
use Rattle.std.specs.List.{AllByRecursion}
use Rattle.std.specs.Option.{SomeIff}
use Rattle.std.specs.Str.{bytes_eq}
use Rattle.std.proofs.lemmas.Bool.{cases_lt}
use Rattle.std.proofs.lemmas.Bool.Decides.{nat_tests}
use Rattle.page_tree.specs.Tree.{Forest, Place, kids_of, last_step, without}
use Rattle.page_tree.specs.Rows.{rows_of}
use Rattle.step_path.specs.declared.path.TheConstants.{MAX_DEPTH}
use Rattle.step_path.specs.declared.step.TheConstants.{LAST_STEP}
use Rattle.step_path.specs.Path.{BeginsWith, IsPath, relabelled}
use Rattle.site_types.specs.declared.body.Body.{Body}
use Rattle.site_types.specs.declared.position.Position.{Position}
use Rattle.site_types.specs.declared.position.Position.TheVariants.{FirstChild, LastChild, FirstSibling, Left, Right, LastSibling}
use Rattle.tree_model.specs.Places.{is_beside, parent_at, place_at, place_behind, moved_to}
use Rattle.tree_model.specs.Limits.{height, is_full, is_too_deep}
use Rattle.tree_model.specs.Changes.{changed_paths}
use Rattle.tree_model.proofs.PlaceLemmas.{IsAmong, full_told}
use Rattle.page_store.specs.declared.plan.MovePlan.{MovePlan}
use Rattle.page_store.specs.Pages.{Page}
use Rattle.page_store.specs.Search.{begins}
use Rattle.page_store.proofs.AllLemmas.{All-both}
use Rattle.page_store.proofs.RangeLemmas.{All-drop}
use Rattle.page_store.proofs.WindowLemmas.{All-take, there_is}
use Rattle.page_store.proofs.InsertLemmas.{bytes_eq-self, same_bytes}
use Rattle.path_moves.specs.declared.fault.PathFault.{PathFault}
use Rattle.path_moves.specs.declared.fault.PathFault.TheVariants.{StepsFull, TooDeep}
use Rattle.path_moves.specs.declared.spot.Spot.{Spot}
use Rattle.path_moves.specs.declared.spot.Spot.TheVariants.{Before as AtPlace, End as AtEnd}
use Rattle.path_moves.specs.declared.standing.Standing.{Standing}
use Rattle.tree_rows.specs.Subtree.{last_of, step_after}
use Rattle.tree_rows.specs.Cuts.{other_rows}
use Rattle.path_moves.specs.Plans.{planned_move}
use Rattle.path_moves.specs.Spots.{spot_for, place_past, place_of_spot, place_without, last_place, path_of_spot, rows_between, moved_pair, raised_pair, FitBelow, GoesUp}
use Rattle.tree_rows.proofs.SubtreeLemmas.{range_some}
use Rattle.path_moves.proofs.Windows.{between, failing, Passes, between_none, fails_outside, passes_inside, none_fails, last_failing}
use Rattle.path_moves.proofs.Remaining.{found_id}
use Rattle.path_moves.proofs.Landing.{together, last_kid}
use Rattle.path_moves.proofs.Behind.{IsSpot, target_place, target_end, behind_spot}
use Rattle.path_moves.proofs.ChangedLemmas.{relabelled-self, relabelled-same}
use Rattle.path_moves.proofs.After.{spot_path}
use Rattle.path_moves.proofs.PlanParts as parts
use Rattle.path_moves.proofs.Planned.{Leads}

-- the answer with this plan
abbrev pub plan_with : ℕ → ℕ → ℕ → List (ℕ × List ℕ) → Result MovePlan PathFault
plan_with page parent place list = Ok (record {
  page = page;
  parent = parent;
  place = place;
  rows = list;
})

-- a test of a number above another
pub not_above : (n k : ℕ) → k ≤ n → nat_lt n k ≡ false
not_above n k few = grind (arith, nat_tests)

-- the same test where it is above
is_above : (n k : ℕ) → (k ≤ n → ⊥) → nat_lt n k ≡ true
is_above n k many = elim (cases_lt n k) [
  | inl more ↦ grind (arith, nat_tests)
  | inr few ↦ absurd (many few)
]

module _ (tree : Forest Body) (page target : ℕ) (position : Position) (own goal above : Standing)
    (it : Leads tree page target position own goal above) where
  -- whether a row moves
  abbrev moving : Page → Bool
  moving row = begins it.asks.top.path row.path

  -- the new parent
  abbrev parent : ℕ
  parent = parent_at tree target position

  -- the place among its kids that remain
  abbrev place : Place
  place = place_at (without page tree) target position

  -- the end of its rows
  abbrev end : ℕ
  end = above.place + above.count

  -- the spot of the position
  abbrev pub spot : Spot
  spot = spot_for position goal.place
      (place_past own.place own.count (goal.place + goal.count)) end

  -- the spot is the place
  pub spot_is : IsSpot (rows_of tree) moving place spot
  spot_is = by position refl
    where
      by : (pos : Position) → position ≡ pos →
          IsSpot (rows_of tree) moving (place_at (without page tree) target pos)
          (spot_for pos goal.place
          (place_past own.place own.count (goal.place + goal.count)) end)
      by FirstChild e = refl
      by LastChild e = refl
      by FirstSibling e = refl
      by LastSibling e = refl
      by Left e = (
        goal.place,
        it.asks.beside,
        refl,
        it.asks.goal_is.range.page,
        found_id target (rows_of tree) it.asks.beside it.asks.beside_found,
        it.outside,
      )
      by Right e =
          let right = it.new.right (ap is_beside e) in
          subst (λ q. IsSpot (rows_of tree) moving
          (place_behind target (kids_of q (without page tree)))
          (spot_for Right goal.place
          (place_past own.place own.count (goal.place + goal.count)) end)) (sym right.0)
          (behind_spot tree page parent target it.asks.top it.outer it.asks.beside own.place
          own.count above.place above.count goal.place goal.count it.at it.asks.beside_found
          it.asks.goal_is.range it.outside
          (subst (λ (r : Page). BeginsWith r.path it.asks.beside.path) it.same right.2)
          (subst (λ (r : Page). length r.path < length it.asks.beside.path) it.same right.3)
          right.1)

  -- it stands among the rows of the new parent
  pub within : (above.place < place_of_spot spot above.place end)
      × (place_of_spot spot above.place end ≤ end)
  within = by position refl
    where
      some : 0 < above.count
      some = range_some (rows_of tree) it.outer above.place above.count it.at.above_range

      sits : is_beside position ≡ true → (above.place < goal.place) × (goal.place < end)
          × (goal.place + goal.count ≤ end)
      sits on =
          let right = it.new.right on in
          let further = subst (λ (r : Page). BeginsWith r.path it.asks.beside.path) it.same right.2
          in
          let shorter = subst (λ (r : Page). length r.path < length it.asks.beside.path) it.same
          right.3 in
          let two = target_place tree page parent target it.asks.top it.outer it.asks.beside
          own.place own.count above.place above.count goal.place goal.count it.at
          it.asks.beside_found it.asks.goal_is.range it.outside further shorter in (
            two.0,
            two.1,
            target_end tree page parent target it.asks.top it.outer it.asks.beside
                own.place own.count above.place above.count goal.place goal.count it.at
                it.asks.beside_found it.asks.goal_is.range it.outside further shorter,
          )

      past : (p n k : ℕ) → k ≤ place_past p n k
      past p n k = choice (nat_lt k p)
        where
          choice : (t : Bool) → k ≤ cond t k (max k (p + n))
          choice true = omega arith
          choice false = omega arith

      by : (pos : Position) → position ≡ pos →
          (above.place < place_of_spot (spot_for pos goal.place
          (place_past own.place own.count (goal.place + goal.count)) end) above.place end)
          × (place_of_spot (spot_for pos goal.place
          (place_past own.place own.count (goal.place + goal.count)) end) above.place end ≤ end)
      by FirstChild e = let more = some in (omega arith, omega arith)
      by LastChild e = let more = some in (omega arith, omega arith)
      by FirstSibling e = let more = some in (omega arith, omega arith)
      by LastSibling e = let more = some in (omega arith, omega arith)
      by Left e =
          let at = sits (ap is_beside e) in
          let low = at.0 in
          let high = at.1 in (low, omega arith)
      by Right e =
          let at = sits (ap is_beside e) in
          let low = at.0 in
          let late = past own.place own.count (goal.place + goal.count) in
          let more = some in
          choice (place_past own.place own.count (goal.place + goal.count)) (omega arith)
        where
          choice : (next : ℕ) → above.place < next →
              (above.place < place_of_spot (cond (nat_lt next end) (AtPlace next) AtEnd)
              above.place end)
              × (place_of_spot (cond (nat_lt next end) (AtPlace next) AtEnd) above.place end
              ≤ end)
          choice next low = test (nat_lt next end) refl
            where
              test : (t : Bool) → nat_lt next end ≡ t →
                  (above.place < place_of_spot (cond t (AtPlace next) AtEnd) above.place end)
                  × (place_of_spot (cond t (AtPlace next) AtEnd) above.place end ≤ end)
              test true f =
                  let high : next < end = grind (arith, nat_tests) in (low, omega arith)
              test false f = let more = some in (omega arith, omega arith)

  -- the last row of the new parent that remains, at its place
  last_row : (last : Page)
      × (slice_get (rows_of tree) (last_place own.place own.count end) ≡ Some last)
      × (last_of (failing moving (between above.place end (rows_of tree))) ≡ Some last)
  last_row = by (nat_lt own.place end) refl (nat_lt (own.place + own.count) end) refl
    where
      on : Passes moving own.place own.count (rows_of tree)
      on = together tree page parent it.asks.top it.outer own.place own.count above.place
          above.count it.at

      some : 0 < above.count
      some = range_some (rows_of tree) it.outer above.place above.count it.at.above_range

      fits : end ≤ length (rows_of tree)
      fits = it.at.above_range.within

      row : (l : ℕ) → above.place ≤ l → l < end → (l < own.place) ⊎ (own.place + own.count ≤ l) →
          failing moving (between (suc l) end (rows_of tree)) ≡ [] →
          (last : Page) × (slice_get (rows_of tree) l ≡ Some last)
          × (last_of (failing moving (between above.place end (rows_of tree))) ≡ Some last)
      row l low high out none =
          let enough = fits in
          let there = there_is (rows_of tree) l (omega arith) in
          let fails = fails_outside moving own.place own.count (rows_of tree) on l there.0 there.1
          out in (
            there.0,
            there.1,
            last_failing moving own.place own.count (rows_of tree) on above.place l
                end there.0 low high there.1 fails none,
          )

      -- the parent's own row does not move
      stays : own.place < end → end ≤ own.place + own.count → above.place < own.place
      stays low high = elim (cases_lt above.place own.place) [
        | inl less ↦ less
        | inr more ↦
            let room = some in
            let passes = passes_inside moving own.place own.count (rows_of tree) on above.place
            it.outer it.at.above_range.page more (omega arith) in
            let fails = it.at.stays in absurd cc
      ]

      by : (s : Bool) → nat_lt own.place end ≡ s → (t : Bool) →
          nat_lt (own.place + own.count) end ≡ t →
          (last : Page) × (slice_get (rows_of tree)
          (cond s (cond t (end - 1) (own.place - 1)) (end - 1)) ≡ Some last)
          × (last_of (failing moving (between above.place end (rows_of tree))) ≡ Some last)
      by true e true f =
          let room = some in
          let high : own.place + own.count < end = grind (arith, nat_tests) in
          row (end - 1) (omega arith) (omega arith) (inr (omega arith))
          (ap (failing moving) (between_none (suc (end - 1)) end (rows_of tree) (omega arith)))
      by true e false f =
          let low : own.place < end = grind (arith, nat_tests) in
          let high : end ≤ own.place + own.count = grind (arith, nat_tests) in
          let less = stays low high in
          let one : suc (own.place - 1) ≡ own.place = omega arith in
          row (own.place - 1) (omega arith) (omega arith) (inl (omega arith))
          (ap (λ k. failing moving (between k end (rows_of tree))) one
          ∙ none_fails moving own.place own.count (rows_of tree) on own.place end (omega arith)
          high)
      by false e t f =
          let room = some in
          let low : end ≤ own.place = grind (arith, nat_tests) in
          row (end - 1) (omega arith) (omega arith) (inl (omega arith))
          (ap (failing moving) (between_none (suc (end - 1)) end (rows_of tree) (omega arith)))

  -- the step behind the last kid that remains
  abbrev pub next_step : ℕ
  next_step = last_step 0 (kids_of parent (without page tree)) + 1

  -- it is told by that row
  step_told : step_after above.path last_row.0.path ≡ next_step
  step_told =
      ap (λ path. step_after path last_row.0.path) it.outer_is.path_is
      ∙ last_kid tree page parent it.asks.top it.outer own.place own.count above.place above.count
      it.at last_row.0 last_row.2

  -- no step is left where the program finds none
  pub steps_full : ((last : Page) →
      slice_get (rows_of tree) (last_place own.place own.count end) ≡ Some last →
      SomeIff None (step_after above.path last.path ≤ LAST_STEP) (step_after above.path last.path)) →
      planned_move tree page target position ≡ Err StepsFull
  steps_full none =
      let never = none last_row.0 last_row.1 in
      let full : is_full (without page tree) parent place ≡ true =
      full_told (without page tree) parent place
      ∙ is_above LAST_STEP next_step (λ few. never (subst (λ k. k ≤ LAST_STEP) (sym step_told) few))
      in
      rw (it.not_into, full) refl

  -- the step that the program finds
  pub next_found : (next : ℕ) → ((last : Page) →
      slice_get (rows_of tree) (last_place own.place own.count end) ≡ Some last →
      SomeIff (Some next) (step_after above.path last.path ≤ LAST_STEP)
      (step_after above.path last.path)) →
      (next ≡ next_step) × (next_step ≤ LAST_STEP)
  next_found next made =
      let found = made last_row.0 last_row.1 in
      (found.1 ∙ step_told, subst (λ k. k ≤ LAST_STEP) step_told found.0)

  -- the place is among the kids that remain
  abbrev among : IsAmong place (kids_of parent (without page tree))
  among = it.new.among

  -- the new path of the page
  abbrev pub path : List ℕ
  path = parts.path tree page parent it.asks.top it.outer own.place own.count above.place
      above.count it.at place spot spot_is among within.0 within.1

  -- the rows that move
  abbrev own_rows : List Page
  own_rows = take own.count (drop own.place (rows_of tree))

  -- the later rows of the new parent
  abbrev later : List Page
  later = other_rows it.asks.top.path
      (rows_between (place_of_spot spot above.place end) end (rows_of tree))

  -- the path that the program finds
  pub path_found : (next : ℕ) (result : Option (List ℕ)) → next ≡ next_step →
      path_of_spot (rows_of tree) above.path next spot result →
      SomeIff result (length path ≤ MAX_DEPTH) path
  path_found next result is made =
      spot_path tree page parent it.asks.top it.outer own.place own.count above.place above.count
      it.at place spot spot_is among next result is
      (subst (λ own_path. path_of_spot (rows_of tree) own_path next spot result)
      it.outer_is.path_is made)

  -- a page has too many steps where one that moves has
  deep : next_step ≤ LAST_STEP → (FitBelow it.asks.top.path path own_rows → ⊥) →
      planned_move tree page target position ≡ Err TooDeep
  deep room many =
      let full : is_full (without page tree) parent place ≡ false =
      full_told (without page tree) parent place ∙ not_above LAST_STEP next_step room in
      let high : is_too_deep (moved_to tree page target position) ≡ true =
      is_above MAX_DEPTH (height (moved_to tree page target position))
      (λ few. many (parts.fits_after tree page parent it.asks.top it.outer own.place own.count
      above.place above.count it.at place spot spot_is among within.0 within.1 few)) in
      rw (it.not_into, full, high) refl

  -- where the page itself has too many steps
  pub deep_page : next_step ≤ LAST_STEP → (length path ≤ MAX_DEPTH → ⊥) →
      planned_move tree page target position ≡ Err TooDeep
  deep_page room many = deep room (λ fits.
      let rows = subst (FitBelow it.asks.top.path path)
      (parts.own_rows tree page parent it.asks.top it.outer own.place own.count above.place
      above.count it.at place spot spot_is among within.0 within.1) fits in
      many (subst (λ xs. length xs ≤ MAX_DEPTH) (relabelled-self it.asks.top.path path) rows.0))

  -- where one of those below it has
  pub deep_below : (new : List ℕ) → next_step ≤ LAST_STEP → new ≡ path →
      (FitBelow own.path new own_rows → ⊥) →
      planned_move tree page target position ≡ Err TooDeep
  deep_below new room is many = deep room (λ fits.
      many (subst (λ old. FitBelow old new own_rows) (sym it.asks.own_is.path_is)
      (subst (λ p. FitBelow it.asks.top.path p own_rows) (sym is) fits)))

  -- the step of each later row can be raised
  pub all_go_up : next_step ≤ LAST_STEP →
      AllByRecursion (λ (row : Page). GoesUp above.path row.path)
      (other_rows own.path (rows_between (place_of_spot spot above.place end) end (rows_of tree)))
  all_go_up room =
      subst (λ old. AllByRecursion (λ (row : Page). GoesUp above.path row.path)
      (other_rows old (rows_between (place_of_spot spot above.place end) end (rows_of tree))))
      (sym it.asks.own_is.path_is)
      (subst (λ outer. AllByRecursion (λ (row : Page). GoesUp outer row.path) later)
      (sym it.outer_is.path_is)
      (parts.later_go_up tree page parent it.asks.top it.outer own.place own.count above.place
      above.count it.at place spot spot_is among within.0 within.1 room))
