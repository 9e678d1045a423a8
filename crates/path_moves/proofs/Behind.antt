-- The place behind a page among its siblings that remain, read off the rows.
use Rattle.std.proofs.Common.{◌≡◌, ◌⊎◌, inl, inr, ℕ, suc, ◌+◌, ◌-◌, ◌<◌, ◌≤◌, max, nat_lt, Bool, true, false, cond, not, nat_eq, ◌||◌, List, [], ◌∷◌, ◌++◌, Option, Some, map, length, slice_get, refl, ap, sym, ◌∙◌, subst, arith, append_assoc}
use Rattle.std.specs.List.{AllByRecursion}
use Rattle.std.proofs.lemmas.Bool.{cases_lt}
use Rattle.std.proofs.lemmas.Bool.Decides.{nat_tests}
use Rattle.std.proofs.lemmas.List.{map-append}
use Rattle.std.proofs.lemmas.List.Elements.{filter-append}
use Rattle.page_tree.specs.Tree.{Forest, bare, grown, Place, First, Before, End, AreRising, kids_of, last_step, without}
use Rattle.page_tree.specs.Walk.{kid_count}
use Rattle.page_tree.specs.Rows.{child_url, row_with, rows_below, rows_of}
use Rattle.site_types.specs.declared.body.Body.{Body}
use Rattle.tree_model.specs.Places.{before_first, place_behind}
use Rattle.tree_model.proofs.PlaceLemmas.{has_kid}
use Rattle.page_store.specs.PageRows.{IsRange}
use Rattle.page_store.specs.Pages.{Page, HasOtherId}
use Rattle.page_store.specs.Search.{begins}
use Rattle.page_store.proofs.PathOrder.{begins-self, begins-BeginsWith}
use Rattle.page_store.proofs.AllLemmas.{All-weaker}
use Rattle.page_store.proofs.RangeLemmas.{pairs_at}
use Rattle.page_store.proofs.WindowLemmas.{there_is}
use Rattle.step_path.specs.Path.{BeginsWith}
use Rattle.path_moves.specs.declared.spot.Spot.{Spot}
use Rattle.path_moves.specs.declared.spot.Spot.TheVariants.{First as AtFirst, Before as AtPlace, End as AtEnd}
use Rattle.tree_rows.specs.Cuts.{lower_row}
use Rattle.path_moves.specs.Spots.{place_past}
use Rattle.tree_rows.proofs.Paths.{rows_go_on, earlier_out}
use Rattle.tree_rows.proofs.SubtreeLemmas.{rows_begin, range_some}
use Rattle.path_moves.proofs.PlaceLemmas.{same_place}
use Rattle.path_moves.proofs.MoveLaws.{is_tree, left_is_tree}
use Rattle.path_moves.proofs.Windows.{between, failing, Passes, between_split, between_next, between_none, All-front, All-behind, All-narrower, fails_outside, passes_inside, none_fails}
use Rattle.path_moves.proofs.Remaining.{All-kept, same_parts, passes_range, found_id, lower_keeps}
use Rattle.path_moves.proofs.Landing.{Grounds, kept, together, kids_rows, rising_kids}
use Rattle.path_moves.proofs.BehindKids.{BehindKid, behind_kid, split_by_test, All-lowered}

-- A spot among the rows is a place among the kids that remain.
abbrev pub IsSpot : List Page → (Page → Bool) → Place → Spot → Type 0
IsSpot pages moving First spot = spot ≡ AtFirst
IsSpot pages moving (Before id) spot =
    (place : ℕ) × (row : Page) × (spot ≡ AtPlace place) × (slice_get pages place ≡ Some row)
    × (row.id ≡ id) × (moving row ≡ false)
IsSpot pages moving End spot = spot ≡ AtEnd

-- the first row that remains of a window, by its place
record FirstKept (pages : List Page) (moving : Page → Bool) (p n from end : ℕ) : Type 0 where
  pub row : Page
  pub later : List Page
  pub at : slice_get pages (place_past p n from) ≡ Some row
  pub fails : moving row ≡ false
  pub rows_are : failing moving (between from end pages) ≡ row ∷ later

-- the row at the place past those that move, where that is within the window
first_kept : (pages : List Page) (moving : Page → Bool) (p n from end : ℕ) →
    Passes moving p n pages → end ≤ length pages → place_past p n from < end →
    FirstKept pages moving p n from end
first_kept pages moving p n from end on within low =
    by (nat_lt from p) refl low
  where
    kept_at : (next : ℕ) → next < end → from ≤ next →
        failing moving (between from next pages) ≡ [] → (next < p) ⊎ (p + n ≤ next) →
        place_past p n from ≡ next → FirstKept pages moving p n from end
    kept_at next low late none out is =
        let there = there_is pages next (omega arith) in
        let fails = fails_outside moving p n pages on next there.0 there.1 out in
        let one : failing moving (there.0 ∷ between (suc next) end pages)
        ≡ there.0 ∷ failing moving (between (suc next) end pages) = rw fails refl in
        record {
          row = there.0;
          later = failing moving (between (suc next) end pages);
          at = ap (slice_get pages) is ∙ there.1;
          fails = fails;
          rows_are = ap (failing moving) (between_split from next end pages late (omega arith))
              ∙ (filter-append (λ (row : Page). not (moving row)) (between from next pages)
              (between next end pages)
              ∙ (ap (λ rows. rows ++ failing moving (between next end pages)) none
              ∙ (ap (failing moving) (between_next next end pages there.0 there.1 low) ∙ one)));
        }

    by : (t : Bool) → nat_lt from p ≡ t →
        cond t from (max from (p + n)) < end → FirstKept pages moving p n from end
    by true e low =
        let early : from < p = grind (arith, nat_tests) in
        kept_at from low (omega arith)
        (ap (failing moving) (between_none from from pages (omega arith))) (inl early) (rw e refl)
    by false e low =
        let late : p ≤ from = grind (arith, nat_tests) in
        elim (cases_lt from (p + n)) [
          | inl inside ↦
              let most : max from (p + n) ≡ p + n = omega arith in
              kept_at (p + n) (omega arith) (omega arith)
              (none_fails moving p n pages on from (p + n) late (omega arith))
              (inr (omega arith)) (rw e most)
          | inr past ↦
              let most : max from (p + n) ≡ from = omega arith in
              kept_at from (omega arith) (omega arith)
              (ap (failing moving) (between_none from from pages (omega arith))) (inr past)
              (rw e most)
        ]

-- and none remains where it is not
none_kept : (pages : List Page) (moving : Page → Bool) (p n from end : ℕ) →
    Passes moving p n pages → end ≤ place_past p n from →
    failing moving (between from end pages) ≡ []
none_kept pages moving p n from end on high = by (nat_lt from p) refl high
  where
    by : (t : Bool) → nat_lt from p ≡ t → end ≤ cond t from (max from (p + n)) →
        failing moving (between from end pages) ≡ []
    by true e high = ap (failing moving) (between_none from end pages high)
    by false e high =
        let late : p ≤ from = grind (arith, nat_tests) in
        elim (cases_lt from (p + n)) [
          | inl inside ↦
              none_fails moving p n pages on from end late (omega arith)
          | inr past ↦ ap (failing moving) (between_none from end pages (omega arith))
        ]

module _ (tree : Forest Body) (page parent target : ℕ) (top above goal : Page)
    (p n a m t j : ℕ) (at : Grounds tree page parent top above p n a m)
    (goal_found : row_with target (rows_of tree) ≡ Some goal)
    (goal_range : IsRange (rows_of tree) goal t j)
    (outside : begins top.path goal.path ≡ false)
    (further : BeginsWith above.path goal.path) (shorter : length above.path < length goal.path)
  where
    -- a row that begins with the parent's path stands among the parent's rows
    pub in_parent : (k : ℕ) (row : Page) → slice_get (rows_of tree) k ≡ Some row →
        begins above.path row.path ≡ true → (a ≤ k) × (k < a + m)
    in_parent k row here on = elim (cases_lt k a) [
      | inl low ↦
          let never = fails_outside (λ (r : Page). begins above.path r.path) a m (rows_of tree)
          (passes_range (rows_of tree) above a m at.above_range) k row here (inl low) in absurd cc
      | inr late ↦ elim (cases_lt k (a + m)) [
        | inl high ↦ (late, high)
        | inr past ↦
            let never = fails_outside (λ (r : Page). begins above.path r.path) a m (rows_of tree)
            (passes_range (rows_of tree) above a m at.above_range) k row here (inr past) in
            absurd cc
      ]
    ]

    -- the target stands behind the parent
    pub target_place : (a < t) × (t < a + m)
    target_place =
        let both = in_parent t goal goal_range.page
        (begins-BeginsWith above.path goal.path further) in
        let low = both.0 in
        let high = both.1 in elim (cases_lt a t) [
          | inl late ↦ (late, both.1)
          | inr early ↦
              let same : a ≡ t = omega arith in
              let rows : Some above ≡ Some goal =
              sym at.above_range.page ∙ (ap (slice_get (rows_of tree)) same ∙ goal_range.page) in
              let one : length above.path ≡ length goal.path = (let r : above ≡ goal = cc in
              ap (λ (row : Page). length row.path) r) in
              absurd (omega arith)
        ]

    -- and its rows end where those of the parent end, or before
    pub target_end : t + j ≤ a + m
    target_end =
        let some = range_some (rows_of tree) goal t j goal_range in
        let within = goal_range.within in
        let k = t + j - 1 in
        let there = there_is (rows_of tree) k (omega arith) in
        let passes = passes_inside (λ (r : Page). begins goal.path r.path) t j (rows_of tree)
        (passes_range (rows_of tree) goal t j goal_range) k there.0 there.1 (omega arith)
        (omega arith) in
        let on = begins-BeginsWith above.path there.0.path (
          further.0 ++ (rest there.0 passes).0,
          sym (append_assoc above.path further.0 (rest there.0 passes).0)
              ∙ (ap (λ xs. xs ++ (rest there.0 passes).0) further.1 ∙ (rest there.0 passes).1),
        ) in
        let both = in_parent k there.0 there.1 on in
        let high = both.1 in omega arith
      where
        rest : (row : Page) → begins goal.path row.path ≡ true → BeginsWith goal.path row.path
        rest row on = Rattle.page_store.proofs.PathOrder.BeginsWith-begins goal.path row.path on

    -- The rows of the later siblings are those between the ends of the target and the parent.
    later_rows : (b : BehindKid target (Some parent) above.path above.url
        (kids_of parent (without page tree))) →
        rows_below (Some parent) above.path above.url b.rest
        ≡ map (lower_row top.parent) (kept tree page parent top above p n a m at (t + j) (a + m))
    later_rows b =
        let lowered : Page → Page = lower_row top.parent in
        let pages = rows_of tree in
        let moving : Page → Bool = λ row. begins top.path row.path in
        let place = target_place in
        let low = place.0 in
        let high = place.1 in
        let end = target_end in
        let some = range_some pages goal t j goal_range in
        let before = failing moving (between (suc a) t pages) in
        let below = failing moving (between (suc t) (t + j) pages) in
        let later = failing moving (between (t + j) (a + m) pages) in
        let own : failing moving (goal ∷ between (suc t) (a + m) pages)
        ≡ goal ∷ failing moving (between (suc t) (a + m) pages) = rw outside refl in
        let parts : failing moving (between (suc a) (a + m) pages) ≡ before ++ (goal ∷ (below ++ later))
        =
        ap (failing moving) (between_split (suc a) t (a + m) pages (omega arith) (omega arith))
        ∙ (filter-append (λ (row : Page). not (moving row)) (between (suc a) t pages)
        (between t (a + m) pages)
        ∙ ap (λ rows. before ++ rows)
        (ap (failing moving) (between_next t (a + m) pages goal goal_range.page (omega arith))
        ∙ (own ∙ ap (λ rows. goal ∷ rows)
        (ap (failing moving) (between_split (suc t) (t + j) (a + m) pages (omega arith) end)
        ∙ filter-append (λ (row : Page). not (moving row)) (between (suc t) (t + j) pages)
        (between (t + j) (a + m) pages))))) in
        let mapped : b.front ++ (b.own ∷ (b.below
        ++ rows_below (Some parent) above.path above.url b.rest))
        ≡ map lowered before ++ (lowered goal ∷ (map lowered below ++ map lowered later)) =
        sym b.rows_are ∙ (sym (kids_rows tree page parent top above p n a m at)
        ∙ (ap (map lowered) parts ∙ (map-append lowered before (goal ∷ (below ++ later))
        ∙ ap (λ rows. map lowered before ++ (lowered goal ∷ rows)) (map-append lowered below later))))
        in
        let goal_id = found_id target pages goal goal_found in
        let apart = pairs_at HasOtherId t pages goal at.are.own_ids goal_range.page in
        let ids_before = All-lowered (λ id path. id ≡ target → ⊥) top.parent before
        (All-kept (λ (row : Page). row.id ≡ target → ⊥) _ (between (suc a) t pages)
        (All-front (λ (row : Page). row.id ≡ target → ⊥) (suc a) t t pages (omega arith) (omega arith)
        (All-weaker (λ (row : Page). HasOtherId row goal) (λ (row : Page). row.id ≡ target → ⊥)
        (λ (row : Page) other e. other (goal_id ∙ sym e)) _ apart.2))) in
        let behind_ids = All-weaker (HasOtherId goal) (λ (row : Page). row.id ≡ target → ⊥)
        (λ (row : Page) other e. other (e ∙ sym goal_id)) _ apart.0 in
        let ids_below = All-kept (λ (row : Page). row.id ≡ target → ⊥) (λ row. not (moving row))
        (between (suc t) (t + j) pages)
        (All-behind (λ (row : Page). row.id ≡ target → ⊥) (suc t) (suc t) (t + j) pages (omega arith)
        (omega arith) behind_ids) in
        let ids_later = All-kept (λ (row : Page). row.id ≡ target → ⊥) (λ row. not (moving row))
        (between (t + j) (a + m) pages)
        (All-behind (λ (row : Page). row.id ≡ target → ⊥) (suc t) (t + j) (a + m) pages (omega arith)
        end behind_ids) in
        let ids_behind = Rattle.page_store.proofs.AllLemmas.All-append
        (λ (row : Page). row.id ≡ target → ⊥) (map lowered below) (map lowered later)
        (All-lowered (λ id path. id ≡ target → ⊥) top.parent below ids_below)
        (All-lowered (λ id path. id ≡ target → ⊥) top.parent later ids_later) in
        let one = same_place target b.front b.own
        (b.below ++ rows_below (Some parent) above.path above.url b.rest) (map lowered before)
        (lowered goal) (map lowered below ++ map lowered later) mapped b.id_is ids_before ids_behind
        in
        let halves = same_parts b.front
        (b.own ∷ (b.below ++ rows_below (Some parent) above.path above.url b.rest))
        (map lowered before) (lowered goal ∷ (map lowered below ++ map lowered later)) (sym one.0)
        mapped in
        let tails : b.below ++ rows_below (Some parent) above.path above.url b.rest
        ≡ map lowered below ++ map lowered later = (let rows = halves.1 in cc) in
        let path_is : b.own.path ≡ goal.path =
        ap (λ (row : Page). row.path) one.1 ∙ (lower_keeps top.parent goal).1 in
        let passes = passes_range pages goal t j goal_range in
        split_by_test (λ (row : Page). begins goal.path row.path) b.below
        (rows_below (Some parent) above.path above.url b.rest) (map lowered below)
        (map lowered later)
        (subst (λ path. AllByRecursion (λ (row : Page). begins path row.path ≡ true) b.below) path_is
        b.inside)
        (subst (λ path. AllByRecursion (λ (row : Page). begins path row.path ≡ false)
        (rows_below (Some parent) above.path above.url b.rest)) path_is b.after)
        (All-lowered (λ id path. begins goal.path path ≡ true) top.parent below
        (All-kept (λ (row : Page). begins goal.path row.path ≡ true) (λ row. not (moving row))
        (between (suc t) (t + j) pages)
        (All-narrower (λ (row : Page). begins goal.path row.path ≡ true) t (suc t) (t + j) (t + j)
        pages (omega arith) (omega arith) (omega arith) passes.inside)))
        (All-lowered (λ id path. begins goal.path path ≡ false) top.parent later
        (All-kept (λ (row : Page). begins goal.path row.path ≡ false) (λ row. not (moving row))
        (between (t + j) (a + m) pages)
        (All-behind (λ (row : Page). begins goal.path row.path ≡ false) (t + j) (t + j) (a + m) pages
        (omega arith) end passes.behind)))
        tails

    -- The spot behind the target is the place behind it among the kids that remain.
    pub behind_spot : has_kid target (kids_of parent (without page tree)) ≡ true →
        IsSpot (rows_of tree) (λ (row : Page). begins top.path row.path)
        (place_behind target (kids_of parent (without page tree)))
        (cond (nat_lt (place_past p n (t + j)) (a + m)) (AtPlace (place_past p n (t + j))) AtEnd)
    behind_spot there =
        let left = left_is_tree page tree (is_tree tree at.are) in
        let b = behind_kid target (Some parent) above.path above.url 0
        (kids_of parent (without page tree)) (rising_kids parent 0 (without page tree) left.rising)
        there in
        subst (λ place. IsSpot (rows_of tree) (λ (row : Page). begins top.path row.path) place
        (cond (nat_lt (place_past p n (t + j)) (a + m)) (AtPlace (place_past p n (t + j))) AtEnd))
        (sym b.behind_is) (by (nat_lt (place_past p n (t + j)) (a + m)) refl b.rest (later_rows b))
      where
        moving : Page → Bool
        moving row = begins top.path row.path

        on : Passes moving p n (rows_of tree)
        on = together tree page parent top above p n a m at

        by : (t' : Bool) → nat_lt (place_past p n (t + j)) (a + m) ≡ t' → (rest : Forest Body) →
            rows_below (Some parent) above.path above.url rest
            ≡ map (lower_row top.parent)
            (failing moving (between (t + j) (a + m) (rows_of tree))) →
            IsSpot (rows_of tree) moving (before_first rest)
            (cond t' (AtPlace (place_past p n (t + j))) AtEnd)
        by true e rest rows =
            let low : place_past p n (t + j) < a + m = grind (arith, nat_tests) in
            let first = first_kept (rows_of tree) moving p n (t + j) (a + m) on
            at.above_range.within low in
            found first rest (rows ∙ ap (map (lower_row top.parent)) first.rows_are)
          where
            found : (first : FirstKept (rows_of tree) moving p n (t + j) (a + m)) →
                (rest : Forest Body) →
                rows_below (Some parent) above.path above.url rest
                ≡ map (lower_row top.parent) (first.row ∷ first.later) →
                IsSpot (rows_of tree) moving (before_first rest) (AtPlace (place_past p n (t + j)))
            found first bare rows = absurd cc
            found first (grown i s slug body kids rest) rows =
                let head = ap first_id rows in (
                  place_past p n (t + j),
                  first.row,
                  refl,
                  first.at,
                  sym (head ∙ (lower_keeps top.parent first.row).0),
                  first.fails,
                )
              where
                first_id : List Page → ℕ
                first_id [] = 0
                first_id (row ∷ rows) = row.id
        by false e rest rows =
            let high : a + m ≤ place_past p n (t + j) = grind (arith, nat_tests) in
            let none = none_kept (rows_of tree) moving p n (t + j) (a + m) on high in
            empty rest (rows ∙ ap (map (lower_row top.parent)) none)
          where
            empty : (rest : Forest Body) → rows_below (Some parent) above.path above.url rest ≡ [] →
                IsSpot (rows_of tree) moving (before_first rest) AtEnd
            empty bare rows = refl
            empty (grown i s slug body kids rest) rows = absurd cc
