-- Revisions whose ids rise: others behind them, some of them, and what their contents weigh.
use Rattle.std.proofs.Common.{◌≡◌, ℕ, suc, ◌+◌, ◌*◌, ◌<◌, ◌≤◌, Bool, true, false, cond, not, nat_eq, List, [], ◌∷◌, ◌++◌, Some, map, filter, length, refl, arith}
use Rattle.std.proofs.lemmas.Bool.Decides.{nat_tests}
use Rattle.std.specs.List.{AllByRecursion}
use Rattle.site_types.specs.Ids.{IsRevisionId}
use Rattle.site_types.specs.declared.revision.Revision.{Revision}
use Rattle.revision_shelf.specs.Shelf.{weight_of, total_weight, revision_with, Rises}
use Rattle.revision_shelf.specs.Kept.{without, IdsRise}
use Rattle.revision_shelf.proofs.ListLemmas.{All-weaker, filter-all}

-- ids that rise from above a number rise from above a lower one
pub Rises-lower : (low lower : ℕ) (revisions : List Revision) → lower ≤ low → Rises low revisions →
    Rises lower revisions
Rises-lower low lower [] le h = tt
Rises-lower low lower (r ∷ rs) le h = (omega arith, h.1, h.2, h.3)

-- they are all above it
pub all_above : (low : ℕ) (revisions : List Revision) → Rises low revisions →
    AllByRecursion (λ r. low < r.id) revisions
all_above low [] h = tt
all_above low (r ∷ rs) h = (h.0, all_above low rs (Rises-lower r.id low rs (omega arith) h.3))

-- some of them rise
pub Rises-without : (low gone : ℕ) (revisions : List Revision) → Rises low revisions →
    Rises low (without gone revisions)
Rises-without low gone [] h = tt
Rises-without low gone (r ∷ rs) h = by (nat_eq r.id gone) (Rises-without r.id gone rs h.3)
  where
    by : (t : Bool) → Rises r.id (without gone rs) → Rises low (cond (not t) (r ∷ without gone rs)
        (without gone rs))
    by true more = Rises-lower r.id low (without gone rs) (omega arith) more
    by false more = (h.0, h.1, h.2, more)

-- and one with a greater id behind them
pub Rises-last : (low : ℕ) (revisions : List Revision) (new : Revision) → Rises low revisions →
    AllByRecursion (λ r. r.id < new.id) revisions → low < new.id → IsRevisionId new.id →
    weight_of new ≤ 65_536 → Rises low (revisions ++ new ∷ [])
Rises-last low [] new h all above is fits = (above, is, fits, tt)
Rises-last low (r ∷ rs) new h all above is fits =
    (h.0, h.1, h.2, Rises-last r.id rs new h.3 all.1 all.0 is fits)

-- the ids of revisions rise
pub ids_rise : (low : ℕ) (revisions : List Revision) → Rises low revisions →
    IdsRise low (map (λ r. r.id) revisions)
ids_rise low [] h = tt
ids_rise low (r ∷ rs) h = (h.0, ids_rise r.id rs h.3)

-- there are at most as many as ids, so their contents weigh less than a machine word holds
pub total-bound : (low : ℕ) (revisions : List Revision) → Rises low revisions → low ≤ 4_000_000_000 →
    total_weight revisions + 65_536 * low ≤ 262_144_000_000_000
total-bound low [] h le = omega arith
total-bound low (r ∷ rs) h le =
    let last : r.id ≤ 4_000_000_000 = h.1.1 in
    let fits : weight_of r ≤ 65_536 = h.2 in
    let above : low < r.id = h.0 in
    let more = total-bound r.id rs h.3 last in
    omega arith

-- one more adds its weight
pub total-last : (revisions : List Revision) (new : Revision) →
    total_weight (revisions ++ new ∷ []) ≡ total_weight revisions + weight_of new
total-last [] new = omega arith
total-last (r ∷ rs) new = let more = total-last rs new in omega arith

-- no revision behind one has its id
without-same : (gone : ℕ) (revisions : List Revision) → AllByRecursion (λ r. gone < r.id) revisions →
    without gone revisions ≡ revisions
without-same gone revisions above =
    filter-all (λ (r : Revision). not (nat_eq r.id gone)) revisions (All-weaker (λ (r : Revision).
    gone < r.id) (λ (r : Revision). not (nat_eq r.id gone) ≡ true) step revisions above)
  where
    step : (r : Revision) → gone < r.id → not (nat_eq r.id gone) ≡ true
    step r h = let differ : nat_eq r.id gone ≡ false = grind (arith, nat_tests) in rw differ refl

-- one that goes takes its weight with it
pub total-without : (low gone : ℕ) (revisions : List Revision) (one : Revision) → Rises low revisions →
    revision_with gone revisions ≡ Some one →
    total_weight (without gone revisions) + weight_of one ≡ total_weight revisions
total-without low gone [] one h is = cc
total-without low gone (r ∷ rs) one h is =
    by (nat_eq r.id gone) refl is (total-without r.id gone rs one h.3)
  where
    by : (t : Bool) → nat_eq r.id gone ≡ t → cond t (Some r) (revision_with gone rs) ≡ Some one →
        (revision_with gone rs ≡ Some one → total_weight (without gone rs) + weight_of one ≡
        total_weight rs) → total_weight (cond (not t) (r ∷ without gone rs) (without gone rs)) +
        weight_of one ≡ weight_of r + total_weight rs
    by true e is more =
        let same : r ≡ one = cc in
        let id : r.id ≡ gone = grind (arith, nat_tests) in
        let rest = without-same r.id rs (all_above r.id rs h.3) in
        rw (← same, ← id, rest) (omega arith)
    by false e is more = let rest = more is in omega arith

-- fewer are left
pub length-without : (gone : ℕ) (revisions : List Revision) (one : Revision) →
    revision_with gone revisions ≡ Some one → length (without gone revisions) < length revisions
length-without gone [] one is = cc
length-without gone (r ∷ rs) one is =
    by (nat_eq r.id gone) is (length-without gone rs one) (at_most rs)
  where
    at_most : (rs : List Revision) → length (without gone rs) ≤ length rs
    at_most [] = omega arith
    at_most (r ∷ rs) = by (nat_eq r.id gone) (at_most rs)
      where
        by : (t : Bool) → length (without gone rs) ≤ length rs →
            length (cond (not t) (r ∷ without gone rs) (without gone rs)) ≤ suc (length rs)
        by true more = omega arith
        by false more = omega arith

    by : (t : Bool) → cond t (Some r) (revision_with gone rs) ≡ Some one →
        (revision_with gone rs ≡ Some one → length (without gone rs) < length rs) →
        length (without gone rs) ≤ length rs →
        length (cond (not t) (r ∷ without gone rs) (without gone rs)) < suc (length rs)
    by true is more most = omega arith
    by false is more most = let fewer = more is in omega arith

-- each is found by its id
pub found_by_own_id : (low : ℕ) (revisions : List Revision) → Rises low revisions →
    AllByRecursion (λ r. revision_with r.id revisions ≡ Some r) revisions
found_by_own_id low [] h = tt
found_by_own_id low (r ∷ rs) h =
    let self : nat_eq r.id r.id ≡ true = grind (arith, nat_tests) in
    (rw self refl, behind rs (all_above r.id rs h.3) (found_by_own_id r.id rs h.3))
  where
    behind : (xs : List Revision) → AllByRecursion (λ x. r.id < x.id) xs →
        AllByRecursion (λ x. revision_with x.id rs ≡ Some x) xs →
        AllByRecursion (λ x. revision_with x.id (r ∷ rs) ≡ Some x) xs
    behind [] above all = tt
    behind (x ∷ xs) above all =
        let test : nat_eq r.id x.id ≡ false = grind (arith, nat_tests) in
        (rw test (all.0), behind xs above.1 all.1)

-- those that pass a test rise
pub Rises-filter : (low : ℕ) (test : Revision → Bool) (revisions : List Revision) → Rises low revisions →
    Rises low (filter test revisions)
Rises-filter low test [] h = tt
Rises-filter low test (r ∷ rs) h = by (test r) (Rises-filter r.id test rs h.3)
  where
    by : (t : Bool) → Rises r.id (filter test rs) →
        Rises low (cond t (r ∷ filter test rs) (filter test rs))
    by true more = (h.0, h.1, h.2, more)
    by false more = Rises-lower r.id low (filter test rs) (omega arith) more

-- there are no more than ids
pub length-bound : (low : ℕ) (revisions : List Revision) → Rises low revisions → low ≤ 4_000_000_000 →
    length revisions + low ≤ 4_000_000_000
length-bound low [] h le = omega arith
length-bound low (r ∷ rs) h le =
    let last : r.id ≤ 4_000_000_000 = h.1.1 in
    let above : low < r.id = h.0 in
    let more = length-bound r.id rs h.3 last in
    omega arith

-- one less is left
pub length-one_less : (low gone : ℕ) (revisions : List Revision) (one : Revision) → Rises low revisions →
    revision_with gone revisions ≡ Some one → length (without gone revisions) + 1 ≡ length revisions
length-one_less low gone [] one h is = cc
length-one_less low gone (r ∷ rs) one h is =
    by (nat_eq r.id gone) refl is (length-one_less r.id gone rs one h.3)
  where
    by : (t : Bool) → nat_eq r.id gone ≡ t → cond t (Some r) (revision_with gone rs) ≡ Some one →
        (revision_with gone rs ≡ Some one → length (without gone rs) + 1 ≡ length rs) →
        length (cond (not t) (r ∷ without gone rs) (without gone rs)) + 1 ≡ suc (length rs)
    by true e is more =
        let id : r.id ≡ gone = grind (arith, nat_tests) in
        let rest = without-same r.id rs (all_above r.id rs h.3) in
        rw (← id, rest) (omega arith)
    by false e is more = let rest = more is in omega arith
