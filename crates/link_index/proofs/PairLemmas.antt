-- Pairs that rise: one put in at its place, one taken out, and what is there then.
use Rattle.std.proofs.Common.{◌≡◌, ℕ, suc, ◌<◌, ◌≤◌, Bool, true, false, not, ◌||◌, cond, List, [], ◌∷◌, length, insert, remove, refl, ap, sym, arith}
use Rattle.std.specs.List.{AllByRecursion, slice_get}
use Rattle.link_index.specs.Pairs.{is_earlier, is_pair, has_pair, PairsRise, put_in, without_pair}
use Rattle.link_index.specs.Kept.{leading, passes}
use Rattle.link_index.proofs.OrderLemmas.{earlier_other, earlier_differs, later_differs, behind_all, pair_means, all_put}

-- how many pairs come before this one
abbrev pub place_in : ℕ × ℕ → List (ℕ × ℕ) → ℕ
place_in new pairs = leading (λ pair. is_earlier pair new) pairs

-- no more pairs are at the front than there are
pub leading_within : (test : ℕ × ℕ → Bool) (pairs : List (ℕ × ℕ)) →
    leading test pairs ≤ length pairs
leading_within test [] = omega arith
leading_within test (pair ∷ pairs) = by (test pair) (leading_within test pairs)
  where
    by : (t : Bool) → leading test pairs ≤ length pairs →
        cond t (suc (leading test pairs)) 0 ≤ length (pair ∷ pairs)
    by true more = omega arith
    by false more = omega arith

-- a pair that is not at its place is put in by an insertion there
pub put_at_place : (new : ℕ × ℕ) (pairs : List (ℕ × ℕ)) →
    passes (is_pair new.0 new.1) (slice_get pairs (place_in new pairs)) ≡ false →
    insert pairs (place_in new pairs) new ≡ put_in new pairs
put_at_place new [] absent = refl
put_at_place new (pair ∷ pairs) absent =
    by (is_earlier pair new) refl (put_at_place new pairs)
  where
    at : (t : Bool) → is_earlier pair new ≡ t →
        passes (is_pair new.0 new.1)
        (slice_get (pair ∷ pairs) (cond t (suc (place_in new pairs)) 0)) ≡ false
    at t e = rw e at absent

    by : (t : Bool) → is_earlier pair new ≡ t →
        (passes (is_pair new.0 new.1) (slice_get pairs (place_in new pairs)) ≡ false →
        insert pairs (place_in new pairs) new ≡ put_in new pairs) →
        insert (pair ∷ pairs) (cond t (suc (place_in new pairs)) 0) new
        ≡ cond t (pair ∷ put_in new pairs)
        (cond (is_pair new.0 new.1 pair) (pair ∷ pairs) (new ∷ pair ∷ pairs))
    by true e more = ap (λ (rest : List (ℕ × ℕ)). pair ∷ rest) (more (at true e))
    by false e more =
        let other : is_pair new.0 new.1 pair ≡ false = at false e in
        rw other refl

-- a pair that is at its place is there already
pub put_nowhere : (new : ℕ × ℕ) (pairs : List (ℕ × ℕ)) →
    passes (is_pair new.0 new.1) (slice_get pairs (place_in new pairs)) ≡ true →
    pairs ≡ put_in new pairs
put_nowhere new [] there = cc
put_nowhere new (pair ∷ pairs) there =
    by (is_earlier pair new) refl (put_nowhere new pairs)
  where
    at : (t : Bool) → is_earlier pair new ≡ t →
        passes (is_pair new.0 new.1)
        (slice_get (pair ∷ pairs) (cond t (suc (place_in new pairs)) 0)) ≡ true
    at t e = rw e at there

    by : (t : Bool) → is_earlier pair new ≡ t →
        (passes (is_pair new.0 new.1) (slice_get pairs (place_in new pairs)) ≡ true →
        pairs ≡ put_in new pairs) →
        pair ∷ pairs
        ≡ cond t (pair ∷ put_in new pairs)
        (cond (is_pair new.0 new.1 pair) (pair ∷ pairs) (new ∷ pair ∷ pairs))
    by true e more = ap (λ (rest : List (ℕ × ℕ)). pair ∷ rest) (more (at true e))
    by false e more =
        let own : is_pair new.0 new.1 pair ≡ true = at false e in
        rw own refl

-- pairs with one more still rise
pub rise_put : (new : ℕ × ℕ) (pairs : List (ℕ × ℕ)) → PairsRise pairs → PairsRise (put_in new pairs)
rise_put new [] rise = (tt, tt)
rise_put new (pair ∷ pairs) rise =
    by (is_earlier pair new) refl (is_pair new.0 new.1 pair) refl (rise_put new pairs rise.1)
  where
    by : (t : Bool) → is_earlier pair new ≡ t → (u : Bool) → is_pair new.0 new.1 pair ≡ u →
        PairsRise (put_in new pairs) →
        PairsRise (cond t (pair ∷ put_in new pairs) (cond u (pair ∷ pairs) (new ∷ pair ∷ pairs)))
    by true e u f more =
        (all_put (λ later. is_earlier pair later ≡ true) new pairs rise.0 e, more)
    by false e true f more = rise
    by false e false f more =
        let before = earlier_other pair new f e in
        ((before, behind_all new pair pairs before rise.0), rise)

-- none of these pairs has the numbers
abbrev pub NoneIs : ℕ → ℕ → List (ℕ × ℕ) → Type 0
NoneIs first second pairs = AllByRecursion (λ pair. is_pair first second pair ≡ false) pairs

-- where none has the numbers they are no pair
pub none_there : (first second : ℕ) (pairs : List (ℕ × ℕ)) → NoneIs first second pairs →
    has_pair first second pairs ≡ false
none_there first second [] none = refl
none_there first second (pair ∷ pairs) none =
    let fails : is_pair first second pair ≡ false = none.0 in
    rw fails (none_there first second pairs none.1)

-- and taking them out leaves all
pub none_out : (first second : ℕ) (pairs : List (ℕ × ℕ)) → NoneIs first second pairs →
    without_pair first second pairs ≡ pairs
none_out first second [] none = refl
none_out first second (pair ∷ pairs) none =
    let fails : is_pair first second pair ≡ false = none.0 in
    rw fails (ap (λ (rest : List (ℕ × ℕ)). pair ∷ rest) (none_out first second pairs none.1))

-- no pair behind one that comes before the numbers is left out: each comes after that one
pub none_behind : (pair : ℕ × ℕ) (pairs : List (ℕ × ℕ)) →
    AllByRecursion (λ later. is_earlier pair later ≡ true) pairs → NoneIs pair.0 pair.1 pairs
none_behind pair [] all = tt
none_behind pair (next ∷ pairs) all = (later_differs next pair all.0, none_behind pair pairs all.1)

-- a pair that does not come before the numbers, and is not theirs, stands behind them, as do all
-- behind it
none_after : (first second : ℕ) (pair : ℕ × ℕ) (pairs : List (ℕ × ℕ)) →
    is_earlier pair (first, second) ≡ false → is_pair first second pair ≡ false →
    AllByRecursion (λ later. is_earlier pair later ≡ true) pairs → NoneIs first second pairs
none_after first second pair pairs late differs all =
    let before = earlier_other pair (first, second) differs late in
    none_behind (first, second) pairs (behind_all (first, second) pair pairs before all)

-- a pair is taken out by a removal at its place, if it is there
pub taken_at_place : (first second : ℕ) (pairs : List (ℕ × ℕ)) → PairsRise pairs →
    passes (is_pair first second) (slice_get pairs (place_in (first, second) pairs)) ≡ true →
    (place_in (first, second) pairs < length pairs)
    × (remove pairs (place_in (first, second) pairs) ≡ without_pair first second pairs)
taken_at_place first second [] rise there = cc
taken_at_place first second (pair ∷ pairs) rise there =
    by (is_earlier pair (first, second)) refl (is_pair first second pair) refl
    (taken_at_place first second pairs rise.1)
  where
    at : (t : Bool) → is_earlier pair (first, second) ≡ t →
        passes (is_pair first second)
        (slice_get (pair ∷ pairs) (cond t (suc (place_in (first, second) pairs)) 0)) ≡ true
    at t e = rw e at there

    by : (t : Bool) → is_earlier pair (first, second) ≡ t → (u : Bool) →
        is_pair first second pair ≡ u →
        (passes (is_pair first second) (slice_get pairs (place_in (first, second) pairs)) ≡ true →
        (place_in (first, second) pairs < length pairs)
        × (remove pairs (place_in (first, second) pairs) ≡ without_pair first second pairs)) →
        (cond t (suc (place_in (first, second) pairs)) 0 < length (pair ∷ pairs))
        × (remove (pair ∷ pairs) (cond t (suc (place_in (first, second) pairs)) 0)
        ≡ cond (not u) (pair ∷ without_pair first second pairs) (without_pair first second pairs))
    by true e true f more =
        let differs = earlier_differs pair (first, second) e in
        absurd (cc)
    by true e false f more =
        let rest = more (at true e) in
        let low = rest.0 in
        (omega arith, ap (λ (rest : List (ℕ × ℕ)). pair ∷ rest) rest.1)
    by false e true f more =
        let is = pair_means pair first second f in
        let none : NoneIs first second pairs =
        rw (is.0, is.1) at (none_behind pair pairs rise.0) in
        (omega arith, sym (none_out first second pairs none))
    by false e false f more =
        let own : is_pair first second pair ≡ true = at false e in
        absurd (cc)

-- a pair that is not at its place is not there, so taking it out leaves all
pub taken_nowhere : (first second : ℕ) (pairs : List (ℕ × ℕ)) → PairsRise pairs →
    passes (is_pair first second) (slice_get pairs (place_in (first, second) pairs)) ≡ false →
    pairs ≡ without_pair first second pairs
taken_nowhere first second [] rise absent = refl
taken_nowhere first second (pair ∷ pairs) rise absent =
    by (is_earlier pair (first, second)) refl (taken_nowhere first second pairs rise.1)
  where
    at : (t : Bool) → is_earlier pair (first, second) ≡ t →
        passes (is_pair first second)
        (slice_get (pair ∷ pairs) (cond t (suc (place_in (first, second) pairs)) 0)) ≡ false
    at t e = rw e at absent

    by : (t : Bool) → is_earlier pair (first, second) ≡ t →
        (passes (is_pair first second) (slice_get pairs (place_in (first, second) pairs)) ≡ false →
        pairs ≡ without_pair first second pairs) →
        pair ∷ pairs ≡ without_pair first second (pair ∷ pairs)
    by true e more =
        let differs : is_pair first second pair ≡ false =
        earlier_differs pair (first, second) e in
        rw differs (ap (λ (rest : List (ℕ × ℕ)). pair ∷ rest) (more (at true e)))
    by false e more =
        let differs : is_pair first second pair ≡ false = at false e in
        rw differs
        (ap (λ (rest : List (ℕ × ℕ)). pair ∷ rest)
        (sym (none_out first second pairs (none_after first second pair pairs e differs rise.0))))

-- of two tests that may come in either order
swapped : (t u v : Bool) → (t || (u || v)) ≡ (u || (t || v))
swapped true true v = refl
swapped true false v = refl
swapped false true v = refl
swapped false false v = refl

-- a pair that is put in is there, and every other one is there as before
pub has_put : (new : ℕ × ℕ) (first second : ℕ) (pairs : List (ℕ × ℕ)) →
    has_pair first second (put_in new pairs)
    ≡ (is_pair first second new || has_pair first second pairs)
has_put new first second [] = refl
has_put new first second (pair ∷ pairs) =
    by (is_earlier pair new) (is_pair new.0 new.1 pair) refl (has_put new first second pairs)
  where
    -- a pair that is there twice
    twice : (t v : Bool) → (t || v) ≡ (t || (t || v))
    twice true v = refl
    twice false v = refl

    -- two pairs of the same numbers
    alike : is_pair new.0 new.1 pair ≡ true → is_pair first second new ≡ is_pair first second pair
    alike own =
        let is = pair_means pair new.0 new.1 own in
        rw (is.0, is.1) refl

    by : (t u : Bool) → is_pair new.0 new.1 pair ≡ u →
        has_pair first second (put_in new pairs)
        ≡ (is_pair first second new || has_pair first second pairs) →
        has_pair first second
        (cond t (pair ∷ put_in new pairs) (cond u (pair ∷ pairs) (new ∷ pair ∷ pairs)))
        ≡ (is_pair first second new || (is_pair first second pair || has_pair first second pairs))
    by true u f more =
        rw more (swapped (is_pair first second pair) (is_pair first second new) (has_pair first second pairs))
    by false true f more =
        rw (alike f) (twice (is_pair first second pair) (has_pair first second pairs))
    by false false f more = refl
