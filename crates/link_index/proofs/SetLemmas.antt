-- What is there after pairs were put in or taken out, and that pairs that rise are told by what is
-- there.
use Rattle.std.proofs.Common.{◌≡◌, ℕ, ◌<◌, ◌≤◌, Bool, true, false, not, ◌&&◌, ◌||◌, cond, nat_eq, List, [], ◌∷◌, Some, None, filter, length, refl, ap, sym, ◌∙◌, arith}
use Rattle.link_index.specs.Pairs.{is_pair, has_pair, put_in, without_pair, without, pairs_of}
use Rattle.link_index.specs.Kept.{AreTurned, first_second}
use Rattle.link_index.proofs.OrderLemmas.{eq_self, pair_means}
use Rattle.link_index.proofs.FrontLemmas.{rise_kept}
use Rattle.link_index.proofs.PairLemmas.{has_put, rise_put}

-- what is there among the pairs that a test keeps, where the test tells these numbers apart
has_kept : (test : ℕ × ℕ → Bool) (first second : ℕ) (keeps : Bool) →
    ((pair : ℕ × ℕ) → is_pair first second pair ≡ true → test pair ≡ keeps) →
    (pairs : List (ℕ × ℕ)) →
    has_pair first second (filter test pairs) ≡ (keeps && has_pair first second pairs)
has_kept test first second true tells [] = refl
has_kept test first second false tells [] = refl
has_kept test first second keeps tells (pair ∷ pairs) =
    by (test pair) refl (is_pair first second pair) refl keeps (tells pair)
    (has_kept test first second keeps tells pairs)
  where
    by : (t : Bool) → test pair ≡ t → (u : Bool) → is_pair first second pair ≡ u → (keeps : Bool) →
        (is_pair first second pair ≡ true → test pair ≡ keeps) →
        has_pair first second (filter test pairs) ≡ (keeps && has_pair first second pairs) →
        has_pair first second (cond t (pair ∷ filter test pairs) (filter test pairs))
        ≡ (keeps && (u || has_pair first second pairs))
    by true e true f true tells more = rw f refl
    by true e true f false tells more =
        let kept = tells f in
        absurd (cc)
    by false e true f true tells more =
        let kept = tells f in
        absurd (cc)
    by false e true f false tells more = more
    by true e false f keeps tells more = rw f more
    by false e false f keeps tells more = more

-- no pair with a second number that was taken out is there, and every other one is there as before
pub has_without : (gone first second : ℕ) (pairs : List (ℕ × ℕ)) →
    has_pair first second (without gone pairs) ≡ (not (nat_eq second gone) && has_pair first second pairs)
has_without gone first second pairs =
    has_kept (λ pair. not (nat_eq pair.1 gone)) first second (not (nat_eq second gone))
    (λ pair is. rw ((pair_means pair first second is).1) refl) pairs

-- a pair that was taken out is not there, and every other one is there as before
pub has_out : (gone : ℕ × ℕ) (first second : ℕ) (pairs : List (ℕ × ℕ)) →
    has_pair first second (without_pair gone.0 gone.1 pairs)
    ≡ (not (is_pair gone.0 gone.1 (first, second)) && has_pair first second pairs)
has_out gone first second pairs =
    has_kept (λ pair. not (is_pair gone.0 gone.1 pair)) first second
    (not (is_pair gone.0 gone.1 (first, second)))
    (λ pair is. let means = pair_means pair first second is in
    rw (means.0, means.1) refl) pairs

-- pairs put in and taken out in both directions are each other's turned round
swap_pair : (a b first second : ℕ) → is_pair second first (b, a) ≡ is_pair first second (a, b)
swap_pair a b first second = by (nat_eq a first) (nat_eq b second)
  where
    by : (t u : Bool) → (u && t) ≡ (t && u)
    by true true = refl
    by true false = refl
    by false true = refl
    by false false = refl

-- one more in both directions
pub turned_put : (first second : ℕ) (forward backward : List (ℕ × ℕ)) → AreTurned forward backward →
    AreTurned (put_in (first, second) forward) (put_in (second, first) backward)
turned_put first second forward backward are =
    record {
      forward_rise = rise_put (first, second) forward are.forward_rise;
      backward_rise = rise_put (second, first) backward are.backward_rise;
      turned = λ one other.
          has_put (second, first) other one backward
          ∙ rw (swap_pair first second one other, are.turned one other) refl
          ∙ sym (has_put (first, second) one other forward);
    }

-- one less in both directions
pub turned_out : (first second : ℕ) (forward backward : List (ℕ × ℕ)) → AreTurned forward backward →
    AreTurned (without_pair first second forward) (without_pair second first backward)
turned_out first second forward backward are =
    record {
      forward_rise = rise_kept (λ pair. not (is_pair first second pair)) forward are.forward_rise;
      backward_rise = rise_kept (λ pair. not (is_pair second first pair)) backward are.backward_rise;
      turned = λ one other.
          has_out (second, first) other one backward
          ∙ rw (swap_pair one other first second, are.turned one other) refl
          ∙ sym (has_out (first, second) one other forward);
    }

-- where a first number has a pair, the one that is found is there
pub found_there : (first second : ℕ) (pairs : List (ℕ × ℕ)) →
    Some second ≡ first_second (pairs_of first pairs) → has_pair first second pairs ≡ true
found_there first second [] found = cc
found_there first second (pair ∷ pairs) found =
    by (nat_eq pair.0 first) refl found (found_there first second pairs)
  where
    -- what is there behind is there
    later : (t : Bool) → has_pair first second pairs ≡ true → (t || has_pair first second pairs) ≡ true
    later true is = refl
    later false is = is

    by : (t : Bool) → nat_eq pair.0 first ≡ t →
        Some second ≡ first_second (cond t (pair ∷ pairs_of first pairs) (pairs_of first pairs)) →
        (Some second ≡ first_second (pairs_of first pairs) → has_pair first second pairs ≡ true) →
        has_pair first second (pair ∷ pairs) ≡ true
    by true e found more =
        let own : second ≡ pair.1 = cc in
        rw (e, own, eq_self pair.1) refl
    by false e found more = later (is_pair first second pair) (more found)

-- where none is found, none is there
pub found_none : (first second : ℕ) (pairs : List (ℕ × ℕ)) →
    None ≡ first_second (pairs_of first pairs) → has_pair first second pairs ≡ false
found_none first second [] found = refl
found_none first second (pair ∷ pairs) found =
    by (nat_eq pair.0 first) refl found (found_none first second pairs)
  where
    by : (t : Bool) → nat_eq pair.0 first ≡ t →
        None ≡ first_second (cond t (pair ∷ pairs_of first pairs) (pairs_of first pairs)) →
        (None ≡ first_second (pairs_of first pairs) → has_pair first second pairs ≡ false) →
        has_pair first second (pair ∷ pairs) ≡ false
    by true e found more = absurd (cc)
    by false e found more = rw e (more found)

-- where a second number has no pair, taking its pairs out leaves all
pub nothing_out : (second : ℕ) (pairs : List (ℕ × ℕ)) →
    ((first : ℕ) → has_pair first second pairs ≡ false) → without second pairs ≡ pairs
nothing_out second [] none = refl
nothing_out second (pair ∷ pairs) none =
    rw (other (nat_eq pair.1 second) refl)
    (ap (λ (rest : List (ℕ × ℕ)). pair ∷ rest)
    (nothing_out second pairs (λ first. behind first (is_pair first second pair) (none first))))
  where
    -- what is not there is not there behind
    behind : (first : ℕ) (t : Bool) → (t || has_pair first second pairs) ≡ false →
        has_pair first second pairs ≡ false
    behind first true h = cc
    behind first false h = h

    -- nor at the front
    front : (t v : Bool) → (t || v) ≡ false → t ≡ false
    front true v h = cc
    front false v h = refl

    other : (t : Bool) → nat_eq pair.1 second ≡ t → t ≡ false
    other true e =
        let absent = front (is_pair pair.0 second pair) (has_pair pair.0 second pairs) (none pair.0) in
        let own : is_pair pair.0 second pair ≡ true = rw (eq_self pair.0, e) refl in
        absurd (cc)
    other false e = refl

-- taking one pair of a second number out first makes no difference
pub without_out : (first second : ℕ) (pairs : List (ℕ × ℕ)) →
    without second (without_pair first second pairs) ≡ without second pairs
without_out first second [] = refl
without_out first second (pair ∷ pairs) =
    by (nat_eq pair.0 first) (nat_eq pair.1 second) refl (without_out first second pairs)
  where
    by : (t u : Bool) → nat_eq pair.1 second ≡ u →
        without second (without_pair first second pairs) ≡ without second pairs →
        without second (cond (not (t && u)) (pair ∷ without_pair first second pairs)
        (without_pair first second pairs))
        ≡ cond (not u) (pair ∷ without second pairs) (without second pairs)
    by true true e more = more
    by true false e more = rw e (ap (λ (rest : List (ℕ × ℕ)). pair ∷ rest) more)
    by false true e more = rw e more
    by false false e more = rw e (ap (λ (rest : List (ℕ × ℕ)). pair ∷ rest) more)

-- no more pairs are kept than there are
out_within : (first second : ℕ) (pairs : List (ℕ × ℕ)) →
    length (without_pair first second pairs) ≤ length pairs
out_within first second [] = omega arith
out_within first second (pair ∷ pairs) =
    by (is_pair first second pair) (out_within first second pairs)
  where
    by : (t : Bool) → length (without_pair first second pairs) ≤ length pairs →
        length (cond (not t) (pair ∷ without_pair first second pairs) (without_pair first second pairs))
        ≤ length (pair ∷ pairs)
    by true more = omega arith
    by false more = omega arith

-- a pair that is there and is taken out is one pair less
pub out_shorter : (first second : ℕ) (pairs : List (ℕ × ℕ)) → has_pair first second pairs ≡ true →
    length (without_pair first second pairs) < length pairs
out_shorter first second [] there = cc
out_shorter first second (pair ∷ pairs) there =
    by (is_pair first second pair) there (out_within first second pairs) (out_shorter first second pairs)
  where
    by : (t : Bool) → (t || has_pair first second pairs) ≡ true →
        length (without_pair first second pairs) ≤ length pairs →
        (has_pair first second pairs ≡ true →
        length (without_pair first second pairs) < length pairs) →
        length (cond (not t) (pair ∷ without_pair first second pairs) (without_pair first second pairs))
        < length (pair ∷ pairs)
    by true there within more = omega arith
    by false there within more =
        let rest = more there in
        omega arith
