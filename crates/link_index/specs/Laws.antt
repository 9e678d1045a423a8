-- Laws of pairs that rise, each proved in src/laws.rt.
use Rattle.std.specs.Prelude.{◌≡◌, ℕ, not, ◌&&◌, ◌||◌, nat_eq, if◌then◌else◌, List}
use Rattle.std.specs.List.{list_any}
use Rattle.std.specs.List.Sorted.{IsStrictlyIncreasing}
use Rattle.link_index.specs.Pairs.{has_pair, PairsRise, put_in, without, seconds_of, with_own}

-- a pair that is put in is there, and every other one is there as before
abbrev pub PairIsAdded : Type 0
PairIsAdded =
    (new : ℕ × ℕ) (first second : ℕ) (pairs : List (ℕ × ℕ)) →
    has_pair first second (put_in new pairs)
    ≡ ((nat_eq new.0 first && nat_eq new.1 second) || has_pair first second pairs)

-- no pair with a second number that was taken out is there, and every other one is there as before
abbrev pub SecondIsGone : Type 0
SecondIsGone =
    (gone first second : ℕ) (pairs : List (ℕ × ℕ)) →
    has_pair first second (without gone pairs)
    ≡ (not (nat_eq second gone) && has_pair first second pairs)

-- a second number that got firsts of its own is paired with these alone, and every other one as
-- before
abbrev pub FirstsAreReplaced : Type 0
FirstsAreReplaced =
    (own first second : ℕ) (firsts : List ℕ) (pairs : List (ℕ × ℕ)) →
    has_pair first second (with_own own firsts pairs)
    ≡ (if nat_eq second own then list_any (nat_eq first) firsts else has_pair first second pairs)

-- the seconds of a first number are the numbers that are paired with it
abbrev pub SecondsArePaired : Type 0
SecondsArePaired =
    (first second : ℕ) (pairs : List (ℕ × ℕ)) →
    list_any (nat_eq second) (seconds_of first pairs) ≡ has_pair first second pairs

-- pairs that rise still rise after any of these changes, and the seconds of a first number rise
abbrev pub PairsStayRising : Type 0
PairsStayRising =
    (pairs : List (ℕ × ℕ)) → PairsRise pairs →
    ((new : ℕ × ℕ) → PairsRise (put_in new pairs))
    × ((gone : ℕ) → PairsRise (without gone pairs))
    × ((own : ℕ) (firsts : List ℕ) → PairsRise (with_own own firsts pairs))
    × ((first : ℕ) → IsStrictlyIncreasing (seconds_of first pairs))

-- two lists of pairs that rise and have the same pairs are one list
abbrev pub RisingPairsAreOne : Type 0
RisingPairsAreOne =
    (some others : List (ℕ × ℕ)) → PairsRise some → PairsRise others →
    ((first second : ℕ) → has_pair first second some ≡ has_pair first second others) →
    some ≡ others
