-- Of open desks on different pages some end: those that are left are told by their pages alone.
use Rattle.std.proofs.Common.{◌≡◌, ℕ, Bool, true, false, cond, not, ◌||◌, nat_eq, nat_lt, List, [], ◌∷◌, filter, refl, sym, ap, ◌∙◌, arith}
use Rattle.std.specs.List.{AllByRecursion, list_any}
use Rattle.std.proofs.lemmas.Bool.Decides.{nat_tests}
use Rattle.page_tree.specs.Rows.{comes_before}
use Rattle.site_model.specs.World.{DeskPair}
use Rattle.site_model.specs.Desks.{desk_key, is_same_desk, is_ended}
use Rattle.site_model.specs.Sound.{KeysRise}
use Rattle.site_model.proofs.OrderLemmas.{all_filter}
use Rattle.site_part.specs.Plans.{pages_of, pairs_left}

-- what stands before a desk by its page is on another page
other_page : (one other : ℕ) → cond (nat_eq one other) false (nat_lt one other) ≡ true →
    (nat_eq one other ≡ false) × (nat_eq other one ≡ false)
other_page one other before = (grind (arith, nat_tests), grind (arith, nat_tests))

-- a page is itself
own_page : (page : ℕ) → nat_eq page page ≡ true
own_page page = grind (arith, nat_tests)

-- A test of two desks that tells desks on different pages apart, and each desk as itself.
record Tells (same : DeskPair → DeskPair → Bool) : Type 0 where
  itself : (pair : DeskPair) → same pair pair ≡ true
  apart : (pair other : DeskPair) → nat_eq pair.page other.page ≡ false → same pair other ≡ false

module _ (same : DeskPair → DeskPair → Bool) (tells : Tells same) (test : DeskPair → Bool) where
  -- desks behind one are none of the desks that it may be
  none_same : (pair : DeskPair) (later : List DeskPair) →
      AllByRecursion (λ (other : DeskPair). same pair other ≡ false) later →
      list_any (same pair) later ≡ false
  none_same pair [] all = refl
  none_same pair (other ∷ later) all = rw (all.0, none_same pair later all.1) refl

  -- whether the first desk is among those that pass is whether it passes
  first_among : (pair : DeskPair) (later : List DeskPair) →
      AllByRecursion (λ (other : DeskPair). same pair other ≡ false) later →
      list_any (same pair) (filter test (pair ∷ later)) ≡ test pair
  first_among pair later all = choice (test pair)
    where
      none : list_any (same pair) (filter test later) ≡ false
      none = none_same pair (filter test later)
          (all_filter (λ (other : DeskPair). same pair other ≡ false) test later all)

      choice : (t : Bool) →
          list_any (same pair) (cond t (pair ∷ filter test later) (filter test later)) ≡ t
      choice true = rw (tells.itself pair) refl
      choice false = none

  -- whether a later desk is among those that pass does not depend on the first
  later_among : (pair other : DeskPair) (rest : List DeskPair) → same other pair ≡ false →
      list_any (same other) (cond (test pair) (pair ∷ rest) rest) ≡ list_any (same other) rest
  later_among pair other rest differ = choice (test pair)
    where
      choice : (t : Bool) →
          list_any (same other) (cond t (pair ∷ rest) rest) ≡ list_any (same other) rest
      choice true = rw differ refl
      choice false = refl

  -- desks that are not among some, told with the first of all or without it
  later_left : (pair : DeskPair) (later rest : List DeskPair) →
      AllByRecursion (λ (other : DeskPair). same other pair ≡ false) later →
      filter (λ other. not (list_any (same other) (cond (test pair) (pair ∷ rest) rest))) later
      ≡ filter (λ other. not (list_any (same other) rest)) later
  later_left pair [] rest all = refl
  later_left pair (other ∷ later) rest all =
      rw (later_among pair other rest all.0, later_left pair later rest all.1) refl

  -- of desks on different pages those are left that do not pass
  left_is : (pairs : List DeskPair) → KeysRise desk_key pairs →
      filter (λ pair. not (list_any (same pair) (filter test pairs))) pairs
      ≡ filter (λ pair. not (test pair)) pairs
  left_is [] rise = refl
  left_is (pair ∷ pairs) rise =
      rw (first, later_left pair pairs (filter test pairs) behind, left_is pairs rise.1) refl
    where
      ahead : AllByRecursion (λ (other : DeskPair). same pair other ≡ false) pairs
      ahead = turned pairs rise.0
        where
          turned : (later : List DeskPair) →
              AllByRecursion (λ (other : DeskPair).
              comes_before (desk_key pair) (desk_key other) ≡ true) later →
              AllByRecursion (λ (other : DeskPair). same pair other ≡ false) later
          turned [] all = tt
          turned (other ∷ later) all = (
            tells.apart pair other (other_page pair.page other.page all.0).0,
            turned later all.1,
          )

      behind : AllByRecursion (λ (other : DeskPair). same other pair ≡ false) pairs
      behind = turned pairs rise.0
        where
          turned : (later : List DeskPair) →
              AllByRecursion (λ (other : DeskPair).
              comes_before (desk_key pair) (desk_key other) ≡ true) later →
              AllByRecursion (λ (other : DeskPair). same other pair ≡ false) later
          turned [] all = tt
          turned (other ∷ later) all = (
            tells.apart other pair (other_page pair.page other.page all.0).1,
            turned later all.1,
          )

      first : list_any (same pair) (filter test (pair ∷ pairs)) ≡ test pair
      first = first_among pair pairs ahead

-- two desks are the same by page and user
both_tell : Tells is_same_desk
both_tell = record {
  itself = λ pair. rw (own_page pair.page, own_page pair.user) refl;
  apart = λ pair other differ. rw differ refl;
}

-- or by page alone
page_tells : Tells (λ pair other. nat_eq other.page pair.page)
page_tells = record {
  itself = λ pair. own_page pair.page;
  apart = λ pair other differ. turned pair.page other.page differ;
}
  where
    turned : (one other : ℕ) → nat_eq one other ≡ false → nat_eq other one ≡ false
    turned one other differ = grind (arith, nat_tests)

-- whether a page is among those of some desks
page_among : (page : ℕ) (pairs : List DeskPair) →
    list_any (λ id. nat_eq id page) (pages_of pairs)
    ≡ list_any (λ (other : DeskPair). nat_eq other.page page) pairs
page_among page [] = refl
page_among page (pair ∷ pairs) = ap (λ t. nat_eq pair.page page || t) (page_among page pairs)

-- so the desks that are left are told by the pages of those that end
by_pages : (ended pairs : List DeskPair) →
    pairs_left (pages_of ended) pairs
    ≡ filter (λ pair. not (list_any (λ (other : DeskPair). nat_eq other.page pair.page) ended)) pairs
by_pages ended [] = refl
by_pages ended (pair ∷ pairs) = rw (page_among pair.page ended, by_pages ended pairs) refl

-- Of desks on different pages some end: those that do not are left, and so are those on other pages.
pub pairs_agree : (test : DeskPair → Bool) (pairs : List DeskPair) → KeysRise desk_key pairs →
    filter (λ pair. not (is_ended (filter test pairs) pair)) pairs
    ≡ pairs_left (pages_of (filter test pairs)) pairs
pairs_agree test pairs rise =
    left_is is_same_desk both_tell test pairs rise
    ∙ (sym (left_is (λ pair other. nat_eq other.page pair.page) page_tells test pairs rise)
    ∙ sym (by_pages (filter test pairs) pairs))

-- those that are left are those that do not pass
pub pairs_left_is : (test : DeskPair → Bool) (pairs : List DeskPair) → KeysRise desk_key pairs →
    pairs_left (pages_of (filter test pairs)) pairs ≡ filter (λ pair. not (test pair)) pairs
pairs_left_is test pairs rise =
    by_pages (filter test pairs) pairs
    ∙ left_is (λ pair other. nat_eq other.page pair.page) page_tells test pairs rise
