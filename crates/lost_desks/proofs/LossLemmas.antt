-- The pages of the desks that end, one desk after another; and the desk on one page.
use Rattle.std.proofs.Common.{◌≡◌, ℕ, zero, suc, ◌+◌, Bool, true, false, cond, ◌&&◌, nat_eq, nat_lt, List, [], ◌∷◌, ◌++◌, Some, None, take, filter, slice_get, add-one, refl, sym, ap, arith}
use Rattle.std.specs.List.{AllByRecursion}
use Rattle.std.proofs.lemmas.Bool.Decides.{nat_tests}
use Rattle.page_tree.specs.Rows.{comes_before}
use Rattle.site_model.specs.World.{DeskPair}
use Rattle.site_model.specs.Desks.{desk_key, desk_user}
use Rattle.site_model.specs.Sound.{KeysRise}
use Rattle.desk_pairs.specs.Pairs.{pair_of}
use Rattle.site_part.specs.Plans.{pages_of}
use Rattle.lost_desks.specs.Losses.{page_lost, page_if}

module _ (test : DeskPair → Bool) where
  -- the pages of those that end among so many
  abbrev pub lost_of : ℕ → List DeskPair → List ℕ
  lost_of count pairs = pages_of (filter test (take count pairs))

  -- a desk that ends is the last of them
  lost_next : (pairs : List DeskPair) (place page : ℕ) →
      Some page ≡ page_lost test (slice_get pairs place) →
      lost_of place pairs ++ page ∷ [] ≡ lost_of (suc place) pairs
  lost_next [] place page is = absurd cc
  lost_next (pair ∷ pairs) zero page is = choice (test pair) is
    where
      choice : (t : Bool) → Some page ≡ cond t (Some pair.page) None →
          page ∷ [] ≡ pages_of (cond t (pair ∷ []) [])
      choice true e = let same : page ≡ pair.page = cc in ap (λ id. id ∷ []) same
      choice false e = absurd cc
  lost_next (pair ∷ pairs) (suc place) page is =
      choice (test pair) (lost_next pairs place page is)
    where
      choice : (t : Bool) → lost_of place pairs ++ page ∷ [] ≡ lost_of (suc place) pairs →
          pages_of (cond t (pair ∷ filter test (take place pairs)) (filter test (take place pairs)))
          ++ page ∷ []
          ≡ pages_of (cond t (pair ∷ filter test (take (suc place) pairs))
          (filter test (take (suc place) pairs)))
      choice true more = ap (λ ids. pair.page ∷ ids) more
      choice false more = more

  -- one that stays is none of them
  kept_next : (pairs : List DeskPair) (place : ℕ) →
      None ≡ page_lost test (slice_get pairs place) → lost_of place pairs ≡ lost_of (suc place) pairs
  kept_next [] zero is = refl
  kept_next [] (suc place) is = refl
  kept_next (pair ∷ pairs) zero is = choice (test pair) is
    where
      choice : (t : Bool) → None ≡ cond t (Some pair.page) None →
          [] ≡ pages_of (cond t (pair ∷ []) [])
      choice true e = absurd cc
      choice false e = refl
  kept_next (pair ∷ pairs) (suc place) is =
      choice (test pair) (kept_next pairs place is)
    where
      choice : (t : Bool) → lost_of place pairs ≡ lost_of (suc place) pairs →
          pages_of (cond t (pair ∷ filter test (take place pairs)) (filter test (take place pairs)))
          ≡ pages_of (cond t (pair ∷ filter test (take (suc place) pairs))
          (filter test (take (suc place) pairs)))
      choice true more = ap (λ ids. pair.page ∷ ids) more
      choice false more = more

  -- a desk that ends, counted as the loop counts
  pub lost_more : (pairs : List DeskPair) (place page : ℕ) →
      Some page ≡ page_lost test (slice_get pairs place) →
      lost_of place pairs ++ page ∷ [] ≡ lost_of (place + 1) pairs
  lost_more pairs place page is = rw add-one (lost_next pairs place page is)

  -- and one that stays
  pub kept_more : (pairs : List DeskPair) (place : ℕ) →
      None ≡ page_lost test (slice_get pairs place) → lost_of place pairs ≡ lost_of (place + 1) pairs
  kept_more pairs place is = rw add-one (kept_next pairs place is)

-- a desk on a page after another is not on its page
later_page : (one other : ℕ) → cond (nat_eq one other) false (nat_lt one other) ≡ true →
    nat_eq one other ≡ false
later_page one other before = grind (arith, nat_tests)

-- two pages that are one page are not on different pages
same_page : (one other page : ℕ) → nat_eq one page ≡ true → nat_eq one other ≡ false →
    nat_eq other page ≡ false
same_page one other page is differ = grind (arith, nat_tests)

module _ (page : ℕ) (test : DeskPair → Bool) where
  -- whether a desk is on the page, and passes the test
  abbrev pub is_on_and : DeskPair → Bool
  is_on_and pair = nat_eq pair.page page && test pair

  -- after the desk on the page none is on it
  none_behind : (pair : DeskPair) (later : List DeskPair) → nat_eq pair.page page ≡ true →
      AllByRecursion (λ (other : DeskPair).
      comes_before (desk_key pair) (desk_key other) ≡ true) later →
      filter is_on_and later ≡ []
  none_behind pair [] is all = refl
  none_behind pair (other ∷ later) is all =
      let differ = same_page pair.page other.page page is
      (later_page pair.page other.page all.0) in
      rw differ (none_behind pair later is all.1)

  -- The desk on the page, if it passes the test.
  pub desk_alone : (pairs : List DeskPair) → KeysRise desk_key pairs →
      page_if (λ user. test (pair_of page user)) page (desk_user pairs page)
      ≡ pages_of (filter is_on_and pairs)
  desk_alone [] rise = refl
  desk_alone (pair ∷ pairs) rise = choice (nat_eq pair.page page) refl (desk_alone pairs rise.1)
    where
      own : nat_eq pair.page page ≡ true → pair.page ≡ page
      own is = grind (arith, nat_tests)

      mine : (t : Bool) → pair.page ≡ page →
          cond t (page ∷ []) [] ≡ pages_of (cond t (pair ∷ []) [])
      mine true same = ap (λ id. id ∷ []) (sym same)
      mine false same = refl

      tested : pair.page ≡ page → test (pair_of page pair.user) ≡ test pair
      tested same = ap (λ id. test (pair_of id pair.user)) (sym same)

      choice : (t : Bool) → nat_eq pair.page page ≡ t →
          page_if (λ user. test (pair_of page user)) page (desk_user pairs page)
          ≡ pages_of (filter is_on_and pairs) →
          page_if (λ user. test (pair_of page user)) page (desk_user (pair ∷ pairs) page)
          ≡ pages_of (filter is_on_and (pair ∷ pairs))
      choice true is more =
          rw (is, none_behind pair pairs is rise.0, tested (own is)) (mine (test pair) (own is))
      choice false is more = rw is more
