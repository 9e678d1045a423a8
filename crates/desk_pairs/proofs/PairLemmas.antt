-- The open desks as they are kept, and as they are seen.
use Rattle.std.proofs.Common.{◌≡◌, ℕ, suc, ◌≤◌, Bool, true, false, cond, not, nat_eq, List, [], ◌∷◌, None, length, take, drop, insert, remove, refl, ap, sym, ◌∙◌, arith}
use Rattle.std.specs.List.{AllByRecursion, slice_get}
use Rattle.std.proofs.lemmas.Bool.Decides.{nat_tests}
use Rattle.std.proofs.lemmas.List.{map-append, take-map, drop-map, length-map}
use Rattle.page_tree.specs.Rows.{comes_before}
use Rattle.site_model.specs.World.{DeskPair}
use Rattle.site_model.specs.Desks.{desk_key, desk_user}
use Rattle.site_model.specs.Sound.{KeysRise}
use Rattle.site_model.proofs.OrderLemmas.{rise_put, rise_filter}
use Rattle.desk_pairs.specs.Pairs.{pair_of, is_on, has_desk, with_pair, without}
use Rattle.desk_pairs.specs.Places.{place_of, passes}
use Rattle.desk_pairs.specs.Kept.{pair_seen, pairs_seen, user_told}
use Rattle.desk_pairs.specs.declared.pairs.Pair.{Pair}
use Rattle.desk_pairs.proofs.PlaceLemmas.{IsTestOf, place_within, before_fails, behind_fail, found_at_place, taken_at_place, put_at_place, none_has_key}

-- a desk has the key of a page where it is on the page
pub tests_page : (page : ℕ) → IsTestOf desk_key (page ∷ []) (λ (pair : DeskPair). nat_eq pair.page page)
tests_page page =
    record {
      means = λ (pair : DeskPair) (passed : nat_eq pair.page page ≡ true).
          let same : pair.page ≡ page = grind (arith, nat_tests) in
          cc;
      names = λ (pair : DeskPair) (same : desk_key pair ≡ page ∷ []).
          let first : pair.page ≡ page = cc in
          grind (arith, nat_tests);
    }

-- the key of a kept desk
abbrev pub kept_key : Pair → List ℕ
kept_key pair = desk_key (pair_seen pair)

-- what holds of the seen desks holds of the kept ones
all_kept : (P : DeskPair → Type 0) (kept : List Pair) → AllByRecursion P (pairs_seen kept) →
    AllByRecursion (λ (pair : Pair). P (pair_seen pair)) kept
all_kept P [] all = tt
all_kept P (pair ∷ kept) all = (all.0, all_kept P kept all.1)

-- kept desks rise as they are seen to
pub kept_rise : (kept : List Pair) → KeysRise desk_key (pairs_seen kept) → KeysRise kept_key kept
kept_rise [] rise = tt
kept_rise (pair ∷ kept) rise = (
  all_kept (λ later. comes_before (kept_key pair) (desk_key later) ≡ true) kept rise.0,
  kept_rise kept rise.1,
)

-- a key has the same place among the kept desks and among those that are seen
pub place_kept : (wanted : List ℕ) (kept : List Pair) →
    place_of kept_key wanted kept ≡ place_of desk_key wanted (pairs_seen kept)
place_kept wanted [] = refl
place_kept wanted (pair ∷ kept) =
    ap (λ n. cond (comes_before (kept_key pair) wanted) (suc n) 0) (place_kept wanted kept)

-- one that is put in among the kept ones is put in among those that are seen
pub seen_insert : (kept : List Pair) (place : ℕ) (pair : Pair) →
    pairs_seen (insert kept place pair) ≡ insert (pairs_seen kept) place (pair_seen pair)
seen_insert kept place pair =
    map-append pair_seen (take place kept) (pair ∷ drop place kept)
    ∙ rw (take-map pair_seen place kept, drop-map pair_seen place kept) refl

-- one that is taken out of the kept ones is taken out of those that are seen
pub seen_remove : (kept : List Pair) (place : ℕ) →
    pairs_seen (remove kept place) ≡ remove (pairs_seen kept) place
seen_remove kept place =
    map-append pair_seen (take place kept) (drop (suc place) kept)
    ∙ rw (take-map pair_seen place kept, drop-map pair_seen (suc place) kept) refl

-- where no desk is on the page, none is found there
none_told : (page : ℕ) (pairs : List DeskPair) →
    AllByRecursion (λ (pair : DeskPair). nat_eq pair.page page ≡ false) pairs →
    None ≡ desk_user pairs page
none_told page [] none = refl
none_told page (pair ∷ pairs) none =
    let first : nat_eq pair.page page ≡ false = none.0 in
    rw first (none_told page pairs none.1)

-- whose desk is on a page is told by what stands at the page's place
pub told_by_place : (page : ℕ) (pairs : List DeskPair) → KeysRise desk_key pairs →
    user_told page (slice_get pairs (place_of desk_key (page ∷ []) pairs)) ≡ desk_user pairs page
told_by_place page [] rise = refl
told_by_place page (pair ∷ pairs) rise =
    choice (comes_before (desk_key pair) (page ∷ [])) refl (nat_eq pair.page page) refl
    (told_by_place page pairs rise.1)
  where
    choice : (t : Bool) → comes_before (desk_key pair) (page ∷ []) ≡ t → (u : Bool) →
        nat_eq pair.page page ≡ u →
        user_told page (slice_get pairs (place_of desk_key (page ∷ []) pairs))
        ≡ desk_user pairs page →
        user_told page
        (slice_get (pair ∷ pairs) (cond t (suc (place_of desk_key (page ∷ []) pairs)) 0))
        ≡ desk_user (pair ∷ pairs) page
    choice true e u f more =
        let fails : nat_eq pair.page page ≡ false =
        before_fails desk_key (page ∷ []) (λ (one : DeskPair). nat_eq one.page page)
        (tests_page page) pair e in
        rw fails more
    choice false e true f more = rw f refl
    choice false e false f more =
        let none = behind_fail desk_key (page ∷ []) (λ (one : DeskPair). nat_eq one.page page)
        (tests_page page) pair pairs e rise.0 in
        rw f (none_told page pairs none)

-- where no desk is open on the page, taking it out leaves all
none_out : (page : ℕ) (pairs : List DeskPair) → has_desk pairs page ≡ false →
    without page pairs ≡ pairs
none_out page [] none = refl
none_out page (pair ∷ pairs) none = choice (nat_eq pair.page page) refl (none_out page pairs)
  where
    choice : (t : Bool) → nat_eq pair.page page ≡ t →
        (has_desk pairs page ≡ false → without page pairs ≡ pairs) →
        without page (pair ∷ pairs) ≡ pair ∷ pairs
    choice true e more =
        let found : true ≡ false = rw e at none in
        cc
    choice false e more =
        let later : has_desk pairs page ≡ false = rw e at none in
        rw e (ap (λ (rest : List DeskPair). pair ∷ rest) (more later))

-- a desk that stands at the page's place is taken out there
pub cut_there : (page place : ℕ) (kept : List Pair) → KeysRise desk_key (pairs_seen kept) →
    place ≡ place_of desk_key (page ∷ []) (pairs_seen kept) →
    passes (is_on page) (slice_get (pairs_seen kept) place) ≡ true →
    pairs_seen (remove kept place) ≡ without page (pairs_seen kept)
cut_there page place kept rise at there =
    let pairs = pairs_seen kept in
    let found : passes (is_on page) (slice_get pairs place) ≡ has_desk pairs page =
    rw at (found_at_place desk_key (page ∷ []) (is_on page) (tests_page page) pairs rise) in
    let has : has_desk pairs page ≡ true = sym found ∙ there in
    seen_remove kept place
    ∙ rw at (taken_at_place desk_key (page ∷ []) (is_on page) (tests_page page) pairs rise has)

-- where none stands there, none is taken out
pub cut_nowhere : (page place : ℕ) (pairs : List DeskPair) → KeysRise desk_key pairs →
    place ≡ place_of desk_key (page ∷ []) pairs →
    passes (is_on page) (slice_get pairs place) ≡ false → pairs ≡ without page pairs
cut_nowhere page place pairs rise at there =
    let found : passes (is_on page) (slice_get pairs place) ≡ has_desk pairs page =
    rw at (found_at_place desk_key (page ∷ []) (is_on page) (tests_page page) pairs rise) in
    sym (none_out page pairs (sym found ∙ there))

-- a desk of a page that has none is put in at the page's place
pub put_there : (page user place : ℕ) (kept : List Pair) (new : Pair) →
    pair_seen new ≡ pair_of page user → has_desk (pairs_seen kept) page ≡ false →
    place ≡ place_of desk_key (page ∷ []) (pairs_seen kept) →
    pairs_seen (insert kept place new) ≡ with_pair page user (pairs_seen kept)
put_there page user place kept new is free at =
    seen_insert kept place new
    ∙ rw (is, at)
    (put_at_place desk_key (is_on page) (pair_of page user) (pairs_seen kept) (tests_page page)
    free)

-- the desks still rise with one more
pub put_rises : (page user : ℕ) (pairs : List DeskPair) → has_desk pairs page ≡ false →
    KeysRise desk_key pairs → KeysRise desk_key (with_pair page user pairs)
put_rises page user pairs free rise =
    rise_put desk_key (pair_of page user) pairs
    (none_has_key desk_key (page ∷ []) (is_on page) pairs (tests_page page) free) rise

-- and without one
pub cut_rises : (page : ℕ) (pairs : List DeskPair) → KeysRise desk_key pairs →
    KeysRise desk_key (without page pairs)
cut_rises page pairs rise = rise_filter desk_key (λ pair. not (is_on page pair)) pairs rise

-- a place is at most at the end
pub place_in : (page place : ℕ) (kept : List Pair) →
    place ≡ place_of desk_key (page ∷ []) (pairs_seen kept) → place ≤ length kept
place_in page place kept at =
    let within = place_within desk_key (page ∷ []) (pairs_seen kept) in
    let same = length-map kept pair_seen in
    omega arith
