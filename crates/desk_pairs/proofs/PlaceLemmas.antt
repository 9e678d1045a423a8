-- The place of a key in a list that rises by its keys: what a search finds there, and what putting in and
-- taking out there come to.
use Rattle.std.proofs.Common.{◌≡◌, ℕ, zero, suc, ◌<◌, ◌≤◌, Bool, true, false, cond, not, ◌||◌, List, [], ◌∷◌, length, get_or, filter, insert, remove, refl, ap, sym, arith}
use Rattle.std.specs.List.{AllByRecursion, list_any, slice_get}
use Rattle.std.specs.List.Sorted.{IsPartitionPoint, IsPartitionedBy}
use Rattle.page_tree.specs.Rows.{comes_before}
use Rattle.site_model.specs.Users.{put_in}
use Rattle.site_model.specs.Sound.{KeysRise}
use Rattle.desk_pairs.specs.Places.{place_of, passes}
use Rattle.page_tree.proofs.OrderLemmas.{comes_before-trans, comes_before-not_back, comes_before-other}
use Rattle.desk_pairs.proofs.KeyLemmas.{before_self}

module _ {Item : Type 0} where
  -- the test is whether an item has the key
  pub record IsTestOf (key : Item → List ℕ) (wanted : List ℕ) (test : Item → Bool) : Type 0 where
    pub means : (item : Item) → test item ≡ true → key item ≡ wanted
    pub names : (item : Item) → key item ≡ wanted → test item ≡ true

  -- what holds of all holds of each
  all_at : (P : Item → Type 0) (items : List Item) (k : ℕ) (d : Item) → AllByRecursion P items →
      k < length items → P (get_or items k d)
  all_at P [] k d all lt = absurd (omega arith)
  all_at P (item ∷ items) zero d all lt = all.0
  all_at P (item ∷ items) (suc k) d all lt = all_at P items k d all.1 (omega arith)

  -- in a list that rises those that come before a key stand before the others
  pub parted : (key : Item → List ℕ) (wanted : List ℕ) (items : List Item) → KeysRise key items →
      IsPartitionedBy (λ item. comes_before (key item) wanted) items
  parted key wanted [] rise i j d le lt h = absurd (omega arith)
  parted key wanted (item ∷ items) rise zero zero d le lt h = h
  parted key wanted (item ∷ items) rise zero (suc j) d le lt h =
      comes_before-trans (key item) (key (get_or items j d)) wanted
      (all_at (λ (later : Item). comes_before (key item) (key later) ≡ true) items j d rise.0 (omega arith)) h
  parted key wanted (item ∷ items) rise (suc i) zero d le lt h = absurd (omega arith)
  parted key wanted (item ∷ items) rise (suc i) (suc j) d le lt h =
      parted key wanted items rise.1 i j d (omega arith) (omega arith) h

  -- where all before come before the key, and none behind does, is the key's place
  pub place_found : (key : Item → List ℕ) (wanted : List ℕ) (items : List Item) (i : ℕ) →
      i ≤ length items →
      IsPartitionPoint (λ item. comes_before (key item) wanted ≡ true)
      (λ item. comes_before (key item) wanted ≡ false) items i →
      i ≡ place_of key wanted items
  place_found key wanted [] zero le point = refl
  place_found key wanted [] (suc i) le point = absurd (omega arith)
  place_found key wanted (item ∷ items) zero le point =
      let behind = point.1 zero item (omega arith) (omega arith) in
      rw behind refl
  place_found key wanted (item ∷ items) (suc i) le point =
      let before = point.0 zero item (omega arith) (omega arith) in
      rw before (ap suc (place_found key wanted items i (omega arith) (
        λ k d low high. point.0 (suc k) d (omega arith) (omega arith),
        λ k d low high. point.1 (suc k) d (omega arith) (omega arith),
      )))

  -- a place is at most at the end
  pub place_within : (key : Item → List ℕ) (wanted : List ℕ) (items : List Item) →
      place_of key wanted items ≤ length items
  place_within key wanted [] = omega arith
  place_within key wanted (item ∷ items) =
      choice (comes_before (key item) wanted) (place_within key wanted items)
    where
      choice : (t : Bool) → place_of key wanted items ≤ length items →
          cond t (suc (place_of key wanted items)) 0 ≤ length (item ∷ items)
      choice true more = omega arith
      choice false more = omega arith

  module _ (key : Item → List ℕ) (wanted : List ℕ) (test : Item → Bool) (is : IsTestOf key wanted test) where
    -- what comes before the key does not have it
    pub before_fails : (item : Item) → comes_before (key item) wanted ≡ true → test item ≡ false
    before_fails item before = choice (test item) refl
      where
        choice : (t : Bool) → test item ≡ t → test item ≡ false
        choice true e = absurd (before_self (key item) wanted (is.means item e) before)
        choice false e = e

    -- those behind what does not come before the key do not have it
    pub behind_fail : (item : Item) (items : List Item) → comes_before (key item) wanted ≡ false →
        AllByRecursion (λ (later : Item). comes_before (key item) (key later) ≡ true) items →
        AllByRecursion (λ (later : Item). test later ≡ false) items
    behind_fail item [] behind later = tt
    behind_fail item (next ∷ items) behind later =
        (choice (test next) refl, behind_fail item items behind later.1)
      where
        choice : (t : Bool) → test next ≡ t → test next ≡ false
        choice true e =
            let same = is.means next e in
            let turned : comes_before (key item) (key next) ≡ comes_before (key item) wanted =
            ap (comes_before (key item)) same in
            let first = later.0 in
            cc
        choice false e = e

    -- where none passes, none is found
    none_found : (items : List Item) → AllByRecursion (λ (later : Item). test later ≡ false) items →
        list_any test items ≡ false
    none_found [] none = refl
    none_found (item ∷ items) none =
        let first : test item ≡ false = none.0 in
        rw first (none_found items none.1)

    -- where none passes, taking those out leaves all
    none_taken : (items : List Item) → AllByRecursion (λ (later : Item). test later ≡ false) items →
        filter (λ item. not (test item)) items ≡ items
    none_taken [] none = refl
    none_taken (item ∷ items) none =
        let first : test item ≡ false = none.0 in
        rw first (ap (λ rest. item ∷ rest) (none_taken items none.1))

    -- an item with the key is there exactly where it stands at the key's place
    pub found_at_place : (items : List Item) → KeysRise key items →
        passes test (slice_get items (place_of key wanted items)) ≡ list_any test items
    found_at_place [] rise = refl
    found_at_place (item ∷ items) rise =
        choice (comes_before (key item) wanted) refl (test item) refl (found_at_place items rise.1)
      where
        choice : (t : Bool) → comes_before (key item) wanted ≡ t → (u : Bool) → test item ≡ u →
            passes test (slice_get items (place_of key wanted items)) ≡ list_any test items →
            passes test (slice_get (item ∷ items) (cond t (suc (place_of key wanted items)) 0))
            ≡ (test item || list_any test items)
        choice true e u f more =
            let fails = before_fails item e in
            rw fails more
        choice false e true f more = rw f refl
        choice false e false f more =
            rw f (sym (none_found items (behind_fail item items e rise.0)))

    -- taking the items with the key out is removing the one at its place
    pub taken_at_place : (items : List Item) → KeysRise key items → list_any test items ≡ true →
        remove items (place_of key wanted items) ≡ filter (λ item. not (test item)) items
    taken_at_place [] rise there = cc
    taken_at_place (item ∷ items) rise there =
        choice (comes_before (key item) wanted) refl (test item) refl (taken_at_place items rise.1)
      where
        choice : (t : Bool) → comes_before (key item) wanted ≡ t → (u : Bool) → test item ≡ u →
            (list_any test items ≡ true →
            remove items (place_of key wanted items) ≡ filter (λ item. not (test item)) items) →
            remove (item ∷ items) (cond t (suc (place_of key wanted items)) 0)
            ≡ cond (not (test item)) (item ∷ filter (λ item. not (test item)) items)
            (filter (λ item. not (test item)) items)
        choice true e u f more =
            let fails = before_fails item e in
            let later : list_any test items ≡ true = rw fails at there in
            rw fails (ap (λ rest. item ∷ rest) (more later))
        choice false e true f more =
            rw f (sym (none_taken items (behind_fail item items e rise.0)))
        choice false e false f more =
            let none = none_found items (behind_fail item items e rise.0) in
            let later : list_any test items ≡ true = rw f at there in
            cc

  -- where no item has the key, an item in its place is one inserted at the place of the key
  pub put_at_place : (key : Item → List ℕ) (test : Item → Bool) (new : Item) (items : List Item) →
      IsTestOf key (key new) test → list_any test items ≡ false →
      insert items (place_of key (key new) items) new ≡ put_in key new items
  put_at_place key test new [] is apart = refl
  put_at_place key test new (item ∷ items) is apart =
      choice (test item) refl (comes_before (key new) (key item)) refl (put_at_place key test new items is)
    where
      choice : (t : Bool) → test item ≡ t → (u : Bool) → comes_before (key new) (key item) ≡ u →
          (list_any test items ≡ false →
          insert items (place_of key (key new) items) new ≡ put_in key new items) →
          insert (item ∷ items) (cond (comes_before (key item) (key new))
          (suc (place_of key (key new) items)) 0) new
          ≡ cond (comes_before (key new) (key item)) (new ∷ item ∷ items) (item ∷ put_in key new items)
      choice true e u f more =
          let found : true ≡ false = rw e at apart in
          cc
      choice false e true f more =
          let back = comes_before-not_back (key new) (key item) f in
          rw (back, f) refl
      choice false e false f more =
          let later : list_any test items ≡ false = rw e at apart in
          let before = comes_before-other (key new) (key item) (λ same. differ e (sym same)) f in
          rw (before, f) (ap (λ rest. item ∷ rest) (more later))
        where
          differ : test item ≡ false → key item ≡ key new → ⊥
          differ fails same =
              let passed = is.names item same in
              cc

  -- where none passes the test, none has the key
  pub none_has_key : (key : Item → List ℕ) (wanted : List ℕ) (test : Item → Bool) (items : List Item) →
      IsTestOf key wanted test → list_any test items ≡ false →
      AllByRecursion (λ (item : Item). key item ≡ wanted → ⊥) items
  none_has_key key wanted test [] is apart = tt
  none_has_key key wanted test (item ∷ items) is apart =
      choice (test item) refl (none_has_key key wanted test items is)
    where
      choice : (t : Bool) → test item ≡ t →
          (list_any test items ≡ false → AllByRecursion (λ (item : Item). key item ≡ wanted → ⊥) items) →
          AllByRecursion (λ (item : Item). key item ≡ wanted → ⊥) (item ∷ items)
      choice true e more =
          let found : true ≡ false = rw e at apart in
          cc
      choice false e more =
          let later : list_any test items ≡ false = rw e at apart in
          (λ same. let passed = is.names item same in cc, more later)
