-- What a search tells, and what putting in and taking out by it come to.
use Rattle.std.proofs.Common.{◌≡◌, ℕ, zero, suc, ◌<◌, ◌≤◌, Bool, true, false, cond, not, List, [], ◌∷◌, Result, Ok, Err, length, filter, insert, remove, refl, ◌∙◌, arith}
use Rattle.std.specs.List.{list_any, slice_get}
use Rattle.site_model.specs.Users.{agree, put_in}
use Rattle.site_model.specs.Sound.{KeysRise}
use Rattle.site_model.proofs.OrderLemmas.{rise_put, rise_filter}
use Rattle.desk_pairs.specs.Places.{place_of, search_told, passes}
use Rattle.desk_pairs.proofs.PlaceLemmas.{IsTestOf, place_within, found_at_place, taken_at_place, put_at_place, none_has_key}

module _ {Item : Type 0} where
  -- what is there stands before the end
  pub there_within : (test : Item → Bool) (items : List Item) (place : ℕ) →
      passes test (slice_get items place) ≡ true → place < length items
  there_within test [] place there = cc
  there_within test (item ∷ items) zero there = omega arith
  there_within test (item ∷ items) (suc place) there =
      let more = there_within test items place there in omega arith

  -- what a search found is there, at the place of the key
  told_there : (key : Item → List ℕ) (wanted : List ℕ) (test : Item → Bool) (items : List Item) (place : ℕ) →
      Ok place ≡ search_told key wanted test items →
      (list_any test items ≡ true) × (place ≡ place_of key wanted items)
  told_there key wanted test items place told = choice (list_any test items) refl
    where
      choice : (t : Bool) → list_any test items ≡ t →
          (list_any test items ≡ true) × (place ≡ place_of key wanted items)
      choice true e =
          let own : ◌≡◌ {A = Result ℕ ℕ} (Ok place) (Ok (place_of key wanted items)) = rw e at told in
          (e, cc)
      choice false e =
          let own : ◌≡◌ {A = Result ℕ ℕ} (Ok place) (Err (place_of key wanted items)) = rw e at told in
          cc

  -- what a search did not find is not there, and its place is that of the key
  told_absent : (key : Item → List ℕ) (wanted : List ℕ) (test : Item → Bool) (items : List Item)
      (place : ℕ) → Err place ≡ search_told key wanted test items →
      (list_any test items ≡ false) × (place ≡ place_of key wanted items)
  told_absent key wanted test items place told = choice (list_any test items) refl
    where
      choice : (t : Bool) → list_any test items ≡ t →
          (list_any test items ≡ false) × (place ≡ place_of key wanted items)
      choice true e =
          let own : ◌≡◌ {A = Result ℕ ℕ} (Err place) (Ok (place_of key wanted items)) = rw e at told in
          cc
      choice false e =
          let own : ◌≡◌ {A = Result ℕ ℕ} (Err place) (Err (place_of key wanted items)) = rw e at told in
          (e, cc)

  -- an answer by what stands at the place of the key is what a search tells
  pub told_at_place : (key : Item → List ℕ) (wanted : List ℕ) (test : Item → Bool) (items : List Item)
      (place : ℕ) → IsTestOf key wanted test → KeysRise key items → place ≡ place_of key wanted items →
      cond (passes test (slice_get items place)) (Ok place) (Err place)
      ≡ search_told key wanted test items
  told_at_place key wanted test items place is rise at =
      let found : passes test (slice_get items place) ≡ list_any test items =
      rw at (found_at_place key wanted test is items rise) in
      rw (found, at) refl

  module _ (key : Item → List ℕ) (test : Item → Bool) (new : Item) (is : IsTestOf key (key new) test) where
    -- the items, where this one stands or does not
    abbrev pub items_with : List Item → Bool → List Item
    items_with items on =
        cond (agree on (list_any test items)) items
        (cond on (put_in key new items) (filter (λ item. not (test item)) items))

    -- an item that a search found is taken out at that place
    pub taken_where_told : (items : List Item) (place : ℕ) → KeysRise key items →
        Ok place ≡ search_told key (key new) test items →
        (place < length items) × (remove items place ≡ items_with items false)
    taken_where_told items place rise told =
        let there = told_there key (key new) test items place told in
        let found = found_at_place key (key new) test is items rise in
        let at : place ≡ place_of key (key new) items = there.1 in
        let stands : passes test (slice_get items place) ≡ true = rw at (found ∙ there.0) in (
          there_within test items place stands,
          rw (there.0) (rw at (taken_at_place key (key new) test is items rise there.0)),
        )

    -- an item that a search did not find is put in at that place
    pub put_where_told : (items : List Item) (place : ℕ) →
        Err place ≡ search_told key (key new) test items →
        (place ≤ length items) × (insert items place new ≡ items_with items true)
    put_where_told items place told =
        let absent = told_absent key (key new) test items place told in
        let at : place ≡ place_of key (key new) items = absent.1 in
        let within = place_within key (key new) items in (
          omega arith,
          rw (absent.0) (rw at (put_at_place key test new items is absent.0)),
        )

    -- the keys still rise
    pub rise_with : (items : List Item) (on : Bool) → KeysRise key items → KeysRise key (items_with items on)
    rise_with items on rise = choice on (list_any test items) refl
      where
        choice : (on t : Bool) → list_any test items ≡ t →
            KeysRise key (cond (agree on t) items
            (cond on (put_in key new items) (filter (λ item. not (test item)) items)))
        choice true true e = rise
        choice true false e = rise_put key new items (none_has_key key (key new) test items is e) rise
        choice false true e = rise_filter key (λ item. not (test item)) items rise
        choice false false e = rise
