-- The items between the places of two keys, and the grants at a page.
use Rattle.std.proofs.Common.{◌≡◌, ℕ, suc, ◌+◌, ◌≤◌, Bool, true, false, cond, not, ◌&&◌, nat_eq, nat_lt, List, [], ◌∷◌, filter, refl, ap, sym, ◌∙◌, arith}
use Rattle.std.proofs.lemmas.Bool.Decides.{nat_tests}
use Rattle.std.specs.List.{AllByRecursion, remove_range}
use Rattle.page_tree.specs.Rows.{comes_before}
use Rattle.site_types.specs.declared.world_rows.Grant.{Grant}
use Rattle.site_model.specs.Rights.{permission_number}
use Rattle.site_model.specs.Users.{grant_key}
use Rattle.site_model.specs.Sound.{KeysRise}
use Rattle.site_model.proofs.OrderLemmas.{rise_filter}
use Rattle.desk_pairs.specs.Places.{place_of}
use Rattle.page_tree.proofs.OrderLemmas.{comes_before-trans}

module _ {Item : Type 0} (key : Item → List ℕ) (low high : List ℕ)
    (higher : (item : Item) → comes_before (key item) low ≡ true → comes_before (key item) high ≡ true) where
  -- the place of the lower key is no later
  pub place_ordered : (items : List Item) → place_of key low items ≤ place_of key high items
  place_ordered [] = omega arith
  place_ordered (item ∷ items) = choice (comes_before (key item) low) refl (place_ordered items)
    where
      choice : (t : Bool) → comes_before (key item) low ≡ t →
          place_of key low items ≤ place_of key high items →
          cond t (suc (place_of key low items)) 0 ≤ place_of key high (item ∷ items)
      choice true e more = let above = higher item e in rw above (omega arith)
      choice false e more = omega arith

-- where an item does not come before a key, none that it comes before does
place_first : {Item : Type 0} (key : Item → List ℕ) (wanted : List ℕ) (item : Item) (items : List Item) →
    comes_before (key item) wanted ≡ false →
    AllByRecursion (λ (later : Item). comes_before (key item) (key later) ≡ true) items →
    place_of key wanted items ≡ 0
place_first key wanted item [] behind later = refl
place_first key wanted item (next ∷ items) behind later =
    choice (comes_before (key next) wanted) refl
  where
    choice : (t : Bool) → comes_before (key next) wanted ≡ t →
        cond t (suc (place_of key wanted items)) 0 ≡ 0
    choice true e =
        let before = comes_before-trans (key item) (key next) wanted later.0 e in
        cc
    choice false e = refl

-- what stands between the places of two keys is what comes before the higher and not before the lower
between : {Item : Type 0} (key : Item → List ℕ) (low high : List ℕ) (test : Item → Bool)
    (higher : (item : Item) → comes_before (key item) low ≡ true → comes_before (key item) high ≡ true)
    (is : (item : Item) →
    test item ≡ (not (comes_before (key item) low) && comes_before (key item) high))
    (items : List Item) → KeysRise key items →
    remove_range items (place_of key low items) (place_of key high items)
    ≡ filter (λ item. not (test item)) items
between key low high test higher is [] rise = refl
between key low high test higher is (item ∷ items) rise =
    choice (comes_before (key item) low) refl (comes_before (key item) high) refl
    (between key low high test higher is items rise.1)
  where
    choice : (t : Bool) → comes_before (key item) low ≡ t → (u : Bool) →
        comes_before (key item) high ≡ u →
        remove_range items (place_of key low items) (place_of key high items)
        ≡ filter (λ item. not (test item)) items →
        remove_range (item ∷ items) (cond t (suc (place_of key low items)) 0)
        (cond u (suc (place_of key high items)) 0)
        ≡ cond (not (test item)) (item ∷ filter (λ item. not (test item)) items)
        (filter (λ item. not (test item)) items)
    choice true e true f more =
        let fails : test item ≡ false = is item ∙ rw e refl in
        rw fails (ap (λ rest. item ∷ rest) more)
    choice true e false f more =
        let above = higher item e in
        cc
    choice false e true f more =
        let passed : test item ≡ true = is item ∙ rw (e, f) refl in
        let first = place_first key low item items e rise.0 in
        rw passed (rw first at more)
    choice false e false f more =
        let fails : test item ≡ false = is item ∙ rw (e, f) refl in
        let first = place_first key low item items e rise.0 in
        let second = place_first key high item items f rise.0 in
        rw fails (ap (λ rest. item ∷ rest) (rw (first, second) at more))

-- the numbers of a grant beside the least of a page
least_step : (page group permission wanted : ℕ) →
    cond (nat_eq page wanted) (cond (nat_eq group 0) (cond (nat_eq permission 0) false (nat_lt permission 0))
    (nat_lt group 0)) (nat_lt page wanted) ≡ nat_lt page wanted
least_step page group permission wanted = grind (arith, nat_tests)

-- the least key of a page
abbrev pub page_key : ℕ → List ℕ
page_key page = page ∷ 0 ∷ 0 ∷ []

-- a grant comes before the least key of a page where its page does
least : (grant : Grant) (page : ℕ) → comes_before (grant_key grant) (page_key page) ≡ nat_lt grant.page page
least grant page = least_step grant.page grant.group (permission_number grant.permission) page

-- a grant at a lower page is at one that is lower than the next
pub lower_page : (page : ℕ) (grant : Grant) → comes_before (grant_key grant) (page_key page) ≡ true →
    comes_before (grant_key grant) (page_key (page + 1)) ≡ true
lower_page page grant before =
    let one : nat_lt grant.page page ≡ true = sym (least grant page) ∙ before in
    let more : nat_lt grant.page (page + 1) ≡ true = grind (arith, nat_tests) in
    least grant (page + 1) ∙ more

-- a grant is at a page where it is not at a lower one, and at one lower than the next
own_page : (page : ℕ) (grant : Grant) →
    nat_eq grant.page page
    ≡ (not (comes_before (grant_key grant) (page_key page))
    && comes_before (grant_key grant) (page_key (page + 1)))
own_page page grant =
    let one = least grant page in
    let next = least grant (page + 1) in
    rw (one, next) (page_step grant.page page)
  where
    page_step : (own page : ℕ) → nat_eq own page ≡ (not (nat_lt own page) && nat_lt own (page + 1))
    page_step own page = grind (arith, nat_tests)

-- the grants without those at a page
pub page_cut : (grants : List Grant) (page : ℕ) → KeysRise grant_key grants →
    remove_range grants (place_of grant_key (page_key page) grants)
    (place_of grant_key (page_key (page + 1)) grants)
    ≡ filter (λ grant. not (nat_eq grant.page page)) grants
page_cut grants page rise =
    between grant_key (page_key page) (page_key (page + 1)) (λ grant. nat_eq grant.page page)
    (lower_page page) (own_page page) grants rise

-- the grants without those at a page still rise
pub page_cut_rises : (grants after : List Grant) (page : ℕ) → KeysRise grant_key grants →
    after ≡ filter (λ grant. not (nat_eq grant.page page)) grants → KeysRise grant_key after
page_cut_rises grants after page rise is =
    rw is (rise_filter grant_key (λ grant. not (nat_eq grant.page page)) grants rise)
