-- Lists of rows without those that a test takes out.
use Rattle.std.proofs.Common.{◌≡◌, ℕ, suc, ◌+◌, ◌<◌, Bool, true, false, cond, not, nat_eq, ◌||◌, List, [], ◌∷◌, ◌++◌, Option, Some, None, map, find, filter, length, take, drop, get_or, refl, ap, sym, ◌∙◌, arith}
use Prim.Native.Nat.{zero}
use Rattle.std.proofs.lemmas.Bool.Decides.{nat_tests}
use Rattle.std.proofs.lemmas.List.Folds.{list_any_more}
use Rattle.std.specs.List.{AllByRecursion, list_any}
use Rattle.std.specs.Option.{option_map}
use Rattle.page_tree.specs.Rows.{row_with}
use Rattle.page_store.specs.Pages.{Page, EachPair, HasOtherId}
use Rattle.page_store.proofs.AllLemmas.{All-weaker}
use Rattle.page_store.proofs.AddLemmas.{find_none}

-- a test that cannot pass fails
pub not_true : (b : Bool) → (b ≡ true → ⊥) → b ≡ false
not_true true never = absurd (never refl)
not_true false never = refl

-- where each element fails, none passes
pub any_none : {X : Type 0} (test : X → Bool) (xs : List X) →
    AllByRecursion (λ x. test x ≡ false) xs → list_any test xs ≡ false
any_none test [] all = refl
any_none test (x ∷ xs) all = rw all.0 (any_none test xs all.1)

-- and there are none that pass
pub count_none : {X : Type 0} (test : X → Bool) (xs : List X) →
    AllByRecursion (λ x. test x ≡ false) xs → length (filter test xs) ≡ 0
count_none test [] all = refl
count_none test (x ∷ xs) all = rw all.0 (count_none test xs all.1)

-- whether one of what a function gives passes
pub any-map : {X Y : Type 0} (f : Y → Bool) (g : X → Y) (test : X → Bool) (xs : List X) →
    AllByRecursion (λ x. f (g x) ≡ test x) xs → list_any f (map g xs) ≡ list_any test xs
any-map f g test [] all = refl
any-map f g test (x ∷ xs) all = rw (all.0, any-map f g test xs all.1) refl

-- a choice of nothing, under a function
pub map-cond : {X Y : Type 0} (f : X → Y) (b : Bool) (o : Option X) →
    option_map f (cond b None o) ≡ cond b None (option_map f o)
map-cond f true o = refl
map-cond f false o = refl

-- One more element of a list whose elements are taken out in turn.
pub taken_more : {Y : Type 0} (test : ℕ → Bool) (xs : List ℕ) (i x : ℕ) (old now later : Option Y) →
    i < length xs → x ≡ get_or xs i x → now ≡ cond (list_any test (take i xs)) None old →
    later ≡ cond (test x) None now → later ≡ cond (list_any test (take (i + 1) xs)) None old
taken_more test xs i x old now later within is before step =
    let more : list_any test (take (i + 1) xs) ≡ list_any test (take i xs) || test x =
    list_any_more test xs i x within ∙ ap (λ y. list_any test (take i xs) || test y) (sym is) in
    step ∙ rw (before, more) (both (list_any test (take i xs)) (test x))
  where
    both : (t u : Bool) → cond u None (cond t None old) ≡ cond (t || u) None old
    both true true = refl
    both true false = refl
    both false true = refl
    both false false = refl

-- all of a list
pub take_all : {X : Type 0} (xs : List X) → take (length xs) xs ≡ xs
take_all [] = refl
take_all (x ∷ xs) = ap (λ ys. x ∷ ys) (take_all xs)

module _ {X : Type 0} (out : X → Bool) where
  -- what holds of each element that is not out holds of those that stay
  pub All-stay : (P : X → Type 0) (xs : List X) → AllByRecursion (λ x. out x ≡ false → P x) xs →
      AllByRecursion P (filter (λ x. not (out x)) xs)
  All-stay P [] all = tt
  All-stay P (x ∷ xs) all = by (out x) refl (All-stay P xs all.1)
    where
      by : (t : Bool) → out x ≡ t → AllByRecursion P (filter (λ x. not (out x)) xs) →
          AllByRecursion P (cond (not t) (x ∷ filter (λ x. not (out x)) xs) (filter (λ x. not (out
          x)) xs))
      by true e more = more
      by false e more = (all.0 e, more)

  -- and what holds of each that is out holds of those that go
  pub All-out : (P : X → Type 0) (xs : List X) → AllByRecursion (λ x. out x ≡ true → P x) xs →
      AllByRecursion P (filter out xs)
  All-out P [] all = tt
  All-out P (x ∷ xs) all = by (out x) refl (All-out P xs all.1)
    where
      by : (t : Bool) → out x ≡ t → AllByRecursion P (filter out xs) →
          AllByRecursion P (cond t (x ∷ filter out xs) (filter out xs))
      by true e more = (all.0 e, more)
      by false e more = more

  -- where none is out all stay
  stay_all : (xs : List X) → AllByRecursion (λ x. out x ≡ false) xs →
      (filter (λ x. not (out x)) xs ≡ xs) × (filter out xs ≡ [])
  stay_all [] all = (refl, refl)
  stay_all (x ∷ xs) all = let more = stay_all xs all.1 in
      rw all.0 (ap (λ ys. x ∷ ys) more.0, more.1)

  -- where the first ones are out the others stay
  cut_front : (n : ℕ) (xs : List X) → AllByRecursion (λ x. out x ≡ true) (take n xs) →
      AllByRecursion (λ x. out x ≡ false) (drop n xs) →
      (filter (λ x. not (out x)) xs ≡ drop n xs) × (filter out xs ≡ take n xs)
  cut_front zero xs inside behind = stay_all xs behind
  cut_front (suc n) [] inside behind = (refl, refl)
  cut_front (suc n) (x ∷ xs) inside behind = let more = cut_front n xs inside.1 behind in
      rw inside.0 (more.0, ap (λ ys. x ∷ ys) more.1)

  -- where those in a window are out the ones before it and behind it stay
  pub cut_window : (place n : ℕ) (xs : List X) →
      AllByRecursion (λ x. out x ≡ false) (take place xs) →
      AllByRecursion (λ x. out x ≡ true) (take n (drop place xs)) →
      AllByRecursion (λ x. out x ≡ false) (drop n (drop place xs)) →
      (filter (λ x. not (out x)) xs ≡ take place xs ++ drop n (drop place xs))
      × (filter out xs ≡ take n (drop place xs))
  cut_window zero n xs front inside behind = cut_front n xs inside behind
  cut_window (suc place) zero [] front inside behind = (refl, refl)
  cut_window (suc place) (suc n) [] front inside behind = (refl, refl)
  cut_window (suc place) n (x ∷ xs) front inside behind =
      let more = cut_window place n xs front.1 inside behind in
      rw front.0 (ap (λ ys. x ∷ ys) more.0, more.1)

module _ (out test : Page → Bool) where
  -- pairs of those that stay
  pub EachPair-stay : (R : Page → Page → Type 0) (rows : List Page) → EachPair R rows →
      EachPair R (filter (λ r. not (out r)) rows)
  EachPair-stay R [] pairs = tt
  EachPair-stay R (row ∷ rows) pairs = by (out row) refl (EachPair-stay R rows pairs.1)
    where
      by : (t : Bool) → out row ≡ t → EachPair R (filter (λ r. not (out r)) rows) →
          EachPair R (cond (not t) (row ∷ filter (λ r. not (out r)) rows) (filter (λ r. not (out r))
          rows))
      by true e more = more
      by false e more = (
        All-stay out (R row) rows (All-weaker (R row) (λ r. out r ≡ false → R row r) (λ r h k. h)
            rows pairs.0),
        more,
      )

  -- Where at most one row passes a test, it is found among those that stay, unless it is out.
  pub find-stay : (rows : List Page) → EachPair (λ one other. test one ≡ true → test other ≡ true →
      ⊥) rows → find test (filter (λ r. not (out r)) rows) ≡ cond (list_any test (filter out rows))
      None (find test rows)
  find-stay [] own = refl
  find-stay (row ∷ rows) own = by (test row) (out row) refl refl (find-stay rows own.1)
    where
      fails : test row ≡ true → AllByRecursion (λ r. test r ≡ false) rows
      fails e = All-weaker (λ r. test row ≡ true → test r ≡ true → ⊥) (λ r. test r ≡ false) (λ r h.
          not_true (test r) (h e)) rows own.0

      by : (t u : Bool) → test row ≡ t → out row ≡ u →
          find test (filter (λ r. not (out r)) rows) ≡ cond (list_any test (filter out rows)) None
          (find test rows) →
          find test (cond (not u) (row ∷ filter (λ r. not (out r)) rows) (filter (λ r. not (out r))
          rows)) ≡ cond (list_any test (cond u (row ∷ filter out rows) (filter out rows))) None
          (cond (test row) (Some row) (find test rows))
      by true true e f more =
          rw e (find_none test (filter (λ r. not (out r)) rows) (All-stay out (λ r. test r ≡ false)
          rows (All-weaker (λ r. test r ≡ false) (λ r. out r ≡ false → test r ≡ false) (λ r h k. h)
          rows (fails e))))
      by true false e f more =
          let none : list_any test (filter out rows) ≡ false =
          any_none test (filter out rows) (All-out out (λ r. test r ≡ false) rows (All-weaker (λ r.
          test r ≡ false) (λ r. out r ≡ true → test r ≡ false) (λ r h k. h) rows (fails e))) in
          rw (e, none) refl
      by false true e f more = rw e more
      by false false e f more = rw e more

  -- where each row that passes a test stays, a search by it finds the same
  pub find-stay_kept : (rows : List Page) → AllByRecursion (λ r. test r ≡ true → out r ≡ false) rows
      → find test (filter (λ r. not (out r)) rows) ≡ find test rows
  find-stay_kept [] stays = refl
  find-stay_kept (row ∷ rows) stays =
      by (test row) (out row) refl refl (find-stay_kept rows stays.1)
    where
      by : (t u : Bool) → test row ≡ t → out row ≡ u →
          find test (filter (λ r. not (out r)) rows) ≡ find test rows →
          find test (cond (not u) (row ∷ filter (λ r. not (out r)) rows) (filter (λ r. not (out r))
          rows)) ≡ cond (test row) (Some row) (find test rows)
      by true true e f more = absurd (let never = stays.0 e in cc)
      by true false e f more = rw e refl
      by false true e f more = rw e more
      by false false e f more = rw e more

  -- those that pass a test are those that stay and those that go
  pub count-stay : (rows : List Page) → length (filter test (filter (λ r. not (out r)) rows))
      + length (filter test (filter out rows)) ≡ length (filter test rows)
  count-stay [] = refl
  count-stay (row ∷ rows) = by (test row) (out row) refl (count-stay rows)
    where
      by : (t u : Bool) → test row ≡ t → length (filter test (filter (λ r. not (out r)) rows))
          + length (filter test (filter out rows)) ≡ length (filter test rows) →
          length (filter test (cond (not u) (row ∷ filter (λ r. not (out r)) rows) (filter (λ r. not
          (out r)) rows))) + length (filter test (cond u (row ∷ filter out rows) (filter out rows)))
          ≡ length (cond (test row) (row ∷ filter test rows) (filter test rows))
      by true true e more = rw e (omega arith)
      by true false e more = rw e (omega arith)
      by false true e more = rw e more
      by false false e more = rw e more

  -- where one row alone passes and is out, one passes of those that go
  pub count_one : (id : ℕ) (rows : List Page) (row : Page) → EachPair HasOtherId rows →
      row_with id rows ≡ Some row → test row ≡ true → out row ≡ true →
      AllByRecursion (λ r. nat_eq r.id id ≡ false → out r ≡ true → test r ≡ false) rows →
      length (filter test (filter out rows)) ≡ 1
  count_one id [] row own found passes goes others = absurd cc
  count_one id (one ∷ rows) row own found passes goes others =
      by (nat_eq one.id id) refl found (λ h. count_one id rows row own.1 h passes goes others.1)
    where
      none : nat_eq one.id id ≡ true → length (filter test (filter out rows)) ≡ 0
      none e = count_none test (filter out rows) (All-out out (λ r. test r ≡ false) rows (later rows
          own.0 others.1))
        where
          later : (rows : List Page) → AllByRecursion (HasOtherId one) rows →
              AllByRecursion (λ r. nat_eq r.id id ≡ false → out r ≡ true → test r ≡ false) rows →
              AllByRecursion (λ r. out r ≡ true → test r ≡ false) rows
          later [] ids fails = tt
          later (r ∷ rows) ids fails = (
            fails.0 (not_true (nat_eq r.id id) (λ h. ids.0 (grind (arith, nat_tests)))),
            later rows ids.1 fails.1,
          )

      by : (t : Bool) → nat_eq one.id id ≡ t → cond t (Some one) (row_with id rows) ≡ Some row →
          (row_with id rows ≡ Some row → length (filter test (filter out rows)) ≡ 1) →
          length (filter test (filter out (one ∷ rows))) ≡ 1
      by true e h more =
          let same : one ≡ row = cc in
          let first : test one ≡ true = ap test same ∙ passes in
          let taken : out one ≡ true = ap out same ∙ goes in
          rw taken (rw first (ap suc (none e)))
      by false e h more = pick (out one) refl
        where
          pick : (u : Bool) → out one ≡ u →
              length (filter test (cond u (one ∷ filter out rows) (filter out rows))) ≡ 1
          pick true f = let fails = others.0 e f in rw fails (more h)
          pick false f = more h
