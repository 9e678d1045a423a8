-- What holds of a list, what is found in it and what is counted stay where elements are moved.
use Rattle.std.proofs.Common.{◌≡◌, ℕ, suc, ◌+◌, ◌≤◌, Bool, true, false, cond, List, [], ◌∷◌, ◌++◌, Option, Some, None, map, find, filter, length, take, drop, refl, ap, sym, ◌∙◌, arith}
use Prim.Native.Nat.{zero}
use Rattle.std.proofs.lemmas.List.{take-append-drop, map-append, drop-drop}
use Rattle.std.specs.List.{AllByRecursion, take-map, drop-map}
use Rattle.page_store.specs.Pages.{Page, EachPair}
use Rattle.page_store.specs.Settling.{items_moved}
use Rattle.page_store.proofs.AllLemmas.{All-append, All-weaker}
use Rattle.page_store.proofs.CutLemmas.{not_true, count_none}

module _ {X : Type 0} where
  -- what holds of each element holds of the first ones
  All-take : (P : X → Type 0) (n : ℕ) (xs : List X) → AllByRecursion P xs → AllByRecursion P (take n xs)
  All-take P zero xs all = tt
  All-take P (suc n) [] all = tt
  All-take P (suc n) (x ∷ xs) all = (all.0, All-take P n xs all.1)

  -- and of the others
  All-drop : (P : X → Type 0) (n : ℕ) (xs : List X) → AllByRecursion P xs → AllByRecursion P (drop n xs)
  All-drop P zero xs all = all
  All-drop P (suc n) [] all = tt
  All-drop P (suc n) (x ∷ xs) all = All-drop P n xs all.1

  -- of each where some are moved
  pub All-moved : (P : X → Type 0) (from n to : ℕ) (xs : List X) → AllByRecursion P xs →
      AllByRecursion P (items_moved from n to xs)
  All-moved P from n to xs all =
      let rest = take from xs ++ drop (from + n) xs in
      let stays = All-append P (take from xs) (drop (from + n) xs) (All-take P from xs all) (All-drop P
      (from + n) xs all) in
      All-append P (take to rest) (take n (drop from xs) ++ drop to rest) (All-take P to rest stays)
      (All-append P (take n (drop from xs)) (drop to rest) (All-take P n (drop from xs) (All-drop P
      from xs all)) (All-drop P to rest stays))

  -- what a function gives of moved elements
  pub map-moved : {Y : Type 0} (f : X → Y) (from n to : ℕ) (xs : List X) →
      map f (items_moved from n to xs) ≡ items_moved from n to (map f xs)
  map-moved f from n to xs =
      let rest = take from xs ++ drop (from + n) xs in
      let stays : map f rest ≡ take from (map f xs) ++ drop (from + n) (map f xs) =
      map-append f (take from xs) (drop (from + n) xs)
      ∙ ap (λ ys. ys ++ map f (drop (from + n) xs)) (sym (take-map f from xs))
      ∙ ap (λ ys. take from (map f xs) ++ ys) (sym (drop-map f (from + n) xs)) in
      map-append f (take to rest) (take n (drop from xs) ++ drop to rest)
      ∙ ap (λ ys. ys ++ map f (take n (drop from xs) ++ drop to rest)) (sym (take-map f to rest) ∙ ap
      (take to) stays)
      ∙ ap (λ ys. take to (take from (map f xs) ++ drop (from + n) (map f xs)) ++ ys) (map-append f
      (take n (drop from xs)) (drop to rest)
      ∙ ap (λ ys. ys ++ map f (drop to rest)) (sym (take-map f n (drop from xs)) ∙ ap (take n) (sym
      (drop-map f from xs)))
      ∙ ap (λ ys. take n (drop from (map f xs)) ++ ys) (sym (drop-map f to rest) ∙ ap (drop to) stays))

  -- a list in three blocks
  three : (from n : ℕ) (xs : List X) →
      take from xs ++ (take n (drop from xs) ++ drop (from + n) xs) ≡ xs
  three from n xs =
      ap (λ ys. take from xs ++ (take n (drop from xs) ++ ys)) (sym (drop-drop n from xs))
      ∙ ap (λ ys. take from xs ++ ys) (take-append-drop n (drop from xs)) ∙ take-append-drop from xs

  module _ (test : X → Bool) where
    -- how many pass
    abbrev pub passing : List X → ℕ
    passing xs = length (filter test xs)

    -- of two lists
    passing-append : (xs ys : List X) → passing (xs ++ ys) ≡ passing xs + passing ys
    passing-append [] ys = omega arith
    passing-append (x ∷ xs) ys = by (test x) (passing-append xs ys)
      where
        by : (t : Bool) → passing (xs ++ ys) ≡ passing xs + passing ys →
            length (cond t (x ∷ filter test (xs ++ ys)) (filter test (xs ++ ys))) ≡ length (cond t (x ∷
            filter test xs) (filter test xs)) + passing ys
        by true more = omega arith
        by false more = more

    -- those that are moved pass as before
    pub passing-moved : (from n to : ℕ) (xs : List X) → passing (items_moved from n to xs) ≡ passing xs
    passing-moved from n to xs =
        let rest = take from xs ++ drop (from + n) xs in
        sum _ _ _ _ _ _ _ _
        (passing-append (take to rest) (take n (drop from xs) ++ drop to rest)
        ∙ ap (λ k. passing (take to rest) + k) (passing-append (take n (drop from xs)) (drop to rest)))
        (sym (passing-append (take to rest) (drop to rest)) ∙ ap passing (take-append-drop to rest))
        (passing-append (take from xs) (drop (from + n) xs))
        (sym (ap passing (three from n xs)) ∙ passing-append (take from xs) (take n (drop from xs) ++
        drop (from + n) xs) ∙ ap (λ k. passing (take from xs) + k) (passing-append (take n (drop from
        xs)) (drop (from + n) xs)))
      where
        sum : (all t m d a b rest xs : ℕ) → all ≡ t + (m + d) → t + d ≡ rest → rest ≡ a + b →
            xs ≡ a + (m + b) → all ≡ xs
        sum all t m d a b rest xs e f g h = omega arith

    -- the first, or else the second
    either : Option X → Option X → Option X
    either None o = o
    either (Some x) o = Some x

    -- what is found in two lists
    find-append : (xs ys : List X) → find test (xs ++ ys) ≡ either (find test xs) (find test ys)
    unfolding either
    find-append [] ys = refl
    find-append (x ∷ xs) ys = by (test x) (find-append xs ys)
      where
        by : (t : Bool) → find test (xs ++ ys) ≡ either (find test xs) (find test ys) →
            cond t (Some x) (find test (xs ++ ys)) ≡ either (cond t (Some x) (find test xs)) (find test
            ys)
        by true more = refl
        by false more = more

    -- where none passes nothing is found
    none_found : (xs : List X) → passing xs ≡ 0 → find test xs ≡ None
    none_found [] none = refl
    none_found (x ∷ xs) none = by (test x) none (none_found xs)
      where
        by : (t : Bool) → length (cond t (x ∷ filter test xs) (filter test xs)) ≡ 0 →
            (passing xs ≡ 0 → find test xs ≡ None) → cond t (Some x) (find test xs) ≡ None
        by true none more = absurd (omega arith)
        by false none more = more none

    -- where at most one passes, a block in the middle may as well be searched first
    middle_first : (xs ys zs : List X) → passing xs + passing ys ≤ 1 →
        find test (xs ++ (ys ++ zs)) ≡ either (find test ys) (find test (xs ++ zs))
    unfolding either
    middle_first xs ys zs few =
        find-append xs (ys ++ zs) ∙ ap (either (find test xs)) (find-append ys zs)
        ∙ by (passing xs) (passing ys) refl refl few (find test xs) refl (find test ys) refl
        ∙ ap (either (find test ys)) (sym (find-append xs zs))
      where
        by : (a b : ℕ) → passing xs ≡ a → passing ys ≡ b → a + b ≤ 1 → (o : Option X) →
            find test xs ≡ o → (q : Option X) → find test ys ≡ q →
            either o (either q (find test zs)) ≡ either q (either o (find test zs))
        by a b e f few None h q k = refl
        by a b e f few (Some x) h None k = refl
        by zero b e f few (Some x) h (Some y) k = absurd (let none = none_found xs e in cc)
        by (suc a) zero e f few (Some x) h (Some y) k = absurd (let none = none_found ys f in cc)
        by (suc a) (suc b) e f few (Some x) h (Some y) k = absurd (omega arith)

    -- what is found stays where some are moved
    pub find-moved : (from n to : ℕ) (xs : List X) → passing xs ≤ 1 →
        find test (items_moved from n to xs) ≡ find test xs
    find-moved from n to xs few =
        let rest = take from xs ++ drop (from + n) xs in
        let moved = take n (drop from xs) in
        let all = sym (ap passing (three from n xs)) ∙ passing-append (take from xs) (moved ++ drop
        (from + n) xs) ∙ ap (λ k. passing (take from xs) + k) (passing-append moved (drop (from + n)
        xs)) in
        let stays = passing-append (take from xs) (drop (from + n) xs) in
        let split = sym (passing-append (take to rest) (drop to rest)) ∙ ap passing (take-append-drop
        to rest) in
        middle_first (take to rest) moved (drop to rest) (first _ _ _ _ _ _ _ all stays split few)
        ∙ ap (λ ys. either (find test moved) (find test ys)) (take-append-drop to rest)
        ∙ sym (middle_first (take from xs) moved (drop (from + n) xs) (second _ _ _ _ all few))
        ∙ ap (find test) (three from n xs)
      where
        first : (all a m b rest t d : ℕ) → all ≡ a + (m + b) → rest ≡ a + b → t + d ≡ rest → all ≤ 1 →
            t + m ≤ 1
        first all a m b rest t d e f g h = omega arith

        second : (all a m b : ℕ) → all ≡ a + (m + b) → all ≤ 1 → a + m ≤ 1
        second all a m b e h = omega arith

-- where no two rows pass, at most one does
pub at_most_one : (test : Page → Bool) (rows : List Page) →
    EachPair (λ one later. test one ≡ true → test later ≡ true → ⊥) rows → passing test rows ≤ 1
at_most_one test [] pairs = omega arith
at_most_one test (row ∷ rows) pairs = by (test row) refl (at_most_one test rows pairs.1)
  where
    by : (t : Bool) → test row ≡ t → passing test rows ≤ 1 →
        length (cond t (row ∷ filter test rows) (filter test rows)) ≤ 1
    by true e more =
        let none = count_none test rows (All-weaker (λ later. test row ≡ true → test later ≡ true → ⊥)
        (λ later. test later ≡ false) (λ later apart. not_true (test later) (apart e)) rows pairs.0) in
        omega arith
    by false e more = more
