-- How often an id stands among pages, and what a cut does to that.
use Rattle.std.proofs.Common.{◌≡◌, ◌+◌, ◌≤◌, ◌⊎◌, inl, inr, ℕ, Bool, true, false, cond, List, [], ◌∷◌, ◌++◌, nat_eq, ◌||◌, refl, sym, ap, subst, arith, zero, suc}
use Rattle.std.specs.List.{AllByRecursion, IsDistinct}
use Rattle.std.proofs.lemmas.Bool.Decides.{nat_tests}
use Rattle.page_tree.specs.Tree.{Forest, bare, grown, ids_of, HasDistinctIds, has_page, or_else, node_of, without}

-- one where a test holds
abbrev pub one : Bool → ℕ
one true = 1
one false = 0

-- a number is 0 or at least 1
pub none_or_some : (n : ℕ) → (n ≡ 0) ⊎ (1 ≤ n)
none_or_some zero = inl refl
none_or_some (suc n) = inr (omega arith)

-- a test of a number against itself holds
pub same_id : (i : ℕ) → nat_eq i i ≡ true
same_id i = grind (arith, nat_tests)

-- numbers that a test finds equal are equal
pub id_found : (i j : ℕ) → nat_eq i j ≡ true → i ≡ j
id_found i j h = grind (arith, nat_tests)

-- the test the other way round
turned : (i j : ℕ) → nat_eq i j ≡ false → nat_eq j i ≡ false
turned i j h = grind (arith, nat_tests)

-- numbers that differ are told apart
pub told_apart : (i j : ℕ) → (i ≡ j → ⊥) → nat_eq i j ≡ false
told_apart i j h = grind (arith, nat_tests)

-- numbers that are told apart differ
pub apart_by_test : (i j : ℕ) → nat_eq i j ≡ false → i ≡ j → ⊥
apart_by_test i j h e = grind (arith, nat_tests)

-- a number that stands nowhere is not the first
pub not_first : (id i n : ℕ) → one (nat_eq i id) + n ≡ 0 → nat_eq i id ≡ false
not_first id i n none = choice (nat_eq i id) none
  where
    choice : (t : Bool) → one t + n ≡ 0 → t ≡ false
    choice false e = refl
    choice true e = let no : ⊥ = omega arith in absurd no

-- how often a number stands in a list
abbrev count_list : ℕ → List ℕ → ℕ
count_list j [] = 0
count_list j (x ∷ xs) = one (nat_eq x j) + count_list j xs

-- in two lists it stands as often as in both together
count_list-append : (j : ℕ) (xs ys : List ℕ) →
    count_list j (xs ++ ys) ≡ count_list j xs + count_list j ys
count_list-append j [] ys = omega arith
count_list-append j (x ∷ xs) ys = let more = count_list-append j xs ys in omega (arith, more)

-- what is not there differs from each
absent_all : (j : ℕ) (xs : List ℕ) → count_list j xs ≡ 0 →
    AllByRecursion (λ y. nat_eq j y ≡ false) xs
absent_all j [] none = tt
absent_all j (x ∷ xs) none =
    (turned x j (not_first j x (count_list j xs) none), absent_all j xs (omega (arith, none)))

-- what differs from each is not there
all_absent : (j : ℕ) (xs : List ℕ) → AllByRecursion (λ y. nat_eq j y ≡ false) xs →
    count_list j xs ≡ 0
all_absent j [] all = refl
all_absent j (x ∷ xs) all =
    let none = all_absent j xs all.1 in
    rw (turned j x all.0, none) (omega arith)

-- in a list of distinct numbers each stands once at most
distinct_once : (xs : List ℕ) → IsDistinct nat_eq xs → (j : ℕ) → count_list j xs ≤ 1
unfolding IsDistinct
distinct_once [] h j = omega arith
distinct_once (x ∷ xs) h j = choice (nat_eq x j) refl (distinct_once xs h.1 j)
  where
    choice : (t : Bool) → nat_eq x j ≡ t → count_list j xs ≤ 1 → one t + count_list j xs ≤ 1
    choice true is more =
        let none = subst (λ k. count_list k xs ≡ 0) (id_found x j is) (all_absent x xs h.0) in
        omega (arith, none)
    choice false is more = omega arith

-- a list in which each number stands once at most is one of distinct numbers
once_distinct : (xs : List ℕ) → ((j : ℕ) → count_list j xs ≤ 1) → IsDistinct nat_eq xs
unfolding IsDistinct
once_distinct [] once = tt
once_distinct (x ∷ xs) once =
    let first = rw (same_id x) at (once x) in
    let none : count_list x xs ≡ 0 = omega (arith, first) in
    (absent_all x xs none, once_distinct xs (λ j. let both = once j in omega (arith, both)))

-- of three tests none holds
none_of : (a b c : Bool) (k r : ℕ) → (b ≡ false → k ≡ 0) → (c ≡ false → r ≡ 0) →
    (a || (b || c)) ≡ false → one a + (k + r) ≡ 0
none_of false false false k r below after none =
    let p = below refl in
    let q = after refl in omega (arith, p, q)
none_of true b c k r below after none = absurd (cc)
none_of false true c k r below after none = absurd (cc)
none_of false false true k r below after none = absurd (cc)

-- of three tests one holds
one_of : (a b c : Bool) (k r : ℕ) → (b ≡ true → 1 ≤ k) → (c ≡ true → 1 ≤ r) →
    (a || (b || c)) ≡ true → 1 ≤ one a + (k + r)
one_of true b c k r below after some = omega arith
one_of false true c k r below after some = let p = below refl in omega (arith, p)
one_of false false true k r below after some = let q = after refl in omega (arith, q)
one_of false false false k r below after some = absurd (cc)

module _ {Body : Type 0} where
  -- how often an id stands among pages
  abbrev pub count : ℕ → Forest Body → ℕ
  count j bare = 0
  count j (grown i step slug body kids rest) = one (nat_eq i j) + (count j kids + count j rest)

  -- as often as in the list of ids
  count-ids : (j : ℕ) (f : Forest Body) → count j f ≡ count_list j (ids_of f)
  count-ids j bare = refl
  count-ids j (grown i step slug body kids rest) =
      let below = count-ids j kids in
      let after = count-ids j rest in
      let both = count_list-append j (ids_of kids) (ids_of rest) in
      omega (arith, below, after, both)

  -- where ids are distinct each stands once at most
  pub once : (f : Forest Body) → HasDistinctIds f → (j : ℕ) → count j f ≤ 1
  once f distinct j =
      let list = distinct_once (ids_of f) distinct j in
      let same = count-ids j f in omega (arith, list, same)

  -- where each id stands once at most they are distinct
  pub distinct_ids : (f : Forest Body) → ((j : ℕ) → count j f ≤ 1) → HasDistinctIds f
  distinct_ids f each = once_distinct (ids_of f)
      (λ j. let list = each j in let same = count-ids j f in omega (arith, list, same))

  -- a page that is not there does not stand there
  pub none_counts : (j : ℕ) (f : Forest Body) → has_page j f ≡ false → count j f ≡ 0
  none_counts j bare none = refl
  none_counts j (grown i step slug body kids rest) none =
      none_of (nat_eq i j) (has_page j kids) (has_page j rest) (count j kids) (count j rest)
      (none_counts j kids) (none_counts j rest) none

  -- a page that is there stands there
  pub has_counts : (j : ℕ) (f : Forest Body) → has_page j f ≡ true → 1 ≤ count j f
  has_counts j bare some = absurd (cc)
  has_counts j (grown i step slug body kids rest) some =
      one_of (nat_eq i j) (has_page j kids) (has_page j rest) (count j kids) (count j rest)
      (has_counts j kids) (has_counts j rest) some

  -- what stands there is a page
  pub counts_has : (j : ℕ) (f : Forest Body) → 1 ≤ count j f → has_page j f ≡ true
  counts_has j f some = choice (has_page j f) refl
    where
      choice : (t : Bool) → has_page j f ≡ t → has_page j f ≡ true
      choice true is = is
      choice false is =
          let none = none_counts j f is in
          let no : ⊥ = omega (arith, none) in absurd no

  -- what does not stand there is no page
  pub none_has : (j : ℕ) (f : Forest Body) → count j f ≡ 0 → has_page j f ≡ false
  none_has j f none = choice (has_page j f) refl
    where
      choice : (t : Bool) → has_page j f ≡ t → has_page j f ≡ false
      choice false is = is
      choice true is =
          let some = has_counts j f is in
          let no : ⊥ = omega (arith, some) in absurd no

  -- one of two forests has what both have
  pub either : (Q : Forest Body → Type 0) (t : Bool) (f g : Forest Body) → Q f → Q g →
      Q (cond t f g)
  either Q true f g p q = p
  either Q false f g p q = q

  -- no page stands alone for an id that no page has
  pub node_absent : (id : ℕ) (f : Forest Body) → count id f ≡ 0 → node_of id f ≡ bare
  node_absent id bare none = refl
  node_absent id (grown i step slug body kids rest) none =
      let differs = not_first id i (count id kids + count id rest) none in
      let below = node_absent id kids (omega arith) in
      let after = node_absent id rest (omega arith) in
      rw (differs, below, after) refl

  -- the first of these, or nothing, is the first of these
  pub or_bare : (f : Forest Body) → or_else f bare ≡ f
  or_bare bare = refl
  or_bare (grown i step slug body kids rest) = refl

  -- An id that stands once at most among pages stands as often in a cut page and in what is left.
  pub cut_counts : (id j : ℕ) (f : Forest Body) → count id f ≤ 1 →
      count j f ≡ count j (node_of id f) + count j (without id f)
  cut_counts id j bare once = omega arith
  cut_counts id j (grown i step slug body kids rest) once =
      choice (nat_eq i id) once (cut_counts id j kids) (cut_counts id j rest)
    where
      choice : (t : Bool) → one t + (count id kids + count id rest) ≤ 1 →
          (count id kids ≤ 1 →
          count j kids ≡ count j (node_of id kids) + count j (without id kids)) →
          (count id rest ≤ 1 →
          count j rest ≡ count j (node_of id rest) + count j (without id rest)) →
          one (nat_eq i j) + (count j kids + count j rest) ≡
          count j (cond t (grown i step slug body kids bare)
          (or_else (node_of id kids) (node_of id rest))) +
          count j (cond t rest (grown i step slug body (without id kids) (without id rest)))
      choice true h in_kids in_rest = omega arith
      choice false h in_kids in_rest =
          let below = in_kids (omega arith) in
          let after = in_rest (omega arith) in
          elim (none_or_some (count id kids)) [
            | inl none ↦
                let gone = node_absent id kids none in
                rw gone (let kept = rw gone at below in omega (arith, kept, after))
            | inr some ↦
                let gone = node_absent id rest (omega arith) in
                rw (gone, or_bare (node_of id kids))
                (let kept = rw gone at after in omega (arith, below, kept))
          ]

  -- A page that stands alone, with this id.
  pub record IsNode (id : ℕ) (f : Forest Body) : Type 0 where
    pub step : ℕ
    pub slug : List ℕ
    pub body : Body
    pub kids : Forest Body
    pub is : f ≡ grown id step slug body kids bare

  -- the first of two is the page that stands alone
  first_node : (id : ℕ) (f g : Forest Body) → IsNode id f → IsNode id (or_else f g)
  first_node id f g node = subst (λ h. IsNode id (or_else h g)) (sym node.is) (record {
    step = node.step;
    slug = node.slug;
    body = node.body;
    kids = node.kids;
    is = refl;
  })

  -- a page that is there is cut out with its id
  pub node_found : (id : ℕ) (f : Forest Body) → 1 ≤ count id f → IsNode id (node_of id f)
  node_found id bare some = let no : ⊥ = omega arith in absurd no
  node_found id (grown i step slug body kids rest) some =
      choice (nat_eq i id) refl some (node_found id kids) (node_found id rest)
    where
      choice : (t : Bool) → nat_eq i id ≡ t → 1 ≤ one t + (count id kids + count id rest) →
          (1 ≤ count id kids → IsNode id (node_of id kids)) →
          (1 ≤ count id rest → IsNode id (node_of id rest)) →
          IsNode id (cond t (grown i step slug body kids bare)
          (or_else (node_of id kids) (node_of id rest)))
      choice true is h in_kids in_rest = record {
        step = step;
        slug = slug;
        body = body;
        kids = kids;
        is = ap (λ k. grown k step slug body kids bare) (id_found i id is);
      }
      choice false is h in_kids in_rest = elim (none_or_some (count id kids)) [
        | inl none ↦
            let gone = node_absent id kids none in
            rw gone (in_rest (omega arith))
        | inr found ↦ first_node id _ _ (in_kids found)
      ]
