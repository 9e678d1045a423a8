-- The items of a list that rises by its keys which stand between two tests: they stand together.
use Rattle.std.proofs.Common.{◌≡◌, ℕ, zero, suc, ◌-◌, ◌<◌, Bool, true, false, not, ◌&&◌, cond, nat_eq, nat_lt, nat_le, List, [], ◌∷◌, length, get_or, take, drop, filter, refl, sym, ap, ◌∙◌, subst, arith}
use Rattle.std.specs.List.{AllByRecursion, AllWithin}
use Rattle.std.specs.List.Sorted.{IsPartitionedBy, IsPartitionPoint}
use Rattle.std.proofs.lemmas.Bool.Decides.{nat_tests}
use Rattle.std.proofs.lemmas.List.{take_rest}
use Rattle.std.proofs.lemmas.List.Elements.{filter_agree}
use Rattle.page_tree.specs.Rows.{comes_before}
use Rattle.site_types.specs.declared.world_rows.Member.{Member}
use Rattle.site_model.specs.Sound.{KeysRise}
use Rattle.site_model.specs.Users.{member_key}
use Rattle.site_model.proofs.OrderLemmas.{rise_filter}
use Rattle.desk_pairs.proofs.PlaceLemmas.{IsTestOf}
use Rattle.grants.specs.Granted.{group_key}

module _ {Item : Type 0} where
  -- a test that each item passes which comes before one that passes
  abbrev pub GoesDown : (Item → List ℕ) → (Item → Bool) → Type 0
  GoesDown key test =
      (x y : Item) → comes_before (key x) (key y) ≡ true → test y ≡ true → test x ≡ true

  -- where a later item passes, the first does
  first_passes : (key : Item → List ℕ) (test : Item → Bool) → GoesDown key test → (x : Item)
      (xs : List Item) →
      AllByRecursion (λ (later : Item). comes_before (key x) (key later) ≡ true) xs → (j : ℕ)
      (d : Item) → j < length xs → test (get_or xs j d) ≡ true → test x ≡ true
  first_passes key test down x [] before j d within passes = absurd (omega arith)
  first_passes key test down x (y ∷ xs) before zero d within passes =
      down x y before.0 passes
  first_passes key test down x (y ∷ xs) before (suc j) d within passes =
      first_passes key test down x xs before.1 j d (omega arith) passes

  -- so no item that passes stands behind one that fails
  pub parted : (key : Item → List ℕ) (test : Item → Bool) → GoesDown key test →
      (xs : List Item) → KeysRise key xs → IsPartitionedBy test xs
  parted key test down [] rise i j d order within passes = absurd (omega arith)
  parted key test down (x ∷ xs) rise zero zero d order within passes = passes
  parted key test down (x ∷ xs) rise zero (suc j) d order within passes =
      first_passes key test down x xs rise.0 j d (omega arith) passes
  parted key test down (x ∷ xs) rise (suc i) zero d order within passes = absurd (omega arith)
  parted key test down (x ∷ xs) rise (suc i) (suc j) d order within passes =
      parted key test down xs rise.1 i j d (omega arith) (omega arith) passes

  -- a test keeps nothing where all items fail
  none_kept : (test : Item → Bool) (xs : List Item) →
      AllWithin (λ x. test x ≡ false) xs 0 (length xs) → filter test xs ≡ []
  none_kept test [] fail = refl
  none_kept test (x ∷ xs) fail =
      rw (fail 0 x (omega arith) (omega arith))
      (none_kept test xs (λ k d from to. fail (suc k) d (omega arith) (omega arith)))

  -- and all where each passes
  all_kept : (test : Item → Bool) (xs : List Item) →
      AllWithin (λ x. test x ≡ true) xs 0 (length xs) → filter test xs ≡ xs
  all_kept test [] pass = refl
  all_kept test (x ∷ xs) pass =
      rw (pass 0 x (omega arith) (omega arith))
      (ap (λ ys. x ∷ ys)
      (all_kept test xs (λ k d from to. pass (suc k) d (omega arith) (omega arith))))

  -- the items up to the place where a test fails first are those that pass
  cut_front : (test : Item → Bool) (xs : List Item) (i : ℕ) →
      IsPartitionPoint (λ x. test x ≡ true) (λ x. test x ≡ false) xs i → take i xs ≡ filter test xs
  cut_front test [] zero point = refl
  cut_front test [] (suc i) point = refl
  cut_front test (x ∷ xs) zero point = sym (none_kept test (x ∷ xs) point.1)
  cut_front test (x ∷ xs) (suc i) point =
      rw (point.0 0 x (omega arith) (omega arith))
      (ap (λ ys. x ∷ ys) (cut_front test xs i (
        λ k d from to. point.0 (suc k) d (omega arith) (omega arith),
        λ k d from to. point.1 (suc k) d (omega arith) (omega arith),
      )))

  -- the others are those that fail
  pub cut_rest : (test : Item → Bool) (xs : List Item) (i : ℕ) →
      IsPartitionPoint (λ x. test x ≡ true) (λ x. test x ≡ false) xs i →
      drop i xs ≡ filter (λ x. not (test x)) xs
  cut_rest test [] zero point = refl
  cut_rest test [] (suc i) point = refl
  cut_rest test (x ∷ xs) zero point =
      sym (all_kept (λ x. not (test x)) (x ∷ xs)
      (λ k d from to. ap not (point.1 k d (omega arith) to)))
  cut_rest test (x ∷ xs) (suc i) point =
      rw (point.0 0 x (omega arith) (omega arith))
      (cut_rest test xs i (
        λ k d from to. point.0 (suc k) d (omega arith) (omega arith),
        λ k d from to. point.1 (suc k) d (omega arith) (omega arith),
      ))

  -- what two tests keep, one after the other
  filter_twice : (one other : Item → Bool) (xs : List Item) →
      filter other (filter one xs) ≡ filter (λ x. one x && other x) xs
  filter_twice one other [] = refl
  filter_twice one other (x ∷ xs) = choice (one x) (filter_twice one other xs)
    where
      choice : (t : Bool) → filter other (filter one xs) ≡ filter (λ x. one x && other x) xs →
          filter other (cond t (x ∷ filter one xs) (filter one xs))
          ≡ cond (t && other x) (x ∷ filter (λ x. one x && other x) xs)
          (filter (λ x. one x && other x) xs)
      choice true more = ap (λ ys. cond (other x) (x ∷ ys) ys) more
      choice false more = more

  -- the keys of the items rise behind a place where a test fails first
  pub rest_rises : (key : Item → List ℕ) (before : Item → Bool) (xs : List Item) (i : ℕ) →
      IsPartitionPoint (λ x. before x ≡ true) (λ x. before x ≡ false) xs i → KeysRise key xs →
      KeysRise key (drop i xs)
  rest_rises key before xs i point rise =
      subst (KeysRise key) (sym (cut_rest before xs i point))
      (rise_filter key (λ x. not (before x)) xs rise)

  -- The items between the places where two tests fail first are those that fail the first test and
  -- pass the second.
  pub span_is : (before upto own : Item → Bool) (xs : List Item) (start end : ℕ) →
      ((x : Item) → not (before x) && upto x ≡ own x) →
      IsPartitionPoint (λ x. before x ≡ true) (λ x. before x ≡ false) xs start →
      IsPartitionPoint (λ x. upto x ≡ true) (λ x. upto x ≡ false)
      (take (length xs - start) (drop start xs)) end →
      take end (take (length xs - start) (drop start xs)) ≡ filter own xs
  span_is before upto own xs start end same first second =
      cut_front upto (take (length xs - start) (drop start xs)) end second
      ∙ (ap (filter upto) (take_rest xs start ∙ cut_rest before xs start first)
      ∙ (filter_twice (λ x. not (before x)) upto xs
      ∙ filter_agree (λ x. not (before x) && upto x) own same xs))

-- the number of a key by which a list rises first goes no higher
pub lower_first : (limit x y : ℕ) (p : Bool) → cond (nat_eq x y) p (nat_lt x y) ≡ true →
    nat_lt y limit ≡ true → nat_lt x limit ≡ true
lower_first limit x y p before lower = grind (arith, nat_tests)

-- also where it may be the limit
pub lower_or_same : (limit x y : ℕ) (p : Bool) → cond (nat_eq x y) p (nat_lt x y) ≡ true →
    nat_le y limit ≡ true → nat_le x limit ≡ true
lower_or_same limit x y p before lower = grind (arith, nat_tests)

-- a number that is not below another and not above it is the same
pub between_is : (limit x : ℕ) → not (nat_lt x limit) && nat_le x limit ≡ nat_eq x limit
between_is limit x = grind (arith, nat_tests)

-- one number of two keys of one user
group_step : (user u v g h : ℕ) → nat_eq u user ≡ true → nat_eq v user ≡ true →
    cond (nat_eq u v) (cond (nat_eq g h) false (nat_lt g h)) (nat_lt u v) ≡ true →
    cond (nat_eq g h) false (nat_lt g h) ≡ true
group_step user u v g h first second before = grind (arith, nat_tests)

-- the later memberships of a user come after by group
later_groups : (user : ℕ) (member : Member) (later : List Member) →
    nat_eq member.user user ≡ true →
    AllByRecursion (λ (other : Member).
    comes_before (member_key member) (member_key other) ≡ true) later →
    AllByRecursion (λ (other : Member).
    comes_before (group_key member) (group_key other) ≡ true)
    (filter (λ (other : Member). nat_eq other.user user) later)
later_groups user member [] own all = tt
later_groups user member (next ∷ later) own all =
    choice (nat_eq next.user user) refl (later_groups user member later own all.1)
  where
    choice : (t : Bool) → nat_eq next.user user ≡ t →
        AllByRecursion (λ (other : Member).
        comes_before (group_key member) (group_key other) ≡ true)
        (filter (λ (other : Member). nat_eq other.user user) later) →
        AllByRecursion (λ (other : Member).
        comes_before (group_key member) (group_key other) ≡ true)
        (cond t (next ∷ filter (λ (other : Member). nat_eq other.user user) later)
        (filter (λ (other : Member). nat_eq other.user user) later))
    choice true is more =
        (group_step user member.user next.user member.group next.group own is all.0, more)
    choice false is more = more

-- the memberships of a user rise by group
pub groups_rise : (user : ℕ) (members : List Member) → KeysRise member_key members →
    KeysRise group_key (filter (λ (member : Member). nat_eq member.user user) members)
groups_rise user [] rise = tt
groups_rise user (member ∷ members) rise =
    choice (nat_eq member.user user) refl (groups_rise user members rise.1)
  where
    choice : (t : Bool) → nat_eq member.user user ≡ t →
        KeysRise group_key (filter (λ (other : Member). nat_eq other.user user) members) →
        KeysRise group_key
        (cond t (member ∷ filter (λ (other : Member). nat_eq other.user user) members)
        (filter (λ (other : Member). nat_eq other.user user) members))
    choice true is more = (later_groups user member members is rise.0, more)
    choice false is more = more

-- a membership has the key of a group where it is in the group
pub tests_group : (group : ℕ) →
    IsTestOf group_key (group ∷ []) (λ (member : Member). nat_eq member.group group)
tests_group group =
    record {
      means = λ (member : Member) (passed : nat_eq member.group group ≡ true).
          let same : member.group ≡ group = grind (arith, nat_tests) in
          cc;
      names = λ (member : Member) (same : group_key member ≡ group ∷ []).
          let first : member.group ≡ group = cc in
          grind (arith, nat_tests);
    }
