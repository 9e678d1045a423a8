-- What rows tell of their tree: the steps, the depth and the URLs that rules look at.
use Rattle.std.proofs.Common.{◌≡◌, ◌+◌, ◌≤◌, ℕ, Bool, true, false, ◌||◌, List, [], ◌∷◌, ◌++◌, length, Option, Some, None, nat_lt, max, suc, refl, sym, ◌∙◌, arith, length-append}
use Rattle.std.specs.List.{list_any}
use Rattle.std.proofs.lemmas.Bool.Decides.{nat_tests}
use Rattle.page_tree.specs.Tree.{Forest, bare, grown}
use Rattle.page_tree.specs.Rows.{Row, rows_below, rows_of, child_url}
use Rattle.step_path.specs.declared.step.TheConstants.{LAST_STEP}
use Rattle.step_path.specs.declared.path.TheConstants.{MAX_DEPTH}
use Rattle.tree_model.specs.Limits.{height, is_too_deep}
use Rattle.tree_model.specs.Shape.{AreWithin}
use Rattle.site_model.proofs.ClearLemmas.{neither, limit_clear}

-- a test is passed in one of two lists where it is passed in both together
pub any_append : {X : Type 0} (p : X → Bool) (xs ys : List X) →
    list_any p (xs ++ ys) ≡ (list_any p xs || list_any p ys)
any_append p [] ys = refl
any_append p (x ∷ xs) ys = choice (p x) (any_append p xs ys)
  where
    choice : (t : Bool) → list_any p (xs ++ ys) ≡ (list_any p xs || list_any p ys) →
        (t || list_any p (xs ++ ys)) ≡ ((t || list_any p xs) || list_any p ys)
    choice true more = refl
    choice false more = more

-- a test is passed nowhere in two lists where it is not passed in both together
none_append : {X : Type 0} (p : X → Bool) (xs ys : List X) → list_any p (xs ++ ys) ≡ false →
    (list_any p xs ≡ false) × (list_any p ys ≡ false)
none_append p xs ys is = neither (list_any p xs) (list_any p ys) (sym (any_append p xs ys) ∙ is)

-- whether a step is past a last one
abbrev is_past : ℕ → ℕ → Bool
is_past last step = nat_lt last step

-- one page with those below it and those after it
deeper : (limit at kids rest : ℕ) (below after : Bool) → at ≤ limit →
    (suc at ≤ limit → below ≡ nat_lt limit (suc at + kids)) →
    after ≡ nat_lt limit (at + rest) →
    (nat_lt limit (at + 1) || (below || after)) ≡ nat_lt limit (at + max (suc kids) rest)
deeper limit at kids rest below after here in_kids in_rest =
    choice (nat_lt limit (at + 1)) refl
  where
    choice : (t : Bool) → nat_lt limit (at + 1) ≡ t →
        (t || (below || after)) ≡ nat_lt limit (at + max (suc kids) rest)
    choice true is = grind (arith, nat_tests)
    choice false is =
        let room = limit_clear limit (at + 1) is in
        let below_is = in_kids (omega (arith, room)) in
        rw (below_is, in_rest) (grind (arith, nat_tests))

module _ {Body : Type 0} where
  -- where no row has a step past the last, no page has one
  steps_within : (last : ℕ) (parent : Option ℕ) (path url : List ℕ) (f : Forest Body) →
      list_any (λ (row : Row Body). list_any (is_past last) row.path)
      (rows_below parent path url f) ≡ false → AreWithin last f
  steps_within last parent path url bare none = tt
  steps_within last parent path url (grown i step slug body kids rest) none =
      let parts = neither (list_any (is_past last) (path ++ step ∷ [])) _ none in
      let own = none_append (is_past last) path (step ∷ []) parts.0 in
      let one = neither (is_past last step) false own.1 in
      let both = none_append (λ (row : Row Body). list_any (is_past last) row.path)
      (rows_below (Some i) (path ++ step ∷ []) (child_url url slug) kids)
      (rows_below parent path url rest) parts.1 in (
        limit_clear last step one.0,
        steps_within last (Some i) (path ++ step ∷ []) (child_url url slug) kids both.0,
        steps_within last parent path url rest both.1,
      )

  -- where no page has a step past the last, no row has one
  within_steps : (last : ℕ) (parent : Option ℕ) (path url : List ℕ) (f : Forest Body) →
      list_any (is_past last) path ≡ false → AreWithin last f →
      list_any (λ (row : Row Body). list_any (is_past last) row.path)
      (rows_below parent path url f) ≡ false
  within_steps last parent path url bare none within = refl
  within_steps last parent path url (grown i step slug body kids rest) none within =
      let one : nat_lt last step ≡ false = grind (arith, nat_tests, within.0) in
      let own : list_any (is_past last) (path ++ step ∷ []) ≡ false =
      any_append (is_past last) path (step ∷ []) ∙ rw (none, one) refl in
      rw (
        own,
        any_append (λ (row : Row Body). list_any (is_past last) row.path)
            (rows_below (Some i) (path ++ step ∷ []) (child_url url slug) kids)
            (rows_below parent path url rest),
        within_steps last (Some i) (path ++ step ∷ []) (child_url url slug) kids own within.1,
        within_steps last parent path url rest none within.2,
      ) refl

  -- the same of all rows of a tree
  pub within_rows : (tree : Forest Body) → AreWithin LAST_STEP tree →
      list_any (λ (row : Row Body). list_any (λ step. nat_lt LAST_STEP step) row.path)
      (rows_of tree) ≡ false
  within_rows tree within = within_steps LAST_STEP None [] [] tree refl within

  -- the other way round, of all rows of a tree
  pub rows_within : (tree : Forest Body) →
      list_any (λ (row : Row Body). list_any (λ step. nat_lt LAST_STEP step) row.path)
      (rows_of tree) ≡ false → AreWithin LAST_STEP tree
  rows_within tree none = steps_within LAST_STEP None [] [] tree none

  -- a row is deeper than a limit where the tree is
  deep_rows : (limit : ℕ) (parent : Option ℕ) (path url : List ℕ) (f : Forest Body) →
      length path ≤ limit →
      list_any (λ (row : Row Body). nat_lt limit (length row.path)) (rows_below parent path url f)
      ≡ nat_lt limit (length path + height f)
  deep_rows limit parent path url bare here = grind (arith, nat_tests)
  deep_rows limit parent path url (grown i step slug body kids rest) here =
      let longer : length (path ++ step ∷ []) ≡ length path + 1 = length-append path (step ∷ []) in
      rw (
        any_append (λ (row : Row Body). nat_lt limit (length row.path))
            (rows_below (Some i) (path ++ step ∷ []) (child_url url slug) kids)
            (rows_below parent path url rest),
        longer,
      )
      (deeper limit (length path) (height kids) (height rest) _ _ here
      (λ room. deep_rows limit (Some i) (path ++ step ∷ []) (child_url url slug) kids
      (omega (arith, longer, room)) ∙ rw longer (same_sum limit (length path) (height kids)))
      (deep_rows limit parent path url rest here))
    where
      same_sum : (limit a b : ℕ) → nat_lt limit (a + 1 + b) ≡ nat_lt limit (suc a + b)
      same_sum limit a b = let same : a + 1 + b ≡ suc a + b = omega arith in rw same refl

  -- the rows of a tree are too deep where it is
  pub rows_too_deep : (tree : Forest Body) →
      list_any (λ (row : Row Body). nat_lt MAX_DEPTH (length row.path)) (rows_of tree)
      ≡ is_too_deep tree
  rows_too_deep tree =
      let zero : 0 + height tree ≡ height tree = omega arith in
      rw zero at (deep_rows MAX_DEPTH None [] [] tree (omega arith))
