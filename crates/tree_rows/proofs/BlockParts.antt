-- Lemmas for the block of rows of a page: parents, counts of kids, walks.
use Rattle.std.proofs.Common.{◌≡◌, ◌+◌, ◌-◌, None, ℕ, Bool, true, false, cond, List, [], ◌∷◌, map, Option, Some, nat_eq, refl, ap, arith}
use Rattle.std.specs.List.{AllByRecursion}
use Rattle.std.proofs.lemmas.Bool.Decides.{nat_tests}
use Rattle.page_tree.specs.Tree.{Forest, bare, grown, Place, or_else, put, graft}
use Rattle.page_tree.specs.Walk.{Visit, kid_count, first_walk, extended}
use Rattle.page_tree.specs.Rows.{Row, is_parent}
use Rattle.tree_rows.specs.Cuts.{lower_row, lower_count, with_count}

-- one where the test passes, and else none
abbrev pub one_if : Bool → ℕ
one_if true = 1
one_if false = 0

-- a page is not the parent where the parent is not this page
pub no_parent : (parent : Option ℕ) (j : ℕ) → (parent ≡ Some j → ⊥) → is_parent j parent ≡ false
no_parent None j other = refl
no_parent (Some p) j other = by (nat_eq p j) refl
  where
    by : (t : Bool) → nat_eq p j ≡ t → nat_eq p j ≡ false
    by true e = let same : p ≡ j = grind (arith, nat_tests) in absurd (other (ap Some same))
    by false e = e

-- a number is not another
pub not_same : (i j : ℕ) → (i ≡ j → ⊥) → nat_eq i j ≡ false
not_same i j other = grind (arith, nat_tests)

module _ {Body : Type 0} where
  -- no count falls where the parent is not among these
  pub lower_count-others : (parent : Option ℕ) (rows : List (Row Body)) →
      AllByRecursion (λ (row : Row Body). is_parent row.id parent ≡ false) rows →
      lower_count parent rows ≡ rows
  lower_count-others parent [] others = refl
  lower_count-others parent (row ∷ rows) others =
      rw (others.0, lower_count-others parent rows others.1) refl

  -- the row of a page that may have one child less
  pub lowered_head : (row : Row Body) (parent : Option ℕ) (n : ℕ) →
      row.numchild ≡ n + one_if (is_parent row.id parent) → with_count n row ≡ lower_row parent row
  lowered_head row parent n = by (is_parent row.id parent)
    where
      by : (t : Bool) → row.numchild ≡ n + one_if t →
          with_count n row ≡ cond t (record row { numchild = row.numchild - 1 }) row
      by true count = let less : n ≡ row.numchild - 1 = omega arith in
          ap (λ m. with_count m row) less
      by false count = let same : n ≡ row.numchild = omega arith in ap (λ m. with_count m row) same

  -- a graft below one of these leaves their number
  pub kid_count-graft : (id : ℕ) (place : Place) (node f : Forest Body) →
      kid_count (graft id place node f) ≡ kid_count f
  kid_count-graft id place node bare = refl
  kid_count-graft id place node (grown i s slug body kids rest) =
      by (nat_eq i id) (kid_count-graft id place node rest)
    where
      by : (t : Bool) → kid_count (graft id place node rest) ≡ kid_count rest →
          kid_count (cond t (grown i s slug body (put place node kids) rest)
          (grown i s slug body (graft id place node kids) (graft id place node rest)))
          ≡ kid_count rest + 1
      by true more = refl
      by false more = ap (λ n. n + 1) more

  -- two lists with equal heads and equal tails
  pub cons_both : (x y : Row Body) (xs ys : List (Row Body)) → x ≡ y → xs ≡ ys → x ∷ xs ≡ y ∷ ys
  cons_both x y xs ys one more = cc

  -- the path of a walk that begins among a page's children
  pub path_below : (here : Visit Body) (below others : List (Visit Body)) (step : ℕ) (more : List ℕ) →
      map (λ (v : Visit Body). v.step) below ≡ step ∷ more →
      map (λ (v : Visit Body). v.step) (first_walk (extended here below) others)
      ≡ here.step ∷ step ∷ more
  path_below here [] others step more is = absurd cc
  path_below here (visit ∷ below) others step more is = ap (λ path. here.step ∷ path) is

  -- the first of two forests where it is not bare
  pub or_else_first : (a b : Forest Body) (id step : ℕ) (slug : List ℕ) (body : Body)
      (kids rest : Forest Body) →
      a ≡ grown id step slug body kids rest → or_else a b ≡ grown id step slug body kids rest
  or_else_first bare b id step slug body kids rest is = absurd cc
  or_else_first (grown i s own o k r) b id step slug body kids rest is = is

  -- a forest or nothing
  pub or_else_bare : (a : Forest Body) → or_else a bare ≡ a
  or_else_bare bare = refl
  or_else_bare (grown i s own o k r) = refl
