-- Paths below one page: those below different kids, and those that go on.
use Rattle.std.proofs.Common.{◌≡◌, ◌<◌, ◌≤◌, ℕ, true, false, List, [], ◌∷◌, ◌++◌, Option, Some, nat_eq, refl, ◌∙◌, arith, append_assoc}
use Rattle.std.specs.List.{AllByRecursion}
use Rattle.std.proofs.lemmas.Bool.Decides.{nat_tests}
use Rattle.page_tree.specs.Tree.{Forest, bare, grown, AreRising, last_step}
use Rattle.page_tree.specs.Rows.{Row, rows_below, child_url}
use Rattle.page_tree.proofs.RootLemmas.{le-last_step}
use Rattle.page_store.specs.Search.{begins}
use Rattle.page_store.proofs.AllLemmas.{All-append, All-weaker}
use Rattle.page_store.proofs.WindowLemmas.{begins-behind}

-- a path goes on from its beginning
pub begins-append : (path more : List ℕ) → begins path (path ++ more) ≡ true
begins-append [] more = refl
begins-append (x ∷ path) more =
    let same : nat_eq x x ≡ true = grind (arith, nat_tests) in
    rw (same, begins-append path more) refl

-- paths that differ in a step do not begin with each other
pub begins-other_step : (path a b : List ℕ) (s t : ℕ) → (s ≡ t → ⊥) →
    begins (path ++ s ∷ a) (path ++ t ∷ b) ≡ false
begins-other_step path a b s t differ =
    let differs : nat_eq s t ≡ false = grind (arith, nat_tests) in
    begins-behind path (s ∷ a) (t ∷ b) ∙ rw differs refl

-- a path does not begin with a longer one
pub begins-longer : (path a : List ℕ) (s : ℕ) → begins (path ++ s ∷ a) path ≡ false
begins-longer [] a s = refl
begins-longer (x ∷ path) a s =
    let same : nat_eq x x ≡ true = grind (arith, nat_tests) in
    rw (same, begins-longer path a s) refl

-- A path goes on from this one by a step above one number and up to another.
pub record GoesOn (path : List ℕ) (before last : ℕ) (own : List ℕ) : Type 0 where
  pub step : ℕ
  pub more : List ℕ
  pub is : own ≡ path ++ step ∷ more
  pub late : before < step
  pub early : step ≤ last

-- the same with wider bounds
pub GoesOn-wider : (path : List ℕ) (before low last high : ℕ) (own : List ℕ) → low ≤ before →
    last ≤ high → GoesOn path before last own → GoesOn path low high own
GoesOn-wider path before low last high own lower higher on =
    let late = on.late in
    let early = on.early in
    record { step = on.step; more = on.more; is = on.is; late = omega arith; early = omega arith }

-- a path below a kid goes on by the kid's step
pub GoesOn-below : (path own : List ℕ) (s before last low high : ℕ) → before < s → s ≤ last →
    GoesOn (path ++ s ∷ []) low high own → GoesOn path before last own
GoesOn-below path own s before last low high late early on =
    record {
      step = s;
      more = on.step ∷ on.more;
      is = on.is ∙ append_assoc path (s ∷ []) (on.step ∷ on.more);
      late = late;
      early = early;
    }

-- a path that goes on by an earlier step begins with none of these
pub earlier_out : (path a own : List ℕ) (s before last : ℕ) → s ≤ before →
    GoesOn path before last own → begins (path ++ s ∷ a) own ≡ false
earlier_out path a own s before last low on =
    let late = on.late in
    rw on.is (begins-other_step path a on.more s on.step (λ e. absurd (omega arith)))

module _ {Body : Type 0} where
  -- each row of pages side by side and of what is below them goes on by one of their steps
  pub rows_go_on : (parent : Option ℕ) (path url : List ℕ) (before : ℕ) (f : Forest Body) →
      AreRising before f → AllByRecursion
      (λ (row : Row Body). GoesOn path before (last_step before f) row.path)
      (rows_below parent path url f)
  rows_go_on parent path url before bare rising = tt
  rows_go_on parent path url before (grown i s slug body kids rest) rising =
      let late = rising.0 in
      let last = le-last_step s rest rising.2 in
      let below = rows_go_on (Some i) (path ++ s ∷ []) (child_url url slug) 0 kids rising.1 in
      let after = rows_go_on parent path url s rest rising.2 in (
        record { step = s; more = []; is = refl; late = rising.0; early = last },
        All-append _ _ _
            (All-weaker _ _ (λ (row : Row Body) on.
            GoesOn-below path row.path s before (last_step s rest) 0 (last_step 0 kids) late last on) _
            below)
            (All-weaker _ _ (λ (row : Row Body) on.
            GoesOn-wider path s before (last_step s rest) (last_step s rest) row.path (omega arith)
            (omega arith) on)
            _ after),
      )
