-- Pages with distinct ids: what is not there is not found, cut or grafted to.
use Rattle.std.proofs.Common.{◌≡◌, ℕ, Bool, true, false, cond, List, [], ◌∷◌, ◌++◌, Option, Some, nat_eq, ◌||◌, refl, sym, subst, arith}
use Rattle.std.specs.List.{AllByRecursion}
use Rattle.std.proofs.lemmas.Bool.Decides.{nat_tests}
use Rattle.page_tree.specs.Tree.{Forest, bare, grown, Place, AllIds, has_page, node_of, kids_of, without, graft}
use Rattle.page_tree.specs.Rows.{Row, rows_below, child_url}
use Rattle.page_tree.proofs.RowLemmas.{AllIds-weaker}
use Rattle.page_store.proofs.AllLemmas.{All-append}
pub use Rattle.page_tree.proofs.ApartLemmas.{Lacks, AreApart, AreApart-distinct, rows_ids}
pub use Rattle.tree_model.proofs.SiblingLemmas.{AreRising-without}

module _ {Body : Type 0} where
  -- a page that is not there is not found
  pub has_page-lacks : (id : ℕ) (f : Forest Body) → Lacks id f → has_page id f ≡ false
  has_page-lacks id bare lacks = refl
  has_page-lacks id (grown i s slug body kids rest) lacks =
      let differs : nat_eq i id ≡ false = grind (arith, nat_tests) in
      rw (differs, has_page-lacks id kids lacks.1, has_page-lacks id rest lacks.2) refl

  -- it has no kids
  pub kids_of-lacks : (id : ℕ) (f : Forest Body) → Lacks id f → kids_of id f ≡ bare
  kids_of-lacks id bare lacks = refl
  kids_of-lacks id (grown i s slug body kids rest) lacks =
      let differs : nat_eq i id ≡ false = grind (arith, nat_tests) in
      rw (differs, kids_of-lacks id kids lacks.1, kids_of-lacks id rest lacks.2) refl

  -- nothing stands in its place
  pub node_of-lacks : (id : ℕ) (f : Forest Body) → Lacks id f → node_of id f ≡ bare
  node_of-lacks id bare lacks = refl
  node_of-lacks id (grown i s slug body kids rest) lacks =
      let differs : nat_eq i id ≡ false = grind (arith, nat_tests) in
      rw (differs, node_of-lacks id kids lacks.1, node_of-lacks id rest lacks.2) refl

  -- nothing is cut
  pub without-lacks : (id : ℕ) (f : Forest Body) → Lacks id f → without id f ≡ f
  without-lacks id bare lacks = refl
  without-lacks id (grown i s slug body kids rest) lacks =
      let differs : nat_eq i id ≡ false = grind (arith, nat_tests) in
      rw (differs, without-lacks id kids lacks.1, without-lacks id rest lacks.2) refl

  -- and nothing is grafted below it
  pub graft-lacks : (id : ℕ) (place : Place) (node f : Forest Body) → Lacks id f →
      graft id place node f ≡ f
  graft-lacks id place node bare lacks = refl
  graft-lacks id place node (grown i s slug body kids rest) lacks =
      let differs : nat_eq i id ≡ false = grind (arith, nat_tests) in
      rw (differs, graft-lacks id place node kids lacks.1, graft-lacks id place node rest lacks.2)
      refl

  -- what holds of each page's id holds of that of a page that is there
  pub AllIds-has_page : (P : ℕ → Type 0) (id : ℕ) (f : Forest Body) → AllIds P f →
      has_page id f ≡ true → P id
  AllIds-has_page P id bare all there = absurd cc
  AllIds-has_page P id (grown i s slug body kids rest) all there =
      by (nat_eq i id) refl (has_page id kids) refl (AllIds-has_page P id kids all.1)
      (AllIds-has_page P id rest all.2) there
    where
      by : (here : Bool) → nat_eq i id ≡ here → (below : Bool) → has_page id kids ≡ below →
          (has_page id kids ≡ true → P id) → (has_page id rest ≡ true → P id) →
          here || (below || has_page id rest) ≡ true → P id
      by true e below k inside after there = let same : i ≡ id = grind (arith, nat_tests) in
          subst P same all.0
      by false e true k inside after there = inside k
      by false e false k inside after there = after there

  -- a page below one is no sibling after it
  pub lacks_after : (id i : ℕ) (kids rest : Forest Body) → AllIds (λ j. Lacks j kids) rest →
      has_page id kids ≡ true → Lacks id rest
  lacks_after id i kids rest between there =
      AllIds-weaker (λ j. Lacks j kids) (λ j. j ≡ id → ⊥) rest
      (λ j lacks e. AllIds-has_page (λ k. k ≡ j → ⊥) id kids lacks there (sym e)) between

  -- a sibling after a page is not below it
  pub lacks_below : (id : ℕ) (kids rest : Forest Body) → AllIds (λ j. Lacks j kids) rest →
      has_page id rest ≡ true → Lacks id kids
  lacks_below id kids rest between there = AllIds-has_page (λ j. Lacks j kids) id rest between there

  -- pages that are apart from others, told from the other side
  pub AllIds-turned : (f g : Forest Body) → AllIds (λ j. Lacks j f) g → AllIds (λ j. Lacks j g) f
  AllIds-turned bare g all = tt
  AllIds-turned (grown k s slug body kids rest) g all = (
    AllIds-weaker (λ j. Lacks j (grown k s slug body kids rest)) (λ j. j ≡ k → ⊥) g
        (λ j lacks e. lacks.0 (sym e)) all,
    AllIds-turned kids g (AllIds-weaker (λ j. Lacks j (grown k s slug body kids rest))
        (λ j. Lacks j kids) g
        (λ j lacks. lacks.1) all),
    AllIds-turned rest g (AllIds-weaker (λ j. Lacks j (grown k s slug body kids rest))
        (λ j. Lacks j rest) g
        (λ j lacks. lacks.2) all),
  )

  -- what holds of the parent and of each page holds of each row's parent
  pub rows_parents : (P : Option ℕ → Type 0) (parent : Option ℕ) (path url : List ℕ)
      (f : Forest Body) →
      P parent → AllIds (λ j. P (Some j)) f →
      AllByRecursion (λ (row : Row Body). P row.parent) (rows_below parent path url f)
  rows_parents P parent path url bare one all = tt
  rows_parents P parent path url (grown i s slug body kids rest) one all = (
    one,
    All-append _ _ _
        (rows_parents P (Some i) (path ++ s ∷ []) (child_url url slug) kids all.0 all.1)
        (rows_parents P parent path url rest one all.2),
  )

  -- what holds of each page holds of each that is left after a cut
  pub AllIds-without : (P : ℕ → Type 0) (id : ℕ) (f : Forest Body) → AllIds P f →
      AllIds P (without id f)
  AllIds-without P id bare all = tt
  AllIds-without P id (grown i s slug body kids rest) all =
      either (nat_eq i id) all.2 (
        all.0,
        AllIds-without P id kids all.1,
        AllIds-without P id rest all.2,
      )
    where
      either : (t : Bool) → AllIds P rest →
          AllIds P (grown i s slug body (without id kids) (without id rest)) →
          AllIds P (cond t rest (grown i s slug body (without id kids) (without id rest)))
      either true cut kept = cut
      either false cut kept = kept

  -- pages stay apart after a cut
  pub AreApart-without : (id : ℕ) (f : Forest Body) → AreApart f → AreApart (without id f)
  AreApart-without id bare apart = tt
  AreApart-without id (grown i s slug body kids rest) apart =
      either (nat_eq i id) apart.2 (
        (
          AllIds-without (λ j. j ≡ i → ⊥) id kids apart.0.0,
          AllIds-without (λ j. j ≡ i → ⊥) id rest apart.0.1,
          AllIds-weaker (λ j. Lacks j kids) (λ j. Lacks j (without id kids)) (without id rest)
              (λ j lacks. AllIds-without (λ k. k ≡ j → ⊥) id kids lacks)
              (AllIds-without (λ j. Lacks j kids) id rest apart.0.2),
        ),
        AreApart-without id kids apart.1,
        AreApart-without id rest apart.2,
      )
    where
      either : (t : Bool) → AreApart rest →
          AreApart (grown i s slug body (without id kids) (without id rest)) →
          AreApart (cond t rest (grown i s slug body (without id kids) (without id rest)))
      either true cut kept = cut
      either false cut kept = kept
