-- A tree keeps its root through cuts of other pages, grafts and renamings of other pages.
use Rattle.std.proofs.Common.{◌≡◌, ◌≤◌, ℕ, List, [], nat_eq, refl, sym, subst, arith}
use Rattle.page_tree.specs.Tree.{Forest, bare, grown, Place, without, put, graft}
use Rattle.site_types.specs.declared.body.Body.{Body}
use Rattle.tree_model.specs.Renames.{renamed}
use Rattle.tree_model.specs.Shape.{IsWhole}
use Rattle.tree_model.proofs.CountLemmas.{count, either, told_apart}
use Rattle.tree_model.proofs.ParentLemmas.{ParentIs, none_below}

-- a graft keeps the root
pub whole-graft : (p : ℕ) (place : Place) (node f : Forest Body) → IsWhole f →
    IsWhole (graft p place node f)
whole-graft p place node f whole =
    subst (λ g. IsWhole (graft p place node g)) (sym whole.is)
    (either IsWhole (nat_eq 1 p) _ _
    (record { own = whole.own; kids = put place node whole.kids; is = refl })
    (record { own = whole.own; kids = graft p place node whole.kids; is = refl }))

-- a cut of another page keeps the root
pub whole-without : (id : ℕ) (f : Forest Body) → (1 ≡ id → ⊥) → IsWhole f →
    IsWhole (without id f)
whole-without id f other whole =
    let differs = told_apart 1 id other in
    subst (λ g. IsWhole (without id g)) (sym whole.is)
    (rw differs (record { own = whole.own; kids = without id whole.kids; is = refl }))

-- another slug of a page below keeps the root
pub whole-renamed : (id : ℕ) (new : List ℕ) (f : Forest Body) → (1 ≡ id → ⊥) → IsWhole f →
    IsWhole (renamed id new f)
whole-renamed id new f other whole =
    let differs = told_apart 1 id other in
    subst (λ g. IsWhole (renamed id new g)) (sym whole.is)
    (rw differs (record { own = whole.own; kids = renamed id new whole.kids; is = refl }))

-- a page other than the root has a parent
pub has_parent : (tree : Forest Body) (t p : ℕ) → IsWhole tree → (1 ≡ t → ⊥) → count 0 tree ≡ 0 →
    ParentIs t p 0 tree → 1 ≤ count t tree → 0 ≡ p → ⊥
has_parent tree t p whole other =
    subst (λ g. count 0 g ≡ 0 → ParentIs t p 0 g → 1 ≤ count t g → 0 ≡ p → ⊥) (sym whole.is)
    (below whole.kids)
  where
    below : (kids : Forest Body) → count 0 (grown 1 1 [] whole.own kids bare) ≡ 0 →
        ParentIs t p 0 (grown 1 1 [] whole.own kids bare) →
        1 ≤ count t (grown 1 1 [] whole.own kids bare) → 0 ≡ p → ⊥
    below kids none under some zero =
        let no_parent = subst (λ k. count k kids ≡ 0) zero (omega (arith, none)) in
        let nowhere = none_below t p 1 kids
        (λ same. let no : ⊥ = omega (arith, same, zero) in no) no_parent under.1 in
        let found = rw (told_apart 1 t other) at some in
        omega (arith, nowhere, found)
