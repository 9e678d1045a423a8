-- Where a move lands, in a tree that has the root alone at its top.
use Rattle.std.proofs.Common.{◌≡◌, ◌≤◌, ℕ, Bool, true, false, not, ◌||◌, ◌&&◌, [], None, nat_eq, refl, sym, subst, arith}
use Rattle.page_tree.specs.Tree.{Forest, bare, grown, Place, has_page, without, kids_of, put, graft}
use Rattle.site_types.specs.declared.body.Body.{Body}
use Rattle.site_types.specs.declared.position.Position.{Position}
use Rattle.site_types.specs.declared.position.Position.TheVariants.{FirstChild, LastChild, FirstSibling, Left, Right, LastSibling}
use Rattle.tree_model.specs.Places.{is_beside, parent_in, place_behind, parent_at, place_at, leads_into_itself}
use Rattle.tree_model.proofs.CountLemmas.{count, either, has_counts, id_found, told_apart, cut_counts}
use Rattle.tree_model.proofs.PlaceLemmas.{IsAmong}
use Rattle.tree_model.proofs.ParentLemmas.{ParentIs, ParentIs-without, none_below, parent_found, kid_found}
use Rattle.tree_model.proofs.MoveLemmas.{Lands, IsBeside, target_apart, target_stays, parent_there, same_parent, behind_among}
use Rattle.path_moves.specs.Applying.{IsMovable}
use Rattle.path_moves.proofs.TreePages.{HasRoot}

-- a graft keeps the root
pub root-graft : (p : ℕ) (place : Place) (node f : Forest Body) → HasRoot f →
    HasRoot (graft p place node f)
root-graft p place node f root =
    subst (λ g. HasRoot (graft p place node g)) (sym root.is)
    (either HasRoot (nat_eq 1 p) _ _
    (record { body = root.body; kids = put place node root.kids; is = refl })
    (record { body = root.body; kids = graft p place node root.kids; is = refl }))

-- a cut of another page keeps the root
pub root-without : (id : ℕ) (f : Forest Body) → (1 ≡ id → ⊥) → HasRoot f → HasRoot (without id f)
root-without id f other root =
    let differs = told_apart 1 id other in
    subst (λ g. HasRoot (without id g)) (sym root.is)
    (rw differs (record { body = root.body; kids = without id root.kids; is = refl }))

-- a page that is moved is not the root: a move of the root leads into itself
pub not_root : (tree : Forest Body) (page target : ℕ) (position : Position) → HasRoot tree →
    IsMovable tree page target position → leads_into_itself tree page target position ≡ false →
    1 ≡ page → ⊥
not_root tree page target position root movable outside own =
    inside root.kids (subst (λ f. has_page target f ≡ true) root.is movable.target_there)
    (subst (λ f. leads_into_itself f 1 target position ≡ false) root.is
    (subst (λ id. leads_into_itself tree id target position ≡ false) (sym own) outside))
  where
    choice : (same below beside : Bool) → nat_eq 1 target ≡ same → is_beside position ≡ beside →
        same || (below || false) ≡ true → below || (same && not beside) ≡ false → ⊥
    choice true true beside e k there leads = cc
    choice true false false e k there leads = cc
    choice true false true e k there leads =
        movable.below_root k (sym (id_found 1 target e))
    choice false true beside e k there leads = cc
    choice false false beside e k there leads = cc

    inside : (kids : Forest Body) → has_page target (grown 1 1 [] root.body kids bare) ≡ true →
        leads_into_itself (grown 1 1 [] root.body kids bare) 1 target position ≡ false → ⊥
    inside kids there leads =
        choice (nat_eq 1 target) (has_page target kids) (is_beside position) refl refl there leads

-- a page other than the root has a parent
has_parent : (tree : Forest Body) (t p : ℕ) → HasRoot tree → (1 ≡ t → ⊥) → count 0 tree ≡ 0 →
    ParentIs t p 0 tree → 1 ≤ count t tree → 0 ≡ p → ⊥
has_parent tree t p root other =
    subst (λ g. count 0 g ≡ 0 → ParentIs t p 0 g → 1 ≤ count t g → 0 ≡ p → ⊥) (sym root.is)
    (below root.kids)
  where
    below : (kids : Forest Body) → count 0 (grown 1 1 [] root.body kids bare) ≡ 0 →
        ParentIs t p 0 (grown 1 1 [] root.body kids bare) →
        1 ≤ count t (grown 1 1 [] root.body kids bare) → 0 ≡ p → ⊥
    below kids none under some zero =
        let no_parent = subst (λ k. count k kids ≡ 0) zero (omega (arith, none)) in
        let nowhere = none_below t p 1 kids
        (λ same. let no : ⊥ = omega (arith, same, zero) in no) no_parent under.1 in
        let found = rw (told_apart 1 t other) at some in
        omega (arith, nowhere, found)

-- a target that stays is the sibling of what is put beside it
beside : (tree : Forest Body) (page target : ℕ) → HasRoot tree → count 0 tree ≡ 0 →
    ((j : ℕ) → count j tree ≤ 1) → (1 ≡ target → ⊥) → 1 ≤ count target tree →
    count target (without page tree) ≡ 1 →
    IsBeside (without page tree) (parent_in tree target) target
beside tree page target root no_zero each below there stays =
    let left = without page tree in
    let p = parent_in tree target in
    let under = parent_found target p None [] [] tree (each target) refl in
    let under_left = ParentIs-without target p 0 page tree under in
    let other = has_parent tree target p root below no_zero under there in
    let sum = cut_counts page p tree (each page) in
    let most = each p in
    let found = kid_found target p 0 left other (omega (arith, sum, most)) under_left
    (omega (arith, stays)) in
    let some = parent_there target p left found in
    let again = parent_found target (parent_in left target) None [] [] left (omega (arith, stays))
    refl in
    record {
      one_parent = omega (arith, sum, most, some);
      found = found;
      same = same_parent target p (parent_in left target) 0 left under_left again
          (omega (arith, stays));
    }

-- A page that can be moved, and does not go into itself, lands.
pub move_lands : (tree : Forest Body) (page target : ℕ) (position : Position) → HasRoot tree →
    count 0 tree ≡ 0 → ((j : ℕ) → count j tree ≤ 1) → IsMovable tree page target position →
    leads_into_itself tree page target position ≡ false →
    Lands (without page tree) (parent_at tree target position)
    (place_at (without page tree) target position)
move_lands tree page target position root no_zero each movable outside =
    let there = has_counts target tree movable.target_there in
    let other = target_apart tree page target position outside movable.moves in
    let stays = target_stays tree page target each (has_counts page tree movable.page_there) there
    other.apart other.outside in
    choice position movable.below_root stays
    (λ below. beside tree page target root no_zero each (λ same. below (sym same)) there stays)
  where
    choice : (at : Position) → (is_beside at ≡ true → target ≡ 1 → ⊥) →
        count target (without page tree) ≡ 1 →
        ((target ≡ 1 → ⊥) → IsBeside (without page tree) (parent_in tree target) target) →
        Lands (without page tree) (parent_at tree target at)
        (place_at (without page tree) target at)
    choice FirstChild below stays sibling = record { one_parent = stays; among = tt }
    choice LastChild below stays sibling = record { one_parent = stays; among = tt }
    choice FirstSibling below stays sibling = record {
      one_parent = (sibling (below refl)).one_parent;
      among = tt;
    }
    choice LastSibling below stays sibling = record {
      one_parent = (sibling (below refl)).one_parent;
      among = tt;
    }
    choice Left below stays sibling = record {
      one_parent = (sibling (below refl)).one_parent;
      among = (sibling (below refl)).found;
    }
    choice Right below stays sibling =
        let near = sibling (below refl) in
        let left = without page tree in
        let there = parent_in left target in
        record {
          one_parent = near.one_parent;
          among = subst
              (λ p. IsAmong (place_behind target (kids_of there left)) (kids_of p left))
              (sym near.same) (behind_among target (kids_of there left));
        }
