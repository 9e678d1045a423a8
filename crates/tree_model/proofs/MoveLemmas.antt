-- Where a move lands, and what it keeps of a tree.
use Rattle.std.proofs.Common.{◌≡◌, ◌+◌, ◌≤◌, inl, inr, ℕ, Bool, true, false, cond, not, ◌||◌, ◌&&◌, List, [], None, nat_eq, refl, sym, ap, subst, ◌∙◌, arith}
use Rattle.page_tree.specs.Tree.{Forest, bare, grown, Place, First, Before, End, AreRising, has_page, node_of, without, kids_of, kid_with_slug, last_step, graft}
use Rattle.step_path.specs.declared.step.TheConstants.{LAST_STEP}
use Rattle.site_types.specs.declared.body.Body.{Body}
use Rattle.site_types.specs.declared.position.Position.{Position}
use Rattle.site_types.specs.declared.position.Position.TheVariants.{FirstChild, LastChild, FirstSibling, Left, Right, LastSibling}
use Rattle.tree_model.specs.Places.{is_beside, parent_in, before_first, place_behind, parent_at, place_at, slug_in, stays_put, leads_into_itself}
use Rattle.tree_model.specs.Shape.{IsWhole, AllPages, AreWithin, SlugsDiffer}
use Rattle.tree_model.proofs.CountLemmas.{one, count, has_counts, none_counts, none_or_some, same_id, apart_by_test, cut_counts, node_found}
use Rattle.tree_model.proofs.PageLemmas.{AllPages-graft, AllPages-node_of, AllPages-without}
use Rattle.tree_model.proofs.PlaceLemmas.{has_kid, IsAmong, AtParent-kids, kids_absent, graft_counts}
use Rattle.tree_model.proofs.SiblingLemmas.{AreRising-without, AreRising-node_of, AreRising-graft, AreWithin-without, AreWithin-node_of, AreWithin-graft, SlugsDiffer-without, SlugsDiffer-node_of, SlugsDiffer-graft}
use Rattle.tree_model.proofs.ParentLemmas.{ParentIs, ParentIs-without, parent_found, kid_found, slug_told, slug_found, kids_of-node}
use Rattle.tree_model.proofs.WholeLemmas.{has_parent}

-- a test beside one that holds
and_true : (test : Bool) → (test && true) ≡ false → test ≡ false
and_true true is = absurd (cc)
and_true false is = refl

-- a later test that holds
or_later : (test later : Bool) → later ≡ true → (test || later) ≡ true
or_later true later is = refl
or_later false later is = is

module _ {Kept : Type 0} where
  -- The target of a move that does not lead into itself, and that changes something, is not the page
  -- and does not lie below it.
  pub record IsApart (tree : Forest Kept) (page target : ℕ) : Type 0 where
    pub outside : has_page target (kids_of page tree) ≡ false
    pub apart : nat_eq page target ≡ false

  -- so it is, whatever the position
  pub target_apart : (tree : Forest Kept) (page target : ℕ) (position : Position) →
      leads_into_itself tree page target position ≡ false → stays_put page target position ≡ false →
      IsApart tree page target
  target_apart tree page target position outside moves =
      choice (has_page target (kids_of page tree)) (nat_eq page target) (is_beside position) refl
      refl outside moves
    where
      choice : (inside same beside : Bool) → has_page target (kids_of page tree) ≡ inside →
          nat_eq page target ≡ same → (inside || (same && not beside)) ≡ false →
          (same && beside) ≡ false → IsApart tree page target
      choice true same beside is equal leads stays = absurd (cc)
      choice false true true is equal leads stays = absurd (cc)
      choice false true false is equal leads stays = absurd (cc)
      choice false false beside is equal leads stays = record { outside = is; apart = equal }

  -- a target that is not below the page stays when the page is cut out
  pub target_stays : (tree : Forest Kept) (page target : ℕ) → ((j : ℕ) → count j tree ≤ 1) →
      1 ≤ count page tree → 1 ≤ count target tree → nat_eq page target ≡ false →
      has_page target (kids_of page tree) ≡ false → count target (without page tree) ≡ 1
  target_stays tree page target each here there apart outside =
      let node = node_found page tree here in
      let alone = grown page node.step node.slug node.body node.kids bare in
      let own : kids_of page alone ≡ node.kids = rw (same_id page) refl in
      let kids_are = kids_of-node page tree (each page) ∙
      (ap (λ (f : Forest Kept). kids_of page f) node.is ∙ own) in
      let none = none_counts target node.kids
      (subst (λ f. has_page target f ≡ false) kids_are outside) in
      let alone_none : count target alone ≡ 0 = rw (apart, none) (omega arith) in
      let gone = subst (λ f. count target f ≡ 0) (sym node.is) alone_none in
      let sum = cut_counts page target tree (each page) in
      let most = each target in
      omega (arith, gone, sum, most, there)

  -- a page with children is there
  pub parent_there : (t p : ℕ) (f : Forest Kept) → has_kid t (kids_of p f) ≡ true → 1 ≤ count p f
  parent_there t p f found = elim (none_or_some (count p f)) [
    | inl none ↦
        let nothing = rw (kids_absent p f none) at found in absurd (cc)
    | inr some ↦ some
  ]

  -- a page has one parent
  pub same_parent : (t p other q : ℕ) (f : Forest Kept) → ParentIs t p q f → ParentIs t other q f →
      1 ≤ count t f → p ≡ other
  same_parent t p other q bare a b some = let no : ⊥ = omega arith in absurd no
  same_parent t p other q (grown i s slug body kids rest) a b some =
      choice (nat_eq i t) a.0 b.0 some (same_parent t p other i kids a.1 b.1)
      (same_parent t p other q rest a.2 b.2)
    where
      choice : (test : Bool) → (test ≡ true → q ≡ p) → (test ≡ true → q ≡ other) →
          1 ≤ one test + (count t kids + count t rest) → (1 ≤ count t kids → p ≡ other) →
          (1 ≤ count t rest → p ≡ other) → p ≡ other
      choice true x y found in_kids in_rest = sym (x refl) ∙ y refl
      choice false x y found in_kids in_rest = elim (none_or_some (count t kids)) [
        | inl none ↦ in_rest (omega arith)
        | inr there ↦ in_kids there
      ]

  -- a place among later siblings is among all
  pub among_later : (place : Place) (i s : ℕ) (slug : List ℕ) (body : Kept)
      (kids rest : Forest Kept) →
      IsAmong place rest → IsAmong place (grown i s slug body kids rest)
  among_later First i s slug body kids rest among = tt
  among_later (Before sibling) i s slug body kids rest among =
      or_later (nat_eq i sibling) (has_kid sibling rest) among
  among_later End i s slug body kids rest among = tt

  -- the place before the first of some siblings is among them
  pub first_among : (f : Forest Kept) → IsAmong (before_first f) f
  first_among bare = tt
  first_among (grown i s slug body kids rest) = rw (same_id i) refl

  -- the place behind a page is among its siblings
  pub behind_among : (t : ℕ) (f : Forest Kept) → IsAmong (place_behind t f) f
  behind_among t bare = tt
  behind_among t (grown i s slug body kids rest) =
      choice (nat_eq i t) (behind_among t rest)
    where
      choice : (test : Bool) → IsAmong (place_behind t rest) rest →
          IsAmong (cond test (before_first rest) (place_behind t rest))
          (grown i s slug body kids rest)
      choice true later = among_later (before_first rest) i s slug body kids rest (first_among rest)
      choice false later = among_later (place_behind t rest) i s slug body kids rest later

  -- The new parent is in what the cut leaves, and the place is among its children there.
  pub record Lands (left : Forest Kept) (parent : ℕ) (place : Place) : Type 0 where
    pub one_parent : count parent left ≡ 1
    pub among : IsAmong place (kids_of parent left)

  -- a target that stays is the sibling of what is put beside it
  pub record IsBeside (left : Forest Kept) (parent target : ℕ) : Type 0 where
    pub one_parent : count parent left ≡ 1
    pub found : has_kid target (kids_of parent left) ≡ true
    pub same : parent ≡ parent_in left target

  -- What a move keeps of the tree.
  pub record IsMoved (tree after : Forest Kept) : Type 0 where
    pub counts : (j : ℕ) → count j after ≡ count j tree
    pub rising : AreRising 0 after
    pub steps : AreWithin LAST_STEP after
    pub siblings : SlugsDiffer after

  -- a page that is cut out and grafted in at a place where there is room and its slug is free
  pub grafted : (tree : Forest Kept) (page parent : ℕ) (place : Place) →
      ((j : ℕ) → count j tree ≤ 1) → 1 ≤ count page tree → AreRising 0 tree →
      AreWithin LAST_STEP tree → SlugsDiffer tree → Lands (without page tree) parent place →
      kid_with_slug (slug_in tree page) (kids_of parent (without page tree)) ≡ None →
      last_step 0 (kids_of parent (without page tree)) + 1 ≤ LAST_STEP →
      IsMoved tree (graft parent place (node_of page tree) (without page tree))
  grafted tree page parent place each here rising steps differ lands free room =
      let left = without page tree in
      let node = node_found page tree here in
      let slug_is = slug_found page None [] [] tree ∙
      ap (λ (f : Forest Kept). slug_told f) node.is in
      let own_free = subst (λ slug. kid_with_slug slug (kids_of parent left) ≡ None) slug_is free in
      let most : count parent left ≤ 1 = omega (arith, lands.one_parent) in
      let own_rising = subst (λ f. AreRising 0 f) node.is (AreRising-node_of page 0 tree rising) in
      let own_steps = subst (λ f. AreWithin LAST_STEP f) node.is
      (AreWithin-node_of LAST_STEP page tree steps) in
      let own_differ = subst (λ f. SlugsDiffer f) node.is (SlugsDiffer-node_of page tree differ) in
      let left_rising = AreRising-without page 0 tree rising in
      subst (λ f. IsMoved tree (graft parent place f left)) (sym node.is) (record {
        counts = λ j.
            let sum = graft_counts j parent place page node.step node.slug node.body node.kids left
            lands.one_parent (AtParent-kids parent (IsAmong place) left most lands.among) in
            let cut = subst (λ f. count j tree ≡ count j f + count j left) node.is
            (cut_counts page j tree (each page)) in
            sum ∙ sym cut;
        rising = AreRising-graft page node.step node.slug node.body node.kids parent 0 place left
            own_rising.1 left_rising;
        steps = AreWithin-graft page node.step node.slug node.body node.kids LAST_STEP parent 0
            place left own_steps.1 left_rising (AreWithin-without LAST_STEP page tree steps)
            (AtParent-kids parent (λ kids. last_step 0 kids + 1 ≤ LAST_STEP) left most room);
        siblings = SlugsDiffer-graft page node.step node.slug node.body node.kids parent place left
            own_differ.1
            (AtParent-kids parent (λ kids. kid_with_slug node.slug kids ≡ None) left most own_free)
            (SlugsDiffer-without page tree differ);
      })

  -- what holds of each page holds of each when a page is moved
  pub AllPages-moved : (P : ℕ → List ℕ → Kept → Type 0) (page parent : ℕ) (place : Place)
      (tree : Forest Kept) → AllPages P tree →
      AllPages P (graft parent place (node_of page tree) (without page tree))
  AllPages-moved P page parent place tree all =
      AllPages-graft P parent place (node_of page tree) (without page tree)
      (AllPages-node_of P page tree all) (AllPages-without P page tree all)

-- so it is, where the parent is that of the target in the whole tree
pub beside : (tree : Forest Body) (page target : ℕ) → IsWhole tree →
    count 0 tree ≡ 0 → ((j : ℕ) → count j tree ≤ 1) →
    nat_eq target 1 ≡ false → 1 ≤ count target tree → count target (without page tree) ≡ 1 →
    IsBeside (without page tree) (parent_in tree target) target
beside tree page target whole no_zero each below there stays =
    let left = without page tree in
    let p = parent_in tree target in
    let under = parent_found target p None [] [] tree (each target) refl in
    let under_left = ParentIs-without target p 0 page tree under in
    let apart = apart_by_test target 1 below in
    let other = has_parent tree target p whole (λ same. apart (sym same)) no_zero
    under there in
    let sum = cut_counts page p tree (each page) in
    let most = each p in
    let found = kid_found target p 0 left other (omega (arith, sum, most)) under_left
    (omega (arith, stays)) in
    let some = parent_there target p left found in
    let again = parent_found target (parent_in left target) None [] [] left (omega (arith, stays))
    refl in
    record {
      one_parent = omega (arith, sum, most, some);
      found = found;
      same = same_parent target p (parent_in left target) 0 left under_left again
          (omega (arith, stays));
    }

-- a move that no rule refuses lands
pub lands : (tree : Forest Body) (page target : ℕ) (position : Position) → IsWhole tree →
    count 0 tree ≡ 0 → ((j : ℕ) → count j tree ≤ 1) → has_page page tree ≡ true →
    has_page target tree ≡ true → (nat_eq target 1 && is_beside position) ≡ false →
    leads_into_itself tree page target position ≡ false → stays_put page target position ≡ false →
    Lands (without page tree) (parent_at tree target position)
    (place_at (without page tree) target position)
lands tree page target position whole no_zero each found target_found below_root outside moves =
    let there = has_counts target tree target_found in
    let other = target_apart tree page target position outside moves in
    let stays = target_stays tree page target each (has_counts page tree found) there other.apart
    other.outside in
    choice position below_root stays
    (λ below. beside tree page target whole no_zero each below there stays)
  where
    choice : (at : Position) → (nat_eq target 1 && is_beside at) ≡ false →
        count target (without page tree) ≡ 1 →
        (nat_eq target 1 ≡ false →
        IsBeside (without page tree) (parent_in tree target) target) →
        Lands (without page tree) (parent_at tree target at)
        (place_at (without page tree) target at)
    choice FirstChild below stays sibling = record { one_parent = stays; among = tt }
    choice LastChild below stays sibling = record { one_parent = stays; among = tt }
    choice FirstSibling below stays sibling = record {
      one_parent = (sibling (and_true (nat_eq target 1) below)).one_parent;
      among = tt;
    }
    choice LastSibling below stays sibling = record {
      one_parent = (sibling (and_true (nat_eq target 1) below)).one_parent;
      among = tt;
    }
    choice Left below stays sibling = record {
      one_parent = (sibling (and_true (nat_eq target 1) below)).one_parent;
      among = (sibling (and_true (nat_eq target 1) below)).found;
    }
    choice Right below stays sibling =
        let near = sibling (and_true (nat_eq target 1) below) in
        let left = without page tree in
        let there = parent_in left target in
        record {
          one_parent = near.one_parent;
          among = subst
              (λ p. IsAmong (place_behind target (kids_of there left)) (kids_of p left))
              (sym near.same) (behind_among target (kids_of there left));
        }
