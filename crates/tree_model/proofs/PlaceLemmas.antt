-- Where a graft puts a page, and what it does to how often an id stands in the tree.
use Rattle.std.proofs.Common.{◌≡◌, ◌+◌, ◌≤◌, inl, inr, ℕ, Bool, true, false, cond, List, nat_eq, nat_lt, ◌||◌, refl, arith}
use Rattle.page_tree.specs.Tree.{Forest, bare, grown, Place, First, Before, End, or_else, kids_of, last_step, raised, placed, put_last, put_before, put, graft}
use Rattle.step_path.specs.declared.step.TheConstants.{LAST_STEP}
use Rattle.tree_model.specs.Limits.{is_full}
use Rattle.tree_model.proofs.CountLemmas.{one, count, none_or_some, not_first, or_bare}

-- a test does not hold and fail
pub not_both : (t : Bool) → t ≡ true → t ≡ false → ⊥
not_both t holds fails = absurd (cc)

module _ {Body : Type 0} where
  -- whether one of these siblings has the id
  abbrev pub has_kid : ℕ → Forest Body → Bool
  has_kid id bare = false
  has_kid id (grown i step slug body kids rest) = nat_eq i id || has_kid id rest

  -- the place is among these siblings
  abbrev pub IsAmong : Place → Forest Body → Type 0
  IsAmong First f = Unit {0}
  IsAmong (Before sibling) f = has_kid sibling f ≡ true
  IsAmong End f = Unit {0}

  -- a place is full where the step after the last one is past the last that there is
  pub full_told : (tree : Forest Body) (parent : ℕ) (place : Place) →
      is_full tree parent place ≡ nat_lt LAST_STEP (last_step 0 (kids_of parent tree) + 1)
  full_told tree parent First = refl
  full_told tree parent (Before sibling) = refl
  full_told tree parent End = refl

  -- the children of each page with the id have Q
  abbrev pub AtParent : ℕ → (Forest Body → Type 0) → Forest Body → Type 0
  AtParent p Q bare = Unit {0}
  AtParent p Q (grown i step slug body kids rest) =
      (nat_eq i p ≡ true → Q kids) × AtParent p Q kids × AtParent p Q rest

  -- there is no such page
  AtParent-absent : (p : ℕ) (Q : Forest Body → Type 0) (f : Forest Body) → count p f ≡ 0 →
      AtParent p Q f
  AtParent-absent p Q bare none = tt
  AtParent-absent p Q (grown i step slug body kids rest) none = (
    λ is. absurd (not_both (nat_eq i p) is (not_first p i (count p kids + count p rest) none)),
    AtParent-absent p Q kids (omega arith),
    AtParent-absent p Q rest (omega arith),
  )

  -- a page that is not there has no children
  pub kids_absent : (p : ℕ) (f : Forest Body) → count p f ≡ 0 → kids_of p f ≡ bare
  kids_absent p bare none = refl
  kids_absent p (grown i step slug body kids rest) none =
      let differs = not_first p i (count p kids + count p rest) none in
      let below = kids_absent p kids (omega arith) in
      let after = kids_absent p rest (omega arith) in
      rw (differs, below, after) refl

  -- the children of a page that stands once at most are found
  pub AtParent-kids : (p : ℕ) (Q : Forest Body → Type 0) (f : Forest Body) → count p f ≤ 1 →
      Q (kids_of p f) → AtParent p Q f
  AtParent-kids p Q bare once q = tt
  AtParent-kids p Q (grown i step slug body kids rest) once q =
      choice (nat_eq i p) refl once (AtParent-kids p Q kids) (AtParent-kids p Q rest) q
    where
      choice : (t : Bool) → nat_eq i p ≡ t → one t + (count p kids + count p rest) ≤ 1 →
          (count p kids ≤ 1 → Q (kids_of p kids) → AtParent p Q kids) →
          (count p rest ≤ 1 → Q (kids_of p rest) → AtParent p Q rest) →
          Q (cond t kids (or_else (kids_of p kids) (kids_of p rest))) →
          (nat_eq i p ≡ true → Q kids) × AtParent p Q kids × AtParent p Q rest
      choice true is h in_kids in_rest k = (
        λ found. k,
        AtParent-absent p Q kids (omega arith),
        AtParent-absent p Q rest (omega arith),
      )
      choice false is h in_kids in_rest k = elim (none_or_some (count p kids)) [
        | inl none ↦
            let gone = kids_absent p kids none in (
              λ found. absurd (not_both (nat_eq i p) found is),
              AtParent-absent p Q kids none,
              in_rest (omega arith) (rw gone at k),
            )
        | inr some ↦
            let gone = kids_absent p rest (omega arith) in (
              λ found. absurd (not_both (nat_eq i p) found is),
              in_kids (omega arith) (rw (gone, or_bare (kids_of p kids)) at k),
              AtParent-absent p Q rest (omega arith),
            )
      ]

  -- siblings one step later are the same pages
  count-raised : (j : ℕ) (f : Forest Body) → count j (raised f) ≡ count j f
  count-raised j bare = refl
  count-raised j (grown i step slug body kids rest) =
      let more = count-raised j rest in omega (arith, more)

  module _ (n step : ℕ) (slug : List ℕ) (body : Body) (below : Forest Body) where
    -- the page that is put in
    abbrev node : Forest Body
    node = grown n step slug body below bare

    -- a page at the end is one more
    count-put_last : (j before : ℕ) (f : Forest Body) →
        count j (put_last before node f) ≡ count j node + count j f
    count-put_last j before bare = omega arith
    count-put_last j before (grown i s own b kids rest) =
        let more = count-put_last j s rest in omega (arith, more)

    -- a page before a sibling is one more
    count-put_before : (j sibling : ℕ) (f : Forest Body) → has_kid sibling f ≡ true →
        count j (put_before sibling node f) ≡ count j node + count j f
    count-put_before j sibling bare among = absurd (cc)
    count-put_before j sibling (grown i s own b kids rest) among =
        choice (nat_eq i sibling) among (count-put_before j sibling rest)
      where
        choice : (t : Bool) → (t || has_kid sibling rest) ≡ true →
            (has_kid sibling rest ≡ true →
            count j (put_before sibling node rest) ≡ count j node + count j rest) →
            count j (cond t (placed node s (raised (grown i s own b kids rest)))
            (grown i s own b kids (put_before sibling node rest))) ≡
            count j node + count j (grown i s own b kids rest)
        choice true h in_rest = let same = count-raised j rest in omega (arith, same)
        choice false h in_rest = let more = in_rest h in omega (arith, more)

    -- a page at its place is one more
    count-put : (j : ℕ) (place : Place) (f : Forest Body) → IsAmong place f →
        count j (put place node f) ≡ count j node + count j f
    count-put j First f among = let same = count-raised j f in omega (arith, same)
    count-put j (Before sibling) f among = count-put_before j sibling f among
    count-put j End f among = count-put_last j 0 f

  -- a graft below a page that is not there changes nothing
  pub graft_absent : (p : ℕ) (place : Place) (node f : Forest Body) → count p f ≡ 0 →
      graft p place node f ≡ f
  graft_absent p place node bare none = refl
  graft_absent p place node (grown i step slug body kids rest) none =
      let differs = not_first p i (count p kids + count p rest) none in
      let below = graft_absent p place node kids (omega arith) in
      let after = graft_absent p place node rest (omega arith) in
      rw (differs, below, after) refl

  -- An id stands in a graft as often as in the page that is put in and in the tree together.
  pub graft_counts : (j p : ℕ) (place : Place) (n step : ℕ) (slug : List ℕ) (body : Body)
      (below f : Forest Body) → count p f ≡ 1 → AtParent p (IsAmong place) f →
      count j (graft p place (grown n step slug body below bare) f) ≡
      count j (grown n step slug body below bare) + count j f
  graft_counts j p place n step slug body below bare once among =
      let no : ⊥ = omega arith in absurd no
  graft_counts j p place n step slug body below (grown i s own b kids rest) once among =
      choice (nat_eq i p) refl once
      (λ found. graft_counts j p place n step slug body below kids found among.1)
      (λ found. graft_counts j p place n step slug body below rest found among.2)
    where
      choice : (t : Bool) → nat_eq i p ≡ t → one t + (count p kids + count p rest) ≡ 1 →
          (count p kids ≡ 1 → count j (graft p place (grown n step slug body below bare) kids) ≡
          count j (grown n step slug body below bare) + count j kids) →
          (count p rest ≡ 1 → count j (graft p place (grown n step slug body below bare) rest) ≡
          count j (grown n step slug body below bare) + count j rest) →
          count j (cond t
          (grown i s own b (put place (grown n step slug body below bare) kids) rest)
          (grown i s own b (graft p place (grown n step slug body below bare) kids)
          (graft p place (grown n step slug body below bare) rest))) ≡
          count j (grown n step slug body below bare) + count j (grown i s own b kids rest)
      choice true is h in_kids in_rest =
          let more = count-put n step slug body below j place kids (among.0 is) in
          omega (arith, more)
      choice false is h in_kids in_rest = elim (none_or_some (count p kids)) [
        | inl none ↦
            let same = graft_absent p place (grown n step slug body below bare) kids none in
            let more = in_rest (omega arith) in
            rw same (omega (arith, more))
        | inr some ↦
            let same = graft_absent p place (grown n step slug body below bare) rest (omega arith)
            in
            let more = in_kids (omega arith) in
            rw same (omega (arith, more))
      ]
