-- How deep a tree is with a page more at the end of some kids.
use Rattle.std.proofs.Common.{◌≡◌, ◌≤◌, ◌<◌, ◌+◌, ℕ, suc, Bool, true, false, cond, not, List, [], ◌∷◌, length, max, nat_eq, nat_lt, inl, inr, refl, arith}
use Rattle.std.proofs.lemmas.Bool.Decides.{nat_tests}
use Rattle.std.proofs.lemmas.List.{length-map}
use Rattle.page_tree.specs.Tree.{Forest, bare, grown, End, put_last, graft}
use Rattle.page_tree.specs.Walk.{Visit, walk, first_walk, extended, path_of}
use Rattle.step_path.specs.declared.path.TheConstants.{MAX_DEPTH}
use Rattle.tree_model.specs.Limits.{height, is_too_deep}
use Rattle.tree_model.proofs.CountLemmas.{one, count, none_or_some}
use Rattle.tree_model.proofs.PlaceLemmas.{graft_absent}

module _ {Body : Type 0} where
  -- a page at the end of siblings stands as deep as they do
  height-put_last : (before n step : ℕ) (slug : List ℕ) (body : Body) (f : Forest Body) →
      height (put_last before (grown n step slug body bare bare) f) ≡ max (height f) 1
  height-put_last before n step slug body bare = refl
  height-put_last before n step slug body (grown i s own b kids rest) =
      let below = height-put_last s n step slug body rest in omega (arith, below)

  -- where a page is not there, no walk leads to it
  walk_absent : (p : ℕ) (f : Forest Body) → count p f ≡ 0 → walk p f ≡ []
  walk_absent p bare none = refl
  walk_absent p (grown i s own b kids rest) none =
      choice (nat_eq i p) none (walk_absent p kids) (walk_absent p rest)
    where
      choice : (t : Bool) → one t + (count p kids + count p rest) ≡ 0 →
          (count p kids ≡ 0 → walk p kids ≡ []) → (count p rest ≡ 0 → walk p rest ≡ []) →
          cond t (record {
            id = i;
            step = s;
            slug = own;
            body = b;
            numchild = Rattle.page_tree.specs.Walk.kid_count kids;
          } ∷ [])
          (first_walk (extended (record {
            id = i;
            step = s;
            slug = own;
            body = b;
            numchild = Rattle.page_tree.specs.Walk.kid_count kids;
          }) (walk p kids)) (walk p rest))
          ≡ []
      choice true is below after = let no : ⊥ = omega (arith, is) in absurd no
      choice false is below after =
          rw (below (omega (arith, is)), after (omega (arith, is))) refl

  -- With a page more behind the kids of another, a tree is as deep as it was, or as that page.
  record IsDeeper (p : ℕ) (f after : Forest Body) : Type 0 where
    pub found : 1 ≤ length (walk p f)
    pub height_is : height after ≡ max (height f) (length (walk p f) + 1)

  -- so it is, wherever the other page is
  deeper : (p n step : ℕ) (slug : List ℕ) (body : Body) (f : Forest Body) → count p f ≡ 1 →
      IsDeeper p f (graft p End (grown n step slug body bare bare) f)
  deeper p n step slug body bare is = let no : ⊥ = omega (arith, is) in absurd no
  deeper p n step slug body (grown i s own b kids rest) is =
      let both = choice (nat_eq i p) is (height-put_last 0 n step slug body kids)
      (deeper p n step slug body kids) (deeper p n step slug body rest) in
      record { found = both.0; height_is = both.1 }
    where
      node : Forest Body
      node = grown n step slug body bare bare

      here : Visit Body
      here = record {
        id = i;
        step = s;
        slug = own;
        body = b;
        numchild = Rattle.page_tree.specs.Walk.kid_count kids;
      }

      longest : (visits others : List (Visit Body)) → 1 ≤ length visits →
          length (first_walk (extended here visits) others) ≡ length visits + 1
      longest [] others some = let no : ⊥ = omega arith in absurd no
      longest (visit ∷ visits) others some = omega arith

      Split : Bool → Type 0
      Split t =
          (1 ≤ length (cond t (here ∷ []) (first_walk (extended here (walk p kids))
          (walk p rest))))
          × (height (cond t (grown i s own b (put_last 0 node kids) rest)
          (grown i s own b (graft p End node kids) (graft p End node rest)))
          ≡ max (max (suc (height kids)) (height rest))
          (length (cond t (here ∷ []) (first_walk (extended here (walk p kids)) (walk p rest))) + 1))

      choice : (t : Bool) → one t + (count p kids + count p rest) ≡ 1 →
          height (put_last 0 node kids) ≡ max (height kids) 1 →
          (count p kids ≡ 1 → IsDeeper p kids (graft p End node kids)) →
          (count p rest ≡ 1 → IsDeeper p rest (graft p End node rest)) → Split t
      choice true told last below after = (omega arith, omega (arith, last))
      choice false told last below after =
          elim (none_or_some (count p kids)) [
            | inl none ↦
                let deep = after (omega (arith, told, none)) in
                let same = graft_absent p End node kids none in
                let gone = walk_absent p kids none in
                let d = deep.height_is in
                rw (same, gone) (deep.found, omega (arith, d))
            | inr some ↦
                let deep = below (omega (arith, told, some)) in
                let same = graft_absent p End node rest (omega (arith, told, some)) in
                let long = longest (walk p kids) (walk p rest) deep.found in
                let d = deep.height_is in
                rw (same, long) (omega arith, omega (arith, d))
          ]

-- a tree in which no page is too deep gets one exactly where the new page's parent has the most
-- steps
pub deep_is : {Body : Type 0} (p n step : ℕ) (slug : List ℕ) (body : Body) (f : Forest Body) →
    count p f ≡ 1 → height f ≤ MAX_DEPTH →
    is_too_deep (graft p End (grown n step slug body bare bare) f)
    ≡ not (nat_lt (length (path_of p f)) MAX_DEPTH)
deep_is p n step slug body f is fits =
    let deep = deeper p n step slug body f is in
    let long = length-map (walk p f) (λ (visit : Visit _). visit.step) in
    let d = deep.height_is in
    let found = deep.found in
    choice (nat_lt (length (path_of p f)) MAX_DEPTH) refl
    (height (graft p End (grown n step slug body bare bare) f)) d long
  where
    choice : (t : Bool) → nat_lt (length (path_of p f)) MAX_DEPTH ≡ t → (h : ℕ) →
        h ≡ max (height f) (length (walk p f) + 1) → length (path_of p f) ≡ length (walk p f) →
        nat_lt MAX_DEPTH h ≡ not t
    choice true e h is same =
        let less : length (path_of p f) < MAX_DEPTH = grind (arith, nat_tests) in
        let most : h ≤ MAX_DEPTH = omega (arith, fits, is, same, less) in
        grind (arith, nat_tests)
    choice false e h is same =
        let more : MAX_DEPTH ≤ length (path_of p f) = grind (arith, nat_tests) in
        let past : MAX_DEPTH < h = omega (arith, is, same, more) in
        grind (arith, nat_tests)
