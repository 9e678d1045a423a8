-- In which order the ids stand behind a move.
use Rattle.std.proofs.Common.{◌≡◌, ℕ, ◌+◌, Bool, true, false, cond, nat_eq, ◌||◌, List, [], ◌∷◌, ◌++◌, map, take, drop, length, refl, ap, sym, ◌∙◌, subst, append_assoc}
use Rattle.std.proofs.lemmas.List.{append-nil, map-append, take-map, drop-map}
use Rattle.std.proofs.Math.Seq.{take-append_seam, drop-append_seam}
use Rattle.site_types.specs.declared.body.Body.{Body}
use Rattle.page_tree.specs.Tree.{Forest, bare, grown, Place, First, Before, End, has_page, ids_of, kids_of, or_else, raised, placed, put_last, put_before, put, graft}
use Rattle.tree_model.proofs.CountLemmas.{or_bare}
use Rattle.tree_model.proofs.PlaceLemmas.{IsAmong, has_kid}
use Rattle.tree_rows.proofs.Apart.{AreApart, kids_of-lacks, graft-lacks, lacks_after, lacks_below}

-- Ids with those of a page put in at a place.
pub record AreParted (whole node after : List ℕ) : Type 0 where
  pub front : List ℕ
  pub behind : List ℕ
  pub whole_is : whole ≡ front ++ behind
  pub after_is : after ≡ front ++ (node ++ behind)

-- the same behind others
parted_behind : (xs whole node after : List ℕ) → AreParted whole node after →
    AreParted (xs ++ whole) node (xs ++ after)
parted_behind xs whole node after p = record {
  front = xs ++ p.front;
  behind = p.behind;
  whole_is = ap (λ ys. xs ++ ys) p.whole_is ∙ sym (append_assoc xs p.front p.behind);
  after_is = ap (λ ys. xs ++ ys) p.after_is ∙ sym (append_assoc xs p.front (node ++ p.behind));
}

-- the same before others
parted_before : (whole node after ys : List ℕ) → AreParted whole node after →
    AreParted (whole ++ ys) node (after ++ ys)
parted_before whole node after ys p = record {
  front = p.front;
  behind = p.behind ++ ys;
  whole_is = ap (λ xs. xs ++ ys) p.whole_is ∙ append_assoc p.front p.behind ys;
  after_is = ap (λ xs. xs ++ ys) p.after_is
      ∙ (append_assoc p.front (node ++ p.behind) ys
      ∙ ap (λ xs. p.front ++ xs) (append_assoc node p.behind ys));
}

module _ (id step : ℕ) (slug : List ℕ) (body : Body) (below : Forest Body) where
  -- the page that is put in
  abbrev node : Forest Body
  node = grown id step slug body below bare

  -- a page before others
  ids-placed : (at : ℕ) (f : Forest Body) → ids_of (placed node at f) ≡ ids_of node ++ ids_of f
  ids-placed at f =
      ap (λ xs. id ∷ (xs ++ ids_of f)) (sym (append-nil (ids_of below)))

  -- siblings one step later have the same ids
  ids-raised : (f : Forest Body) → ids_of (raised f) ≡ ids_of f
  ids-raised bare = refl
  ids-raised (grown i s own b kids rest) =
      ap (λ xs. i ∷ (ids_of kids ++ xs)) (ids-raised rest)

  -- a page behind others
  ids-put_last : (before : ℕ) (f : Forest Body) →
      ids_of (put_last before node f) ≡ ids_of f ++ ids_of node
  ids-put_last before bare = ids-placed (before + 1) bare ∙ append-nil (ids_of node)
  ids-put_last before (grown i s own b kids rest) =
      ap (λ xs. i ∷ (ids_of kids ++ xs)) (ids-put_last s rest)
      ∙ ap (λ xs. i ∷ xs) (sym (append_assoc (ids_of kids) (ids_of rest) (ids_of node)))

  -- a page before a sibling
  parted-put_before : (sibling : ℕ) (f : Forest Body) → has_kid sibling f ≡ true →
      AreParted (ids_of f) (ids_of node) (ids_of (put_before sibling node f))
  parted-put_before sibling bare there = absurd cc
  parted-put_before sibling (grown i s own b kids rest) there =
      by (nat_eq i sibling) there (parted-put_before sibling rest)
    where
      by : (t : Bool) → t || has_kid sibling rest ≡ true →
          (has_kid sibling rest ≡ true →
          AreParted (ids_of rest) (ids_of node) (ids_of (put_before sibling node rest))) →
          AreParted (ids_of (grown i s own b kids rest)) (ids_of node)
          (ids_of (cond t (placed node s (raised (grown i s own b kids rest)))
          (grown i s own b kids (put_before sibling node rest))))
      by true there more = record {
        front = [];
        behind = ids_of (grown i s own b kids rest);
        whole_is = refl;
        after_is = ids-placed s (raised (grown i s own b kids rest))
            ∙ ap (λ xs. ids_of node ++ xs) (ids-raised (grown i s own b kids rest));
      }
      by false there more =
          parted_behind (i ∷ ids_of kids) (ids_of rest) (ids_of node)
          (ids_of (put_before sibling node rest)) (more there)

  -- a page among others
  parted-put : (place : Place) (f : Forest Body) → IsAmong place f →
      AreParted (ids_of f) (ids_of node) (ids_of (put place node f))
  parted-put First f among = record {
    front = [];
    behind = ids_of f;
    whole_is = refl;
    after_is = ids-placed 1 (raised f) ∙ ap (λ xs. ids_of node ++ xs) (ids-raised f);
  }
  parted-put (Before sibling) f among = parted-put_before sibling f among
  parted-put End f among = record {
    front = ids_of f;
    behind = [];
    whole_is = sym (append-nil (ids_of f));
    after_is = ids-put_last 0 f ∙ ap (λ xs. ids_of f ++ xs) (sym (append-nil (ids_of node)));
  }

  -- A graft puts the ids of a page and of all below it in at a place.
  pub parted-graft : (parent : ℕ) (place : Place) (f : Forest Body) → AreApart f →
      has_page parent f ≡ true → IsAmong place (kids_of parent f) →
      AreParted (ids_of f) (ids_of node) (ids_of (graft parent place node f))
  parted-graft parent place bare apart there among = absurd cc
  parted-graft parent place (grown i s own b kids rest) apart there among =
      by (nat_eq i parent) (has_page parent kids) refl there among
      (parted-graft parent place kids apart.1) (parted-graft parent place rest apart.2)
    where
      by : (here inside : Bool) → has_page parent kids ≡ inside →
          here || (inside || has_page parent rest) ≡ true →
          IsAmong place (cond here kids (or_else (kids_of parent kids) (kids_of parent rest))) →
          (has_page parent kids ≡ true → IsAmong place (kids_of parent kids) →
          AreParted (ids_of kids) (ids_of node) (ids_of (graft parent place node kids))) →
          (has_page parent rest ≡ true → IsAmong place (kids_of parent rest) →
          AreParted (ids_of rest) (ids_of node) (ids_of (graft parent place node rest))) →
          AreParted (ids_of (grown i s own b kids rest)) (ids_of node)
          (ids_of (cond here (grown i s own b (put place node kids) rest)
          (grown i s own b (graft parent place node kids) (graft parent place node rest))))
      by true inside k found among deeper later =
          parted_behind (i ∷ []) (ids_of kids ++ ids_of rest) (ids_of node) _
          (parted_before (ids_of kids) (ids_of node) _ (ids_of rest) (parted-put place kids among))
      by false true k found among deeper later =
          let lacks = lacks_after parent i kids rest apart.0.2 k in
          let none = kids_of-lacks parent rest lacks in
          let own_kids = subst (λ f. IsAmong place (or_else (kids_of parent kids) f)) none among in
          let alone = subst (λ f. IsAmong place f) (or_bare (kids_of parent kids)) own_kids in
          rw (graft-lacks parent place node rest lacks)
          (parted_behind (i ∷ []) (ids_of kids ++ ids_of rest) (ids_of node) _
          (parted_before (ids_of kids) (ids_of node) _ (ids_of rest) (deeper k alone)))
      by false false k found among deeper later =
          let lacks = lacks_below parent kids rest apart.0.2 found in
          let none = kids_of-lacks parent kids lacks in
          let alone = subst (λ f. IsAmong place (or_else f (kids_of parent rest))) none among in
          rw (graft-lacks parent place node kids lacks)
          (parted_behind (i ∷ ids_of kids) (ids_of rest) (ids_of node) _ (later found alone))

-- elements with n of them, from a place on, moved to a place of those that remain
abbrev pub window_moved : {X : Type 0} → ℕ → ℕ → ℕ → List X → List X
window_moved from n to xs =
    let rest = take from xs ++ drop (from + n) xs in
    take to rest ++ (take n (drop from xs) ++ drop to rest)

-- a function of elements of which some are moved
pub map-window_moved : {X Y : Type 0} (f : X → Y) (from n to : ℕ) (xs : List X) →
    map f (window_moved from n to xs) ≡ window_moved from n to (map f xs)
map-window_moved f from n to xs =
    let rest = take from xs ++ drop (from + n) xs in
    let rest_is : map f rest ≡ take from (map f xs) ++ drop (from + n) (map f xs) =
    map-append f (take from xs) (drop (from + n) xs)
    ∙ rw (take-map f from xs, drop-map f (from + n) xs) refl in
    map-append f (take to rest) (take n (drop from xs) ++ drop to rest)
    ∙ (ap (λ ys. map f (take to rest) ++ ys) (map-append f (take n (drop from xs)) (drop to rest))
    ∙ rw (
      sym (take-map f to rest),
      sym (drop-map f to rest),
      rest_is,
      sym (take-map f n (drop from xs)),
      sym (drop-map f from xs),
    ) refl)

-- what is moved to the place behind some of those that remain
pub window_moved-parted : (xs node front behind : List ℕ) (from n : ℕ) →
    take n (drop from xs) ≡ node → take from xs ++ drop (from + n) xs ≡ front ++ behind →
    window_moved from n (length front) xs ≡ front ++ (node ++ behind)
window_moved-parted xs node front behind from n own rest =
    rw (own, rest, take-append_seam front behind, drop-append_seam front behind) refl
