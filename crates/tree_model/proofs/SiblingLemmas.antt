-- What cuts and grafts do to the steps and the slugs of siblings, to heights and to URLs.
use Rattle.std.proofs.Common.{◌≡◌, ◌+◌, ◌≤◌, ℕ, Bool, true, false, cond, List, [], ◌∷◌, ◌++◌, Option, Some, None, nat_eq, refl, sym, arith}
use Rattle.std.specs.List.{AllByRecursion}
use Rattle.std.specs.Str.{bytes_eq}
use Rattle.std.proofs.lemmas.Slice.Eq.{bytes_eq-Decides}
use Rattle.page_tree.specs.Tree.{Forest, bare, grown, Place, First, Before, End, AreRising, or_else, node_of, without, kid_with_slug, last_step, raised, placed, put_last, put_before, put, graft}
use Rattle.page_tree.specs.Rows.{Row, rows_below, child_url}
use Rattle.page_tree.proofs.RootLemmas.{le-last_step}
use Rattle.tree_model.specs.Shape.{AreWithin, SlugsDiffer}
use Rattle.tree_model.proofs.CountLemmas.{either}
use Rattle.tree_model.proofs.PlaceLemmas.{AtParent, not_both}
pub use Rattle.page_tree.proofs.ListLemmas.{all_append, all_parts}

-- texts that differ one way round differ the other way round
pub other_text : (a b : List ℕ) → bytes_eq a b ≡ false → bytes_eq b a ≡ false
other_text a b differ = choice (bytes_eq b a) refl
  where
    choice : (t : Bool) → bytes_eq b a ≡ t → bytes_eq b a ≡ false
    choice false is = is
    choice true is =
        absurd (not_both (bytes_eq a b)
        ((bytes_eq-Decides a b).1 (sym ((bytes_eq-Decides b a).0 is))) differ)

-- where nothing is found neither the first fits nor a later one
pub later_free : {X : Type 0} (t : Bool) (x : X) (later : Option X) →
    cond t (Some x) later ≡ None → (t ≡ false) × (later ≡ None)
later_free true x later none = absurd (cc)
later_free false x later none = (refl, none)

module _ {Body : Type 0} where
  -- what rises from above a number rises from above a lower one
  AreRising-lower : (lower before : ℕ) (f : Forest Body) → lower ≤ before → AreRising before f →
      AreRising lower f
  AreRising-lower lower before bare below rising = tt
  AreRising-lower lower before (grown i s slug body kids rest) below rising =
      (omega (arith, rising.0), rising.1, rising.2)

  -- siblings one step later rise
  AreRising-raised : (before : ℕ) (f : Forest Body) → AreRising before f →
      AreRising (before + 1) (raised f)
  AreRising-raised before bare rising = tt
  AreRising-raised before (grown i s slug body kids rest) rising =
      (omega (arith, rising.0), rising.1, AreRising-raised s rest rising.2)

  -- what a cut leaves rises
  pub AreRising-without : (id before : ℕ) (f : Forest Body) → AreRising before f →
      AreRising before (without id f)
  AreRising-without id before bare rising = tt
  AreRising-without id before (grown i s slug body kids rest) rising =
      either (AreRising before) (nat_eq i id) _ _
      (AreRising-lower before s rest (omega (arith, rising.0)) rising.2)
      (rising.0, AreRising-without id 0 kids rising.1, AreRising-without id s rest rising.2)

  -- the first of two rises
  AreRising-or_else : (f g : Forest Body) → AreRising 0 f → AreRising 0 g →
      AreRising 0 (or_else f g)
  AreRising-or_else bare g p q = q
  AreRising-or_else (grown i s slug body kids rest) g p q = p

  -- the page that is cut out rises, and what is below it
  pub AreRising-node_of : (id before : ℕ) (f : Forest Body) → AreRising before f →
      AreRising 0 (node_of id f)
  AreRising-node_of id before bare rising = tt
  AreRising-node_of id before (grown i s slug body kids rest) rising =
      either (AreRising 0) (nat_eq i id) _ _ (omega (arith, rising.0), rising.1, tt)
      (AreRising-or_else _ _ (AreRising-node_of id 0 kids rising.1)
      (AreRising-node_of id s rest rising.2))

  -- no step that a cut leaves is above the last
  pub AreWithin-without : (last id : ℕ) (f : Forest Body) → AreWithin last f →
      AreWithin last (without id f)
  AreWithin-without last id bare all = tt
  AreWithin-without last id (grown i s slug body kids rest) all =
      either (AreWithin last) (nat_eq i id) _ _ all.2
      (all.0, AreWithin-without last id kids all.1, AreWithin-without last id rest all.2)

  -- no step of the first of two is above the last
  AreWithin-or_else : (last : ℕ) (f g : Forest Body) → AreWithin last f → AreWithin last g →
      AreWithin last (or_else f g)
  AreWithin-or_else last bare g p q = q
  AreWithin-or_else last (grown i s slug body kids rest) g p q = p

  -- no step of the page that is cut out is above the last
  pub AreWithin-node_of : (last id : ℕ) (f : Forest Body) → AreWithin last f →
      AreWithin last (node_of id f)
  AreWithin-node_of last id bare all = tt
  AreWithin-node_of last id (grown i s slug body kids rest) all =
      either (AreWithin last) (nat_eq i id) _ _ (all.0, all.1, tt)
      (AreWithin-or_else last _ _ (AreWithin-node_of last id kids all.1)
      (AreWithin-node_of last id rest all.2))

  -- siblings one step later, where there is a step behind the last of them
  AreWithin-raised : (last before : ℕ) (f : Forest Body) → AreRising before f →
      AreWithin last f → last_step before f + 1 ≤ last → AreWithin last (raised f)
  AreWithin-raised last before bare rising all room = tt
  AreWithin-raised last before (grown i s slug body kids rest) rising all room =
      let reaches = le-last_step s rest rising.2 in
      (omega (arith, reaches), all.1, AreWithin-raised last s rest rising.2 all.2 room)

  -- a slug that is free stays free in what a cut leaves
  pub free-without : (slug : List ℕ) (id : ℕ) (f : Forest Body) →
      kid_with_slug slug f ≡ None → kid_with_slug slug (without id f) ≡ None
  free-without slug id bare free = refl
  free-without slug id (grown i s own body kids rest) free =
      let none = later_free (bytes_eq own slug) i (kid_with_slug slug rest) free in
      either (λ f. kid_with_slug slug f ≡ None) (nat_eq i id) rest
      (grown i s own body (without id kids) (without id rest)) none.1
      (rw none.0 (free-without slug id rest none.1))

  -- the slugs of what a cut leaves differ
  pub SlugsDiffer-without : (id : ℕ) (f : Forest Body) → SlugsDiffer f →
      SlugsDiffer (without id f)
  SlugsDiffer-without id bare differ = tt
  SlugsDiffer-without id (grown i s own body kids rest) differ =
      either SlugsDiffer (nat_eq i id) _ _ differ.2 (
        free-without own id rest differ.0,
        SlugsDiffer-without id kids differ.1,
        SlugsDiffer-without id rest differ.2,
      )

  -- the slugs of the first of two differ
  SlugsDiffer-or_else : (f g : Forest Body) → SlugsDiffer f → SlugsDiffer g →
      SlugsDiffer (or_else f g)
  SlugsDiffer-or_else bare g p q = q
  SlugsDiffer-or_else (grown i s own body kids rest) g p q = p

  -- the slugs below the page that is cut out differ
  pub SlugsDiffer-node_of : (id : ℕ) (f : Forest Body) → SlugsDiffer f →
      SlugsDiffer (node_of id f)
  SlugsDiffer-node_of id bare differ = tt
  SlugsDiffer-node_of id (grown i s own body kids rest) differ =
      either SlugsDiffer (nat_eq i id) _ _ (refl, differ.1, tt)
      (SlugsDiffer-or_else _ _ (SlugsDiffer-node_of id kids differ.1)
      (SlugsDiffer-node_of id rest differ.2))

  -- siblings one step later have the same slugs
  free-raised : (slug : List ℕ) (f : Forest Body) →
      kid_with_slug slug (raised f) ≡ kid_with_slug slug f
  free-raised slug bare = refl
  free-raised slug (grown i s own body kids rest) = rw (free-raised slug rest) refl

  -- the slugs of siblings one step later differ
  SlugsDiffer-raised : (f : Forest Body) → SlugsDiffer f → SlugsDiffer (raised f)
  SlugsDiffer-raised bare differ = tt
  SlugsDiffer-raised (grown i s own body kids rest) differ =
      (rw (free-raised own rest) differ.0, differ.1, SlugsDiffer-raised rest differ.2)

  module _ (n step : ℕ) (new : List ℕ) (body : Body) (below : Forest Body) where
    -- the page that is put in
    abbrev node : Forest Body
    node = grown n step new body below bare

    -- steps with one more at the end rise
    AreRising-put_last : (before : ℕ) (f : Forest Body) → AreRising 0 below →
        AreRising before f → AreRising before (put_last before node f)
    AreRising-put_last before bare own rising = (omega arith, own, tt)
    AreRising-put_last before (grown i s slug b kids rest) own rising =
        (rising.0, rising.1, AreRising-put_last s rest own rising.2)

    -- steps with one more before a sibling rise
    AreRising-put_before : (before sibling : ℕ) (f : Forest Body) → AreRising 0 below →
        AreRising before f → AreRising before (put_before sibling node f)
    AreRising-put_before before sibling bare own rising = tt
    AreRising-put_before before sibling (grown i s slug b kids rest) own rising =
        either (AreRising before) (nat_eq i sibling) _ _
        (rising.0, own, (omega arith, rising.1, AreRising-raised s rest rising.2))
        (rising.0, rising.1, AreRising-put_before s sibling rest own rising.2)

    -- steps with one more rise
    AreRising-put : (place : Place) (f : Forest Body) → AreRising 0 below → AreRising 0 f →
        AreRising 0 (put place node f)
    AreRising-put First f own rising = (omega arith, own, AreRising-raised 0 f rising)
    AreRising-put (Before sibling) f own rising = AreRising-put_before 0 sibling f own rising
    AreRising-put End f own rising = AreRising-put_last 0 f own rising

    -- steps with one more below its parent rise
    pub AreRising-graft : (p before : ℕ) (place : Place) (f : Forest Body) →
        AreRising 0 below → AreRising before f → AreRising before (graft p place node f)
    AreRising-graft p before place bare own rising = tt
    AreRising-graft p before place (grown i s slug b kids rest) own rising =
        either (AreRising before) (nat_eq i p) _ _
        (rising.0, AreRising-put place kids own rising.1, rising.2) (
          rising.0,
          AreRising-graft p 0 place kids own rising.1,
          AreRising-graft p s place rest own rising.2,
        )

    -- no step is above the last with one more at the end
    AreWithin-put_last : (last before : ℕ) (f : Forest Body) → AreWithin last below →
        AreWithin last f → last_step before f + 1 ≤ last →
        AreWithin last (put_last before node f)
    AreWithin-put_last last before bare own all room = (room, own, tt)
    AreWithin-put_last last before (grown i s slug b kids rest) own all room =
        (all.0, all.1, AreWithin-put_last last s rest own all.2 room)

    -- no step is above the last with one more before a sibling
    AreWithin-put_before : (last before sibling : ℕ) (f : Forest Body) → AreWithin last below →
        AreRising before f → AreWithin last f → last_step before f + 1 ≤ last →
        AreWithin last (put_before sibling node f)
    AreWithin-put_before last before sibling bare own rising all room = tt
    AreWithin-put_before last before sibling (grown i s slug b kids rest) own rising all room =
        either (AreWithin last) (nat_eq i sibling) _ _
        (all.0, own, AreWithin-raised last before (grown i s slug b kids rest) rising all room)
        (all.0, all.1, AreWithin-put_before last s sibling rest own rising.2 all.2 room)

    -- no step is above the last with one more
    AreWithin-put : (last : ℕ) (place : Place) (f : Forest Body) → AreWithin last below →
        AreRising 0 f → AreWithin last f → last_step 0 f + 1 ≤ last →
        AreWithin last (put place node f)
    AreWithin-put last First f own rising all room =
        (omega arith, own, AreWithin-raised last 0 f rising all room)
    AreWithin-put last (Before sibling) f own rising all room =
        AreWithin-put_before last 0 sibling f own rising all room
    AreWithin-put last End f own rising all room = AreWithin-put_last last 0 f own all room

    -- no step is above the last with one more below its parent
    pub AreWithin-graft : (last p before : ℕ) (place : Place) (f : Forest Body) →
        AreWithin last below → AreRising before f → AreWithin last f →
        AtParent p (λ kids. last_step 0 kids + 1 ≤ last) f →
        AreWithin last (graft p place node f)
    AreWithin-graft last p before place bare own rising all room = tt
    AreWithin-graft last p before place (grown i s slug b kids rest) own rising all room =
        choice (nat_eq i p) refl
        (AreWithin-graft last p 0 place kids own rising.1 all.1 room.1)
        (AreWithin-graft last p s place rest own rising.2 all.2 room.2)
      where
        choice : (t : Bool) → nat_eq i p ≡ t → AreWithin last (graft p place node kids) →
            AreWithin last (graft p place node rest) → AreWithin last (cond t
            (grown i s slug b (put place node kids) rest)
            (grown i s slug b (graft p place node kids) (graft p place node rest)))
        choice true is in_kids in_rest = (
          all.0,
          AreWithin-put last place kids own rising.1 all.1 (room.0 is),
          all.2,
        )
        choice false is in_kids in_rest = (all.0, in_kids, in_rest)

    -- another slug stays free with one more at the end
    free-put_last : (slug : List ℕ) (before : ℕ) (f : Forest Body) → bytes_eq new slug ≡ false →
        kid_with_slug slug f ≡ None → kid_with_slug slug (put_last before node f) ≡ None
    free-put_last slug before bare other free = rw other refl
    free-put_last slug before (grown i s own b kids rest) other free =
        let none = later_free (bytes_eq own slug) i (kid_with_slug slug rest) free in
        rw none.0 (free-put_last slug s rest other none.1)

    -- another slug stays free with one more before a sibling
    free-put_before : (slug : List ℕ) (sibling : ℕ) (f : Forest Body) →
        bytes_eq new slug ≡ false → kid_with_slug slug f ≡ None →
        kid_with_slug slug (put_before sibling node f) ≡ None
    free-put_before slug sibling bare other free = refl
    free-put_before slug sibling (grown i s own b kids rest) other free =
        let none = later_free (bytes_eq own slug) i (kid_with_slug slug rest) free in
        either (λ f. kid_with_slug slug f ≡ None) (nat_eq i sibling)
        (placed node s (raised (grown i s own b kids rest)))
        (grown i s own b kids (put_before sibling node rest))
        (rw (other, none.0, free-raised slug rest) none.1)
        (rw none.0 (free-put_before slug sibling rest other none.1))

    -- slugs with a free one more at the end differ
    SlugsDiffer-put_last : (before : ℕ) (f : Forest Body) → SlugsDiffer below →
        kid_with_slug new f ≡ None → SlugsDiffer f → SlugsDiffer (put_last before node f)
    SlugsDiffer-put_last before bare own free differ = (refl, own, tt)
    SlugsDiffer-put_last before (grown i s slug b kids rest) own free differ =
        let none = later_free (bytes_eq slug new) i (kid_with_slug new rest) free in (
          free-put_last slug s rest (other_text slug new none.0) differ.0,
          differ.1,
          SlugsDiffer-put_last s rest own none.1 differ.2,
        )

    -- slugs with a free one more before a sibling differ
    SlugsDiffer-put_before : (sibling : ℕ) (f : Forest Body) → SlugsDiffer below →
        kid_with_slug new f ≡ None → SlugsDiffer f → SlugsDiffer (put_before sibling node f)
    SlugsDiffer-put_before sibling bare own free differ = tt
    SlugsDiffer-put_before sibling (grown i s slug b kids rest) own free differ =
        let none = later_free (bytes_eq slug new) i (kid_with_slug new rest) free in
        either SlugsDiffer (nat_eq i sibling)
        (placed node s (raised (grown i s slug b kids rest)))
        (grown i s slug b kids (put_before sibling node rest)) (
          rw (free-raised new rest) free,
          own,
          SlugsDiffer-raised (grown i s slug b kids rest) differ,
        ) (
          free-put_before slug sibling rest (other_text slug new none.0) differ.0,
          differ.1,
          SlugsDiffer-put_before sibling rest own none.1 differ.2,
        )

    -- slugs with a free one more differ
    SlugsDiffer-put : (place : Place) (f : Forest Body) → SlugsDiffer below →
        kid_with_slug new f ≡ None → SlugsDiffer f → SlugsDiffer (put place node f)
    SlugsDiffer-put First f own free differ =
        (rw (free-raised new f) free, own, SlugsDiffer-raised f differ)
    SlugsDiffer-put (Before sibling) f own free differ =
        SlugsDiffer-put_before sibling f own free differ
    SlugsDiffer-put End f own free differ = SlugsDiffer-put_last 0 f own free differ

    -- a graft below changes no slug of siblings
    free-graft : (slug : List ℕ) (p : ℕ) (place : Place) (f : Forest Body) →
        kid_with_slug slug f ≡ None → kid_with_slug slug (graft p place node f) ≡ None
    free-graft slug p place bare free = refl
    free-graft slug p place (grown i s own b kids rest) free =
        let none = later_free (bytes_eq own slug) i (kid_with_slug slug rest) free in
        either (λ f. kid_with_slug slug f ≡ None) (nat_eq i p)
        (grown i s own b (put place node kids) rest)
        (grown i s own b (graft p place node kids) (graft p place node rest)) free
        (rw none.0 (free-graft slug p place rest none.1))

    -- slugs with one more below its parent, where it is free, differ
    pub SlugsDiffer-graft : (p : ℕ) (place : Place) (f : Forest Body) → SlugsDiffer below →
        AtParent p (λ kids. kid_with_slug new kids ≡ None) f → SlugsDiffer f →
        SlugsDiffer (graft p place node f)
    SlugsDiffer-graft p place bare own free differ = tt
    SlugsDiffer-graft p place (grown i s slug b kids rest) own free differ =
        choice (nat_eq i p) refl (free-graft slug p place rest differ.0)
        (SlugsDiffer-graft p place kids own free.1 differ.1)
        (SlugsDiffer-graft p place rest own free.2 differ.2)
      where
        choice : (t : Bool) → nat_eq i p ≡ t →
            kid_with_slug slug (graft p place node rest) ≡ None →
            SlugsDiffer (graft p place node kids) → SlugsDiffer (graft p place node rest) →
            SlugsDiffer (cond t
            (grown i s slug b (put place node kids) rest)
            (grown i s slug b (graft p place node kids) (graft p place node rest)))
        choice true is apart in_kids in_rest =
            (differ.0, SlugsDiffer-put place kids own (free.0 is) differ.1, differ.2)
        choice false is apart in_kids in_rest = (apart, in_kids, in_rest)

  -- what holds of the URL of each page holds of each that a cut leaves
  pub urls-without : (P : List ℕ → Type 0) (id : ℕ) (q : Option ℕ) (path url : List ℕ)
      (f : Forest Body) →
      AllByRecursion (λ (row : Row Body). P row.url) (rows_below q path url f) →
      AllByRecursion (λ (row : Row Body). P row.url) (rows_below q path url (without id f))
  urls-without P id q path url bare all = tt
  urls-without P id q path url (grown i s slug body kids rest) all =
      let parts = all_parts _ (rows_below (Some i) (path ++ s ∷ []) (child_url url slug) kids)
      (rows_below q path url rest) all.1 in
      either
      (λ f. AllByRecursion (λ (row : Row Body). P row.url) (rows_below q path url f))
      (nat_eq i id) rest (grown i s slug body (without id kids) (without id rest)) parts.1 (
        all.0,
        all_append _ _ _
            (urls-without P id (Some i) (path ++ s ∷ []) (child_url url slug) kids parts.0)
            (urls-without P id q path url rest parts.1),
      )
