-- The way from the root to a page and what is kept of it, and what changes of a tree do to that.
use Rattle.std.proofs.Common.{◌≡◌, ◌+◌, ◌≤◌, ℕ, Bool, true, false, cond, nat_eq, List, [], ◌∷◌, map, Option, Some, None, inl, inr, refl, sym, ap, ◌∙◌, arith}
use Rattle.std.specs.List.{list_any}
use Rattle.page_tree.specs.Tree.{Forest, bare, grown, Place, First, Before, End, or_else, node_of, without, raised, placed, put_last, put_before, put, graft}
use Rattle.page_tree.specs.Walk.{Visit, walk, first_walk, extended, kid_count}
use Rattle.tree_model.specs.Renames.{renamed}
use Rattle.tree_model.proofs.CountLemmas.{one, count, none_or_some, not_first, either, id_found, same_id, node_absent, cut_counts}
use Rattle.site_model.specs.Bodies.{rebodied}

-- one value is not the other
pub both_values : true ≡ false → ⊥
both_values e = cc

-- a function of one of two values
pub map_cond : {X Y : Type 0} (f : X → Y) (t : Bool) (x y : X) →
    f (cond t x y) ≡ cond t (f x) (f y)
map_cond f true x y = refl
map_cond f false x y = refl

module _ {Kept : Type 0} where
  -- one page more at the top of a way
  abbrev pub led : ℕ → Option (List ℕ × Kept) → Option (List ℕ × Kept)
  led i None = None
  led i (Some way) = Some (i ∷ way.0, way.1)

  -- the first of two ways, or the second where there is no first
  abbrev pub first_way : Option (List ℕ × Kept) → Option (List ℕ × Kept) → Option (List ℕ × Kept)
  first_way None other = other
  first_way (Some way) other = Some way

  -- the pages from the root to a page, and what is kept of it
  abbrev pub way_to : ℕ → Forest Kept → Option (List ℕ × Kept)
  way_to page bare = None
  way_to page (grown i s slug body kids rest) =
      cond (nat_eq i page) (Some (i ∷ [], body))
      (first_way (led i (way_to page kids)) (way_to page rest))

  -- the pages on a way
  abbrev pub ids_on : Option (List ℕ × Kept) → List ℕ
  ids_on None = []
  ids_on (Some way) = way.0

  -- whether a way leads over a page
  abbrev pub passes : ℕ → Option (List ℕ × Kept) → Bool
  passes id way = list_any (λ (one : ℕ). nat_eq one id) (ids_on way)

  -- what is kept of the last page of a walk
  abbrev pub last_body : Visit Kept → List (Visit Kept) → Kept
  last_body visit [] = visit.body
  last_body visit (next ∷ visits) = last_body next visits

  -- the way that a walk goes
  abbrev pub way_of : List (Visit Kept) → Option (List ℕ × Kept)
  way_of [] = None
  way_of (visit ∷ visits) =
      Some (map (λ (one : Visit Kept). one.id) (visit ∷ visits), last_body visit visits)

  -- the first of two walks goes the first way
  way_of-first : (a b : List (Visit Kept)) → way_of (first_walk a b) ≡ first_way (way_of a) (way_of b)
  way_of-first [] b = refl
  way_of-first (visit ∷ visits) b = refl

  -- a longer walk goes the longer way
  way_of-extended : (here : Visit Kept) (visits : List (Visit Kept)) →
      way_of (extended here visits) ≡ led here.id (way_of visits)
  way_of-extended here [] = refl
  way_of-extended here (visit ∷ visits) = refl

  -- the walk to a page goes its way
  pub walk_goes : (page : ℕ) (f : Forest Kept) → way_of (walk page f) ≡ way_to page f
  walk_goes page bare = refl
  walk_goes page (grown i s slug body kids rest) =
      let here : Visit Kept =
      record { id = i; step = s; slug = slug; body = body; numchild = kid_count kids } in
      map_cond (λ (visits : List (Visit Kept)). way_of visits) (nat_eq i page) (here ∷ [])
      (first_walk (extended here (walk page kids)) (walk page rest))
      ∙ ap (λ (way : Option (List ℕ × Kept)). cond (nat_eq i page) (Some (i ∷ [], body)) way)
      (way_of-first (extended here (walk page kids)) (walk page rest)
      ∙ rw (way_of-extended here (walk page kids), walk_goes page kids, walk_goes page rest) refl)

  -- the pages on a walk
  ids_of_walk : (visits : List (Visit Kept)) →
      map (λ (one : Visit Kept). one.id) visits ≡ ids_on (way_of visits)
  ids_of_walk [] = refl
  ids_of_walk (visit ∷ visits) = refl

  -- the pages on the walk to a page
  pub walked_ids : (page : ℕ) (f : Forest Kept) →
      map (λ (one : Visit Kept). one.id) (walk page f) ≡ ids_on (way_to page f)
  walked_ids page f =
      ids_of_walk (walk page f) ∙ ap (λ (way : Option (List ℕ × Kept)). ids_on way) (walk_goes page f)

  -- no way leads to a page that does not stand there
  pub way-absent : (page : ℕ) (f : Forest Kept) → count page f ≡ 0 → way_to page f ≡ None
  way-absent page bare none = refl
  way-absent page (grown i s slug body kids rest) none =
      let differs = not_first page i (count page kids + count page rest) none in
      rw (
        differs,
        way-absent page kids (omega (arith, none)),
        way-absent page rest (omega (arith, none)),
      ) refl

  -- where no way leads the page does not stand there
  pub way-missing : (page : ℕ) (f : Forest Kept) → way_to page f ≡ None → count page f ≡ 0
  way-missing page bare none = refl
  way-missing page (grown i s slug body kids rest) none =
      choice (nat_eq i page) (way_to page kids) (way_to page rest) (count page kids)
      (count page rest) (way-missing page kids) (way-missing page rest) none
    where
      choice : (here : Bool) (below after : Option (List ℕ × Kept)) (k r : ℕ) →
          (below ≡ None → k ≡ 0) → (after ≡ None → r ≡ 0) →
          cond here (Some (i ∷ [], body)) (first_way (led i below) after) ≡ None →
          one here + (k + r) ≡ 0
      choice true below after k r in_kids in_rest is = absurd (cc)
      choice false (Some way) after k r in_kids in_rest is = absurd (cc)
      choice false None after k r in_kids in_rest is =
          let no_kid = in_kids refl in
          let no_other = in_rest is in omega (arith, no_kid, no_other)

  -- a page on a way stands there
  pub passes_counts : (page id : ℕ) (f : Forest Kept) → passes id (way_to page f) ≡ true →
      1 ≤ count id f
  passes_counts page id bare is = absurd (cc)
  passes_counts page id (grown i s slug body kids rest) is =
      choice (nat_eq i page) (nat_eq i id) refl (way_to page kids) (way_to page rest)
      (count id kids) (count id rest) (passes_counts page id kids) (passes_counts page id rest) is
    where
      choice : (here same : Bool) → nat_eq i id ≡ same →
          (below after : Option (List ℕ × Kept)) (k r : ℕ) →
          (passes id below ≡ true → 1 ≤ k) → (passes id after ≡ true → 1 ≤ r) →
          passes id (cond here (Some (i ∷ [], body)) (first_way (led i below) after)) ≡ true →
          1 ≤ one same + (k + r)
      choice here true at below after k r in_kids in_rest is = omega arith
      choice true false at below after k r in_kids in_rest is =
          absurd (both_values (sym (rw at at is)))
      choice false false at None after k r in_kids in_rest is =
          let some = in_rest is in omega (arith, some)
      choice false false at (Some way) after k r in_kids in_rest is =
          let some = in_kids (rw at at is) in omega (arith, some)

  -- A cut leaves the way to a page that does not lie below it.
  pub way-without : (page id : ℕ) (f : Forest Kept) → passes id (way_to page f) ≡ false →
      way_to page (without id f) ≡ way_to page f
  way-without page id bare free = refl
  way-without page id (grown i s slug body kids rest) free =
      map_cond (λ (f : Forest Kept). way_to page f) (nat_eq i id) rest
      (grown i s slug body (without id kids) (without id rest))
      ∙ choice (nat_eq i page) (nat_eq i id) refl (way_to page kids) (way_to page rest)
      (way_to page (without id kids)) (way_to page (without id rest))
      (way-without page id kids) (way-without page id rest) free
    where
      choice : (here cut : Bool) → nat_eq i id ≡ cut →
          (below after kept left : Option (List ℕ × Kept)) →
          (passes id below ≡ false → kept ≡ below) → (passes id after ≡ false → left ≡ after) →
          passes id (cond here (Some (i ∷ [], body)) (first_way (led i below) after)) ≡ false →
          cond cut after (cond here (Some (i ∷ [], body)) (first_way (led i kept) left))
          ≡ cond here (Some (i ∷ [], body)) (first_way (led i below) after)
      choice true true at below after kept left in_kids in_rest free =
          absurd (both_values (rw at at free))
      choice true false at below after kept left in_kids in_rest free = refl
      choice false true at None after kept left in_kids in_rest free = refl
      choice false true at (Some way) after kept left in_kids in_rest free =
          absurd (both_values (rw at at free))
      choice false false at None after kept left in_kids in_rest free =
          rw (in_kids refl, in_rest free) refl
      choice false false at (Some way) after kept left in_kids in_rest free =
          rw (in_kids (rw at at free)) refl

  -- No way leads to a page in a cut page that it does not lie below.
  pub way-cut : (page id : ℕ) (f : Forest Kept) → count id f ≤ 1 → count page f ≤ 1 →
      passes id (way_to page f) ≡ false → way_to page (node_of id f) ≡ None
  way-cut page id f once most free =
      let parts = cut_counts id page f once in
      way-absent page (node_of id f) (elim (none_or_some (count page (without id f))) [
        | inl none ↦
            let gone = way-missing page f
            (sym (way-without page id f free) ∙ way-absent page (without id f) none) in
            omega (arith, parts, gone)
        | inr some ↦ omega (arith, parts, some, most)
      ])

  -- what stands in the first of two stands in the first that there is
  first_counts : (page : ℕ) (f g : Forest Kept) → 1 ≤ count page f → 1 ≤ count page (or_else f g)
  first_counts page bare g some = let never : ⊥ = omega (arith, some) in absurd never
  first_counts page (grown i s slug body kids rest) g some = some

  -- A page below a cut page is cut out with it.
  pub cut_within : (page id : ℕ) (f : Forest Kept) → count id f ≤ 1 →
      passes id (way_to page f) ≡ true → 1 ≤ count page (node_of id f)
  cut_within page id bare once is = absurd (cc)
  cut_within page id (grown i s slug body kids rest) once is =
      choice (nat_eq i page) refl (nat_eq i id) refl (way_to page kids) refl once
      (cut_within page id kids) (cut_within page id rest) is
    where
      choice : (here : Bool) → nat_eq i page ≡ here → (cut : Bool) → nat_eq i id ≡ cut →
          (below : Option (List ℕ × Kept)) → way_to page kids ≡ below →
          one cut + (count id kids + count id rest) ≤ 1 →
          (count id kids ≤ 1 → passes id (way_to page kids) ≡ true →
          1 ≤ count page (node_of id kids)) →
          (count id rest ≤ 1 → passes id (way_to page rest) ≡ true →
          1 ≤ count page (node_of id rest)) →
          passes id (cond here (Some (i ∷ [], body)) (first_way (led i below) (way_to page rest)))
          ≡ true →
          1 ≤ count page (cond cut (grown i s slug body kids bare)
          (or_else (node_of id kids) (node_of id rest)))
      choice true at true same below found once in_kids in_rest is = rw at (omega arith)
      choice true at false same below found once in_kids in_rest is =
          absurd (both_values (sym (rw same at is)))
      choice false at true same None found once in_kids in_rest is =
          let other = passes_counts page id rest is in
          let never : ⊥ = omega (arith, once, other) in absurd never
      choice false at true same (Some way) found once in_kids in_rest is =
          elim (none_or_some (count page kids)) [
            | inl none ↦ absurd (nothing way (sym (way-absent page kids none) ∙ found))
            | inr some ↦ rw at (omega (arith, some))
          ]
        where
          nothing : (way : List ℕ × Kept) → ◌≡◌ {A = Option (List ℕ × Kept)} None (Some way) → ⊥
          nothing way e = cc
      choice false at false same None found once in_kids in_rest is =
          let other = passes_counts page id rest is in
          let none : count id kids ≡ 0 = omega (arith, once, other) in
          rw (node_absent id kids none) (in_rest (omega (arith, once)) is)
      choice false at false same (Some way) found once in_kids in_rest is =
          first_counts page (node_of id kids) (node_of id rest)
          (in_kids (omega (arith, once)) (rw found (rw same at is)))

  -- a page alone that the way does not lead into, before others
  way-placed : (page : ℕ) (node : Forest Kept) (at : ℕ) (rest : Forest Kept) →
      way_to page node ≡ None → way_to page (placed node at rest) ≡ way_to page rest
  way-placed page bare at rest none = refl
  way-placed page (grown i s slug body kids others) at rest none =
      choice (nat_eq i page) (way_to page kids) (way_to page others) (way_to page rest) none
    where
      choice : (here : Bool) (below after left : Option (List ℕ × Kept)) →
          cond here (Some (i ∷ [], body)) (first_way (led i below) after) ≡ None →
          cond here (Some (i ∷ [], body)) (first_way (led i below) left) ≡ left
      choice true below after left is = absurd (cc)
      choice false None after left is = refl
      choice false (Some way) after left is = absurd (cc)

  -- later steps change no way
  pub way-raised : (page : ℕ) (f : Forest Kept) → way_to page (raised f) ≡ way_to page f
  way-raised page bare = refl
  way-raised page (grown i s slug body kids rest) = rw (way-raised page rest) refl

  -- a page at the end of others changes no way but its own
  way-put_last : (page before : ℕ) (node f : Forest Kept) → way_to page node ≡ None →
      way_to page (put_last before node f) ≡ way_to page f
  way-put_last page before node bare none = way-placed page node (before + 1) bare none
  way-put_last page before node (grown i s slug body kids rest) none =
      rw (way-put_last page s node rest none) refl

  -- nor does one before another
  way-put_before : (page sibling : ℕ) (node f : Forest Kept) → way_to page node ≡ None →
      way_to page (put_before sibling node f) ≡ way_to page f
  way-put_before page sibling node bare none = refl
  way-put_before page sibling node (grown i s slug body kids rest) none =
      either (λ g. way_to page g ≡ way_to page (grown i s slug body kids rest)) (nat_eq i sibling)
      (placed node s (raised (grown i s slug body kids rest)))
      (grown i s slug body kids (put_before sibling node rest))
      (way-placed page node s (raised (grown i s slug body kids rest)) none
      ∙ way-raised page (grown i s slug body kids rest))
      (rw (way-put_before page sibling node rest none) refl)

  -- a page in its place changes no way but its own
  way-put : (page : ℕ) (place : Place) (node f : Forest Kept) → way_to page node ≡ None →
      way_to page (put place node f) ≡ way_to page f
  way-put page First node f none =
      way-placed page node 1 (raised f) none ∙ way-raised page f
  way-put page (Before sibling) node f none = way-put_before page sibling node f none
  way-put page End node f none = way-put_last page 0 node f none

  -- A graft leaves the way to a page that is not grafted in.
  pub way-graft : (page parent : ℕ) (place : Place) (node f : Forest Kept) →
      way_to page node ≡ None → way_to page (graft parent place node f) ≡ way_to page f
  way-graft page parent place node bare none = refl
  way-graft page parent place node (grown i s slug body kids rest) none =
      either (λ g. way_to page g ≡ way_to page (grown i s slug body kids rest)) (nat_eq i parent)
      (grown i s slug body (put place node kids) rest)
      (grown i s slug body (graft parent place node kids) (graft parent place node rest))
      (rw (way-put page place node kids none) refl)
      (rw (way-graft page parent place node kids none, way-graft page parent place node rest none)
      refl)

  -- Another slug changes no way.
  pub way-renamed : (page id : ℕ) (new : List ℕ) (f : Forest Kept) →
      way_to page (renamed id new f) ≡ way_to page f
  way-renamed page id new bare = refl
  way-renamed page id new (grown i s slug body kids rest) =
      either (λ g. way_to page g ≡ way_to page (grown i s slug body kids rest)) (nat_eq i id)
      (grown i s new body kids rest)
      (grown i s slug body (renamed id new kids) (renamed id new rest)) refl
      (rw (way-renamed page id new kids, way-renamed page id new rest) refl)

  -- what is kept of the page changes, where a test holds
  abbrev pub way_changed : Bool → (Kept → Kept) → Option (List ℕ × Kept) → Option (List ℕ × Kept)
  way_changed own change None = None
  way_changed own change (Some way) = Some (way.0, cond own (change way.1) way.1)

  -- nothing changes where the test fails
  pub way_unchanged : (change : Kept → Kept) (way : Option (List ℕ × Kept)) →
      way_changed false change way ≡ way
  way_unchanged change None = refl
  way_unchanged change (Some way) = refl

  -- Another body of a page changes no way, and of one page alone what is kept.
  pub way-rebodied : (page id : ℕ) (change : Kept → Kept) (f : Forest Kept) →
      way_to page (rebodied id change f) ≡ way_changed (nat_eq page id) change (way_to page f)
  way-rebodied page id change bare = refl
  way-rebodied page id change (grown i s slug body kids rest) =
      map_cond (λ (f : Forest Kept). way_to page f) (nat_eq i id)
      (grown i s slug (change body) kids rest)
      (grown i s slug body (rebodied id change kids) (rebodied id change rest))
      ∙ choice (nat_eq i page) refl (nat_eq i id) refl (way_to page kids) (way_to page rest)
      (way_to page (rebodied id change kids)) (way_to page (rebodied id change rest))
      (way-rebodied page id change kids) (way-rebodied page id change rest)
    where
      here_is : (cut : Bool) → nat_eq i page ≡ true → nat_eq i id ≡ cut → nat_eq page id ≡ cut
      here_is cut at same = rw (← id_found i page at) same

      not_here : nat_eq i page ≡ false → nat_eq i id ≡ true → nat_eq page id ≡ false
      not_here at same = told (nat_eq page id) refl
        where
          told : (t : Bool) → nat_eq page id ≡ t → nat_eq page id ≡ false
          told false is = is
          told true is =
              let e = id_found i id same ∙ sym (id_found page id is) in
              absurd (both_values (sym (same_id page) ∙ (rw e at at)))

      choice : (here : Bool) → nat_eq i page ≡ here → (cut : Bool) → nat_eq i id ≡ cut →
          (below after kept left : Option (List ℕ × Kept)) →
          kept ≡ way_changed (nat_eq page id) change below →
          left ≡ way_changed (nat_eq page id) change after →
          cond cut (cond here (Some (i ∷ [], change body)) (first_way (led i below) after))
          (cond here (Some (i ∷ [], body)) (first_way (led i kept) left))
          ≡ way_changed (nat_eq page id) change
          (cond here (Some (i ∷ [], body)) (first_way (led i below) after))
      choice true at true same below after kept left in_kids in_rest =
          rw (here_is true at same) refl
      choice true at false same below after kept left in_kids in_rest =
          rw (here_is false at same) refl
      choice false at true same below after kept left in_kids in_rest =
          rw (not_here at same) (sym (way_unchanged change (first_way (led i below) after)))
      choice false at false same None after kept left in_kids in_rest =
          rw (in_kids, in_rest) refl
      choice false at false same (Some way) after kept left in_kids in_rest =
          rw in_kids refl
