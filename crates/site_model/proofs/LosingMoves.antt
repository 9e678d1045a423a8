-- The way to a page that was moved: that to the new parent, and then on from the moved page.
use Rattle.std.proofs.Common.{◌≡◌, ◌+◌, ◌≤◌, ℕ, Bool, true, false, cond, ◌||◌, nat_eq, List, [], ◌∷◌, ◌++◌, Option, Some, None, inl, inr, refl, sym, ap, ◌∙◌, arith}
use Rattle.page_tree.specs.Tree.{Forest, bare, grown, Place, First, Before, End, or_else, node_of, raised, placed, put_last, put_before, put, graft}
use Rattle.tree_model.proofs.CountLemmas.{one, count, none_or_some, not_first, node_absent}
use Rattle.tree_model.proofs.PlaceLemmas.{IsAmong, AtParent, has_kid, graft_absent}
use Rattle.site_model.specs.LosingLaws.{from_page}
use Rattle.site_model.proofs.LosingTrees.{both_values, led, first_way, way_to, passes, map_cond, way-absent, way-missing, passes_counts, way-raised}

module _ {Kept : Type 0} where
  -- one way, and then another on from its end
  abbrev pub joined : Option (List ℕ × Kept) → Option (List ℕ × Kept) → Option (List ℕ × Kept)
  joined None more = None
  joined (Some way) None = None
  joined (Some way) (Some more) = Some (way.0 ++ more.0, more.1)

  -- a way from that page on
  abbrev pub cut_way : ℕ → Option (List ℕ × Kept) → Option (List ℕ × Kept)
  cut_way page None = None
  cut_way page (Some way) = Some (from_page page way.0, way.1)

  -- a longer way goes on as the shorter one
  led_joined : (i : ℕ) (way more : Option (List ℕ × Kept)) →
      joined (led i way) more ≡ led i (joined way more)
  led_joined i None more = refl
  led_joined i (Some way) None = refl
  led_joined i (Some way) (Some more) = refl

  -- the way in the first of two is the way in the first that there is
  way_first : (page : ℕ) (f g : Forest Kept) (way : List ℕ × Kept) → way_to page f ≡ Some way →
      way_to page (or_else f g) ≡ Some way
  way_first page bare g way is = absurd (cc)
  way_first page (grown i s slug body kids rest) g way is = is

  -- The way to a page in a cut page is the way there from the cut page on.
  pub way-node : (page id : ℕ) (f : Forest Kept) → count id f ≤ 1 →
      passes id (way_to page f) ≡ true → way_to page (node_of id f) ≡ cut_way id (way_to page f)
  way-node page id bare once is = absurd (cc)
  way-node page id (grown i s slug body kids rest) once is =
      choice (nat_eq i page) refl (nat_eq i id) refl (way_to page kids) refl once
      (way-node page id kids) (way-node page id rest) is
    where
      choice : (here : Bool) → nat_eq i page ≡ here → (cut : Bool) → nat_eq i id ≡ cut →
          (below : Option (List ℕ × Kept)) → way_to page kids ≡ below →
          one cut + (count id kids + count id rest) ≤ 1 →
          (count id kids ≤ 1 → passes id (way_to page kids) ≡ true →
          way_to page (node_of id kids) ≡ cut_way id (way_to page kids)) →
          (count id rest ≤ 1 → passes id (way_to page rest) ≡ true →
          way_to page (node_of id rest) ≡ cut_way id (way_to page rest)) →
          passes id (cond here (Some (i ∷ [], body)) (first_way (led i below) (way_to page rest)))
          ≡ true →
          way_to page (cond cut (grown i s slug body kids bare)
          (or_else (node_of id kids) (node_of id rest)))
          ≡ cut_way id
          (cond here (Some (i ∷ [], body)) (first_way (led i below) (way_to page rest)))
      choice true at true same below found once in_kids in_rest is = rw (at, same) refl
      choice true at false same below found once in_kids in_rest is =
          absurd (both_values (sym (rw same at is)))
      choice false at true same None found once in_kids in_rest is =
          let other = passes_counts page id rest is in
          let never : ⊥ = omega (arith, once, other) in absurd never
      choice false at true same (Some way) found once in_kids in_rest is =
          rw (at, found, same) refl
      choice false at false same None found once in_kids in_rest is =
          let other = passes_counts page id rest is in
          let none : count id kids ≡ 0 = omega (arith, once, other) in
          rw (node_absent id kids none) (in_rest (omega (arith, once)) is)
      choice false at false same (Some way) found once in_kids in_rest is =
          rw same (way_first page (node_of id kids) (node_of id rest)
          (from_page id way.0, way.1)
          (in_kids (omega (arith, once)) (rw found (rw same at is))
          ∙ ap (λ (below : Option (List ℕ × Kept)). cut_way id below) found))

  -- the way to a page in a page that stands alone, before others that the way does not lead into
  way-placed_in : (page n step at : ℕ) (slug : List ℕ) (body : Kept) (below rest : Forest Kept) →
      way_to page rest ≡ None →
      way_to page (placed (grown n step slug body below bare) at rest)
      ≡ way_to page (grown n step slug body below bare)
  way-placed_in page n step at slug body below rest none = rw none refl

  -- at the end of others
  way-put_last_in : (page before n step : ℕ) (slug : List ℕ) (body : Kept)
      (below f : Forest Kept) → way_to page f ≡ None →
      way_to page (put_last before (grown n step slug body below bare) f)
      ≡ way_to page (grown n step slug body below bare)
  way-put_last_in page before n step slug body below bare none = refl
  way-put_last_in page before n step slug body below (grown i s text own kids rest) none =
      choice (nat_eq i page) (way_to page kids) (way_to page rest) none
      (way-put_last_in page s n step slug body below rest)
    where
      choice : (here : Bool) (inside after : Option (List ℕ × Kept)) →
          cond here (Some (i ∷ [], own)) (first_way (led i inside) after) ≡ None →
          (after ≡ None →
          way_to page (put_last s (grown n step slug body below bare) rest)
          ≡ way_to page (grown n step slug body below bare)) →
          cond here (Some (i ∷ [], own)) (first_way (led i inside)
          (way_to page (put_last s (grown n step slug body below bare) rest)))
          ≡ way_to page (grown n step slug body below bare)
      choice true inside after is more = absurd (cc)
      choice false (Some way) after is more = absurd (cc)
      choice false None after is more = more is

  -- before another
  way-put_before_in : (page sibling n step : ℕ) (slug : List ℕ) (body : Kept)
      (below f : Forest Kept) → has_kid sibling f ≡ true → way_to page f ≡ None →
      way_to page (put_before sibling (grown n step slug body below bare) f)
      ≡ way_to page (grown n step slug body below bare)
  way-put_before_in page sibling n step slug body below bare among none = absurd (cc)
  way-put_before_in page sibling n step slug body below (grown i s text own kids rest) among none =
      map_cond (λ (f : Forest Kept). way_to page f) (nat_eq i sibling)
      (placed (grown n step slug body below bare) s (raised (grown i s text own kids rest)))
      (grown i s text own kids (put_before sibling (grown n step slug body below bare) rest))
      ∙ choice (nat_eq i sibling) (nat_eq i page) (way_to page kids) (way_to page rest) among none
      (way-placed_in page n step s slug body below (raised (grown i s text own kids rest))
      (way-raised page (grown i s text own kids rest) ∙ none))
      (way-put_before_in page sibling n step slug body below rest)
    where
      choice : (found here : Bool) (inside after : Option (List ℕ × Kept)) →
          (found || has_kid sibling rest) ≡ true →
          cond here (Some (i ∷ [], own)) (first_way (led i inside) after) ≡ None →
          way_to page
          (placed (grown n step slug body below bare) s (raised (grown i s text own kids rest)))
          ≡ way_to page (grown n step slug body below bare) →
          (has_kid sibling rest ≡ true → after ≡ None →
          way_to page (put_before sibling (grown n step slug body below bare) rest)
          ≡ way_to page (grown n step slug body below bare)) →
          cond found
          (way_to page
          (placed (grown n step slug body below bare) s (raised (grown i s text own kids rest))))
          (cond here (Some (i ∷ [], own)) (first_way (led i inside)
          (way_to page (put_before sibling (grown n step slug body below bare) rest))))
          ≡ way_to page (grown n step slug body below bare)
      choice true here inside after h is now later = now
      choice false true inside after h is now later = absurd (cc)
      choice false false (Some way) after h is now later = absurd (cc)
      choice false false None after h is now later = later h is

  -- The way to a page in one that was put among others is as where that stands alone.
  pub way-put_in : (page : ℕ) (place : Place) (n step : ℕ) (slug : List ℕ) (body : Kept)
      (below f : Forest Kept) → IsAmong place f → way_to page f ≡ None →
      way_to page (put place (grown n step slug body below bare) f)
      ≡ way_to page (grown n step slug body below bare)
  way-put_in page First n step slug body below f among none =
      way-placed_in page n step 1 slug body below (raised f) (way-raised page f ∙ none)
  way-put_in page (Before sibling) n step slug body below f among none =
      way-put_before_in page sibling n step slug body below f among none
  way-put_in page End n step slug body below f among none =
      way-put_last_in page 0 n step slug body below f none

  -- The way to a page in one that was grafted in is that to the parent and then on from there.
  pub way-grafted : (page parent : ℕ) (place : Place) (n step : ℕ) (slug : List ℕ) (body : Kept)
      (below f : Forest Kept) (more : List ℕ × Kept) → count parent f ≡ 1 →
      AtParent parent (IsAmong place) f → count page f ≡ 0 →
      way_to page (grown n step slug body below bare) ≡ Some more →
      way_to page (graft parent place (grown n step slug body below bare) f)
      ≡ joined (way_to parent f) (way_to page (grown n step slug body below bare))
  way-grafted page parent place n step slug body below bare more once among none inside =
      let never : ⊥ = omega (arith, once) in absurd never
  way-grafted page parent place n step slug body below (grown i s text own kids rest) more once
      among none inside =
      map_cond (λ (f : Forest Kept). way_to page f) (nat_eq i parent)
      (grown i s text own (put place (grown n step slug body below bare) kids) rest)
      (grown i s text own (graft parent place (grown n step slug body below bare) kids)
      (graft parent place (grown n step slug body below bare) rest))
      ∙ choice (nat_eq i parent) refl once
      (λ found. way-grafted page parent place n step slug body below kids more found among.1
      (omega (arith, none)) inside)
      (λ found. way-grafted page parent place n step slug body below rest more found among.2
      (omega (arith, none)) inside)
    where
      node : Forest Kept
      node = grown n step slug body below bare

      apart : nat_eq i page ≡ false
      apart = not_first page i (count page kids + count page rest) none

      no_kid : way_to page kids ≡ None
      no_kid = way-absent page kids (omega (arith, none))

      choice : (at : Bool) → nat_eq i parent ≡ at →
          one at + (count parent kids + count parent rest) ≡ 1 →
          (count parent kids ≡ 1 →
          way_to page (graft parent place (grown n step slug body below bare) kids)
          ≡ joined (way_to parent kids) (way_to page (grown n step slug body below bare))) →
          (count parent rest ≡ 1 →
          way_to page (graft parent place (grown n step slug body below bare) rest)
          ≡ joined (way_to parent rest) (way_to page (grown n step slug body below bare))) →
          cond at
          (way_to page
          (grown i s text own (put place (grown n step slug body below bare) kids) rest))
          (way_to page
          (grown i s text own (graft parent place (grown n step slug body below bare) kids)
          (graft parent place (grown n step slug body below bare) rest)))
          ≡ joined
          (cond at (Some (i ∷ [], own)) (first_way (led i (way_to parent kids)) (way_to parent rest)))
          (way_to page (grown n step slug body below bare))
      choice true at most in_kids in_rest =
          rw (
            apart,
            way-put_in page place n step slug body below kids (among.0 at) no_kid,
            inside,
          ) refl
      choice false at most in_kids in_rest = elim (none_or_some (count parent kids)) [
        | inl absent ↦
            rw (
              apart,
              graft_absent parent place (grown n step slug body below bare) kids absent,
              no_kid,
              way-absent parent kids absent,
            ) (in_rest (omega (arith, most, absent)))
        | inr some ↦ along (way_to parent kids) refl some (in_kids (omega (arith, most, some)))
      ]
        where
          along : (way : Option (List ℕ × Kept)) → way_to parent kids ≡ way →
              1 ≤ count parent kids →
              way_to page (graft parent place (grown n step slug body below bare) kids)
              ≡ joined (way_to parent kids) (way_to page (grown n step slug body below bare)) →
              way_to page
              (grown i s text own (graft parent place (grown n step slug body below bare) kids)
              (graft parent place (grown n step slug body below bare) rest))
              ≡ joined (first_way (led i (way_to parent kids)) (way_to parent rest))
              (way_to page (grown n step slug body below bare))
          along None found some is =
              let gone = way-missing parent kids found in
              let never : ⊥ = omega (arith, some, gone) in absurd never
          along (Some way) found some is = rw (apart, is, found, inside) refl
