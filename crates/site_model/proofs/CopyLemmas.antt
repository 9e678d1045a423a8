-- Copies of pages: their ids, slugs, steps and bodies, and their revisions.
use Rattle.std.proofs.Common.{◌≡◌, ◌+◌, ◌<◌, ◌≤◌, ℕ, Bool, true, false, nat_eq, List, [], ◌∷◌, ◌++◌, length, Some, None, inl, inr, refl, arith, length-append}
use Rattle.std.specs.List.{AllByRecursion}
use Rattle.std.specs.Str.{bytes_eq}
use Rattle.std.proofs.lemmas.Bool.Decides.{nat_tests}
use Rattle.page_tree.specs.Tree.{Forest, bare, grown, AreRising, kid_with_slug, ids_of}
use Rattle.site_ids.specs.Slug.{IsSlug}
use Rattle.site_types.specs.Content.{FitsLimits}
use Rattle.site_types.specs.declared.body.Body.{Body}
use Rattle.site_types.specs.declared.revision.Revision.{Revision}
use Rattle.tree_model.specs.Shape.{AllPages, SlugsDiffer}
use Rattle.tree_model.proofs.CountLemmas.{one, count, same_id}
use Rattle.tree_model.proofs.PageLemmas.{AllPages-weaker, all_weaker}
use Rattle.tree_model.proofs.SiblingLemmas.{all_append, later_free}
use Rattle.site_model.specs.World.{TreePart}
use Rattle.site_model.specs.Create.{fresh_body, plain_revision}
use Rattle.site_model.specs.Copies.{copied_content, size_of, copies, copy_revisions}
use Rattle.site_model.specs.Sound.{IdsRise, is_own}
use Rattle.site_model.proofs.ClearLemmas.{any_front, any_back}
use Rattle.site_model.proofs.GraftSound.{below_or_not, none_lower}
use Rattle.site_model.proofs.RiseLemmas.{rise_both}

-- how many pages there are, with a first one
size_grown : (i step : ℕ) (slug : List ℕ) (body : Body) (kids rest : Forest Body) →
    size_of (grown i step slug body kids rest) ≡ 1 + (size_of kids + size_of rest)
size_grown i step slug body kids rest =
    let both : length (ids_of kids ++ ids_of rest) ≡ size_of kids + size_of rest =
    length-append (ids_of kids) (ids_of rest) in
    omega (arith, both)

-- an id past all that stand there does not stand there
none_past : (last j : ℕ) (f : Forest Body) → last ≤ j → AllPages (λ id slug body. id < last) f →
    count j f ≡ 0
none_past last j bare above all = refl
none_past last j (grown i step slug body kids rest) above all =
    let lower : i < last = all.0 in
    let differs : nat_eq i j ≡ false = grind (arith, nat_tests, above, lower) in
    rw (differs, none_past last j kids above all.1, none_past last j rest above all.2)
    (omega arith)

-- Ids from one on, and before another.
pub record IsWithin (low high id : ℕ) : Type 0 where
  pub from : low ≤ id
  pub to : id < high

-- one or none is at most one
at_most_one : (t : Bool) → one t ≤ 1
at_most_one true = omega arith
at_most_one false = omega arith

-- A copy: it is its maker's, and has this one revision among these.
pub record IsCopied (part : TreePart) (caller : ℕ) (revisions : List Revision) (id : ℕ)
    (body : Body) : Type 0 where
  pub revision : ℕ
  pub is : body ≡ fresh_body caller revision
  pub pair : revision + part.next_page ≡ id + part.next_revision
  pub own : is_own revisions id (Some revision) ≡ true

-- The revision of one of so many copies, of which others came before.
pub record IsCopyRevision (part : TreePart) (caller moment before many : ℕ) (revision : Revision) :
    Type 0 where
  pub id : IsWithin (part.next_revision + before) (part.next_revision + before + many) revision.id
  pub pair : revision.id + part.next_page ≡ revision.page + part.next_revision
  pub by : revision.by ≡ caller
  pub made : revision.made ≡ moment
  pub go_live : revision.go_live ≡ None
  pub expire : revision.expire ≡ None
  pub fits : FitsLimits revision.content

module _ (part : TreePart) (caller : ℕ) where
  -- the ids of copies are new, and in one range
  pub copies_within : (before : ℕ) (f : Forest Body) →
      AllPages (λ id slug body. IsWithin (part.next_page + before)
      (part.next_page + before + size_of f) id) (copies part caller before f)
  copies_within before bare = tt
  copies_within before (grown i step slug body kids rest) =
      let size = size_grown i step slug body kids rest in (
        record { from = omega arith; to = omega (arith, size) },
        AllPages-weaker (λ id text own. IsWithin (part.next_page + (before + 1))
            (part.next_page + (before + 1) + size_of kids) id) _
            (copies part caller (before + 1) kids)
            (λ id text own is. record {
              from = omega (arith, is.from);
              to = omega (arith, is.to, size);
            }) (copies_within (before + 1) kids),
        AllPages-weaker (λ id text own. IsWithin (part.next_page + (before + 1 + size_of kids))
            (part.next_page + (before + 1 + size_of kids) + size_of rest) id) _
            (copies part caller (before + 1 + size_of kids) rest)
            (λ id text own is. record {
              from = omega (arith, is.from);
              to = omega (arith, is.to, size);
            }) (copies_within (before + 1 + size_of kids) rest),
      )

  -- below the first id there is none
  copies_lower : (before j : ℕ) (f : Forest Body) → j < part.next_page + before →
      count j (copies part caller before f) ≡ 0
  copies_lower before j f lower =
      none_lower (part.next_page + before) j (copies part caller before f) lower
      (AllPages-weaker (λ id slug body. IsWithin (part.next_page + before)
      (part.next_page + before + size_of f) id) _ (copies part caller before f)
      (λ id slug body is. is.from) (copies_within before f))

  -- and past the last there is none
  copies_past : (before j : ℕ) (f : Forest Body) → part.next_page + before + size_of f ≤ j →
      count j (copies part caller before f) ≡ 0
  copies_past before j f above =
      none_past (part.next_page + before + size_of f) j (copies part caller before f) above
      (AllPages-weaker (λ id slug body. IsWithin (part.next_page + before)
      (part.next_page + before + size_of f) id) _ (copies part caller before f)
      (λ id slug body is. is.to) (copies_within before f))

  -- no id stands twice among copies
  pub copies_once : (before j : ℕ) (f : Forest Body) → count j (copies part caller before f) ≤ 1
  copies_once before j bare = omega arith
  copies_once before j (grown i step slug body kids rest) =
      let first = part.next_page + before in
      let middle = before + 1 + size_of kids in
      let most = at_most_one (nat_eq first j) in
      elim (below_or_not j (part.next_page + (before + 1))) [
        | inl lower ↦
            let in_kids = copies_lower (before + 1) j kids lower in
            let in_rest = copies_lower middle j rest (omega (arith, lower)) in
            omega (arith, most, in_kids, in_rest)
        | inr above ↦
            let differs : nat_eq first j ≡ false = grind (arith, nat_tests, above) in
            let in_kids = copies_once (before + 1) j kids in
            let in_rest = copies_once middle j rest in
            elim (below_or_not j (part.next_page + middle)) [
              | inl lower ↦
                  let none = copies_lower middle j rest lower in
                  rw differs (omega (arith, in_kids, none))
              | inr past ↦
                  let none = copies_past (before + 1) j kids (omega (arith, past)) in
                  rw differs (omega (arith, in_rest, none))
            ]
      ]

  -- the steps of copies rise as those of what is copied
  pub copies_rise : (before last : ℕ) (f : Forest Body) → AreRising last f →
      AreRising last (copies part caller before f)
  copies_rise before last bare rising = tt
  copies_rise before last (grown i step slug body kids rest) rising = (
    rising.0,
    copies_rise (before + 1) 0 kids rising.1,
    copies_rise (before + 1 + size_of kids) step rest rising.2,
  )

  -- their slugs are the same
  pub copies_slugs : (before : ℕ) (f : Forest Body) → AllPages (λ id slug body. IsSlug slug) f →
      AllPages (λ id slug body. IsSlug slug) (copies part caller before f)
  copies_slugs before bare all = tt
  copies_slugs before (grown i step slug body kids rest) all = (
    all.0,
    copies_slugs (before + 1) kids all.1,
    copies_slugs (before + 1 + size_of kids) rest all.2,
  )

  -- a slug that is free is free among copies
  copies_free : (new : List ℕ) (before : ℕ) (f : Forest Body) → kid_with_slug new f ≡ None →
      kid_with_slug new (copies part caller before f) ≡ None
  copies_free new before bare free = refl
  copies_free new before (grown i step slug body kids rest) free =
      let none = later_free (bytes_eq slug new) i (kid_with_slug new rest) free in
      rw none.0 (copies_free new (before + 1 + size_of kids) rest none.1)

  -- the slugs of siblings differ among copies
  pub copies_differ : (before : ℕ) (f : Forest Body) → SlugsDiffer f →
      SlugsDiffer (copies part caller before f)
  copies_differ before bare differ = tt
  copies_differ before (grown i step slug body kids rest) differ = (
    copies_free slug (before + 1 + size_of kids) rest differ.0,
    copies_differ (before + 1) kids differ.1,
    copies_differ (before + 1 + size_of kids) rest differ.2,
  )

  module _ (moment : ℕ) where
    -- the revisions of copies
    abbrev made : ℕ → Forest Body → List Revision
    made before f = copy_revisions part caller moment before f

    -- a copy has its revision among more
    copied_more : (fewer more : List Revision) (f : Forest Body) →
        ((id revision : ℕ) → is_own fewer id (Some revision) ≡ true →
        is_own more id (Some revision) ≡ true) →
        AllPages (λ id slug body. IsCopied part caller fewer id body) f →
        AllPages (λ id slug body. IsCopied part caller more id body) f
    copied_more fewer more f stays all =
        AllPages-weaker (λ id slug body. IsCopied part caller fewer id body) _ f
        (λ id slug body is. record {
          revision = is.revision;
          is = is.is;
          pair = is.pair;
          own = stays id is.revision is.own;
        }) all

    -- each copy is its maker's, with its one revision
    pub copies_bodies : (before : ℕ) (f : Forest Body) →
        AllPages (λ id slug body. IsCopied part caller (made before f) id body)
        (copies part caller before f)
    copies_bodies before bare = tt
    copies_bodies before (grown i step slug body kids rest) =
        let first = plain_revision (part.next_revision + before) (part.next_page + before) caller
        moment (copied_content part body) in
        let in_kids = made (before + 1) kids in
        let in_rest = made (before + 1 + size_of kids) rest in
        let all = first ∷ (in_kids ++ in_rest) in (
          record {
            revision = part.next_revision + before;
            is = refl;
            pair = omega arith;
            own = rw (same_id (part.next_revision + before), same_id (part.next_page + before))
                refl;
          },
          copied_more in_kids all (copies part caller (before + 1) kids)
              (λ id revision own. any_back _ (first ∷ []) (in_kids ++ in_rest)
              (any_front _ in_kids in_rest own)) (copies_bodies (before + 1) kids),
          copied_more in_rest all (copies part caller (before + 1 + size_of kids) rest)
              (λ id revision own. any_back _ (first ∷ []) (in_kids ++ in_rest)
              (any_back _ in_kids in_rest own)) (copies_bodies (before + 1 + size_of kids) rest),
        )

    -- revisions in a range are in a wider one
    wider : (low many before size : ℕ) (revisions : List Revision) → before ≤ low →
        low + many ≤ before + size →
        AllByRecursion (IsCopyRevision part caller moment low many) revisions →
        AllByRecursion (IsCopyRevision part caller moment before size) revisions
    wider low many before size revisions lower upper all =
        all_weaker (IsCopyRevision part caller moment low many) _ revisions
        (λ revision is. record {
          id = record {
            from = omega (arith, lower, is.id.from);
            to = omega (arith, upper, is.id.to);
          };
          pair = is.pair;
          by = is.by;
          made = is.made;
          go_live = is.go_live;
          expire = is.expire;
          fits = is.fits;
        }) all

    -- what is known of the revisions of copies
    pub revisions_copied : (before : ℕ) (f : Forest Body) →
        AllPages (λ id slug body. FitsLimits (copied_content part body)) f →
        AllByRecursion (IsCopyRevision part caller moment before (size_of f)) (made before f)
    revisions_copied before bare fits = tt
    revisions_copied before (grown i step slug body kids rest) fits =
        let size = size_grown i step slug body kids rest in
        let whole = size_of (grown i step slug body kids rest) in
        let middle = before + 1 + size_of kids in (
          record {
            id = record { from = omega arith; to = omega (arith, size) };
            pair = omega arith;
            by = refl;
            made = refl;
            go_live = refl;
            expire = refl;
            fits = fits.0;
          },
          all_append (IsCopyRevision part caller moment before whole) (made (before + 1) kids)
              (made middle rest)
              (wider (before + 1) (size_of kids) before whole (made (before + 1) kids)
              (omega arith) (omega (arith, size)) (revisions_copied (before + 1) kids fits.1))
              (wider middle (size_of rest) before whole (made middle rest) (omega arith)
              (omega (arith, size)) (revisions_copied middle rest fits.2)),
        )

    -- each of them is of a copy
    pub revisions_placed : (before : ℕ) (f : Forest Body) →
        AllByRecursion (λ (revision : Revision).
        1 ≤ count revision.page (copies part caller before f)) (made before f)
    revisions_placed before bare = tt
    revisions_placed before (grown i step slug body kids rest) =
        let middle = before + 1 + size_of kids in
        let first = part.next_page + before in (
          (rw (same_id first) (omega arith)),
          all_append (λ (revision : Revision). 1 ≤ one (nat_eq first revision.page)
              + (count revision.page (copies part caller (before + 1) kids)
              + count revision.page (copies part caller middle rest))) (made (before + 1) kids)
              (made middle rest)
              (all_weaker (λ (revision : Revision).
              1 ≤ count revision.page (copies part caller (before + 1) kids)) _
              (made (before + 1) kids) (λ revision some. omega (arith, some))
              (revisions_placed (before + 1) kids))
              (all_weaker (λ (revision : Revision).
              1 ≤ count revision.page (copies part caller middle rest)) _ (made middle rest)
              (λ revision some. omega (arith, some)) (revisions_placed middle rest)),
        )

    -- their ids rise
    pub revisions_rise : (before from : ℕ) (f : Forest Body) →
        AllPages (λ id slug body. FitsLimits (copied_content part body)) f →
        from < part.next_revision + before → IdsRise from (made before f)
    revisions_rise before from bare fits lower = tt
    revisions_rise before from (grown i step slug body kids rest) fits lower =
        let middle = before + 1 + size_of kids in (
          lower,
          rise_both (part.next_revision + before) (part.next_revision + middle)
              (made (before + 1) kids) (made middle rest) (omega arith)
              (all_weaker (IsCopyRevision part caller moment (before + 1) (size_of kids)) _
              (made (before + 1) kids) (λ revision is. omega (arith, is.id.to))
              (revisions_copied (before + 1) kids fits.1))
              (revisions_rise (before + 1) (part.next_revision + before) kids fits.1 (omega arith))
              (λ other below. revisions_rise middle other rest fits.2 below),
        )
