-- From a kid over its subtree to the next kid.
use Rattle.std.proofs.Common.{◌≡◌, ℕ, suc, ◌+◌, ◌-◌, ◌<◌, ◌≤◌, true, nat_eq, List, [], ◌∷◌, Option, Some, None, IsSome, length, drop, slice_get, refl, ap, sym, ◌∙◌, subst, arith, rules, add-one}
use Rattle.std.proofs.lemmas.Bool.Decides.{nat_tests}
use Rattle.std.proofs.lemmas.List.{append-nil}
use Rattle.std.specs.Option.{option_map, IfSome}
use Rattle.page_tree.specs.Rows.{row_with, kids_in}
use Rattle.page_store.specs.PageRows.{IsRange}
use Rattle.page_store.specs.Pages.{Page, ArePages}
use Rattle.page_store.specs.Search.{leading, begins}
use Rattle.page_store.specs.KidWalk.{kids_between, IsKidWalk}
use Rattle.page_store.proofs.InsertLemmas.{other_ids}
use Rattle.page_store.proofs.AddLemmas.{no_kids}
use Rattle.page_store.proofs.KeptLemmas.{found_passes}
use Rattle.page_store.proofs.KidRanges.{kids_in-skip, first_kid, kids_between-all, kids_between-next, next_within, next_kid}

-- a walk at its end has no kids left
pub kids_between-none : (parent place end : ℕ) (pages : List Page) → end ≤ place →
    kids_between parent place end pages ≡ []
kids_between-none parent place end pages h = let none : end - place ≡ 0 = omega arith in rw none refl

-- a walk that is over
pub walk_over : (pages : List Page) (parent end : ℕ) → ArePages pages → end ≤ length pages →
    IsKidWalk pages parent end end
walk_over pages parent end are within = record {
  are_pages = are;
  within = within;
  at_kid =
      λ low. absurd (omega arith);
}

-- a page that is not there has no kids
pub kids_of_none : (pages : List Page) (id : ℕ) → ArePages pages → (IsSome (row_with id pages) →
    ⊥) → kids_in id pages ≡ []
kids_of_none pages id are absent = by (row_with id pages) refl
  where
    by : (o : Option Page) → row_with id pages ≡ o → kids_in id pages ≡ []
    by None e =
        let none = no_kids id pages (other_ids id pages e) are.parents in
        ap (λ rows. kids_in id rows) (sym (append-nil pages)) ∙ kids_in-skip id pages [] none
    by (Some row) e = absurd (absent (rw e (search rules)))

-- a walk begins behind its page, at the first row of its subtree
pub walk_starts : (pages : List Page) (id place size : ℕ) → ArePages pages →
    IsSome (row_with id pages) → IfSome (row_with id pages) (λ row. IsRange pages row place size)
    → IsKidWalk pages id (place + 1) (place + size)
    × (kids_between id (place + 1) (place + size) pages ≡ kids_in id pages)
walk_starts pages id place size are there range = by (row_with id pages) refl there range
  where
    by : (o : Option Page) → row_with id pages ≡ o → IsSome o →
        IfSome o (λ row. IsRange pages row place size) →
        IsKidWalk pages id (place + 1) (place + size)
        × (kids_between id (place + 1) (place + size) pages ≡ kids_in id pages)
    by None e there range = absurd (search rules)
    by (Some top) e there range =
        let test : nat_eq top.id id ≡ true = found_passes (λ (row : Page). nat_eq row.id id) pages top e in
        let top_is : top.id ≡ id = grind (arith, nat_tests) in (
          record {
            are_pages = are;
            within = range.within;
            at_kid = λ low. record {
              top = top;
              top_place = place;
              size = size;
              top_is =
                  top_is;
              range = range;
              behind = omega arith;
              end_is = refl;
              kid_is =
                  λ row at. first_kid pages are top place size range row at low ∙ ap Some top_is;
            };
          },
          subst (λ (p : ℕ). kids_between p (place + 1) (place + size) pages ≡ kids_in p pages)
              top_is (kids_between-all pages are top place size range),
        )

-- a walk goes on behind the subtree of its kid
pub walk_goes_on : (pages : List Page) (parent place end next id : ℕ) →
    IsKidWalk pages parent place end → place < end →
    Some id ≡ option_map (λ (row : Page). row.id) (slice_get pages place)
    → ((row : Page) → slice_get pages place ≡ Some row →
    next ≡ place + 1 + leading (λ (other : Page). begins row.path other.path) (drop (place + 1)
    pages)) → next ≤ length pages
    → IsKidWalk pages parent next end
    × (kids_between parent place end pages ≡ id ∷ kids_between parent next end pages)
walk_goes_on pages parent place end next id walk low is ends fits = by (slice_get pages place) refl is
  where
    by : (o : Option Page) → slice_get pages place ≡ o →
        Some id ≡ option_map (λ (row : Page). row.id) o →
        IsKidWalk pages parent next end
        × (kids_between parent place end pages ≡ id ∷ kids_between parent next end pages)
    by None e is = absurd cc
    by (Some kid) e is =
        let at = walk.at_kid low in
        let are = walk.are_pages in
        let last = at.end_is in
        let is_kid : kid.parent ≡ Some at.top.id = at.kid_is kid e ∙ ap Some (sym at.top_is) in
        let high : place < at.top_place + at.size = omega arith in
        let n = leading (λ (other : Page). begins kid.path other.path) (drop (suc place) pages) in
        let next_is : next ≡ suc place + n = rw (add-one place) at (ends kid e) in
        let inside = next_within pages are at.top at.top_place at.size at.range place kid e
        at.behind high is_kid (omega arith) at.range.within in
        let one : id ≡ kid.id = cc in
        let kids = subst (λ (p : ℕ). kids_between p place end pages ≡ kid.id ∷ kids_between p (suc
        place + n) end pages) at.top_is (kids_between-next pages are at.top at.top_place at.size
        at.range place kid e at.behind high is_kid end (omega arith)) in
        rw (one, next_is) (
          record {
            are_pages = are;
            within = walk.within;
            at_kid = λ more. record {
              top = at.top;
              top_place = at.top_place;
              size =
                  at.size;
              top_is = at.top_is;
              range = at.range;
              behind = (let before = at.behind in
                  omega arith);
              end_is = last;
              kid_is =
                  λ row there. next_kid pages are at.top at.top_place at.size at.range place kid e
                  at.behind high is_kid row there (omega arith) ∙ ap Some at.top_is;
            };
          },
          kids,
        )
