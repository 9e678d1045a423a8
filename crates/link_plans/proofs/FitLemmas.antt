-- Revisions that come after all that were there: they rise, and none has the id of one that was
-- there. And what is found among those that stay.
use Rattle.std.proofs.Common.{◌≡◌, ℕ, ◌<◌, ◌≤◌, Bool, true, false, cond, nat_eq, List, [], ◌∷◌, ◌++◌, Option, Some, None, IsSome, map, filter, refl, sym, ap, ◌∙◌, arith, rules}
use Rattle.std.proofs.lemmas.Bool.Decides.{nat_tests}
use Rattle.std.specs.List.{AllByRecursion}
use Rattle.std.specs.Option.{IfSome}
use Rattle.site_types.specs.declared.body.Body.{Body}
use Rattle.site_types.specs.declared.revision.Revision.{Revision}
use Rattle.site_model.specs.Sound.{IdsRise}
use Rattle.page_store.specs.Pages.{Page}
use Rattle.revision_shelf.specs.Shelf.{revision_with}
use Rattle.publishing.specs.Times.{body_in}
use Rattle.flat_model.specs.Fits.{BodiesFit, RevisionsFit}
use Rattle.flat_model.specs.Made.{rows_made, revisions_left, purge_left}
use Rattle.flat_model.specs.declared.change.Change.{Change}
use Rattle.flat_model.specs.declared.change.Purge.{Purge}
use Rattle.link_plans.specs.Found.{RevisionsRise}
use Rattle.link_plans.specs.PageLinks.{content_in}
use Rattle.link_plans.specs.Told.{NamesThere, AllNamed, AreRowsTold, SameContents, TellsPages, body_told, content_told, fate, row_fates, pages_made, revisions_made}
use Rattle.link_plans.proofs.FindLemmas.{none_below}
use Rattle.link_plans.proofs.TellLemmas.{AreOthers, same_before, same_after, told_append, told_bodies}

-- what holds of all holds of the last
last_of : {X : Type 0} (P : X → Type 0) (xs : List X) (x : X) → AllByRecursion P (xs ++ x ∷ []) → P x
last_of P [] x all = all.0
last_of P (y ∷ xs) x all = last_of P xs x all.1

-- revisions that come after some rise from above any of those
fit_above : (before : ℕ) (new revisions : List Revision) →
    ((n : ℕ) → AllByRecursion (λ (older : Revision). older.id < n) revisions → before < n) →
    RevisionsFit new revisions → IdsRise before new
fit_above before [] revisions above fits = tt
fit_above before (one ∷ new) revisions above fits = (
  above one.id fits.0,
  fit_above one.id new (revisions ++ one ∷ [])
      (λ n each. last_of (λ (older : Revision). older.id < n) revisions one each) fits.1,
)

-- revisions that come after some rise
pub fit_rises : (new revisions : List Revision) → RevisionsFit new revisions → RevisionsRise new
fit_rises [] revisions fits = tt
fit_rises (one ∷ new) revisions fits =
    fit_above one.id new (revisions ++ one ∷ [])
    (λ n each. last_of (λ (older : Revision). older.id < n) revisions one each) fits.1

-- an id that is found among revisions below a number is below it
found_below : (id n : ℕ) (revisions : List Revision) →
    AllByRecursion (λ (older : Revision). older.id < n) revisions →
    IsSome (revision_with id revisions) → id < n
found_below id n [] all there = absurd (search (rules, there))
found_below id n (revision ∷ revisions) all there =
    by (nat_eq revision.id id) refl there (found_below id n revisions all.1)
  where
    own : (m : ℕ) → m < n → nat_eq m id ≡ true → id < n
    own m lt is = grind (arith, nat_tests)

    by : (t : Bool) → nat_eq revision.id id ≡ t →
        IsSome (cond t (Some revision) (revision_with id revisions)) →
        (IsSome (revision_with id revisions) → id < n) → id < n
    by true is some more = own revision.id all.0 is
    by false is some more = more some

-- what is found is found with one more behind
found_still : (id : ℕ) (one : Revision) (revisions : List Revision) →
    IsSome (revision_with id revisions) → IsSome (revision_with id (revisions ++ one ∷ []))
found_still id one [] there = absurd (search (rules, there))
found_still id one (revision ∷ revisions) there =
    by (nat_eq revision.id id) there (found_still id one revisions)
  where
    by : (t : Bool) → IsSome (cond t (Some revision) (revision_with id revisions)) →
        (IsSome (revision_with id revisions) → IsSome (revision_with id (revisions ++ one ∷ []))) →
        IsSome (cond t (Some revision) (revision_with id (revisions ++ one ∷ [])))
    by true some more = some
    by false some more = more some

-- none of the revisions that come has the id of one that was there
pub fit_others : (new revisions : List Revision) → RevisionsFit new revisions →
    AreOthers new revisions
fit_others [] revisions fits id there = refl
fit_others (one ∷ new) revisions fits id there =
    rw (differs one.id (found_below id one.id revisions fits.0 there))
    (fit_others new (revisions ++ one ∷ []) fits.1 id (found_still id one revisions there))
  where
    differs : (n : ℕ) → id < n → nat_eq n id ≡ false
    differs n lt = grind (arith, nat_tests)

-- ids that rise from above a number rise from above a lower one
rise_lower : (low before : ℕ) (revisions : List Revision) → low ≤ before →
    IdsRise before revisions → IdsRise low revisions
rise_lower low before [] less rise = tt
rise_lower low before (revision ∷ revisions) less rise =
    (let above = rise.0 in omega (arith, above, less), rise.1)

-- ids still rise where a test leaves some
rise_left : (stays : Revision → Bool) (before : ℕ) (revisions : List Revision) →
    IdsRise before revisions → IdsRise before (filter stays revisions)
rise_left stays before [] rise = tt
rise_left stays before (revision ∷ revisions) rise =
    by (stays revision) (rise_left stays revision.id revisions rise.1)
  where
    by : (t : Bool) → IdsRise revision.id (filter stays revisions) →
        IdsRise before (cond t (revision ∷ filter stays revisions) (filter stays revisions))
    by true more = (rise.0, more)
    by false more =
        rise_lower before revision.id (filter stays revisions)
        (let above = rise.0 in omega (arith, above)) more

-- what is found among those that a test leaves is what was found among all
found_left : (id before : ℕ) (stays : Revision → Bool) (revisions : List Revision) →
    IdsRise before revisions → IsSome (revision_with id (filter stays revisions)) →
    revision_with id (filter stays revisions) ≡ revision_with id revisions
found_left id before stays [] rise there = refl
found_left id before stays (revision ∷ revisions) rise there =
    by (nat_eq revision.id id) (stays revision) refl there
    (found_left id revision.id stays revisions rise.1)
  where
    low : (m : ℕ) → nat_eq m id ≡ true → id ≤ m
    low m is = grind (arith, nat_tests)

    missing : nat_eq revision.id id ≡ true → revision_with id (filter stays revisions) ≡ None
    missing same =
        none_below id revision.id (filter stays revisions) (low revision.id same)
        (rise_left stays revision.id revisions rise.1)

    by : (t u : Bool) → nat_eq revision.id id ≡ t →
        IsSome (revision_with id (cond u (revision ∷ filter stays revisions)
        (filter stays revisions))) →
        (IsSome (revision_with id (filter stays revisions)) →
        revision_with id (filter stays revisions) ≡ revision_with id revisions) →
        revision_with id (cond u (revision ∷ filter stays revisions) (filter stays revisions))
        ≡ cond t (Some revision) (revision_with id revisions)
    by true true is some more = rw is refl
    by true false is some more =
        let none = missing is in
        absurd (let never = rw none at some in search (rules, never))
    by false true is some more = rw is (more (rw is at some))
    by false false is some more = more some

-- what is found among those that a change leaves is what was found among all
pub left_found : (id : ℕ) (gone : List ℕ) (purge : Option Purge) (revisions : List Revision) →
    IdsRise 0 revisions →
    IsSome (revision_with id (purge_left purge (revisions_left gone revisions))) →
    revision_with id (purge_left purge (revisions_left gone revisions))
    ≡ revision_with id revisions
left_found id gone None revisions rise there = found_left id 0 _ revisions rise there
left_found id gone (Some purge) revisions rise there =
    let one = found_left id 0 _ (revisions_left gone revisions) (rise_left _ 0 revisions rise) there in
    one ∙ found_left id 0 _ revisions rise (rw one at there)

-- what follows from what holds of a page that need not be there
if_weaker : (P Q : Body → Type 0) → ((body : Body) → P body → Q body) → (found : Option Body) →
    IfSome found P → IfSome found Q
if_weaker P Q weaker None holds = tt
if_weaker P Q weaker (Some body) holds = weaker body holds

-- a change that fits tells all of the pages after it
pub change_tells : (pages : List Page) (revisions : List Revision) (change : Change) →
    IdsRise 0 revisions → RevisionsFit change.revisions revisions →
    BodiesFit change.bodies (rows_made change.tree pages) → AreRowsTold change.tree pages →
    AllNamed pages revisions →
    AllNamed (pages_made change pages) (revisions_made change revisions) →
    TellsPages pages revisions change
change_tells pages revisions change rise fits bodies rows before after =
    let others = fit_others change.revisions revisions fits in
    let left = purge_left change.purge (revisions_left change.gone revisions) in
    record {
      bodies = λ page.
          told_bodies change.bodies (rows_made change.tree pages) page bodies
          ∙ ap (λ (was : Option Body).
          body_told (map (λ (one : ℕ × Body). fate one.0 (Some one.1)) change.bodies) page was)
          (rows page)
          ∙ sym (told_append (row_fates change.tree pages)
          (map (λ (one : ℕ × Body). fate one.0 (Some one.1)) change.bodies) page
          (body_in page pages));
      before = λ page.
          if_weaker (NamesThere revisions)
          (SameContents (content_told change.revisions revisions) (content_in revisions))
          (λ body there. same_before change.revisions revisions body others there)
          (body_in page pages) (before page);
      after = λ page.
          if_weaker (NamesThere (left ++ change.revisions))
          (SameContents (content_told change.revisions revisions)
          (content_in (left ++ change.revisions)))
          (λ body there. same_after change.revisions revisions left body others
          (λ id some. left_found id change.gone change.purge revisions rise some) there)
          (body_in page (pages_made change pages)) (after page);
    }
