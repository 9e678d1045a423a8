-- What a change does not touch stays in step: in sound worlds a page names revisions of its own
-- that are there, and no other revision comes in their place.
use Rattle.std.proofs.Common.{◌≡◌, ◌<◌, ℕ, Bool, true, false, cond, ◌||◌, ◌&&◌, nat_eq, List, [], ◌∷◌, ◌++◌, Option, Some, None, IsSome, refl, ◌∙◌, rules}
use Rattle.std.proofs.lemmas.List.Folds.{find-append}
use Rattle.std.specs.List.{AllByRecursion, list_any}
use Rattle.std.specs.Option.{IfSome}
use Rattle.site_types.specs.declared.revision.Revision.{Revision}
use Rattle.site_model.specs.Sound.{IdsRise, is_own, may_wait}
use Rattle.revision_shelf.specs.Shelf.{revision_with}
use Rattle.site_model.proofs.OrderLemmas.{all_filter}
use Rattle.page_store.proofs.AllLemmas.{All-append}
use Rattle.tree_rows.proofs.Lists.{all_parts}
use Rattle.publishing.specs.Times.{named}
use Rattle.flat_model.specs.Fits.{RevisionsFit}
use Rattle.flat_model.specs.Made.{revisions_left, purge_left}
use Rattle.flat_model.specs.declared.change.Purge.{Purge}
use Rattle.link_plans.proofs.FitLemmas.{fit_others, left_found}
use Rattle.part_commits.proofs.RowBodies.{or_none}

-- the revisions that a change leaves of those that were there
abbrev pub left_of : List ℕ → Option Purge → List Revision → List Revision
left_of gone purge revisions = purge_left purge (revisions_left gone revisions)

-- revisions that come after all are so beside fewer
fits_fewer : (new all fewer : List Revision) →
    ((n : ℕ) → AllByRecursion (λ (older : Revision). older.id < n) all →
    AllByRecursion (λ (older : Revision). older.id < n) fewer) →
    RevisionsFit new all → RevisionsFit new fewer
fits_fewer [] all fewer less fits = tt
fits_fewer (one ∷ new) all fewer less fits = (
  less one.id fits.0,
  fits_fewer new (all ++ one ∷ []) (fewer ++ one ∷ [])
      (λ n each.
      let parts = all_parts (λ (older : Revision). older.id < n) all (one ∷ []) each in
      All-append _ fewer (one ∷ []) (less n parts.0) parts.1)
      fits.1,
)

-- so they are beside those that are left
pub fits_left : (gone : List ℕ) (purge : Option Purge) (revisions new : List Revision) →
    RevisionsFit new revisions → RevisionsFit new (left_of gone purge revisions)
fits_left gone purge revisions new fits =
    by purge
    (fits_fewer new revisions (revisions_left gone revisions)
    (λ n each. all_filter (λ (older : Revision). older.id < n) _ revisions each) fits)
  where
    by : (purge : Option Purge) → RevisionsFit new (revisions_left gone revisions) →
        RevisionsFit new (left_of gone purge revisions)
    by None fits = fits
    by (Some purge) fits =
        fits_fewer new (revisions_left gone revisions) (left_of gone (Some purge) revisions)
        (λ n each. all_filter (λ (older : Revision). older.id < n) _ (revisions_left gone revisions)
        each) fits

-- a revision that is there before and after is the same
pub same_found : (id : ℕ) (gone : List ℕ) (purge : Option Purge) (revisions new : List Revision) →
    IdsRise 0 revisions → RevisionsFit new revisions → IsSome (revision_with id revisions) →
    IsSome (revision_with id (left_of gone purge revisions ++ new)) →
    revision_with id (left_of gone purge revisions ++ new) ≡ revision_with id revisions
same_found id gone purge revisions new rise fits before after =
    left ∙ left_found id gone purge revisions rise (rw left at after)
  where
    left : revision_with id (left_of gone purge revisions ++ new)
        ≡ revision_with id (left_of gone purge revisions)
    left =
        find-append (λ (revision : Revision). nat_eq revision.id id) (left_of gone purge revisions) new
        ∙ rw (fit_others new revisions fits id before)
        (or_none (revision_with id (left_of gone purge revisions)))

-- so is one that is named, where one is
pub same_named : (name : Option ℕ) (gone : List ℕ) (purge : Option Purge)
    (revisions new : List Revision) → IdsRise 0 revisions → RevisionsFit new revisions →
    IfSome name (λ id. IsSome (revision_with id revisions)) →
    IfSome name (λ id. IsSome (revision_with id (left_of gone purge revisions ++ new))) →
    named (left_of gone purge revisions ++ new) name ≡ named revisions name
same_named None gone purge revisions new rise fits before after = refl
same_named (Some id) gone purge revisions new rise fits before after =
    same_found id gone purge revisions new rise fits before after

-- a revision is there where one with its id passes a test
any_there : (id : ℕ) (test : Revision → Bool) (revisions : List Revision) →
    list_any (λ (revision : Revision). nat_eq revision.id id && test revision) revisions ≡ true →
    IsSome (revision_with id revisions)
any_there id test [] any = absurd (cc)
any_there id test (revision ∷ revisions) any =
    by (nat_eq revision.id id) any (any_there id test revisions)
  where
    by : (t : Bool) →
        ((t && test revision) || list_any
        (λ (one : Revision). nat_eq one.id id && test one) revisions) ≡ true →
        (list_any (λ (one : Revision). nat_eq one.id id && test one) revisions ≡ true →
        IsSome (revision_with id revisions)) →
        IsSome (cond t (Some revision) (revision_with id revisions))
    by true is more = search rules
    by false is more = more is

-- a revision of a page's own is there
pub own_there : (revisions : List Revision) (page : ℕ) (name : Option ℕ) →
    is_own revisions page name ≡ true → IfSome name (λ id. IsSome (revision_with id revisions))
own_there revisions page None own = tt
own_there revisions page (Some id) own =
    any_there id (λ (revision : Revision). nat_eq revision.page page) revisions own

-- so is one that waits
pub waiting_there : (revisions : List Revision) (page : ℕ) (name : Option ℕ) →
    IfSome name (λ id. may_wait revisions page id ≡ true) →
    IfSome name (λ id. IsSome (revision_with id revisions))
waiting_there revisions page None waits = tt
waiting_there revisions page (Some id) waits = any_there id _ revisions waits
