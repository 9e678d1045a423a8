-- A purge leaves the revisions of other pages, and those that its page needs.
use Rattle.std.proofs.Common.{◌≡◌, ◌≤◌, ℕ, Bool, true, false, not, nat_eq, ◌&&◌, ◌||◌, List, [], ◌∷◌, Option, Some, None, refl, sym, arith}
use Rattle.std.specs.List.{list_any}
use Rattle.std.proofs.lemmas.Bool.Decides.{nat_tests}
use Rattle.site_types.specs.declared.revision.Revision.{Revision}
use Rattle.site_model.specs.Bodies.{same_number}
use Rattle.revision_shelf.specs.Shelf.{Rises, is_kept, purged}
use Rattle.flat_model.specs.Made.{needs_revision, purge_left}
use Rattle.flat_model.specs.declared.change.Purge.{Purge}
use Rattle.part_commits.specs.Purging.{number_of}

-- the ids that a purge keeps
abbrev pub kept_ids : Purge → List ℕ
kept_ids purge =
    number_of purge.shown ∷ number_of purge.latest ∷ number_of purge.scheduled
    ∷ number_of purge.moderated ∷ []

-- the number of a revision, or 0, is an id exactly where it is that revision's
named : (one : Option ℕ) (id : ℕ) → 1 ≤ id → same_number one (Some id) ≡ nat_eq (number_of one) id
named None id first = sym (by (nat_eq 0 id) refl)
  where
    by : (t : Bool) → nat_eq 0 id ≡ t → nat_eq 0 id ≡ false
    by false is = is
    by true is = absurd (grind (arith, nat_tests))
named (Some other) id first = refl

-- nothing is beside a last test
last_or : (t : Bool) → (t || false) ≡ t
last_or true = refl
last_or false = refl

-- a revision stays exactly where it is kept
same_test : (purge : Purge) (revision : Revision) → 1 ≤ revision.id →
    is_kept purge.page (kept_ids purge) revision
    ≡ not (nat_eq revision.page purge.page && not (needs_revision purge revision.id))
same_test purge revision first =
    by (nat_eq revision.page purge.page) (needs_revision purge revision.id)
    (list_any (λ id. nat_eq id revision.id) (kept_ids purge)) same
  where
    same : list_any (λ id. nat_eq id revision.id) (kept_ids purge)
        ≡ needs_revision purge revision.id
    same =
        rw (
          named purge.shown revision.id first,
          named purge.latest revision.id first,
          named purge.scheduled revision.id first,
          named purge.moderated revision.id first,
          last_or (nat_eq (number_of purge.moderated) revision.id),
        ) refl

    by : (own needs kept : Bool) → kept ≡ needs → (not own || kept) ≡ not (own && not needs)
    by true true kept is = is
    by true false kept is = is
    by false needs kept is = refl

-- the revisions that stay are those that a purge leaves
pub purged_is : (purge : Purge) (low : ℕ) (revisions : List Revision) → Rises low revisions →
    purged purge.page (kept_ids purge) revisions ≡ purge_left (Some purge) revisions
purged_is purge low [] rise = refl
purged_is purge low (revision ∷ revisions) rise =
    let first : 1 ≤ revision.id = let above = rise.0 in omega (arith, above) in
    rw (same_test purge revision first, purged_is purge revision.id revisions rise.3) refl
