-- The revision at the place is what is kept of the id there.
use Rattle.std.proofs.Common.{◌≡◌, ℕ, List, Some, slice_get, sym, subst}
use Rattle.revision_shelf.specs.Shelf.{RevisionList}
use Rattle.revision_shelf.proofs.SeenLemmas.{kept_at, none_at, seen-kept}
use Rattle.revision_shelf.proofs.shelf.Shelf.at.Goals as goal

-- the id of the same list
ids_there : (slice order : List ℕ) (place id : ℕ) → slice ≡ order → Some id ≡ slice_get slice place →
    slice_get order place ≡ Some id
ids_there slice order place id same is = rw (← same) (sym is)

pub returns-in-Some-get : goal.returns-in-Some-get
returns-in-Some-get c =
    let there = ids_there _ _ c.args.place _ c.deref.ensures.value c.in-Some.ensures in
    let seen = seen-kept _ _ _ _ _ c.self.invariant in
    let at = kept_at _ _ _ _ _ c.self.invariant c.args.place c.in-Some.id c.in-Some-get.kept.now
    there (sym c.in-Some-get.ensures.value) in
    subst (λ (v : RevisionList). Some c.in-Some-get.kept.now.revision ≡ slice_get v.revisions
    c.args.place) c.self.view_is (sym at)

pub returns-in-None : goal.returns-in-None
returns-in-None c =
    let there = ids_there _ _ c.args.place _ c.deref.ensures.value c.in-Some.ensures in
    absurd (none_at _ _ _ _ _ c.self.invariant c.args.place c.in-Some.id there (sym
    c.in-None.ensures.value))
