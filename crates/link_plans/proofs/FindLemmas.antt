-- The revision with an id among some whose ids rise, by its place.
use Rattle.std.proofs.Common.{◌≡◌, ℕ, zero, suc, ◌<◌, ◌≤◌, Bool, true, false, cond, nat_eq, nat_lt, List, [], ◌∷◌, Option, Some, None, length, get_or, refl, sym, subst, arith}
use Rattle.std.proofs.lemmas.Bool.Decides.{nat_tests}
use Rattle.std.specs.List.{slice_get}
use Rattle.std.specs.List.Sorted.{IsPartitionPoint, IsPartitionedBy}
use Rattle.site_types.specs.declared.revision.Revision.{Revision}
use Rattle.site_model.specs.Sound.{IdsRise}
use Rattle.revision_shelf.specs.Shelf.{revision_with}
use Rattle.link_plans.specs.Found.{RevisionsRise, if_own}

-- whether a revision comes before an id
abbrev pub is_below : ℕ → Revision → Bool
is_below id revision = nat_lt revision.id id

-- a revision at a place has a greater id than the one before all
above_all : (before : ℕ) (revisions : List Revision) (k : ℕ) (d : Revision) →
    IdsRise before revisions → k < length revisions → before < (get_or revisions k d).id
above_all before [] k d rise lt = absurd (omega arith)
above_all before (revision ∷ revisions) zero d rise lt = rise.0
above_all before (revision ∷ revisions) (suc k) d rise lt =
    let first = rise.0 in
    let later = above_all revision.id revisions k d rise.1 (omega arith) in
    omega (arith, first, later)

-- revisions behind the first rise
tail_rises : (before : ℕ) (revisions : List Revision) → IdsRise before revisions →
    RevisionsRise revisions
tail_rises before [] rise = tt
tail_rises before (revision ∷ revisions) rise = rise.1

-- those that come before an id stand before the others
pub parted : (id : ℕ) (revisions : List Revision) → RevisionsRise revisions →
    IsPartitionedBy (is_below id) revisions
parted id [] rise i j d le lt h = absurd (omega arith)
parted id (revision ∷ revisions) rise zero zero d le lt h = h
parted id (revision ∷ revisions) rise zero (suc j) d le lt h =
    let above = above_all revision.id revisions j d rise (omega arith) in
    below revision.id (get_or revisions j d).id above h
  where
    below : (m n : ℕ) → m < n → nat_lt n id ≡ true → nat_lt m id ≡ true
    below m n lt h = grind (arith, nat_tests)
parted id (revision ∷ revisions) rise (suc i) zero d le lt h = absurd (omega arith)
parted id (revision ∷ revisions) rise (suc i) (suc j) d le lt h =
    parted id revisions (tail_rises revision.id revisions rise) i j d (omega arith) (omega arith) h

-- no id at or below the number is found among those above it
pub none_below : (id before : ℕ) (revisions : List Revision) → id ≤ before →
    IdsRise before revisions → revision_with id revisions ≡ None
none_below id before [] low rise = refl
none_below id before (revision ∷ revisions) low rise =
    let above = rise.0 in
    let other : nat_eq revision.id id ≡ false = differs revision.id above in
    rw other (none_below id revision.id revisions (omega (arith, above, low)) rise.1)
  where
    differs : (n : ℕ) → before < n → nat_eq n id ≡ false
    differs n above = grind (arith, nat_tests)

-- what is found is what stands at the place, if it has the id
pub found_at : (id : ℕ) (revisions : List Revision) (place : ℕ) →
    RevisionsRise revisions → place ≤ length revisions →
    IsPartitionPoint (λ revision. is_below id revision ≡ true)
    (λ revision. is_below id revision ≡ false) revisions place →
    if_own id (slice_get revisions place) ≡ revision_with id revisions
found_at id [] zero rise le point = refl
found_at id [] (suc place) rise le point = absurd (omega arith)
found_at id (revision ∷ revisions) zero rise le point =
    by (nat_eq revision.id id) refl (point.1 zero revision (omega arith) (omega arith))
  where
    high : (n : ℕ) → nat_eq n id ≡ false → nat_lt n id ≡ false → id ≤ n
    high n differs h = grind (arith, nat_tests)

    by : (t : Bool) → nat_eq revision.id id ≡ t → is_below id revision ≡ false →
        cond t (Some revision) None ≡ cond t (Some revision) (revision_with id revisions)
    by true e behind = refl
    by false e behind = sym (none_below id revision.id revisions (high revision.id e behind) rise)
found_at id (revision ∷ revisions) (suc place) rise le point =
    let differs = other revision.id (point.0 zero revision (omega arith) (omega arith)) in
    let rest = found_at id revisions place (tail_rises revision.id revisions rise)
    (omega arith) (
      λ k d low high. point.0 (suc k) d (omega arith) (omega arith),
      λ k d low high. point.1 (suc k) d (omega arith) (omega arith),
    ) in
    rw differs rest
  where
    other : (n : ℕ) → nat_lt n id ≡ true → nat_eq n id ≡ false
    other n h = grind (arith, nat_tests)

-- what stands at the place is found, if it has the id
pub found_own : (id : ℕ) (revision : Revision) (stands found : Option Revision) →
    Some revision ≡ stands → if_own id stands ≡ found → nat_eq revision.id id ≡ true →
    Some revision ≡ found
found_own id revision stands found is tells own =
    let told : if_own id (Some revision) ≡ found =
    subst (λ (there : Option Revision). if_own id there ≡ found) (sym is) tells in
    rw own at told

-- nothing is found, if it has another id
pub found_other : (id : ℕ) (revision : Revision) (stands found : Option Revision) →
    Some revision ≡ stands → if_own id stands ≡ found → nat_eq revision.id id ≡ false →
    None ≡ found
found_other id revision stands found is tells other =
    let told : if_own id (Some revision) ≡ found =
    subst (λ (there : Option Revision). if_own id there ≡ found) (sym is) tells in
    rw other at told
