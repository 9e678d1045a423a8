-- The revisions that the shelf is seen as, read from what it keeps.
use Rattle.std.proofs.Common.{◌≡◌, ℕ, zero, suc, nat_eq, List, [], ◌∷◌, Option, Some, None, map, slice_get, refl, ap, sym, ◌∙◌}
use Rattle.std.specs.List.{AllByRecursion}
use Rattle.std.specs.Option.{option_map}
use Rattle.std.specs.Map.{lookup}
use Rattle.site_types.specs.declared.revision.Revision.{Revision}
use Rattle.revision_shelf.specs.declared.shelf.Kept.{Kept}
use Rattle.revision_shelf.specs.Shelf.{revision_with}
use Rattle.revision_shelf.specs.Kept.{seen_before, revisions_seen, IsKept}
use Rattle.revision_shelf.proofs.ListLemmas.{All-weaker}
use Rattle.revision_shelf.proofs.RiseLemmas.{found_by_own_id}

-- a revision that is kept stands in front of those seen before
seen_one : (o : Option Kept) (one : Revision) (revisions : List Revision) →
    option_map (λ (kept : Kept). kept.revision) o ≡ Some one →
    seen_before o revisions ≡ one ∷ revisions
seen_one None one revisions h = cc
seen_one (Some kept) one revisions h =
    let same : kept.revision ≡ one = cc in
    ap (λ (r : Revision). r ∷ revisions) same

-- where each is what is kept of its id, they are what is seen of their ids
seen_from_each : (stored : List (ℕ × Kept)) (revisions : List Revision) →
    AllByRecursion (λ r. option_map (λ (kept : Kept). kept.revision) (lookup (nat_eq r.id) stored) ≡
    Some r) revisions → revisions_seen stored (map (λ r. r.id) revisions) ≡ revisions
seen_from_each stored [] all = refl
seen_from_each stored (r ∷ rs) all =
    seen_one (lookup (nat_eq r.id) stored) r (revisions_seen stored (map (λ r. r.id) rs)) all.0
    ∙ ap (λ xs. r ∷ xs) (seen_from_each stored rs all.1)

-- an element at a place of a list is one of the function's at that place
place_of_map : {X Y : Type 0} (f : X → Y) (xs : List X) (i : ℕ) →
    slice_get (map f xs) i ≡ option_map f (slice_get xs i)
place_of_map f [] i = refl
place_of_map f (x ∷ xs) zero = refl
place_of_map f (x ∷ xs) (suc i) = place_of_map f xs i

-- what holds of each holds at each place
All-at : {X : Type 0} (P : X → Type 0) (xs : List X) (i : ℕ) (x : X) → AllByRecursion P xs →
    slice_get xs i ≡ Some x → P x
All-at P [] i x all h = cc
All-at P (y ∷ xs) zero x all h = let same : y ≡ x = cc in rw (← same) (all.0)
All-at P (y ∷ xs) (suc i) x all h = All-at P xs i x all.1 h

-- nothing that is kept is no revision
gone : (o : Option Kept) (r : Revision) → o ≡ None →
    option_map (λ (kept : Kept). kept.revision) o ≡ Some r → ⊥
gone None r is h = cc
gone (Some kept) r is h = cc

module _ (stored : List (ℕ × Kept)) (newest : List (ℕ × ℕ)) (order : List ℕ) (weight : ℕ)
    (revisions : List Revision) (kept : IsKept stored newest order weight revisions) where
  -- each is what is kept of its id
  pub kept_of_own_id : AllByRecursion (λ r. option_map (λ (kept : Kept). kept.revision) (lookup
      (nat_eq r.id) stored) ≡ Some r) revisions
  kept_of_own_id =
      All-weaker (λ (r : Revision). revision_with r.id revisions ≡ Some r) (λ (r : Revision).
      option_map (λ (kept : Kept). kept.revision) (lookup (nat_eq r.id) stored) ≡ Some r)
      (λ r h. sym (kept.found r.id) ∙ h) revisions (found_by_own_id 0 revisions kept.rises)

  -- what is seen of the order is what is kept
  pub seen-kept : revisions_seen stored order ≡ revisions
  seen-kept = rw (← kept.ids) (seen_from_each stored revisions kept_of_own_id)

  -- the revision at a place is what is kept of the id at that place
  pub kept_at : (place id : ℕ) (one : Kept) → slice_get order place ≡ Some id →
      lookup (nat_eq id) stored ≡ Some one → slice_get revisions place ≡ Some one.revision
  kept_at place id one at is = by (slice_get revisions place) refl
    where
      by : (o : Option Revision) → slice_get revisions place ≡ o →
          slice_get revisions place ≡ Some one.revision
      by None e =
          let mapped = place_of_map (λ (r : Revision). r.id) revisions place in
          let none : slice_get order place ≡ None = rw (← kept.ids) (mapped ∙ rw e refl) in absurd cc
      by (Some r) e =
          let mapped = place_of_map (λ (r : Revision). r.id) revisions place in
          let some : slice_get order place ≡ Some r.id = rw (← kept.ids) (mapped ∙ rw e refl) in
          let same : r.id ≡ id = cc in
          let own = All-at (λ (r : Revision). option_map (λ (kept : Kept). kept.revision) (lookup
          (nat_eq r.id) stored) ≡ Some r) revisions place r kept_of_own_id e in
          let own_at : option_map (λ (kept : Kept). kept.revision) (lookup (nat_eq id) stored) ≡
          Some r = rw (← same) own in
          let found : Some one.revision ≡ Some r =
          ap (option_map (λ (kept : Kept). kept.revision)) (sym is) ∙ own_at in
          e ∙ sym found

  -- what is not kept stands at no place
  pub none_at : (place id : ℕ) → slice_get order place ≡ Some id →
      lookup (nat_eq id) stored ≡ None → ⊥
  none_at place id at is = by (slice_get revisions place) refl
    where
      by : (o : Option Revision) → slice_get revisions place ≡ o → ⊥
      by None e =
          let mapped = place_of_map (λ (r : Revision). r.id) revisions place in
          let none : slice_get order place ≡ None = rw (← kept.ids) (mapped ∙ rw e refl) in cc
      by (Some r) e =
          let mapped = place_of_map (λ (r : Revision). r.id) revisions place in
          let some : slice_get order place ≡ Some r.id = rw (← kept.ids) (mapped ∙ rw e refl) in
          let same : r.id ≡ id = cc in
          let own = All-at (λ (r : Revision). option_map (λ (kept : Kept). kept.revision) (lookup
          (nat_eq r.id) stored) ≡ Some r) revisions place r kept_of_own_id e in
          let own_at : option_map (λ (kept : Kept). kept.revision) (lookup (nat_eq id) stored) ≡
          Some r = rw (← same) own in
          gone (lookup (nat_eq id) stored) r is own_at
