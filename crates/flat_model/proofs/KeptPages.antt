-- Revisions that are there.
use Rattle.std.proofs.Common.{◌≡◌, ◌&&◌, ◌||◌, ℕ, Bool, true, false, cond, nat_eq, List, [], ◌∷◌, Some, None}
use Rattle.std.specs.List.{list_any}
use Rattle.site_types.specs.declared.revision.Revision.{Revision}
use Rattle.site_model.specs.Bodies.{revision_with}

-- a revision of a page is found by its id
pub own_found : (revisions : List Revision) (page id : ℕ) →
    list_any (λ (revision : Revision). nat_eq revision.id id && nat_eq revision.page page) revisions
    ≡ true → revision_with id revisions ≡ None → ⊥
own_found [] page id own none = cc
own_found (revision ∷ revisions) page id own none =
    by (nat_eq revision.id id) (nat_eq revision.page page) own none
    (own_found revisions page id)
  where
    by : (same paged : Bool) →
        ((same && paged) || list_any
        (λ (one : Revision). nat_eq one.id id && nat_eq one.page page) revisions) ≡ true →
        (cond same (Some revision) (revision_with id revisions)) ≡ None →
        (list_any (λ (one : Revision). nat_eq one.id id && nat_eq one.page page) revisions ≡ true →
        revision_with id revisions ≡ None → ⊥) → ⊥
    by true paged is missing later = cc
    by false paged is missing later = later is missing
