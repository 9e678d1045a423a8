-- Revisions whose ids rise, before others whose ids rise from above theirs on; and what is kept of
-- a page where revisions come that are other pages'.
use Rattle.std.proofs.Common.{◌≡◌, ◌<◌, ℕ, List, [], ◌∷◌, ◌++◌, refl, sym, subst, append_assoc}
use Rattle.std.specs.List.{AllByRecursion}
use Rattle.site_types.specs.declared.body.Body.{Body}
use Rattle.site_types.specs.declared.revision.Revision.{Revision}
use Rattle.site_model.specs.Sound.{IdsRise, IsBody}
use Rattle.site_model.proofs.CreationSound.{body_front}

-- ids that rise up to below a number, and then others that rise from there on, rise
pub rise_both : (before middle : ℕ) (revisions more : List Revision) → before < middle →
    AllByRecursion (λ (revision : Revision). revision.id < middle) revisions →
    IdsRise before revisions → ((from : ℕ) → from < middle → IdsRise from more) →
    IdsRise before (revisions ++ more)
rise_both before middle [] more lower all rise next = next before lower
rise_both before middle (revision ∷ revisions) more lower all rise next =
    (rise.0, rise_both revision.id middle revisions more all.0 all.1 rise.1 next)

-- what is kept of a page, where revisions come that are not its own
pub body_more : (revisions more : List Revision) (users next : ℕ) (workflows : List (List ℕ))
    (id : ℕ) (body : Body) →
    AllByRecursion (λ (revision : Revision). revision.page ≡ id → ⊥) more →
    IsBody revisions users next workflows id body →
    IsBody (revisions ++ more) users next workflows id body
body_more revisions [] users next workflows id body other is =
    subst (λ (all : List Revision). IsBody all users next workflows id body)
    (sym (nothing_more revisions)) is
  where
    nothing_more : (xs : List Revision) → xs ++ [] ≡ xs
    nothing_more [] = refl
    nothing_more (x ∷ xs) = rw (nothing_more xs) refl
body_more revisions (new ∷ more) users next workflows id body other is =
    subst (λ (all : List Revision). IsBody all users next workflows id body)
    (append_assoc revisions (new ∷ []) more)
    (body_more (revisions ++ new ∷ []) more users next workflows id body other.1
    (body_front revisions new users next workflows id body other.0 is))
