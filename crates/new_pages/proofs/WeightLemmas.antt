-- The contents of the first revisions of a list, and what is left of some room beside them.
use Rattle.std.proofs.Common.{◌≡◌, ◌+◌, ◌-◌, ◌≤◌, ◌<◌, ℕ, zero, suc, true, nat_lt, List, [], ◌∷◌, ◌++◌, length, take, slice_get, Some, ap, ◌∙◌, arith}
use Rattle.std.proofs.lemmas.Bool.Decides.{nat_tests}
use Rattle.site_types.specs.Content.{content_form}
use Rattle.site_types.specs.declared.revision.Revision.{Revision}
use Rattle.site_model.specs.Limits.{contents_length}
use Rattle.site_model.proofs.ContentLemmas.{contents_length-append}

-- one item more at the front
pub one_taken : {X : Type 0} (xs : List X) (n : ℕ) (x : X) → slice_get xs n ≡ Some x →
    take (n + 1) xs ≡ take n xs ++ x ∷ []
one_taken [] n x is = absurd (cc)
one_taken (y ∷ xs) zero x is =
    let same : y ≡ x = cc in
    ap (λ z. z ∷ []) same
one_taken (y ∷ xs) (suc n) x is =
    let next : (suc n) + 1 ≡ suc (n + 1) = omega arith in
    rw next (ap (λ more. y ∷ more) (one_taken xs n x is))

-- what is left of some room beside contents, with one revision more
pub left_more : (revisions : List Revision) (done left room : ℕ) (revision : Revision) →
    slice_get revisions done ≡ Some revision →
    left + contents_length (take done revisions) ≡ room → (form : ℕ) →
    form ≡ length (content_form revision.content) → form ≤ left →
    (left - form) + contents_length (take (done + 1) revisions) ≡ room
left_more revisions done left room revision at sum form form_is fits =
    let next = one_taken revisions done revision at in
    let both : contents_length (take (done + 1) revisions)
    ≡ contents_length (take done revisions) + contents_length (revision ∷ []) =
    ap contents_length next ∙ contents_length-append (take done revisions) (revision ∷ []) in
    omega (arith, both, sum, form_is, fits)

-- the first contents take no more than all
pub front_shorter : (revisions : List Revision) (n : ℕ) →
    contents_length (take n revisions) ≤ contents_length revisions
front_shorter [] zero = omega arith
front_shorter [] (suc n) = omega arith
front_shorter (revision ∷ revisions) zero = omega arith
front_shorter (revision ∷ revisions) (suc n) =
    let more = front_shorter revisions n in omega (arith, more)

-- contents that take more than is left take more than there is room
pub left_over : (revisions : List Revision) (done left room : ℕ) (revision : Revision) →
    slice_get revisions done ≡ Some revision →
    left + contents_length (take done revisions) ≡ room → (form : ℕ) →
    form ≡ length (content_form revision.content) → left < form →
    nat_lt room (contents_length revisions) ≡ true
left_over revisions done left room revision at sum form form_is over =
    let next = one_taken revisions done revision at in
    let both : contents_length (take (done + 1) revisions)
    ≡ contents_length (take done revisions) + contents_length (revision ∷ []) =
    ap contents_length next ∙ contents_length-append (take done revisions) (revision ∷ []) in
    let most = front_shorter revisions (done + 1) in
    let more : room < contents_length revisions =
    omega (arith, both, sum, form_is, over, most) in
    grind (arith, nat_tests)
