-- What the contents of all revisions take together, where one more is there or some are gone.
use Rattle.std.proofs.Common.{◌≡◌, ◌+◌, ◌<◌, ◌≤◌, ℕ, Bool, true, false, cond, List, [], ◌∷◌, ◌++◌, length, filter, Some, None, nat_lt, refl, arith}
use Rattle.std.proofs.lemmas.Bool.Decides.{nat_tests}
use Rattle.site_types.specs.Content.{content_form}
use Rattle.site_types.specs.declared.refusal.Refusal.{Refusal}
use Rattle.site_types.specs.declared.refusal.Refusal.TheVariants.{ContentFull}
use Rattle.site_types.specs.declared.revision.Revision.{Revision}
use Rattle.site_model.specs.Limits.{MAX_CONTENTS, contents_length}
use Rattle.site_model.specs.Rules.{content_full}
use Rattle.site_model.specs.Rules.{refused_if}

-- the contents of two lists take what both take
pub contents_length-append : (xs ys : List Revision) →
    contents_length (xs ++ ys) ≡ contents_length xs + contents_length ys
contents_length-append [] ys = omega arith
contents_length-append (revision ∷ xs) ys =
    let more = contents_length-append xs ys in omega (arith, more)

-- one more revision is within a limit where there is room for its content
pub one_more : (limit : ℕ) (revisions : List Revision) (revision : Revision) →
    contents_length revisions + length (content_form revision.content) ≤ limit →
    contents_length (revisions ++ revision ∷ []) ≤ limit
one_more limit revisions revision room =
    let sum = contents_length-append revisions (revision ∷ []) in omega (arith, sum, room)

-- the revisions that a test keeps take no more than all
pub contents_length-filter : (keep : Revision → Bool) (revisions : List Revision) →
    contents_length (filter keep revisions) ≤ contents_length revisions
contents_length-filter keep [] = omega arith
contents_length-filter keep (revision ∷ revisions) =
    choice (keep revision) (contents_length-filter keep revisions)
  where
    choice : (t : Bool) →
        contents_length (filter keep revisions) ≤ contents_length revisions →
        contents_length (cond t (revision ∷ filter keep revisions) (filter keep revisions))
        ≤ contents_length (revision ∷ revisions)
    choice true more = omega (arith, more)
    choice false more = omega (arith, more)

-- what is within a limit is not refused
pub within : (limit n : ℕ) (refusal : Refusal) → n ≤ limit →
    refused_if (nat_lt limit n) refusal ≡ None
within limit n refusal fits = choice (nat_lt limit n) (grind (arith, nat_tests))
  where
    choice : (t : Bool) → t ≡ false → refused_if t refusal ≡ None
    choice true h = absurd (cc)
    choice false h = refl

-- and what is past it is
pub past : (limit n : ℕ) (refusal : Refusal) → limit < n →
    refused_if (nat_lt limit n) refusal ≡ Some refusal
past limit n refusal over = choice (nat_lt limit n) (grind (arith, nat_tests))
  where
    choice : (t : Bool) → t ≡ true → refused_if t refusal ≡ Some refusal
    choice true h = refl
    choice false h = absurd (cc)

-- contents that take no more than they may are not refused
pub within_room : (revisions : List Revision) → contents_length revisions ≤ MAX_CONTENTS →
    content_full revisions ≡ None
within_room revisions fits = within MAX_CONTENTS (contents_length revisions) ContentFull fits

-- and others are
pub past_room : (revisions : List Revision) → MAX_CONTENTS < contents_length revisions →
    content_full revisions ≡ Some ContentFull
past_room revisions over = past MAX_CONTENTS (contents_length revisions) ContentFull over
