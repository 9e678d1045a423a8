-- The rules on a page that is to be made: those on its place, then the ids, then its content.
use Rattle.std.proofs.Common.{◌≡◌, ◌+◌, ◌<◌, ◌≤◌, ℕ, List, [], ◌∷◌, ◌++◌, length, Option, Some, None, Err, Fits, w64, refl, ap, ◌∙◌, arith}
use Rattle.page_tree.specs.Rows.{rows_of}
use Rattle.site_ids.specs.declared.ids.TheConstants.{LAST_PAGE_ID, LAST_REVISION_ID}
use Rattle.site_types.specs.Content.{ContentValue, FitsLimits, content_form}
use Rattle.site_types.specs.declared.refusal.Refusal.{Refusal}
use Rattle.site_types.specs.declared.refusal.Refusal.TheVariants.{ContentFull, IdsFull}
use Rattle.site_types.specs.declared.revision.Revision.{Revision}
use Rattle.revision_shelf.specs.Shelf.{total_weight}
use Rattle.site_model.specs.World as worlds
use Rattle.site_model.specs.Limits.{MAX_CONTENTS, contents_length}
use Rattle.site_model.specs.Create.{created, fresh_body, plain_revision}
use Rattle.site_model.specs.Rules.{first_of, slug_taken, steps_full, too_deep, url_too_long, ids_full, content_full}
use Rattle.site_model.proofs.ContentLemmas.{contents_length-append, within_room, past_room}
use Rattle.site_part.specs.declared.fault.Fault.{Fault}
use Rattle.site_part.specs.declared.fault.Fault.TheVariants.{Refused, Memory}
use Rattle.new_pages.specs.Making.{IsPlace, place_refusal, ids_refusal, page_rules, IsNewPage}
use Rattle.new_pages.specs.Plans.{PlansBy}
use Rattle.new_pages.proofs.RuleLemmas.{front_refused, front_passed}

-- the weight of revisions is the length of their contents
pub weights_are : (revisions : List Revision) → total_weight revisions ≡ contents_length revisions
weights_are [] = refl
weights_are (revision ∷ revisions) =
    ap (λ n. length (content_form revision.content) + n) (weights_are revisions)

-- with one more revision contents take what its content takes more
pub one_longer : (revisions : List Revision) (revision : Revision) →
    contents_length (revisions ++ revision ∷ [])
    ≡ contents_length revisions + length (content_form revision.content)
one_longer revisions revision =
    let sum = contents_length-append revisions (revision ∷ []) in omega (arith, sum)

-- contents that have room, and one more
pub sum_fits : (weight form all : ℕ) (content : ContentValue) → weight ≡ all → all ≤ MAX_CONTENTS →
    form ≡ length (content_form content) → FitsLimits content → Fits w64 (weight + form)
sum_fits weight form all content weight_is room form_is fits =
    let most = fits.form_fits in omega (arith, weight_is, room, form_is, most)

module _ (part : worlds.TreePart) (now caller parent : ℕ) (slug : List ℕ) (content : ContentValue)
  where
    -- the world after the creation
    abbrev after : worlds.TreePart
    after = created part now caller parent slug content

    -- the revision that is made
    abbrev first : Revision
    first = plain_revision part.next_revision part.next_page caller (worlds.time_at part now) content

    -- the rules on the place
    abbrev place_rules : List (Option Refusal)
    place_rules =
        slug_taken part.tree parent slug
        ∷ steps_full (rows_of after.tree)
        ∷ too_deep (rows_of after.tree)
        ∷ url_too_long (rows_of after.tree)
        ∷ []

    -- the rules on the ids
    abbrev id_rules : List (Option Refusal)
    id_rules =
        ids_full LAST_PAGE_ID part.next_page ∷ ids_full LAST_REVISION_ID part.next_revision ∷ []

    -- the rule on the content
    abbrev content_rule : Option Refusal
    content_rule = content_full after.revisions

    -- what is told of the place
    abbrev place_told : Option Refusal
    place_told =
        place_refusal part.tree part.next_page parent slug (fresh_body caller part.next_revision)

    -- a place that is refused
    pub place_refuses : (fault : Fault) →
        PlansBy place_told (IsPlace part.tree parent slug) (Err fault) →
        PlansBy (first_of (page_rules part now caller parent slug content))
        (IsNewPage part parent slug) (Err fault)
    place_refuses (Refused refusal) is =
        front_refused place_rules (id_rules ++ content_rule ∷ []) refusal is
    place_refuses Memory is = tt

    -- a rule alone that refuses
    alone : (rule : Option Refusal) (refusal : Refusal) → rule ≡ Some refusal →
        first_of (rule ∷ []) ≡ Some refusal
    alone None refusal is = absurd (cc)
    alone (Some other) refusal is = is

    -- one that does not
    none_alone : (rule : Option Refusal) → rule ≡ None → first_of (rule ∷ []) ≡ None
    none_alone None is = refl
    none_alone (Some other) is = absurd (cc)

    -- ids that are given out
    pub ids_refuse : place_told ≡ None → ids_refusal part ≡ Some IdsFull →
        first_of (page_rules part now caller parent slug content) ≡ Some IdsFull
    ids_refuse clear full =
        front_passed place_rules (id_rules ++ content_rule ∷ []) clear
        ∙ front_refused id_rules (content_rule ∷ []) IdsFull full

    -- content for which there is no room
    pub content_refuses : place_told ≡ None → ids_refusal part ≡ None → (weight sum : ℕ) →
        weight ≡ contents_length part.revisions → sum ≡ weight + length (content_form content) →
        MAX_CONTENTS < sum →
        first_of (page_rules part now caller parent slug content) ≡ Some ContentFull
    content_refuses clear ids weight sum weight_is sum_is over =
        let longer = one_longer part.revisions first in
        let past : MAX_CONTENTS < contents_length after.revisions =
        omega (arith, longer, weight_is, sum_is, over) in
        front_passed place_rules (id_rules ++ content_rule ∷ []) clear
        ∙ (front_passed id_rules (content_rule ∷ []) ids
        ∙ alone content_rule ContentFull (past_room after.revisions past))

    -- content for which there is room
    pub page_clear : place_told ≡ None → ids_refusal part ≡ None → (weight sum : ℕ) →
        weight ≡ contents_length part.revisions → sum ≡ weight + length (content_form content) →
        sum ≤ MAX_CONTENTS →
        first_of (page_rules part now caller parent slug content) ≡ None
    page_clear clear ids weight sum weight_is sum_is fits =
        let longer = one_longer part.revisions first in
        let within : contents_length after.revisions ≤ MAX_CONTENTS =
        omega (arith, longer, weight_is, sum_is, fits) in
        front_passed place_rules (id_rules ++ content_rule ∷ []) clear
        ∙ (front_passed id_rules (content_rule ∷ []) ids
        ∙ none_alone content_rule (within_room after.revisions within))
