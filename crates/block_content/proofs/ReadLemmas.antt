-- What was read so far, and what is left to be read.
use Rattle.std.proofs.Common.{◌≡◌, ℕ, ◌+◌, ◌<◌, ◌==◌, Bool, true, false, List, [], ◌∷◌, ◌++◌, length, map, get_or, drop, Option, Some, None, option_map, option_and_then, Bor, refl, sym, ◌∙◌, ap, append_assoc, add-one, drop-cons, arith}
use Rattle.std.proofs.lemmas.Bool.Decides.{nat_tests}
use Rattle.serde_json.specs.Data.{Data, no_members}
use Rattle.serde_json.specs.Find.{get}
use Rattle.serde_json.specs.View.{view, items_view}
use Rattle.serde_json.specs.declared.value.Value.{Value}
use Rattle.site_types.specs.Content.{ContentValue, FitsLimits, content_of as made_of}
use Rattle.site_types.specs.declared.block.Block.{Block}
use Rattle.json_model.specs.declared.words.TheConstants.{MEMBER_BLOCKS, MEMBER_TITLE}
use Rattle.json_model.specs.Content.{content_of, block_of, within_limits}
use Rattle.json_model.specs.Limits.{fits_limits}
use Rattle.json_model.specs.Members.{are_named, has_exactly, each_of, list_of, text_at}
use Rattle.json_model.proofs.LimitLemmas.{fits_limits_decides}

-- no members have exactly these names where there are no names
pub no_members_left : (names : List (Bor (List ℕ))) →
    are_named (map (λ name. name.now) names) no_members ≡ (length names == 0)
no_members_left [] = refl
no_members_left (name ∷ names) = grind (arith, nat_tests)

-- one more that was read stands after what was read so far
one_more : {A : Type 0} (found : List A) (a : A) (rest : Option (List A)) →
    option_map (λ more. found ++ more) (option_map (λ more. a ∷ more) rest)
    ≡ option_map (λ more. (found ++ a ∷ []) ++ more) rest
one_more found a None = refl
one_more found a (Some more) = ap Some (sym (append_assoc found (a ∷ []) more))

-- where the next of the values is read, it stands after what was read so far
pub next_is_read : {A : Type 0} (read : Data → Option A) (values : List Value) (k : ℕ)
    (value : Value) (found : List A) (a : A) (whole : Option (List A)) →
    k < length values → value ≡ get_or values k value → read (view value) ≡ Some a →
    whole ≡ option_map (λ more. found ++ more) (each_of read (items_view (drop k values))) →
    whole ≡
    option_map (λ more. (found ++ a ∷ []) ++ more) (each_of read (items_view (drop (k + 1) values)))
next_is_read read values k value found a whole lt is e so_far =
    let rest = drop-cons values k value lt in
    let same : drop k values ≡ value ∷ drop (k + 1) values = rw add-one (rw (← is) at rest) in
    rw (same, e) at so_far ∙ one_more found a (each_of read (items_view (drop (k + 1) values)))

-- the test of limits is false where they are broken
broken : (content : ContentValue) → (FitsLimits content → ⊥) → fits_limits content ≡ false
broken content not_fits = at (fits_limits content) refl
  where
    at : (test : Bool) → fits_limits content ≡ test → test ≡ false
    at true e = absurd (not_fits ((fits_limits_decides content).0 e))
    at false e = refl

-- a title and blocks that were read make the content, where they keep the limits
parts_are_read : (value : Data) (title : List ℕ) (blocks : List Block) →
    has_exactly (MEMBER_BLOCKS.now ∷ MEMBER_TITLE.now ∷ []) value ≡ true →
    text_at MEMBER_TITLE.now value ≡ Some title →
    option_and_then (list_of block_of) (get MEMBER_BLOCKS.now value) ≡ Some blocks →
    content_of value ≡ within_limits title blocks
parts_are_read value title blocks exactly title_is blocks_are =
    rw (exactly, title_is, blocks_are) refl

-- a title and blocks within the limits are read as their content
pub content_is_read : (value : Data) (title : List ℕ) (blocks : List Block)
    (content : ContentValue) →
    has_exactly (MEMBER_BLOCKS.now ∷ MEMBER_TITLE.now ∷ []) value ≡ true →
    text_at MEMBER_TITLE.now value ≡ Some title →
    option_and_then (list_of block_of) (get MEMBER_BLOCKS.now value) ≡ Some blocks →
    FitsLimits (made_of title blocks) → content ≡ made_of title blocks →
    content_of value ≡ Some content
content_is_read value title blocks content exactly title_is blocks_are fits is =
    let parts = parts_are_read value title blocks exactly title_is blocks_are in
    let within = (fits_limits_decides (made_of title blocks)).1 fits in
    parts ∙ rw (within, is) refl

-- a title and blocks that break a limit are read as nothing
pub nothing_is_read : (value : Data) (title : List ℕ) (blocks : List Block) →
    has_exactly (MEMBER_BLOCKS.now ∷ MEMBER_TITLE.now ∷ []) value ≡ true →
    text_at MEMBER_TITLE.now value ≡ Some title →
    option_and_then (list_of block_of) (get MEMBER_BLOCKS.now value) ≡ Some blocks →
    (FitsLimits (made_of title blocks) → ⊥) → content_of value ≡ None
nothing_is_read value title blocks exactly title_is blocks_are not_fits =
    let parts = parts_are_read value title blocks exactly title_is blocks_are in
    let beyond = broken (made_of title blocks) not_fits in
    parts ∙ rw beyond refl
