-- The form of a content, read and written.
use Rattle.std.proofs.Common.{◌≡◌, [], ◌∷◌, All, Some, None, refl, sym, subst, ⊎_elim}
use Rattle.serde_json.specs.Data.{Data, object, no_members, member}
use Rattle.serde_json.specs.Find.{as_str}
use Rattle.site_types.specs.Content.{ContentValue, FitsLimits}
use Rattle.json_model.specs.declared.words.TheConstants.{MEMBER_BLOCKS, MEMBER_TITLE}
use Rattle.json_model.specs.Content.{block_of, block_data, content_of, content_data, within_limits}
use Rattle.json_model.specs.Limits.{LinksToId, fits_limits}
use Rattle.json_model.specs.Members.{has_exactly, list_of}
use Rattle.json_model.proofs.OptionLemmas.{and_then_gives, then_some_gives, choice_gives}
use Rattle.json_model.proofs.LimitLemmas.{fits_limits_decides}
use Rattle.json_model.proofs.MemberLemmas.{two_members, text_form, each_reads_back, list_has_one_form, list_has}
use Rattle.json_model.proofs.BlockLemmas.{block_reads_back, block_right}

-- what is written of a content is read as it
pub reads_back : (content : ContentValue) → FitsLimits content → All LinksToId content.blocks →
    content_of (content_data content) ≡ Some content
reads_back content fits links =
    let blocks =
    each_reads_back block_of block_data LinksToId block_reads_back content.blocks links in
    let within = (fits_limits_decides content).1 fits in
    rw (blocks, within) refl

-- an object of blocks and a title
abbrev both : Data → Data → Data
both blocks title =
    object (member MEMBER_BLOCKS.now blocks (member MEMBER_TITLE.now title no_members))

-- What a content that is read says of its value: it is what is written of the content, which keeps
-- the limits and links to no more than ids.
abbrev IsRight : Data → ContentValue → Type 0
IsRight value content =
    (value ≡ content_data content) × FitsLimits content × All LinksToId content.blocks

-- an object of the two members
both_right : (blocks title : Data) (content : ContentValue) →
    content_of (both blocks title) ≡ Some content → IsRight (both blocks title) content
both_right blocks title content e =
    let text = and_then_gives _ (as_str title) content e in
    let list = and_then_gives (within_limits text.0) (list_of block_of blocks) content text.2 in
    let made : ContentValue = record { title = text.0; blocks = list.0 } in
    let within = then_some_gives (fits_limits made) made content list.2 in
    let title_is = text_form title text.0 text.1 in
    let blocks_is =
    list_has_one_form block_of block_data (λ v b e. (block_right v b e).0) blocks list.0 list.1 in
    let links = list_has block_of LinksToId (λ v b e. (block_right v b e).1) blocks list.0 list.1 in
    let form : both blocks title ≡ content_data made = cc in
    let P : ContentValue → Type 0 = λ c. IsRight (both blocks title) c in
    subst P within.1 (form, (fits_limits_decides made).0 within.0, links)

-- what is read as a content is what is written of it, within the limits
pub content_right : (value : Data) (content : ContentValue) → content_of value ≡ Some content →
    IsRight value content
content_right value content e =
    let names = MEMBER_BLOCKS.now ∷ MEMBER_TITLE.now ∷ [] in
    ⊎_elim
    (λ exactly.
    let found = two_members MEMBER_BLOCKS.now MEMBER_TITLE.now value exactly.0 in
    let is : value ≡ both found.0 found.1 = found.2 in
    let again : content_of (both found.0 found.1) ≡ Some content = cc in
    let P : Data → Type 0 = λ v. IsRight v content in
    subst P (sym is) (both_right found.0 found.1 content again))
    (λ other. absurd (nothing other.1))
    (choice_gives (has_exactly names value) _ _ content e)
  where
    nothing : None ≡ Some content → ⊥
    nothing h = cc
