-- The form of a block, read and written.
use Rattle.std.proofs.Common.{◌≡◌, ℕ, true, List, [], ◌∷◌, Option, Some, None, option_map, option_and_then, refl, sym, ap, subst, ⊎_elim}
use Rattle.serde_json.specs.Data.{Data, unsigned, number, string}
use Rattle.serde_json.specs.Find.{get, as_str}
use Rattle.site_ids.specs.declared.ids.TheConstants.{LAST_PAGE_ID}
use Rattle.site_types.specs.Ids.{IsPageId}
use Rattle.site_types.specs.declared.block.Block.{Block}
use Rattle.site_types.specs.declared.block.Block.TheVariants.{Heading, Paragraph, Items, Page}
use Rattle.json_model.specs.declared.words.TheConstants.{MEMBER_HEADING, MEMBER_PARAGRAPH, MEMBER_LIST, MEMBER_PAGE}
use Rattle.json_model.specs.Content.{block_of, block_data, only}
use Rattle.json_model.specs.Limits.{LinksToId}
use Rattle.json_model.specs.Members.{has_exactly, is_within, text_at, list_of, id_of, whole_of}
use Rattle.json_model.proofs.OptionLemmas.{and_then_gives, map_gives, then_some_gives, choice_gives}
use Rattle.json_model.proofs.LimitLemmas.{is_within_decides}
use Rattle.json_model.proofs.MemberLemmas.{one_member, text_form, whole_form, each_reads_back, list_has_one_form}

-- no condition on a text
abbrev Any : List ℕ → Type 0
Any text = Unit {0}

-- an id of a page is read as it
pub id_reads_back : (page : ℕ) → IsPageId page → id_of (number (unsigned page)) ≡ Some page
id_reads_back page range = rw ((is_within_decides 1 LAST_PAGE_ID page).1 range)

-- what is read as an id is that number, and it is in the range
pub id_form : (value : Data) (page : ℕ) → id_of value ≡ Some page →
    (value ≡ number (unsigned page)) × IsPageId page
id_form value page e =
    let found = and_then_gives _ (whole_of value) page e in
    let tested = then_some_gives (is_within 1 LAST_PAGE_ID found.0) found.0 page found.2 in
    let is = whole_form value found.0 found.1 in
    let range = (is_within_decides 1 LAST_PAGE_ID found.0).0 tested.0 in
    (rw (← tested.1) is, rw (← tested.1) range)

-- what is written of a block that links to no more than ids is read as it
pub block_reads_back : (block : Block) → LinksToId block → block_of (block_data block) ≡ Some block
block_reads_back (Heading text) is = refl
block_reads_back (Paragraph text) is = refl
block_reads_back (Items texts) is =
    rw (each_reads_back as_str string Any (λ text _. refl) texts (λ k d h. tt))
block_reads_back (Page page) is = rw (id_reads_back page is)

-- What a block that is read says of its value: it is what is written of the block, and the block
-- links to no more than ids.
abbrev IsRight : Data → Block → Type 0
IsRight value block = (value ≡ block_data block) × LinksToId block

-- a heading
heading_right : (found : Data) (block : Block) → option_map Heading (as_str found) ≡ Some block →
    IsRight (only MEMBER_HEADING.now found) block
heading_right found block e =
    let text = map_gives Heading (as_str found) block e in
    let is = text_form found text.0 text.1 in
    rw (← text.2) (ap (only MEMBER_HEADING.now) is, tt)

-- a paragraph
paragraph_right : (found : Data) (block : Block) →
    option_map Paragraph (as_str found) ≡ Some block →
    IsRight (only MEMBER_PARAGRAPH.now found) block
paragraph_right found block e =
    let text = map_gives Paragraph (as_str found) block e in
    let is = text_form found text.0 text.1 in
    rw (← text.2) (ap (only MEMBER_PARAGRAPH.now) is, tt)

-- a list
list_right : (found : Data) (block : Block) → option_map Items (list_of as_str found) ≡ Some block →
    IsRight (only MEMBER_LIST.now found) block
list_right found block e =
    let texts = map_gives Items (list_of as_str found) block e in
    let is = list_has_one_form as_str string text_form found texts.0 texts.1 in
    rw (← texts.2) (ap (only MEMBER_LIST.now) is, tt)

-- a link
page_right : (found : Data) (block : Block) → option_map Page (id_of found) ≡ Some block →
    IsRight (only MEMBER_PAGE.now found) block
page_right found block e =
    let page = map_gives Page (id_of found) block e in
    let is = id_form found page.0 page.1 in
    rw (← page.2) (ap (only MEMBER_PAGE.now) is.0, is.1)

-- where the value has one member alone, what is right of it is right of the value
from_member : (name : List ℕ) (read : Data → Option Block) (value : Data) (block : Block) →
    has_exactly (name ∷ []) value ≡ true → read value ≡ Some block →
    ((found : Data) → read (only name found) ≡ Some block → IsRight (only name found) block) →
    IsRight value block
from_member name read value block one e right =
    let found = one_member name value one in
    let is : value ≡ only name found.0 = found.1 in
    let again : read (only name found.0) ≡ Some block = cc in
    let P : Data → Type 0 = λ v. IsRight v block in
    subst P (sym is) (right found.0 again)

-- what is read as a block is what is written of it, and links to no more than ids
pub block_right : (value : Data) (block : Block) → block_of value ≡ Some block →
    IsRight value block
block_right value block e =
    ⊎_elim
    (λ one. from_member MEMBER_HEADING.now (λ v. option_map Heading (text_at MEMBER_HEADING.now v))
    value block one.0 one.1 (λ found. heading_right found block))
    (λ other. ⊎_elim
    (λ one. from_member MEMBER_PARAGRAPH.now
    (λ v. option_map Paragraph (text_at MEMBER_PARAGRAPH.now v))
    value block one.0 one.1 (λ found. paragraph_right found block))
    (λ other. ⊎_elim
    (λ one. from_member MEMBER_LIST.now
    (λ v. option_map Items (option_and_then (list_of as_str) (get MEMBER_LIST.now v)))
    value block one.0 one.1 (λ found. list_right found block))
    (λ other. ⊎_elim
    (λ one. from_member MEMBER_PAGE.now
    (λ v. option_map Page (option_and_then id_of (get MEMBER_PAGE.now v)))
    value block one.0 one.1 (λ found. page_right found block))
    (λ none. absurd (nothing none.1))
    (choice_gives (has_exactly (MEMBER_PAGE.now ∷ []) value) _ _ block other.1))
    (choice_gives (has_exactly (MEMBER_LIST.now ∷ []) value) _ _ block other.1))
    (choice_gives (has_exactly (MEMBER_PARAGRAPH.now ∷ []) value) _ _ block other.1))
    (choice_gives (has_exactly (MEMBER_HEADING.now ∷ []) value) _ _ block e)
  where
    nothing : None ≡ Some block → ⊥
    nothing h = cc
