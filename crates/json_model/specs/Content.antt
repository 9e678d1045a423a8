-- The JSON form of a content: {"blocks":[..],"title":".."} with the blocks {"heading":".."},
-- {"paragraph":".."}, {"list":["..",..]} and {"page":1}.
use Rattle.std.specs.Prelude.{ℕ, List, [], ◌∷◌, map, Option, None, option_map, option_and_then, if◌then◌else◌}
use Rattle.std.specs.Bool.{then_some}
use Rattle.serde_json.specs.Data.{Data, unsigned, number, string, array, object, no_members, member}
use Rattle.serde_json.specs.Find.{get, as_str}
use Rattle.serde_json.specs.View.{items_of}
use Rattle.site_types.specs.Content.{ContentValue}
use Rattle.site_types.specs.declared.block.Block.{Block}
use Rattle.site_types.specs.declared.block.Block.TheVariants.{Heading, Paragraph, Items, Page}
use Rattle.json_model.specs.declared.words.TheConstants.{MEMBER_BLOCKS, MEMBER_TITLE, MEMBER_HEADING, MEMBER_PARAGRAPH, MEMBER_LIST, MEMBER_PAGE}
use Rattle.json_model.specs.Limits.{fits_limits}
use Rattle.json_model.specs.Members.{has_exactly, text_at, list_of, id_of}

-- a block: an object of one member, which is a heading or a paragraph with a text, a list with
-- texts, or a page with its id
abbrev pub block_of : Data → Option Block
block_of value =
    if has_exactly (MEMBER_HEADING.now ∷ []) value
    then option_map Heading (text_at MEMBER_HEADING.now value)
    else if has_exactly (MEMBER_PARAGRAPH.now ∷ []) value
    then option_map Paragraph (text_at MEMBER_PARAGRAPH.now value)
    else if has_exactly (MEMBER_LIST.now ∷ []) value
    then option_map Items (option_and_then (list_of as_str) (get MEMBER_LIST.now value))
    else if has_exactly (MEMBER_PAGE.now ∷ []) value
    then option_map Page (option_and_then id_of (get MEMBER_PAGE.now value))
    else None

-- the content of a title and blocks, where it keeps the limits
abbrev pub within_limits : List ℕ → List Block → Option ContentValue
within_limits title blocks =
    let content : ContentValue = record { title = title; blocks = blocks } in
    then_some (fits_limits content) content

-- a content: an object of exactly the members blocks and title, within the limits of contents
abbrev pub content_of : Data → Option ContentValue
content_of value =
    if has_exactly (MEMBER_BLOCKS.now ∷ MEMBER_TITLE.now ∷ []) value
    then option_and_then (λ title. option_and_then (within_limits title)
    (option_and_then (list_of block_of) (get MEMBER_BLOCKS.now value)))
    (text_at MEMBER_TITLE.now value)
    else None

-- an object of one member
abbrev pub only : List ℕ → Data → Data
only name value = object (member name value no_members)

-- what is written of a block
abbrev pub block_data : Block → Data
block_data (Heading text) = only MEMBER_HEADING.now (string text)
block_data (Paragraph text) = only MEMBER_PARAGRAPH.now (string text)
block_data (Items texts) = only MEMBER_LIST.now (array (items_of (map string texts)))
block_data (Page page) = only MEMBER_PAGE.now (number (unsigned page))

-- what is written of a content
abbrev pub content_data : ContentValue → Data
content_data content =
    let blocks = array (items_of (map block_data content.blocks)) in
    let title = member MEMBER_TITLE.now (string content.title) no_members in
    object (member MEMBER_BLOCKS.now blocks title)
