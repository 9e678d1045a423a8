-- Reading blocks and contents.
use Rattle.std.specs.Prelude.{ℕ, ◌==◌, ◌&&◌, nat_le, Bool, true, List, length, Option, None, if◌then◌else◌}
use Rattle.std.specs.List.{list_all}
use Rattle.site_types.specs.Content.{ContentValue, content_of, content_form}
use Rattle.site_types.specs.declared.limits.TheConstants.{MAX_TITLE_BYTES, MAX_BLOCKS, MAX_LIST_TEXTS, MAX_CONTENT_BYTES}
use Rattle.site_types.specs.declared.block.Block.{Block}
use Rattle.site_types.specs.declared.block.Block.TheVariants.{Heading, Paragraph, Items, Page}
use Rattle.content_codec.specs.Reading.{◌>>=◌, kept, made, both_at, counted_at, is_within, byte_at, number_at}
use Rattle.content_codec.specs.Fields.{page_at, short_text_at, text_at}

-- the texts of a list block
unfoldable pub texts_at : List ℕ → Option (List (List ℕ) × List ℕ)
texts_at bytes = counted_at (number_at 2) text_at bytes

-- what a block holds, by its tag
abbrev pub block_of : ℕ → List ℕ → Option (Block × List ℕ)
block_of tag bytes =
    if tag == 1 then made Heading (text_at bytes)
    else if tag == 2 then made Paragraph (text_at bytes)
    else if tag == 3 then made Items (texts_at bytes)
    else if tag == 4 then made Page (page_at bytes)
    else None

-- a block
unfoldable pub block_at : List ℕ → Option (Block × List ℕ)
block_at bytes = byte_at bytes >>= λ tag. block_of tag.0 tag.1

-- the blocks of a content
unfoldable pub blocks_at : List ℕ → Option (List Block × List ℕ)
blocks_at bytes = counted_at (number_at 2) block_at bytes

-- whether a block, if it is a list, has 1 to 1,000 texts
abbrev pub fits_block : Block → Bool
fits_block (Items texts) = is_within 1 MAX_LIST_TEXTS (length texts)
fits_block _ = true

-- whether a content keeps its limits
unfoldable pub fits_limits : ContentValue → Bool
fits_limits content =
    is_within 1 MAX_TITLE_BYTES (length content.title)
    && (nat_le (length content.blocks) MAX_BLOCKS
    && (list_all fits_block content.blocks
    && nat_le (length (content_form content)) MAX_CONTENT_BYTES))

-- a content
unfoldable pub content_at : List ℕ → Option (ContentValue × List ℕ)
content_at bytes =
    kept fits_limits (made (λ x. content_of x.0 x.1) (both_at short_text_at blocks_at bytes))
