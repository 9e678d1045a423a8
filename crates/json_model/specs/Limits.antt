-- The limits of a content as tests, and the links in it.
use Rattle.std.specs.Prelude.{◌&&◌, nat_le, Bool, true, length}
use Rattle.std.specs.List.{list_all}
use Rattle.site_types.specs.Content.{ContentValue, content_form}
use Rattle.site_types.specs.Ids.{IsPageId}
use Rattle.site_types.specs.declared.limits.TheConstants.{MAX_TITLE_BYTES, MAX_BLOCKS, MAX_LIST_TEXTS, MAX_CONTENT_BYTES}
use Rattle.site_types.specs.declared.block.Block.{Block}
use Rattle.site_types.specs.declared.block.Block.TheVariants.{Items, Page}
use Rattle.json_model.specs.Members.{is_within}

-- whether a block, if it is a list, has 1 to 1,000 texts
abbrev pub fits_block : Block → Bool
fits_block (Items texts) = is_within 1 MAX_LIST_TEXTS (length texts)
fits_block _ = true

-- whether a content keeps its limits: a title of 1 to 255 bytes, at most 1,000 blocks, lists of 1
-- to 1,000 texts, and a byte form of at most 65,536 bytes
abbrev pub fits_limits : ContentValue → Bool
fits_limits content =
    is_within 1 MAX_TITLE_BYTES (length content.title)
    && (nat_le (length content.blocks) MAX_BLOCKS
    && (list_all fits_block content.blocks
    && nat_le (length (content_form content)) MAX_CONTENT_BYTES))

-- a block, if it links to a page, links to an id of a page
abbrev pub LinksToId : Block → Type 0
LinksToId (Page page) = IsPageId page
LinksToId _ = Unit {0}
