-- Which contents have a form. The form itself, `content_form`, stands with the limits of contents.
use Rattle.std.specs.Prelude.{All, IsUtf8}
use Rattle.site_types.specs.Content.{ContentValue, FitsLimits}
use Rattle.site_types.specs.Ids.{IsPageId}
use Rattle.site_types.specs.declared.block.Block.{Block}
use Rattle.site_types.specs.declared.block.Block.TheVariants.{Heading, Paragraph, Items, Page}

-- the texts of a block are UTF-8, and its link is an id of a page
abbrev pub IsBlock : Block → Type 0
IsBlock (Heading text) = IsUtf8 text
IsBlock (Paragraph text) = IsUtf8 text
IsBlock (Items texts) = All IsUtf8 texts
IsBlock (Page page) = IsPageId page

-- a content within its limits, with texts in UTF-8 and links to ids of pages
pub record IsContent (content : ContentValue) : Type 0 where
  pub fits : FitsLimits content
  pub title : IsUtf8 content.title
  pub blocks : All IsBlock content.blocks
