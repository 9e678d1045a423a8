-- What a content is, its form in bytes and its limits.
use Rattle.std.specs.Prelude.{ℕ, ◌-◌, ◌≤◌, Option, List, [], ◌∷◌, ◌++◌, length, All}
use Rattle.std.specs.Option.{SomeIff}
use Rattle.std.specs.Int.{w16, w32, to_be_bytes}
use Rattle.site_types.specs.declared.block.Block.{Block}
use Rattle.site_types.specs.declared.block.Block.TheVariants.{Heading, Paragraph, Items, Page}
use Rattle.site_types.specs.declared.limits.TheConstants.{MAX_TITLE_BYTES, MAX_BLOCKS, MAX_LIST_TEXTS, MAX_CONTENT_BYTES}

-- a title, as its bytes, and the blocks in their order
pub record ContentValue : Type 0 where
  pub title : List ℕ
  pub blocks : List Block

-- the content of a title and blocks
abbrev pub content_of : List ℕ → List Block → ContentValue
content_of title blocks = record { title = title; blocks = blocks }

-- the form of a text: its length in four bytes, high byte first, and its bytes
abbrev pub text_form : List ℕ → List ℕ
text_form text = to_be_bytes w32 (length text) ++ text

-- the forms of texts, one after the other
abbrev pub texts_form : List (List ℕ) → List ℕ
texts_form [] = []
texts_form (text ∷ texts) = text_form text ++ texts_form texts

-- the form of a block: a tag of one byte, and what the block holds
abbrev pub block_form : Block → List ℕ
block_form (Heading text) = 1 ∷ text_form text
block_form (Paragraph text) = 2 ∷ text_form text
block_form (Items texts) = 3 ∷ (to_be_bytes w16 (length texts) ++ texts_form texts)
block_form (Page page) = 4 ∷ to_be_bytes w32 page

-- the forms of blocks, one after the other
abbrev pub blocks_form : List Block → List ℕ
blocks_form [] = []
blocks_form (block ∷ blocks) = block_form block ++ blocks_form blocks

-- the form of a content: the length of the title in one byte, the title, the number of blocks in
-- two bytes, and the blocks
abbrev pub content_form : ContentValue → List ℕ
content_form content =
    let count = to_be_bytes w16 (length content.blocks) in
    length content.title ∷ content.title ++ count ++ blocks_form content.blocks

-- a list block has 1 to 1,000 texts; the other blocks have no limit of their own
abbrev pub FitsBlock : Block → Type 0
FitsBlock (Items texts) = (1 ≤ length texts) × (length texts ≤ MAX_LIST_TEXTS)
FitsBlock _ = Unit {0}

-- the limits of a content: a title of 1 to 255 bytes, at most 1,000 blocks, lists that fit, and a
-- form of at most 65,536 bytes
pub record FitsLimits (content : ContentValue) : Type 0 where
  pub title_not_empty : 1 ≤ length content.title
  pub title_fits : length content.title ≤ MAX_TITLE_BYTES
  pub blocks_fit : length content.blocks ≤ MAX_BLOCKS
  pub lists_fit : All FitsBlock content.blocks
  pub form_fits : length (content_form content) ≤ MAX_CONTENT_BYTES

-- what is left of some room after a form: none exactly where the form is longer than the room
abbrev pub LeavesRoom : Option ℕ → ℕ → List ℕ → Type 0
LeavesRoom left room form = SomeIff left (length form ≤ room) (room - length form)
