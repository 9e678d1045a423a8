-- The pages that a content links to.
use Rattle.std.specs.Prelude.{ℕ, List, [], ◌∷◌, Contains}
use Rattle.site_types.specs.Content.{ContentValue}
use Rattle.site_types.specs.declared.block.Block.{Block}
use Rattle.site_types.specs.declared.block.Block.TheVariants.{Page}

-- a content links to a page where one of its blocks is a link to it
abbrev pub LinksTo : ContentValue → ℕ → Type 0
LinksTo content page = Contains content.blocks (Page page)

-- the pages in the links of blocks, in the blocks' order
abbrev pub pages_in : List Block → List ℕ
pages_in [] = []
pages_in (Page page ∷ blocks) = page ∷ pages_in blocks
pages_in (_ ∷ blocks) = pages_in blocks
