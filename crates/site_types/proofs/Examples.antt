-- The form of contents at worked values.
use Rattle.std.proofs.Common.{◌≡◌, [], ◌∷◌, refl, codes}
use Rattle.site_types.specs.Content.{content_of, content_form}
use Rattle.site_types.specs.declared.block.Block.TheVariants.{Heading, Paragraph, Items, Page}

-- a content without blocks: the length of the title, the title, and no block
no_blocks : content_form (content_of (codes "Home") []) ≡ 4 ∷ 72 ∷ 111 ∷ 109 ∷ 101 ∷ 0 ∷ 0 ∷ []
no_blocks = refl

-- a heading and an empty paragraph
texts : content_form (content_of (codes "A") (Heading (codes "B") ∷ Paragraph [] ∷ []))
    ≡ 1 ∷ 65 ∷ 0 ∷ 2 ∷ 1 ∷ 0 ∷ 0 ∷ 0 ∷ 1 ∷ 66 ∷ 2 ∷ 0 ∷ 0 ∷ 0 ∷ 0 ∷ []
texts = refl

-- a list of two texts
a_list : content_form (content_of (codes "A") (Items (codes "B" ∷ [] ∷ []) ∷ []))
    ≡ 1 ∷ 65 ∷ 0 ∷ 1 ∷ 3 ∷ 0 ∷ 2 ∷ 0 ∷ 0 ∷ 0 ∷ 1 ∷ 66 ∷ 0 ∷ 0 ∷ 0 ∷ 0 ∷ []
a_list = refl

-- a link to page 66,051
a_link : content_form (content_of (codes "A") (Page 66_051 ∷ []))
    ≡ 1 ∷ 65 ∷ 0 ∷ 1 ∷ 4 ∷ 0 ∷ 1 ∷ 2 ∷ 3 ∷ []
a_link = refl
