-- When blocks and contents compare equal.
use Rattle.std.specs.Prelude.{◌≡◌, Bool, true, false, ◌&&◌, List, nat_eq}
use Rattle.std.specs.Bool.{Decides}
use Rattle.std.specs.Cmp.{unsigned_Decides, first_so, second_so}
use Rattle.std.specs.Cmp.Lexicographic.{pointwise, pointwise_decides, bytes_decides}
use Rattle.std.proofs.Common.{ap}
use Rattle.site_types.specs.Content.{ContentValue, content_of}
use Rattle.site_types.specs.declared.block.Block.{Block}
use Rattle.site_types.specs.declared.block.Block.TheVariants.{Heading, Paragraph, Items, Page}

-- whether two blocks are the same
abbrev pub block_eq : Block → Block → Bool
block_eq (Heading text) (Heading other) = pointwise nat_eq text other
block_eq (Paragraph text) (Paragraph other) = pointwise nat_eq text other
block_eq (Items texts) (Items others) = pointwise (pointwise nat_eq) texts others
block_eq (Page page) (Page other) = nat_eq page other
block_eq _ _ = false

-- that test is true exactly of the same block
pub block_eq_decides : (block other : Block) → Decides (block_eq block other) (block ≡ other)
block_eq_decides (Heading a) (Heading b) =
    (λ e. ap Heading ((bytes_decides a b).0 e), λ e. (bytes_decides a b).1 cc)
block_eq_decides (Paragraph a) (Paragraph b) =
    (λ e. ap Paragraph ((bytes_decides a b).0 e), λ e. (bytes_decides a b).1 cc)
block_eq_decides (Items a) (Items b) =
    let texts = pointwise_decides bytes_decides a b in
    (λ e. ap Items (texts.0 e), λ e. texts.1 cc)
block_eq_decides (Page a) (Page b) =
    (λ e. ap Page ((unsigned_Decides a b).0 e), λ e. (unsigned_Decides a b).1 cc)
block_eq_decides _ _ = (λ e. cc, λ e. cc)

-- whether two lists of blocks are the same
abbrev pub blocks_eq : List Block → List Block → Bool
blocks_eq blocks others = pointwise block_eq blocks others

-- that test is true exactly of the same list
pub blocks_eq_decides :
    (blocks others : List Block) → Decides (blocks_eq blocks others) (blocks ≡ others)
blocks_eq_decides blocks others = pointwise_decides block_eq_decides blocks others

-- whether two contents are the same
abbrev pub content_eq : ContentValue → ContentValue → Bool
content_eq content other =
    pointwise nat_eq content.title other.title && blocks_eq content.blocks other.blocks

-- two tests are both true exactly where both facts hold
both_decide : {P Q : Type 0} (p q : Bool) → Decides p P → Decides q Q → Decides (p && q) (P × Q)
both_decide p q first second = (
  λ e. (first.0 (first_so p q e), second.0 (second_so p q e)),
  λ h. and (first.1 h.0) (second.1 h.1),
)
  where
    and : p ≡ true → q ≡ true → (p && q) ≡ true
    and a b = cc

-- that test is true exactly of the same content
pub content_eq_decides :
    (content other : ContentValue) → Decides (content_eq content other) (content ≡ other)
content_eq_decides content other =
    let titles = bytes_decides content.title other.title in
    let blocks = blocks_eq_decides content.blocks other.blocks in
    let both = both_decide _ _ titles blocks in (
      λ e. let same = both.0 e in λ i. content_of (same.0 i) (same.1 i),
      λ e. both.1 (ap (λ c. c.title) e, ap (λ c. c.blocks) e),
    )
