-- How deep what is written nests, and that it has no float.
use Rattle.std.proofs.Common.{◌≡◌, ℕ, ◌≤◌, false, List, [], ◌∷◌, map, refl, arith}
use Rattle.serde_json.specs.Data.{Data, string, depth, items_depth}
use Rattle.serde_json.specs.View.{items_of}
use Rattle.serde_json.specs.Written.{has_float, items_have_float}
use Rattle.site_types.specs.Content.{ContentValue}
use Rattle.site_types.specs.declared.block.Block.{Block}
use Rattle.site_types.specs.declared.block.Block.TheVariants.{Heading, Paragraph, Items, Page}
use Rattle.json_model.specs.Content.{block_data, content_data}

-- items nest no deeper than each of them
items_shallow : {A : Type 0} (write : A → Data) (n : ℕ) → ((a : A) → depth (write a) ≤ n) →
    (list : List A) → items_depth (items_of (map write list)) ≤ n
items_shallow write n each [] = omega arith
items_shallow write n each (a ∷ list) =
    let first = each a in
    let rest = items_shallow write n each list in
    omega arith

-- a block nests at most two deep
block_shallow : (block : Block) → depth (block_data block) ≤ 2
block_shallow (Heading text) = omega arith
block_shallow (Paragraph text) = omega arith
block_shallow (Items texts) =
    let each = items_shallow string 0 (λ text. omega arith) texts in omega arith
block_shallow (Page page) = omega arith

-- a content nests at most four deep
pub content_shallow : (content : ContentValue) → depth (content_data content) ≤ 4
content_shallow content =
    let blocks = items_shallow block_data 2 block_shallow content.blocks in omega arith

-- items have no float where none of them has
items_plain : {A : Type 0} (write : A → Data) → ((a : A) → has_float (write a) ≡ false) →
    (list : List A) → items_have_float (items_of (map write list)) ≡ false
items_plain write each [] = refl
items_plain write each (a ∷ list) =
    let first = each a in
    let rest = items_plain write each list in
    rw (first, rest) refl

-- a block has no float
block_plain : (block : Block) → has_float (block_data block) ≡ false
block_plain (Heading text) = refl
block_plain (Paragraph text) = refl
block_plain (Items texts) = rw (items_plain string (λ text. refl) texts) refl
block_plain (Page page) = refl

-- a content has no float
pub content_plain : (content : ContentValue) → has_float (content_data content) ≡ false
content_plain content = rw (items_plain block_data block_plain content.blocks) refl
