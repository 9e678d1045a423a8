-- Contents are read as they are written.
use Rattle.std.proofs.Common.{◌≡◌, ℕ, ◌<◌, ◌≤◌, ◌==◌, Bool, true, false, List, [], ◌∷◌, ◌++◌, length, IsUtf8, Option, Some, if◌then◌else◌, refl, sym, ap, subst, append_assoc, length-append, arith}
use Rattle.std.specs.Int.{w16, to_be_bytes}
use Rattle.std.specs.List.{AllByRecursion}
use Rattle.std.proofs.lemmas.Bool.{eqb-true}
use Rattle.std.proofs.lemmas.List.Elements.{All-from_recursion, recursion_from_All}
use Rattle.site_types.specs.Ids.{IsPageId}
use Rattle.site_types.specs.Content.{ContentValue, content_of, text_form, texts_form, block_form, blocks_form, content_form}
use Rattle.site_types.specs.declared.limits.TheConstants.{MAX_CONTENT_BYTES}
use Rattle.site_types.specs.declared.block.Block.{Block}
use Rattle.site_types.specs.declared.block.Block.TheVariants.{Heading, Paragraph, Items, Page}
use Rattle.byte_forms.specs.Fields.{each_form, u32_form, id_form, short_form}
use Rattle.byte_forms.specs.Contents.{IsBlock, IsContent}
use Rattle.content_codec.specs.Reading.{made, byte_at}
use Rattle.content_codec.specs.Fields.{page_at}
use Rattle.content_codec.specs.Contents.{texts_at, block_of, block_at, blocks_at, fits_limits, content_at}
use Rattle.content_codec.proofs.Readings.{AreBytes, Takes, IsReading, step_gives, both_reading, kept_reading, made_again, made_takes, made_reading, same_reading, counted_reading, byte_reading}
use Rattle.content_codec.proofs.Numbers.{u16_reading}
use Rattle.content_codec.proofs.Fields.{IsTextBelow, page_reading, short_text_reading, text_reading}
use Rattle.content_codec.proofs.Limits.{fits_limits_decides}
use Rattle.content_codec.proofs.Writing.{texts_take_bytes}

-- a text as a block holds it
abbrev IsLong : List ℕ → Type 0
IsLong text = IsTextBelow 4294967296 text

-- the texts of a list, whose number has two bytes
abbrev AreTexts : List (List ℕ) → Type 0
AreTexts texts = (length texts < 65536) × AllByRecursion IsLong texts

-- the forms of texts, one after the other
texts_are : (texts : List (List ℕ)) → texts_form texts ≡ each_form text_form texts
texts_are [] = refl
texts_are (text ∷ texts) =
    ap (λ (t : List ℕ). text_form text ++ t) (texts_are texts)

-- the form of the texts of a list
abbrev list_form : List (List ℕ) → List ℕ
list_form texts = to_be_bytes w16 (length texts) ++ texts_form texts

-- the texts of a list are read
texts_reading : IsReading list_form AreTexts texts_at
unfolding texts_at
texts_reading =
    same_reading (counted_reading u16_reading text_reading) list_form
    (λ texts. ap (λ (t : List ℕ). to_be_bytes w16 (length texts) ++ t) (texts_are texts))

-- a block whose texts have lengths of four bytes
abbrev IsFit : Block → Type 0
IsFit (Heading text) = IsLong text
IsFit (Paragraph text) = IsLong text
IsFit (Items texts) = AreTexts texts
IsFit (Page page) = IsPageId page

-- a block that is written is read
block_again : (block : Block) (rest : List ℕ) → IsFit block →
    block_at (block_form block ++ rest) ≡ Some (block, rest)
unfolding block_at byte_at u32_form
block_again (Heading text) rest is = made_again text_reading Heading text rest is
block_again (Paragraph text) rest is = made_again text_reading Paragraph text rest is
block_again (Items texts) rest is = made_again texts_reading Items texts rest is
block_again (Page page) rest is = page_again page rest is
  where
    page_again : (page : ℕ) (rest : List ℕ) → IsPageId page →
        made Page (page_at (id_form page ++ rest)) ≡ Some (Page page, rest)
    page_again page rest is = made_again page_reading Page page rest is

-- one choice of a tag
tag_is : {A : Type 0} (bytes : List ℕ) (tag k : ℕ) (this later : Option A) (x : A)
    (P : ℕ → Type 0) →
    (this ≡ Some x → P k) → (later ≡ Some x → P tag) → (if tag == k then this else later) ≡ Some x →
    P tag
tag_is bytes tag k this later x P here there e = at (tag == k) refl e
  where
    at : (same : Bool) → (tag == k) ≡ same → (if same then this else later) ≡ Some x → P tag
    at true same e = subst P (sym (eqb-true _ _ same)) (here e)
    at false same e = there e

-- the link's form, with the id as such
page_form_is : (page : ℕ) → block_form (Page page) ≡ 4 ∷ id_form page
unfolding u32_form
page_form_is page = refl

-- a block that is read is written
block_takes : (bytes : List ℕ) (block : Block) (rest : List ℕ) → AreBytes bytes →
    block_at bytes ≡ Some (block, rest) → Takes block_form IsFit bytes block rest
unfolding block_at
block_takes bytes block rest are e =
    let tag = step_gives (byte_at bytes) (λ tag. block_of tag.0 tag.1) (block, rest) e in
    let one = byte_reading.takes bytes tag.0.0 tag.0.1 are tag.1 in
    let P : ℕ → Type 0 = λ k. Takes block_form IsFit (k ∷ tag.0.1) block rest in
    let Q : List ℕ → Type 0 = λ all. Takes block_form IsFit all block rest in
    subst Q (sym one.parts)
    (tag_is bytes tag.0.0 1 _ _ (block, rest) P
    (made_takes text_reading Heading block_form IsFit 1 (λ _ is. is) (λ _. refl) tag.0.1 block rest
    one.rest_are)
    (tag_is bytes tag.0.0 2 _ _ (block, rest) P
    (made_takes text_reading Paragraph block_form IsFit 2 (λ _ is. is) (λ _. refl) tag.0.1 block
    rest one.rest_are)
    (tag_is bytes tag.0.0 3 _ _ (block, rest) P
    (made_takes texts_reading Items block_form IsFit 3 (λ _ is. is) (λ _. refl) tag.0.1 block rest
    one.rest_are)
    (tag_is bytes tag.0.0 4 _ _ (block, rest) P
    (made_takes page_reading Page block_form IsFit 4 (λ _ is. is) page_form_is tag.0.1 block rest
    one.rest_are)
    (λ none. absurd cc)))) tag.2)

-- blocks are read as they are written
block_reading : IsReading block_form IsFit block_at
block_reading = record { again = block_again; takes = block_takes }

-- the forms of blocks, one after the other
blocks_are : (blocks : List Block) → blocks_form blocks ≡ each_form block_form blocks
blocks_are [] = refl
blocks_are (block ∷ blocks) =
    ap (λ (t : List ℕ). block_form block ++ t) (blocks_are blocks)

-- the form of the blocks of a content
abbrev block_list_form : List Block → List ℕ
block_list_form blocks = to_be_bytes w16 (length blocks) ++ blocks_form blocks

-- the blocks of a content, whose number has two bytes
abbrev AreFit : List Block → Type 0
AreFit blocks = (length blocks < 65536) × AllByRecursion IsFit blocks

-- the blocks of a content are read
blocks_reading : IsReading block_list_form AreFit blocks_at
unfolding blocks_at
blocks_reading =
    same_reading (counted_reading u16_reading block_reading) block_list_form
    (λ blocks. ap (λ (t : List ℕ). to_be_bytes w16 (length blocks) ++ t) (blocks_are blocks))

-- each of some texts is short, where their forms are
texts_fit : (texts : List (List ℕ)) → length (texts_form texts) ≤ MAX_CONTENT_BYTES →
    AllByRecursion (λ text. IsUtf8 text) texts → AllByRecursion IsLong texts
texts_fit [] few all = tt
texts_fit (text ∷ texts) few all =
    let size = length-append (text_form text) (texts_form texts) in
    ((omega arith, all.0), texts_fit texts (omega arith) all.1)

-- a block with a short form is fit
block_fits : (block : Block) → length (block_form block) ≤ MAX_CONTENT_BYTES → IsBlock block →
    IsFit block
block_fits (Heading text) few is = (omega arith, is)
block_fits (Paragraph text) few is = (omega arith, is)
block_fits (Items texts) few is =
    let count = texts_take_bytes texts in
    let all = recursion_from_All (λ text. IsUtf8 text) texts is in
    (omega arith, texts_fit texts (omega arith) all)
block_fits (Page page) few is = is

-- each of some blocks is fit, where their forms are short
blocks_fit : (blocks : List Block) → length (blocks_form blocks) ≤ MAX_CONTENT_BYTES →
    AllByRecursion IsBlock blocks → AllByRecursion IsFit blocks
blocks_fit [] few all = tt
blocks_fit (block ∷ blocks) few all =
    let size = length-append (block_form block) (blocks_form blocks) in
    (block_fits block (omega arith) all.0, blocks_fit blocks (omega arith) all.1)

-- the texts of a list are UTF-8
texts_stand : (texts : List (List ℕ)) → AllByRecursion IsLong texts →
    AllByRecursion (λ text. IsUtf8 text) texts
texts_stand [] all = tt
texts_stand (text ∷ texts) all = (all.0.1, texts_stand texts all.1)

-- a fit block is a block
block_stands : (block : Block) → IsFit block → IsBlock block
block_stands (Heading text) is = is.1
block_stands (Paragraph text) is = is.1
block_stands (Items texts) is =
    All-from_recursion (λ text. IsUtf8 text) texts (texts_stand texts is.1)
block_stands (Page page) is = is

-- fit blocks are blocks
blocks_stand : (blocks : List Block) → AllByRecursion IsFit blocks → AllByRecursion IsBlock blocks
blocks_stand [] all = tt
blocks_stand (block ∷ blocks) all = (block_stands block all.0, blocks_stand blocks all.1)

-- the parts of a content
abbrev parts_of : ContentValue → List ℕ × List Block
parts_of content = (content.title, content.blocks)

-- a title and blocks, one after the other
abbrev PartsFit : ContentValue → Type 0
PartsFit content = IsTextBelow 256 content.title × AreFit content.blocks

-- the form of a content, as its parts
content_parts : (content : ContentValue) →
    content_form content ≡ short_form content.title ++ block_list_form content.blocks
content_parts content =
    append_assoc (short_form content.title) (to_be_bytes w16 (length content.blocks))
    (blocks_form content.blocks)

-- a content has fit parts
parts_fit : (content : ContentValue) → IsContent content → PartsFit content
parts_fit content is =
    let fits = is.fits in
    let one =
    length-append (length content.title ∷ content.title ++ to_be_bytes w16 (length content.blocks))
    (blocks_form content.blocks) in
    let title : length content.title < 256 = omega (arith, fits.title_fits) in
    let count : length content.blocks < 65536 = omega (arith, fits.blocks_fit) in
    let few : length (blocks_form content.blocks) ≤ MAX_CONTENT_BYTES =
    omega (arith, one, fits.form_fits) in
    let all = recursion_from_All IsBlock content.blocks is.blocks in
    ((title, is.title), (count, blocks_fit content.blocks few all))

-- contents are read as they are written
pub content_reading : IsReading content_form IsContent content_at
unfolding content_at
content_reading =
    kept_reading
    (same_reading
    (made_reading (both_reading short_text_reading blocks_reading)
    (λ x. content_of x.0 x.1) parts_of (λ _. refl) (λ _. refl))
    content_form content_parts)
    fits_limits IsContent
    (λ content is. (parts_fit content is, (fits_limits_decides content).1 is.fits))
    (λ content is e.
    record {
      fits = (fits_limits_decides content).0 e;
      title = is.0.1;
      blocks = All-from_recursion IsBlock content.blocks (blocks_stand content.blocks is.1.1);
    })
