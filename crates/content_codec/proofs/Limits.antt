-- The test of the limits of a content says whether they are kept.
use Rattle.std.proofs.Common.{◌≡◌, ℕ, ◌≤◌, Bool, true, false, List, length, All, nat_le, Decides, Option, Some, None, refl, arith}
use Rattle.std.specs.List.{list_all}
use Rattle.std.proofs.lemmas.Bool.Decides.{nat_tests, Decides-and, Decides-by_and}
use Rattle.site_types.specs.Content.{ContentValue, FitsLimits, FitsBlock, content_form}
use Rattle.site_types.specs.declared.block.Block.{Block}
use Rattle.site_types.specs.declared.block.Block.TheVariants.{Heading, Paragraph, Items, Page}
use Rattle.site_types.specs.declared.limits.TheConstants.{MAX_TITLE_BYTES, MAX_BLOCKS, MAX_LIST_TEXTS, MAX_CONTENT_BYTES}
use Rattle.content_codec.specs.Reading.{is_within, kept}
use Rattle.content_codec.specs.Contents.{fits_block, fits_limits}

-- the test of an upper limit
pub nat_le_decides : (a b : ℕ) → Decides (nat_le a b) (a ≤ b)
nat_le_decides a b = (λ e. grind (arith, nat_tests), λ h. grind (arith, nat_tests))

-- the test of a range
pub is_within_decides : (low high n : ℕ) →
    Decides (is_within low high n) ((low ≤ n) × (n ≤ high))
is_within_decides low high n =
    Decides-and (nat_le low n) (nat_le n high) (nat_le_decides low n) (nat_le_decides n high)

-- the test of a block
fits_block_decides : (block : Block) → Decides (fits_block block) (FitsBlock block)
fits_block_decides (Items texts) = is_within_decides 1 MAX_LIST_TEXTS (length texts)
fits_block_decides (Heading text) = (λ e. tt, λ h. refl)
fits_block_decides (Paragraph text) = (λ e. tt, λ h. refl)
fits_block_decides (Page page) = (λ e. tt, λ h. refl)

-- the test of blocks
fits_blocks_decides : (blocks : List Block) →
    Decides (list_all fits_block blocks) (All FitsBlock blocks)
fits_blocks_decides blocks =
    Decides-by_and fits_block FitsBlock (list_all fits_block) fits_block_decides refl
    (λ _ _. refl) blocks

-- the test of a content
pub fits_limits_decides : (content : ContentValue) →
    Decides (fits_limits content) (FitsLimits content)
unfolding fits_limits
fits_limits_decides content =
    let title = is_within_decides 1 MAX_TITLE_BYTES (length content.title) in
    let count = nat_le_decides (length content.blocks) MAX_BLOCKS in
    let lists = fits_blocks_decides content.blocks in
    let form = nat_le_decides (length (content_form content)) MAX_CONTENT_BYTES in
    let tests = Decides-and _ _ title (Decides-and _ _ count (Decides-and _ _ lists form)) in (
      λ e.
          let facts = tests.0 e in
          record {
            title_not_empty = facts.0.0;
            title_fits = facts.0.1;
            blocks_fit = facts.1.0;
            lists_fit = facts.1.1.0;
            form_fits = facts.1.1.1;
          },
      λ fits.
          tests.1 (
            (fits.title_not_empty, fits.title_fits),
            (fits.blocks_fit, (fits.lists_fit, fits.form_fits)),
          ),
    )

-- what does not pass a test is not kept
not_passed : {P : Type 0} (test : Bool) → Decides test P → (P → ⊥) → test ≡ false
not_passed true decides not = absurd (not (decides.0 refl))
not_passed false decides not = refl

-- a content within its limits is kept
pub content_is_kept : (there : Option (ContentValue × List ℕ)) (content found : ContentValue)
    (rest : List ℕ) → there ≡ Some (content, rest) → FitsLimits content → found ≡ content →
    kept fits_limits there ≡ Some (found, rest)
content_is_kept there content found rest is fits same =
    let test = (fits_limits_decides content).1 fits in rw (is, test, same) refl

-- a content that breaks a limit is not kept
pub no_content_is_kept : (there : Option (ContentValue × List ℕ)) (content : ContentValue)
    (rest : List ℕ) → there ≡ Some (content, rest) → (FitsLimits content → ⊥) →
    kept fits_limits there ≡ None
no_content_is_kept there content rest is not =
    let test = not_passed (fits_limits content) (fits_limits_decides content) not in
    rw (is, test) refl
