-- The values that were written so far, and one more.
use Rattle.std.proofs.Common.{◌≡◌, ℕ, ◌+◌, ◌<◌, ◌≤◌, List, [], ◌∷◌, ◌++◌, length, map, get_or, take, All, refl, sym, subst}
use Rattle.std.proofs.lemmas.List.{take_more, take_all, map-append}
use Rattle.std.proofs.lemmas.List.Elements.{All-push}
use Rattle.serde_json.specs.Data.{Data, string, array, object, Members, no_members, put}
use Rattle.serde_json.specs.View.{view, items_of}
use Rattle.serde_json.specs.declared.value.Value.{Value}
use Rattle.site_types.specs.Content.{ContentValue}
use Rattle.site_types.specs.declared.block.Block.{Block}
use Rattle.json_model.specs.declared.words.TheConstants.{MEMBER_BLOCKS, MEMBER_TITLE}
use Rattle.json_model.specs.Content.{block_data, content_data}
use Rattle.json_model.specs.Limits.{LinksToId}

-- one block more of those so far
one_more : (blocks : List Block) (k : ℕ) (block : Block) → k < length blocks →
    block ≡ get_or blocks k block → take (k + 1) blocks ≡ take k blocks ++ block ∷ []
one_more blocks k block lt is =
    let more = take_more blocks k block lt in rw (← is) at more

-- the next block's value stands after those of the blocks so far
pub next_is_written : (blocks : List Block) (k : ℕ) (block : Block) (values : List Value)
    (value : Value) → k < length blocks → block ≡ get_or blocks k block →
    view value ≡ block_data block → map view values ≡ map block_data (take k blocks) →
    map view (values ++ value ∷ []) ≡ map block_data (take (k + 1) blocks)
next_is_written blocks k block values value lt is form so_far =
    rw (
      one_more blocks k block lt is,
      map-append view values (value ∷ []),
      map-append block_data (take k blocks) (block ∷ []),
      so_far,
      form,
    ) refl

-- the blocks so far and the next one link to no more than ids
pub next_links_to_id : (blocks : List Block) (k : ℕ) (block : Block) → k < length blocks →
    block ≡ get_or blocks k block → LinksToId block → All LinksToId (take k blocks) →
    All LinksToId (take (k + 1) blocks)
next_links_to_id blocks k block lt is links so_far =
    let P : List Block → Type 0 = λ list. All LinksToId list in
    subst P (sym (one_more blocks k block lt is))
    (All-push LinksToId (take k blocks) block so_far links)

-- the blocks so far are all blocks at the end
pub all_are_written : (blocks : List Block) (k : ℕ) (values : List Value) →
    length blocks ≤ k → map view values ≡ map block_data (take k blocks) →
    map view values ≡ map block_data blocks
all_are_written blocks k values le so_far =
    let all = take_all k blocks le in rw all at so_far

-- what is put at blocks and then at title makes an object of the two
pub both_are_put : (content : ContentValue) (blocks title : Data) (none first second : Members) →
    none ≡ no_members → first ≡ put MEMBER_BLOCKS.now blocks none →
    second ≡ put MEMBER_TITLE.now title first →
    blocks ≡ array (items_of (map block_data content.blocks)) → title ≡ string content.title →
    object second ≡ content_data content
both_are_put content blocks title none first second empty one two blocks_are title_is =
    rw (two, one, empty, blocks_are, title_is) refl
