-- The definitions at worked values: what is read as a content, and what is refused.
use Rattle.std.proofs.Common.{◌≡◌, List, [], ◌∷◌, Some, None, true, false, refl, codes, replicate, pos, neg_ℤ}
use Rattle.serde_json.specs.Data.{Data, null, boolean, unsigned, negative, number, string, array, object, no_members, member}
use Rattle.serde_json.specs.View.{items_of}
use Rattle.site_types.specs.Content.{ContentValue}
use Rattle.site_types.specs.declared.block.Block.TheVariants.{Heading, Paragraph, Items, Page}
use Rattle.json_model.specs.Content.{content_of, content_data, block_of, only}
use Rattle.json_model.specs.Members.{has_exactly, whole_of, id_of, slug_of, truth_of}

-- an object of the members blocks and title
abbrev content_object : List Data → Data → Data
content_object blocks title =
    object
    (member (codes "blocks") (array (items_of blocks)) (member (codes "title") title no_members))

-- {"blocks":[],"title":"Home"}
abbrev home : ContentValue
home = record { title = codes "Home"; blocks = [] }

-- it is read, and written
home_is_read : content_of (content_object [] (string (codes "Home"))) ≡ Some home
home_is_read = refl

-- home is written
home_is_written : content_data home ≡ content_object [] (string (codes "Home"))
home_is_written = refl

-- {"blocks":[{"heading":"A"},{"paragraph":"B"},{"list":["C",""]},{"page":7}],"title":"All"}
abbrev all_kinds : Data
all_kinds =
    content_object (
    only (codes "heading") (string (codes "A"))
    ∷ only (codes "paragraph") (string (codes "B"))
    ∷ only (codes "list") (array (items_of (string (codes "C") ∷ string [] ∷ [])))
    ∷ only (codes "page") (number (unsigned 7))
    ∷ []) (string (codes "All"))

-- the content with a block of each kind
abbrev each_kind : ContentValue
each_kind = record {
  title = codes "All";
  blocks =
      Heading (codes "A") ∷ Paragraph (codes "B") ∷ Items (codes "C" ∷ [] ∷ []) ∷ Page 7 ∷ [];
}

-- it is read, and written
all_kinds_are_read : content_of all_kinds ≡ Some each_kind
all_kinds_are_read = refl

-- all kinds are written
all_kinds_are_written : content_data each_kind ≡ all_kinds
all_kinds_are_written = refl

-- a member too many, or one that is missing
a_member_too_many : content_of (object
    (member (codes "blocks") (array (items_of []))
    (member (codes "title") (string (codes "A")) (member (codes "url") null no_members)))) ≡ None
a_member_too_many = refl

-- no title
no_title : content_of (only (codes "blocks") (array (items_of []))) ≡ None
no_title = refl

-- no blocks
no_blocks : content_of (only (codes "title") (string (codes "A"))) ≡ None
no_blocks = refl

-- blocks that are no array, a title that is no text, and a content that is no object
blocks_are_null : content_of (object
    (member (codes "blocks") null (member (codes "title") (string (codes "A")) no_members))) ≡ None
blocks_are_null = refl

-- the title is a number
the_title_is_a_number : content_of (content_object [] (number (unsigned 1))) ≡ None
the_title_is_a_number = refl

-- a content is no array
a_content_is_no_array : content_of (array (items_of [])) ≡ None
a_content_is_no_array = refl

-- titles of 0, 1, 255 and 256 bytes
a_title_of_no_bytes : content_of (content_object [] (string [])) ≡ None
a_title_of_no_bytes = refl

-- a title of 255 bytes
a_title_of_255_bytes : content_of (content_object [] (string (replicate 255 97))) ≡
    Some (record { title = replicate 255 97; blocks = [] })
a_title_of_255_bytes = refl

-- a title of 256 bytes
a_title_of_256_bytes : content_of (content_object [] (string (replicate 256 97))) ≡ None
a_title_of_256_bytes = refl

-- a content of one block
abbrev of_block : Data → Data
of_block block = content_object (block ∷ []) (string (codes "A"))

-- a list of no texts
an_empty_list : content_of (of_block (only (codes "list") (array (items_of [])))) ≡ None
an_empty_list = refl

-- a list of a number
a_list_of_a_number : block_of (only (codes "list") (array (items_of (number (unsigned 1) ∷ [])))) ≡
    None
a_list_of_a_number = refl

-- a block of two members, of none, and of another name
a_block_of_two_members : block_of (object
    (member (codes "heading") (string (codes "A"))
    (member (codes "paragraph") (string (codes "B")) no_members))) ≡ None
a_block_of_two_members = refl

-- a block of no members
a_block_of_no_members : block_of (object no_members) ≡ None
a_block_of_no_members = refl

-- a block of another name
a_block_of_another_name : block_of (only (codes "image") (string (codes "A"))) ≡ None
a_block_of_another_name = refl

-- a heading that is null
a_heading_of_null : block_of (only (codes "heading") null) ≡ None
a_heading_of_null = refl

-- a page 0, the last page, and the number after it
page_zero : block_of (only (codes "page") (number (unsigned 0))) ≡ None
page_zero = refl

-- the last page
the_last_page : block_of (only (codes "page") (number (unsigned 1000000))) ≡ Some (Page 1000000)
the_last_page = refl

-- after the last page
after_the_last_page : block_of (only (codes "page") (number (unsigned 1000001))) ≡ None
after_the_last_page = refl

-- a negative number and a text are no whole numbers
minus_one_is_none : whole_of (number (negative (neg_ℤ (pos 1)))) ≡ None
minus_one_is_none = refl

-- a text is no id
a_text_is_no_id : id_of (string (codes "1")) ≡ None
a_text_is_no_id = refl

-- slugs: 1 to 255 bytes out of letters, digits, `-` and `_`
a_slug : slug_of (string (codes "a-B_9")) ≡ Some (codes "a-B_9")
a_slug = refl

-- a blank is in no slug
a_blank_is_in_no_slug : slug_of (string (codes "a b")) ≡ None
a_blank_is_in_no_slug = refl

-- no slug is empty
no_slug_is_empty : slug_of (string []) ≡ None
no_slug_is_empty = refl

-- a slug of 255 bytes
a_slug_of_255_bytes : slug_of (string (replicate 255 97)) ≡ Some (replicate 255 97)
a_slug_of_255_bytes = refl

-- a slug of 256 bytes
a_slug_of_256_bytes : slug_of (string (replicate 256 97)) ≡ None
a_slug_of_256_bytes = refl

-- a truth value, and what is none
a_truth_value : truth_of (boolean true) ≡ Some true
a_truth_value = refl

-- one is no truth value
one_is_no_truth_value : truth_of (number (unsigned 1)) ≡ None
one_is_no_truth_value = refl

-- exactly the members that are named: no fewer, no more
exactly_one : has_exactly (codes "a" ∷ []) (only (codes "a") null) ≡ true
exactly_one = refl

-- one too few
one_too_few : has_exactly (codes "a" ∷ codes "b" ∷ []) (only (codes "a") null) ≡ false
one_too_few = refl

-- one too many
one_too_many : has_exactly [] (only (codes "a") null) ≡ false
one_too_many = refl

-- another name
another_name : has_exactly (codes "b" ∷ []) (only (codes "a") null) ≡ false
another_name = refl

-- null has no members
null_has_no_members : has_exactly [] null ≡ false
null_has_no_members = refl
