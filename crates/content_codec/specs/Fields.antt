-- Reading single fields: truth values, ids, moments, slugs and texts.
use Rattle.std.specs.Prelude.{ℕ, ◌==◌, Bool, true, false, ◌&&◌, nat_le, List, length, Option, Some, None, if◌then◌else◌}
use Rattle.std.specs.List.{list_all}
use Rattle.std.specs.Str.{is_utf8}
use Rattle.site_types.specs.Slug.{is_slug_byte}
use Rattle.site_ids.specs.declared.ids.TheConstants.{LAST_PAGE_ID, LAST_USER_ID, LAST_GROUP_ID, LAST_WORKFLOW_ID}
use Rattle.site_ids.specs.declared.moment.TheConstants.{LAST_MOMENT}
use Rattle.site_ids.specs.declared.slug.TheConstants.{MAX_SLUG_BYTES}
use Rattle.content_codec.specs.Reading.{◌>>=◌, kept, is_within, byte_at, bytes_at, number_at, each_at}

-- the truth value of a byte
abbrev pub truth_of : ℕ → Option Bool
truth_of n = if n == 0 then Some false else if n == 1 then Some true else None

-- a truth value
unfoldable pub truth_at : List ℕ → Option (Bool × List ℕ)
truth_at bytes = byte_at bytes >>= λ n. truth_of n.0 >>= λ truth. Some (truth, n.1)

-- an id in a range
abbrev pub id_at : ℕ → ℕ → List ℕ → Option (ℕ × List ℕ)
id_at low high bytes = kept (is_within low high) (number_at 4 bytes)

-- an id of a page
unfoldable pub page_at : List ℕ → Option (ℕ × List ℕ)
page_at bytes = id_at 1 LAST_PAGE_ID bytes

-- an id of a user
unfoldable pub user_at : List ℕ → Option (ℕ × List ℕ)
user_at bytes = id_at 0 LAST_USER_ID bytes

-- an id of a group
unfoldable pub group_at : List ℕ → Option (ℕ × List ℕ)
group_at bytes = id_at 1 LAST_GROUP_ID bytes

-- a number of which one says that there is none, and the others have a last one
abbrev pub optional_of : ℕ → ℕ → ℕ → Option (Option ℕ)
optional_of none last n =
    if n == none then Some None else if nat_le n last then Some (Some n) else None

-- an id of a workflow or none, which is 0
unfoldable pub optional_workflow_at : List ℕ → Option (Option ℕ × List ℕ)
optional_workflow_at bytes =
    number_at 4 bytes >>= λ n. optional_of 0 LAST_WORKFLOW_ID n.0 >>= λ id. Some (id, n.1)

-- a moment
unfoldable pub moment_at : List ℕ → Option (ℕ × List ℕ)
moment_at bytes = kept (λ n. nat_le n LAST_MOMENT) (number_at 8 bytes)

-- the number that says that there is no moment
abbrev pub NO_MOMENT : ℕ
NO_MOMENT = 18446744073709551615

-- a moment or none, which is the greatest number of eight bytes
unfoldable pub optional_moment_at : List ℕ → Option (Option ℕ × List ℕ)
optional_moment_at bytes =
    number_at 8 bytes >>= λ n.
    optional_of NO_MOMENT LAST_MOMENT n.0 >>= λ moment. Some (moment, n.1)

-- at most 255 bytes after their number
abbrev pub short_at : List ℕ → Option (List ℕ × List ℕ)
short_at bytes = byte_at bytes >>= λ n. bytes_at n.0 n.1

-- bytes after their number in four bytes
abbrev pub long_at : List ℕ → Option (List ℕ × List ℕ)
long_at bytes = number_at 4 bytes >>= λ n. bytes_at n.0 n.1

-- whether bytes are a slug: 1 to 255 bytes that may stand in one
abbrev pub is_slug : List ℕ → Bool
is_slug text = is_within 1 MAX_SLUG_BYTES (length text) && list_all is_slug_byte text

-- a slug
unfoldable pub slug_at : List ℕ → Option (List ℕ × List ℕ)
slug_at bytes = kept is_slug (short_at bytes)

-- a text of at most 255 bytes
unfoldable pub short_text_at : List ℕ → Option (List ℕ × List ℕ)
short_text_at bytes = kept is_utf8 (short_at bytes)

-- a text
unfoldable pub text_at : List ℕ → Option (List ℕ × List ℕ)
text_at bytes = kept is_utf8 (long_at bytes)

-- so many numbers of four bytes after their number in one byte
unfoldable pub numbers_at : List ℕ → Option (List ℕ × List ℕ)
numbers_at bytes = byte_at bytes >>= λ n. each_at (number_at 4) n.0 n.1
