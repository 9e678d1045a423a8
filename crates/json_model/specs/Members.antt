-- The members of a JSON object (RFC 8259) and the values in them, over the data of a value, which
-- has each member once, in the byte order of the names.
use Rattle.std.specs.Prelude.{ℕ, ◌&&◌, nat_le, Bool, true, false, List, [], ◌∷◌, length, bytes_eq, Option, Some, option_map, option_and_then}
use Rattle.std.specs.Bool.{then_some}
use Rattle.std.specs.List.{list_all}
use Rattle.serde_json.specs.Data.{Data, object, Items, no_items, item, Members, no_members, member}
use Rattle.serde_json.specs.Find.{get, as_bool, as_number, as_str, as_array, as_u64}
use Rattle.site_ids.specs.declared.ids.TheConstants.{LAST_PAGE_ID}
use Rattle.site_ids.specs.declared.slug.TheConstants.{MAX_SLUG_BYTES}
use Rattle.site_types.specs.Slug.{is_slug_byte}

-- whether members have exactly these names, in this order
abbrev pub are_named : List (List ℕ) → Members → Bool
are_named [] no_members = true
are_named [] (member _ _ _) = false
are_named (_ ∷ _) no_members = false
are_named (wanted ∷ names) (member name _ members) = bytes_eq name wanted && are_named names members

-- whether a value is an object with exactly the members of these names, given in byte order
abbrev pub has_exactly : List (List ℕ) → Data → Bool
has_exactly names (object members) = are_named names members
has_exactly names _ = false

-- the text at a member
abbrev pub text_at : List ℕ → Data → Option (List ℕ)
text_at name value = option_and_then as_str (get name value)

-- a whole number that is not negative: digits alone, below 2^64; `1.0`, `1e0`, `-0` and `-1` are
-- none
abbrev pub whole_of : Data → Option ℕ
whole_of value = option_and_then as_u64 (as_number value)

-- whether a number is in a range, both ends included
abbrev pub is_within : ℕ → ℕ → ℕ → Bool
is_within low high number = nat_le low number && nat_le number high

-- a whole number in a range, both ends included
abbrev pub whole_within : ℕ → ℕ → Data → Option ℕ
whole_within low high value =
    option_and_then (λ number. then_some (is_within low high number) number) (whole_of value)

-- an id of a page: a whole number from 1 to 1,000,000
abbrev pub id_of : Data → Option ℕ
id_of value = whole_within 1 LAST_PAGE_ID value

-- whether a text is a slug: 1 to 255 bytes that may stand in one
abbrev pub is_slug : List ℕ → Bool
is_slug text = is_within 1 MAX_SLUG_BYTES (length text) && list_all is_slug_byte text

-- a slug: a text that is one
abbrev pub slug_of : Data → Option (List ℕ)
slug_of value = option_and_then (λ text. then_some (is_slug text) text) (as_str value)

-- a truth value
abbrev pub truth_of : Data → Option Bool
truth_of value = as_bool value

-- what is read of each of the items; nothing where one of them cannot be read so
abbrev pub each_of : {A : Type 0} → (Data → Option A) → Items → Option (List A)
each_of read no_items = Some []
each_of read (item first items) =
    option_and_then (λ found. option_map (λ rest. found ∷ rest) (each_of read items)) (read first)

-- what is read of each item of an array
abbrev pub list_of : {A : Type 0} → (Data → Option A) → Data → Option (List A)
list_of read value = option_and_then (each_of read) (as_array value)
