-- Where a page is found by its parent and its slug: at a key with a digest of the slug, or among the
-- clashes, which are the pages whose key was taken when they came.
use Rattle.std.specs.Prelude.{◌≡◌, ℕ, ◌+◌, ◌-◌, ◌*◌, ◌%◌, ◌^◌, min, Bool, false, nat_eq, ◌&&◌, ◌||◌, true, if◌then◌else◌}
use Rattle.std.specs.Prelude.{Option, Some, None, IsSome, vec_len, vec_capacity, List, find}
use Rattle.std.specs.Option.{option_map, option_map_or, IfSome}
use Rattle.std.specs.List.{fold, list_any}
use Rattle.std.specs.Str.{bytes_eq}
use Rattle.std.specs.Map.{lookup}
use Rattle.indexmap.specs.IndexMap.{spare}
use Rattle.page_tree.specs.Rows.{is_parent}
use Rattle.page_store.specs.declared.stored.StoredRow.{StoredRow}
use Rattle.page_store.specs.declared.kid_index.KidKey.{KidKey}
use Rattle.page_store.specs.declared.kid_index.KidIndex.{KidIndex}

-- a digest with one byte more
abbrev pub stir : ℕ → ℕ → ℕ
stir digest byte = (digest * 16777619 % 2 ^ 32 + byte) % 2 ^ 32

-- the digest of a slug
abbrev pub slug_digest : List ℕ → ℕ
slug_digest slug = fold stir 0 slug

-- the key of a kid
abbrev pub kid_key : ℕ → List ℕ → KidKey
kid_key parent slug = record { parent = parent; digest = slug_digest slug }

-- whether two keys are one
abbrev pub key_eq : KidKey → KidKey → Bool
key_eq one other = nat_eq one.parent other.parent && nat_eq one.digest other.digest

-- the key of a page that is kept, where it has a parent
abbrev pub own_key : Option StoredRow → Option KidKey
own_key None = None
own_key (Some stored) = option_map (λ parent. kid_key parent stored.row.slug) stored.parent

-- the keys of the pages that are kept
abbrev pub keys_of : List (ℕ × StoredRow) → ℕ → Option KidKey
keys_of stored id = own_key (lookup (nat_eq id) stored)

-- whether a page stands at a key
abbrev pub leads_to : List (KidKey × ℕ) → KidKey → ℕ → Bool
leads_to at_keys key id = option_map_or (λ kid. nat_eq kid id) (lookup (key_eq key) at_keys) false

-- whether a page stands at a key, or among the clashes
abbrev pub is_indexed : List (KidKey × ℕ) → List ℕ → ℕ → KidKey → Bool
is_indexed at_keys clashes id key =
    leads_to at_keys key id || list_any (λ kid. nat_eq kid id) clashes

-- The pages with a key, and no other, are found by it: what stands at a key is a page with that key,
-- each clash is a page with a key, and each page with a key stands at it or among the clashes.
pub record AreIndexed (at_keys : List (KidKey × ℕ)) (clashes : List ℕ) (keys : ℕ → Option
    KidKey) : Type 0 where
  pub owned : (key : KidKey) → IfSome (lookup (key_eq key) at_keys) (λ id. keys id ≡ Some key)
  pub clashed : (id : ℕ) → list_any (λ kid. nat_eq kid id) clashes ≡ true → IsSome (keys id)
  pub there : (id : ℕ) → IfSome (keys id) (λ key. is_indexed at_keys clashes id key ≡ true)

-- the index finds the pages with these keys
abbrev pub IsIndex : KidIndex → (ℕ → Option KidKey) → Type 0
IsIndex kids keys = AreIndexed kids.keys.entries kids.clashes.items keys

-- the keys, with that of one page more
abbrev pub with_key : ℕ → KidKey → (ℕ → Option KidKey) → ℕ → Option KidKey
with_key id key keys other = if nat_eq id other then Some key else keys other

-- the keys, without that of a page
abbrev pub without_key : ℕ → (ℕ → Option KidKey) → ℕ → Option KidKey
without_key id keys other = if nat_eq id other then None else keys other

-- how many kids an index can take in without memory
abbrev pub index_room : KidIndex → ℕ
index_room kids = min (spare kids.keys) (vec_capacity kids.clashes - vec_len kids.clashes)

-- whether a page that is kept is the kid of a page with this slug
abbrev pub is_kid : List (ℕ × StoredRow) → ℕ → List ℕ → ℕ → Bool
is_kid stored parent slug id =
    option_map_or (λ page. is_parent parent page.parent && bytes_eq page.row.slug slug)
    (lookup (nat_eq id) stored) false

-- the page, where it passes the test, and else the first of others that does
abbrev pub first_passing : (ℕ → Bool) → Option ℕ → List ℕ → Option ℕ
first_passing test None others = find test others
first_passing test (Some id) others = if test id then Some id else find test others

-- the kid of a page with a slug, as it is looked up: the page at the key, or else a clash
abbrev pub kid_found : KidIndex → List (ℕ × StoredRow) → ℕ → List ℕ → Option ℕ
kid_found kids stored parent slug =
    first_passing (is_kid stored parent slug) (lookup (key_eq (kid_key parent slug))
    kids.keys.entries) kids.clashes.items
