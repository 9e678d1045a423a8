-- What a slug is: the last part of a page's URL.
use Rattle.std.specs.Prelude.{ℕ, ◌≤◌, Bool, ◌||◌, ◌&&◌, ◌==◌, nat_le, List, length, IsTrue}
use Rattle.std.specs.List.{list_all}
use Rattle.site_ids.specs.declared.slug.TheConstants.{MAX_SLUG_BYTES}

-- whether a byte may stand in a slug: `-`, `_`, a digit or an ASCII letter
abbrev pub is_slug_byte : ℕ → Bool
is_slug_byte b =
    (b == 45) || (b == 95) || (nat_le 48 b && nat_le b 57) || (nat_le 65 b && nat_le b 90)
    || (nat_le 97 b && nat_le b 122)

-- the slug of a page other than the root: 1 to 255 allowed bytes
pub record IsSlug (text : List ℕ) : Type 0 where
  pub not_empty : 1 ≤ length text
  pub fits : length text ≤ MAX_SLUG_BYTES
  pub allowed : IsTrue (list_all is_slug_byte text)
