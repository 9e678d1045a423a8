-- The definitions at worked values: the bytes of slugs.
use Rattle.std.proofs.Common.{◌≡◌, true, false, refl, codes}
use Rattle.std.specs.List.{list_all}
use Rattle.site_ids.specs.Slug.{is_slug_byte}

-- ASCII letters, digits, `-` and `_` may stand in a slug; a blank, `/` and other letters may not
slug_bytes : (list_all is_slug_byte (codes "-_09AZaz") ≡ true)
    × (list_all is_slug_byte (codes "a b") ≡ false)
    × (list_all is_slug_byte (codes "a/") ≡ false)
    × (list_all is_slug_byte (codes "é") ≡ false)
    × (list_all is_slug_byte (codes "@[`{:.") ≡ false)
slug_bytes = (refl, refl, refl, refl, refl)
