-- Going down from a page by the slugs of a URL, byte by byte.
use Rattle.std.specs.Prelude.{ℕ, ◌==◌, Option, Some, None, option_and_then, if◌then◌else◌, List, [], ◌∷◌, ◌++◌}
use Rattle.page_tree.specs.Walk.{SLASH}
use Rattle.page_tree.specs.Rows.{kid_named}
use Rattle.page_store.specs.Pages.{Page}

-- the page, where no bytes of a slug are left over
abbrev pub page_reached : ℕ → List ℕ → Option ℕ
page_reached page [] = Some page
page_reached page (byte ∷ bytes) = None

-- The page that the bytes lead to from a page, where the first bytes of a slug are read already: a
-- `/` ends the slug and leads to the kid with it.
abbrev pub page_below : List Page → ℕ → List ℕ → List ℕ → Option ℕ
page_below pages page slug [] = page_reached page slug
page_below pages page slug (byte ∷ bytes) =
    if byte == SLASH
    then option_and_then (λ kid. page_below pages kid [] bytes) (kid_named page slug pages)
    else page_below pages page (slug ++ byte ∷ []) bytes
