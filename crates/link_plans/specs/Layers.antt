-- What is told of links in two rounds over what becomes of pages: first of their aliases, and then
-- of themselves.
use Rattle.std.specs.Prelude.{ℕ, Bool, nat_eq, if◌then◌else◌, List, [], ◌∷◌}
use Rattle.link_index.specs.Pairs.{has_pair}
use Rattle.link_plans.specs.PageLinks.{Finds, live_links, kept_links}
use Rattle.link_plans.specs.declared.fates.Fate.{Fate}

-- whether a page links to the page with this id, where aliases of these pages show what those show
abbrev pub aliases_told : Finds → List (ℕ × ℕ) → List Fate → ℕ → ℕ → Bool → Bool
aliases_told finds pairs [] page linked was = was
aliases_told finds pairs (one ∷ more) page linked was =
    aliases_told finds pairs more page linked
    (if has_pair one.page page pairs then live_links finds one.body linked else was)

-- whether a page links to the page with this id, where these pages have other fields
abbrev pub pages_told : Finds → List Fate → ℕ → ℕ → Bool → Bool
pages_told finds [] page linked was = was
pages_told finds (one ∷ more) page linked was =
    pages_told finds more page linked
    (if nat_eq page one.page then kept_links finds one.body linked else was)
