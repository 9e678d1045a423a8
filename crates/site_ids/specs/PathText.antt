-- The texts of paths in rows.
use Rattle.std.specs.Prelude.{ℕ, ◌≤◌, List, length}
use Rattle.site_ids.specs.declared.path_text.TheConstants.{MAX_PATH_BYTES}

-- the text of a path has at most 255 bytes
abbrev pub FitsPathText : List ℕ → Type 0
FitsPathText text = length text ≤ MAX_PATH_BYTES
