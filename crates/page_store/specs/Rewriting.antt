-- How listed texts are put, and which pages a step is counted for.
use Rattle.std.specs.Prelude.{ℕ, ◌+◌, true, false, nat_eq, if◌then◌else◌, Option, Some, None, List, [], ◌∷◌, length}
use Rattle.std.specs.Map.{lookup}
use Rattle.step_path.specs.Path.{path_text}
use Rattle.page_store.specs.declared.stored.StoredRow.{StoredRow}
use Rattle.page_store.specs.declared.rewrite.NewText.{NewText}
use Rattle.page_store.specs.declared.rewrite.NewText.TheVariants as texts

-- what is kept of a page, with this text; with a path it is counted
abbrev pub text_put : NewText → StoredRow → StoredRow
text_put (texts.Path text depth) stored =
    record stored {
      row = record stored.row { path = text; depth = depth };
      counted = true;
    }
text_put (texts.Url url) stored = record stored { url = url }

-- what is kept of a page, with this path and counted
abbrev pub path_counted : List ℕ → StoredRow → StoredRow
path_counted path stored = text_put (texts.Path (path_text path) (length path)) stored

-- what is kept of a page, no longer counted
abbrev pub count_cleared : List ℕ → StoredRow → StoredRow
count_cleared path stored = record stored { counted = false }

-- the steps that a text for the page takes: none for one that is counted, or is not there
abbrev pub uncounted : Option StoredRow → ℕ
uncounted None = 0
uncounted (Some stored) = if stored.counted then 0 else 1

-- the sum of these steps for the listed pages
abbrev pub uncounted_in : List (ℕ × StoredRow) → List (ℕ × List ℕ) → ℕ
uncounted_in stored [] = 0
uncounted_in stored (pair ∷ pairs) =
    uncounted_in stored pairs + uncounted (lookup (nat_eq pair.0) stored)
