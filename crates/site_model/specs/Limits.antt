-- How much of each kind a world may hold: its grants, the contents of its revisions, its open
-- desks.
use Rattle.std.specs.Prelude.{ℕ, ◌+◌, List, [], ◌∷◌, length}
use Rattle.site_types.specs.Content.{content_form}
use Rattle.site_types.specs.declared.revision.Revision.{Revision}

-- the most grants that may stand
abbrev pub MAX_GRANTS : ℕ
MAX_GRANTS = 4294967295

-- the most bytes that the forms of all contents may have together
abbrev pub MAX_CONTENTS : ℕ
MAX_CONTENTS = 1073741824

-- the most desks that may be open
abbrev pub MAX_DESKS : ℕ
MAX_DESKS = 4096

-- the most groups of a task, and the most tasks of a workflow
abbrev pub MAX_NAMED : ℕ
MAX_NAMED = 16

-- the sum of the lengths of the byte forms of the contents
abbrev pub contents_length : List Revision → ℕ
contents_length [] = 0
contents_length (revision ∷ revisions) =
    length (content_form revision.content) + contents_length revisions
