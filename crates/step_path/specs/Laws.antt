-- The laws of paths, their texts and their order, each proved in src/laws.rt.
use Rattle.std.specs.Prelude.{◌≡◌, ℕ, List, ◌∷◌, ◌++◌}
use Rattle.std.specs.declared.cmp.Ordering.TheVariants.{Equal}
use Rattle.std.specs.Cmp.{IsTotalOrder}
use Rattle.step_path.specs.Path.{IsPath, IsPathText, BeginsWith, path_text, steps_of, relabelled}
use Rattle.step_path.specs.Order.{path_cmp, IsBefore}

-- a path is read back from its text, which is a path's text
abbrev pub TextReadsBack : Type 0
TextReadsBack =
    (path : List ℕ) → IsPath path →
    IsPathText (path_text path) × (steps_of (path_text path) ≡ path)

-- no two paths have one text
abbrev pub TextTellsPathsApart : Type 0
TextTellsPathsApart = (a b : List ℕ) → IsPath a → IsPath b → path_text a ≡ path_text b → a ≡ b

-- a path begins with another exactly where its text begins with the other's text
abbrev pub TextsBeginAsPaths : Type 0
TextsBeginAsPaths =
    (front whole : List ℕ) → IsPath front → IsPath whole →
    (BeginsWith (path_text front) (path_text whole) → BeginsWith front whole)
    × (BeginsWith front whole → BeginsWith (path_text front) (path_text whole))

-- texts compare as their paths, so that the order of the texts is the depth-first order of the tree
abbrev pub TextsCompareAsPaths : Type 0
TextsCompareAsPaths =
    (a b : List ℕ) → IsPath a → IsPath b → path_cmp (path_text a) (path_text b) ≡ path_cmp a b

-- the order is total, and only a path itself compares as equal to it
abbrev pub OrderIsTotal : Type 0
OrderIsTotal = IsTotalOrder path_cmp × ((a b : List ℕ) → path_cmp a b ≡ Equal → a ≡ b)

-- a page comes before the pages below it
abbrev pub PageBeforeDescendants : Type 0
PageBeforeDescendants =
    (path : List ℕ) (step : ℕ) (rest : List ℕ) → IsBefore path (path ++ step ∷ rest)

-- what comes between two paths that begin alike begins so too: a page and the pages below it
-- stand together
abbrev pub SubtreeStandsTogether : Type 0
SubtreeStandsTogether =
    (front a b c : List ℕ) → BeginsWith front a → BeginsWith front c →
    IsBefore a b → IsBefore b c → BeginsWith front b

-- after a replaced beginning the rest stays, and paths below it compare as before
abbrev pub RelabelKeepsRestAndOrder : Type 0
RelabelKeepsRestAndOrder =
    (old new a b : List ℕ) →
    (relabelled old new (old ++ a) ≡ new ++ a)
    × (path_cmp (relabelled old new (old ++ a)) (relabelled old new (old ++ b))
    ≡ path_cmp (old ++ a) (old ++ b))
