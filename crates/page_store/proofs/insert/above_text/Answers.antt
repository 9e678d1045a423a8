-- The path without its last step is a path, which is read back from its text.
use Rattle.std.proofs.Common.{◌≡◌, ◌∙◌, ◌-◌, ◌<◌, ℕ, List, length, ap, arith}
use Rattle.std.proofs.lemmas.List.{length-take-le}
use Rattle.step_path.specs.Path.{IsPath, steps_of}
use Rattle.step_path.proofs.PathLemmas.{IsPathText-path_text, steps_of-path_text, AreSteps-take}
use Rattle.page_store.specs.PageRows.{above}
use Rattle.page_store.proofs.insert.above_text.Goals as goal

-- a path of two steps or more has a path above it
above_is_path : (path : List ℕ) → IsPath path → 1 < length path → IsPath (above path)
above_is_path path is long =
    let short = length-take-le (length path - 1) path (omega arith) in
    let most = is.within in
    record { some = omega arith; within = omega arith; steps = AreSteps-take (length path - 1) path is.steps }

-- the steps of the path above
parent_is : (path text parent : List ℕ) → path ≡ steps_of text → parent ≡ above path →
    parent ≡ above (steps_of text)
parent_is path text parent is short = short ∙ ap above is

pub returns-clause-path : goal.returns-clause-path
returns-clause-path c =
    let is = parent_is c.in-Some.path c.args.text.now c.in-Some-parent.parent
    c.in-Some.ensures.path.1 c.in-Some-parent.ensures.shorter.1 in
    rw (
      c.text.ensures.value,
      is,
    ) (IsPathText-path_text _ (above_is_path (steps_of c.args.text.now) c.requires.path.path
    c.requires.below))

pub returns-clause-steps : goal.returns-clause-steps
returns-clause-steps c =
    let is = parent_is c.in-Some.path c.args.text.now c.in-Some-parent.parent
    c.in-Some.ensures.path.1 c.in-Some-parent.ensures.shorter.1 in
    let path = above_is_path (steps_of c.args.text.now) c.requires.path.path c.requires.below in
    rw (c.text.ensures.value, is) (steps_of-path_text _ path.steps)
