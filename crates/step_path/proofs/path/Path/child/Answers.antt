-- A path with one more step is a path where there is room.
use Rattle.std.proofs.Common.{◌≡◌, ℕ, ◌<◌, [], ◌∷◌, ◌++◌, List, length, ap, sym, ◌∙◌, subst, arith}
use Rattle.step_path.specs.declared.path.TheConstants.{MAX_DEPTH}
use Rattle.step_path.specs.Path.{IsPath}
use Rattle.step_path.proofs.PathLemmas.{IsPath-child}
use Rattle.step_path.proofs.path.Path.child.Goals as goal

pub invariant_of-result : goal.invariant_of-result
invariant_of-result c =
    let path = c.self.inside.steps.items in
    let is : c.push.new.self.items ≡ path ++ c.get.result ∷ [] =
    c.push.ensures.items
    ∙ ap (λ (t : List ℕ). t ++ c.get.result ∷ [])
    (c.copied-steps.ensures ∙ c.deref.ensures.0) in
    let room : length path < MAX_DEPTH = omega (arith, c.self.invariant.within) in
    subst IsPath (sym is) (IsPath-child path c.get.result c.self.invariant room c.get.ensures.range)
