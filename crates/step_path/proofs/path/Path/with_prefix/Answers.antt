-- The new steps and the rest of the old path are a path where they fit.
use Rattle.std.proofs.Common.{◌≡◌, ℕ, ◌-◌, ◌≤◌, List, ◌++◌, length, take, drop, ap, sym, ◌∙◌, refl, subst, arith}
use Rattle.std.proofs.lemmas.List.{take_rest}
use Rattle.step_path.specs.declared.path.TheConstants.{MAX_DEPTH}
use Rattle.step_path.specs.Path.{IsPath, relabelled}
use Rattle.step_path.proofs.PathLemmas.{IsPath-relabelled}
use Rattle.step_path.proofs.path.Path.with_prefix.Goals as goal

-- the new steps and the rest, as the code joins them
joined : (old new path : List ℕ) (n : ℕ) → n ≡ length old →
    new ++ take (length path - n) (drop n path) ≡ relabelled old new path
joined old new path n is =
    ap (λ t. new ++ t) (take_rest path n ∙ ap (λ m. drop m path) is)

pub invariant_of-result : goal.invariant_of-result
invariant_of-result c =
    let old = c.old.inside.steps.items in
    let new = c.new.inside.steps.items in
    let path = c.self.inside.steps.items in
    let is : c.try_extend_from_slice.new.self.items ≡ relabelled old new path =
    c.in-Ok.ensures.ok
    ∙ ap (λ (t : List ℕ). t
    ++ take (length c.deref.result.now - c.len.result) (drop c.len.result c.deref.result.now))
    (c.copied-steps.ensures ∙ c.deref-2.ensures.0)
    ∙ ap (λ (t : List ℕ). new ++ take (length t - c.len.result) (drop c.len.result t))
    c.deref.ensures.0
    ∙ joined old new path c.len.result c.len.ensures.value in
    let short : length (relabelled old new path) ≤ MAX_DEPTH =
    omega (arith, ap length is, c.in-Ok.ensures.len, c.in-Ok.ensures.variant.0 refl) in
    subst IsPath (sym is) (IsPath-relabelled old new path c.new.invariant c.self.invariant short)
