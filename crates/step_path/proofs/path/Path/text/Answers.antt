-- Each turn adds the four characters of the next step, for which there is room.
use Rattle.std.proofs.Common.{◌≡◌, ℕ, ◌+◌, ◌≤◌, List, ◌++◌, length, take, get_or, ap, sym, ◌∙◌, rules, arith, subst}
use Rattle.std.proofs.lemmas.List.{take_all}
use Rattle.step_path.specs.Step.{step_text}
use Rattle.step_path.specs.Path.{IsPathText, path_text}
use Rattle.step_path.proofs.StepLemmas.{length-step_text}
use Rattle.step_path.proofs.PathLemmas.{AreSteps-at, IsPathText-path_text, path_text-take_more, length-path_text-take}
use Rattle.step_path.proofs.path.Path.text.Goals as goal

pub loop-number-init : goal.loop-number-init
unfolding path_text
loop-number-init c = c.new-text.ensures

pub checked-step-requires : goal.checked-step-requires
checked-step-requires c =
    AreSteps-at c.as_slice-numbers.result.now c.loop-number.number-index 0
    (rw c.as_slice-numbers.ensures.value c.self.invariant.steps) c.loop-number-test.true

pub loop-number-preserved : goal.loop-number-preserved
loop-number-preserved c =
    let numbers : List ℕ = c.as_slice-numbers.result.now in
    let k : ℕ = c.loop-number.number-index in
    let so_far : c.loop-number.text.items ≡ path_text (take k numbers) = c.loop-number.invariant in
    let added : c.text.result ≡ step_text (get_or numbers k 0) =
    c.text.ensures ∙ ap step_text c.checked-step.ensures in
    let room : length c.loop-number.text.items + length c.text.result ≤ 252 =
    omega (
      arith,
      ap length so_far,
      length-path_text-take numbers k (omega arith),
      ap length added,
      length-step_text (get_or numbers k 0),
      ap length c.as_slice-numbers.ensures.value,
      c.self.invariant.within,
      c.loop-number-test.true,
    ) in
    let appended :
    c.try_extend_from_slice.new.self.items ≡ c.loop-number.text.items ++ c.text.result =
    search (rules, c.try_extend_from_slice.ensures.variant.1 room) in
    appended
    ∙ ap (λ (t : List ℕ). t ++ c.text.result) so_far
    ∙ ap (λ (t : List ℕ). path_text (take k numbers) ++ t) added
    ∙ sym (path_text-take_more numbers k 0 c.loop-number-test.true)

pub returns-clause-path : goal.returns-clause-path
returns-clause-path c =
    let numbers : List ℕ = c.as_slice-numbers.result.now in
    let all : take c.loop-number.number-index numbers ≡ numbers =
    take_all c.loop-number.number-index numbers c.loop-number-test.false in
    subst IsPathText
    (sym (c.loop-number.invariant ∙ ap path_text all
    ∙ ap path_text c.as_slice-numbers.ensures.value))
    (IsPathText-path_text c.self.inside.steps.items c.self.invariant)
