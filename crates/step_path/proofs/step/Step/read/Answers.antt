-- Four characters are a step's where the number that they write is a step with that text.
use Rattle.std.proofs.Common.{length, ap, ◌∙◌, arith}
use Rattle.std.proofs.lemmas.Bool.{both_ways}
use Rattle.std.proofs.lemmas.Bool.Decides.{Decides-eqb}
use Rattle.std.proofs.lemmas.Slice.Eq.{slice_eq-Decides}
use Rattle.step_path.specs.Step.{step_text}
use Rattle.step_path.proofs.StepLemmas.{length-step_text, step_from_text}
use Rattle.step_path.proofs.step.Step.read.Goals as goal

pub returns-then-text-ne-STEP_TEXT : goal.returns-then-text-ne-STEP_TEXT
returns-then-text-ne-STEP_TEXT c = λ step. omega (arith, length-step_text step.0, ap length step.2)

pub returns-in_default : goal.returns-in_default
returns-in_default c = λ step.
    c.in_default.ensures (rw c.number_in.ensures (step_from_text c.args.text.now step).0)

pub returns-else-eq : goal.returns-else-eq
returns-else-eq c = λ step.
    let is = (slice_eq-Decides Decides-eqb _ _ _ c.eq.ensures).1 in
    both_ways c.eq.result c.if-eq.false
    (is (c.as_slice.ensures ∙ c.text.ensures
    ∙ ap step_text (c.in-Some.ensures.1 ∙ c.number_in.ensures)
    ∙ (step_from_text c.args.text.now step).1))
