-- Each turn reads the next block of four characters.
use Rattle.std.proofs.Common.{◌≡◌, ℕ, ◌+◌, ◌-◌, ◌*◌, ◌<◌, List, [], ◌∷◌, ◌++◌, length, take, drop, ap, sym, ◌∙◌, arith, subst}
use Rattle.std.proofs.Math.Seq.{take-add}
use Rattle.std.proofs.lemmas.Bool.{eqb-false}
use Rattle.std.proofs.lemmas.Bool.Decides.{nat_tests}
use Rattle.std.proofs.lemmas.List.{length_push, take_all}
use Rattle.step_path.specs.Step.{IsStepText, step_text}
use Rattle.step_path.specs.Path.{AreSteps, path_text}
use Rattle.step_path.proofs.PathLemmas.{IsPathText-length, IsStepText-at, IsPathText-read, path_text-push, AreSteps-append}
use Rattle.step_path.proofs.path.Path.read.Goals as goal

-- four characters are added to those read so far
one_more_block : (text block : List ℕ) (k : ℕ) →
    block ≡ take (4 * k + 4 - 4 * k) (drop (4 * k) text) →
    take (4 * k) text ++ block ≡ take (4 * (k + 1)) text
one_more_block text block k is =
    let four : 4 * k + 4 - 4 * k ≡ 4 = omega arith in
    let next : 4 * k + 4 ≡ 4 * (k + 1) = omega arith in
    ap (λ t. take (4 * k) text ++ t) (is ∙ ap (λ n. take n (drop (4 * k) text)) four)
    ∙ sym (take-add (4 * k) 4 text) ∙ ap (λ n. take n text) next

pub returns-then-is_empty-clause-path : goal.returns-then-is_empty-clause-path
returns-then-is_empty-clause-path c = λ path.
    let long = IsPathText-length c.args.text.now path in grind (arith, nat_tests)

pub loop-place-init : goal.loop-place-init
unfolding path_text
loop-place-init c =
    record {
      count = ap length c.new-steps.ensures;
      steps = subst AreSteps (sym c.new-steps.ensures) tt;
      joins = ap path_text c.new-steps.ensures;
    }

pub returns-in_default-clause-path : goal.returns-in_default-clause-path
returns-in_default-clause-path c = λ path.
    let text : List ℕ = c.args.text.now in
    let k : ℕ = c.loop-place.place in
    let four : 4 ≡ 4 * k + 4 - 4 * k = omega arith in
    c.in_default.ensures
    (subst (λ (n : ℕ). IsStepText (take n (drop (4 * k) text))) four
    (IsStepText-at text k path (omega (arith, (IsPathText-length text path).0))))

pub loop-place-preserved : goal.loop-place-preserved
loop-place-preserved c =
    let text : List ℕ = c.args.text.now in
    let k : ℕ = c.loop-place.place in
    let steps : List ℕ = c.loop-place.steps.items in
    let step : ℕ = c.get.result in
    let block : step_text step ≡ take (4 * k + 4 - 4 * k) (drop (4 * k) text) =
    ap step_text c.get.ensures.value ∙ c.in-Some.ensures.1 in
    record {
      count =
          ap length c.push.ensures.items ∙ length_push steps step
          ∙ ap (λ n. n + 1) c.loop-place.invariant.count;
      steps =
          rw c.push.ensures.items
          (AreSteps-append steps (step ∷ []) c.loop-place.invariant.steps
          (c.get.ensures.range, tt));
      joins = ap path_text c.push.ensures.items ∙ path_text-push steps step
          ∙ ap (λ (t : List ℕ). t ++ step_text step) c.loop-place.invariant.joins
          ∙ one_more_block text (step_text step) k block;
    }

pub returns-clause-path : goal.returns-clause-path
returns-clause-path c =
    let text : List ℕ = c.args.text.now in
    let whole : path_text c.loop-place.steps.items ≡ text =
    c.loop-place.invariant.joins ∙ take_all (4 * c.loop-place.place) text (omega arith) in
    let some : 0 < length text =
    omega (arith, eqb-false (length text) 0 (sym c.is_empty.ensures ∙ c.if-is_empty.false)) in
    IsPathText-read c.loop-place.steps.items text c.loop-place.invariant.steps whole some
    (omega arith)
