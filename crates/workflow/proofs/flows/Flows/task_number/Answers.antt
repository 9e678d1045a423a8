-- The task that a moderation counts is one of its workflow's, all of which are there.
use Rattle.std.proofs.Common.{◌≡◌, ◌≤◌, ◌+◌, ◌∙◌, ℕ, List, length, ap, sym, subst, arith}
use Rattle.site_model.specs.Views.{list_at, number_at}
use Rattle.site_model.specs.Sound.{IsGiven}
use Rattle.workflow.specs.Flows.{FlowLists}
use Rattle.workflow.proofs.FlowLemmas.{found}
use Rattle.workflow.proofs.StageLemmas.{task_there}
use Rattle.workflow.proofs.flows.Flows.task_number.Goals as goal

-- the number is that of a task that is kept
given : (c : goal.After-number_in) →
    IsGiven (length c.self.inside.tasks.items + 1) c.number_in.result
given c =
    let kept = c.self.inside.workflows.items in
    let moderation = c.args.moderation.now in
    let within = subst
    (λ (flows : FlowLists). moderation.task ≤ length (list_at flows.workflows moderation.workflow))
    (sym c.self.view_is) c.requires.task_within in
    let there = task_there c.self.inside.tasks.items kept moderation.workflow moderation.task
    c.self.invariant c.requires.task_counted within in
    let is : c.number_in.result ≡ number_at (list_at kept moderation.workflow) moderation.task =
    c.number_in.ensures
    ∙ ap (λ (numbers : List ℕ). number_at numbers moderation.task)
    (c.as_slice.ensures ∙ found kept moderation.workflow c.in-Some.tasks.now
    (rw (c.deref.ensures.value, c.get.ensures.value) at c.in-Some.ensures)) in
    subst (IsGiven (length c.self.inside.tasks.items + 1)) (sym is) there

pub returns-clause-there : goal.returns-clause-there
returns-clause-there c =
    subst (λ (flows : FlowLists). IsGiven (length flows.tasks + 1) c.number_in.result)
    c.self.view_is (given c)

pub returns-clause-range : goal.returns-clause-range
returns-clause-range c =
    let is = given c in
    (is.0, omega (arith, is.1, c.self.invariant.task_count))
