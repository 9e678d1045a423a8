-- The tasks that are found are those of the workflow, of which no workflow has more than 16.
use Rattle.std.proofs.Common.{◌≡◌, ◌≤◌, ◌∙◌, ◌+◌, length, ap, arith}
use Rattle.site_model.specs.Views.{list_at}
use Rattle.site_model.specs.Limits.{MAX_NAMED}
use Rattle.workflow.specs.Flows.{FlowLists}
use Rattle.workflow.proofs.FlowLemmas.{found, not_found, at_fits}
use Rattle.workflow.proofs.flows.Flows.length.Goals as goal

-- the tasks that are found are those that are kept of the workflow
kept : (c : goal.After-len) →
    c.len.result ≡ length (list_at c.self.inside.workflows.items c.args.workflow)
kept c =
    c.len.ensures
    ∙ ap length (found c.self.inside.workflows.items c.args.workflow c.in-Some.tasks.now
    (rw (c.deref.ensures.value, c.get.ensures.value) at c.in-Some.ensures))

-- so there are at most 16
within : (c : goal.After-len) → c.len.result ≤ MAX_NAMED
within c =
    let fits = at_fits (length c.self.inside.tasks.items + 1) c.self.inside.workflows.items
    c.args.workflow c.self.invariant.workflow_tasks in
    omega (arith, kept c, fits)

pub overflow_cast-result : goal.overflow_cast-result
overflow_cast-result c = omega (arith, within c)

pub returns-in-Some-clause-value : goal.returns-in-Some-clause-value
returns-in-Some-clause-value c =
    kept c
    ∙ ap (λ (flows : FlowLists). length (list_at flows.workflows c.args.workflow)) c.self.view_is

pub returns-in-Some-clause-range : goal.returns-in-Some-clause-range
returns-in-Some-clause-range c = within c

pub returns-in-None-clause-value : goal.returns-in-None-clause-value
returns-in-None-clause-value c =
    ap length (not_found c.self.inside.workflows.items c.args.workflow
    (rw (c.deref.ensures.value, c.get.ensures.value) at c.in-None.ensures))
    ∙ ap (λ (flows : FlowLists). length (list_at flows.workflows c.args.workflow)) c.self.view_is
