-- With one more task, tasks and workflows are still what they were.
use Rattle.std.proofs.Common.{◌<◌, length, arith}
use Rattle.site_ids.specs.declared.ids.TheConstants.{LAST_TASK_ID}
use Rattle.workflow.proofs.FlowLemmas.{task_more}
use Rattle.workflow.proofs.flows.Flows.define_task.Goals as goal

pub invariant_of-self : goal.invariant_of-self
invariant_of-self c =
    let left : length c.self.inside.tasks.items < LAST_TASK_ID =
    omega (arith, c.self.invariant.task_count) in
    rw (c.push.ensures.items)
    (task_more c.self.inside.tasks.items c.self.inside.workflows.items c.args.groups
    c.self.invariant left c.requires.groups)
