-- A command gets what its entry gets, and the store goes on to the history with what that adds.
use Rattle.std.proofs.Common.{None, Err, ap, ◌∙◌}
use Rattle.pagetree_session.proofs.StoreLemmas.{accepted_runs, refused_result, fault_result}
use Rattle.pagetree_session.proofs.answer.answer_command.Goals as goal

pub returns-in-Ok-clause-ok : goal.returns-in-Ok-clause-ok
returns-in-Ok-clause-ok g c = λ past ready.
    let told = c.in-Ok.ensures.answers past ready.at in
    accepted_runs _ _ _ _ past c.args.user c.args.now c.args.command ready c.run.ensures.k
    c.run.ensures.honest _ _ told.0 told.1 c.in-Ok.ensures.no_fault
    (record { at = c.in-Ok.ensures.at past ready.at; k = c.run.ensures.k ∙ ready.k })
    (λ h kept. (None, c.in-Ok.ensures.kept past _ kept.0 h ready.at kept.1))

pub returns-in-Err-Refused-clause-ok : goal.returns-in-Err-Refused-clause-ok
returns-in-Err-Refused-clause-ok g c = λ past ready.
    let one = c.in-Err-Refused.ensures in
    let same = one.refused c.in-Err-Refused.refusal (ap Err c.in-Err-Refused.field-0-is) in
    refused_result _ _ _ _ past c.args.user c.args.now c.args.command ready c.run.ensures.k
    c.run.ensures.honest c.in-Err-Refused.field-0 c.in-Err-Refused.refusal
    c.in-Err-Refused.field-0-is (one.answers past ready.at) (ap g.D.Disk.fault_count same.0)
    (one.at past ready.at) (λ h doubt kept. one.kept past _ doubt h ready.at kept)

pub returns-in-Err-Disk-clause-ok : goal.returns-in-Err-Disk-clause-ok
returns-in-Err-Disk-clause-ok g c = λ past ready.
    let one = c.in-Err-Disk.ensures in
    fault_result _ _ _ _ past c.args.user c.args.now c.args.command ready c.run.ensures.k
    c.run.ensures.honest c.in-Err-Disk.field-0 c.in-Err-Disk.before c.in-Err-Disk.after
    c.in-Err-Disk.field-0-is (one.answers past ready.at) (one.at past ready.at)
    (λ h doubt kept. one.kept past _ doubt h ready.at kept)
