-- What is read is told, and adds nothing; a command runs.
use Rattle.std.proofs.Common.{refl}
use Rattle.wire_model.specs.declared.call.Call.TheVariants.{Page, Refs, Desk, Run}
use Rattle.pagetree_session.specs.Standing.{seen_store}
use Rattle.pagetree_session.proofs.CallLemmas.{core_ready, known_call, public_call, call_runs, read_runs}
use Rattle.pagetree_session.proofs.answer.answer_call.Goals as goal

pub returns-in-Public-clause-ok : goal.returns-in-Public-clause-ok
returns-in-Public-clause-ok g c = λ past ready.
    let store = seen_store g.D.Disk.size g.D.Disk.past g.D.Disk.fault_count c.args.store.now in
    read_runs store past ready c.args.now _ c.args.call _ _ c.answer_public.result
    (public_call store past ready c.args.now _ c.args.call c.in-Public.url c.as_slice.result.now
    c.as_slice.ensures c.in-Public.is)
    (c.answer_public.ensures _
    (core_ready store past ready c.core.result.now c.core.ensures))

pub returns-in-Some-clause-ok : goal.returns-in-Some-clause-ok
returns-in-Some-clause-ok g c = λ past ready.
    let store = seen_store g.D.Disk.size g.D.Disk.past g.D.Disk.fault_count c.args.store.now in
    read_runs store past ready c.args.now _ c.args.call _ _ c.answer_card.result
    (known_call store past ready c.args.now _ c.args.call c.core-in-Page.result.now
    c.user_of.result c.in-Some.field-0 (Page c.in-Page.id) c.core-in-Page.ensures
    c.user_of.ensures c.in-Some.is c.in-Page.is refl)
    (c.answer_card.ensures _ (core_ready store past ready c.core-in-Some.result.now c.core-in-Some.ensures))

pub returns-in-Some-user_of-clause-ok : goal.returns-in-Some-user_of-clause-ok
returns-in-Some-user_of-clause-ok g c = λ past ready.
    let store = seen_store g.D.Disk.size g.D.Disk.past g.D.Disk.fault_count c.args.store.now in
    read_runs store past ready c.args.now _ c.args.call _ _ c.answer_refs.result
    (known_call store past ready c.args.now _ c.args.call c.core-in-Refs.result.now
    c.user_of-in-Refs.result c.in-Some-user_of.field-0 (Refs c.in-Refs.id) c.core-in-Refs.ensures
    c.user_of-in-Refs.ensures c.in-Some-user_of.is c.in-Refs.is refl)
    (c.answer_refs.ensures _ (core_ready store past ready c.core-in-Some-user_of.result.now
    c.core-in-Some-user_of.ensures))

pub returns-in-Some-user_of-2-clause-ok : goal.returns-in-Some-user_of-2-clause-ok
returns-in-Some-user_of-2-clause-ok g c = λ past ready.
    let store = seen_store g.D.Disk.size g.D.Disk.past g.D.Disk.fault_count c.args.store.now in
    read_runs store past ready c.args.now _ c.args.call _ _ c.answer_desk.result
    (known_call store past ready c.args.now _ c.args.call c.core-in-Desk.result.now
    c.user_of-in-Desk.result c.in-Some-user_of-2.user (Desk c.in-Desk.id) c.core-in-Desk.ensures
    c.user_of-in-Desk.ensures c.in-Some-user_of-2.is c.in-Desk.is refl)
    (c.answer_desk.ensures _ (core_ready store past ready c.core-in-Some-user_of-2.result.now
    c.core-in-Some-user_of-2.ensures))

pub returns-in-Some-user_of-3-clause-ok : goal.returns-in-Some-user_of-3-clause-ok
returns-in-Some-user_of-3-clause-ok g c = λ past ready.
    let store = seen_store g.D.Disk.size g.D.Disk.past g.D.Disk.fault_count c.args.store.now in
    call_runs store past ready c.args.now _ c.args.call _ _ _ _ c.answer_command.result
    (known_call store past ready c.args.now _ c.args.call c.core-in-Run.result.now
    c.user_of-in-Run.result c.in-Some-user_of-3.user (Run c.in-Run.command) c.core-in-Run.ensures
    c.user_of-in-Run.ensures c.in-Some-user_of-3.is c.in-Run.is refl)
    (c.answer_command.ensures.ok past ready)
