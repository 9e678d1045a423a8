-- A session ends as its connection does.
use Rattle.std.proofs.Common.{sym, ◌∙◌}
use Rattle.pagetree_session.specs.Standing.{seen_store}
use Rattle.pagetree_session.specs.declared.session.Session.{Session}
use Rattle.pagetree_session.proofs.EndLemmas.{never_usage, read_fault_end, write_fault_end}
use Rattle.pagetree_session.proofs.SessionLemmas.{session_ends}
use Rattle.pagetree_session.proofs.session.serve_store.Goals as goal

pub returns-clause-served : goal.returns-clause-served
returns-clause-served g c = λ begin bytes ready told. (
  c.serve-end.result,
  c.from.ensures,
  rw c.into_disk.ensures
      (session_ends (λ (s : Session _). g.D.Disk.is_honest s.store.disk)
      (λ (s : Session _). seen_store g.D.Disk.size g.D.Disk.past g.D.Disk.fault_count s.store)
      c.args.session c.serve-end.new.answerer begin bytes
      (g.S.Source.left c.serve-end.new.source) (g.C.Clock.coming c.args.clock.now)
      (g.C.Clock.coming c.serve-end.new.clock) ready (g.K.Sink.taken c.args.sink.now)
      (g.K.Sink.taken c.serve-end.new.sink) c.serve-end.result
      (c.serve-end.ensures.ends bytes told)),
)

pub returns-clause-known : goal.returns-clause-known
returns-clause-known g c = λ is. never_usage c.serve-end.result (sym c.from.ensures ∙ is)

pub returns-clause-read_fault : goal.returns-clause-read_fault
returns-clause-read_fault g c = λ is.
    c.serve-end.ensures.read_fault (read_fault_end c.serve-end.result (sym c.from.ensures ∙ is))

pub returns-clause-write_fault : goal.returns-clause-write_fault
returns-clause-write_fault g c = λ is.
    c.serve-end.ensures.write_fault (write_fault_end c.serve-end.result (sym c.from.ensures ∙ is))
