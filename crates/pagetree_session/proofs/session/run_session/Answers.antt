-- A session ends as its connection does, or as its site is not opened.
use Rattle.std.proofs.Common.{inl, None, refl}
use Rattle.pagetree_session.proofs.EndLemmas.{untouched, unopened_ends, opened_ends}
use Rattle.pagetree_session.proofs.session.run_session.Goals as goal

pub returns-in_default-clause-ends : goal.returns-in_default-clause-ends
returns-in_default-clause-ends g c = λ bytes told.
    inl (
      untouched bytes (g.C.Clock.coming c.args.clock.now) (g.S.Source.left c.args.source.now)
          (g.K.Sink.taken c.args.sink.now) told,
      λ h some file. (refl, λ held may. may),
    )

pub returns-in-Ok-open-clause-ends : goal.returns-in-Ok-open-clause-ends
returns-in-Ok-open-clause-ends g c = λ bytes told.
    let opened = c.in-Ok-open.ensures.ok in
    opened_ends (g.D.Disk.is_honest c.args.disk) _ _ bytes _ _ _ _ _ _
    (λ h. (c.in-Ok-open.ensures.honest h, (None, opened.kept h))) opened.history
    (record {
      legal = opened.at.legal;
      fresh = opened.fresh;
      no_entries = opened.no_entries;
      no_bytes = opened.no_bytes;
      begins = opened.begins;
      journal = opened.journal;
    }) _ c.in-Ok-open.ensures.no_fault c.serve_store.result.status
    (c.serve_store.ensures.served opened.history bytes
    (record { at = opened.at; k = opened.k }) told)

pub returns-in-Err-clause-ends : goal.returns-in-Err-clause-ends
returns-in-Err-clause-ends g c = λ bytes told.
    rw c.from.ensures
    (unopened_ends (g.D.Disk.is_honest c.args.disk) _ _ bytes _ _ _ c.in-Err.fault told
    c.in-Err.ensures.bad c.in-Err.ensures.same_files c.in-Err.ensures.failed)
