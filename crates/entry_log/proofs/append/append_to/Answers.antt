-- A gate in doubt is closed, and then a record is appended.
use Rattle.std.proofs.Common.{◌≡◌, inl, inr, Err, Ok, refl, ap, subst}
use Rattle.disk_model.specs.Images.{LeavesOnly}
use Rattle.disk_model.specs.OneFile.{KeepsOthers, InFile}
use Rattle.disk_model.proofs.OneFileLemmas.{KeepsOthers-then}
use Rattle.journal.specs.Form.{journal_file, RecoversEither}
use Rattle.entry_log.proofs.RunLemmas.{Closes, closed-ok, closed-err, closed-any, closed_among, appended_among, left_by}
use Rattle.entry_log.proofs.append.append_to.Goals as goal

pub returns-in-Err-clause-err : goal.returns-in-Err-clause-err
returns-in-Err-clause-err g c = λ payloads doubt honest holds.
    let past = g.D.Disk.past in
    let closes : Closes {T = Unit {0}} (Err c.in-Err.failed) c.args.journal.now c.repair.new.self
    (past c.args.disk.now) (past c.repair.new.disk) = record {
      idle = λ sure. let is = c.in-Err.ensures.idle sure in (is.0, ap past is.1, is.2);
      ok = λ held one. c.in-Err.ensures.ok held one honest;
      err = λ held one. c.in-Err.ensures.err held one honest;
      any_moment = λ held one. c.in-Err.ensures.any_moment held one honest;
    } in
    (doubt, closed-err _ _ _ _ _ closes payloads doubt holds, inr (inl refl))

pub returns-in-Err-clause-any_moment : goal.returns-in-Err-clause-any_moment
returns-in-Err-clause-any_moment g c = λ payloads doubt honest holds.
    let past = g.D.Disk.past in
    let closes : Closes {T = Unit {0}} (Err c.in-Err.failed) c.args.journal.now c.repair.new.self
    (past c.args.disk.now) (past c.repair.new.disk) = record {
      idle = λ sure. let is = c.in-Err.ensures.idle sure in (is.0, ap past is.1, is.2);
      ok = λ held one. c.in-Err.ensures.ok held one honest;
      err = λ held one. c.in-Err.ensures.err held one honest;
      any_moment = λ held one. c.in-Err.ensures.any_moment held one honest;
    } in
    closed_among _ _ c.args.journal.now.k payloads doubt c.args.piece.now
    (closed-any _ _ _ _ _ closes payloads doubt holds)

pub returns-in-Ok-clause-ok : goal.returns-in-Ok-clause-ok
returns-in-Ok-clause-ok g c = λ payloads doubt honest holds.
    let past = g.D.Disk.past in
    let closes : Closes {T = Unit {0}} (Ok (tt {0})) c.args.journal.now c.repair.new.self
    (past c.args.disk.now) (past c.repair.new.disk) = record {
      idle = λ sure. let is = c.in-Ok.ensures.idle sure in (is.0, ap past is.1, is.2);
      ok = λ held one. c.in-Ok.ensures.ok held one honest;
      err = λ held one. c.in-Ok.ensures.err held one honest;
      any_moment = λ held one. c.in-Ok.ensures.any_moment held one honest;
    } in
    c.append.ensures.ok payloads (c.in-Ok.ensures.honest honest)
    (closed-ok _ _ _ _ _ closes payloads doubt holds)

pub returns-in-Ok-clause-err : goal.returns-in-Ok-clause-err
returns-in-Ok-clause-err g c = λ payloads doubt honest holds.
    let past = g.D.Disk.past in
    let closes : Closes {T = Unit {0}} (Ok (tt {0})) c.args.journal.now c.repair.new.self
    (past c.args.disk.now) (past c.repair.new.disk) = record {
      idle = λ sure. let is = c.in-Ok.ensures.idle sure in (is.0, ap past is.1, is.2);
      ok = λ held one. c.in-Ok.ensures.ok held one honest;
      err = λ held one. c.in-Ok.ensures.err held one honest;
      any_moment = λ held one. c.in-Ok.ensures.any_moment held one honest;
    } in
    let mid = closed-ok _ _ _ _ _ closes payloads doubt holds in
    let still = c.in-Ok.ensures.honest honest in
    left_by c.append.result c.append.new.self (past c.append.new.disk) payloads doubt
    c.args.piece.now c.append.new.self.pending refl (c.append.ensures.closed payloads still mid)
    (c.append.ensures.doubt payloads still mid)

pub returns-in-Ok-clause-any_moment : goal.returns-in-Ok-clause-any_moment
returns-in-Ok-clause-any_moment g c = λ payloads doubt honest holds.
    let past = g.D.Disk.past in
    let k = c.args.journal.now.k in
    let closes : Closes {T = Unit {0}} (Ok (tt {0})) c.args.journal.now c.repair.new.self
    (past c.args.disk.now) (past c.repair.new.disk) = record {
      idle = λ sure. let is = c.in-Ok.ensures.idle sure in (is.0, ap past is.1, is.2);
      ok = λ held one. c.in-Ok.ensures.ok held one honest;
      err = λ held one. c.in-Ok.ensures.err held one honest;
      any_moment = λ held one. c.in-Ok.ensures.any_moment held one honest;
    } in
    let mid = closed-ok _ _ _ _ _ closes payloads doubt holds in
    let same_k : c.repair.new.self.k ≡ k = ap (λ j. j.k) c.in-Ok.ensures.sure in
    appended_among _ _ _ k payloads doubt c.args.piece.now (c.in-Ok.ensures.others honest)
    (closed-any _ _ _ _ _ closes payloads doubt holds)
    (subst (λ n. LeavesOnly (past c.repair.new.disk) (past c.append.new.disk)
    (InFile (past c.repair.new.disk) (journal_file n) (RecoversEither n payloads c.args.piece.now)))
    same_k (c.append.ensures.any_moment payloads (c.in-Ok.ensures.honest honest) mid))

pub returns-in-Ok-clause-others : goal.returns-in-Ok-clause-others
returns-in-Ok-clause-others g c = λ honest.
    let past = g.D.Disk.past in
    let same_k : c.repair.new.self.k ≡ c.args.journal.now.k =
    ap (λ j. j.k) c.in-Ok.ensures.sure in
    KeepsOthers-then _ _ _ _ (c.in-Ok.ensures.others honest)
    (subst (λ n. KeepsOthers (past c.repair.new.disk) (past c.append.new.disk) (journal_file n))
    same_k (c.append.ensures.others (c.in-Ok.ensures.honest honest)))
