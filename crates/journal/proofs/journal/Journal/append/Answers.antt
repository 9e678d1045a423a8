use Rattle.std.proofs.Common.{◌+◌, [], ◌∷◌, ◌++◌, length, refl, ◌∙◌, ap, arith}
use Rattle.disk_model.proofs.OneFileLemmas.{KeepsOthers-then}
use Rattle.disk_model.proofs.RunLemmas.{IsRun-then}
use Rattle.journal.specs.Form.{journal_file}
use Rattle.journal.proofs.FormLemmas.{length-front-push}
use Rattle.journal.proofs.JournalLemmas.{run_of, durable_of, stage_run, staged, gate_run, opened_gate, stage_either, gate_either, OnErr-any, Holds-by, HoldsInDoubt-by}
use Rattle.journal.proofs.journal.Journal.append.Goals as goal

pub returns-in_err-write_synced-clause-closed : goal.returns-in_err-write_synced-clause-closed
returns-in_err-write_synced-clause-closed g c = λ payloads honest holds.
    let old = g.D.Disk.past c.args.disk.now in
    let mid = g.D.Disk.past c.write_synced.new.disk in
    let k = c.args.self.now.k in
    let gate = c.args.self.now.gate in
    let file_is = c.journal_file-file.ensures ∙ ap journal_file c.k.ensures in
    let gate_is = c.gate-gate.ensures in
    let before = run_of old mid _ (journal_file k) _ (gate + 1) _ file_is
    (ap (λ n. n + 1) gate_is)
    (c.write_synced.ensures.others honest) (c.write_synced.ensures.torn honest)
    (c.write_synced.ensures.any_moment honest) in
    let first = stage_run k gate payloads c.args.piece.now holds.gate old mid mid _ holds.each
    before in
    OnErr-any c.from_residual.result _
    (λ sure. record { sure = sure; gate = holds.gate; each = first.each })

pub returns-in_err-write_synced-clause-any_moment :
    goal.returns-in_err-write_synced-clause-any_moment
returns-in_err-write_synced-clause-any_moment g c = λ payloads honest holds.
    let old = g.D.Disk.past c.args.disk.now in
    let mid = g.D.Disk.past c.write_synced.new.disk in
    let k = c.args.self.now.k in
    let gate = c.args.self.now.gate in
    let file_is = c.journal_file-file.ensures ∙ ap journal_file c.k.ensures in
    let gate_is = c.gate-gate.ensures in
    let before = run_of old mid _ (journal_file k) _ (gate + 1) _ file_is
    (ap (λ n. n + 1) gate_is)
    (c.write_synced.ensures.others honest) (c.write_synced.ensures.torn honest)
    (c.write_synced.ensures.any_moment honest) in
    let first = stage_run k gate payloads c.args.piece.now holds.gate old mid mid _ holds.each
    before in
    (stage_either k gate payloads c.args.piece.now holds.gate old mid mid first).any_moment

pub returns-in_err-write_synced-clause-others : goal.returns-in_err-write_synced-clause-others
returns-in_err-write_synced-clause-others g c = λ honest.
    let old = g.D.Disk.past c.args.disk.now in
    let mid = g.D.Disk.past c.write_synced.new.disk in
    let k = c.args.self.now.k in
    let gate = c.args.self.now.gate in
    let file_is = c.journal_file-file.ensures ∙ ap journal_file c.k.ensures in
    let gate_is = c.gate-gate.ensures in
    let first = run_of old mid _ (journal_file k) _ (gate + 1) _ file_is
    (ap (λ n. n + 1) gate_is)
    (c.write_synced.ensures.others honest) (c.write_synced.ensures.torn honest)
    (c.write_synced.ensures.any_moment honest) in
    first.others

pub returns-in_err-write_synced-2-clause-doubt : goal.returns-in_err-write_synced-2-clause-doubt
returns-in_err-write_synced-2-clause-doubt g c = λ payloads honest holds.
    let old = g.D.Disk.past c.args.disk.now in
    let mid = g.D.Disk.past c.write_synced.new.disk in
    let k = c.args.self.now.k in
    let gate = c.args.self.now.gate in
    let file_is = c.journal_file-file.ensures ∙ ap journal_file c.k.ensures in
    let gate_is = c.gate-gate.ensures in
    let new = g.D.Disk.past c.write_synced-2.new.disk in
    let still = c.write_synced.ensures.honest honest in
    let after = run_of mid new _ (journal_file k) _ gate _ file_is gate_is
    (c.write_synced-2.ensures.others still) (c.write_synced-2.ensures.torn still)
    (c.write_synced-2.ensures.any_moment still) in
    let each = staged k gate payloads c.args.piece.now holds.gate old mid new
    c.bytes-bytes.ensures.fits
    holds.each (durable_of old mid _ (journal_file k) _ (gate + 1) _ _ file_is (ap (λ n. n + 1)
    gate_is)
    c.bytes-bytes.ensures.bytes (c.in_ok-write_synced.ensures.durable honest)) in
    let second = gate_run k gate payloads c.args.piece.now holds.gate old mid new each after in
    OnErr-any c.from_residual-in_err-write_synced-2.result _ (λ doubt.
    HoldsInDoubt-by c.doubt.new.self k gate new payloads c.args.piece.now
    (ap (λ j. j.k) c.doubt.ensures) doubt (ap (λ j. j.gate) c.doubt.ensures) holds.gate second.each)

pub returns-in_err-write_synced-2-clause-any_moment :
    goal.returns-in_err-write_synced-2-clause-any_moment
returns-in_err-write_synced-2-clause-any_moment g c = λ payloads honest holds.
    let old = g.D.Disk.past c.args.disk.now in
    let mid = g.D.Disk.past c.write_synced.new.disk in
    let k = c.args.self.now.k in
    let gate = c.args.self.now.gate in
    let file_is = c.journal_file-file.ensures ∙ ap journal_file c.k.ensures in
    let gate_is = c.gate-gate.ensures in
    let new = g.D.Disk.past c.write_synced-2.new.disk in
    let still = c.write_synced.ensures.honest honest in
    let before = run_of old mid _ (journal_file k) _ (gate + 1) _ file_is
    (ap (λ n. n + 1) gate_is)
    (c.write_synced.ensures.others honest) (c.write_synced.ensures.torn honest)
    (c.write_synced.ensures.any_moment honest) in
    let first = stage_run k gate payloads c.args.piece.now holds.gate old mid mid _ holds.each
    before in
    let after = run_of mid new _ (journal_file k) _ gate _ file_is gate_is
    (c.write_synced-2.ensures.others still) (c.write_synced-2.ensures.torn still)
    (c.write_synced-2.ensures.any_moment still) in
    let each = staged k gate payloads c.args.piece.now holds.gate old mid new
    c.bytes-bytes.ensures.fits
    holds.each (durable_of old mid _ (journal_file k) _ (gate + 1) _ _ file_is (ap (λ n. n + 1)
    gate_is)
    c.bytes-bytes.ensures.bytes (c.in_ok-write_synced.ensures.durable honest)) in
    let second = gate_run k gate payloads c.args.piece.now holds.gate old mid new each after in
    (IsRun-then old mid new _ _
    (stage_either k gate payloads c.args.piece.now holds.gate old mid new first)
    (gate_either k gate payloads c.args.piece.now holds.gate old mid new second)).any_moment

pub returns-in_err-write_synced-2-clause-others : goal.returns-in_err-write_synced-2-clause-others
returns-in_err-write_synced-2-clause-others g c = λ honest.
    let old = g.D.Disk.past c.args.disk.now in
    let mid = g.D.Disk.past c.write_synced.new.disk in
    let k = c.args.self.now.k in
    let gate = c.args.self.now.gate in
    let file_is = c.journal_file-file.ensures ∙ ap journal_file c.k.ensures in
    let gate_is = c.gate-gate.ensures in
    let new = g.D.Disk.past c.write_synced-2.new.disk in
    let still = c.write_synced.ensures.honest honest in
    let first = run_of old mid _ (journal_file k) _ (gate + 1) _ file_is
    (ap (λ n. n + 1) gate_is)
    (c.write_synced.ensures.others honest) (c.write_synced.ensures.torn honest)
    (c.write_synced.ensures.any_moment honest) in
    let after = run_of mid new _ (journal_file k) _ gate _ file_is gate_is
    (c.write_synced-2.ensures.others still) (c.write_synced-2.ensures.torn still)
    (c.write_synced-2.ensures.any_moment still) in
    KeepsOthers-then old mid new (journal_file k) first.others after.others

pub returns-clause-ok : goal.returns-clause-ok
returns-clause-ok g c = λ payloads honest holds.
    let old = g.D.Disk.past c.args.disk.now in
    let mid = g.D.Disk.past c.write_synced.new.disk in
    let k = c.args.self.now.k in
    let gate = c.args.self.now.gate in
    let file_is = c.journal_file-file.ensures ∙ ap journal_file c.k.ensures in
    let gate_is = c.gate-gate.ensures in
    let new = g.D.Disk.past c.write_synced-2.new.disk in
    let still = c.write_synced.ensures.honest honest in
    let each = staged k gate payloads c.args.piece.now holds.gate old mid new
    c.bytes-bytes.ensures.fits
    holds.each (durable_of old mid _ (journal_file k) _ (gate + 1) _ _ file_is (ap (λ n. n + 1)
    gate_is)
    c.bytes-bytes.ensures.bytes (c.in_ok-write_synced.ensures.durable honest)) in
    let piece = c.args.piece.now in
    let size = length-front-push k payloads piece in
    Holds-by c.settle.new.self k _ new (payloads ++ piece ∷ [])
    (ap (λ j. j.k) c.settle.ensures ∙ ap (λ j. j.k) c.doubt.ensures)
    (ap (λ j. j.pending) c.settle.ensures) (ap (λ j. j.gate) c.settle.ensures)
    (omega (arith, holds.gate, gate_is, ap length c.bytes-bytes.ensures.bytes))
    (opened_gate k gate payloads piece holds.gate old mid new each
    (durable_of mid new _ (journal_file k) _ gate _ _ file_is gate_is refl
    (c.in_ok-write_synced-2.ensures.durable still)))

pub returns-clause-any_moment : goal.returns-clause-any_moment
returns-clause-any_moment g c = λ payloads honest holds.
    let old = g.D.Disk.past c.args.disk.now in
    let mid = g.D.Disk.past c.write_synced.new.disk in
    let k = c.args.self.now.k in
    let gate = c.args.self.now.gate in
    let file_is = c.journal_file-file.ensures ∙ ap journal_file c.k.ensures in
    let gate_is = c.gate-gate.ensures in
    let new = g.D.Disk.past c.write_synced-2.new.disk in
    let still = c.write_synced.ensures.honest honest in
    let before = run_of old mid _ (journal_file k) _ (gate + 1) _ file_is
    (ap (λ n. n + 1) gate_is)
    (c.write_synced.ensures.others honest) (c.write_synced.ensures.torn honest)
    (c.write_synced.ensures.any_moment honest) in
    let first = stage_run k gate payloads c.args.piece.now holds.gate old mid mid _ holds.each
    before in
    let after = run_of mid new _ (journal_file k) _ gate _ file_is gate_is
    (c.write_synced-2.ensures.others still) (c.write_synced-2.ensures.torn still)
    (c.write_synced-2.ensures.any_moment still) in
    let each = staged k gate payloads c.args.piece.now holds.gate old mid new
    c.bytes-bytes.ensures.fits
    holds.each (durable_of old mid _ (journal_file k) _ (gate + 1) _ _ file_is (ap (λ n. n + 1)
    gate_is)
    c.bytes-bytes.ensures.bytes (c.in_ok-write_synced.ensures.durable honest)) in
    let second = gate_run k gate payloads c.args.piece.now holds.gate old mid new each after in
    (IsRun-then old mid new _ _
    (stage_either k gate payloads c.args.piece.now holds.gate old mid new first)
    (gate_either k gate payloads c.args.piece.now holds.gate old mid new second)).any_moment

pub returns-clause-others : goal.returns-clause-others
returns-clause-others g c = λ honest.
    let old = g.D.Disk.past c.args.disk.now in
    let mid = g.D.Disk.past c.write_synced.new.disk in
    let k = c.args.self.now.k in
    let gate = c.args.self.now.gate in
    let file_is = c.journal_file-file.ensures ∙ ap journal_file c.k.ensures in
    let gate_is = c.gate-gate.ensures in
    let new = g.D.Disk.past c.write_synced-2.new.disk in
    let still = c.write_synced.ensures.honest honest in
    let first = run_of old mid _ (journal_file k) _ (gate + 1) _ file_is
    (ap (λ n. n + 1) gate_is)
    (c.write_synced.ensures.others honest) (c.write_synced.ensures.torn honest)
    (c.write_synced.ensures.any_moment honest) in
    let after = run_of mid new _ (journal_file k) _ gate _ file_is gate_is
    (c.write_synced-2.ensures.others still) (c.write_synced-2.ensures.torn still)
    (c.write_synced-2.ensures.any_moment still) in
    KeepsOthers-then old mid new (journal_file k) first.others after.others
