use Rattle.std.proofs.Common.{refl, ◌∙◌, ap}
use Rattle.journal.specs.Form.{journal_file}
use Rattle.journal.proofs.JournalLemmas.{run_of, durable_of, gate_run, closed_gate, gate_either, OnErr-any, Holds-by}
use Rattle.journal.proofs.journal.Journal.repair.Goals as goal

pub returns-in_err-write_synced-clause-err : goal.returns-in_err-write_synced-clause-err
returns-in_err-write_synced-clause-err g c = λ payloads payload honest doubt.
    let old = g.D.Disk.past c.args.disk.now in
    let new = g.D.Disk.past c.write_synced.new.disk in
    let k = c.args.self.now.k in
    let gate = c.args.self.now.gate in
    let file_is = c.journal_file.ensures ∙ ap journal_file c.k.ensures in
    let gate_is = c.gate-gate.ensures in
    let written = run_of old new _ (journal_file k) _ gate _ file_is gate_is
    (c.write_synced.ensures.others honest) (c.write_synced.ensures.torn honest)
    (c.write_synced.ensures.any_moment honest) in
    let run = gate_run k gate payloads payload doubt.gate old old new doubt.each written in
    OnErr-any c.from_residual.result _
    (record { doubt = doubt.doubt; gate = doubt.gate; each = run.each })

pub returns-in_err-write_synced-clause-any_moment :
    goal.returns-in_err-write_synced-clause-any_moment
returns-in_err-write_synced-clause-any_moment g c = λ payloads payload honest doubt.
    let old = g.D.Disk.past c.args.disk.now in
    let new = g.D.Disk.past c.write_synced.new.disk in
    let k = c.args.self.now.k in
    let gate = c.args.self.now.gate in
    let file_is = c.journal_file.ensures ∙ ap journal_file c.k.ensures in
    let gate_is = c.gate-gate.ensures in
    let written = run_of old new _ (journal_file k) _ gate _ file_is gate_is
    (c.write_synced.ensures.others honest) (c.write_synced.ensures.torn honest)
    (c.write_synced.ensures.any_moment honest) in
    let run = gate_run k gate payloads payload doubt.gate old old new doubt.each written in
    (gate_either k gate payloads payload doubt.gate old old new run).any_moment

pub returns-in_err-write_synced-clause-others : goal.returns-in_err-write_synced-clause-others
returns-in_err-write_synced-clause-others g c = λ honest.
    let old = g.D.Disk.past c.args.disk.now in
    let new = g.D.Disk.past c.write_synced.new.disk in
    let k = c.args.self.now.k in
    let gate = c.args.self.now.gate in
    let file_is = c.journal_file.ensures ∙ ap journal_file c.k.ensures in
    let gate_is = c.gate-gate.ensures in
    let written = run_of old new _ (journal_file k) _ gate _ file_is gate_is
    (c.write_synced.ensures.others honest) (c.write_synced.ensures.torn honest)
    (c.write_synced.ensures.any_moment honest) in
    written.others

pub returns-clause-any_moment : goal.returns-clause-any_moment
returns-clause-any_moment g c = λ payloads payload honest doubt.
    let old = g.D.Disk.past c.args.disk.now in
    let new = g.D.Disk.past c.write_synced.new.disk in
    let k = c.args.self.now.k in
    let gate = c.args.self.now.gate in
    let file_is = c.journal_file.ensures ∙ ap journal_file c.k.ensures in
    let gate_is = c.gate-gate.ensures in
    let written = run_of old new _ (journal_file k) _ gate _ file_is gate_is
    (c.write_synced.ensures.others honest) (c.write_synced.ensures.torn honest)
    (c.write_synced.ensures.any_moment honest) in
    let run = gate_run k gate payloads payload doubt.gate old old new doubt.each written in
    (gate_either k gate payloads payload doubt.gate old old new run).any_moment

pub returns-clause-others : goal.returns-clause-others
returns-clause-others g c = λ honest.
    let old = g.D.Disk.past c.args.disk.now in
    let new = g.D.Disk.past c.write_synced.new.disk in
    let k = c.args.self.now.k in
    let gate = c.args.self.now.gate in
    let file_is = c.journal_file.ensures ∙ ap journal_file c.k.ensures in
    let gate_is = c.gate-gate.ensures in
    let written = run_of old new _ (journal_file k) _ gate _ file_is gate_is
    (c.write_synced.ensures.others honest) (c.write_synced.ensures.torn honest)
    (c.write_synced.ensures.any_moment honest) in
    written.others

pub returns-clause-ok : goal.returns-clause-ok
returns-clause-ok g c = λ payloads payload honest doubt.
    let old = g.D.Disk.past c.args.disk.now in
    let new = g.D.Disk.past c.write_synced.new.disk in
    let k = c.args.self.now.k in
    let gate = c.args.self.now.gate in
    let file_is = c.journal_file.ensures ∙ ap journal_file c.k.ensures in
    let gate_is = c.gate-gate.ensures in
    Holds-by c.settle.new.self k gate new payloads (ap (λ j. j.k) c.settle.ensures)
    (ap (λ j. j.pending) c.settle.ensures) (ap (λ j. j.gate) c.settle.ensures ∙ gate_is) doubt.gate
    (closed_gate k gate payloads payload doubt.gate old old new doubt.each
    (durable_of old new _ (journal_file k) _ gate _ _ file_is gate_is refl
    (c.in_ok-write_synced.ensures.durable honest)))
