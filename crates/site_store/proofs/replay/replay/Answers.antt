-- What is read and done of what is left of the file is that of the file.
use Rattle.std.proofs.Common.{◌≡◌, ℕ, ap, ◌∙◌}
use Rattle.disk_model.specs.Past.{Past, seen}
use Rattle.journal.specs.Form.{journal_file}
use Rattle.site_store.specs.Opening.{start}
use Rattle.site_store.proofs.ReplayLemmas.{replayed_on, recovered_on, tells_on, fault_handed_on}
use Rattle.site_store.proofs.replay.replay.Goals as goal

pub returns-in_err-replay_entry-clause-replays : goal.returns-in_err-replay_entry-clause-replays
returns-in_err-replay_entry-clause-replays g c = λ world entries ready leads.
    let was = c.entries.invariant in
    let replayed = was.0 world entries ready leads in
    let told = c.in_err-replay_entry.ensures.replays replayed.world replayed.entries replayed.ready
    replayed.leads in
    let same : g.D.Disk.is_honest c.args.disk.now
    → seen (g.D.Disk.past c.entries.disk) (journal_file c.entries.scan.scan.k)
    ≡ seen (g.D.Disk.past c.args.disk.now) (journal_file c.args.scan.now.scan.k) = λ honest.
    ap (λ (p : Past). seen p (journal_file c.entries.scan.scan.k)) (was.2 honest)
    ∙ ap (λ (k : ℕ). seen (g.D.Disk.past c.args.disk.now) (journal_file k)) was.5 in
    fault_handed_on _ _ _ start _ _ c.from_residual.result c.in_err-replay_entry.field-0.0
    c.from_residual.ensures.0 c.from_residual.ensures.1
    (tells_on _ _ _ _ start _ _ replayed (λ sure. was.1 sure.0) (λ sure. same sure.0) _ _ _ was.5
    told)

pub entries-preserved : goal.entries-preserved
entries-preserved g c =
    let was = c.entries.invariant in
    let same : g.D.Disk.is_honest c.args.disk.now
    → seen (g.D.Disk.past c.entries.disk) (journal_file c.entries.scan.scan.k)
    ≡ seen (g.D.Disk.past c.args.disk.now) (journal_file c.args.scan.now.scan.k) = λ honest.
    ap (λ (p : Past). seen p (journal_file c.entries.scan.scan.k)) (was.2 honest)
    ∙ ap (λ (k : ℕ). seen (g.D.Disk.past c.args.disk.now) (journal_file k)) was.5 in (
      λ world entries ready leads.
          let replayed = was.0 world entries ready leads in
          replayed_on _ _ _ _ start _ _ replayed (λ sure. was.1 sure.0) (λ sure. same sure.0) _ _
          (rw c.if-branch.true at (c.in_ok-replay_entry.ensures.replays replayed.world
          replayed.entries replayed.ready replayed.leads)),
      λ honest. c.in_ok-replay_entry.ensures.honest (was.1 honest),
      λ honest. c.in_ok-replay_entry.ensures.same (was.1 honest) ∙ was.2 honest,
      λ f. c.in_ok-replay_entry.ensures.sizes f ∙ was.3 f,
      c.in_ok-replay_entry.ensures.no_fault ∙ was.4,
      c.in_ok-replay_entry.ensures.same_file.0 ∙ was.5,
      c.in_ok-replay_entry.ensures.same_file.1 ∙ was.6,
    )

pub returns-clause-replays : goal.returns-clause-replays
returns-clause-replays g c = λ world entries ready leads.
    let was = c.entries.invariant in
    let replayed = was.0 world entries ready leads in
    let same : g.D.Disk.is_honest c.args.disk.now
    → seen (g.D.Disk.past c.entries.disk) (journal_file c.entries.scan.scan.k)
    ≡ seen (g.D.Disk.past c.args.disk.now) (journal_file c.args.scan.now.scan.k) = λ honest.
    ap (λ (p : Past). seen p (journal_file c.entries.scan.scan.k)) (was.2 honest)
    ∙ ap (λ (k : ℕ). seen (g.D.Disk.past c.args.disk.now) (journal_file k)) was.5 in
    recovered_on _ _ _ _ start _ _ replayed (λ sure. was.1 sure.0) (λ sure. same sure.0) _ _
    (rw c.if-branch.false at (c.in_ok-replay_entry.ensures.replays replayed.world replayed.entries
    replayed.ready replayed.leads))
