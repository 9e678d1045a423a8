-- A payload is the form of the next entry, or of none.
use Rattle.std.proofs.Common.{◌≡◌, ◌+◌, Err, refl, sym, ap, subst, ◌∙◌}
use Rattle.disk_model.specs.Past.{seen}
use Rattle.journal.specs.declared.fault.ScanFault.TheVariants.{Bad}
use Rattle.journal.specs.Form.{journal_file}
use Rattle.entry_log.specs.Entries.{forms}
use Rattle.entry_log.specs.Scan.{IsEntryIn}
use Rattle.entry_log.proofs.ReadingLemmas.{IsBadAt-short, IsBadAt-none, HasReadEntries-push}
use Rattle.entry_log.proofs.scan.EntryScan.next.Goals as goal

pub returns-in-Err-clause-bad : goal.returns-in-Err-clause-bad
returns-in-Err-clause-bad g c = λ base entries honest read offset is_bad.
    let same : c.in-Err.fault ≡ Bad offset = cc is_bad in
    IsBadAt-short c.args.self.now.scan.k base entries _ offset read.are read.records.fit
    (c.in-Err.ensures.bad (forms entries) honest read.records offset (ap Err same))

pub returns-in-Ok-None-clause-none : goal.returns-in-Ok-None-clause-none
returns-in-Ok-None-clause-none g c = λ base entries honest read.
    let recovers = rw c.in-Ok-None.field-0-is at (c.in-Ok-None.ensures.none (forms entries) honest
    read.records) in
    record { payloads = recovers; are = read.are }

pub returns-in-Ok-None-entry_in-clause-bad : goal.returns-in-Ok-None-entry_in-clause-bad
returns-in-Ok-None-entry_in-clause-bad g c = λ base entries honest read offset is_bad.
    let bytes = seen (g.D.Disk.past c.args.disk.now) (journal_file c.args.self.now.scan.k) in
    let records = rw c.in-Ok-Some.field-0-is at (c.in-Ok-Some.ensures.some (forms entries) honest
    read.records) in
    let none = rw c.in-Ok-None-entry_in.field-0-is at c.in-Ok-None-entry_in.ensures.none in
    let place : c.gate-gate.result ≡ offset = cc is_bad in
    IsBadAt-none c.args.self.now c.next.new.self bytes base offset entries
    c.in-Ok-Some.payload read records c.in-Ok-Some.ensures.same_file.0
    (sym place ∙ c.gate-gate.ensures.gate)
    (λ entry is. none entry (subst (λ p. IsEntryIn p (c.args.self.now.number + 1) entry)
    (sym c.as_slice.ensures) is))

pub returns-clause-some : goal.returns-clause-some
returns-clause-some g c = λ base entries honest read.
    let bytes = seen (g.D.Disk.past c.args.disk.now) (journal_file c.args.self.now.scan.k) in
    let records = rw c.in-Ok-Some.field-0-is at (c.in-Ok-Some.ensures.some (forms entries) honest
    read.records) in
    let found = rw c.in-Ok-Some-entry_in.field-0-is at c.in-Ok-Some-entry_in.ensures.some in
    HasReadEntries-push c.args.self.now _ bytes base entries c.in-Ok-Some.payload
    c.in-Ok-Some-entry_in.entry read records
    (subst (λ p. IsEntryIn p (c.args.self.now.number + 1) c.in-Ok-Some-entry_in.entry)
    c.as_slice.ensures found) refl
