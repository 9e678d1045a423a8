-- An entry is appended as the payload that its form is.
use Rattle.std.proofs.Common.{length, refl, ap, arith}
use Rattle.std.specs.Option.{option_map}
use Rattle.byte_forms.specs.Entries.{entry_form}
use Rattle.entry_log.specs.declared.log.EntryLog.{EntryLog}
use Rattle.entry_log.specs.Entries.{forms}
use Rattle.entry_log.proofs.AppendLemmas.{Keeps-appended, Keeps-after_fault, Keeps-any_moment, log-counted, log-kept}
use Rattle.entry_log.proofs.RoomLemmas.{room_left}
use Rattle.entry_log.proofs.log.EntryLog.append.Goals as goal

pub append_to-requires-clause-room : goal.append_to-requires-clause-room
append_to-requires-clause-room g c =
    let may = c.requires.follows in
    let room = room_left c.args.self.now c.args.draft.now may in
    omega (arith, room.journal, ap length may.piece)

pub count-requires-clause-entries : goal.count-requires-clause-entries
count-requires-clause-entries g c =
    let room = room_left c.args.self.now c.args.draft.now c.requires.follows in
    omega (arith, room.entries)

pub count-requires-clause-bytes : goal.count-requires-clause-bytes
count-requires-clause-bytes g c =
    let may = c.requires.follows in
    let room = room_left c.args.self.now c.args.draft.now may in
    omega (arith, room.bytes, may.size)

pub count-requires-clause-number : goal.count-requires-clause-number
count-requires-clause-number g c =
    let may = c.requires.follows in
    omega (arith, may.number, may.is.fits)

pub returns-in-Err-clause-err : goal.returns-in-Err-clause-err
returns-in-Err-clause-err g c = λ base entries doubt honest keeps.
    let mid : EntryLog = record c.args.self.now { journal = c.append_to.new.journal } in
    let past = g.D.Disk.past in
    Keeps-after_fault c.args.self.now mid (past c.args.disk.now)
    (past c.append_to.new.disk) base entries doubt c.args.draft.now keeps c.requires.follows refl
    (c.in-Err.ensures.err (forms entries) (option_map entry_form doubt) honest keeps.holds)

pub returns-in-Err-clause-any_moment : goal.returns-in-Err-clause-any_moment
returns-in-Err-clause-any_moment g c = λ base entries doubt honest keeps.
    let past = g.D.Disk.past in
    Keeps-any_moment c.args.self.now (past c.args.disk.now) (past c.append_to.new.disk) base entries
    doubt c.args.draft.now keeps c.requires.follows
    (c.in-Err.ensures.any_moment (forms entries) (option_map entry_form doubt) honest keeps.holds)

pub returns-in-Ok-clause-ok : goal.returns-in-Ok-clause-ok
returns-in-Ok-clause-ok g c = λ base entries doubt honest keeps.
    let past = g.D.Disk.past in
    rw c.count.ensures
    (Keeps-appended c.args.self.now _ (past c.args.disk.now) (past c.append_to.new.disk) base entries
    doubt c.args.draft.now keeps c.requires.follows refl
    (c.in-Ok.ensures.ok (forms entries) (option_map entry_form doubt) honest keeps.holds))

pub returns-in-Ok-clause-any_moment : goal.returns-in-Ok-clause-any_moment
returns-in-Ok-clause-any_moment g c = λ base entries doubt honest keeps.
    let past = g.D.Disk.past in
    Keeps-any_moment c.args.self.now (past c.args.disk.now) (past c.append_to.new.disk) base entries
    doubt c.args.draft.now keeps c.requires.follows
    (c.in-Ok.ensures.any_moment (forms entries) (option_map entry_form doubt) honest keeps.holds)

pub returns-in-Ok-clause-log : goal.returns-in-Ok-clause-log
returns-in-Ok-clause-log g c =
    let mid : EntryLog = record c.args.self.now { journal = c.append_to.new.journal } in
    log-counted c.args.self.now mid c.count.new.self c.args.draft.now
    c.requires.follows refl refl c.in-Ok.ensures.gate c.count.ensures

pub returns-in-Err-clause-log_kept : goal.returns-in-Err-clause-log_kept
returns-in-Err-clause-log_kept g c =
    let mid : EntryLog = record c.args.self.now { journal = c.append_to.new.journal } in
    log-kept c.args.self.now mid refl refl c.in-Err.ensures.gate_kept
