-- An entry with its record, if the log has room for it.
use Rattle.std.proofs.Common.{◌≡◌, ◌+◌, true, length, refl, sym, ap, ◌∙◌, arith}
use Rattle.byte_forms.specs.Entries.{entry_form}
use Rattle.site_history.specs.Log.{RECORD_FRAME, log_room}
use Rattle.entry_log.proofs.RoomLemmas.{room_facts, has_room-true, has_room-false}
use Rattle.entry_log.proofs.log.EntryLog.draft.Goals as goal

pub returns-then-not-room_for-clause-full : goal.returns-then-not-room_for-clause-full
returns-then-not-room_for-clause-full c = λ full.
    let log = c.args.self.now in
    let size = c.len-size.result in
    has_room-false log c.args.entry size (c.len-size.ensures ∙ ap length c.in-Ok.ensures.form)
    (ap (λ g. log_room log.entries log.bytes (g + 1) (size + RECORD_FRAME)) (sym c.gate-gate.ensures)
    ∙ sym c.room_for.ensures ∙ c.if-not-room_for.true)

pub make_record-requires : goal.make_record-requires
make_record-requires c =
    let log = c.args.self.now in
    let size = c.len-size.result in
    let room = room_facts 0 log.entries log.bytes (c.gate-gate.result + 1) size
    (sym c.room_for.ensures ∙ c.if-not-room_for.false) in
    omega (arith, room.bytes, c.len-size.ensures, ap length c.as_slice.ensures)

pub returns-in-Ok-make_record-clause-ok : goal.returns-in-Ok-make_record-clause-ok
returns-in-Ok-make_record-clause-ok c =
    let log = c.args.self.now in
    let size = c.len-size.result in
    let size_is : size ≡ length (entry_form c.args.entry) =
    c.len-size.ensures ∙ ap length c.in-Ok.ensures.form in
    let room : log_room log.entries log.bytes (log.journal.gate + 1) (size + RECORD_FRAME) ≡ true =
    ap (λ g. log_room log.entries log.bytes (g + 1) (size + RECORD_FRAME)) (sym c.gate-gate.ensures)
    ∙ sym c.room_for.ensures ∙ c.if-not-room_for.false in (
      refl,
      record {
        is = c.in-Ok.ensures.has_form;
        number = c.requires.number;
        room = has_room-true log c.args.entry size size_is c.in-Ok.ensures.has_form c.requires.number
            room;
        piece = c.in-Ok-make_record.ensures ∙ c.as_slice.ensures ∙ c.in-Ok.ensures.form;
        size = size_is;
      },
    )
