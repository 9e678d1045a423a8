-- A form that is too long, and a journal that is, have no room.
use Rattle.std.proofs.Common.{◌+◌, sym, arith}
use Rattle.site_history.specs.Log.{RECORD_FRAME}
use Rattle.entry_log.proofs.RoomLemmas.{full-bytes, full-journal}
use Rattle.entry_log.proofs.room.room_for.Goals as goal

pub returns-then-size-gt-MAX_ENTRY_BYTES : goal.returns-then-size-gt-MAX_ENTRY_BYTES
returns-then-size-gt-MAX_ENTRY_BYTES c =
    sym (full-bytes c.args.entries c.args.bytes (c.args.gate + 1) (c.args.size + RECORD_FRAME)
    (omega (arith, c.if-size-gt-MAX_ENTRY_BYTES.true)))

pub returns-then-gate-ge-MAX_JOURNAL : goal.returns-then-gate-ge-MAX_JOURNAL
returns-then-gate-ge-MAX_JOURNAL c =
    sym (full-journal c.args.entries c.args.bytes (c.args.gate + 1) (c.args.size + RECORD_FRAME)
    (omega (arith, c.if-gate-ge-MAX_JOURNAL.true)))
