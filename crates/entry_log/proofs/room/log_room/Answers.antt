-- Each test of a log's room on its own.
use Rattle.std.proofs.Common.{◌+◌, sym, arith}
use Rattle.std.proofs.lemmas.Bool.{iff_false}
use Rattle.site_history.specs.Log.{MAX_ENTRY_BYTES, RECORD_FRAME}
use Rattle.entry_log.proofs.RoomLemmas.{full-entries, full-bytes, room-journal, not_within}
use Rattle.entry_log.proofs.room.log_room.Goals as goal

pub returns-then-entries-ge-MAX_ENTRIES : goal.returns-then-entries-ge-MAX_ENTRIES
returns-then-entries-ge-MAX_ENTRIES c =
    sym (full-entries c.args.entries c.args.bytes c.args.journal c.args.more
    (omega (arith, c.if-entries-ge-MAX_ENTRIES.true)))

pub returns-then-not-fits : goal.returns-then-not-fits
returns-then-not-fits c =
    let over = not_within (MAX_ENTRY_BYTES + RECORD_FRAME) (c.args.bytes + c.args.more)
    (iff_false c.fits.ensures c.if-not-fits.true) in
    sym (full-bytes c.args.entries c.args.bytes c.args.journal c.args.more (omega (arith, over)))

pub returns : goal.returns
returns c =
    room-journal c.fits-2.result c.args.entries c.args.bytes c.args.journal c.args.more
    (omega (arith, c.if-entries-ge-MAX_ENTRIES.false))
    (omega (arith, c.fits.ensures.0 c.if-not-fits.false)) c.fits-2.ensures
