-- By whether the bytes are as many as a head may have.
use Rattle.std.proofs.Common.{sym, subst}
use Rattle.http_wire.specs.Reading.{Knows}
use Rattle.http_wire.proofs.ReadingLemmas.{part_without_head, refused_without_head, knows_no_head}
use Rattle.http_wire.proofs.reader.wait_for_head.Goals as goal

pub returns-then-bytes-lt-MAX_HEAD : goal.returns-then-bytes-lt-MAX_HEAD
returns-then-bytes-lt-MAX_HEAD c =
    let bytes = c.args.bytes.now in (
      part_without_head bytes c.requires c.if-bytes-lt-MAX_HEAD.true,
      subst (λ k. Knows (record { scanned = k; wanted = 0 }) bytes) (sym c.saturating_sub.ensures)
          (knows_no_head bytes c.requires c.if-bytes-lt-MAX_HEAD.true),
    )

pub returns-else-bytes-lt-MAX_HEAD : goal.returns-else-bytes-lt-MAX_HEAD
returns-else-bytes-lt-MAX_HEAD c =
    refused_without_head c.args.bytes.now c.requires c.if-bytes-lt-MAX_HEAD.false
