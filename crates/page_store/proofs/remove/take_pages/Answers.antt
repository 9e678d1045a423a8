-- One page more is out, and its key.
use Rattle.std.proofs.Common.{nat_eq, arith}
use Rattle.std.specs.Map.{lookup}
use Rattle.page_store.proofs.TakenLemmas.{rows_taken}
use Rattle.page_store.proofs.remove.take_pages.Goals as goal

pub loop-id-preserved : goal.loop-id-preserved
loop-id-preserved c =
    let at = c.loop-id.invariant in
    let taken = c.take_page.ensures in
    record {
      indexed = taken.indexed;
      rows = rows_taken c.args.ids.now c.loop-id.id-index c.id-item.result c.loop-id-test.true
          c.id-item.is (λ q. lookup (nat_eq q) c.args.stored.now.entries) (λ q. lookup (nat_eq q)
          c.loop-id.stored.entries) at.rows (λ q. lookup (nat_eq q) c.take_page.new.stored.entries)
          taken.rows;
      room_rows = omega (arith, at.room_rows, taken.spare_rows);
      room = omega (arith, at.room, taken.room);
    }
