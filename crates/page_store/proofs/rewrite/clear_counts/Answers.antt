-- One more page is counted no longer.
use Rattle.std.proofs.Common.{nat_eq, ◌∙◌}
use Rattle.std.specs.Map.{lookup}
use Rattle.page_store.specs.Rewriting.{count_cleared}
use Rattle.page_store.proofs.ListingLemmas.{listed_more}
use Rattle.page_store.proofs.rewrite.clear_counts.Goals as goal

pub loop-id-preserved : goal.loop-id-preserved
loop-id-preserved c =
    record {
      rows = listed_more count_cleared c.args.pairs.now c.loop-id.id-index _
          (λ q. lookup (nat_eq q) c.args.stored.now.entries)
          (λ q. lookup (nat_eq q) c.loop-id.stored.entries)
          (λ q. lookup (nat_eq q) c.clear_count.new.stored.entries) c.requires.once
          c.loop-id-test.true c.loop-id-item.is c.loop-id.invariant.rows c.clear_count.ensures.rows;
      room = c.clear_count.ensures.spare ∙ c.loop-id.invariant.room;
    }
