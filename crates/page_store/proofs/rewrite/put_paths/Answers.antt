-- One more path is put.
use Rattle.std.proofs.Common.{nat_eq, ◌∙◌, arith}
use Rattle.std.specs.Map.{lookup}
use Rattle.page_store.specs.Rewriting.{path_counted}
use Rattle.page_store.proofs.ListingLemmas.{listed_more}
use Rattle.page_store.proofs.RewriteLemmas.{uncounted-small, path_rewritten}
use Rattle.page_store.proofs.rewrite.put_paths.Goals as goal

pub loop-id-preserved : goal.loop-id-preserved
loop-id-preserved g c =
    record {
      rows = listed_more path_counted c.args.pairs.now c.loop-id.id-index _
          (λ q. lookup (nat_eq q) c.args.stored.now.entries)
          (λ q. lookup (nat_eq q) c.loop-id.stored.entries)
          (λ q. lookup (nat_eq q) c.rewrite.new.stored.entries) c.requires.once c.loop-id-test.true
          c.loop-id-item.is c.loop-id.invariant.rows
          (path_rewritten c.text_of.result c.loop-id-item.result.1 c.depth.result
          c.loop-id-item.result.0 (λ q. lookup (nat_eq q) c.loop-id.stored.entries) (λ q. lookup
          (nat_eq q) c.rewrite.new.stored.entries) c.text_of.ensures c.depth.ensures.value
          c.rewrite.ensures.rows);
      room = c.rewrite.ensures.spare ∙ c.loop-id.invariant.room;
      count = let one = c.rewrite.ensures.steps in let before = c.loop-id.invariant.count in
          let small = uncounted-small (lookup (nat_eq c.loop-id-item.result.0) c.loop-id.stored.entries) in
          omega arith;
    }
