-- The listed pages so far are counted no longer.
use Rattle.std.proofs.Common.{◌≡◌, ℕ, nat_eq, take}
use Rattle.std.specs.Option.{option_map}
use Rattle.std.specs.Map.{lookup}
use Rattle.indexmap.specs.IndexMap.{spare}
use Rattle.page_store.specs.Settling.{listed_put}
use Rattle.page_store.specs.Rewriting.{count_cleared}
use Rattle.page_store.proofs.rewrite.clear_counts.Given as goal

abbrev pub invariant-loop-id : goal.invariant-loop-id
invariant-loop-id l =
    record {
      rows : (id : ℕ) → lookup (nat_eq id) l.stored.entries
          ≡ option_map (listed_put count_cleared (lookup (nat_eq id) (take l.id-index l.pairs))) (lookup
          (nat_eq id) l.initial.stored.entries);
      room : spare l.stored ≡ spare l.initial.stored;
    }
