-- What is listed so far is put, and what is left of the list stands behind it.
use Rattle.std.proofs.Common.{◌≡◌, ℕ, ◌+◌, ◌≤◌, nat_eq, ◌++◌, length}
use Rattle.std.specs.Option.{option_map}
use Rattle.std.specs.Map.{lookup}
use Rattle.indexmap.specs.IndexMap.{spare}
use Rattle.page_store.specs.Settling.{url_put, listed_put}
use Rattle.page_store.specs.Rewriting.{uncounted_in}
use Rattle.page_store.proofs.rewrite.put_urls.Given as goal

abbrev pub invariant-loop-id : goal.invariant-loop-id
invariant-loop-id g l =
    record {
      rows : (id : ℕ) → lookup (nat_eq id) l.stored.entries
          ≡ option_map (listed_put url_put (lookup (nat_eq id) l.yielded)) (lookup
          (nat_eq id) l.initial.stored.entries);
      room : spare l.stored ≡ spare l.initial.stored;
      count : l.steps ≤ l.initial.steps + uncounted_in l.initial.stored.entries l.yielded;
      items : l.yielded ++ l.id-iterator.rest.items ≡ l.initial.id-iterator.rest.items;
      left : l.id-iterator.rest.len ≡ length l.id-iterator.rest.items;
    }
