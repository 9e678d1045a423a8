-- The pages so far are out, and their keys.
use Rattle.std.proofs.Common.{◌≡◌, ℕ, ◌≤◌, cond, nat_eq, None, take}
use Rattle.std.specs.List.{list_any}
use Rattle.std.specs.Map.{lookup}
use Rattle.indexmap.specs.IndexMap.{spare}
use Rattle.page_store.specs.KidIndex.{keys_of, IsIndex, index_room}
use Rattle.page_store.proofs.remove.take_pages.Given as goal

abbrev pub invariant-loop-id : goal.invariant-loop-id
invariant-loop-id l =
    record {
      indexed : IsIndex l.kids (keys_of l.stored.entries);
      rows : (id : ℕ) → lookup (nat_eq id) l.stored.entries
          ≡ cond (list_any (λ taken. nat_eq taken id) (take l.id-index l.ids)) None (lookup (nat_eq
          id) l.initial.stored.entries);
      room_rows : spare l.initial.stored ≤ spare l.stored;
      room : index_room l.initial.kids ≤ index_room l.kids;
    }
