-- So many parts were made, and none has a desk.
use Rattle.std.proofs.Common.{◌≡◌, [], length}
use Rattle.std.specs.List.{AllByRecursion}
use Rattle.site_core.proofs.desk_parts.DeskParts.new.Given as goal

abbrev pub invariant-loop : goal.invariant-loop
invariant-loop l =
    record {
      count : length l.parts.items ≡ l.counter;
      empty : AllByRecursion (λ part. part.desks ≡ []) l.parts.items;
    }
