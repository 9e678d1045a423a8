use Rattle.std.proofs.Common.{◌≡◌, ◌≤◌, [], map, replicate, vec_len, vec_capacity}
use Rattle.std.specs.List.{All}
use Rattle.disk_model.proofs.files.Files.new.Given as goal

abbrev pub invariant-loop : goal.invariant-loop
invariant-loop l = record {
  count : vec_len l.files ≡ l.counter;
  rooms : All (λ v. l.room ≤ vec_capacity v) l.files.items;
  empty : map (λ v. v.items) l.files.items ≡ replicate l.counter [];
}
