-- The partition point is the place of the key.
use Rattle.std.proofs.Common.{rules, [], ◌∷◌, ◌∙◌}
use Rattle.std.proofs.lemmas.List.Sorted.{IsPartitionPoint-from_clause}
use Rattle.page_tree.specs.Rows.{comes_before}
use Rattle.desk_pairs.specs.declared.pairs.Pair.{Pair}
use Rattle.desk_pairs.proofs.PlaceLemmas.{parted, place_found}
use Rattle.desk_pairs.proofs.PairLemmas.{kept_key, kept_rise, place_kept}
use Rattle.desk_pairs.proofs.search.place_at.Goals as goal

pub returns : goal.returns
returns c =
    let wanted = c.args.page ∷ [] in
    let kept = c.args.pairs.now in
    let point = IsPartitionPoint-from_clause (λ (pair : Pair). comes_before (kept_key pair) wanted)
    kept c.partition_point.result c.partition_point.ensures.partitioned
    (parted kept_key wanted kept (kept_rise kept c.requires)) (λ a r f called. search rules) in
    place_found kept_key wanted kept c.partition_point.result c.partition_point.ensures.bound point
    ∙ place_kept wanted kept
