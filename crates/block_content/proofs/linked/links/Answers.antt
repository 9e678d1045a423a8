-- Sorted, and without what comes twice, the numbers rise and are the same.
use Rattle.std.proofs.Common.{◌≡◌, ◌∙◌}
use Rattle.std.proofs.lemmas.List.Filters.{dedup_is}
use Rattle.std.proofs.lemmas.Map.Keys.{IsStrictlyIncreasing-dedup}
use Rattle.site_types.specs.Links.{pages_in}
use Rattle.block_content.proofs.LinkLemmas.{sorted_are_linked}
use Rattle.block_content.proofs.linked.links.Goals as goal

pub returns-clause-rising : goal.returns-clause-rising
returns-clause-rising c =
    let is = dedup_is _ _ _ c.dedup.ensures.filtered in
    rw (c.from_vec.ensures, is) (IsStrictlyIncreasing-dedup _ c.sort_unstable.ensures.sorted)

pub returns-clause-linked : goal.returns-clause-linked
returns-clause-linked c =
    let once = c.from_vec.ensures ∙ dedup_is _ _ _ c.dedup.ensures.filtered in
    let pages : c.in_ok-numbers.numbers.items ≡ pages_in c.args.content.now.blocks =
    cc (c.in_ok-numbers.ensures, c.as_slice.ensures, c.blocks-2.ensures.value) in
    sorted_are_linked c.args.content.now.blocks c.in_ok-numbers.numbers.items
    c.sort_unstable.new.self.items c.from_vec.result pages c.sort_unstable.ensures.permutation once
