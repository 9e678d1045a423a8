-- No part has a desk.
use Rattle.std.proofs.Common.{arith}
use Rattle.site_core.proofs.PartLemmas.{all_empty, empty_lists, empty_stripes}
use Rattle.site_core.proofs.KeptLemmas.{none_kept}
use Rattle.site_core.proofs.desk_parts.DeskParts.new.Goals as goal

pub invariant_of-result : goal.invariant_of-result
invariant_of-result c = (
  (let past = c.loop-test.false in let few = c.loop.auto.counter-end in let count = c.loop.invariant.count in
      omega (arith, past, few, count)),
  empty_stripes _ (all_empty (λ part. part.desks) c.loop.parts.items c.loop.invariant.empty),
)

pub returns : goal.returns
returns c = λ page.
    none_kept _ (λ number. empty_lists _ number
    (all_empty (λ part. part.desks) c.loop.parts.items c.loop.invariant.empty)) page
