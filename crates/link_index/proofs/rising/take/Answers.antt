-- The pair is taken out at its place, if it stands there.
use Rattle.std.proofs.Common.{◌≡◌, ◌∙◌, true, false, sym}
use Rattle.std.specs.List.{slice_get}
use Rattle.link_index.specs.Pairs.{is_pair}
use Rattle.link_index.specs.Kept.{passes}
use Rattle.link_index.proofs.PairLemmas.{place_in, taken_at_place, taken_nowhere}
use Rattle.link_index.proofs.rising.take.Goals as goal

pub returns-then-is_at-clause-items : goal.returns-then-is_at-clause-items
returns-then-is_at-clause-items c =
    let place : c.place_of-place.result
    ≡ place_in (c.args.first, c.args.second) c.args.pairs.now.items =
    rw (c.deref.ensures.value) at c.place_of-place.ensures in
    let there : passes (is_pair c.args.first c.args.second)
    (slice_get c.args.pairs.now.items c.place_of-place.result) ≡ true =
    rw (c.deref-2.ensures.value) at (sym c.is_at.ensures ∙ c.if-is_at.true) in
    let it = taken_at_place c.args.first c.args.second c.args.pairs.now.items c.requires.rise
    (rw place at there) in
    c.remove.ensures.items ∙ rw place it.1

pub returns-else-is_at-clause-items : goal.returns-else-is_at-clause-items
returns-else-is_at-clause-items c =
    let place : c.place_of-place.result
    ≡ place_in (c.args.first, c.args.second) c.args.pairs.now.items =
    rw (c.deref.ensures.value) at c.place_of-place.ensures in
    let absent : passes (is_pair c.args.first c.args.second)
    (slice_get c.args.pairs.now.items c.place_of-place.result) ≡ false =
    rw (c.deref-2.ensures.value) at (sym c.is_at.ensures ∙ c.if-is_at.false) in
    taken_nowhere c.args.first c.args.second c.args.pairs.now.items c.requires.rise (rw place at absent)
