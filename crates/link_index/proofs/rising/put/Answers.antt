-- The pair is put in at its place, unless it stands there.
use Rattle.std.proofs.Common.{◌≡◌, ◌≤◌, ◌∙◌, true, false, length, sym, arith}
use Rattle.std.specs.List.{slice_get}
use Rattle.link_index.specs.Pairs.{is_earlier, is_pair}
use Rattle.link_index.specs.Kept.{passes}
use Rattle.link_index.proofs.PairLemmas.{place_in, leading_within, put_at_place, put_nowhere}
use Rattle.link_index.proofs.rising.put.Goals as goal

pub insert-requires : goal.insert-requires
insert-requires c =
    let within : c.place_of-place.result ≤ length c.args.pairs.now.items =
    rw (c.place_of-place.ensures, c.deref.ensures.value)
    (leading_within (λ pair. is_earlier pair (c.args.first, c.args.second)) c.args.pairs.now.items) in
    omega arith

pub returns-then-is_at-clause-items : goal.returns-then-is_at-clause-items
returns-then-is_at-clause-items c =
    let place : c.place_of-place.result
    ≡ place_in (c.args.first, c.args.second) c.args.pairs.now.items =
    rw (c.deref.ensures.value) at c.place_of-place.ensures in
    let there : passes (is_pair c.args.first c.args.second)
    (slice_get c.args.pairs.now.items c.place_of-place.result) ≡ true =
    rw (c.deref-2.ensures.value) at (sym c.is_at.ensures ∙ c.if-is_at.true) in
    put_nowhere (c.args.first, c.args.second) c.args.pairs.now.items (rw place at there)

pub returns-clause-items : goal.returns-clause-items
returns-clause-items c =
    let place : c.place_of-place.result
    ≡ place_in (c.args.first, c.args.second) c.args.pairs.now.items =
    rw (c.deref.ensures.value) at c.place_of-place.ensures in
    let absent : passes (is_pair c.args.first c.args.second)
    (slice_get c.args.pairs.now.items c.place_of-place.result) ≡ false =
    rw (c.deref-2.ensures.value) at (sym c.is_at.ensures ∙ c.if-is_at.false) in
    c.insert.ensures.items
    ∙ rw (c.in-Ok.is, place)
    (put_at_place (c.args.first, c.args.second) c.args.pairs.now.items (rw place at absent))
