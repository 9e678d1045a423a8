-- The pair is put in at its place.
use Rattle.std.proofs.Common.{◌∙◌, ◌≤◌, length, arith}
use Rattle.time_table.specs.Table.{is_earlier}
use Rattle.time_table.proofs.TableLemmas.{put_at_place, leading_within}
use Rattle.time_table.proofs.order.put_at.Goals as goal

pub insert-requires : goal.insert-requires
insert-requires c =
    let within : c.place_of-place.result ≤ length c.args.order.now.items =
    rw (c.place_of-place.ensures, c.deref.ensures.value)
    (leading_within (λ entry. is_earlier entry (c.args.at, c.args.page)) c.args.order.now.items) in
    omega arith

pub returns-clause-items : goal.returns-clause-items
returns-clause-items c =
    let place = put_at_place (c.args.at, c.args.page) c.args.order.now.items in
    c.insert.ensures.items ∙ rw (c.in-Ok.is, c.place_of-place.ensures, c.deref.ensures.value) place
