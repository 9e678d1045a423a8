-- The pair of the page is taken out at its place.
use Rattle.std.proofs.Common.{◌∙◌, ◌<◌, length, arith}
use Rattle.time_table.proofs.TableLemmas.{taken_at_place}
use Rattle.time_table.proofs.order.take_out.Goals as goal

pub remove-requires : goal.remove-requires
remove-requires c =
    let it = taken_at_place c.args.page c.args.at c.args.order.now.items c.requires.table c.requires.there in
    let within : c.place_of-place.result < length c.args.order.now.items =
    rw (c.place_of-place.ensures, c.deref.ensures.value) it.0 in
    omega arith

pub returns-clause-items : goal.returns-clause-items
returns-clause-items c =
    let it = taken_at_place c.args.page c.args.at c.args.order.now.items c.requires.table c.requires.there in
    c.remove.ensures.items ∙ rw (c.place_of-place.ensures, c.deref.ensures.value) it.1
