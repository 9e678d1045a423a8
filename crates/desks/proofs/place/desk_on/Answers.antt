-- What stands at the page's place is the page's desk, or there is none.
use Rattle.std.proofs.Common.{◌≡◌, nat_eq, true, false}
use Rattle.desks.proofs.PlaceLemmas.{stands_there, other_there, nothing_there}
use Rattle.desks.proofs.place.desk_on.Goals as goal

pub returns-then-eq : goal.returns-then-eq
returns-then-eq c =
    let own : nat_eq c.in-Some.row.now.page c.args.page ≡ true = cc in
    stands_there c.args.page c.args.rows.now c.place_of.result c.requires c.place_of.ensures
    c.in-Some.row.now c.in-Some.ensures own

pub returns-else-eq : goal.returns-else-eq
returns-else-eq c =
    let other : nat_eq c.in-Some.row.now.page c.args.page ≡ false = cc in
    other_there c.args.page c.args.rows.now c.place_of.result c.requires c.place_of.ensures
    c.in-Some.row.now c.in-Some.ensures other

pub returns-in-None : goal.returns-in-None
returns-in-None c =
    nothing_there c.args.page c.args.rows.now c.place_of.result c.requires c.place_of.ensures
    c.in-None.ensures
