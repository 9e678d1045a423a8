-- What stands at the page's place is the page's desk, or there is none.
use Rattle.std.proofs.Common.{◌≡◌, nat_eq, true, false}
use Rattle.desks.specs.Desks.{desk_in, place_in}
use Rattle.desks.proofs.AnswerLemmas.{tells_some, tells_none}
use Rattle.desks.proofs.PlaceLemmas.{stands_there, other_there, nothing_there}
use Rattle.desks.proofs.place.find.Goals as goal

pub returns-then-eq : goal.returns-then-eq
returns-then-eq c =
    let own : nat_eq c.in-Some.row.now.page c.args.page ≡ true = cc in
    tells_some (desk_in c.args.page c.args.rows.now) c.in-Some.row.now c.place_of-place.result
    (place_in c.args.page c.args.rows.now) (stands_there c.args.page c.args.rows.now
    c.place_of-place.result c.requires c.place_of-place.ensures c.in-Some.row.now c.in-Some.ensures own)
    c.place_of-place.ensures

pub returns-else-eq : goal.returns-else-eq
returns-else-eq c =
    let other : nat_eq c.in-Some.row.now.page c.args.page ≡ false = cc in
    tells_none (desk_in c.args.page c.args.rows.now) (place_in c.args.page c.args.rows.now)
    (other_there c.args.page c.args.rows.now c.place_of-place.result c.requires c.place_of-place.ensures
    c.in-Some.row.now c.in-Some.ensures other)

pub returns-in-None : goal.returns-in-None
returns-in-None c =
    tells_none (desk_in c.args.page c.args.rows.now) (place_in c.args.page c.args.rows.now)
    (nothing_there c.args.page c.args.rows.now c.place_of-place.result c.requires
    c.place_of-place.ensures c.in-None.ensures)
