-- What stands at the page's place is the page's desk, or there is none.
use Rattle.std.proofs.Common.{◌≡◌, nat_eq, true, false}
use Rattle.desks.proofs.DeskLemmas.{own_told, none_told}
use Rattle.desks.proofs.PlaceLemmas.{stands_there, other_there, nothing_there}
use Rattle.desks.proofs.place.is_own_at.Goals as goal

pub returns-then-eq : goal.returns-then-eq
returns-then-eq c =
    let own : nat_eq c.in-Some.row.now.page c.args.page ≡ true = cc in
    own_told c.args.page c.args.user c.args.rows.now c.in-Some.row.now _ c.requires.rise
    (stands_there c.args.page c.args.rows.now c.args.place c.requires.rise c.requires.at
    c.in-Some.row.now c.in-Some.ensures own) c.eq-then-eq.ensures

pub returns-else-eq : goal.returns-else-eq
returns-else-eq c =
    let other : nat_eq c.in-Some.row.now.page c.args.page ≡ false = cc in
    none_told c.args.page c.args.user c.args.rows.now c.requires.rise
    (other_there c.args.page c.args.rows.now c.args.place c.requires.rise c.requires.at
    c.in-Some.row.now c.in-Some.ensures other)

pub returns-in-None : goal.returns-in-None
returns-in-None c =
    none_told c.args.page c.args.user c.args.rows.now c.requires.rise
    (nothing_there c.args.page c.args.rows.now c.args.place c.requires.rise c.requires.at
    c.in-None.ensures)
