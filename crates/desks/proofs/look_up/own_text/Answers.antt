-- The desk on the page is the user's, or the user has none there.
use Rattle.std.proofs.Common.{◌≡◌, ◌∙◌, sym, ap, nat_eq, true, false}
use Rattle.desks.specs.Laws.{own_text}
use Rattle.desks.proofs.DeskLemmas.{own_is}
use Rattle.desks.proofs.look_up.own_text.Goals as goal

pub returns-then-eq : goal.returns-then-eq
returns-then-eq c =
    let own : nat_eq c.in-Some.row.now.user c.args.user ≡ true = cc in
    sym (own_is c.args.page c.args.user c.args.rows.now c.requires ∙ ap (own_text c.args.user) (sym
    c.in-Some.ensures) ∙ rw own)

pub returns-else-eq : goal.returns-else-eq
returns-else-eq c =
    let other : nat_eq c.in-Some.row.now.user c.args.user ≡ false = cc in
    sym (own_is c.args.page c.args.user c.args.rows.now c.requires ∙ ap (own_text c.args.user) (sym
    c.in-Some.ensures) ∙ rw other)

pub returns-in-None : goal.returns-in-None
returns-in-None c =
    sym (own_is c.args.page c.args.user c.args.rows.now c.requires ∙ ap (own_text c.args.user) (sym
    c.in-None.ensures))
