-- The row of a user stands one place before the user's number.
use Rattle.std.proofs.Common.{◌≡◌, suc, ◌-◌, ◌∙◌, sym, arith}
use Rattle.grants.proofs.UserLemmas.{none_at_zero, numbered_from_one}
use Rattle.grants.proofs.look_up.row_at.Goals as goal

pub returns-then-number-eq0 : goal.returns-then-number-eq0
returns-then-number-eq0 c =
    let zeroth : c.args.user ≡ 0 = sym c.get-number.ensures.value ∙ c.if-number-eq0.true in
    rw zeroth (sym (none_at_zero c.args.users.now))

pub returns : goal.returns
returns c =
    let next : c.args.user ≡ suc (c.get-number.result - 1) = omega arith in
    rw next (c.row_in.ensures ∙ sym (numbered_from_one c.args.users.now (c.get-number.result - 1)))
