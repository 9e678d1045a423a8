-- The grant is taken out or put in at its place.
use Rattle.std.proofs.Common.{◌≡◌, ◌∙◌, false, true, arith}
use Rattle.std.proofs.lemmas.Bool.Decides.{nat_tests}
use Rattle.grants.proofs.GrantLemmas.{grant_taken, grant_put, grants_rise}
use Rattle.grants.proofs.granting.set.Goals as goal

pub remove-requires : goal.remove-requires
remove-requires c =
    let it = grant_taken c.args.grants.now.items c.deref.result.now c.args.grant c.in-Ok.place
    c.requires.rise c.deref.ensures.value c.in-Ok.ensures in
    let within = it.0 in
    omega arith

pub put-requires-clause-within : goal.put-requires-clause-within
put-requires-clause-within c =
    let it = grant_put c.args.grants.now.items c.deref.result.now c.args.grant c.in-Err.place
    c.deref.ensures.value c.in-Err.ensures in
    let within = it.0 in
    omega arith

pub returns-then-not-on-clause-items : goal.returns-then-not-on-clause-items
returns-then-not-on-clause-items c =
    let it = grant_taken c.args.grants.now.items c.deref.result.now c.args.grant c.in-Ok.place
    c.requires.rise c.deref.ensures.value c.in-Ok.ensures in
    let off : c.args.on ≡ false = grind (arith, nat_tests) in
    rw off (c.remove.ensures.items ∙ it.1)

pub returns-then-not-on-clause-rise : goal.returns-then-not-on-clause-rise
returns-then-not-on-clause-rise c =
    let it = grant_taken c.args.grants.now.items c.deref.result.now c.args.grant c.in-Ok.place
    c.requires.rise c.deref.ensures.value c.in-Ok.ensures in
    grants_rise _ _ c.args.grant false c.requires.rise (c.remove.ensures.items ∙ it.1)

pub returns-then-on-clause-items : goal.returns-then-on-clause-items
returns-then-on-clause-items c =
    let it = grant_put c.args.grants.now.items c.deref.result.now c.args.grant c.in-Err.place
    c.deref.ensures.value c.in-Err.ensures in
    let on : c.args.on ≡ true = c.if-on.true in
    rw on (c.put.ensures.items ∙ it.1)

pub returns-then-on-clause-rise : goal.returns-then-on-clause-rise
returns-then-on-clause-rise c =
    let it = grant_put c.args.grants.now.items c.deref.result.now c.args.grant c.in-Err.place
    c.deref.ensures.value c.in-Err.ensures in
    grants_rise _ _ c.args.grant true c.requires.rise (c.put.ensures.items ∙ it.1)
