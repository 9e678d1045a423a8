-- The membership is taken out or put in at its place.
use Rattle.std.proofs.Common.{◌≡◌, ◌∙◌, false, true, arith}
use Rattle.std.proofs.lemmas.Bool.Decides.{nat_tests}
use Rattle.grants.proofs.MemberLemmas.{member_taken, member_put, members_rise}
use Rattle.grants.proofs.joining.set.Goals as goal

pub remove-requires : goal.remove-requires
remove-requires c =
    let it = member_taken c.args.members.now.items c.deref.result.now c.args.user c.args.group c.in-Ok.place
    c.requires.rise c.deref.ensures.value c.in-Ok.ensures in
    let within = it.0 in
    omega arith

pub put-requires-clause-within : goal.put-requires-clause-within
put-requires-clause-within c =
    let it = member_put c.args.members.now.items c.deref.result.now c.args.user c.args.group c.in-Err.place
    c.deref.ensures.value c.in-Err.ensures in
    let within = it.0 in
    omega arith

pub returns-then-not-on-clause-items : goal.returns-then-not-on-clause-items
returns-then-not-on-clause-items c =
    let it = member_taken c.args.members.now.items c.deref.result.now c.args.user c.args.group c.in-Ok.place
    c.requires.rise c.deref.ensures.value c.in-Ok.ensures in
    let off : c.args.on ≡ false = grind (arith, nat_tests) in
    rw off (c.remove.ensures.items ∙ it.1)

pub returns-then-not-on-clause-rise : goal.returns-then-not-on-clause-rise
returns-then-not-on-clause-rise c =
    let it = member_taken c.args.members.now.items c.deref.result.now c.args.user c.args.group c.in-Ok.place
    c.requires.rise c.deref.ensures.value c.in-Ok.ensures in
    members_rise _ _ c.args.user c.args.group false c.requires.rise (c.remove.ensures.items ∙ it.1)

pub returns-then-on-clause-items : goal.returns-then-on-clause-items
returns-then-on-clause-items c =
    let it = member_put c.args.members.now.items c.deref.result.now c.args.user c.args.group c.in-Err.place
    c.deref.ensures.value c.in-Err.ensures in
    let on : c.args.on ≡ true = c.if-on.true in
    rw on (c.put.ensures.items ∙ it.1)

pub returns-then-on-clause-rise : goal.returns-then-on-clause-rise
returns-then-on-clause-rise c =
    let it = member_put c.args.members.now.items c.deref.result.now c.args.user c.args.group c.in-Err.place
    c.deref.ensures.value c.in-Err.ensures in
    members_rise _ _ c.args.user c.args.group true c.requires.rise (c.put.ensures.items ∙ it.1)
