-- One row more that does not move is listed.
use Rattle.std.proofs.Common.{◌≡◌, arith, rules, refl, inr, false, true, length}
use Rattle.path_moves.proofs.RelabelLemmas.{test_is, goes_up_at, raised_more, raised_same}
use Rattle.path_moves.proofs.relabel.list_raised.Goals as goal

pub loop-place-preserved-then-begins : goal.loop-place-preserved-then-begins
loop-place-preserved-then-begins c =
    raised_same c.args.rows.now.pages c.args.from c.loop-place.place (length c.args.above.now)
    c.args.own.now.path c.args.list.now.items c.loop-place.list.items c.in-Some.row
    c.loop-place.invariant c.loop-place.auto.place c.in-Some.ensures
    (test_is c.args.own.now.path c.in-Some.row.1 c.begins.result true c.begins.ensures
    c.if-begins.true)

pub loop-place-preserved : goal.loop-place-preserved
loop-place-preserved c =
    let out = test_is c.args.own.now.path c.in-Some.row.1 c.begins.result false c.begins.ensures
    c.if-begins.false in
    raised_more c.args.rows.now.pages c.args.from c.loop-place.place (length c.args.above.now)
    c.args.own.now.path c.args.list.now.items c.loop-place.list.items _ c.in-Some.row
    c.in-Some-raised.higher c.loop-place.invariant c.loop-place.auto.place c.in-Some.ensures out
    c.in-Some-raised.ensures.value c.in-Ok.ensures.items

pub returns-clause-ok : goal.returns-clause-ok
returns-clause-ok c order =
    let least = c.loop-place-test.false in
    let most = c.loop-place.auto.place-end order in
    let same : c.loop-place.place ≡ c.args.end = omega arith in
    rw same at c.loop-place.invariant

pub returns-in_default-raised-clause-err : goal.returns-in_default-raised-clause-err
returns-in_default-raised-clause-err c =
    inr (
      refl,
      λ higher.
          let up = goes_up_at c.args.rows.now.pages c.args.own.now.path c.args.above.now c.args.from
          c.args.end c.loop-place.place c.in-Some.row higher c.loop-place.auto.place
          c.loop-place-test.true c.in-Some.ensures
          (test_is c.args.own.now.path c.in-Some.row.1 c.begins.result false c.begins.ensures
          c.if-begins.false) in
          let made = c.in_default-raised.ensures.there up in search rules,
    )
