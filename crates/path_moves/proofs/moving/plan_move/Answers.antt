-- Each answer is that of the tree.
use Rattle.std.proofs.Common.{inr, true, false, sym}
use Rattle.path_moves.proofs.RelabelLemmas.{test_is}
use Rattle.path_moves.proofs.Planned.{asked, into_itself, leads, parent_told}
use Rattle.path_moves.proofs.Answered.{full_answer, deep_answer, plan_answer, fault_answer}
use Rattle.path_moves.proofs.moving.plan_move.Goals as goal

pub returns-then-begins : goal.returns-then-begins
returns-then-begins c tree same =
    inr (sym (into_itself tree c.args.page c.args.target c.args.position c.find-own.result
    c.find-goal.result
    (asked c.args.rows.now.pages tree c.args.page c.args.target c.args.position c.find-own.result
    c.find-goal.result same c.find-own.ensures.pages c.requires.page_there c.requires.target_there
    c.find-own.ensures.standing c.find-goal.ensures.standing c.requires.below_root
    c.requires.apart)
    (test_is c.find-own.result.path c.find-goal.result.path c.begins.result true c.begins.ensures
    c.if-begins.true)))

pub returns-in_default : goal.returns-in_default
returns-in_default c tree same =
    full_answer c.args.rows.now.pages tree c.args.page c.args.target c.args.position
    c.find-own.result c.find-goal.result c.find-above.result same
    (leads c.args.rows.now.pages tree c.args.page c.args.target c.args.position c.find-own.result
    c.find-goal.result c.new_parent-parent.result c.find-above.result
    (asked c.args.rows.now.pages tree c.args.page c.args.target c.args.position c.find-own.result
    c.find-goal.result same c.find-own.ensures.pages c.requires.page_there c.requires.target_there
    c.find-own.ensures.standing c.find-goal.ensures.standing c.requires.below_root
    c.requires.apart) same
    (test_is c.find-own.result.path c.find-goal.result.path c.begins.result false c.begins.ensures
    c.if-begins.false) c.new_parent-parent.ensures.value c.find-above.ensures.standing)
    c.in_default.ensures

pub returns-in_default-path_of_spot : goal.returns-in_default-path_of_spot
returns-in_default-path_of_spot c tree same =
    deep_answer c.args.rows.now.pages tree c.args.page c.args.target c.args.position
    c.find-own.result c.find-goal.result c.find-above.result same
    (leads c.args.rows.now.pages tree c.args.page c.args.target c.args.position c.find-own.result
    c.find-goal.result c.new_parent-parent.result c.find-above.result
    (asked c.args.rows.now.pages tree c.args.page c.args.target c.args.position c.find-own.result
    c.find-goal.result same c.find-own.ensures.pages c.requires.page_there c.requires.target_there
    c.find-own.ensures.standing c.find-goal.ensures.standing c.requires.below_root
    c.requires.apart) same
    (test_is c.find-own.result.path c.find-goal.result.path c.begins.result false c.begins.ensures
    c.if-begins.false) c.new_parent-parent.ensures.value c.find-above.ensures.standing)
    c.in-Some.next c.place_past-behind.result c.spot_for-spot.result
    (record {
      step = c.in-Some.ensures;
      behind_is = c.place_past-behind.ensures;
      spot_is = c.spot_for-spot.ensures;
    })
    c.in_default-path_of_spot.ensures

pub returns-in-Ok : goal.returns-in-Ok
returns-in-Ok c tree same =
    plan_answer c.args.rows.now.pages tree c.args.page c.args.target c.args.position
    c.find-own.result c.find-goal.result c.find-above.result same
    (leads c.args.rows.now.pages tree c.args.page c.args.target c.args.position c.find-own.result
    c.find-goal.result c.new_parent-parent.result c.find-above.result
    (asked c.args.rows.now.pages tree c.args.page c.args.target c.args.position c.find-own.result
    c.find-goal.result same c.find-own.ensures.pages c.requires.page_there c.requires.target_there
    c.find-own.ensures.standing c.find-goal.ensures.standing c.requires.below_root
    c.requires.apart) same
    (test_is c.find-own.result.path c.find-goal.result.path c.begins.result false c.begins.ensures
    c.if-begins.false) c.new_parent-parent.ensures.value c.find-above.ensures.standing)
    c.in-Some.next c.place_past-behind.result c.spot_for-spot.result
    (record {
      step = c.in-Some.ensures;
      behind_is = c.place_past-behind.ensures;
      spot_is = c.spot_for-spot.ensures;
    })
    c.in-Some-path_of_spot.path c.place_of_spot-from.result c.in-Some-path_of_spot.ensures
    c.place_of_spot-from.ensures c.new_parent-parent.result c.place_without.result c.in-Ok.changed
    (parent_told c.args.rows.now.pages tree c.args.target c.new_parent-parent.result
    c.args.position same c.new_parent-parent.ensures.value) c.place_without.ensures
    c.in-Ok.ensures.same c.in-Ok.ensures.other c.in-Ok.ensures.fits

pub returns-in-Err : goal.returns-in-Err
returns-in-Err c tree same =
    fault_answer c.args.rows.now.pages tree c.args.page c.args.target c.args.position
    c.find-own.result c.find-goal.result c.find-above.result same
    (leads c.args.rows.now.pages tree c.args.page c.args.target c.args.position c.find-own.result
    c.find-goal.result c.new_parent-parent.result c.find-above.result
    (asked c.args.rows.now.pages tree c.args.page c.args.target c.args.position c.find-own.result
    c.find-goal.result same c.find-own.ensures.pages c.requires.page_there c.requires.target_there
    c.find-own.ensures.standing c.find-goal.ensures.standing c.requires.below_root
    c.requires.apart) same
    (test_is c.find-own.result.path c.find-goal.result.path c.begins.result false c.begins.ensures
    c.if-begins.false) c.new_parent-parent.ensures.value c.find-above.ensures.standing)
    c.in-Some.next c.place_past-behind.result c.spot_for-spot.result
    (record {
      step = c.in-Some.ensures;
      behind_is = c.place_past-behind.ensures;
      spot_is = c.spot_for-spot.ensures;
    })
    c.in-Some-path_of_spot.path c.place_of_spot-from.result c.in-Some-path_of_spot.ensures
    c.place_of_spot-from.ensures c.in-Err.fault c.in-Err.ensures.err
