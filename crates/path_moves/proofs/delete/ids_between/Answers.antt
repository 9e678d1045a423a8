-- One id more of the range.
use Rattle.path_moves.proofs.CallLemmas.{at_is_there, ids_more}
use Rattle.std.proofs.Common.{ap, ◌∙◌, ◌++◌, ◌∷◌, []}
use Rattle.path_moves.proofs.delete.ids_between.Goals as goal

pub unreachable-requires : goal.unreachable-requires
unreachable-requires c =
    at_is_there c.args.rows.now.pages c.args.place c.args.count c.loop-done.done c.requires
    c.loop-done-test.true c.in_default.ensures

pub loop-done-preserved : goal.loop-done-preserved
loop-done-preserved c =
    ids_more c.args.rows.now.pages c.args.place c.loop-done.done c.in-Some.id c.loop-done.ids.items
    _
    c.loop-done.invariant c.in-Some.ensures
    (c.in_ok-push.ensures.items ∙ ap (λ id. c.loop-done.ids.items ++ id ∷ []) c.get.ensures.value)
