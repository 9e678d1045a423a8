-- The pages that go are listed, the aliases that are left are found, and so are the desks that end;
-- and room is made.
use Rattle.std.proofs.Common.{◌≡◌, ◌≤◌, length, refl, ap, subst, arith}
use Rattle.page_tree.specs.Tree.{node_of, ids_of}
use Rattle.flat_model.specs.declared.change.Change.{Change}
use Rattle.site_model.specs.World as worlds
use Rattle.site_model.specs.Delete.{aliases_left, delete_rules}
use Rattle.site_types.specs.declared.command.Command.TheVariants.{Delete}
use Rattle.tree_edits.specs.Leaving.{AreDetached}
use Rattle.new_pages.proofs.AskedLemmas.{own_refused, ending_is}
use Rattle.new_pages.proofs.CommandLemmas.{delete_own}
use Rattle.tree_edits.proofs.DeletionLemmas.{count_fits, deletion_planned}
use Rattle.tree_edits.proofs.LeavingRules.{left_count, left_fit}
use Rattle.tree_edits.proofs.deletion.plan_deletion.Goals as goal

pub overflow_cast-reply : goal.overflow_cast-reply
overflow_cast-reply c =
    let ready = c.requires.1.ready in
    let ids = c.in-Ok.ensures c.requires.0.tree ready.stands.pages in
    let most = count_fits c.requires.0 c.args.page ready.reached.sound.pages in
    let same : length c.in-Ok.gone
    ≡ length (ids_of (node_of c.args.page c.requires.0.tree)) = ap length ids in
    let long = c.len.ensures in
    omega (arith, most, same, long)

pub plan_leaving-requires-clause-asked : goal.plan_leaving-requires-clause-asked
plan_leaving-requires-clause-asked c = c.requires

pub plan_leaving-requires-clause-gone : goal.plan_leaving-requires-clause-gone
plan_leaving-requires-clause-gone c = c.in-Ok.ensures

pub returns-in-Err-clause-plan : goal.returns-in-Err-clause-plan
returns-in-Err-clause-plan c = λ world desk asked.
    own_refused c.args.part.now c.args.part.now world desk c.args.now c.args.caller
    (Delete c.args.page) asked (delete_rules world c.args.now c.args.caller c.args.page)
    (delete_own world desk c.args.now c.args.caller c.args.page)
    (AreDetached world (worlds.time_at world c.args.now) c.args.caller
    (aliases_left world c.args.page)) c.in-Err.fault (c.in-Err.ensures world asked)

pub overflow_cast-next_revision : goal.overflow_cast-next_revision
overflow_cast-next_revision c =
    let world = c.requires.0 in
    let asked = c.requires.1 in
    let told = c.in-Ok-plan_leaving.ensures world asked in
    let fits = left_fit world c.args.now c.args.caller c.args.page c.in-Ok-plan_leaving.left
    asked.ready.reached.sound told.0 told.1 in
    let long = c.len.ensures in
    omega (arith, fits, long)

pub overflow_add-next_revision : goal.overflow_add-next_revision
overflow_add-next_revision c =
    let world = c.requires.0 in
    let asked = c.requires.1 in
    let told = c.in-Ok-plan_leaving.ensures world asked in
    let fits = left_fit world c.args.now c.args.caller c.args.page c.in-Ok-plan_leaving.left
    asked.ready.reached.sound told.0 told.1 in
    let long = c.len.ensures in
    let number = asked.ready.stands.next_revision in
    omega (arith, fits, long, number)

pub returns-clause-plan : goal.returns-clause-plan
returns-clause-plan c = λ world desk asked.
    let told = c.in-Ok-plan_leaving.ensures world asked in
    let left = c.in-Ok-plan_leaving.left in
    let count = left_count world (worlds.time_at world c.args.now) c.args.caller
    (aliases_left world c.args.page) left told.1 in
    let long = c.len.ensures in
    let number = asked.ready.stands.next_revision in
    ending_is (Delete c.args.page) c.make_room.new.part world desk c.args.now c.args.caller _ _ _ _ _
    c.quiet-plan.ensures
    (ap (λ (change : Change). record change {
      gone = c.in-Ok.gone;
      bodies = left.bodies;
      revisions = left.revisions;
    }) c.of_tree-change.ensures)
    (deletion_planned c.args.part.now c.make_room.new.part world desk c.args.now c.args.caller
    c.args.page _ c.in-Ok.gone c.in-Ok-lost_by_deletion.shut left _ _ _ asked
    c.make_room.ensures.same
    (subst (λ n. n ≤ c.make_room.new.part.shelf.spare) c.len-2.ensures
    c.in-Ok-make_room.ensures.revisions) told.0 told.1
    (c.in-Ok.ensures world.tree asked.ready.stands.pages)
    (c.in-Ok-lost_by_deletion.ensures world asked.ready) c.len-3.ensures
    c.later-time.ensures.value refl (omega (arith, count, long, number)))
