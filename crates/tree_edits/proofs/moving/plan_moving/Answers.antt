-- The plan and the URLs are found, the reply is told, and room is made.
use Rattle.std.proofs.Common.{refl}
use Rattle.site_types.specs.declared.command.Command.TheVariants.{Move}
use Rattle.site_model.specs.Moves.{move_rules}
use Rattle.new_pages.specs.Moving.{IsMovePlan}
use Rattle.new_pages.proofs.AskedLemmas.{own_refused, ending_is}
use Rattle.new_pages.proofs.CommandLemmas.{move_own}
use Rattle.tree_edits.proofs.MoveLemmas.{move_named, move_planned}
use Rattle.tree_edits.proofs.MovePlans.{rows_named}
use Rattle.tree_edits.proofs.moving.plan_moving.Goals as goal

pub plan_there-requires : goal.plan_there-requires
plan_there-requires c = (
  c.requires.0,
  move_named c.args.part.now c.requires.0 c.requires.1 c.args.page c.args.target c.args.position
      c.requires.2,
)

pub returns-in-Err-clause-plan : goal.returns-in-Err-clause-plan
returns-in-Err-clause-plan c = λ world desk caller asked.
    own_refused c.args.part.now c.args.part.now world desk c.args.now caller
    (Move c.args.page c.args.target c.args.position) asked
    (move_rules world.tree c.args.page c.args.target c.args.position)
    (move_own world desk c.args.now caller c.args.page c.args.target c.args.position)
    (IsMovePlan world.tree c.args.page c.args.target c.args.position) c.in-Err.fault
    (c.in-Err.ensures world (move_named c.args.part.now world caller c.args.page c.args.target
    c.args.position asked))

pub told_page-requires : goal.told_page-requires
told_page-requires c =
    (rows_named c.args.part.now.rows.pages c.requires.0 c.args.page c.args.target c.args.position
    (move_named c.args.part.now c.requires.0 c.requires.1 c.args.page c.args.target
    c.args.position c.requires.2)).0

pub returns-clause-plan : goal.returns-clause-plan
returns-clause-plan c = λ world desk caller asked.
    let made = c.in-Ok.ensures world (move_named c.args.part.now world caller c.args.page
    c.args.target c.args.position asked) in
    ending_is (Move c.args.page c.args.target c.args.position) _ world desk c.args.now caller
    _ _ _ _ _ c.quiet-made.ensures c.of_tree-change.ensures
    (move_planned c.args.part.now world desk c.args.now caller c.args.page c.args.target
    c.args.position asked c.later.ensures.moment c.in-Ok.made.0 c.in-Ok.made.1 made.0 made.1
    c.len-len.ensures.pages _ _ _ _ (record {
      pages = c.reserve.ensures.pages;
      revisions = refl;
      lists = record { users = refl; groups = refl; members = refl; grants = refl };
      flows = record { tasks = refl; workflows = refl };
      desks = refl;
      time = refl;
      next_page = refl;
      next_revision = refl;
      indexes = record { expiries = refl; go_lives = refl; aliases = refl; links = refl };
    }) c.in-Ok-reserve.ensures.ok (c.in-Ok-shut_there.ensures world asked.ready)
    c.in-Ok-told_page.ensures c.later.ensures.value)

pub shut_there-requires : goal.shut_there-requires
shut_there-requires c = (
  c.requires.0,
  c.requires.2.ready,
  (move_named c.args.part.now c.requires.0 c.requires.1 c.args.page c.args.target c.args.position
      c.requires.2).named,
)
