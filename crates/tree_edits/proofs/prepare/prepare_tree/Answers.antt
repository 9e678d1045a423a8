-- The first rules are tried, and then the command is planned.
use Rattle.std.proofs.Common.{sym, ◌∙◌}
use Rattle.site_part.proofs.FrontLemmas.{passed, refused}
use Rattle.site_part.proofs.StepLemmas.{front_refuses}
use Rattle.tree_edits.proofs.prepare.prepare_tree.Goals as goal

pub front-requires : goal.front-requires
front-requires c = (c.requires.ready.0, c.requires.ready.1)

pub plan_passed-requires-clause-asked : goal.plan_passed-requires-clause-asked
plan_passed-requires-clause-asked c =
    let world = c.requires.ready.0 in
    let ready = c.requires.ready.1 in (
      world,
      record {
        ready = ready;
        fits = c.requires.ready.2;
        front = passed _ (sym c.in-Ok.is ∙ c.front.ensures world ready.stands);
      },
    )

pub returns-in-Ok-clause-plan : goal.returns-in-Ok-clause-plan
returns-in-Ok-clause-plan c = λ world desk ready fits.
    c.plan_passed.ensures.plan world desk (record {
      ready = ready;
      fits = fits;
      front = passed _ (sym c.in-Ok.is ∙ c.front.ensures world ready.stands);
    })

pub returns-in-Err-clause-plan : goal.returns-in-Err-clause-plan
returns-in-Err-clause-plan c = λ world desk ready fits.
    front_refuses world desk c.args.now c.args.caller c.args.command.now c.in-Err.refusal
    (refused _ c.in-Err.refusal (sym c.in-Err.is ∙ c.front.ensures world ready.stands))
