-- The first rules are tried, and then the command is planned.
use Rattle.std.proofs.Common.{sym, ◌∙◌}
use Rattle.std.specs.Option.{option_copied}
use Rattle.site_part.proofs.FrontLemmas.{passed, refused}
use Rattle.site_part.proofs.StepLemmas.{front_refuses}
use Rattle.flow_edits.proofs.prepare.prepare_flow.Goals as goal

pub front-requires : goal.front-requires
front-requires c = (c.requires.given.0, c.requires.given.1.ready)

pub plan_passed-requires-clause-asked : goal.plan_passed-requires-clause-asked
plan_passed-requires-clause-asked c =
    let world = c.requires.given.0 in
    let given = c.requires.given.1 in (
      world,
      record {
        given = given;
        front = passed _ (sym c.in-Ok.is
            ∙ c.front.ensures world given.ready.stands);
      },
    )

pub returns-in-Ok-clause-plan : goal.returns-in-Ok-clause-plan
returns-in-Ok-clause-plan c = λ world given.
    c.plan_passed.ensures.plan world (record {
      given = given;
      front = passed _ (sym c.in-Ok.is
          ∙ c.front.ensures world given.ready.stands);
    })

pub returns-in-Err-clause-plan : goal.returns-in-Err-clause-plan
returns-in-Err-clause-plan c = λ world given.
    front_refuses world (option_copied c.args.desk) c.args.now c.args.caller c.args.command.now
    c.in-Err.refusal (refused _ c.in-Err.refusal (sym c.in-Err.is
    ∙ c.front.ensures world given.ready.stands))
