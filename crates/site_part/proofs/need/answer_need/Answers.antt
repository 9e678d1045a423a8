-- Who may answer needs nothing more.
use Rattle.site_part.proofs.NeedLemmas.{answer_met, answer_unmet}
use Rattle.site_part.proofs.need.answer_need.Goals as goal

pub returns-then-may_answer : goal.returns-then-may_answer
returns-then-may_answer c world stands =
    answer_met world c.args.user c.args.page c.body_at-body.result
    (c.body_at-body.ensures world.tree stands.pages) c.may_answer.result
    (c.may_answer.ensures world stands.lists stands.flows) c.if-may_answer.true

pub returns-else-may_answer : goal.returns-else-may_answer
returns-else-may_answer c world stands =
    answer_unmet world c.args.user c.args.page c.body_at-body.result
    (c.body_at-body.ensures world.tree stands.pages) c.may_answer.result
    (c.may_answer.ensures world stands.lists stands.flows) c.if-may_answer.false
