-- What is held, who owns the page and who moderates it decide.
use Rattle.site_part.proofs.NeedLemmas.{edit_met, edit_unmet}
use Rattle.site_part.proofs.need.edit_need.Goals as goal

pub returns-then-may_edit : goal.returns-then-may_edit
returns-then-may_edit c world stands =
    edit_met world c.args.user c.args.page c.body_at-body.result
    (c.body_at-body.ensures world.tree stands.pages) c.held-held.result
    (c.held-held.ensures world stands.pages stands.lists) c.may_edit.result
    (c.may_edit.ensures world stands) c.if-may_edit.true

pub returns-else-may_edit : goal.returns-else-may_edit
returns-else-may_edit c world stands =
    edit_unmet world c.args.user c.args.page c.body_at-body.result
    (c.body_at-body.ensures world.tree stands.pages) c.held-held.result
    (c.held-held.ensures world stands.pages stands.lists) c.may_edit.result
    (c.may_edit.ensures world stands) c.if-may_edit.false
