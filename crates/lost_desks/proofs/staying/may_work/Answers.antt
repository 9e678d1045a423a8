-- What is held at the page, who owns it, who has locked it and whom its moderation asks decide.
use Rattle.std.proofs.Common.{ap, ◌∙◌}
use Rattle.site_model.specs.Rights.{is_superuser}
use Rattle.lost_desks.proofs.StayLemmas.{keeps_if}
use Rattle.lost_desks.proofs.staying.may_work.Goals as goal

pub returns : goal.returns
returns c world has =
    rw (c.eq-own.ensures, c.is_open_to.ensures, c.is_underway.ensures)
    (keeps_if world c.args.page c.args.user c.args.body.now c.held-held.result
    c.moderates-asked.result c.is_superuser.result
    (c.held-held.ensures world has.pages has.lists)
    (c.moderates-asked.ensures world has.lists has.flows)
    (c.is_superuser.ensures ∙ ap (λ users. is_superuser users c.args.user) has.lists.users))
