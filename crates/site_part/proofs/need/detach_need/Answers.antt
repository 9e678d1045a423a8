-- A need to edit the page, and else one to publish.
use Rattle.site_part.proofs.NeedLemmas.{first_is, later_is, only_is}
use Rattle.site_part.proofs.need.detach_need.Goals as goal

pub returns-in-Some : goal.returns-in-Some
returns-in-Some c world stands =
    first_is _ _ c.in-Some.number (c.in-Some.ensures world stands)

pub returns-in-None : goal.returns-in-None
returns-in-None c world stands =
    later_is _ c.show_need.result _ (c.in-None.ensures world stands)
    (only_is _ c.show_need.result (c.show_need.ensures world stands))
