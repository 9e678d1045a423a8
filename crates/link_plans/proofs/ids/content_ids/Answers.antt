-- The ids of the links are those that some block links to.
use Rattle.std.proofs.lemmas.Result.{IfOk-weaker}
use Rattle.link_plans.proofs.ThoseLemmas.{content_those}
use Rattle.link_plans.proofs.ids.content_ids.Goals as goal

pub returns-in-Some : goal.returns-in-Some
returns-in-Some c =
    rw (c.in-Some.is)
    (IfOk-weaker c.links.result _ _ (λ ids linked. content_those c.in-Some.content.now ids linked)
    c.links.ensures.linked)
