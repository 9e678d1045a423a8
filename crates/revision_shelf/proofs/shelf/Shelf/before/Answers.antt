-- Where no revision is named, the page's newest is its last.
use Rattle.std.proofs.Common.{◌≡◌, ◌∙◌, sym, ap, subst}
use Rattle.revision_shelf.specs.Shelf.{RevisionList, latest_of}
use Rattle.revision_shelf.specs.Kept.{revisions_seen, before_in}
use Rattle.revision_shelf.proofs.PurgeLemmas.{before_none}
use Rattle.revision_shelf.proofs.shelf.Shelf.before.Goals as goal

pub returns-in-None-clause-value : goal.returns-in-None-clause-value
returns-in-None-clause-value c =
    let seen = revisions_seen c.self.inside.stored.entries c.self.inside.order.items in
    c.copied.ensures ∙ c.get-in-None.ensures.value ∙ c.self.invariant.last c.args.page
    ∙ subst (λ (v : RevisionList). latest_of c.args.page seen ≡ latest_of c.args.page (before_in
    c.args.after v.revisions)) c.self.view_is (ap (latest_of c.args.page) (sym (ap (λ o. before_in o
    seen) c.in-None.is ∙ before_none seen)))
