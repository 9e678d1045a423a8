-- The plan fits the lists of the world, which are what is kept, and the desks follow page by page.
use Rattle.std.proofs.Common.{ap, sym, subst, ◌∙◌}
use Rattle.std.specs.List.{AllByRecursion}
use Rattle.site_ids.specs.Ids.{IsPageId}
use Rattle.site_part.specs.Plans.{PlanFits, left_by}
use Rattle.site_part.proofs.StandingLemmas.{stands_seen, seen_stands}
use Rattle.part_commits.specs.InStep.{CanStayInStep}
use Rattle.site_core.specs.Texts.{OpensWell, kept_on}
use Rattle.site_core.proofs.PrepareLemmas.{left_told}
use Rattle.site_core.proofs.state.Core.commit.Goals as goal

pub commit-reply-requires-clause-fits : goal.commit-reply-requires-clause-fits
commit-reply-requires-clause-fits c =
    subst (λ lists. PlanFits lists c.args.plan)
    (sym (stands_seen c.args.self.now.tree c.requires.0.part c.requires.4.ready.stands.tree))
    c.requires.4.fits

pub commit-reply-requires-clause-room : goal.commit-reply-requires-clause-room
commit-reply-requires-clause-room c = c.requires.4.room

pub commit-reply-requires-clause-pages : goal.commit-reply-requires-clause-pages
commit-reply-requires-clause-pages c = c.requires.4.pages

pub commit-reply-requires-clause-in_step : goal.commit-reply-requires-clause-in_step
commit-reply-requires-clause-in_step c = c.requires.4.ready.stands.tree.in_step

pub commit-reply-requires-clause-stays : goal.commit-reply-requires-clause-stays
commit-reply-requires-clause-stays c =
    subst (λ lists. CanStayInStep c.args.self.now.tree lists c.args.plan.change)
    (sym (stands_seen c.args.self.now.tree c.requires.0.part c.requires.4.ready.stands.tree))
    c.requires.4.in_step

pub commit-reply-requires-clause-linked : goal.commit-reply-requires-clause-linked
commit-reply-requires-clause-linked c = c.requires.4.ready.stands.tree.linked

pub commit-reply-requires-clause-links : goal.commit-reply-requires-clause-links
commit-reply-requires-clause-links c = c.requires.4.links

pub put_texts-requires-clause-opens : goal.put_texts-requires-clause-opens
put_texts-requires-clause-opens c =
    subst (OpensWell c.args.self.now.desks) (sym c.commit-reply.ensures.told.opened)
    c.requires.4.opens

pub put_texts-requires-clause-pages : goal.put_texts-requires-clause-pages
put_texts-requires-clause-pages c =
    subst (AllByRecursion IsPageId) (sym c.commit-reply.ensures.told.shut) c.requires.4.pages

pub returns-clause-stands : goal.returns-clause-stands
returns-clause-stands c = λ world now caller command has. record {
  tree = seen_stands c.commit-reply.new.part has.after.part
      (c.commit-reply.ensures.made
      ∙ (ap (left_by c.args.plan)
      (stands_seen c.args.self.now.tree world.part has.ready.stands.tree)
      ∙ has.leads))
      c.commit-reply.ensures.in_step c.commit-reply.ensures.linked;
  desks = λ page.
      c.put_texts.ensures page
      ∙ (left_told c.args.plan c.commit-reply.result c.commit-reply.ensures.told page
      (kept_on page c.args.self.now.desks.lists)
      ∙ has.desks_are page);
}
