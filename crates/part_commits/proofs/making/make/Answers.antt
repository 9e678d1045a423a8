-- Each store takes its part of the change, and the lists are then those of the change, with all in
-- step.
use Rattle.std.proofs.Common.{sym, ap, subst, refl, ◌∙◌, ◌++◌}
use Rattle.std.specs.List.{AllByRecursion}
use Rattle.site_ids.specs.Ids.{IsPageId}
use Rattle.publishing.specs.Times.{AreTimed}
use Rattle.flat_model.specs.Fits.{BodiesFit, RevisionsFit, PeopleFit}
use Rattle.flat_model.specs.Made.{with_bodies, made, rows_made, revisions_left, purge_left, people_left, people_made}
use Rattle.flat_model.proofs.ListLemmas.{lists_are}
use Rattle.site_part.specs.Standing.{seen, seen_people}
use Rattle.part_commits.specs.InStep.{TimedBut}
use Rattle.part_commits.proofs.InStepLemmas.{timed_but}
use Rattle.part_commits.proofs.StayLemmas.{fits_left}
use Rattle.part_commits.proofs.making.make.Goals as goal

pub put_bodies-requires-clause-fits : goal.put_bodies-requires-clause-fits
put_bodies-requires-clause-fits c =
    subst (BodiesFit c.args.change.bodies) (sym c.put_tree.ensures.pages) c.requires.fits.bodies

pub drop_pages-requires : goal.drop_pages-requires
drop_pages-requires c =
    subst (AllByRecursion IsPageId) (sym c.as_slice.ensures) c.requires.fits.gone

pub drop_grants-requires : goal.drop_grants-requires
drop_grants-requires c =
    subst (AllByRecursion IsPageId) (sym c.as_slice-2.ensures) c.requires.fits.gone

pub put_revisions-requires-clause-fits : goal.put_revisions-requires-clause-fits
put_revisions-requires-clause-fits c =
    subst (RevisionsFit c.args.change.revisions)
    (sym (c.put_purge.ensures.revisions
    ∙ ap (purge_left c.args.change.purge) (c.drop_pages.ensures.revisions
    ∙ ap (λ gone. revisions_left gone c.args.part.now.shelf.revisions) c.as_slice.ensures)))
    (fits_left c.args.change.gone c.args.change.purge c.args.part.now.shelf.revisions
    c.args.change.revisions c.requires.fits.revisions)

pub put_people-requires-clause-fits : goal.put_people-requires-clause-fits
put_people-requires-clause-fits c =
    subst (PeopleFit c.args.change.people)
    (sym (c.drop_grants.ensures.people
    ∙ ap (λ gone. people_left gone (seen_people c.args.part.now.grants)) c.as_slice-2.ensures))
    c.requires.fits.people

pub put_flows-requires-clause-fits : goal.put_flows-requires-clause-fits
put_flows-requires-clause-fits c = (seen c.args.part.now, c.requires.fits.flows)

pub returns-clause-made : goal.returns-clause-made
returns-clause-made c =
    let change = c.args.change in
    let before = seen c.args.part.now in
    lists_are _ (made change before)
    (c.put_bodies.ensures.pages ∙ ap (with_bodies change.bodies) c.put_tree.ensures.pages)
    (c.put_revisions.ensures
    ∙ ap (λ list. list ++ change.revisions) (c.put_purge.ensures.revisions
    ∙ ap (purge_left change.purge) (c.drop_pages.ensures.revisions
    ∙ ap (λ gone. revisions_left gone c.args.part.now.shelf.revisions) c.as_slice.ensures)))
    (c.put_people.ensures
    ∙ ap (people_made change.people) (c.drop_grants.ensures.people
    ∙ ap (λ gone. people_left gone (seen_people c.args.part.now.grants)) c.as_slice-2.ensures))
    c.put_flows.ensures.tasks c.put_flows.ensures.workflows refl refl refl refl

pub returns-clause-in_step : goal.returns-clause-in_step
returns-clause-in_step c =
    let change = c.args.change in
    let before = seen c.args.part.now in
    let left = c.put_revisions.ensures
    ∙ ap (λ list. list ++ change.revisions) (c.put_purge.ensures.revisions
    ∙ ap (purge_left change.purge) (c.drop_pages.ensures.revisions
    ∙ ap (λ gone. revisions_left gone c.args.part.now.shelf.revisions) c.as_slice.ensures)) in
    let kept = subst (λ pages. AreTimed c.put_tree.new.times pages before.revisions)
    c.put_tree.ensures.pages
    (c.put_tree.ensures.timed before.revisions c.requires.in_step.timed) in
    record {
      timed = c.put_bodies.ensures.timed
          (subst (λ pages. TimedBut change.bodies c.put_tree.new.times pages
          c.put_revisions.new.shelf.revisions) (sym c.put_tree.ensures.pages)
          (subst (λ revisions. TimedBut change.bodies c.put_tree.new.times
          (rows_made change.tree before.pages) revisions) (sym left)
          (timed_but before change c.put_tree.new.times kept c.requires.stays.stays)));
      aliased = c.put_bodies.ensures.aliased
          (c.put_tree.ensures.aliased c.requires.in_step.aliased);
    }
