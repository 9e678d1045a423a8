-- Two rounds, put in one after the other.
use Rattle.std.proofs.Common.{◌∙◌}
use Rattle.link_plans.proofs.FitLemmas.{fit_rises}
use Rattle.link_plans.proofs.LayerLemmas.{plan_is}
use Rattle.link_plans.proofs.plan.plan_links.Goals as goal

pub add_aliases-requires : goal.add_aliases-requires
add_aliases-requires c =
    rw (c.as_slice.ensures) (record {
      rise = fit_rises c.args.change.now.revisions c.args.shelf.now.revisions c.requires.fit;
    })

pub add_pages-requires : goal.add_pages-requires
add_pages-requires c =
    rw (c.as_slice.ensures) (record {
      rise = fit_rises c.args.change.now.revisions c.args.shelf.now.revisions c.requires.fit;
    })

pub returns : goal.returns
returns c = λ aliases tells.
    rw (c.from_vec.ensures)
    (plan_is c.args.rows.now.pages c.args.shelf.now.revisions c.args.change.now
    c.args.aliases.now.pairs aliases tells c.as_slice.result.now c.as_slice-2.result.now
    c.as_slice.ensures (c.as_slice-2.ensures.value ∙ c.in_ok-fates.ensures)
    c.new-planned.result.items c.add_aliases.new.planned.items c.add_pages.new.planned.items
    c.new-planned.ensures.items c.in_ok-add_aliases.ensures c.in_ok-add_pages.ensures)
