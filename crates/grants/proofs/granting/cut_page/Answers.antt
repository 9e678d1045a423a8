-- The grants at the page stand between the places of its least key and of the next page's.
use Rattle.std.proofs.Common.{◌∙◌}
use Rattle.grants.proofs.CutLemmas.{page_cut, page_cut_rises}
use Rattle.grants.proofs.granting.cut_page.Goals as goal

pub returns-clause-items : goal.returns-clause-items
returns-clause-items c =
    c.cut.ensures.items
    ∙ rw (c.page_range-start.ensures.start, c.page_range-start.ensures.end, c.deref.ensures.value)
    (page_cut c.args.grants.now.items c.args.page c.requires)

pub returns-clause-rise : goal.returns-clause-rise
returns-clause-rise c =
    page_cut_rises c.args.grants.now.items c.cut.new.items.items c.args.page c.requires
    (c.cut.ensures.items
    ∙ rw (c.page_range-start.ensures.start, c.page_range-start.ensures.end, c.deref.ensures.value)
    (page_cut c.args.grants.now.items c.args.page c.requires))
