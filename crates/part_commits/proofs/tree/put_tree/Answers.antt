-- Each page keeps what is kept of it, or comes without moments, or goes with its moments.
use Rattle.std.proofs.Common.{sym, ap, subst, inl, ◌∙◌}
use Rattle.flat_model.specs.Fits.{TreeFits}
use Rattle.publishing.specs.Times.{body_in}
use Rattle.part_commits.proofs.AliasLemmas.{aliased_same}
use Rattle.part_commits.proofs.InStepLemmas.{timed_come}
use Rattle.part_commits.proofs.RowBodies.{Comes, pages_come, kept_moved, kept_named}
use Rattle.part_commits.proofs.tree.put_tree.Goals as goal

pub returns-in-Insert-clause-timed : goal.returns-in-Insert-clause-timed
returns-in-Insert-clause-timed c = λ revisions timed.
    let rows = c.args.rows.now.pages in
    timed_come c.args.times.now rows _ revisions timed
    (λ page. subst (Comes page rows) (sym c.put_pages.ensures.pages)
    (pages_come page c.in-Insert.new rows
    (subst (λ tree. TreeFits tree rows) c.in-Insert.is c.requires.fits)))

pub returns-in-Move-clause-timed : goal.returns-in-Move-clause-timed
returns-in-Move-clause-timed c = λ revisions timed.
    let rows = c.args.rows.now.pages in
    timed_come c.args.times.now rows _ revisions timed
    (λ page. subst (Comes page rows) (sym c.put_move.ensures)
    (inl (kept_moved page c.in-Move.plan c.in-Move.urls rows c.len-len.ensures.pages.own_ids)))

pub returns-in-Rename-clause-timed : goal.returns-in-Rename-clause-timed
returns-in-Rename-clause-timed c = λ revisions timed.
    let rows = c.args.rows.now.pages in
    timed_come c.args.times.now rows _ revisions timed
    (λ page. subst (Comes page rows) (sym c.put_name.ensures)
    (inl (kept_named page c.in-Rename.page c.in-Rename.slug c.in-Rename.urls rows)))

pub returns-in-Move-clause-aliased : goal.returns-in-Move-clause-aliased
returns-in-Move-clause-aliased c = λ aliased.
    let rows = c.args.rows.now.pages in
    aliased_same c.args.aliases.now.pairs rows _ aliased
    (λ page. ap (body_in page) c.put_move.ensures
    ∙ kept_moved page c.in-Move.plan c.in-Move.urls rows c.len-len.ensures.pages.own_ids)

pub returns-in-Rename-clause-aliased : goal.returns-in-Rename-clause-aliased
returns-in-Rename-clause-aliased c = λ aliased.
    let rows = c.args.rows.now.pages in
    aliased_same c.args.aliases.now.pairs rows _ aliased
    (λ page. ap (body_in page) c.put_name.ensures
    ∙ kept_named page c.in-Rename.page c.in-Rename.slug c.in-Rename.urls rows)
