-- The subtree has a place, and the rows are relabelled from there.
use Rattle.std.proofs.Common.{rules, ◌∙◌}
use Rattle.part_commits.proofs.MoveCall.{call_is}
use Rattle.part_commits.proofs.moving.move_counted.Goals as goal

pub unreachable-requires : goal.unreachable-requires
unreachable-requires g c =
    let never = c.in_default.ensures.there.1 c.requires.fits.there in
    search rules

pub relabel-requires-clause-from_within : goal.relabel-requires-clause-from_within
relabel-requires-clause-from_within g c =
    (call_is c.args.plan c.args.urls c.args.rows.now.pages c.in-Some.from c.in-Some.count
    c.requires.fits c.in-Some.ensures.range).from_within

pub relabel-requires-clause-to_within : goal.relabel-requires-clause-to_within
relabel-requires-clause-to_within g c =
    (call_is c.args.plan c.args.urls c.args.rows.now.pages c.in-Some.from c.in-Some.count
    c.requires.fits c.in-Some.ensures.range).to_within

pub relabel-requires-clause-paths_listed : goal.relabel-requires-clause-paths_listed
relabel-requires-clause-paths_listed g c = c.requires.fits.paths

pub relabel-requires-clause-urls_listed : goal.relabel-requires-clause-urls_listed
relabel-requires-clause-urls_listed g c = c.requires.fits.urls_are

pub relabel-requires-clause-are_pages : goal.relabel-requires-clause-are_pages
relabel-requires-clause-are_pages g c =
    (call_is c.args.plan c.args.urls c.args.rows.now.pages c.in-Some.from c.in-Some.count
    c.requires.fits c.in-Some.ensures.range).are_pages

pub relabel-requires-clause-parents : goal.relabel-requires-clause-parents
relabel-requires-clause-parents g c =
    (call_is c.args.plan c.args.urls c.args.rows.now.pages c.in-Some.from c.in-Some.count
    c.requires.fits c.in-Some.ensures.range).parents

pub returns : goal.returns
returns g c =
    c.relabel.ensures.pages
    ∙ (call_is c.args.plan c.args.urls c.args.rows.now.pages c.in-Some.from c.in-Some.count
    c.requires.fits c.in-Some.ensures.range).result
