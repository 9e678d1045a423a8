-- The call owes what the later rows are, and gets them.
use Rattle.std.proofs.Common.{rules}
use Rattle.path_moves.proofs.ApplyCall.{planned_there, owed, applied}
use Rattle.path_moves.proofs.applying.apply.Goals as goal

pub unreachable-requires : goal.unreachable-requires
unreachable-requires g c =
    let made = c.requires.made in
    let there = planned_there c.args.rows.now.pages c.args.plan made.0 made.1 made.2 made.3 in
    let never = c.in_default.ensures.there.1 there in
    search rules

pub relabel-requires-clause-to_within : goal.relabel-requires-clause-to_within
relabel-requires-clause-to_within g c =
    (owed c.args.rows.now.pages c.args.plan c.args.urls c.in-Some.from c.in-Some.n
    c.len-len.ensures.pages c.requires.made c.requires.free c.in-Some.ensures.range).to_within

pub relabel-requires-clause-paths_listed : goal.relabel-requires-clause-paths_listed
relabel-requires-clause-paths_listed g c =
    (owed c.args.rows.now.pages c.args.plan c.args.urls c.in-Some.from c.in-Some.n
    c.len-len.ensures.pages c.requires.made c.requires.free c.in-Some.ensures.range).listed

pub relabel-requires-clause-are_pages : goal.relabel-requires-clause-are_pages
relabel-requires-clause-are_pages g c =
    (owed c.args.rows.now.pages c.args.plan c.args.urls c.in-Some.from c.in-Some.n
    c.len-len.ensures.pages c.requires.made c.requires.free c.in-Some.ensures.range).are_pages

pub relabel-requires-clause-parents : goal.relabel-requires-clause-parents
relabel-requires-clause-parents g c =
    (owed c.args.rows.now.pages c.args.plan c.args.urls c.in-Some.from c.in-Some.n
    c.len-len.ensures.pages c.requires.made c.requires.free c.in-Some.ensures.range).parents

pub returns-clause-pages : goal.returns-clause-pages
returns-clause-pages g c tree target position planned =
    applied c.args.rows.now.pages _ c.args.plan c.args.urls c.in-Some.from c.in-Some.n tree target
    position c.len-len.ensures.pages planned c.requires.free c.in-Some.ensures.range
    c.relabel.ensures.pages
