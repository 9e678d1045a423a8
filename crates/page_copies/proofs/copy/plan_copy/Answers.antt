-- The page has a row, and each page that is copied gets a content.
use Rattle.page_copies.proofs.CopyLemmas.{all_get, source_row, plan_told}
use Rattle.page_copies.proofs.copy.plan_copy.Goals as goal

pub unreachable-requires : goal.unreachable-requires
unreachable-requires c =
    let part = c.requires.0 in
    let some = c.in_default.ensures.there
    (source_row part c.args.rows.now.pages c.args.page c.requires.1.rows_are c.requires.2.there) in
    cc

pub copied_between-requires-clause-there : goal.copied_between-requires-clause-there
copied_between-requires-clause-there c = (
  c.requires.0,
  c.requires.1,
  all_get c.requires.0 c.args.rows.now.pages c.args.page c.args.deep c.in-Some.place c.in-Some.count
      c.len-len.ensures.pages c.requires.1.rows_are c.requires.2
      (c.in-Some.ensures.copied c.requires.0 c.requires.1.rows_are),
)

pub returns : goal.returns
returns c = λ part stand source.
    plan_told part c.args.rows.now.pages c.args.page c.args.deep c.in-Some.place c.in-Some.count
    (c.in-Some.ensures.copied part stand.rows_are) c.copied_between.result
    (c.copied_between.ensures part stand)
