-- All rows of the page's range are copied, or its own alone.
use Rattle.std.proofs.Common.{sym, subst, rules}
use Rattle.page_copies.specs.Copied.{AreCopied}
use Rattle.page_copies.proofs.CopyLemmas.{range_copied}
use Rattle.page_copies.proofs.copy.copied_range.Goals as goal

pub returns-then-deep-clause-copied : goal.returns-then-deep-clause-copied
returns-then-deep-clause-copied c = λ part is.
    subst (λ deep. AreCopied c.args.rows.now.pages part.tree c.args.page deep c.in-Some.place
    c.in-Some.count) (sym c.if-deep.true)
    (range_copied c.args.rows.now.pages part.tree c.args.page c.in-Some.place c.in-Some.count
    c.len-len.ensures.pages is (c.in-Some.ensures.there.0 (search rules)) c.in-Some.ensures.range).0

pub returns-else-deep-clause-copied : goal.returns-else-deep-clause-copied
returns-else-deep-clause-copied c = λ part is.
    subst (λ deep. AreCopied c.args.rows.now.pages part.tree c.args.page deep c.in-Some.place 1)
    (sym c.if-deep.false)
    (range_copied c.args.rows.now.pages part.tree c.args.page c.in-Some.place c.in-Some.count
    c.len-len.ensures.pages is (c.in-Some.ensures.there.0 (search rules)) c.in-Some.ensures.range).1
