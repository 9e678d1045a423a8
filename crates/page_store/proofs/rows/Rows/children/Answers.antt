-- The walk begins behind the page, and is over at once where there is no such page.
use Rattle.std.proofs.Common.{◌∙◌, sym, arith, rules}
use Rattle.page_store.proofs.KidLemmas.{kids_between-none, kids_of_none, walk_starts}
use Rattle.page_store.proofs.rows.Rows.children.Goals as goal

pub invariant_of-t-7 : goal.invariant_of-t-7
invariant_of-t-7 c =
    (walk_starts c.args.self.now.pages c.args.id c.in-Some.place c.in-Some.count
    c.len-len.ensures.pages (c.in-Some.ensures.there.0 (search rules))
    c.in-Some.ensures.range).0

pub returns-in-Some : goal.returns-in-Some
returns-in-Some c =
    (walk_starts c.args.self.now.pages c.args.id c.in-Some.place c.in-Some.count
    c.len-len.ensures.pages (c.in-Some.ensures.there.0 (search rules))
    c.in-Some.ensures.range).1

pub returns-in-None : goal.returns-in-None
returns-in-None c =
    kids_between-none c.args.id c.len-len.result c.len-len.result c.args.self.now.pages (omega arith)
    ∙ sym (kids_of_none c.args.self.now.pages c.args.id c.len-len.ensures.pages (λ there. let h =
    c.in-None.ensures.there.1 there in search rules))
