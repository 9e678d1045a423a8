-- The kid that the rows tell is the tree's.
use Rattle.slug_urls.proofs.Taken.{taken_told}
use Rattle.slug_urls.proofs.plan.find_taken.Goals as goal

pub returns : goal.returns
returns c tree is =
    taken_told c.args.rows.now.pages tree c.args.page c.args.parent c.args.slug.now
    c.taken_kid.result c.len-len.ensures.pages is c.requires.parent_there c.requires.outside
    c.taken_kid.ensures
