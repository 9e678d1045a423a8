-- What is there after a page got other links.
use Rattle.std.proofs.Common.{◌≡◌, ◌∙◌, refl}
use Rattle.link_index.specs.Pairs.{with_own}
use Rattle.link_index.proofs.LawLemmas.{has_own}
use Rattle.link_index.proofs.link_index.LinkIndex.replace_links.Goals as goal

pub returns-clause-there : goal.returns-clause-there
returns-clause-there c = λ linked other.
    let is : c.add_links.new.self.pairs ≡ with_own c.args.page c.args.links.now c.args.self.now.pairs =
    c.add_links.ensures.pairs ∙ rw (c.as_slice.ensures, c.clear.ensures.pairs) refl in
    rw is (has_own c.args.page linked other c.args.links.now c.args.self.now.pairs)
