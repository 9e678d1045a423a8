-- What is there after a pair was put in.
use Rattle.std.proofs.Common.{ℕ, ◌≡◌, ◌∙◌, ap}
use Rattle.link_index.specs.Pairs.{PairList, put_in}
use Rattle.site_types.specs.Ids.{IsPageId}
use Rattle.link_index.proofs.OrderLemmas.{all_put}
use Rattle.link_index.proofs.PairLemmas.{has_put}
use Rattle.link_index.proofs.aliases.Aliases.add.Goals as goal

pub returns-clause-there : goal.returns-clause-there
returns-clause-there c = λ first second.
    let is : c.put.new.self.pairs
    ≡ put_in (c.args.source, c.args.alias) c.args.self.now.pairs =
    c.put.ensures.pairs ∙ rw (c.get.ensures.value, c.get-2.ensures.value)
    (ap (λ (v : PairList). put_in (c.args.source, c.args.alias) v.pairs) c.self.view_is) in
    rw is (has_put (c.args.source, c.args.alias) first second c.args.self.now.pairs)

pub invariant_of-self : goal.invariant_of-self
invariant_of-self c =
    rw (c.put.ensures.pairs)
    (all_put (λ (pair : ℕ × ℕ). IsPageId pair.1) (c.get.result, c.get-2.result)
    c.self.inside.index.pairs c.self.invariant c.get-2.ensures.range)
