-- What is there after the pairs of an alias were taken out.
use Rattle.std.proofs.Common.{ℕ, not, nat_eq, ◌≡◌, ◌∙◌, ap}
use Rattle.link_index.specs.Pairs.{PairList, without}
use Rattle.site_types.specs.Ids.{IsPageId}
use Rattle.link_index.proofs.OrderLemmas.{all_kept}
use Rattle.link_index.proofs.SetLemmas.{has_without}
use Rattle.link_index.proofs.aliases.Aliases.remove.Goals as goal

pub returns-clause-there : goal.returns-clause-there
returns-clause-there c = λ first second.
    let is : c.clear.new.self.pairs ≡ without c.args.alias c.args.self.now.pairs =
    c.clear.ensures.pairs ∙ rw (c.get.ensures.value)
    (ap (λ (v : PairList). without c.args.alias v.pairs) c.self.view_is) in
    rw is (has_without c.args.alias first second c.args.self.now.pairs)

pub invariant_of-self : goal.invariant_of-self
invariant_of-self c =
    rw (c.clear.ensures.pairs)
    (all_kept (λ (pair : ℕ × ℕ). IsPageId pair.1) (λ (pair : ℕ × ℕ). not (nat_eq pair.1 c.get.result))
    c.self.inside.index.pairs c.self.invariant)
