-- The pair that is found goes in both directions.
use Rattle.std.proofs.Common.{◌≡◌, ◌∙◌, Some, None, true, sym, ap, subst, length, ◌<◌}
use Rattle.link_index.specs.Pairs.{PairList, has_pair, without, without_pair, pairs_of}
use Rattle.link_index.specs.Kept.{first_second}
use Rattle.link_index.proofs.SetLemmas.{turned_out, found_there, found_none, nothing_out, without_out, out_shorter}
use Rattle.link_index.proofs.pair_index.PairIndex.take_one.Goals as goal

pub invariant_of-self : goal.invariant_of-self
invariant_of-self c =
    rw (c.take.ensures.items, c.take-in-Some.ensures.items)
    (turned_out c.in-Some.first c.args.second _ _ c.self.invariant)

pub returns-in-Some-clause-others : goal.returns-in-Some-clause-others
returns-in-Some-clause-others c =
    rw (c.take.ensures.items)
    (without_out c.in-Some.first c.args.second c.self.inside.forward.items
    ∙ ap (λ (v : PairList). without c.args.second v.pairs) c.self.view_is)

pub returns-in-Some-clause-shorter : goal.returns-in-Some-clause-shorter
returns-in-Some-clause-shorter c = λ is.
    let found : Some c.in-Some.first
    ≡ first_second (pairs_of c.args.second c.self.inside.backward.items) =
    rw (c.deref.ensures.value) at (sym c.in-Some.is ∙ c.second_of.ensures) in
    let there : has_pair c.in-Some.first c.args.second c.self.inside.forward.items ≡ true =
    sym (c.self.invariant.turned c.in-Some.first c.args.second)
    ∙ found_there c.args.second c.in-Some.first c.self.inside.backward.items found in
    rw (c.take.ensures.items)
    (subst (λ (v : PairList). length (without_pair c.in-Some.first c.args.second
    c.self.inside.forward.items) < length v.pairs) c.self.view_is
    (out_shorter c.in-Some.first c.args.second c.self.inside.forward.items there))

pub returns-in-None-clause-none : goal.returns-in-None-clause-none
returns-in-None-clause-none c = λ is.
    let found : None ≡ first_second (pairs_of c.args.second c.self.inside.backward.items) =
    rw (c.deref.ensures.value) at (sym c.in-None.is ∙ c.second_of.ensures) in
    subst (λ (v : PairList). without c.args.second v.pairs ≡ v.pairs) c.self.view_is
    (nothing_out c.args.second c.self.inside.forward.items (λ first.
    sym (c.self.invariant.turned first c.args.second)
    ∙ found_none c.args.second first c.self.inside.backward.items found))
