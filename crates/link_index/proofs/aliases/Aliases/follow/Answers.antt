-- The seconds of a page rise.
use Rattle.std.proofs.Common.{◌≡◌, ◌∙◌, sym, subst}
use Rattle.std.specs.List.{AllByRecursion}
use Rattle.std.specs.List.Sorted.{IsStrictlyIncreasing}
use Rattle.link_index.specs.Pairs.{seconds_of}
use Rattle.site_types.specs.Ids.{IsPageId}
use Rattle.link_index.proofs.LawLemmas.{rise_seconds, all_seconds}
use Rattle.link_index.proofs.aliases.Aliases.follow.Goals as goal

pub returns-clause-rising : goal.returns-clause-rising
returns-clause-rising c =
    let is : c.from_vec.result ≡ seconds_of c.get.result c.self.inside.index.pairs =
    c.from_vec.ensures ∙ rw (c.of.ensures.value) at c.in_ok-numbers.ensures in
    subst IsStrictlyIncreasing (sym is) (rise_seconds c.get.result _ c.of.ensures.rises)

pub returns-clause-pages : goal.returns-clause-pages
returns-clause-pages c =
    let is : c.from_vec.result ≡ seconds_of c.get.result c.self.inside.index.pairs =
    c.from_vec.ensures ∙ rw (c.of.ensures.value) at c.in_ok-numbers.ensures in
    subst (AllByRecursion IsPageId) (sym is) (all_seconds IsPageId c.get.result _ c.self.invariant)
