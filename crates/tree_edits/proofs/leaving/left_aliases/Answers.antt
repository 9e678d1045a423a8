-- Each page that goes has a number of a page; what was found is sorted at the end.
use Rattle.std.proofs.Common.{◌≡◌, ◌++◌, sym, ap, subst, ◌∙◌, arith}
use Rattle.std.specs.List.{AllByRecursion}
use Rattle.std.specs.List.Sorted.{IsPermutation}
use Rattle.std.proofs.Math.ListN.{drop_of_length-le}
use Rattle.std.proofs.lemmas.List.{append-nil}
use Rattle.std.proofs.lemmas.List.Elements.{All-from_recursion, All-get_or}
use Rattle.page_tree.specs.Tree.{node_of, ids_of}
use Rattle.page_store.specs.Pages.{EachPair, HasOtherId}
use Rattle.site_ids.specs.Ids.{IsPageId}
use Rattle.link_plans.specs.PageLinks.{AreAliases}
use Rattle.tree_edits.proofs.DeletionChange.{gone_ids}
use Rattle.tree_edits.proofs.LeavingFound.{found, found_left}
use Rattle.new_pages.proofs.LookUpLemmas.{row_there}
use Rattle.tree_edits.proofs.leaving.left_aliases.Goals as goal

pub unreachable-requires : goal.unreachable-requires
unreachable-requires c =
    let world = c.requires.0 in
    let ids = gone_ids world c.args.page c.requires.1.reached.sound.pages in
    let same : c.as_slice-number-items.result.now ≡ ids_of (node_of c.args.page world.tree) =
    c.as_slice-number-items.ensures ∙ c.requires.3 in
    c.in_default.ensures
    (All-get_or IsPageId c.as_slice-number-items.result.now c.loop-number.number-index 0
    c.loop-number-test.true
    (All-from_recursion IsPageId c.as_slice-number-items.result.now
    (subst (AllByRecursion IsPageId) (sym same) ids)))

pub put_staying-requires : goal.put_staying-requires
put_staying-requires c =
    row_there c.args.page c.requires.0.tree c.args.part.now.rows.pages
    c.requires.1.stands.pages ∙ c.requires.2

pub returns : goal.returns
returns c = λ world ready gone_are.
    let node = node_of c.args.page world.tree in
    let pairs = c.args.part.now.aliases.pairs in
    let items = c.as_slice-number-items.result.now in
    let past = c.loop-number-test.false in
    let whole : c.loop-number.left.items ≡ found node pairs items =
    sym (append-nil c.loop-number.left.items)
    ∙ (ap (λ ones. c.loop-number.left.items ++ found node pairs ones)
    (sym (drop_of_length-le items past))
    ∙ c.loop-number.invariant.0 world ready) in
    found_left world c.args.page pairs items c.sort_unstable.new.self.items
    ready.reached.sound.pages.distinct
    (subst (EachPair HasOtherId) ready.stands.pages c.len-len.ensures.pages.own_ids)
    (λ some. c.loop-number.invariant.1 (omega (arith, some, past)))
    (subst (AreAliases pairs) ready.stands.pages ready.stands.in_step.aliased)
    (c.as_slice-number-items.ensures ∙ gone_are)
    (subst (λ ones. IsPermutation ones c.sort_unstable.new.self.items) whole
    c.sort_unstable.ensures.permutation)
    c.sort_unstable.ensures.sorted
