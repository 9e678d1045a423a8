-- The first of the pages, one by one.
use Rattle.std.proofs.Common.{◌∷◌, [], ◌++◌, ℕ, List, sym, ap, subst, ◌∙◌, arith}
use Rattle.public_view.specs.declared.refs.TheConstants.{MAX_REFS}
use Rattle.link_index.specs.Pairs.{seconds_of}
use Rattle.site_core.proofs.FirstLemmas.{AreFirst, first_full, first_all, first_more}
use Rattle.site_core.proofs.references.first_refs.Goals as goal

pub returns-then-len-ge-MAX_REFS-clause-value : goal.returns-then-len-ge-MAX_REFS-clause-value
returns-then-len-ge-MAX_REFS-clause-value c =
    let full = c.if-len-ge-MAX_REFS.true in
    let len = c.len.ensures in
    c.from_vec.ensures
    ∙ first_full MAX_REFS c.loop-page.refs.items _ _ c.loop-page.invariant
    (omega (arith, full, len, c.loop-page.refs.ok))

pub loop-page-preserved : goal.loop-page-preserved
loop-page-preserved c =
    let few = c.if-len-ge-MAX_REFS.false in
    let len = c.len.ensures in
    let so_far = c.loop-page.refs.items in
    let left = c.next.new.self in
    let all = seconds_of c.args.id c.args.links.now.pairs in
    subst (λ (refs : List ℕ). AreFirst MAX_REFS refs left all)
    (sym (c.in_ok-push.ensures.items ∙ ap (λ (n : ℕ). so_far ++ n ∷ []) c.get.ensures.value))
    (first_more MAX_REFS so_far left all c.in-Some.page
    (omega (arith, few, len, c.loop-page.refs.ok))
    (subst (λ (rest : List ℕ). AreFirst MAX_REFS so_far rest all) c.in-Some.ensures.steps
    c.loop-page.invariant))

pub returns-clause-value : goal.returns-clause-value
returns-clause-value c =
    c.from_vec-2.ensures
    ∙ first_all MAX_REFS c.loop-page.refs.items _ _ c.loop-page.invariant c.in-None.ensures.steps.0
