-- The newest of the page goes, and the one before it is the newest.
use Rattle.std.proofs.Common.{◌∙◌, sym}
use Rattle.revision_shelf.proofs.RemoveLemmas.{total_at_least, latest_kept}
use Rattle.revision_shelf.proofs.ChainLemmas.{take_one}
use Rattle.revision_shelf.proofs.chain.take_newest.Goals as goal

pub unreachable-requires : goal.unreachable-requires
unreachable-requires c =
    latest_kept _ _ _ _ _ c.args.page c.in-Some.id c.requires.chained.1 (sym (c.copied.ensures ∙
    c.get.ensures.value) ∙ c.in-Some.is) (sym c.swap_remove.ensures.value ∙
    c.in_default-swap_remove.is)

pub overflow_sub-weight : goal.overflow_sub-weight
overflow_sub-weight c =
    rw (c.form_length.ensures.value) (total_at_least _ _ _ _ _ c.requires.chained.1 c.in-Some.id
    c.in-Some-swap_remove.kept (sym c.swap_remove.ensures.value ∙ c.in-Some-swap_remove.is))

pub returns-clause-chained : goal.returns-clause-chained
returns-clause-chained c = λ revisions kept.
    rw (c.form_length.ensures.value) (take_one _ _ _ _ _ c.args.page c.in-Some.id
    c.in-Some-swap_remove.kept (sym (c.copied.ensures ∙ c.get.ensures.value) ∙ c.in-Some.is) (sym
    c.swap_remove.ensures.value ∙ c.in-Some-swap_remove.is) c.swap_remove.ensures.updates.0
    c.set_newest.ensures.pages revisions kept)
