-- Two blocks that are swapped.
use Rattle.std.proofs.Common.{◌∙◌, arith}
use Rattle.page_store.proofs.MoveLemmas.{written, swapped_down, swapped_up}
use Rattle.page_store.proofs.relabel.move_items.Goals as goal

pub returns-then-to-from-clause-items : goal.returns-then-to-from-clause-items
returns-then-to-from-clause-items c =
    let slice = c.as_mut_slice.ensures in
    written _ _ _ _ slice.value slice.len c.swap_blocks.ensures.len
    ∙ swapped_down _ _ _ c.args.from c.args.n c.args.to slice.value slice.len c.requires.from_within
    c.if-to-from.true c.swap_blocks.ensures.swapped

pub returns-else-to-from-clause-items : goal.returns-else-to-from-clause-items
returns-else-to-from-clause-items c =
    let slice = c.as_mut_slice-else-to-from.ensures in
    let up = c.if-to-from.false in
    written _ _ _ _ slice.value slice.len c.swap_blocks-else-to-from.ensures.len
    ∙ swapped_up _ _ _ c.args.from c.args.n c.args.to slice.value slice.len c.requires.to_within
    (omega arith) c.swap_blocks-else-to-from.ensures.swapped
