-- A rotation of the two blocks.
use Rattle.page_store.proofs.MoveLemmas.{swapped}
use Rattle.page_store.proofs.relabel.swap_blocks.Goals as goal

pub returns-clause-swapped : goal.returns-clause-swapped
returns-clause-swapped c = λ front one other back is a b d.
    swapped front one other back _ _ c.args.start c.args.middle c.args.end is a b d
    c.requires.start_le_middle c.requires.middle_le_end c.rotate_left.ensures.after
