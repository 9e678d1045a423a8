-- The cut leaves room for the graft.
use Rattle.page_tree.proofs.RoomLemmas.{HasRoom-without}
use Rattle.page_tree.proofs.place.moved.Goals as goal

pub graft-requires : goal.graft-requires
graft-requires c =
    rw c.in_ok-left.ensures (HasRoom-without c.args.page _ c.requires)
