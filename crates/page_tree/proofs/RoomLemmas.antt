-- Where each step has one after it, each step of what is left after a cut has one too.
use Rattle.std.proofs.Common.{ℕ, Bool, true, false, cond, nat_eq}
use Rattle.page_tree.specs.Tree.{Forest, bare, grown, without}
use Rattle.page_tree.specs.Grove.{HasRoom}

-- one of two forests has room where both have
either_has_room : (t : Bool) (f g : Forest ℕ) → HasRoom f → HasRoom g → HasRoom (cond t f g)
either_has_room true f g hf hg = hf
either_has_room false f g hf hg = hg

-- a cut leaves room
pub HasRoom-without : (id : ℕ) (f : Forest ℕ) → HasRoom f → HasRoom (without id f)
HasRoom-without id bare h = tt
HasRoom-without id (grown i step slug body kids rest) h =
    either_has_room (nat_eq i id) _ _ h.2
    (h.0, HasRoom-without id kids h.1, HasRoom-without id rest h.2)
