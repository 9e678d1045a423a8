-- The page's last revision before the one that is named.
use Rattle.revision_shelf.proofs.shelf.Shelf.step.Goals as goal

pub before-requires : goal.before-requires
before-requires c = rw (c.id_of.ensures) (c.requires.own)
