-- What holds of every world that commands reach from a new site's: it is sound.
use Rattle.site_model.specs.World.{World, TreePart}
use Rattle.site_model.specs.Sound.{IsSoundPart, IsSound}

-- The tree part of a world that is reached.
pub record IsReachedPart (part : TreePart) : Type 0 where
  pub sound : IsSoundPart part

-- A world that is reached.
pub record IsReached (world : World) : Type 0 where
  pub sound : IsSound world
