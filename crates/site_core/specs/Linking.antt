-- Room for the links that pages get.
use Rattle.std.specs.Prelude.{◌≡◌}
use Rattle.site_part.specs.declared.part.TreePart.{TreePart}

-- All is the same but the room for links.
pub record HasLinkRoom (before after : TreePart) : Type 0 where
  pub is : after ≡ record before { links = after.links }
  pub links : after.links.pairs ≡ before.links.pairs
