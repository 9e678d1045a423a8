-- The number that is kept is checked again.
use Rattle.std.proofs.Common.{◌∙◌}
use Rattle.page_store.proofs.StoredLemmas.{number_names}
use Rattle.page_store.proofs.stored.Parent.get.Goals as goal

pub returns : goal.returns
returns c = number_names c.self.inside.number c.new.result c.self.invariant c.new.ensures ∙ c.self.view_is
