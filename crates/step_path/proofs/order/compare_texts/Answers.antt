-- The bytes compare as the steps that they write.
use Rattle.std.proofs.Common.{◌∙◌}
use Rattle.step_path.proofs.OrderLemmas.{texts_in_order}
use Rattle.step_path.proofs.order.compare_texts.Goals as goal

pub returns : goal.returns
returns c = c.cmp.ensures ∙ texts_in_order _ _ c.requires.first c.requires.second
