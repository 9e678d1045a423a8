-- The number of a page names it.
use Rattle.std.proofs.Common.{◌∙◌, ap, Some}
use Rattle.page_store.proofs.StoredLemmas.{numbered_page}
use Rattle.page_store.proofs.stored.Parent.page.Goals as goal

pub returns : goal.returns
returns c = numbered_page c.get.result c.get.ensures.range.0 ∙ ap Some c.get.ensures.value
