-- A text that is found at a desk is of an open one.
use Rattle.site_model.proofs.OwnText.{own_text_fits}
use Rattle.site_model.proofs.laws.own_text_fits.Goals as goal

pub returns : goal.returns
returns c = own_text_fits
