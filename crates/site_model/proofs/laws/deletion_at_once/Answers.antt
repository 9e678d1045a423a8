-- The aliases that are left become what each would in the world before, and stay as the page goes.
use Rattle.site_model.proofs.DeletedForm.{deletion_at_once}
use Rattle.site_model.proofs.laws.deletion_at_once.Goals as goal

pub returns : goal.returns
returns c = deletion_at_once
