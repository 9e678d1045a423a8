-- The texts that are kept are the world's.
use Rattle.std.proofs.Common.{◌∙◌}
use Rattle.site_core.proofs.PrepareLemmas.{text_is}
use Rattle.site_core.proofs.state.Core.desk.Goals as goal

pub returns : goal.returns
returns c = λ world ready.
    c.text.ensures ∙ text_is c.args.self.now world ready c.args.user c.args.page
