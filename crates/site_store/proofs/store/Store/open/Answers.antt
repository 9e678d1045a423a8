-- What opening the log tells.
use Rattle.std.proofs.Common.{Err, ap}
use Rattle.site_store.proofs.OpenLemmas.{start_stands}
use Rattle.site_store.proofs.store.Store.open.Goals as goal

pub returns-in-Err-clause-bad : goal.returns-in-Err-clause-bad
returns-in-Err-clause-bad g c = λ honest file offset is.
    c.in-Err.ensures.bad honest file offset (ap Err is)

pub open_log-requires : goal.open_log-requires
open_log-requires g c = start_stands c.in-Ok.core _ c.new.ensures c.in-Ok.ensures
