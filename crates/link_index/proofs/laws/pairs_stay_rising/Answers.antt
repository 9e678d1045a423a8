-- Each change keeps the order.
use Rattle.std.proofs.Common.{not, nat_eq}
use Rattle.link_index.proofs.FrontLemmas.{rise_kept}
use Rattle.link_index.proofs.PairLemmas.{rise_put}
use Rattle.link_index.proofs.LawLemmas.{rise_own, rise_seconds}
use Rattle.link_index.proofs.laws.pairs_stay_rising.Goals as goal

pub returns : goal.returns
returns c = λ pairs rise. (
  λ new. rise_put new pairs rise,
  λ gone. rise_kept (λ pair. not (nat_eq pair.1 gone)) pairs rise,
  λ own firsts. rise_own own firsts pairs rise,
  λ first. rise_seconds first pairs rise,
)
