-- A whole request is final.
use Rattle.http_model.specs.Requests.{whole}
use Rattle.http_model.proofs.FinalLemmas.{final_stays}
use Rattle.http_model.proofs.laws.whole_stays.Goals as goal

pub returns : goal.returns
returns c = λ bytes more rest request is. final_stays bytes more (whole request rest) tt is
