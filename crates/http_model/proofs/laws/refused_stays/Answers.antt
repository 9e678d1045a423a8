-- A refusal is final.
use Rattle.http_model.specs.Requests.{refused}
use Rattle.http_model.proofs.FinalLemmas.{final_stays}
use Rattle.http_model.proofs.laws.refused_stays.Goals as goal

pub returns : goal.returns
returns c = λ bytes more status is. final_stays bytes more (refused status) tt is
