-- Lists of numbers compare as a total order, by std.
use Rattle.std.proofs.lemmas.Cmp.{nat_list_cmp_total}
use Rattle.step_path.proofs.OrderLemmas.{path_cmp-same}
use Rattle.step_path.proofs.laws.order_is_total.Goals as goal

pub returns : goal.returns
returns c = (nat_list_cmp_total, path_cmp-same)
