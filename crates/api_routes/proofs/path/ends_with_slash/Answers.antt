use Rattle.std.proofs.Common.{◌<◌, length, arith}
use Rattle.std.proofs.lemmas.Bool.Decides.{nat_tests}
use Rattle.api_routes.proofs.CallLemmas.{last-decides}
use Rattle.api_routes.proofs.path.ends_with_slash.Goals as goal

pub returns : goal.returns
returns c =
    let some : 0 < length c.args.path.now = grind (arith, nat_tests) in
    last-decides c.args.path.now some
