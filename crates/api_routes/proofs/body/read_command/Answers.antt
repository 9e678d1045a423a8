use Rattle.std.proofs.Common.{ap, Err}
use Rattle.wire_model.specs.Forms.{command_asked}
use Rattle.api_routes.proofs.CallLemmas.{fault-read}
use Rattle.api_routes.proofs.body.read_command.Goals as goal

pub returns-in-Ok : goal.returns-in-Ok
unfolding command_asked
returns-in-Ok c = rw c.in-Ok.ensures.ok c.command_in.ensures

pub returns-in-Err : goal.returns-in-Err
returns-in-Err c =
    fault-read c.in-Err.fault c.args.form c.args.body.now (λ e. c.in-Err.ensures.bad (ap Err e))
