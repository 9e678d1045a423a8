-- The last tag is that of Cancel.
use Rattle.std.proofs.Common.{◌≡◌, arith}
use Rattle.std.proofs.lemmas.Result.{err_from_is_err_and}
use Rattle.entry_codec.proofs.Tags.{cancel_gives, cancel_fails}
use Rattle.entry_codec.proofs.read_command.read_on_workflow.Goals as goal

pub returns-in_err-page-in_default : goal.returns-in_err-page-in_default
returns-in_err-page-in_default c =
    let from = c.from_residual-in_err-page-in_default in
    let fault = err_from_is_err_and from.result from.ensures.1 in
    let is : c.args.tag ≡ 24 = omega arith in
    rw (fault.1, fault.2)
    (cancel_fails c.args.tag c.args.reader.now _ _ c.in_err-page-in_default.field-0.0 is
    c.in_err-page-in_default.ensures)

pub returns-in_ok-page-in_default : goal.returns-in_ok-page-in_default
returns-in_ok-page-in_default c =
    let is : c.args.tag ≡ 24 = omega arith in
    cancel_gives c.args.tag c.args.reader.now c.page-in_default.new.self
    c.in_ok-page-in_default.field-0 is c.in_ok-page-in_default.ensures
