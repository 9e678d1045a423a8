use Rattle.std.proofs.Common.{Err, refl}
use Rattle.http_wire.specs.Reading.{request_of}
use Rattle.wire_model.specs.Routes.{unbuilt, nowhere}
use Rattle.wire_model.specs.declared.call.RouteFault.TheVariants.{NotFound, NotBuilt}
use Rattle.api_routes.proofs.CallLemmas.{asked-on}
use Rattle.api_routes.proofs.router.Routes.answer.Goals as goal

pub returns-in-Command : goal.returns-in-Command
returns-in-Command c = asked-on _ _ _ c.in-Command.ensures c.command_call.ensures

pub returns-in-Read : goal.returns-in-Read
returns-in-Read c = asked-on _ _ _ c.in-Read.ensures c.read_call.ensures

pub returns-in-Unbuilt : goal.returns-in-Unbuilt
returns-in-Unbuilt c =
    asked-on (request_of c.args.request.now) unbuilt (Err NotBuilt) c.in-Unbuilt.ensures refl

pub returns-in-Nowhere : goal.returns-in-Nowhere
returns-in-Nowhere c =
    asked-on (request_of c.args.request.now) nowhere (Err NotFound) c.in-Nowhere.ensures refl

pub returns-in-Public : goal.returns-in-Public
returns-in-Public c = asked-on _ _ _ c.in-Public.ensures c.public_call.ensures
