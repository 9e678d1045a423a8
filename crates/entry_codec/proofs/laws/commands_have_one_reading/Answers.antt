-- Since each form is read as its value.
use Rattle.content_codec.proofs.Fronts.{one_reading}
use Rattle.entry_codec.proofs.Commands.{command_reading}
use Rattle.entry_codec.proofs.laws.commands_have_one_reading.Goals as goal

pub returns : goal.returns
returns c = one_reading command_reading
