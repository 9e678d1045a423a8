-- What is read has the text, and nothing is read where no moment has it.
use Rattle.wire_model.proofs.TimeLemmas.{time_from_text}
use Rattle.api_routes.proofs.member.written_time.Goals as goal

pub returns : goal.returns
returns c =
    time_from_text c.args.text.now c.read_time.result c.read_time.ensures.some
    c.read_time.ensures.none
