-- Past the last tag there is no command.
use Rattle.std.proofs.Common.{arith}
use Rattle.entry_codec.proofs.Tags.{none_past}
use Rattle.entry_codec.proofs.read_command.read_fields.Goals as goal

pub returns-then-tag-gt-LAST_TAG : goal.returns-then-tag-gt-LAST_TAG
returns-then-tag-gt-LAST_TAG c = none_past c.args.tag c.args.reader.now (omega arith)
