-- The blanks at the front go, and then those at the end.
use Rattle.std.proofs.Common.{rules}
use Rattle.httparse.specs.Grammar.{trim_ows}
use Rattle.http_wire.proofs.words.trim.Goals as goal

pub returns : goal.returns
unfolding trim_ows
returns c = search rules
