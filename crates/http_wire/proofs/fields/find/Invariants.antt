use Rattle.std.proofs.Common.{map, take}
use Rattle.httparse.specs.Spans.{header_bytes}
use Rattle.http_model.specs.Fields.{values_named}
use Rattle.http_wire.specs.Fielding.{IsNamed}
use Rattle.http_wire.proofs.fields.find.Given as goal

-- what was found is among the fields so far
abbrev pub invariant-loop-field : goal.invariant-loop-field
invariant-loop-field l =
    IsNamed l.found
    (values_named l.name (map (header_bytes l.head) (take l.field-index l.fields)))
