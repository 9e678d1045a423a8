use Rattle.std.proofs.Common.{◌≡◌, map, drop}
use Rattle.httparse.specs.Spans.{header_bytes}
use Rattle.http_model.specs.Fields.{asks_for_closing}
use Rattle.http_wire.proofs.fields.asks_for_closing.Given as goal

-- the fields that are left ask for closing just where all of them do
abbrev pub invariant-loop-field : goal.invariant-loop-field
invariant-loop-field l =
    asks_for_closing (map (header_bytes l.head) (drop l.field-index l.fields))
    ≡ asks_for_closing (map (header_bytes l.head) l.fields)
