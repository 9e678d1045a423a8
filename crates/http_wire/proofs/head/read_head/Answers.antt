-- The spans are those of the head that the bytes are.
use Rattle.std.proofs.Common.{◌≡◌, ◌≤◌, length, false, nat_lt, ◌∙◌, arith}
use Rattle.std.proofs.lemmas.Bool.Decides.{nat_tests}
use Rattle.http_model.specs.declared.words.TheConstants.{MAX_FIELDS, MAX_LINE_ENDS}
use Rattle.http_model.specs.Requests.{line_ends}
use Rattle.http_wire.proofs.PartLemmas.{front_of_same_parts, has_front, reads_all, fields_count}
use Rattle.http_wire.proofs.head.read_head.Goals as goal

pub returns-clause-front : goal.returns-clause-front
returns-clause-front c =
    let bytes = c.args.head.now in
    let found = rw c.in-Ok-Complete.field-0-is at c.in-Ok-Complete.ensures.complete in
    let few : nat_lt MAX_LINE_ENDS (line_ends bytes) ≡ false =
    let count = c.line_ends.ensures in grind (arith, nat_tests) in
    let fields = c.parse_request.new.headers in
    let spans = c.in-Ok-Complete.spans in
    let room : length fields ≤ MAX_FIELDS =
    let kept = c.parse_request.auto.headers in let given = c.requires in omega arith in
    has_front bytes found.0 c.judge_parts.result _ few (
      reads_all bytes fields spans found.0 found.1 c.if-spans-head.false,
      fields_count bytes fields spans found.0 MAX_FIELDS found.1 room,
    )
    (λ rest. front_of_same_parts found.0 c.of-name.result.now c.of-target.result.now spans.version _
    rest (c.of-name.ensures ∙ found.1.method) (c.of-target.ensures ∙ found.1.path)
    found.1.version found.1.fields)
    c.judge_parts.ensures.front
