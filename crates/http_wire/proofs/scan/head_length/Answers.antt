-- The search goes on after each byte that does not begin the end of the head.
use Rattle.std.proofs.Common.{◌∙◌, ◌+◌, sym, ap}
use Rattle.std.proofs.lemmas.Bool.{eq-eqb, ne_eqb}
use Rattle.std.proofs.lemmas.List.{take_rest}
use Rattle.http_model.specs.Requests.{line_end_length}
use Rattle.http_wire.proofs.ScanLemmas.{head_length-other, head_length-no_end}
use Rattle.http_wire.proofs.scan.head_length.Goals as goal

pub loop-i-preserved-then-bytes-i-ne10 : goal.loop-i-preserved-then-bytes-i-ne10
loop-i-preserved-then-bytes-i-ne10 c =
    sym (head_length-other c.args.bytes.now c.loop-i.i c.loop-i-test.true
    (ne_eqb _ _ c.if-bytes-i-ne10.true))
    ∙ c.loop-i.invariant

pub loop-i-preserved : goal.loop-i-preserved
loop-i-preserved c =
    let none = ap line_end_length (sym (take_rest c.args.bytes.now (c.loop-i.i + 1)))
    ∙ sym c.in_default.ensures in
    sym (head_length-no_end c.args.bytes.now c.loop-i.i c.loop-i-test.true
    (eq-eqb _ _ c.if-bytes-i-ne10.false) none)
    ∙ c.loop-i.invariant
