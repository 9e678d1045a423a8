-- A content stands at the front exactly where one is read.
use Rattle.std.proofs.Common.{ℕ, ◌-◌, length, ap, arith}
use Rattle.content_codec.proofs.Readings.{AreBytes}
use Rattle.content_codec.proofs.Contents.{content_reading}
use Rattle.content_codec.proofs.Fronts.{left_is_less, is_at_front, none_is_at_front}
use Rattle.content_codec.proofs.content.read_content_bytes.Goals as goal

pub overflow_sub-result : goal.overflow_sub-result
overflow_sub-result c =
    let are : AreBytes c.args.bytes.now = λ i. omega (arith, c.type_inv.bytes i) in
    let less = left_is_less content_reading c.args.bytes.now c.in-Ok.content c.content.new.self are
    (rw c.new-reader.ensures at c.in-Ok.ensures) in
    omega (arith, less, c.left.ensures)

pub returns-in-Ok : goal.returns-in-Ok
returns-in-Ok c =
    let are : AreBytes c.args.bytes.now = λ i. omega (arith, c.type_inv.bytes i) in
    is_at_front content_reading c.args.bytes.now c.in-Ok.content c.content.new.self _ are
    (rw c.new-reader.ensures at c.in-Ok.ensures)
    (ap (λ (n : ℕ). length c.args.bytes.now - n) c.left.ensures)

pub returns-in-Err-NoForm : goal.returns-in-Err-NoForm
returns-in-Err-NoForm c =
    none_is_at_front content_reading c.args.bytes.now
    (rw (c.new-reader.ensures, c.in-Err-NoForm.field-0-is) at c.in-Err-NoForm.ensures)
