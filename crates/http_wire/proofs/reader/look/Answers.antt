-- The end of the head is looked for in the first bytes.
use Rattle.std.proofs.Common.{◌≡◌, ◌∙◌, ℕ, List, sym, ap, min, length, take, drop, arith}
use Rattle.std.proofs.lemmas.List.{take_min}
use Rattle.http_model.specs.Requests.{head_length}
use Rattle.http_wire.specs.Scanning.{counted_from}
use Rattle.http_wire.proofs.reader.look.Goals as goal

-- the first bytes, or all where there are fewer
window_is : (bytes : List ℕ) (k : ℕ) → k ≡ min (length bytes) 16384 →
    take k bytes ≡ take 16384 bytes
window_is bytes k is =
    let same : k ≡ min 16384 (length bytes) = omega arith in
    ap (λ m. take m bytes) same ∙ take_min 16384 bytes

pub head_length-requires : goal.head_length-requires
head_length-requires c =
    let within = c.requires.within in
    let same = ap length (window_is c.args.bytes.now c.min.result c.min.ensures) in
    omega arith

pub wait_for_head-requires : goal.wait_for_head-requires
wait_for_head-requires c =
    let bytes = c.args.bytes.now in
    c.requires.search
    ∙ (ap (λ xs. counted_from c.args.scanned (head_length (drop c.args.scanned xs)))
    (sym (window_is bytes c.min.result c.min.ensures))
    ∙ sym c.in_default.ensures)

pub look_behind-requires-clause-found : goal.look_behind-requires-clause-found
look_behind-requires-clause-found c =
    let bytes = c.args.bytes.now in
    c.requires.search
    ∙ (ap (λ xs. counted_from c.args.scanned (head_length (drop c.args.scanned xs)))
    (sym (window_is bytes c.min.result c.min.ensures))
    ∙ sym c.in-Some.ensures)
