-- By whether the bytes of the body are there.
use Rattle.std.proofs.Common.{◌≡◌, ◌+◌, ◌-◌, sym, subst, take, drop, arith}
use Rattle.std.proofs.lemmas.List.{drop-drop}
use Rattle.http_model.specs.Requests.{whole, IsFront}
use Rattle.http_model.proofs.FrontLemmas.{head-first}
use Rattle.http_wire.specs.Reading.{Knows, with_body}
use Rattle.http_wire.proofs.ReadingLemmas.{part_of_body, knows_head, whole_of_body}
use Rattle.http_wire.proofs.reader.answer_or_wait.Goals as goal

pub overflow_add-end : goal.overflow_add-end
overflow_add-end c =
    let first = head-first c.args.bytes.now c.args.n c.requires.found in
    let small = c.requires.small in omega arith

pub returns-then-bytes-end : goal.returns-then-bytes-end
returns-then-bytes-end c =
    let bytes = c.args.bytes.now in let n = c.args.n in let head = c.args.head in (
      part_of_body bytes n head c.requires.found c.requires.front c.if-bytes-end.true,
      subst (λ k. Knows (record { scanned = k; wanted = n + head.length }) bytes)
          (sym c.saturating_sub.ensures)
          (knows_head bytes n head c.requires.found c.requires.front),
    )

pub returns : goal.returns
returns c =
    let bytes = c.args.bytes.now in let n = c.args.n in let head = c.args.head in
    let size : head.length ≡ (n + head.length) - n = omega arith in (
      c.if-bytes-end.false,
      subst (λ k. IsFront bytes
          (whole (with_body head (take k (drop n bytes))) (drop (n + head.length) bytes))) size
          (subst (λ rest. IsFront bytes
          (whole (with_body head (take head.length (drop n bytes))) rest))
          (drop-drop head.length n bytes)
          (whole_of_body bytes n head c.requires.found c.requires.front c.if-bytes-end.false)),
    )
