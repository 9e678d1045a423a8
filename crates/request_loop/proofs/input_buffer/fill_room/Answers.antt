use Rattle.std.proofs.Common.{[], ◌++◌, take, drop, refl, sym, ap, ◌∙◌, arith}
use Rattle.std.proofs.lemmas.List.{append-nil}
use Rattle.request_loop.proofs.BufferLemmas.{held_in-same, held_in-more, read_more}
use Rattle.request_loop.proofs.input_buffer.fill_room.Goals as goal

pub returns-in-Ok-clause-bytes : goal.returns-in-Ok-clause-bytes
returns-in-Ok-clause-bytes g c =
    read_more _ c.make_room-from.new.room c.read_behind.new.room c.make_room-from.result.0
    c.make_room-from.result.1 c.in-Ok.n _ _ c.make_room-from.ensures.same (omega arith) (omega
    arith) c.read_behind.ensures.front c.in-Ok.ensures.moved

pub returns-in-Err-clause-bytes : goal.returns-in-Err-clause-bytes
returns-in-Err-clause-bytes g c =
    let same = held_in-same c.make_room-from.new.room c.read_behind.new.room
    c.make_room-from.result.0 c.make_room-from.result.1 c.make_room-from.ensures.order
    c.read_behind.ensures.front in
    rw (same, c.make_room-from.ensures.same, c.in-Err.ensures.kept) refl

pub returns-in-Err-clause-err : goal.returns-in-Err-clause-err
returns-in-Err-clause-err g c =
    held_in-same c.make_room-from.new.room c.read_behind.new.room c.make_room-from.result.0
    c.make_room-from.result.1 c.make_room-from.ensures.order c.read_behind.ensures.front ∙
    c.make_room-from.ensures.same

pub returns-in-Ok-clause-grows : goal.returns-in-Ok-clause-grows
returns-in-Ok-clause-grows g c =
    let same = held_in-same c.make_room-from.new.room c.read_behind.new.room
    c.make_room-from.result.0 c.make_room-from.result.1 c.make_room-from.ensures.order
    c.read_behind.ensures.front ∙ c.make_room-from.ensures.same in
    let new = c.read_behind.new.room in
    let to = c.make_room-from.result.1 in (
      take c.in-Ok.n (drop to new),
      held_in-more new c.make_room-from.result.0 to c.in-Ok.n c.make_room-from.ensures.order
          (omega arith) ∙ ap (λ xs. xs ++ take c.in-Ok.n (drop to new)) same,
    )

pub returns-in-Err-clause-grows : goal.returns-in-Err-clause-grows
returns-in-Err-clause-grows g c =
    let same = held_in-same c.make_room-from.new.room c.read_behind.new.room
    c.make_room-from.result.0 c.make_room-from.result.1 c.make_room-from.ensures.order
    c.read_behind.ensures.front ∙ c.make_room-from.ensures.same in
    ([], same ∙ sym (append-nil _))
