-- The head is read from its bytes alone.
use Rattle.std.proofs.Common.{sym, drop}
use Rattle.std.proofs.lemmas.List.{length-take-le}
use Rattle.http_model.specs.Requests.{refused}
use Rattle.http_model.proofs.FrontLemmas.{head-fits}
use Rattle.http_wire.proofs.ReadingLemmas.{front_with_head}
use Rattle.http_wire.proofs.reader.look_behind.Goals as goal

pub slice_bounds-read_head-end : goal.slice_bounds-read_head-end
slice_bounds-read_head-end c =
    sym (length-take-le c.args.n c.args.bytes.now
    (head-fits c.args.bytes.now c.args.n c.requires.found))

pub returns-in-Err : goal.returns-in-Err
returns-in-Err c =
    let bytes = c.args.bytes.now in
    front_with_head bytes c.args.n (refused c.in-Err.status) c.requires.found
    (c.in-Err.ensures.front (drop c.args.n bytes))
