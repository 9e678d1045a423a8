-- What is remembered holds of these bytes, and of them with more after.
use Rattle.std.proofs.Common.{◌<◌, length, subst, sym}
use Rattle.http_wire.specs.Reading.{Scan, Knows}
use Rattle.http_wire.proofs.ReadingLemmas.{knows_more, search_here, short_here}
use Rattle.http_wire.proofs.reader.RequestReader.next.Goals as goal

pub returns-then-bytes-self-clause-front : goal.returns-then-bytes-self-clause-front
returns-then-bytes-self-clause-front c =
    let bytes = c.args.bytes.now in
    short_here c.args.self.now bytes c.requires
    (subst (λ (scan : Scan). length bytes < scan.wanted) c.self.view_is c.if-bytes-self.true)

pub returns-then-bytes-self-clause-knows : goal.returns-then-bytes-self-clause-knows
returns-then-bytes-self-clause-knows c =
    λ more. knows_more c.args.self.now c.args.bytes.now more c.requires

pub look-requires-clause-search : goal.look-requires-clause-search
look-requires-clause-search c =
    let bytes = c.args.bytes.now in
    search_here _ bytes (subst (λ (scan : Scan). Knows scan bytes) (sym c.self.view_is) c.requires)

pub returns-in-Wait-clause-knows : goal.returns-in-Wait-clause-knows
returns-in-Wait-clause-knows c =
    λ more. knows_more _ c.args.bytes.now more c.in-Wait.ensures.1
