-- What all ids are gathered to is what those that are left are, put among those that are kept.
use Rattle.std.proofs.Common.{◌≡◌, [], drop}
use Rattle.wire_model.specs.Forms.{gathered}
use Rattle.api_routes.proofs.ids.gathered.Given as goal

abbrev pub invariant-loop-id : goal.invariant-loop-id
invariant-loop-id l = gathered [] l.ids ≡ gathered l.kept.items (drop l.id-index l.ids)
