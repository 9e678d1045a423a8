-- An id comes after those that are passed, at its place among those that are left.
use Rattle.std.proofs.Common.{◌≡◌, ◌++◌, take, drop, option_map}
use Rattle.wire_model.specs.Forms.{placed}
use Rattle.api_routes.proofs.ids.place_of.Given as goal

abbrev pub invariant-loop-at : goal.invariant-loop-at
invariant-loop-at l =
    placed l.id l.kept ≡ option_map (λ more. take l.at l.kept ++ more) (placed l.id (drop l.at l.kept))
