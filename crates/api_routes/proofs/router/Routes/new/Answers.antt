use Rattle.std.proofs.Common.{refl}
use Rattle.api_routes.specs.Router.{all_routes}
use Rattle.api_routes.proofs.router.Routes.new.Goals as goal

pub invariant_of-result : goal.invariant_of-result
unfolding all_routes
invariant_of-result c =
    rw (
      c.in_ok-add_reads.ensures,
      c.in_ok-add_commands.ensures,
      c.new-router.ensures,
    ) refl

pub returns : goal.returns
unfolding all_routes
returns c =
    rw (
      c.in_ok-add_reads.ensures,
      c.in_ok-add_commands.ensures,
      c.new-router.ensures,
    ) refl
