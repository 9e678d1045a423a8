-- A path that is not UTF-8 is no path of commands.
use Rattle.std.proofs.Common.{List, ℕ, Option, ap, sym, ◌∙◌}
use Rattle.std.specs.Prelude.{unwrap_or}
use Rattle.wire_model.specs.Routes.{Route, beside}
use Rattle.api_routes.proofs.RouteLemmas.{bytes-route}
use Rattle.api_routes.proofs.path.route_of_bytes.Goals as goal

pub returns-in-Some : goal.returns-in-Some
returns-in-Some c =
    let path : List ℕ = c.args.path.now in
    ap (λ (o : Option Route). unwrap_or o (beside path)) c.in-Some.ensures
    ∙ sym (bytes-route path c.requires)

pub returns-in-None : goal.returns-in-None
returns-in-None c =
    let path : List ℕ = c.args.path.now in
    c.beside_routes.ensures
    ∙ ap (λ (o : Option Route). unwrap_or o (beside path)) c.in-None.ensures
    ∙ sym (bytes-route path c.requires)
