-- What the code's routes say of paths, in the words of the definition of routes.
use Rattle.std.specs.Prelude.{◌≡◌, ◌≤◌, ℕ, List, drop, length}
use Rattle.wire_model.specs.Routes as routes
use Rattle.wire_model.specs.Routes.{route_of, command_route, read_route}
use Rattle.api_routes.specs.declared.path.Route.{Route}
use Rattle.api_routes.specs.declared.path.Route.TheVariants.{Command, Read, Unbuilt, Nowhere, Public}
use Rattle.api_routes.specs.declared.router.Target.{Target}

-- the route that the code names so
abbrev pub route_meant : Route → routes.Route
route_meant (Command form) = routes.command form
route_meant (Read form text) = routes.read_named form text.now
route_meant Unbuilt = routes.unbuilt
route_meant Nowhere = routes.nowhere
route_meant Public = routes.public_page

-- a path leads where the router's target says
abbrev pub Leads : List ℕ → Target → Type 0
Leads path (Target.Command form) = route_of path ≡ command_route form
Leads path (Target.Read front form) =
    (front ≤ length path) × (route_of path ≡ read_route (drop front path) form)
