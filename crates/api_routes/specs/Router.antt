-- The routes that the router has, as it keeps them.
use Rattle.std.specs.Prelude.{ℕ, List, [], ◌∷◌, ◌++◌, length, Option, Result, Ok, Err}
use Rattle.matchit.specs.Rows.{RowsOf}
use Rattle.matchit.specs.Order.{placed}
use Rattle.matchit.specs.Route.{Scan, parse_route}
use Rattle.matchit.specs.Router.{RouteOf, route_from}
use Rattle.matchit.specs.declared.error.InsertError.{InsertError}
use Rattle.wire_model.specs.declared.form.CommandForm.{CommandForm}
use Rattle.wire_model.specs.declared.form.ReadForm.{ReadForm}
use Rattle.wire_model.specs.Routes.{command_routes, read_routes}
use Rattle.api_routes.specs.declared.router.Target.{Target}
use Rattle.api_routes.specs.declared.router.Target.TheVariants.{Command, Read}
use Rattle.api_routes.specs.declared.router.TheConstants.{PARAMETER}

-- the routes with one more, if its text reads well
abbrev pub with_read : Result Scan InsertError → Target → RowsOf (RouteOf Target) →
    RowsOf (RouteOf Target)
with_read (Ok scan) target routes = placed (scan.pattern, route_from scan target) routes
with_read (Err fault) target routes = routes

-- the routes with one more, of this text
abbrev pub with_route : List ℕ → Target → RowsOf (RouteOf Target) → RowsOf (RouteOf Target)
with_route text target routes = with_read (parse_route text) target routes

-- the routes with those of commands of a table
abbrev pub with_commands : List (List ℕ × Option CommandForm) → RowsOf (RouteOf Target) →
    RowsOf (RouteOf Target)
with_commands [] routes = routes
with_commands (row ∷ table) routes = with_commands table (with_route row.0 (Command row.1) routes)

-- the routes with those of reads of a table
abbrev pub with_reads : List (List ℕ × Option ReadForm) → RowsOf (RouteOf Target) →
    RowsOf (RouteOf Target)
with_reads [] routes = routes
with_reads (row ∷ table) routes =
    with_reads table (with_route (row.0 ++ PARAMETER.now) (Read (length row.0) row.1) routes)

-- every route
unfoldable pub all_routes : RowsOf (RouteOf Target)
all_routes = with_reads read_routes (with_commands command_routes [])
