-- What the router finds is the route of the definition, for every path. Nothing here computes the
-- router: what holds of it follows from tests of each row of the two tables of routes.
use Rattle.std.proofs.Common.{◌≡◌, ℕ, ◌-◌, List, [], ◌∷◌, ◌++◌, map, length, take, drop, Option, Some, None, MatchOption, Result, Ok, Err, Bool, true, false, ◌&&◌, refl, sym, ap, ◌∙◌, subst, arith}
use Rattle.std.specs.Prelude.{bytes_eq, unwrap_or, option_map}
use Rattle.std.specs.List.{list_all}
use Rattle.std.specs.Option.{option_or}
use Rattle.std.specs.Str.{IsUtf8}
use Rattle.std.proofs.lemmas.List.{take_all, length-drop}
use Rattle.matchit.proofs.OnLiterals.{matchit_on_literals}
use Rattle.matchit.specs.Rows.{RowsOf}
use Rattle.matchit.specs.Order.{placed}
use Rattle.matchit.specs.Router.{RouteOf, InsertsRead}
use Rattle.matchit.specs.Route.{Scan, parse_route}
use Rattle.matchit.specs.declared.error.InsertError.{InsertError}
use Rattle.matchit.specs.Seek.{first}
use Rattle.wire_model.specs.declared.form.CommandForm.{CommandForm}
use Rattle.wire_model.specs.declared.form.ReadForm.{ReadForm}
use Rattle.wire_model.specs.Tables.{named}
use Rattle.wire_model.specs.Routes.{Route, command_routes, read_routes, command_route, read_route, read_at, beside, route_of, is_part, has_part_after}
use Rattle.api_routes.specs.Router.{with_read, with_commands, with_reads, all_routes}
use Rattle.api_routes.specs.Routing.{Leads}
use Rattle.api_routes.specs.declared.router.Target.{Target}
use Rattle.api_routes.specs.declared.router.Target.TheVariants.{Command, Read}
use Rattle.api_routes.specs.declared.router.TheConstants.{PARAMETER}
use Rattle.api_routes.proofs.Taking.{takes, is_literal, AllSimple, AllLead, NoneTakes}
use Rattle.api_routes.proofs.TakeLemmas.{seek-found}
use Rattle.api_routes.proofs.PlacedLemmas.{placed-simple, placed-lead, placed-none}
use Rattle.api_routes.proofs.PatternLemmas.{part_pattern, same-bytes, takes-literal, takes-front, literal-simple, front-simple, front-joined, front-fits, part-after, no-text, all_ascii}

-- the rows of the router
abbrev RouterRows : Type 0
RouterRows = RowsOf (RouteOf Target)

-- the rows of tables of routes
abbrev CommandRows : Type 0
CommandRows = List (List ℕ × Option CommandForm)

-- the rows of tables of reads
abbrev ReadRows : Type 0
ReadRows = List (List ℕ × Option ReadForm)

-- whether a text reads as this pattern
abbrev reads_as : Result Scan InsertError → List ℕ → Bool
reads_as (Ok scan) pattern = bytes_eq scan.pattern pattern
reads_as (Err fault) pattern = false

-- whether the path of a route of commands is a literal and reads as itself
abbrev is_command_row : List ℕ × Option CommandForm → Bool
is_command_row row = is_literal row.0 && reads_as (parse_route row.0) row.0

-- whether the front of a route of reads is a literal and reads with its parameter
abbrev is_read_row : List ℕ × Option ReadForm → Bool
is_read_row row =
    is_literal row.0 && reads_as (parse_route (row.0 ++ PARAMETER.now)) (part_pattern row.0)

-- each path of a route of commands is a literal
command-rows : list_all is_command_row command_routes ≡ true
unfolding matchit_on_literals
command-rows = refl

-- each front of a route of reads is one
read-rows : list_all is_read_row read_routes ≡ true
unfolding matchit_on_literals
read-rows = refl

-- each path of a route of commands leads to its commands
commands-right : map (λ row. route_of row.0) command_routes
    ≡ map (λ row. command_route row.1) command_routes
unfolding route_of
commands-right = refl

-- each front with a part after it leads to what is read of the page that the part names
reads-right : (part : List ℕ) → is_part part ≡ true →
    map (λ row. route_of (row.0 ++ part)) read_routes
    ≡ map (λ row. read_route part row.1) read_routes
unfolding route_of
reads-right part e = rw e refl

-- a path that is neither of the tables leads beside them
none-beside : (path : List ℕ) → read_at read_routes path ≡ None →
    named command_routes path ≡ None → route_of path ≡ beside path
unfolding route_of
none-beside path no_read no_command = rw (no_read, no_command) refl

-- a text that reads as a pattern adds a row of this pattern
row-added : (read : Result Scan InsertError) (pattern : List ℕ) (target : Target)
    (routes : RouterRows) → reads_as read pattern ≡ true →
    (route : RouteOf Target) × (route.value ≡ target)
    × (with_read read target routes ≡ placed (pattern, route) routes)
row-added (Ok scan) pattern target routes e =
    let same : scan.pattern ≡ pattern = same-bytes scan.pattern pattern e in (
      record {
        pattern = scan.pattern;
        text = scan.text;
        names = scan.names;
        value = target;
      },
      refl,
      rw same refl,
    )
row-added (Err fault) pattern target routes e = absurd (cc)

-- rows are simple and lead where they should
pub record AreGood (path : List ℕ) (rows : RouterRows) : Type 0 where
  pub simple : AllSimple rows
  pub lead : AllLead (λ route. Leads path route.value) path rows

-- the first and the others of a table's tests
split-test : (first others : Bool) → (first && others) ≡ true → (first ≡ true) × (others ≡ true)
split-test true others e = (refl, e)
split-test false others e = absurd (cc)

-- rows are good with those of a table of commands
commands-good : (path : List ℕ) (table : CommandRows) (rows : RouterRows) →
    list_all is_command_row table ≡ true →
    map (λ row. route_of row.0) table ≡ map (λ row. command_route row.1) table →
    AreGood path rows → AreGood path (with_commands table rows)
commands-good path [] rows test right good = good
commands-good path (row ∷ table) rows test right good =
    let tests = split-test (is_command_row row) (list_all is_command_row table) test in
    let both = split-test (is_literal row.0) (reads_as (parse_route row.0) row.0) tests.0 in
    let added = row-added (parse_route row.0) row.0 (Command row.1) rows both.1 in
    let here : route_of row.0 ≡ command_route row.1 = cc in
    let there : map (λ row. route_of row.0) table ≡ map (λ row. command_route row.1) table = cc in
    let leads : (takes row.0 path ≡ true → Leads path added.0.value) =
    λ taken. subst (Leads path) (sym added.1)
    (ap route_of (same-bytes path row.0 (sym (takes-literal row.0 path both.0) ∙ taken)) ∙ here) in
    commands-good path table (with_read (parse_route row.0) (Command row.1) rows) tests.1 there
    (subst (AreGood path) (sym added.2) (record {
      simple = placed-simple row.0 added.0 rows (literal-simple row.0 both.0) good.simple;
      lead = placed-lead (λ route. Leads path route.value) path row.0 added.0 rows leads good.lead;
    }))

-- where a path leads that has a part after a front
front-leads : (path front : List ℕ) (form : Option ReadForm) →
    ((part : List ℕ) → is_part part ≡ true → route_of (front ++ part) ≡ read_route part form) →
    has_part_after front path ≡ true → Leads path (Read (length front) form)
front-leads path front form right e = (
  front-fits front path e,
  ap route_of (front-joined front path e)
      ∙ right (drop (length front) path) (part-after front path e),
)

-- rows are good with those of a table of reads
reads-good : (path : List ℕ) (table : ReadRows) (rows : RouterRows) →
    list_all is_read_row table ≡ true →
    ((part : List ℕ) → is_part part ≡ true →
    map (λ row. route_of (row.0 ++ part)) table ≡ map (λ row. read_route part row.1) table) →
    AreGood path rows → AreGood path (with_reads table rows)
reads-good path [] rows test right good = good
reads-good path (row ∷ table) rows test right good =
    let tests = split-test (is_read_row row) (list_all is_read_row table) test in
    let both = split-test (is_literal row.0)
    (reads_as (parse_route (row.0 ++ PARAMETER.now)) (part_pattern row.0)) tests.0 in
    let target : Target = Read (length row.0) row.1 in
    let added = row-added (parse_route (row.0 ++ PARAMETER.now)) (part_pattern row.0) target rows
    both.1 in
    let here : ((part : List ℕ) → is_part part ≡ true →
    route_of (row.0 ++ part) ≡ read_route part row.1) = λ part e. first_of (right part e) in
    let there : ((part : List ℕ) → is_part part ≡ true →
    map (λ row. route_of (row.0 ++ part)) table ≡ map (λ row. read_route part row.1) table) =
    λ part e. others_of (right part e) in
    let leads : (takes (part_pattern row.0) path ≡ true → Leads path added.0.value) =
    λ taken. subst (Leads path) (sym added.1)
    (front-leads path row.0 row.1 here (sym (takes-front row.0 path both.0) ∙ taken)) in
    reads-good path table (with_read (parse_route (row.0 ++ PARAMETER.now)) target rows) tests.1
    there
    (subst (AreGood path) (sym added.2) (record {
      simple = placed-simple (part_pattern row.0) added.0 rows (front-simple row.0 both.0) good.simple;
      lead =
          placed-lead (λ route. Leads path route.value) path (part_pattern row.0) added.0 rows leads
          good.lead;
    }))
  where
    first_of : {r s : Route} {rs ss : List Route} → r ∷ rs ≡ s ∷ ss → r ≡ s
    first_of e = cc

    others_of : {r s : Route} {rs ss : List Route} → r ∷ rs ≡ s ∷ ss → rs ≡ ss
    others_of e = cc

-- what is not true is false
not-true : (v : Bool) → (v ≡ true → ⊥) → v ≡ false
not-true true never = absurd (never refl)
not-true false never = refl

-- a path that no row with those of a table of commands takes has no name there
commands-missing : (path : List ℕ) (table : CommandRows) (rows : RouterRows) →
    list_all is_command_row table ≡ true → NoneTakes path (with_commands table rows) →
    (named table path ≡ None) × NoneTakes path rows
commands-missing path [] rows test none = (refl, none)
commands-missing path (row ∷ table) rows test none =
    let tests = split-test (is_command_row row) (list_all is_command_row table) test in
    let both = split-test (is_literal row.0) (reads_as (parse_route row.0) row.0) tests.0 in
    let added = row-added (parse_route row.0) row.0 (Command row.1) rows both.1 in
    let later = commands-missing path table (with_read (parse_route row.0) (Command row.1) rows)
    tests.1 none in
    let here = placed-none path row.0 added.0 rows (subst (NoneTakes path) added.2 later.1) in
    let other : bytes_eq path row.0 ≡ false =
    sym (takes-literal row.0 path both.0) ∙ not-true (takes row.0 path) here.0 in
    (rw other (later.0), here.1)

-- a path that no row with those of a table of reads takes is no route of reads
reads-missing : (path : List ℕ) (table : ReadRows) (rows : RouterRows) →
    list_all is_read_row table ≡ true → NoneTakes path (with_reads table rows) →
    (read_at table path ≡ None) × NoneTakes path rows
reads-missing path [] rows test none = (refl, none)
reads-missing path (row ∷ table) rows test none =
    let tests = split-test (is_read_row row) (list_all is_read_row table) test in
    let both = split-test (is_literal row.0)
    (reads_as (parse_route (row.0 ++ PARAMETER.now)) (part_pattern row.0)) tests.0 in
    let target : Target = Read (length row.0) row.1 in
    let added = row-added (parse_route (row.0 ++ PARAMETER.now)) (part_pattern row.0) target rows
    both.1 in
    let later = reads-missing path table
    (with_read (parse_route (row.0 ++ PARAMETER.now)) target rows) tests.1 none in
    let here = placed-none path (part_pattern row.0) added.0 rows
    (subst (NoneTakes path) added.2 later.1) in
    let other : has_part_after row.0 path ≡ false =
    sym (takes-front row.0 path both.0) ∙ not-true (takes (part_pattern row.0) path) here.0 in
    (rw other (later.0), here.1)

-- what the rows of the tables make is the router
routes-are : all_routes ≡ with_reads read_routes (with_commands command_routes [])
unfolding all_routes
routes-are = refl

-- the rows of the router are good
routes-good : (path : List ℕ) → AreGood path all_routes
routes-good path =
    subst (AreGood path) (sym routes-are)
    (reads-good path read_routes (with_commands command_routes []) read-rows reads-right
    (commands-good path command_routes [] command-rows commands-right
    (record { simple = tt; lead = tt })))

-- a path that no row of the router takes leads beside the routes
routes-missing : (path : List ℕ) → NoneTakes path all_routes → route_of path ≡ beside path
routes-missing path none =
    let reads = reads-missing path read_routes (with_commands command_routes []) read-rows
    (subst (NoneTakes path) routes-are none) in
    let commands = commands-missing path command_routes [] command-rows reads.1 in
    none-beside path reads.0 commands.0

-- What the router finds leads where its target says. Where it finds nothing, the path leads beside
-- the routes.
first-leads : (path : List ℕ) →
    MatchOption (first all_routes path) (route_of path ≡ beside path)
    (λ route. Leads path route.value)
first-leads path =
    by (first all_routes path)
    (seek-found (λ route. Leads path route.value) path all_routes (routes-good path).simple
    (routes-good path).lead)
  where
    by : (o : Option (RouteOf Target)) →
        MatchOption o (NoneTakes path all_routes) (λ route. Leads path route.value) →
        MatchOption o (route_of path ≡ beside path) (λ route. Leads path route.value)
    by None none = routes-missing path none
    by (Some route) leads = leads

-- what the router finds leads where its target says
pub found-leads : (path : List ℕ) (route : RouteOf Target) → first all_routes path ≡ Some route →
    Leads path route.value
found-leads path route e = rw e at (first-leads path)

-- if the router finds nothing, the path leads beside the routes
pub missing-beside : (path : List ℕ) → first all_routes path ≡ None → route_of path ≡ beside path
missing-beside path e = rw e at (first-leads path)

-- the paths of the routes of commands are ASCII
commands-ascii : list_all (λ row. all_ascii row.0) command_routes ≡ true
commands-ascii = refl

-- a path that is not UTF-8 is not named by a table of ASCII texts
none-named : (path : List ℕ) (table : CommandRows) → (IsUtf8 path → ⊥) →
    list_all (λ row. all_ascii row.0) table ≡ true → named table path ≡ None
none-named path [] bad e = refl
none-named path (row ∷ table) bad e =
    let tests = split-test (all_ascii row.0) (list_all (λ row. all_ascii row.0) table) e in
    rw (no-text path row.0 bad tests.0) (none-named path table bad tests.1)

-- a path that is not UTF-8 leads to a route of reads or beside the routes
pub bytes-route : (path : List ℕ) → (IsUtf8 path → ⊥) →
    route_of path ≡ unwrap_or (read_at read_routes path) (beside path)
unfolding route_of
bytes-route path bad =
    rw (none-named path command_routes bad commands-ascii) (by (read_at read_routes path))
  where
    by : (o : Option Route) →
        unwrap_or (option_or o (option_map command_route None)) (beside path)
        ≡ unwrap_or o (beside path)
    by (Some route) = refl
    by None = refl

-- what an insert leaves that is not refused
pub inserted : (scan : Result Scan InsertError) (target : Target)
    (old new : RouterRows) →
    InsertsRead scan target old new (Ok tt) → new ≡ with_read scan target old
inserted (Ok scan) target old new h = h.1
inserted (Err fault) target old new h = h.0

-- the rest of a list after a front, as a slice has it
pub rest-whole : (n : ℕ) (xs : List ℕ) → drop n xs ≡ take (length xs - n) (drop n xs)
rest-whole n xs = sym (take_all (length xs - n) (drop n xs) (omega (arith, length-drop {A = ℕ})))
