-- `jiff` has the date and the time exactly where the civil second exists, and its instant is the
-- moment.
use Rattle.std.proofs.Common.{◌≡◌, true, false, refl}
use Rattle.time_table.specs.Parts.{civil_of}
use Rattle.time_table.proofs.WrittenLemmas.{datetime_of_written, instant_in_range, second_of_instant, cast_moment, moment_can_be_cast, given_for_civil}
use Rattle.time_table.proofs.civil.moment_at.Goals as goal

pub unreachable-requires : goal.unreachable-requires
unreachable-requires c =
    let civil = civil_of c.args.parts.now in
    let found = datetime_of_written civil c.in-Ok.civil c.requires c.if-parts-lt-FIRST_YEAR.false
    c.if-parts-gt-LAST_YEAR.false (c.in-Ok.ensures.succeeds.0 refl) c.in-Ok.ensures.value in
    let given : false ≡ true =
    c.in_default-to_timestamp.ensures.succeeds.1 (instant_in_range civil _ found.0 found.1) in
    cc

pub overflow_cast-as_second : goal.overflow_cast-as_second
overflow_cast-as_second c =
    let civil = civil_of c.args.parts.now in
    let found = datetime_of_written civil c.in-Ok.civil c.requires c.if-parts-lt-FIRST_YEAR.false
    c.if-parts-gt-LAST_YEAR.false (c.in-Ok.ensures.succeeds.0 refl) c.in-Ok.ensures.value in
    let is = second_of_instant civil _ _ c.as_second.result found.1
    c.in-Ok-to_timestamp.ensures.value c.as_second.ensures in
    moment_can_be_cast c.as_second.result civil found.0 is

pub returns : goal.returns
returns c =
    let civil = civil_of c.args.parts.now in
    let found = datetime_of_written civil c.in-Ok.civil c.requires c.if-parts-lt-FIRST_YEAR.false
    c.if-parts-gt-LAST_YEAR.false (c.in-Ok.ensures.succeeds.0 refl) c.in-Ok.ensures.value in
    let is = second_of_instant civil _ _ c.as_second.result found.1
    c.in-Ok-to_timestamp.ensures.value c.as_second.ensures in
    given_for_civil c.new-2.result civil _ found.0
    (cast_moment c.as_second.result civil found.0 is) c.new-2.ensures
