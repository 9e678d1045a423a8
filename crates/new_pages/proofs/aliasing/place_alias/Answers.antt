-- The place is tried, and then the id.
use Rattle.new_pages.proofs.AliasLemmas.{place_refuses, ids_refuse, alias_clear}
use Rattle.new_pages.proofs.aliasing.place_alias.Goals as goal

pub plan_place-requires : goal.plan_place-requires
plan_place-requires c =
    let ready = c.requires.1 in
    (c.requires.0, ready.stands.pages, ready.reached.sound.pages, c.requires.2)

pub returns-in-Err : goal.returns-in-Err
returns-in-Err c = λ world body ready there.
    place_refuses world c.args.parent c.args.slug.now body c.in-Err.fault
    (c.in-Err.ensures world body ready.stands.pages ready.reached.sound.pages there)

pub returns-in-Some : goal.returns-in-Some
returns-in-Some c = λ world body ready there.
    let place = c.in-Ok.ensures world body ready.stands.pages ready.reached.sound.pages there in
    let id = c.in-Some.ensures world ready in (
      alias_clear world c.args.parent c.args.slug.now body place.0 id.0,
      record { place = place.1; page = id.1 },
    )

pub returns-in-None : goal.returns-in-None
returns-in-None c = λ world body ready there.
    let place = c.in-Ok.ensures world body ready.stands.pages ready.reached.sound.pages there in
    ids_refuse world c.args.parent c.args.slug.now body place.0 (c.in-None.ensures world ready)
