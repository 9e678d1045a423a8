-- The desk goes in at its page's place.
use Rattle.std.proofs.Common.{◌≡◌, ◌∙◌, ℕ, List, None, insert, sym, ap, subst, arith}
use Rattle.site_types.specs.declared.world_rows.DeskRow.{DeskRow}
use Rattle.desks.specs.Desks.{PagesRise, desk_in, with_desk, place_in}
use Rattle.desks.proofs.PlaceLemmas.{place_within, put_at_place}
use Rattle.desks.proofs.RiseLemmas.{one_more_rises}
use Rattle.desks.proofs.change.put.Goals as goal

-- what is inserted at the place is put in its place
put_is : (row : DeskRow) (desks slice : List DeskRow) (place : ℕ) → desk_in row.page desks ≡ None →
    slice ≡ desks → place ≡ place_in row.page slice → insert desks place row ≡ with_desk row desks
put_is row desks slice place free same at =
    ap (λ n. insert desks n row) (at ∙ ap (place_in row.page) same) ∙ put_at_place row desks free

pub insert-requires : goal.insert-requires
insert-requires c =
    let at = c.place_of-place.ensures in
    let within = place_within c.args.row.page c.deref.result.now in
    let len = c.deref.ensures.len in omega arith

pub returns-clause-items : goal.returns-clause-items
returns-clause-items c =
    c.in-Ok.ensures.items ∙ put_is c.args.row c.args.rows.now.items c.deref.result.now
    c.place_of-place.result c.requires.free c.deref.ensures.value c.place_of-place.ensures

pub returns-clause-rise : goal.returns-clause-rise
returns-clause-rise c =
    subst PagesRise (sym (c.in-Ok.ensures.items ∙ put_is c.args.row c.args.rows.now.items
    c.deref.result.now c.place_of-place.result c.requires.free c.deref.ensures.value
    c.place_of-place.ensures)) (one_more_rises c.args.row c.args.rows.now.items c.requires.free
    c.requires.rise)
