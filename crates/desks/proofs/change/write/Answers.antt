-- The text is written at the user's desk, or all stays.
use Rattle.std.proofs.Common.{◌≡◌, ◌∙◌, ◌<◌, ℕ, Bool, true, List, is_some, length, get_or, set, sym, ap, subst, arith}
use Rattle.site_types.specs.Content.{ContentValue}
use Rattle.site_types.specs.declared.world_rows.DeskRow.{DeskRow}
use Rattle.desks.specs.Desks.{PagesRise, text_in, place_in, with_text}
use Rattle.desks.proofs.AnswerLemmas.{not_some}
use Rattle.desks.proofs.DeskLemmas.{texts_stay}
use Rattle.desks.proofs.PlaceLemmas.{written_where_told}
use Rattle.desks.proofs.RiseLemmas.{texts_rise}
use Rattle.desks.proofs.change.write.Goals as goal

-- where the user has a desk on the page, its place is within the desks, and writing there rewrites it
written : (page user : ℕ) (desks slice other : List DeskRow) (place : ℕ) (own : Bool) →
    PagesRise desks → slice ≡ desks → place ≡ place_in page slice → other ≡ desks →
    own ≡ is_some (text_in page user other) → own ≡ true →
    (place < length desks) × ((text : ContentValue) (row : DeskRow) → row ≡ get_or desks place row →
    set desks place (record row { content = text }) ≡ with_text page user text desks)
written page user desks slice other place own rise same at same_too told is =
    written_where_told page desks place rise (at ∙ ap (place_in page) same) user
    (ap (λ all. is_some (text_in page user all)) (sym same_too) ∙ sym told ∙ is)

pub index_mut-requires : goal.index_mut-requires
index_mut-requires c =
    let it = written c.args.page c.args.user c.args.rows.now.items c.deref.result.now
    c.deref-2.result.now c.place_of-place.result c.is_own_at.result c.requires c.deref.ensures.value
    c.place_of-place.ensures c.deref-2.ensures.value c.is_own_at.ensures c.if-is_own_at.true in
    let within = it.0 in
    let same = ap length c.deref.ensures.value in
    let len = c.deref.ensures.len in omega arith

pub returns-then-is_own_at-clause-items : goal.returns-then-is_own_at-clause-items
returns-then-is_own_at-clause-items c =
    let it = written c.args.page c.args.user c.args.rows.now.items c.deref.result.now
    c.deref-2.result.now c.place_of-place.result c.is_own_at.result c.requires c.deref.ensures.value
    c.place_of-place.ensures c.deref-2.ensures.value c.is_own_at.ensures c.if-is_own_at.true in
    it.1 c.args.text c.index_mut.result.now c.index_mut.ensures.value

pub returns-then-is_own_at-clause-rise : goal.returns-then-is_own_at-clause-rise
returns-then-is_own_at-clause-rise c =
    let it = written c.args.page c.args.user c.args.rows.now.items c.deref.result.now
    c.deref-2.result.now c.place_of-place.result c.is_own_at.result c.requires c.deref.ensures.value
    c.place_of-place.ensures c.deref-2.ensures.value c.is_own_at.ensures c.if-is_own_at.true in
    subst PagesRise (sym (it.1 c.args.text c.index_mut.result.now c.index_mut.ensures.value)) (texts_rise
    c.args.page c.args.user c.args.text c.args.rows.now.items c.requires)

pub returns-else-is_own_at-clause-items : goal.returns-else-is_own_at-clause-items
returns-else-is_own_at-clause-items c =
    let none = not_some (text_in c.args.page c.args.user c.deref-2.result.now)
    (sym c.is_own_at.ensures ∙ c.if-is_own_at.false) in
    sym (texts_stay c.args.page c.args.user c.args.text c.args.rows.now.items (ap (text_in c.args.page
    c.args.user) (sym c.deref-2.ensures.value) ∙ none))
