-- The desk at the page's place goes, if the page has one.
use Rattle.std.proofs.Common.{◌≡◌, ◌∙◌, ◌<◌, ℕ, List, Option, Some, None, not, nat_eq, cond, is_some, length, remove, sym, ap, subst, arith}
use Rattle.site_types.specs.declared.world_rows.DeskRow.{DeskRow}
use Rattle.desks.specs.Desks.{PagesRise, desk_in, place_in, without}
use Rattle.desks.proofs.AnswerLemmas.{told_some, told_none, not_some}
use Rattle.desks.proofs.DeskLemmas.{none_there, none_goes}
use Rattle.desks.proofs.PlaceLemmas.{taken_where_told}
use Rattle.desks.proofs.RiseLemmas.{some_rise}
use Rattle.desks.proofs.change.take_out.Goals as goal

-- a place that is told is within the desks, and removing it takes the page's desk out
taken : (page : ℕ) (desks slice : List DeskRow) (place : ℕ) → PagesRise desks → slice ≡ desks →
    ◌≡◌ {A = Option ℕ} (Some place)
    (cond (is_some (desk_in page slice)) (Some (place_in page slice)) None) →
    (place < length slice) × (remove desks place ≡ without page desks)
taken page desks slice place rise same told =
    let there = told_some (is_some (desk_in page slice)) place (place_in page slice) told in
    let it = taken_where_told page slice place (subst PagesRise (sym same) rise) (there.1) (there.0) in
    (it.0, ap (λ all. remove all place) (sym same) ∙ it.1 ∙ ap (without page) same)

-- where no place is told, none is on the page
stays : (page : ℕ) (desks slice : List DeskRow) → slice ≡ desks →
    ◌≡◌ {A = Option ℕ} None
    (cond (is_some (desk_in page slice)) (Some (place_in page slice)) None) →
    desks ≡ without page desks
stays page desks slice same told =
    let none = not_some (desk_in page slice) (told_none (is_some (desk_in page slice)) (place_in page
    slice) told) in
    sym (none_goes page desks (none_there page desks (ap (desk_in page) (sym same) ∙ none)))

pub remove-requires : goal.remove-requires
remove-requires c =
    let it = taken c.args.page c.args.rows.now.items c.deref.result.now c.in-Some.place c.requires
    c.deref.ensures.value c.in-Some.ensures in
    let within = it.0 in
    let len = c.deref.ensures.len in omega arith

pub returns-in-Some-clause-items : goal.returns-in-Some-clause-items
returns-in-Some-clause-items c =
    let it = taken c.args.page c.args.rows.now.items c.deref.result.now c.in-Some.place c.requires
    c.deref.ensures.value c.in-Some.ensures in c.remove.ensures.items ∙ it.1

pub returns-in-Some-clause-rise : goal.returns-in-Some-clause-rise
returns-in-Some-clause-rise c =
    let it = taken c.args.page c.args.rows.now.items c.deref.result.now c.in-Some.place c.requires
    c.deref.ensures.value c.in-Some.ensures in
    subst PagesRise (sym (c.remove.ensures.items ∙ it.1)) (some_rise (λ (desk : DeskRow). not (nat_eq
    desk.page c.args.page)) c.args.rows.now.items c.requires)

pub returns-in-None-clause-items : goal.returns-in-None-clause-items
returns-in-None-clause-items c =
    stays c.args.page c.args.rows.now.items c.deref.result.now c.deref.ensures.value c.in-None.ensures
