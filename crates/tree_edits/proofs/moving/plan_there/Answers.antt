-- The refusals come in the order of the rules.
use Rattle.std.proofs.Common.{sym, ◌∙◌, subst}
use Rattle.site_model.specs.Rules.{first_of}
use Rattle.new_pages.specs.Moving.{there_rules, IsMovePlan}
use Rattle.new_pages.specs.Plans.{PlansBy}
use Rattle.tree_edits.proofs.MovePlans.{late_planned, taken_told, itself_refused, stays_refused, rows_named, away_is}
use Rattle.tree_edits.proofs.moving.plan_there.Goals as goal

pub returns-then-stays : goal.returns-then-stays
returns-then-stays c = λ part named.
    stays_refused c.args.rows.now.pages part c.args.page c.args.target c.args.position named
    (sym c.stays.ensures ∙ c.if-stays.true)

pub leads_into_itself-requires-clause-page_there :
    goal.leads_into_itself-requires-clause-page_there
leads_into_itself-requires-clause-page_there c =
    (rows_named c.args.rows.now.pages c.requires.0 c.args.page c.args.target c.args.position
    c.requires.1).0

pub leads_into_itself-requires-clause-target_there :
    goal.leads_into_itself-requires-clause-target_there
leads_into_itself-requires-clause-target_there c =
    (rows_named c.args.rows.now.pages c.requires.0 c.args.page c.args.target c.args.position
    c.requires.1).1

pub returns-then-leads_into_itself : goal.returns-then-leads_into_itself
returns-then-leads_into_itself c = λ part named.
    itself_refused part c.args.page c.args.target c.args.position
    (sym (c.leads_into_itself.ensures part.tree c.args.position named.stands
    (sym c.stays.ensures ∙ c.if-stays.false)) ∙ c.if-leads_into_itself.true)

pub urls_there-urls-requires : goal.urls_there-urls-requires
urls_there-urls-requires c = (
  c.requires.0,
  away_is c.args.rows.now.pages c.requires.0 c.args.page c.args.target c.args.position
      c.requires.1 (sym c.stays.ensures ∙ c.if-stays.false) c.leads_into_itself.result
      (c.leads_into_itself.ensures c.requires.0.tree c.args.position c.requires.1.stands)
      c.if-leads_into_itself.false,
)

pub returns-in-Some : goal.returns-in-Some
returns-in-Some c = λ part named.
    let away = away_is c.args.rows.now.pages part c.args.page c.args.target c.args.position named
    (sym c.stays.ensures ∙ c.if-stays.false) c.leads_into_itself.result
    (c.leads_into_itself.ensures part.tree c.args.position named.stands)
    c.if-leads_into_itself.false in
    taken_told part c.args.page c.args.target c.args.position c.args.rows.now.pages away
    c.in-Some.other c.urls_there-urls.result (sym c.taken.ensures ∙ c.in-Some.is)
    (c.urls_there-urls.ensures part away)

pub plan_move-plan-requires-clause-page_there : goal.plan_move-plan-requires-clause-page_there
plan_move-plan-requires-clause-page_there c =
    (rows_named c.args.rows.now.pages c.requires.0 c.args.page c.args.target c.args.position
    c.requires.1).0

pub plan_move-plan-requires-clause-target_there : goal.plan_move-plan-requires-clause-target_there
plan_move-plan-requires-clause-target_there c =
    (rows_named c.args.rows.now.pages c.requires.0 c.args.page c.args.target c.args.position
    c.requires.1).1

pub returns : goal.returns
returns c = λ part named.
    let away = away_is c.args.rows.now.pages part c.args.page c.args.target c.args.position named
    (sym c.stays.ensures ∙ c.if-stays.false) c.leads_into_itself.result
    (c.leads_into_itself.ensures part.tree c.args.position named.stands)
    c.if-leads_into_itself.false in
    subst (PlansBy (first_of (there_rules part.tree c.args.page c.args.target c.args.position))
    (IsMovePlan part.tree c.args.page c.args.target c.args.position)) (sym c.both.ensures)
    (late_planned part c.args.page c.args.target c.args.position c.args.rows.now.pages away
    c.plan_move-plan.result c.urls_there-urls.result (sym c.taken.ensures ∙ c.in_default.is)
    (c.plan_move-plan.ensures part.tree named.stands) (c.urls_there-urls.ensures part away))
