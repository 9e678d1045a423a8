-- The rules on an alias, and its plan.
use Rattle.std.proofs.Common.{◌≡◌, ◌≤◌, ℕ, max, List, [], ◌∷◌, Option, Some, None, Err, refl, ap, ◌∙◌, arith}
use Rattle.page_tree.specs.Rows.{rows_of}
use Rattle.site_ids.specs.Moment.{IsMoment}
use Rattle.site_ids.specs.declared.ids.TheConstants.{LAST_PAGE_ID}
use Rattle.site_types.specs.Content.{ContentValue}
use Rattle.site_types.specs.declared.body.Body.{Body}
use Rattle.site_types.specs.declared.command.Command.TheVariants.{Alias}
use Rattle.site_types.specs.declared.refusal.Refusal.{Refusal}
use Rattle.site_types.specs.declared.refusal.Refusal.TheVariants.{IdsFull}
use Rattle.site_types.specs.declared.revision.Revision.{Revision}
use Rattle.page_store.specs.Pages.{ArePages}
use Rattle.site_model.specs.World as worlds
use Rattle.site_model.specs.Aliases.{source_of, alias_body, with_alias, alias_rules}
use Rattle.site_model.specs.Create.{page_reply}
use Rattle.site_model.specs.Rules.{slug_taken, steps_full, too_deep, url_too_long, ids_full}
use Rattle.flat_model.proofs.ListLemmas.{quiet_revisions}
use Rattle.site_part.specs.Plans.{HasPlan}
use Rattle.site_part.specs.Standing.{IsSame}
use Rattle.site_part.specs.declared.fault.Fault.{Fault}
use Rattle.site_part.specs.declared.fault.Fault.TheVariants.{Refused, Memory}
use Rattle.site_part.specs.declared.part.TreePart.{TreePart}
use Rattle.site_part.specs.declared.plan.Plan.{Plan}
use Rattle.new_pages.specs.Aliasing.{newcomer_refusal, IsNewAlias}
use Rattle.new_pages.specs.declared.aliasing.NewAlias.{NewAlias}
use Rattle.new_pages.specs.Making.{with_page, IsPlace, place_refusal, newcomer_plan}
use Rattle.new_pages.specs.Plans.{PlansBy, IsAsked}
use Rattle.new_pages.proofs.CommandLemmas.{alias_names, alias_own, alias_done, alias_desk, alias_quiet}
use Rattle.new_pages.proofs.NewcomerLemmas.{newcomer_planned}
use Rattle.new_pages.proofs.QuietPlans.{IsQuiet}
use Rattle.new_pages.proofs.RuleLemmas.{front_refused, front_passed}

module _ (part : worlds.TreePart) (parent : ℕ) (slug : List ℕ) (body : Body) where
  -- the rules on the place
  abbrev place_rules : List (Option Refusal)
  place_rules =
      let rows = rows_of (with_page part.tree part.next_page parent slug body) in
      slug_taken part.tree parent slug ∷ steps_full rows ∷ too_deep rows ∷ url_too_long rows ∷ []

  -- what is told of the place
  abbrev place_told : Option Refusal
  place_told = place_refusal part.tree part.next_page parent slug body

  -- the rule on the id
  abbrev id_rule : Option Refusal
  id_rule = ids_full LAST_PAGE_ID part.next_page

  -- a place that is refused
  pub place_refuses : (fault : Fault) → PlansBy place_told (IsPlace part.tree parent slug) (Err fault) →
      PlansBy (newcomer_refusal part parent slug body) (IsNewAlias part parent slug) (Err fault)
  place_refuses (Refused refusal) is = front_refused place_rules (id_rule ∷ []) refusal is
  place_refuses Memory is = tt

  -- no id is left
  pub ids_refuse : place_told ≡ None → id_rule ≡ Some IdsFull →
      newcomer_refusal part parent slug body ≡ Some IdsFull
  ids_refuse clear full = front_passed place_rules (id_rule ∷ []) clear ∙ rw full refl

  -- nothing is in the way
  pub alias_clear : place_told ≡ None → id_rule ≡ None →
      newcomer_refusal part parent slug body ≡ None
  alias_clear clear free = front_passed place_rules (id_rule ∷ []) clear ∙ rw free refl

module _ (kept : TreePart) (part : worlds.TreePart) (desk : Option ContentValue)
    (now caller source parent : ℕ) (slug : List ℕ)
    (asked : IsAsked kept part caller (Alias source parent slug)) (moment : IsMoment now)
    (are : ArePages kept.rows.pages) (made : NewAlias)
    (clear : alias_rules part now caller source parent slug ≡ None)
    (new : IsNewAlias part parent slug made) where
  -- the world with the alias
  abbrev after : worlds.TreePart
  after = with_alias part now caller source parent slug

  -- the command, with what it does
  quiet : IsQuiet part desk now caller (Alias source parent slug) after
      (page_reply part.next_page after.tree)
  quiet =
      let ends = alias_quiet source parent slug in record {
        clear = alias_own part desk now caller source parent slug ∙ clear;
        own = alias_desk source parent slug;
        done = alias_done part desk now caller source parent slug;
        desks = refl;
        suspects = ends.0;
        shut = ends.1;
      }

  -- its plan can be committed where room was made
  pub alias_planned : (room : TreePart) (own : Body) (time number : ℕ) (none : List Revision)
      (plan : Plan) → IsSame kept room → 1 ≤ room.rows.spare →
      own ≡ alias_body caller (source_of part source) → time ≡ max kept.time now →
      number ≡ kept.next_revision → none ≡ [] →
      plan ≡ newcomer_plan (record { id = made.page; place = made.place; body = own }) slug none
      time number →
      HasPlan room part desk now caller (Alias source parent slug) plan
  alias_planned room own time number none plan same rows own_is time_is number_is none_is is =
      newcomer_planned kept part desk now caller parent slug
      (alias_body caller (source_of part source)) [] part.revisions part.next_revision
      (Alias source parent slug) asked moment are made.place new.place
      (alias_names part caller source parent slug asked.front).1
      (record { fit = tt; all_are = quiet_revisions part.revisions }) (refl, refl) quiet room
      (record { id = made.page; place = made.place; body = own }) none time number plan same rows
      (omega arith)
      (ap (λ n. record { id = n; place = made.place; body = own }) new.page
      ∙ ap (λ b. record { id = part.next_page; place = made.place; body = b }) own_is)
      none_is (time_is ∙ ap (λ t. max t now) asked.ready.stands.time)
      (number_is ∙ asked.ready.stands.next_revision) is
