-- Purges: what is refused, and what is planned.
use Rattle.std.proofs.Common.{◌≡◌, ◌&&◌, ℕ, true, false, not, nat_eq, List, [], length, Option, Some, Ok, Err, refl, sym, ap, subst, ◌∙◌, arith}
use Rattle.std.specs.Prelude.{filter}
use Rattle.std.proofs.lemmas.List.{append-nil}
use Rattle.site_types.specs.Content.{ContentValue}
use Rattle.site_types.specs.declared.body.Body.{Body}
use Rattle.site_types.specs.declared.command.Command.TheVariants as commands
use Rattle.site_types.specs.declared.refusal.Refusal.TheVariants.{NothingNew}
use Rattle.site_types.specs.declared.reply.Reply.TheVariants as replies
use Rattle.site_types.specs.declared.revision.Revision.{Revision}
use Rattle.tree_model.proofs.CountLemmas.{told_apart}
use Rattle.site_model.specs.World as worlds
use Rattle.site_model.specs.Bodies.{has_body}
use Rattle.site_model.specs.Losing.{suspects_of, shuts}
use Rattle.site_model.specs.Publishing.{needs_revision, is_purged, purged, purge_rules, purge}
use Rattle.site_model.specs.Step.{rules, step_by}
use Rattle.site_model.specs.Step as steps
use Rattle.site_model.specs.Views.{body_of}
use Rattle.site_model.proofs.LosingEnds.{ends_none}
use Rattle.flat_model.specs.Flat.{people_of, lists_of}
use Rattle.flat_model.specs.Made.{purge_left, revisions_left}
use Rattle.flat_model.specs.Single.{tree_change}
use Rattle.flat_model.specs.declared.change.Change.{Change}
use Rattle.flat_model.specs.declared.change.Purge.{Purge}
use Rattle.flat_model.specs.declared.change.TreeChange.TheVariants.{Nothing}
use Rattle.flat_model.proofs.ListLemmas.{lists_are, none_out, quiet_people}
use Rattle.site_part.specs.Plans.{HasPlan, left_by}
use Rattle.site_part.specs.declared.part.TreePart.{TreePart}
use Rattle.site_part.specs.declared.plan.Plan.{Plan}
use Rattle.site_part.proofs.StepLemmas.{own_refuses}
use Rattle.moderating.specs.Asked.{IsAsked}
use Rattle.moderating.specs.Plans.{ending_plan}
use Rattle.flow_edits.specs.Plans.{purge_of, taken}
use Rattle.moderating.proofs.Planned.{planned}
use Rattle.moderating.proofs.Steps.{part_left, none_end, ends_step}

-- what a purge changes
abbrev pub purge_change : ℕ → Body → ℕ → ℕ → ℕ → Change
purge_change page body time next_page next_revision =
    record (tree_change Nothing time next_page next_revision) { purge = Some (purge_of page body) }

module _ (kept : TreePart) (part : worlds.TreePart) (desk : Option ContentValue)
    (now caller page : ℕ) (asked : IsAsked kept part desk caller (commands.Purge page))
    (body : Body) (found : body_of part.tree page ≡ Some body) where
  -- the command's own rules, and what it does
  purge_own : rules part desk now caller (commands.Purge page) ≡ purge_rules part page
  unfolding rules
  purge_own = refl

  purge_done : steps.effect part desk now caller (commands.Purge page) ≡ purge part now page
  unfolding steps.effect
  purge_done = refl

  -- it ends no desk
  purge_ends : (left : worlds.TreePart) (told : worlds.Effect) →
      step_by part desk now caller (commands.Purge page) ≡ Ok (left, told) → told.ended ≡ []
  unfolding suspects_of shuts
  purge_ends left told is =
      ends_none part left told desk now caller (commands.Purge page)
      asked.given.ready.reached.sound refl refl is

  -- the revisions that go are those that the purge takes
  purged_is : purged part page ≡ taken (purge_of page body) part.revisions
  purged_is =
      ap (λ (o : Option Body). filter (λ (revision : Revision).
      nat_eq revision.page page && not (has_body (needs_revision revision.id) o)) part.revisions)
      found

  -- and those that stay are those that it leaves
  left_is : purge_left (Some (purge_of page body)) part.revisions
      ≡ filter (λ revision. not (is_purged part page revision)) part.revisions
  left_is =
      ap (λ (o : Option Body). filter (λ (revision : Revision). not
      (nat_eq revision.page page && not (has_body (needs_revision revision.id) o))) part.revisions)
      (sym found)

  -- how many go, by what is in memory
  count_is : (count : ℕ) → count ≡ length (taken (purge_of page body) kept.shelf.revisions) →
      count ≡ length (purged part page)
  count_is count is =
      is
      ∙ (ap (λ (all : List Revision). length (taken (purge_of page body) all))
      asked.given.ready.stands.revisions ∙ ap length (sym purged_is))

  -- none goes
  pub purge_idle : (count : ℕ) → count ≡ length (taken (purge_of page body) kept.shelf.revisions) →
      count ≡ 0 →
      step_by part desk now caller (commands.Purge page) ≡ Err NothingNew
  purge_idle count is none =
      let no : nat_eq (length (purged part page)) 0 ≡ true =
      ap (λ (n : ℕ). nat_eq n 0) (sym (count_is count is) ∙ none) in
      own_refuses part desk now caller (commands.Purge page) NothingNew asked.front
      (purge_own ∙ rw no refl)

  -- its plan
  pub purge_planned : (count : ℕ) →
      count ≡ length (taken (purge_of page body) kept.shelf.revisions) → (count ≡ 0 → ⊥) →
      (time : ℕ) → time ≡ worlds.time_at part now →
      HasPlan kept part desk now caller (commands.Purge page)
      (ending_plan (replies.Removed count) []
      (purge_change page body time kept.next_page kept.next_revision))
  purge_planned count is some time time_is =
      let ready = asked.given.ready in
      let change = purge_change page body time kept.next_page kept.next_revision in
      let after : worlds.TreePart = record part {
        time = worlds.time_at part now;
        revisions = filter (λ revision. not (is_purged part page revision)) part.revisions;
      } in
      let reply = replies.Removed (length (purged part page)) in
      let few : nat_eq (length (purged part page)) 0 ≡ false =
      ap (λ (n : ℕ). nat_eq n 0) (sym (count_is count is)) ∙ told_apart count 0 some in
      subst (λ (n : ℕ). HasPlan kept part desk now caller (commands.Purge page)
      (ending_plan (replies.Removed n) [] change)) (sym (count_is count is))
      (planned (commands.Purge page) kept part after desk now caller reply [] change ready
      (ends_step part desk now caller (commands.Purge page) after reply false asked.front
      (purge_own ∙ rw few refl) purge_done refl [] purge_ends (none_end part.desk_pairs))
      (record { tree = tt; bodies = tt; gone = tt; revisions = tt; people = tt; flows = tt })
      (lists_are (left_by (ending_plan reply [] change) (lists_of part))
      (lists_of (part_left after part.desk_pairs [])) refl
      (append-nil (purge_left (Some (purge_of page body)) (revisions_left [] part.revisions))
      ∙ (ap (purge_left (Some (purge_of page body)))
      (none_out (λ (revision : Revision). revision.page) part.revisions) ∙ left_is))
      (quiet_people (people_of part)) refl refl refl time_is ready.stands.next_page
      ready.stands.next_revision) (omega arith) (omega arith) (omega arith) (omega arith))

  -- a plan made of these is that
  pub purge_told : (count : ℕ) → count ≡ length (taken (purge_of page body) kept.shelf.revisions) →
      (count ≡ 0 → ⊥) → (time : ℕ) → time ≡ worlds.time_at part now → (purge : Purge) →
      purge ≡ purge_of page body → (change : Change) →
      change ≡ tree_change Nothing time kept.next_page kept.next_revision → (shut : List ℕ) →
      shut ≡ [] → (plan : Plan) →
      plan ≡ ending_plan (replies.Removed count) shut (record change { purge = Some purge }) →
      HasPlan kept part desk now caller (commands.Purge page) plan
  purge_told count is some time time_is purge purge_is change change_is shut shut_is plan plan_is =
      let same : plan ≡ ending_plan (replies.Removed count) []
      (purge_change page body time kept.next_page kept.next_revision) =
      plan_is
      ∙ (ap (λ (pages : List ℕ). ending_plan (replies.Removed count) pages
      (record change { purge = Some purge })) shut_is
      ∙ (ap (λ (one : Change). ending_plan (replies.Removed count) []
      (record one { purge = Some purge })) change_is
      ∙ ap (λ (one : Purge). ending_plan (replies.Removed count) []
      (record (tree_change Nothing time kept.next_page kept.next_revision) { purge = Some one }))
      purge_is)) in
      subst (λ (p : Plan). HasPlan kept part desk now caller (commands.Purge page) p) (sym same)
      (purge_planned count is some time time_is)
