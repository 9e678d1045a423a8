-- Ticks: what is refused, and what is planned.
use Rattle.std.proofs.Common.{◌≡◌, ◌&&◌, ◌==◌, ℕ, Bool, true, false, List, [], length, Option, None, Ok, Err, refl, sym, ap, subst, ◌∙◌, arith}
use Rattle.std.proofs.lemmas.List.{length-map}
use Rattle.page_tree.specs.Rows.{rows_of}
use Rattle.site_types.specs.Content.{ContentValue}
use Rattle.site_types.specs.declared.body.Body.{Body}
use Rattle.site_types.specs.declared.command.Command.TheVariants as commands
use Rattle.site_types.specs.declared.refusal.Refusal.TheVariants.{NothingNew}
use Rattle.site_types.specs.declared.reply.Reply.{Reply}
use Rattle.site_types.specs.declared.reply.Reply.TheVariants.{Ticked}
use Rattle.site_types.specs.declared.revision.Revision.{Revision}
use Rattle.site_model.specs.World as worlds
use Rattle.site_model.specs.Losing.{suspects_of, shuts}
use Rattle.site_model.specs.Rules.{refused_if}
use Rattle.site_model.specs.Step.{rules, step_by}
use Rattle.site_model.specs.Step as steps
use Rattle.site_model.specs.Ticks.{DuePage, Due, due_at, is_idle, pages_due, gone_live, each_changed, expiries, go_lives, with_expired, tick_rules, tick}
use Rattle.site_model.proofs.LosingEnds.{ends_none}
use Rattle.page_store.specs.Pages.{Page}
use Rattle.flat_model.specs.Flat.{people_of, lists_of}
use Rattle.flat_model.proofs.ListLemmas.{lists_are, quiet_revisions, quiet_people}
use Rattle.publishing.specs.Ticks.{due_of, IsTickPlan}
use Rattle.publishing.specs.Ticked.{ticked_body}
use Rattle.publishing.specs.declared.due.TickPlan.{TickPlan}
use Rattle.publishing.proofs.DueLaws.{due_in_world}
use Rattle.site_part.specs.Plans.{HasPlan, left_by}
use Rattle.site_part.specs.declared.part.TreePart.{TreePart}
use Rattle.site_part.specs.declared.plan.Plan.{Plan}
use Rattle.site_part.proofs.StepLemmas.{own_refuses}
use Rattle.moderating.specs.Asked.{IsAsked}
use Rattle.moderating.specs.Plans.{ending_plan}
use Rattle.flow_edits.specs.Plans.{bodies_change, ticking_plan}
use Rattle.moderating.proofs.Planned.{planned}
use Rattle.moderating.proofs.Steps.{deed_of, part_left, none_end, ends_step}
use Rattle.flow_edits.proofs.TickFields.{expire, changed_there}
use Rattle.flow_edits.proofs.TickLeads.{due_pages, due_bodies, bodies_lead}
use Rattle.flow_edits.proofs.TickRows.{each_tree, bodies_fit}

-- as many pages are told as are due
told_length : (pages : List ℕ) (due : List DuePage) → pages ≡ pages_due due →
    (length pages == 0) ≡ (length due == 0)
told_length pages due is =
    ap (λ (l : List ℕ). length l == 0) is
    ∙ ap (λ (n : ℕ). n == 0) (length-map due (λ (one : DuePage). one.page))

-- nothing is told exactly where nothing is due
idle_as : (due : Due) (plan : TickPlan) → IsTickPlan due plan →
    ((length plan.unpublished == 0) && ((length plan.published == 0) && (length plan.dropped == 0)))
    ≡ is_idle due
idle_as due plan is =
    rw (
      told_length plan.unpublished due.unpublished is.unpublished_are,
      told_length plan.published due.published is.published_are,
      told_length plan.dropped due.dropped is.dropped_are,
    ) refl

-- the world after a tick
abbrev pub ticked : worlds.TreePart → ℕ → worlds.TreePart
ticked part t =
    each_changed (gone_live t) (go_lives (with_expired part t) t) (with_expired part t)

-- nothing but the tree is another than before
ticked_tree : (part : worlds.TreePart) (t : ℕ) →
    ticked part t ≡ record part { tree = (ticked part t).tree }
ticked_tree part t =
    each_tree (gone_live t) (go_lives (with_expired part t) t) (with_expired part t)
    ∙ ap (λ (one : worlds.TreePart). record one { tree = (ticked part t).tree })
    (each_tree expire (expiries part t) part)

-- the reply to a tick by what is due
abbrev pub reply_of : Due → Reply
reply_of due = Ticked (pages_due due.unpublished) (pages_due due.published) (pages_due due.dropped)

-- and by a plan that tells it
reply_same : (due : Due) (plan : TickPlan) → IsTickPlan due plan →
    Ticked plan.unpublished plan.published plan.dropped ≡ reply_of due
reply_same due plan is =
    ap (λ (l : List ℕ). Ticked l plan.published plan.dropped) is.unpublished_are
    ∙ ap (λ (l : List ℕ). Ticked (pages_due due.unpublished) l plan.dropped) is.published_are
    ∙ ap (λ (l : List ℕ). Ticked (pages_due due.unpublished) (pages_due due.published) l)
    is.dropped_are

module _ (kept : TreePart) (part : worlds.TreePart) (desk : Option ContentValue)
    (now caller : ℕ) (asked : IsAsked kept part desk caller commands.Tick) (time : ℕ)
    (time_is : time ≡ worlds.time_at part now) where
  -- the command's own rules, and what it does
  tick_own : rules part desk now caller commands.Tick ≡ tick_rules part now
  unfolding rules
  tick_own = refl

  tick_done : steps.effect part desk now caller commands.Tick ≡ tick part now
  unfolding steps.effect
  tick_done = refl

  -- it ends no desk
  tick_ends : (left : worlds.TreePart) (told : worlds.Effect) →
      step_by part desk now caller commands.Tick ≡ Ok (left, told) → told.ended ≡ []
  unfolding suspects_of shuts
  tick_ends left told is =
      ends_none part left told desk now caller commands.Tick asked.given.ready.reached.sound refl refl
      is

  -- what is due of what is kept is due in the world
  due_is : due_of kept.rows.pages kept.shelf.revisions time
      ≡ due_at part (worlds.time_at part now)
  due_is =
      ap (λ (rows : List Page). due_of rows kept.shelf.revisions time) asked.given.ready.stands.pages
      ∙ ap (λ (revisions : List Revision). due_of (rows_of part.tree) revisions time)
      asked.given.ready.stands.revisions
      ∙ ap (due_of (rows_of part.tree) part.revisions) time_is
      ∙ sym (due_in_world part (worlds.time_at part now))

  module _ (due : TickPlan)
      (is : IsTickPlan (due_of kept.rows.pages kept.shelf.revisions time) due) where
    -- what is told is due in the world
    told : IsTickPlan (due_at part (worlds.time_at part now)) due
    told = subst (λ (d : Due). IsTickPlan d due) due_is is

    -- nothing is due
    pub tick_idle : ((length due.unpublished == 0)
        && ((length due.published == 0) && (length due.dropped == 0))) ≡ true →
        step_by part desk now caller commands.Tick ≡ Err NothingNew
    tick_idle idle =
        own_refuses part desk now caller commands.Tick NothingNew asked.front
        (tick_own
        ∙ ap (λ (b : Bool). refused_if b NothingNew)
        (sym (idle_as (due_at part (worlds.time_at part now)) due told) ∙ idle))

    -- something is
    some_due : ((length due.unpublished == 0)
        && ((length due.published == 0) && (length due.dropped == 0))) ≡ false →
        rules part desk now caller commands.Tick ≡ None
    some_due busy =
        tick_own
        ∙ ap (λ (b : Bool). refused_if b NothingNew)
        (sym (idle_as (due_at part (worlds.time_at part now)) due told) ∙ busy)

    -- what the step leaves
    abbrev after : worlds.TreePart
    after =
        record part {
          time = worlds.time_at part now;
          tree = (ticked part (worlds.time_at part now)).tree;
        }

    -- the step does that
    deed_is : steps.effect part desk now caller commands.Tick
        ≡ deed_of after (reply_of (due_at part (worlds.time_at part now))) false
    deed_is =
        tick_done
        ∙ ap (λ (one : worlds.TreePart).
        deed_of (record one { time = worlds.time_at part now })
        (reply_of (due_at part (worlds.time_at part now))) false)
        (ticked_tree part (worlds.time_at part now))

    -- its plan
    tick_planned : ((length due.unpublished == 0)
        && ((length due.published == 0) && (length due.dropped == 0))) ≡ false →
        HasPlan kept part desk now caller commands.Tick
        (ending_plan (reply_of (due_at part (worlds.time_at part now))) []
        (bodies_change (due_bodies (rows_of part.tree) part.revisions (worlds.time_at part now))
        (worlds.time_at part now) part.next_page part.next_revision))
    tick_planned busy =
        let t = worlds.time_at part now in
        let rows = rows_of part.tree in
        let bodies = due_bodies rows part.revisions t in
        let ready = asked.given.ready in
        let reply = reply_of (due_at part t) in
        let change = bodies_change bodies t part.next_page part.next_revision in
        let there = changed_there (ticked_body part.revisions t) rows
        (due_pages rows part.revisions t) in
        planned commands.Tick kept part after desk now caller reply [] change ready
        (ends_step part desk now caller commands.Tick after reply false asked.front
        (some_due busy) deed_is refl [] tick_ends (none_end part.desk_pairs))
        (record {
          tree = tt;
          bodies = bodies_fit bodies rows there;
          gone = tt;
          revisions = tt;
          people = tt;
          flows = tt;
        })
        (lists_are (left_by (ending_plan reply [] change) (lists_of part))
        (lists_of (part_left after part.desk_pairs []))
        (bodies_lead part t ready.reached.sound.pages.distinct) (quiet_revisions part.revisions)
        (quiet_people (people_of part)) refl refl refl refl refl refl) (omega arith) (omega arith)
        (omega arith) (omega arith)

    -- the pages that change are those of the world, with their fields
    bodies_are : due_bodies kept.rows.pages kept.shelf.revisions time
        ≡ due_bodies (rows_of part.tree) part.revisions (worlds.time_at part now)
    bodies_are =
        ap (λ (rows : List Page). due_bodies rows kept.shelf.revisions time)
        asked.given.ready.stands.pages
        ∙ ap (λ (revisions : List Revision). due_bodies (rows_of part.tree) revisions time)
        asked.given.ready.stands.revisions
        ∙ ap (due_bodies (rows_of part.tree) part.revisions) time_is

    -- what is told of it
    pub tick_prepared : ((length due.unpublished == 0)
        && ((length due.published == 0) && (length due.dropped == 0))) ≡ false →
        (bodies : List (ℕ × Body)) →
        bodies ≡ due_bodies kept.rows.pages kept.shelf.revisions time → (plan : Plan) →
        plan ≡ ticking_plan due bodies time kept.next_page kept.next_revision →
        HasPlan kept part desk now caller commands.Tick plan
    tick_prepared busy bodies bodies_is plan plan_is =
        let t = worlds.time_at part now in
        let reply = reply_of (due_at part t) in
        let meant = due_bodies (rows_of part.tree) part.revisions t in
        let stands = asked.given.ready.stands in
        let same : ticking_plan due bodies time kept.next_page kept.next_revision
        ≡ ending_plan reply [] (bodies_change meant t part.next_page part.next_revision) =
        ap (λ (r : Reply).
        ending_plan r [] (bodies_change bodies time kept.next_page kept.next_revision))
        (reply_same (due_at part t) due told)
        ∙ (ap (λ (b : List (ℕ × Body)).
        ending_plan reply [] (bodies_change b time kept.next_page kept.next_revision))
        (bodies_is ∙ bodies_are)
        ∙ (ap (λ (m : ℕ).
        ending_plan reply [] (bodies_change meant m kept.next_page kept.next_revision)) time_is
        ∙ (ap (λ (n : ℕ). ending_plan reply [] (bodies_change meant t n kept.next_revision))
        stands.next_page
        ∙ ap (λ (n : ℕ). ending_plan reply [] (bodies_change meant t part.next_page n))
        stands.next_revision))) in
        subst (λ (p : Plan). HasPlan kept part desk now caller commands.Tick p)
        (sym (plan_is ∙ same)) (tick_planned busy)
