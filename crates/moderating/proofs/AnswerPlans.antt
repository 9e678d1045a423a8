-- Submissions and answers to moderations: what is refused, and what is planned.
use Rattle.std.proofs.Common.{◌≡◌, ◌&&◌, ℕ, Bool, true, false, not, nat_eq, Option, Some, None, Result, Ok, Err, refl, sym, ap, subst, ◌∙◌}
use Rattle.site_types.specs.Content.{ContentValue}
use Rattle.site_types.specs.declared.body.Body.{Body}
use Rattle.site_types.specs.declared.command.Command.{Command}
use Rattle.site_types.specs.declared.command.Command.TheVariants as commands
use Rattle.site_types.specs.declared.moderation.Moderation.{Moderation}
use Rattle.site_types.specs.declared.refusal.Refusal.TheVariants.{NoWorkflow, NotModerated, AlreadyExpired}
use Rattle.site_types.specs.declared.reply.Reply.TheVariants.{Moderated}
use Rattle.site_types.specs.declared.revision.Revision.{Revision}
use Rattle.site_model.specs.World as worlds
use Rattle.site_model.specs.Bodies.{rebodied}
use Rattle.site_model.specs.Front.{front_rules}
use Rattle.site_model.specs.LosingLaws.{stays_with, desks_lost_with}
use Rattle.site_model.specs.Moderations.{WasApproved, WasRejected, WasCancelled, moderated}
use Rattle.site_model.specs.Moderating.{after_event, not_moderated, submit_rules, submit, approved_revision, approve_rules, body_published, answered, answer}
use Rattle.site_model.specs.Step.{rules, step_by}
use Rattle.site_model.specs.Step as steps
use Rattle.site_model.specs.Views.{body_of}
use Rattle.site_model.proofs.FlowFacts.{submission_has_place}
use Rattle.site_model.proofs.LosingAnswers.{submit_ends, approve_ends, reject_ends, cancel_ends}
use Rattle.site_part.specs.Plans.{Prepares}
use Rattle.site_part.specs.Standing.{IsReady}
use Rattle.site_part.specs.declared.fault.Fault.{Fault}
use Rattle.site_part.specs.declared.part.TreePart.{TreePart}
use Rattle.site_part.specs.declared.plan.Plan.{Plan}
use Rattle.site_part.proofs.StepLemmas.{own_refuses, pairs_agree}
use Rattle.moderating.specs.Asked.{IsAsked}
use Rattle.moderating.specs.Events.{submitted, is_any_late}
use Rattle.moderating.specs.Moderated.{moderated_plan}
use Rattle.moderating.specs.Plans.{Plans}
use Rattle.moderating.proofs.EventLemmas.{out_of_place, in_place, no_start, begins, late_refused, submitted_stays, rejected_stays, cancelled_stays}
use Rattle.moderating.proofs.Planned.{prepared, body_planned}
use Rattle.moderating.proofs.Steps.{deed_of, ends_step}

-- what becomes of a page by this moment and with this revision published
abbrev changed : ℕ → Option Revision → Moderation → Body → Body
changed moment published left body =
    record (body_published moment published body) { moderation = Some left }

-- what a command does that leaves this moderation
abbrev leaving : worlds.TreePart → ℕ → ℕ → Moderation → ℕ → Option Revision → worlds.Deed
leaving part now page left moment published =
    deed_of
    (record part {
      time = worlds.time_at part now;
      tree = rebodied page (changed moment published left) part.tree;
    })
    (Moderated left.status left.task) false

module _ (command : Command) (kept : TreePart) (part : worlds.TreePart)
    (desk : Option ContentValue) (now caller page : ℕ) (ready : IsReady kept part) (body : Body)
    (found : body_of part.tree page ≡ Some body) where
  -- what is told of a command that no rule refuses and that leaves this moderation
  left_prepared : front_rules part caller command ≡ None →
      rules part desk now caller command ≡ None → (left : Moderation)
      (published : Option Revision) → approved_revision part (Some left) ≡ published →
      steps.effect part desk now caller command ≡ answered part now page (Some left) →
      ((after : worlds.TreePart) (told : worlds.Effect) →
      step_by part desk now caller command ≡ Ok (after, told) →
      told.ended ≡ desks_lost_with part page (Some left)) → (time : ℕ) →
      time ≡ worlds.time_at part now → (result : Result Plan Fault) →
      Plans (moderated_plan part page (body_published time published body) left time kept.next_page
      kept.next_revision) result →
      Prepares part desk now caller command kept result
  left_prepared front own left published published_is done ends time time_is result is =
      let ended = desks_lost_with part page (Some left) in
      let reply = Moderated left.status left.task in
      let effect_is : steps.effect part desk now caller command
      ≡ leaving part now page left time published =
      done
      ∙ (ap (λ (moment : ℕ).
      leaving part now page left moment (approved_revision part (Some left))) (sym time_is)
      ∙ ap (leaving part now page left time) published_is) in
      prepared command kept part desk now caller _ _ result refl
      (body_planned command kept part desk now caller page reply ended (changed time published left)
      body (changed time published left body) time kept.next_page kept.next_revision ready found refl
      time_is ready.stands.next_page ready.stands.next_revision
      (ends_step part desk now caller command
      (record part {
        time = worlds.time_at part now;
        tree = rebodied page (changed time published left) part.tree;
      }) reply false front own effect_is refl ended ends
      (pairs_agree
      (λ (pair : worlds.DeskPair).
      nat_eq pair.page page && not (stays_with part (Some left) pair)) part.desk_pairs
      ready.reached.sound.desks.desks_rise))) is

module _ (kept : TreePart) (part : worlds.TreePart) (desk : Option ContentValue)
    (now caller page : ℕ) (body : Body) (found : body_of part.tree page ≡ Some body) where
  module _ (asked : IsAsked kept part desk caller (commands.Submit page)) (revision : ℕ)
      (latest : body.latest ≡ Some revision) where
    -- the command's own rules, and what it does
    submit_own : rules part desk now caller (commands.Submit page) ≡ submit_rules part page
    unfolding rules
    submit_own = refl

    submit_done : steps.effect part desk now caller (commands.Submit page)
        ≡ submit part now caller page
    unfolding steps.effect
    submit_done = refl

    -- a moderation would start, and there is no workflow
    pub submit_lost : submitted part page revision caller body.moderation ≡ None →
        step_by part desk now caller (commands.Submit page) ≡ Err NoWorkflow
    submit_lost none =
        own_refuses part desk now caller (commands.Submit page) NoWorkflow asked.front
        (submit_own ∙ no_start part page body found caller revision latest
        (submission_has_place part caller page asked.front) none)

    -- what is told of a submission that leaves this moderation
    pub submit_prepared : (left : Moderation) →
        submitted part page revision caller body.moderation ≡ Some left → (time : ℕ) →
        time ≡ worlds.time_at part now → (result : Result Plan Fault) →
        Plans (moderated_plan part page body left time kept.next_page kept.next_revision) result →
        Prepares part desk now caller (commands.Submit page) kept result
    submit_prepared left left_is time time_is result is =
        let both = begins part page body found caller revision latest
        (submission_has_place part caller page asked.front) left left_is in
        left_prepared (commands.Submit page) kept part desk now caller page asked.given.ready body
        found asked.front (submit_own ∙ both.0) left None
        (submitted_stays part page revision caller body.moderation left left_is)
        (submit_done ∙ ap (answered part now page) both.1)
        (λ after told step. submit_ends part after told desk now caller page left
        asked.given.ready.reached.sound both.1 step) time time_is result is

  module _ (asked : IsAsked kept part desk caller (commands.Approve page)) where
    -- the command's own rules, and what it does
    approve_own : rules part desk now caller (commands.Approve page) ≡ approve_rules part now page
    unfolding rules
    approve_own = refl

    approve_done : steps.effect part desk now caller (commands.Approve page)
        ≡ answer part now WasApproved page
    unfolding steps.effect
    approve_done = refl

    -- no moderation is in progress
    pub approve_out : moderated part.workflows WasApproved body.moderation ≡ None →
        step_by part desk now caller (commands.Approve page) ≡ Err NotModerated
    approve_out none =
        own_refuses part desk now caller (commands.Approve page) NotModerated asked.front
        (approve_own ∙ rw (out_of_place part page body found WasApproved none) refl)

    module _ (left : Moderation)
        (left_is : moderated part.workflows WasApproved body.moderation ≡ Some left) (time : ℕ)
        (time_is : time ≡ worlds.time_at part now) (published : Option Revision)
        (published_is : approved_revision part (Some left) ≡ published) where
      -- whether the revision that it publishes comes too late
      late_at : (t : Bool) → is_any_late time published ≡ t →
          is_any_late (worlds.time_at part now)
          (approved_revision part (after_event part WasApproved page)) ≡ t
      late_at t is =
          ap (λ (m : Option Moderation).
          is_any_late (worlds.time_at part now) (approved_revision part m))
          (in_place part page body found WasApproved left left_is).1
          ∙ (ap (is_any_late (worlds.time_at part now)) published_is
          ∙ (ap (λ (moment : ℕ). is_any_late moment published) (sym time_is) ∙ is))

      -- it comes too late
      pub approve_late : is_any_late time published ≡ true →
          step_by part desk now caller (commands.Approve page) ≡ Err AlreadyExpired
      approve_late is =
          own_refuses part desk now caller (commands.Approve page) AlreadyExpired asked.front
          (approve_own ∙ rw (
            (in_place part page body found WasApproved left left_is).0,
            late_refused (worlds.time_at part now)
                (approved_revision part (after_event part WasApproved page)),
            late_at true is,
          ) refl)

      -- what is told of it where it does not
      pub approve_prepared : is_any_late time published ≡ false → (new : Body) →
          new ≡ body_published time published body → (result : Result Plan Fault) →
          Plans (moderated_plan part page new left time kept.next_page kept.next_revision) result →
          Prepares part desk now caller (commands.Approve page) kept result
      approve_prepared fresh_till new new_is result is =
          let both = in_place part page body found WasApproved left left_is in
          left_prepared (commands.Approve page) kept part desk now caller page asked.given.ready body
          found asked.front
          (approve_own ∙ rw (
            both.0,
            late_refused (worlds.time_at part now)
                (approved_revision part (after_event part WasApproved page)),
            late_at false fresh_till,
          ) refl) left published published_is
          (approve_done ∙ ap (answered part now page) both.1)
          (λ after told step. approve_ends part after told desk now caller page left
          asked.given.ready.reached.sound both.1 step) time time_is result
          (subst (λ (b : Body).
          Plans (moderated_plan part page b left time kept.next_page kept.next_revision) result) new_is
          is)

  module _ (asked : IsAsked kept part desk caller (commands.Reject page)) where
    -- the command's own rules, and what it does
    reject_own : rules part desk now caller (commands.Reject page)
        ≡ not_moderated part WasRejected page
    unfolding rules
    reject_own = refl

    reject_done : steps.effect part desk now caller (commands.Reject page)
        ≡ answer part now WasRejected page
    unfolding steps.effect
    reject_done = refl

    -- no moderation is in progress
    pub reject_out : moderated part.workflows WasRejected body.moderation ≡ None →
        step_by part desk now caller (commands.Reject page) ≡ Err NotModerated
    reject_out none =
        own_refuses part desk now caller (commands.Reject page) NotModerated asked.front
        (reject_own ∙ out_of_place part page body found WasRejected none)

    -- what is told of a rejection that leaves this moderation
    pub reject_prepared : (left : Moderation) →
        moderated part.workflows WasRejected body.moderation ≡ Some left → (time : ℕ) →
        time ≡ worlds.time_at part now → (result : Result Plan Fault) →
        Plans (moderated_plan part page body left time kept.next_page kept.next_revision) result →
        Prepares part desk now caller (commands.Reject page) kept result
    reject_prepared left left_is time time_is result is =
        let both = in_place part page body found WasRejected left left_is in
        left_prepared (commands.Reject page) kept part desk now caller page asked.given.ready body
        found asked.front (reject_own ∙ both.0) left None
        (rejected_stays part body.moderation left left_is)
        (reject_done ∙ ap (answered part now page) both.1)
        (λ after told step. reject_ends part after told desk now caller page left
        asked.given.ready.reached.sound both.1 step) time time_is result is

  module _ (asked : IsAsked kept part desk caller (commands.Cancel page)) where
    -- the command's own rules, and what it does
    cancel_own : rules part desk now caller (commands.Cancel page)
        ≡ not_moderated part WasCancelled page
    unfolding rules
    cancel_own = refl

    cancel_done : steps.effect part desk now caller (commands.Cancel page)
        ≡ answer part now WasCancelled page
    unfolding steps.effect
    cancel_done = refl

    -- no moderation is in progress or needs changes
    pub cancel_out : moderated part.workflows WasCancelled body.moderation ≡ None →
        step_by part desk now caller (commands.Cancel page) ≡ Err NotModerated
    cancel_out none =
        own_refuses part desk now caller (commands.Cancel page) NotModerated asked.front
        (cancel_own ∙ out_of_place part page body found WasCancelled none)

    -- what is told of one that is given up
    pub cancel_prepared : (left : Moderation) →
        moderated part.workflows WasCancelled body.moderation ≡ Some left → (time : ℕ) →
        time ≡ worlds.time_at part now → (result : Result Plan Fault) →
        Plans (moderated_plan part page body left time kept.next_page kept.next_revision) result →
        Prepares part desk now caller (commands.Cancel page) kept result
    cancel_prepared left left_is time time_is result is =
        let both = in_place part page body found WasCancelled left left_is in
        left_prepared (commands.Cancel page) kept part desk now caller page asked.given.ready body
        found asked.front (cancel_own ∙ both.0) left None
        (cancelled_stays part body.moderation left left_is)
        (cancel_done ∙ ap (answered part now page) both.1)
        (λ after told step. cancel_ends part after told desk now caller page left
        asked.given.ready.reached.sound both.1 step) time time_is result is
