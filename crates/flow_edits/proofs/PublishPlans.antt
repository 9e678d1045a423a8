-- Publishing, unpublishing and emptying a schedule: what is refused, and what is planned.
use Rattle.std.proofs.Common.{◌≡◌, ◌||◌, ◌&&◌, ℕ, Bool, true, false, not, nat_eq, List, [], Option, Some, None, Result, Ok, Err, refl, sym, ap, subst, ◌∙◌}
use Rattle.std.specs.Option.{is_none, is_some}
use Rattle.site_types.specs.Content.{ContentValue}
use Rattle.site_types.specs.declared.body.Body.{Body}
use Rattle.site_types.specs.declared.command.Command.TheVariants as commands
use Rattle.site_types.specs.declared.moderation.Moderation.{Moderation}
use Rattle.site_types.specs.declared.refusal.Refusal.TheVariants.{NothingNew, NotLive, AlreadyExpired}
use Rattle.site_types.specs.declared.reply.Reply.TheVariants as replies
use Rattle.site_types.specs.declared.revision.Revision.{Revision}
use Rattle.site_model.specs.World as worlds
use Rattle.site_model.specs.Bodies.{rebodied, is_after, latest_of}
use Rattle.site_model.specs.Losing.{suspects_of, shuts}
use Rattle.site_model.specs.LosingLaws.{stays_with, desks_lost_with}
use Rattle.site_model.specs.Moderations.{after_publishing}
use Rattle.site_model.specs.Publishing.{has_expired, expires_first, is_out, publish_rules, publish, unpublish_rules, unpublish, unschedule_rules, unschedule}
use Rattle.site_model.specs.Step.{rules, step_by}
use Rattle.site_model.specs.Step as steps
use Rattle.site_model.specs.Views.{body_of}
use Rattle.site_model.proofs.LosingAnswers.{publish_ends}
use Rattle.site_model.proofs.LosingEnds.{ends_none}
use Rattle.flat_model.specs.Single.{body_change}
use Rattle.site_part.specs.Plans.{Prepares, HasPlan, pages_of}
use Rattle.site_part.specs.declared.fault.Fault.{Fault}
use Rattle.site_part.specs.declared.part.TreePart.{TreePart}
use Rattle.site_part.specs.declared.plan.Plan.{Plan}
use Rattle.site_part.proofs.StepLemmas.{own_refuses, pairs_agree}
use Rattle.moderating.specs.Asked.{IsAsked}
use Rattle.moderating.specs.Plans.{ending_plan, Plans}
use Rattle.flow_edits.specs.Plans.{published_by_command}
use Rattle.moderating.proofs.EventLemmas.{moderation_is}
use Rattle.moderating.proofs.Planned.{prepared, body_planned, fields_same}
use Rattle.moderating.proofs.Steps.{none_end, ends_step}

-- there is none where there is not some
is_absent : (scheduled : Option ℕ) (t : Bool) → is_some scheduled ≡ t → is_none scheduled ≡ not t
is_absent None true is = absurd (cc)
is_absent None false is = refl
is_absent (Some revision) true is = refl
is_absent (Some revision) false is = absurd (cc)

module _ (kept : TreePart) (part : worlds.TreePart) (desk : Option ContentValue)
    (now caller page : ℕ) (asked : IsAsked kept part desk caller (commands.Publish page))
    (body : Body) (found : body_of part.tree page ≡ Some body) (revision : Revision)
    (latest : latest_of part page ≡ Some revision) (time : ℕ)
    (time_is : time ≡ worlds.time_at part now) where
  -- the command's own rules, and what it does
  publish_own : rules part desk now caller (commands.Publish page)
      ≡ publish_rules part now page (Some revision)
  unfolding rules
  publish_own = ap (publish_rules part now page) latest

  publish_done : steps.effect part desk now caller (commands.Publish page)
      ≡ publish part now page (Some revision)
  unfolding steps.effect
  publish_done = ap (publish part now page) latest

  -- whether it is so already, at the world's moment
  out_is : (t : Bool) → is_out time revision body ≡ t →
      is_out (worlds.time_at part now) revision body ≡ t
  out_is t is = ap (λ (m : ℕ). is_out m revision body) (sym time_is) ∙ is

  -- whether it is too late, at the world's moment
  late_is : (t : Bool) → (has_expired time revision || expires_first revision) ≡ t →
      (has_expired (worlds.time_at part now) revision || expires_first revision) ≡ t
  late_is t is =
      ap (λ (m : ℕ). has_expired m revision || expires_first revision) (sym time_is) ∙ is

  -- it is so already
  pub publish_known : is_out time revision body ≡ true →
      step_by part desk now caller (commands.Publish page) ≡ Err NothingNew
  publish_known is =
      own_refuses part desk now caller (commands.Publish page) NothingNew asked.front
      (publish_own ∙ rw (found, out_is true is) refl)

  -- its latest revision has expired
  pub publish_late : is_out time revision body ≡ false →
      (has_expired time revision || expires_first revision) ≡ true →
      step_by part desk now caller (commands.Publish page) ≡ Err AlreadyExpired
  publish_late new is =
      own_refuses part desk now caller (commands.Publish page) AlreadyExpired asked.front
      (publish_own ∙ rw (found, out_is false new, late_is true is) refl)

  -- its plan
  publish_plans : is_out time revision body ≡ false →
      (has_expired time revision || expires_first revision) ≡ false →
      HasPlan kept part desk now caller (commands.Publish page)
      (ending_plan (replies.Published (is_after time revision.go_live))
      (pages_of (desks_lost_with part page (after_publishing body.moderation)))
      (body_change page (published_by_command time revision body) time kept.next_page
      kept.next_revision))
  publish_plans new fresh_till =
      let moment = worlds.time_at part now in
      let ready = asked.given.ready in
      let change : Body → Body = published_by_command moment revision in
      let reply = replies.Published (is_after moment revision.go_live) in
      let ended = desks_lost_with part page (after_publishing body.moderation) in
      subst (λ (m : ℕ). HasPlan kept part desk now caller (commands.Publish page)
      (ending_plan (replies.Published (is_after m revision.go_live)) (pages_of ended)
      (body_change page (published_by_command m revision body) m kept.next_page
      kept.next_revision)))
      (sym time_is)
      (body_planned (commands.Publish page) kept part desk now caller page reply ended change body
      (change body) moment kept.next_page kept.next_revision ready found refl refl
      ready.stands.next_page ready.stands.next_revision
      (ends_step part desk now caller (commands.Publish page)
      (record part { time = moment; tree = rebodied page change part.tree }) reply false asked.front
      (publish_own ∙ rw (found, out_is false new, late_is false fresh_till) refl) publish_done refl
      ended
      (λ left told is. publish_ends part left told desk now caller page revision ready.reached.sound
      latest is
      ∙ ap (λ (m : Option Moderation). desks_lost_with part page (after_publishing m))
      (moderation_is part page body found))
      (pairs_agree (λ (pair : worlds.DeskPair). nat_eq pair.page page
      && not (stays_with part (after_publishing body.moderation) pair)) part.desk_pairs
      ready.reached.sound.desks.desks_rise)))

  -- what is told of it
  pub publish_prepared : is_out time revision body ≡ false →
      (has_expired time revision || expires_first revision) ≡ false → (waits : Bool) (new : Body)
      (shut : List ℕ) → waits ≡ is_after time revision.go_live →
      new ≡ published_by_command time revision body →
      shut ≡ pages_of (desks_lost_with part page (after_publishing body.moderation)) →
      (result : Result Plan Fault) →
      Plans (ending_plan (replies.Published waits) shut
      (body_change page new time kept.next_page kept.next_revision)) result →
      Prepares part desk now caller (commands.Publish page) kept result
  publish_prepared fresh still waits new shut waits_is new_is shut_is result is =
      prepared (commands.Publish page) kept part desk now caller _ _ result
      (fields_same (replies.Published waits) (replies.Published (is_after time revision.go_live)) shut
      (pages_of (desks_lost_with part page (after_publishing body.moderation))) page new
      (published_by_command time revision body) time kept.next_page kept.next_revision
      (ap replies.Published waits_is) shut_is new_is) (publish_plans fresh still) is

module _ (kept : TreePart) (part : worlds.TreePart) (desk : Option ContentValue)
    (now caller page : ℕ) (asked : IsAsked kept part desk caller (commands.Unpublish page))
    (body : Body) (found : body_of part.tree page ≡ Some body) where
  -- the command's own rules, and what it does
  unpublish_own : rules part desk now caller (commands.Unpublish page) ≡ unpublish_rules part page
  unfolding rules
  unpublish_own = refl

  unpublish_done : steps.effect part desk now caller (commands.Unpublish page)
      ≡ unpublish part now page
  unfolding steps.effect
  unpublish_done = refl

  -- it ends no desk
  unpublish_ends : (left : worlds.TreePart) (told : worlds.Effect) →
      step_by part desk now caller (commands.Unpublish page) ≡ Ok (left, told) → told.ended ≡ []
  unfolding suspects_of shuts
  unpublish_ends left told is =
      ends_none part left told desk now caller (commands.Unpublish page)
      asked.given.ready.reached.sound refl refl is

  -- a page that is not live
  pub unpublish_dead : body.live ≡ false →
      step_by part desk now caller (commands.Unpublish page) ≡ Err NotLive
  unpublish_dead is =
      own_refuses part desk now caller (commands.Unpublish page) NotLive asked.front
      (unpublish_own ∙ rw (found, is) refl)

  -- what is told of one that is
  pub unpublish_prepared : body.live ≡ true → (time : ℕ) → time ≡ worlds.time_at part now →
      (new : Body) (shut : List ℕ) → new ≡ record body { live = false; scheduled = None } →
      shut ≡ [] → (result : Result Plan Fault) →
      Plans (ending_plan replies.Done shut
      (body_change page new time kept.next_page kept.next_revision)) result →
      Prepares part desk now caller (commands.Unpublish page) kept result
  unpublish_prepared live time time_is new shut new_is shut_is result is =
      let ready = asked.given.ready in
      let change : Body → Body = λ (one : Body). record one { live = false; scheduled = None } in
      prepared (commands.Unpublish page) kept part desk now caller _ _ result
      (fields_same replies.Done replies.Done shut [] page new (change body) time kept.next_page
      kept.next_revision refl shut_is new_is)
      (body_planned (commands.Unpublish page) kept part desk now caller page replies.Done [] change
      body (change body) time kept.next_page kept.next_revision ready found refl time_is
      ready.stands.next_page ready.stands.next_revision
      (ends_step part desk now caller (commands.Unpublish page)
      (record part { time = worlds.time_at part now; tree = rebodied page change part.tree })
      replies.Done false asked.front (unpublish_own ∙ rw (found, live) refl) unpublish_done refl
      [] unpublish_ends (none_end part.desk_pairs))) is

module _ (kept : TreePart) (part : worlds.TreePart) (desk : Option ContentValue)
    (now caller page : ℕ) (asked : IsAsked kept part desk caller (commands.Unschedule page))
    (body : Body) (found : body_of part.tree page ≡ Some body) where
  -- the command's own rules, and what it does
  unschedule_own : rules part desk now caller (commands.Unschedule page)
      ≡ unschedule_rules part page
  unfolding rules
  unschedule_own = refl

  unschedule_done : steps.effect part desk now caller (commands.Unschedule page)
      ≡ unschedule part now page
  unfolding steps.effect
  unschedule_done = refl

  -- it ends no desk
  unschedule_ends : (left : worlds.TreePart) (told : worlds.Effect) →
      step_by part desk now caller (commands.Unschedule page) ≡ Ok (left, told) → told.ended ≡ []
  unfolding suspects_of shuts
  unschedule_ends left told is =
      ends_none part left told desk now caller (commands.Unschedule page)
      asked.given.ready.reached.sound refl refl is

  -- a page that has nothing scheduled
  pub unschedule_idle : is_some body.scheduled ≡ false →
      step_by part desk now caller (commands.Unschedule page) ≡ Err NothingNew
  unschedule_idle is =
      own_refuses part desk now caller (commands.Unschedule page) NothingNew asked.front
      (unschedule_own ∙ rw (found, is_absent body.scheduled false is) refl)

  -- what is told of one that has
  pub unschedule_prepared : is_some body.scheduled ≡ true → (time : ℕ) →
      time ≡ worlds.time_at part now → (new : Body) (shut : List ℕ) →
      new ≡ record body { scheduled = None } → shut ≡ [] → (result : Result Plan Fault) →
      Plans (ending_plan replies.Done shut
      (body_change page new time kept.next_page kept.next_revision)) result →
      Prepares part desk now caller (commands.Unschedule page) kept result
  unschedule_prepared waits time time_is new shut new_is shut_is result is =
      let ready = asked.given.ready in
      let change : Body → Body = λ (one : Body). record one { scheduled = None } in
      prepared (commands.Unschedule page) kept part desk now caller _ _ result
      (fields_same replies.Done replies.Done shut [] page new (change body) time kept.next_page
      kept.next_revision refl shut_is new_is)
      (body_planned (commands.Unschedule page) kept part desk now caller page replies.Done [] change
      body (change body) time kept.next_page kept.next_revision ready found refl time_is
      ready.stands.next_page ready.stands.next_revision
      (ends_step part desk now caller (commands.Unschedule page)
      (record part { time = worlds.time_at part now; tree = rebodied page change part.tree })
      replies.Done false asked.front
      (unschedule_own ∙ rw (found, is_absent body.scheduled true waits) refl) unschedule_done refl []
      unschedule_ends (none_end part.desk_pairs))) is
