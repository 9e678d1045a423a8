-- Locks and unlocks: what is refused, and what is planned.
use Rattle.std.proofs.Common.{◌≡◌, ◌&&◌, ℕ, Bool, true, false, not, nat_eq, List, [], Option, Some, None, Result, Ok, Err, refl, ap, ◌∙◌}
use Rattle.std.specs.Option.{is_none, is_some}
use Rattle.site_types.specs.Content.{ContentValue}
use Rattle.site_types.specs.declared.body.Body.{Body}
use Rattle.site_types.specs.declared.command.Command.TheVariants as commands
use Rattle.site_types.specs.declared.refusal.Refusal.TheVariants.{NothingNew}
use Rattle.site_types.specs.declared.reply.Reply.TheVariants as replies
use Rattle.tree_model.proofs.CountLemmas.{told_apart}
use Rattle.site_model.specs.World as worlds
use Rattle.site_model.specs.Bodies.{rebodied}
use Rattle.site_model.specs.Losing.{suspects_of, shuts}
use Rattle.site_model.specs.LosingLaws.{desks_of_others}
use Rattle.site_model.specs.Publishing.{lock_rules, lock, unlock_rules, unlock}
use Rattle.site_model.specs.Step.{rules, step_by}
use Rattle.site_model.specs.Step as steps
use Rattle.site_model.specs.Views.{body_of}
use Rattle.site_model.proofs.LosingEnds.{ends_none}
use Rattle.site_model.proofs.LosingFacts.{lock_ends_others}
use Rattle.flat_model.specs.Single.{body_change}
use Rattle.site_part.specs.Plans.{Prepares, pages_of}
use Rattle.site_part.specs.declared.fault.Fault.{Fault}
use Rattle.site_part.specs.declared.part.TreePart.{TreePart}
use Rattle.site_part.specs.declared.plan.Plan.{Plan}
use Rattle.site_part.proofs.StepLemmas.{own_refuses, pairs_agree}
use Rattle.moderating.specs.Asked.{IsAsked}
use Rattle.moderating.specs.Plans.{ending_plan, Plans}
use Rattle.moderating.proofs.Planned.{prepared, body_planned, fields_same}
use Rattle.moderating.proofs.Steps.{none_end, ends_step}

-- there is none where there is not some
nobody : (by : Option ℕ) (t : Bool) → is_some by ≡ t → is_none by ≡ not t
nobody None true is = absurd (cc)
nobody None false is = refl
nobody (Some user) true is = refl
nobody (Some user) false is = absurd (cc)

module _ (kept : TreePart) (part : worlds.TreePart) (desk : Option ContentValue)
    (now caller page : ℕ) (asked : IsAsked kept part desk caller (commands.Lock page)) where
  -- the command's own rules, and what it does
  lock_own : rules part desk now caller (commands.Lock page) ≡ lock_rules caller
  unfolding rules
  lock_own = refl

  lock_done : steps.effect part desk now caller (commands.Lock page) ≡ lock part now caller page
  unfolding steps.effect
  lock_done = refl

  -- the scheduler locks nothing
  pub lock_idle : caller ≡ 0 →
      step_by part desk now caller (commands.Lock page) ≡ Err NothingNew
  lock_idle is =
      own_refuses part desk now caller (commands.Lock page) NothingNew asked.front
      (lock_own ∙ ap lock_rules is)

  -- what is told of any other's lock
  pub lock_prepared : (body : Body) → body_of part.tree page ≡ Some body → (caller ≡ 0 → ⊥) →
      (time : ℕ) → time ≡ worlds.time_at part now → (new : Body) (shut : List ℕ) →
      new ≡ record body { locked_by = Some caller } →
      shut ≡ pages_of (desks_of_others part caller page) → (result : Result Plan Fault) →
      Plans (ending_plan replies.Done shut
      (body_change page new time kept.next_page kept.next_revision)) result →
      Prepares part desk now caller (commands.Lock page) kept result
  lock_prepared body found user time time_is new shut new_is shut_is result is =
      let ready = asked.given.ready in
      let change : Body → Body = λ (one : Body). record one { locked_by = Some caller } in
      let ended = desks_of_others part caller page in
      prepared (commands.Lock page) kept part desk now caller _ _ result
      (fields_same replies.Done replies.Done shut (pages_of ended) page new (change body) time
      kept.next_page kept.next_revision refl shut_is new_is)
      (body_planned (commands.Lock page) kept part desk now caller page replies.Done ended change
      body (change body) time kept.next_page kept.next_revision ready found refl time_is
      ready.stands.next_page ready.stands.next_revision
      (ends_step part desk now caller (commands.Lock page)
      (record part { time = worlds.time_at part now; tree = rebodied page change part.tree })
      replies.Done false asked.front (lock_own ∙ rw (told_apart caller 0 user) refl) lock_done
      refl ended
      (λ left told is. lock_ends_others part left told desk now caller page ready.reached.sound is)
      (pairs_agree
      (λ (pair : worlds.DeskPair). nat_eq pair.page page && not (nat_eq caller pair.user))
      part.desk_pairs ready.reached.sound.desks.desks_rise))) is

module _ (kept : TreePart) (part : worlds.TreePart) (desk : Option ContentValue)
    (now caller page : ℕ) (asked : IsAsked kept part desk caller (commands.Unlock page))
    (body : Body) (found : body_of part.tree page ≡ Some body) where
  -- the command's own rules, and what it does
  unlock_own : rules part desk now caller (commands.Unlock page) ≡ unlock_rules part page
  unfolding rules
  unlock_own = refl

  unlock_done : steps.effect part desk now caller (commands.Unlock page) ≡ unlock part now page
  unfolding steps.effect
  unlock_done = refl

  -- it ends no desk
  unlock_ends : (left : worlds.TreePart) (told : worlds.Effect) →
      step_by part desk now caller (commands.Unlock page) ≡ Ok (left, told) → told.ended ≡ []
  unfolding suspects_of shuts
  unlock_ends left told is =
      ends_none part left told desk now caller (commands.Unlock page)
      asked.given.ready.reached.sound refl refl is

  -- a page that nobody has locked
  pub unlock_idle : is_some body.locked_by ≡ false →
      step_by part desk now caller (commands.Unlock page) ≡ Err NothingNew
  unlock_idle is =
      own_refuses part desk now caller (commands.Unlock page) NothingNew asked.front
      (unlock_own ∙ rw (found, nobody body.locked_by false is) refl)

  -- what is told of one that is locked
  pub unlock_prepared : is_some body.locked_by ≡ true → (time : ℕ) →
      time ≡ worlds.time_at part now → (new : Body) (shut : List ℕ) →
      new ≡ record body { locked_by = None } → shut ≡ [] → (result : Result Plan Fault) →
      Plans (ending_plan replies.Done shut
      (body_change page new time kept.next_page kept.next_revision)) result →
      Prepares part desk now caller (commands.Unlock page) kept result
  unlock_prepared locked time time_is new shut new_is shut_is result is =
      let ready = asked.given.ready in
      let change : Body → Body = λ (one : Body). record one { locked_by = None } in
      prepared (commands.Unlock page) kept part desk now caller _ _ result
      (fields_same replies.Done replies.Done shut [] page new (change body) time kept.next_page
      kept.next_revision refl shut_is new_is)
      (body_planned (commands.Unlock page) kept part desk now caller page replies.Done [] change body
      (change body) time kept.next_page kept.next_revision ready found refl time_is
      ready.stands.next_page ready.stands.next_revision
      (ends_step part desk now caller (commands.Unlock page)
      (record part { time = worlds.time_at part now; tree = rebodied page change part.tree })
      replies.Done false asked.front
      (unlock_own ∙ rw (found, nobody body.locked_by true locked) refl) unlock_done refl []
      unlock_ends (none_end part.desk_pairs))) is
