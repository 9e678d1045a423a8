-- Which desks the commands on desks, on publishing and on moderations may end.
use Rattle.std.proofs.Common.{◌≡◌, ℕ, Bool, true, false, not, ◌&&◌, nat_eq, List, [], ◌∷◌, Option, Some, None, is_some, refl, sym, ap, ◌∙◌}
use Rattle.std.specs.Option.{option_or}
use Rattle.site_types.specs.Content.{ContentValue}
use Rattle.site_types.specs.declared.body.Body.{Body}
use Rattle.site_types.specs.declared.command.Command.{Command}
use Rattle.site_types.specs.declared.command.Command.TheVariants.{SaveDesk, ShutDesk, File, Publish, Unpublish, Unschedule, Lock, Unlock, Purge, Assign, Submit, Approve, Reject, Cancel, Tick}
use Rattle.site_types.specs.declared.moderation.Moderation.{Moderation}
use Rattle.site_types.specs.declared.moderation.ModerationStatus.{ModerationStatus}
use Rattle.site_types.specs.declared.moderation.ModerationStatus.TheVariants.{InProgress, Approved, NeedsChanges, Cancelled}
use Rattle.site_types.specs.declared.revision.Revision.{Revision}
use Rattle.site_model.specs.World.{DeskPair, TreePart, time_at}
use Rattle.site_model.specs.Rights.{Rights, rights_of}
use Rattle.site_model.specs.Views.{stage_of, may_edit}
use Rattle.site_model.specs.Front.{StopsOthers, locked, in_moderation}
use Rattle.site_model.specs.Bodies.{latest_of}
use Rattle.site_model.specs.Moderations.{WasApproved, WasRejected, WasCancelled, WasFiled, moved_on, after_filing}
use Rattle.site_model.specs.Moderating.{answered, after_event, submission}
use Rattle.site_model.specs.Publishing.{publish}
use Rattle.site_model.specs.Ticks.{DuePage, each_changed, expiries, go_lives, with_expired, gone_live}
use Rattle.site_model.specs.Desks.{desk_page}
use Rattle.site_model.specs.Step.{rules}
use Rattle.site_model.specs.Step as steps
use Rattle.site_model.specs.Losing.{suspects_of, is_suspect, shuts}
use Rattle.site_model.proofs.ViewLemmas.{seen}
use Rattle.site_model.proofs.LosingTrees.{way_to, way_changed, way-rebodied}
use Rattle.site_model.proofs.LosingRights.{stays_at, stays_by_way, weaker_and}
use Rattle.site_model.proofs.LosingLemmas.{EndsFew}
use Rattle.site_model.proofs.LosingBodies.{body_changed, body_stays, unseen_stays, other_stays}
use Rattle.site_model.proofs.LosingStages.{gone_keeps, changes_stay}

-- saving a desk ends none
pub save_few : (part : TreePart) (desk : Option ContentValue) (now caller page : ℕ)
    (content : ContentValue) →
    EndsFew part caller (SaveDesk page content)
    (steps.effect part desk now caller (SaveDesk page content))
unfolding steps.effect desk_page suspects_of shuts
save_few part desk now caller page content = record {
  shut = refl;
  pairs = refl;
  opened = tt;
  others = λ pair user stay free. stay;
}

-- shutting a desk ends no other
pub shut_few : (part : TreePart) (desk : Option ContentValue) (now caller page : ℕ) →
    EndsFew part caller (ShutDesk page) (steps.effect part desk now caller (ShutDesk page))
unfolding steps.effect desk_page suspects_of shuts
shut_few part desk now caller page = record {
  shut = refl;
  pairs = refl;
  opened = tt;
  others = λ pair user stay free. stay;
}

-- a moderation stands where it stood when a revision is filed
stage_filed : (part : TreePart) (revision : ℕ) (moderation : Option Moderation) →
    stage_of part (after_filing revision moderation) ≡ stage_of part moderation
stage_filed part revision None = refl
stage_filed part revision (Some moderation) = by_status moderation.status
  where
    by_status : (status : ModerationStatus) →
        stage_of part
        (option_or (moved_on 0 (WasFiled revision) status moderation) (Some moderation))
        ≡ stage_of part (Some moderation)
    by_status InProgress = refl
    by_status Approved = refl
    by_status NeedsChanges = refl
    by_status Cancelled = refl

-- filing a desk ends no other
pub file_few : (part : TreePart) (desk : Option ContentValue) (now caller page : ℕ)
    (go_live expire : Option ℕ) →
    rules part desk now caller (File page go_live expire) ≡ None →
    EndsFew part caller (File page go_live expire)
    (steps.effect part desk now caller (File page go_live expire))
unfolding rules steps.effect desk_page suspects_of shuts
file_few part None now caller page go_live expire own = absurd (cc)
file_few part (Some text) now caller page go_live expire own = record {
  shut = refl;
  pairs = refl;
  opened = tt;
  others = λ pair user stay free.
      unseen_stays part page
      (λ body. record body {
        latest = Some part.next_revision;
        moderation = after_filing part.next_revision body.moderation;
      }) pair
      (λ above body. rw (stage_filed part part.next_revision body.moderation) refl) ∙ stay;
}

-- publishing a page may end the desk on it alone
publish_by : (part : TreePart) (now caller page : ℕ) (found : Option Revision) →
    EndsFew part caller (Publish page) (publish part now page found)
unfolding desk_page suspects_of shuts
publish_by part now caller page None = record {
  shut = refl;
  pairs = refl;
  opened = tt;
  others = λ pair user stay other. stay;
}
publish_by part now caller page (Some revision) = record {
  shut = refl;
  pairs = refl;
  opened = tt;
  others = λ pair user stay other. other_stays part page _ pair other ∙ stay;
}

-- so with the latest revision
pub publish_few : (part : TreePart) (desk : Option ContentValue) (now caller page : ℕ) →
    EndsFew part caller (Publish page) (steps.effect part desk now caller (Publish page))
unfolding steps.effect
publish_few part desk now caller page = publish_by part now caller page (latest_of part page)

-- unpublishing ends no desk
pub unpublish_few : (part : TreePart) (desk : Option ContentValue) (now caller page : ℕ) →
    EndsFew part caller (Unpublish page) (steps.effect part desk now caller (Unpublish page))
unfolding steps.effect desk_page suspects_of shuts
unpublish_few part desk now caller page = record {
  shut = refl;
  pairs = refl;
  opened = tt;
  others = λ pair user stay free.
      body_stays part page (λ body. record body { live = false; scheduled = None }) pair
      (λ body. record { owner = refl; locked_by = refl; moderation = refl }) ∙ stay;
}

-- nor does emptying a schedule
pub unschedule_few : (part : TreePart) (desk : Option ContentValue) (now caller page : ℕ) →
    EndsFew part caller (Unschedule page) (steps.effect part desk now caller (Unschedule page))
unfolding steps.effect desk_page suspects_of shuts
unschedule_few part desk now caller page = record {
  shut = refl;
  pairs = refl;
  opened = tt;
  others = λ pair user stay free.
      body_stays part page (λ body. record body { scheduled = None }) pair
      (λ body. record { owner = refl; locked_by = refl; moderation = refl }) ∙ stay;
}

-- nor does an assignment
pub assign_few : (part : TreePart) (desk : Option ContentValue) (now caller page : ℕ)
    (workflow : Option ℕ) →
    EndsFew part caller (Assign page workflow)
    (steps.effect part desk now caller (Assign page workflow))
unfolding steps.effect desk_page suspects_of shuts
assign_few part desk now caller page workflow = record {
  shut = refl;
  pairs = refl;
  opened = tt;
  others = λ pair user stay free.
      body_stays part page (λ body. record body { workflow = workflow }) pair
      (λ body. record { owner = refl; locked_by = refl; moderation = refl }) ∙ stay;
}

-- nor does a purge
pub purge_few : (part : TreePart) (desk : Option ContentValue) (now caller page : ℕ) →
    EndsFew part caller (Purge page) (steps.effect part desk now caller (Purge page))
unfolding steps.effect desk_page suspects_of shuts
purge_few part desk now caller page = record {
  shut = refl;
  pairs = refl;
  opened = tt;
  others = λ pair user stay free. stay;
}

-- a lock may end the desk on its page alone
pub lock_few : (part : TreePart) (desk : Option ContentValue) (now caller page : ℕ) →
    EndsFew part caller (Lock page) (steps.effect part desk now caller (Lock page))
unfolding steps.effect desk_page suspects_of shuts
lock_few part desk now caller page = record {
  shut = refl;
  pairs = refl;
  opened = tt;
  others = λ pair user stay other.
      other_stays part page (λ body. record body { locked_by = Some caller }) pair other ∙ stay;
}

-- what stays with a lock stays without
unlocked : (part : TreePart) (rights : Rights) (own : Bool) (way : Option (List ℕ × Body)) →
    stays_at part rights way ≡ true →
    stays_at part rights (way_changed own (λ body. record body { locked_by = None }) way) ≡ true
unlocked part rights own None is = absurd (cc)
unlocked part rights false (Some way) is = is
unlocked part rights true (Some way) is =
    let view = seen part way.0 way.1 in
    let free = not (is_some (in_moderation StopsOthers rights view.stage)) in
    weaker_and (may_edit rights view)
    (not (is_some (locked StopsOthers rights.user view.locked_by)) && free) (may_edit rights view)
    (not (is_some (locked StopsOthers rights.user None)) && free) (λ edits. edits)
    (λ both. weaker_and (not (is_some (locked StopsOthers rights.user view.locked_by))) free true
    free (λ lock. refl) (λ other. other) both) is

-- unlocking a page ends no desk
pub unlock_few : (part : TreePart) (desk : Option ContentValue) (now caller page : ℕ) →
    EndsFew part caller (Unlock page) (steps.effect part desk now caller (Unlock page))
unfolding steps.effect desk_page suspects_of shuts
unlock_few part desk now caller page = record {
  shut = refl;
  pairs = refl;
  opened = tt;
  others = λ pair user stay free.
      let change = λ (body : Body). record body { locked_by = None } in
      stays_by_way (body_changed page change part) pair
      ∙ ap (λ (way : Option (List ℕ × Body)). stays_at part (rights_of part pair.user) way)
      (way-rebodied pair.page page change part.tree)
      ∙ unlocked part (rights_of part pair.user) (nat_eq pair.page page)
      (way_to pair.page part.tree) (sym (stays_by_way part pair) ∙ stay);
}

-- an answer to a moderation may end the desk on its page alone
answer_by : (part : TreePart) (now caller page : ℕ) (command : Command)
    (moderation : Option Moderation) →
    shuts command ≡ false → desk_page command ≡ None →
    ((pair : DeskPair) → is_suspect part (suspects_of command) pair ≡ nat_eq pair.page page) →
    EndsFew part caller command (answered part now page moderation)
answer_by part now caller page command None shut page_is suspect = record {
  shut = sym shut;
  pairs = refl;
  opened = rw page_is tt;
  others = λ pair user stay other. stay;
}
answer_by part now caller page command (Some moderation) shut page_is suspect = record {
  shut = sym shut;
  pairs = refl;
  opened = rw page_is tt;
  others = λ pair user stay other.
      other_stays part page _ pair (sym (suspect pair) ∙ other) ∙ stay;
}

-- submitting a page may end the desk on it alone
pub submit_few : (part : TreePart) (desk : Option ContentValue) (now caller page : ℕ) →
    EndsFew part caller (Submit page) (steps.effect part desk now caller (Submit page))
unfolding steps.effect desk_page suspects_of shuts
submit_few part desk now caller page =
    answer_by part now caller page (Submit page)
    (after_event part (submission part caller page) page) refl refl (λ pair. refl)

-- so may an approval
pub approve_few : (part : TreePart) (desk : Option ContentValue) (now caller page : ℕ) →
    EndsFew part caller (Approve page) (steps.effect part desk now caller (Approve page))
unfolding steps.effect desk_page suspects_of shuts
approve_few part desk now caller page =
    answer_by part now caller page (Approve page) (after_event part WasApproved page) refl refl
    (λ pair. refl)

-- and a rejection
pub reject_few : (part : TreePart) (desk : Option ContentValue) (now caller page : ℕ) →
    EndsFew part caller (Reject page) (steps.effect part desk now caller (Reject page))
unfolding steps.effect desk_page suspects_of shuts
reject_few part desk now caller page =
    answer_by part now caller page (Reject page) (after_event part WasRejected page) refl refl
    (λ pair. refl)

-- and a moderation that is given up
pub cancel_few : (part : TreePart) (desk : Option ContentValue) (now caller page : ℕ) →
    EndsFew part caller (Cancel page) (steps.effect part desk now caller (Cancel page))
unfolding steps.effect desk_page suspects_of shuts
cancel_few part desk now caller page =
    answer_by part now caller page (Cancel page) (after_event part WasCancelled page) refl refl
    (λ pair. refl)

-- changes of bodies leave the open desks
changes_pairs : (change : DuePage → Body → Body) (due : List DuePage) (part : TreePart) →
    (each_changed change due part).desk_pairs ≡ part.desk_pairs
changes_pairs change [] part = refl
changes_pairs change (one ∷ due) part =
    changes_pairs change due (body_changed one.page (change one) part)

-- a tick ends no desk
pub tick_few : (part : TreePart) (desk : Option ContentValue) (now caller : ℕ) →
    EndsFew part caller Tick (steps.effect part desk now caller Tick)
unfolding steps.effect desk_page suspects_of shuts
tick_few part desk now caller =
    let moment = time_at part now in
    let ending = λ (due : DuePage) (body : Body). record body { live = false; expired = true } in
    let expired = with_expired part moment in
    record {
      shut = refl;
      pairs = changes_pairs (gone_live moment) (go_lives expired moment) expired
          ∙ changes_pairs ending (expiries part moment) part;
      opened = tt;
      others = λ pair user stay free.
          changes_stay (gone_live moment) (go_lives expired moment) expired pair
          (gone_keeps moment)
          ∙ changes_stay ending (expiries part moment) part pair
          (λ due body. record { owner = refl; locked_by = refl; moderation = refl })
          ∙ stay;
    }
