-- The commands on drafts, publishing and locks keep a world sound, before its desks are looked at.
use Rattle.std.proofs.Common.{◌≡◌, ◌<◌, ℕ, Bool, true, false, ◌||◌, ◌&&◌, nat_eq, List, [], ◌∷◌, Option, Some, None, refl, sym, subst, arith}
use Rattle.std.specs.Prelude.{IfSome}
use Rattle.std.specs.List.{AllByRecursion, list_any}
use Rattle.site_ids.specs.Moment.{IsMoment}
use Rattle.site_types.specs.Content.{ContentValue}
use Rattle.site_types.specs.declared.body.Body.{Body}
use Rattle.site_types.specs.declared.command.Command.TheVariants as commands
use Rattle.site_types.specs.declared.permission.Permission.TheVariants as permissions
use Rattle.site_types.specs.declared.reply.Reply.TheVariants.{Done}
use Rattle.site_types.specs.declared.revision.Revision.{Revision}
use Rattle.tree_model.proofs.CountLemmas.{once, id_found}
use Rattle.site_model.specs.World.{DeskPair, TreePart, time_at}
use Rattle.site_model.specs.Needs.{needs_of, edit_needs, needs_at, unlock_needs}
use Rattle.site_model.specs.Front.{StopsNobody, StopsOthers, StopsEveryone, row_of, on_page, front_rules}
use Rattle.site_model.specs.Bodies.{rebodied, latest_of}
use Rattle.site_model.specs.Moderations.{after_publishing}
use Rattle.site_model.specs.Publishing.{published_body, publish}
use Rattle.site_model.specs.Desks.{desk_page, shut_desk}
use Rattle.site_model.specs.Step.{rules}
use Rattle.site_model.specs.Step as steps
use Rattle.site_model.specs.Sound.{IsRegular, AreDesks}
use Rattle.site_model.specs.Laws.{IsAtDesk, FitsCommand, FitsDesk}
use Rattle.site_model.proofs.AcceptLemmas.{IsFrontClear, front_parts, page_found}
use Rattle.site_model.proofs.BodySound.{body_keeps_regular, lock_keeps_sound, unlock_keeps_sound, unpublish_keeps_sound}
use Rattle.site_model.proofs.Deeds.{KeepsSound, below_root, plain_keeps}
use Rattle.site_model.proofs.FileSound.{MayFile, filing_keeps_sound}
use Rattle.site_model.proofs.Groups.{AreGroups}
use Rattle.site_model.proofs.KeptLemmas.{both_hold}
use Rattle.site_model.proofs.OpenSound.{later_sound, opening_keeps_sound}
use Rattle.site_model.proofs.PublishSound.{same_kind, publish_keeps_sound}
use Rattle.site_model.proofs.RegularLemmas.{StayRegular, same_regular, kept_stay, found_regular, not_alias}
use Rattle.site_model.proofs.StrangerLemmas.{maker_is_user, editor_is_user}

-- regular pages stay regular where one has another body with the same source
pub body_stays : (part : TreePart) (page : ℕ) (change : Body → Body) →
    ((body : Body) → (change body).source ≡ body.source) →
    StayRegular part.tree (rebodied page change part.tree)
body_stays part page change same =
    kept_stay part.tree (rebodied page change part.tree)
    (body_keeps_regular part.tree page change same)

-- a desk is opened
pub open_sound : (part : TreePart) (desk : Option ContentValue) (now caller page : ℕ) →
    AreGroups part → IsMoment now →
    front_rules part caller (commands.OpenDesk page) ≡ None →
    rules part desk now caller (commands.OpenDesk page) ≡ None →
    KeepsSound part caller (desk_page (commands.OpenDesk page))
    (steps.effect part desk now caller (commands.OpenDesk page))
unfolding front_rules row_of needs_of rules steps.effect desk_page
open_sound part desk now caller page sound moment front own =
    let parts = front_parts part caller (on_page page StopsOthers true StopsOthers)
    (edit_needs part caller page) front in
    let found = page_found part.tree page [] parts.pages in
    opening_keeps_sound part now caller page sound
    (found_regular part.tree page (once part.tree sound.pages.distinct page)
    (λ same. below_root page parts.below (sym same)) found.0
    (not_alias part.tree page parts.kind)) moment
    (editor_is_user part caller page sound.people parts.may) own

-- a desk is shut
pub shut_sound : (part : TreePart) (now caller page : ℕ) → AreGroups part →
    IsMoment now → KeepsSound part caller (Some page) (shut_desk part now)
shut_sound part now caller page sound moment = record {
  sound = later_sound part now sound moment;
  regular = same_regular part.tree;
  opened = tt;
  pairs = refl;
  users = omega arith;
}

-- what an element that passes a test gives, some element gives where one passes it
any_gives : {X : Type 0} (q : X → Bool) (P : X → Type 0) (R : Type 0) (xs : List X) →
    list_any q xs ≡ true → AllByRecursion P xs → ((x : X) → q x ≡ true → P x → R) → R
any_gives q P R [] is all gives = absurd (cc)
any_gives q P R (x ∷ xs) is all gives =
    choice (q x) refl is (λ more. any_gives q P R xs more all.1 gives)
  where
    choice : (t : Bool) → q x ≡ t → (t || list_any q xs) ≡ true →
        (list_any q xs ≡ true → R) → R
    choice true at h later = gives x at all.0
    choice false at h later = later h

-- whoever has a desk may file its text
at_desk : (part : TreePart) (caller page : ℕ) (text : ContentValue) (go_live expire : Option ℕ) →
    AreDesks part → IsAtDesk part caller page text → IfSome go_live IsMoment →
    IfSome expire IsMoment → MayFile part caller page text go_live expire
at_desk part caller page text go_live expire desks at live_at ends_at =
    record {
      user = any_gives own (λ (pair : DeskPair). pair.user < part.next_user) _ part.desk_pairs
          at.opened desks.desk_users
          (λ pair is one. subst (λ (user : ℕ). user < part.next_user)
          (id_found pair.user caller (both_hold (nat_eq pair.page page) _ is).1) one);
      regular = regular;
      fits = at.fits;
      live_at = live_at;
      ends_at = ends_at;
    }
  where
    own : DeskPair → Bool
    own pair = nat_eq pair.page page && nat_eq pair.user caller

    regular : IsRegular part.tree page
    regular = any_gives own (λ (pair : DeskPair). IsRegular part.tree pair.page) _
        part.desk_pairs at.opened desks.desks_regular
        (λ pair is one. subst (λ (id : ℕ). IsRegular part.tree id)
        (id_found pair.page page (both_hold (nat_eq pair.page page) _ is).0) one)

-- the text of the caller's desk is filed
pub file_sound : (part : TreePart) (desk : Option ContentValue) (now caller page : ℕ)
    (go_live expire : Option ℕ) → AreGroups part → AreDesks part →
    IsMoment now → FitsCommand (commands.File page go_live expire) →
    FitsDesk part caller (desk_page (commands.File page go_live expire)) desk →
    rules part desk now caller (commands.File page go_live expire) ≡ None →
    KeepsSound part caller (desk_page (commands.File page go_live expire))
    (steps.effect part desk now caller (commands.File page go_live expire))
unfolding rules steps.effect desk_page
file_sound part None now caller page go_live expire sound desks moment fits at own =
    absurd (cc)
file_sound part (Some text) now caller page go_live expire sound desks moment fits at own =
    record {
      sound = filing_keeps_sound part now caller page text go_live expire sound moment
          (at_desk part caller page text go_live expire desks at fits.0 fits.1) own;
      regular = body_stays part page _ (λ body. refl);
      opened = tt;
      pairs = refl;
      users = omega arith;
    }

-- the latest revision of a page is published, now or later
pub publish_sound : (part : TreePart) (desk : Option ContentValue) (now caller page : ℕ) →
    AreGroups part → IsMoment now →
    front_rules part caller (commands.Publish page) ≡ None →
    KeepsSound part caller (desk_page (commands.Publish page))
    (steps.effect part desk now caller (commands.Publish page))
unfolding front_rules row_of needs_of steps.effect desk_page
publish_sound part desk now caller page sound moment front =
    by (latest_of part page) refl
  where
    parts : IsFrontClear part caller (on_page page StopsOthers true StopsOthers)
        (needs_at part caller permissions.Publish page)
    parts = front_parts part caller (on_page page StopsOthers true StopsOthers)
        (needs_at part caller permissions.Publish page) front

    by : (found : Option Revision) → latest_of part page ≡ found →
        KeepsSound part caller None (publish part now page found)
    by None is =
        plain_keeps part part caller None Done sound (same_regular part.tree) refl (omega arith)
    by (Some revision) is =
        plain_keeps part _ caller None _
        (publish_keeps_sound part now page revision sound (not_alias part.tree page parts.kind)
        moment (λ same. below_root page parts.below (sym same)) is)
        (body_stays part page (λ (body : Body).
        record (published_body (time_at part now) revision body) {
          moderation = after_publishing body.moderation;
        }) (λ body. (same_kind (time_at part now) revision body).0)) refl
        (omega arith)

-- a page is taken out of the public
pub unpublish_sound : (part : TreePart) (desk : Option ContentValue) (now caller page : ℕ) →
    AreGroups part → IsMoment now →
    front_rules part caller (commands.Unpublish page) ≡ None →
    KeepsSound part caller (desk_page (commands.Unpublish page))
    (steps.effect part desk now caller (commands.Unpublish page))
unfolding front_rules row_of needs_of steps.effect desk_page
unpublish_sound part desk now caller page sound moment front =
    let parts = front_parts part caller (on_page page StopsOthers true StopsNobody)
    (needs_at part caller permissions.Publish page) front in
    plain_keeps part _ caller None _
    (unpublish_keeps_sound part now page sound (not_alias part.tree page parts.kind) moment
    (λ same. below_root page parts.below (sym same)))
    (body_stays part page _ (λ body. refl)) refl (omega arith)

-- a page is locked
pub lock_sound : (part : TreePart) (desk : Option ContentValue) (now caller page : ℕ) →
    AreGroups part → IsMoment now →
    front_rules part caller (commands.Lock page) ≡ None →
    rules part desk now caller (commands.Lock page) ≡ None →
    KeepsSound part caller (desk_page (commands.Lock page))
    (steps.effect part desk now caller (commands.Lock page))
unfolding front_rules row_of needs_of rules steps.effect desk_page
lock_sound part desk now caller page sound moment front own =
    let parts = front_parts part caller (on_page page StopsEveryone true StopsNobody)
    (needs_at part caller permissions.Lock page) front in
    plain_keeps part _ caller None _
    (lock_keeps_sound part now caller page sound (not_alias part.tree page parts.kind) moment
    (λ same. below_root page parts.below (sym same))
    (maker_is_user part caller page permissions.Lock sound.people parts.may) own)
    (body_stays part page _ (λ body. refl)) refl (omega arith)

-- a page is unlocked
pub unlock_sound : (part : TreePart) (desk : Option ContentValue) (now caller page : ℕ) →
    AreGroups part → IsMoment now →
    front_rules part caller (commands.Unlock page) ≡ None →
    KeepsSound part caller (desk_page (commands.Unlock page))
    (steps.effect part desk now caller (commands.Unlock page))
unfolding front_rules row_of needs_of steps.effect desk_page
unlock_sound part desk now caller page sound moment front =
    let parts = front_parts part caller (on_page page StopsNobody false StopsNobody)
    (unlock_needs part caller page) front in
    plain_keeps part _ caller None _
    (unlock_keeps_sound part now page sound moment
    (λ same. below_root page parts.below (sym same)))
    (body_stays part page _ (λ body. refl)) refl (omega arith)
