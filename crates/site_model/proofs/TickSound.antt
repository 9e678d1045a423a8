-- A tick keeps a world sound, and so does a schedule that is emptied.
use Rattle.std.proofs.Common.{◌≡◌, ℕ, Bool, true, false, cond, Option, None, Some, refl, sym, ◌∙◌, arith}
use Rattle.std.specs.Prelude.{IfSome}
use Rattle.std.specs.List.{AllByRecursion}
use Rattle.std.specs.Option.{option_and_then}
use Rattle.page_tree.specs.Rows.{Row, rows_of}
use Rattle.site_ids.specs.Moment.{IsMoment}
use Rattle.site_types.specs.Content.{ContentValue}
use Rattle.site_types.specs.declared.body.Body.{Body}
use Rattle.site_types.specs.declared.command.Command.TheVariants as commands
use Rattle.site_types.specs.declared.permission.Permission.TheVariants as permissions
use Rattle.site_types.specs.declared.revision.Revision.{Revision}
use Rattle.tree_model.proofs.PageLemmas.{all_weaker}
use Rattle.site_model.specs.World.{TreePart, time_at}
use Rattle.site_model.specs.Needs.{needs_of, needs_at}
use Rattle.site_model.specs.Front.{StopsNobody, StopsOthers, row_of, on_page, front_rules}
use Rattle.site_model.specs.Bodies.{revision_with}
use Rattle.site_model.specs.Publishing.{unschedule}
use Rattle.site_model.specs.Ticks.{DuePage, due_by, chosen, expiring, going_live, expiries, go_lives, each_changed, with_expired, gone_live, tick}
use Rattle.site_model.specs.Desks.{desk_page}
use Rattle.site_model.specs.Step as steps
use Rattle.site_model.proofs.AcceptLemmas.{front_parts}
use Rattle.site_model.proofs.BodySound.{body_keeps_regular, unschedule_keeps_sound}
use Rattle.site_model.proofs.Deeds.{KeepsSound, below_root, plain_keeps}
use Rattle.site_model.proofs.Groups.{AreGroups}
use Rattle.site_model.proofs.RegularLemmas.{KeepRegular, kept_stay, not_alias}
use Rattle.site_model.proofs.DueLemmas.{FitsDue, IsKnown, IsOwnPage, at_moment, each_sound, each_regular, each_kept, rows_known, all_due_hold, due_holds, live_own, scheduled_own, own_regular}
use Rattle.site_model.proofs.LiveLemmas.{IsWaiting, waiting_found, expired_fits, live_kind, live_fits}

-- a schedule is emptied by command
pub unschedule_sound : (part : TreePart) (desk : Option ContentValue) (now caller page : ℕ) →
    AreGroups part → IsMoment now → front_rules part caller (commands.Unschedule page) ≡ None →
    KeepsSound part caller (desk_page (commands.Unschedule page))
    (steps.effect part desk now caller (commands.Unschedule page))
unfolding front_rules row_of needs_of steps.effect desk_page
unschedule_sound part desk now caller page sound moment front =
    let parts = front_parts part caller (on_page page StopsOthers true StopsNobody)
    (needs_at part caller permissions.Publish page) front in
    let after = (unschedule part now page).part in
    plain_keeps part after caller None _
    (unschedule_keeps_sound part now page sound (not_alias part.tree page parts.kind) moment
    (λ same. below_root page parts.below (sym same)))
    (kept_stay part.tree after.tree (body_keeps_regular part.tree page _ (λ body. refl))) refl
    (omega arith)

-- a live page stops being live as it expires
abbrev expired_body : DuePage → Body → Body
expired_body due body = record body { live = false; expired = true }

-- each live page that expires may be changed so
expiring_fits : (part : TreePart) (now : ℕ) (row : Row Body) → AreGroups part →
    IsKnown part row.id row.body →
    IfSome (expiring part now row) (λ due. FitsDue part due (expired_body due))
expiring_fits part now row sound known = by_live row.body.live refl
  where
    Fits : DuePage → Type 0
    Fits due = FitsDue part due (expired_body due)

    by_found : (found : Option Revision) → IsOwnPage part row.id row.body →
        IfSome (option_and_then (λ revision. due_by now row.id revision.expire revision) found)
        Fits
    by_found None own = tt
    by_found (Some revision) own =
        due_holds Fits now row.id revision.expire revision (λ at. record {
          regular = own_regular part row.id row.body sound known own;
          source = λ body. refl;
          kept = λ body kept none. expired_fits part row.id body own.below kept none;
        })

    by_live : (live : Bool) → row.body.live ≡ live →
        IfSome (cond live (option_and_then
        (λ revision. due_by now row.id revision.expire revision)
        (chosen part row.body.shown)) None) Fits
    by_live true is = by_found (chosen part row.body.shown)
        (live_own part row.id row.body known.kept is)
    by_live false is = tt

-- each page whose moment to go live has come may be changed so
going_live_fits : (part : TreePart) (now : ℕ) (row : Row Body) → AreGroups part → IsMoment now →
    IsKnown part row.id row.body →
    IfSome (going_live part now row) (λ due. FitsDue part due (gone_live now due))
going_live_fits part now row sound moment known = by_id row.body.scheduled refl
  where
    Fits : DuePage → Type 0
    Fits due = FitsDue part due (gone_live now due)

    due_at : ℕ → Revision → DuePage
    due_at at revision = record { moment = at; page = row.id; revision = revision }

    by_found : (found : Option Revision) → IsOwnPage part row.id row.body →
        ((revision : Revision) → found ≡ Some revision → IsWaiting part row.id revision) →
        IfSome (option_and_then (λ revision. due_by now row.id revision.go_live revision) found)
        Fits
    by_found None own waits = tt
    by_found (Some revision) own waits =
        due_holds Fits now row.id revision.go_live revision (λ at. record {
          regular = own_regular part row.id row.body sound known own;
          source = λ body. live_kind now (due_at at revision) body;
          kept = λ body kept none. live_fits part now (due_at at revision) body own.below moment
              (waits revision refl) kept none;
        })

    by_id : (id : Option ℕ) → row.body.scheduled ≡ id →
        IfSome (option_and_then (λ revision. due_by now row.id revision.go_live revision)
        (chosen part id)) Fits
    by_id None is = tt
    by_id (Some id) is =
        let own = scheduled_own part row.id row.body id known.kept is in
        let waits = rw is at ((known.kept.regular own.below own.none).scheduled) in
        by_found (revision_with id part.revisions) own
        (λ revision found. waiting_found part row.id id revision waits found)

-- all pages that expire may
expiries_fit : (part : TreePart) (now : ℕ) → AreGroups part →
    AllByRecursion (λ due. FitsDue part due (expired_body due)) (expiries part now)
expiries_fit part now sound =
    all_due_hold (λ due. FitsDue part due (expired_body due)) (expiring part now)
    (rows_of part.tree)
    (all_weaker (λ (row : Row Body). IsKnown part row.id row.body) _ (rows_of part.tree)
    (λ row known. expiring_fits part now row sound known) (rows_known part sound))

-- all pages whose moment to go live has come may
go_lives_fit : (part : TreePart) (now : ℕ) → AreGroups part → IsMoment now →
    AllByRecursion (λ due. FitsDue part due (gone_live now due)) (go_lives part now)
go_lives_fit part now sound moment =
    all_due_hold (λ due. FitsDue part due (gone_live now due)) (going_live part now)
    (rows_of part.tree)
    (all_weaker (λ (row : Row Body). IsKnown part row.id row.body) _ (rows_of part.tree)
    (λ row known. going_live_fits part now row sound moment known) (rows_known part sound))

-- a tick keeps a world sound
pub tick_keeps_sound : (part : TreePart) (now : ℕ) → AreGroups part → IsMoment now →
    AreGroups (tick part now).part
tick_keeps_sound part now sound first =
    let moment : IsMoment (time_at part now) = omega (arith, sound.time, first) in
    let at = time_at part now in
    let expired = with_expired part at in
    let middle : AreGroups expired = each_sound expired_body (expiries part at) part sound
    (expiries_fit part at sound) in
    at_moment (each_changed (gone_live at) (go_lives expired at) expired) at moment
    (each_sound (gone_live at) (go_lives expired at) expired middle
    (go_lives_fit expired at middle moment))

-- the regular pages are regular after a tick
tick_keeps_regular : (part : TreePart) (now : ℕ) →
    KeepRegular part.tree (tick part now).part.tree
tick_keeps_regular part now page regular =
    let at = time_at part now in
    let expired = with_expired part at in
    each_regular (gone_live at) (go_lives expired at) expired (live_kind at) page
    (each_regular expired_body (expiries part at) part (λ due body. refl) page regular)

-- the due pages are changed by command
pub tick_sound : (part : TreePart) (desk : Option ContentValue) (now caller : ℕ) →
    AreGroups part → IsMoment now →
    KeepsSound part caller (desk_page commands.Tick)
    (steps.effect part desk now caller commands.Tick)
unfolding steps.effect desk_page
tick_sound part desk now caller sound moment =
    let at = time_at part now in
    let expired = with_expired part at in
    let first = each_kept expired_body (expiries part at) part in
    let second = each_kept (gone_live at) (go_lives expired at) expired in
    plain_keeps part (tick part now).part caller None _ (tick_keeps_sound part now sound moment)
    (kept_stay part.tree (tick part now).part.tree (tick_keeps_regular part now))
    (second.pairs ∙ first.pairs) (omega (arith, first.users, second.users))
