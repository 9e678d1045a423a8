-- What is due in a world is due of its rows: pages that stop being live keep what they have scheduled.
use Rattle.std.proofs.Common.{◌≡◌, ℕ, Bool, true, false, not, cond, nat_eq, List, [], ◌∷◌, ◌++◌, map, filter, Option, Some, None, refl, ap, sym, ◌∙◌}
use Rattle.std.proofs.lemmas.List.{map-append}
use Rattle.std.specs.Option.{option_and_then}
use Rattle.page_tree.specs.Tree.{Forest, bare, grown}
use Rattle.page_tree.specs.Rows.{rows_below, rows_of, child_url}
use Rattle.site_types.specs.declared.body.Body.{Body}
use Rattle.site_types.specs.declared.revision.Revision.{Revision}
use Rattle.site_model.specs.World as worlds
use Rattle.site_model.specs.Bodies.{rebodied}
use Rattle.site_model.specs.Publishing.{has_expired}
use Rattle.site_model.specs.Ticks.{DuePage, Due, due_by, with_due, each_changed, expiries, go_lives, with_expired}
use Rattle.page_store.specs.Pages.{Page}
use Rattle.publishing.specs.Times.{named}
use Rattle.publishing.specs.Ticks.{going_live_in, due_expiries, due_go_lives, DueInWorld}

-- A page and the revision that it has scheduled.
record Scheduled : Type 0 where
  pub page : ℕ
  pub scheduled : Option ℕ

-- of a row
abbrev scheduled_by : Page → Scheduled
scheduled_by row = record { page = row.id; scheduled = row.body.scheduled }

module _ (id : ℕ) (change : Body → Body)
    (stays : (body : Body) → (change body).scheduled ≡ body.scheduled) where
  -- other fields that leave each schedule leave those of all rows
  rows_stay : (parent : Option ℕ) (path url : List ℕ) (f : Forest Body) →
      map scheduled_by (rows_below parent path url (rebodied id change f))
      ≡ map scheduled_by (rows_below parent path url f)
  rows_stay parent path url bare = refl
  rows_stay parent path url (grown i s slug body kids rest) =
      by (nat_eq i id) (rows_stay (Some i) (path ++ s ∷ []) (child_url url slug) kids)
      (rows_stay parent path url rest)
    where
      by : (t : Bool) →
          map scheduled_by
          (rows_below (Some i) (path ++ s ∷ []) (child_url url slug) (rebodied id change kids))
          ≡ map scheduled_by (rows_below (Some i) (path ++ s ∷ []) (child_url url slug) kids) →
          map scheduled_by (rows_below parent path url (rebodied id change rest))
          ≡ map scheduled_by (rows_below parent path url rest) →
          map scheduled_by (rows_below parent path url (cond t (grown i s slug (change body) kids rest)
          (grown i s slug body (rebodied id change kids) (rebodied id change rest))))
          ≡ map scheduled_by (rows_below parent path url (grown i s slug body kids rest))
      by true in_kids in_rest = rw (stays body) refl
      by false in_kids in_rest =
          rw (
            map-append scheduled_by
                (rows_below (Some i) (path ++ s ∷ []) (child_url url slug) (rebodied id change kids))
                (rows_below parent path url (rebodied id change rest)),
            map-append scheduled_by
                (rows_below (Some i) (path ++ s ∷ []) (child_url url slug) kids)
                (rows_below parent path url rest),
            in_kids,
            in_rest,
          ) refl

module _ (revisions : List Revision) (t : ℕ) where
  -- what is to go live of a page by what it has scheduled
  abbrev scheduled_due : Scheduled → Option DuePage
  scheduled_due one =
      option_and_then (λ revision. due_by t one.page revision.go_live revision)
      (named revisions one.scheduled)

  -- what is to go live of these pages
  abbrev all_scheduled : List Scheduled → List DuePage
  all_scheduled [] = []
  all_scheduled (one ∷ more) = with_due (scheduled_due one) (all_scheduled more)

  -- what is to go live of rows is what is of their schedules
  by_schedules : (rows : List Page) →
      due_go_lives rows revisions t ≡ all_scheduled (map scheduled_by rows)
  by_schedules [] = refl
  by_schedules (row ∷ rows) = ap (with_due (going_live_in revisions t row)) (by_schedules rows)

  -- rows with the same schedules have the same to go live
  same_due : (rows others : List Page) → map scheduled_by rows ≡ map scheduled_by others →
      due_go_lives rows revisions t ≡ due_go_lives others revisions t
  same_due rows others same = by_schedules rows ∙ ap all_scheduled same ∙ sym (by_schedules others)

-- what becomes of a page that stops being live
abbrev expire : DuePage → Body → Body
expire due body = record body { live = false; expired = true }

-- where pages stop being live, the schedules stay
schedules_stay : (due : List DuePage) (part : worlds.TreePart) →
    map scheduled_by (rows_of (each_changed expire due part).tree)
    ≡ map scheduled_by (rows_of part.tree)
schedules_stay [] part = refl
schedules_stay (one ∷ due) part =
    schedules_stay due (record part { tree = rebodied one.page (expire one) part.tree })
    ∙ rows_stay one.page (expire one) (λ body. refl) None [] [] part.tree

-- and so do the revisions
revisions_stay : (due : List DuePage) (part : worlds.TreePart) →
    (each_changed expire due part).revisions ≡ part.revisions
revisions_stay [] part = refl
revisions_stay (one ∷ due) part =
    revisions_stay due (record part { tree = rebodied one.page (expire one) part.tree })

-- what is to go live after that is what was to go live before
pub later_is : (part : worlds.TreePart) (t : ℕ) →
    go_lives (with_expired part t) t ≡ due_go_lives (rows_of part.tree) part.revisions t
later_is part t =
    ap (λ (revisions : List Revision). due_go_lives (rows_of (with_expired part t).tree) revisions t)
    (revisions_stay (expiries part t) part)
    ∙ same_due part.revisions t (rows_of (with_expired part t).tree) (rows_of part.tree)
    (schedules_stay (expiries part t) part)

-- what is due in a world is due of its rows
pub due_in_world : DueInWorld
due_in_world part t =
    ap (λ (later : List DuePage). record {
      unpublished = due_expiries (rows_of part.tree) part.revisions t;
      published = filter (λ due. not (has_expired t due.revision)) later;
      dropped = filter (λ due. has_expired t due.revision) later;
    }) (later_is part t)
