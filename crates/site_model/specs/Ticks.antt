-- Ticks: what is due at a moment, in the order of moments and pages, and what becomes of it.
use Rattle.std.specs.Prelude.{ℕ, Bool, true, false, not, nat_le, ◌==◌, ◌&&◌, List, [], ◌∷◌, map, filter, length, Option, Some, None, if◌then◌else◌}
use Rattle.std.specs.Option.{option_and_then}
use Rattle.page_tree.specs.Rows.{Row, rows_of}
use Rattle.site_types.specs.declared.body.Body.{Body}
use Rattle.site_types.specs.declared.refusal.Refusal.{Refusal}
use Rattle.site_types.specs.declared.refusal.Refusal.TheVariants.{NothingNew}
use Rattle.site_types.specs.declared.reply.Reply.TheVariants.{Ticked}
use Rattle.site_types.specs.declared.revision.Revision.{Revision}
use Rattle.site_model.specs.World.{TreePart, Deed, time_at}
use Rattle.site_model.specs.Rules.{refused_if}
use Rattle.site_model.specs.Create.{plain_deed}
use Rattle.site_model.specs.Users.{put_in}
use Rattle.site_model.specs.Bodies.{rebodied, revision_with}
use Rattle.site_model.specs.Publishing.{published_body, has_expired}

-- A page that is due: the moment, the page and the revision.
pub record DuePage : Type 0 where
  pub moment : ℕ
  pub page : ℕ
  pub revision : Revision

-- what is due stands in the order of moments, and then of pages
abbrev pub due_key : DuePage → List ℕ
due_key due = due.moment ∷ due.page ∷ []

-- one more where it is due
abbrev pub with_due : Option DuePage → List DuePage → List DuePage
with_due None due = due
with_due (Some one) due = put_in due_key one due

-- what is due of these rows, by a test of each
abbrev pub all_due : (Row Body → Option DuePage) → List (Row Body) → List DuePage
all_due test [] = []
all_due test (row ∷ rows) = with_due (test row) (all_due test rows)

-- a revision of a page, where this moment of it has come
abbrev pub due_by : ℕ → ℕ → Option ℕ → Revision → Option DuePage
due_by now page None revision = None
due_by now page (Some moment) revision =
    if nat_le moment now
    then Some (record { moment = moment; page = page; revision = revision })
    else None

-- a revision by its id, where there is one
abbrev pub chosen : TreePart → Option ℕ → Option Revision
chosen part id = option_and_then (λ one. revision_with one part.revisions) id

-- whether a live page expires
abbrev pub expiring : TreePart → ℕ → Row Body → Option DuePage
expiring part now row =
    if row.body.live
    then option_and_then (λ revision. due_by now row.id revision.expire revision)
    (chosen part row.body.shown)
    else None

-- whether a scheduled revision is to go live
abbrev pub going_live : TreePart → ℕ → Row Body → Option DuePage
going_live part now row =
    option_and_then (λ revision. due_by now row.id revision.go_live revision)
    (chosen part row.body.scheduled)

-- the live pages that expire
abbrev pub expiries : TreePart → ℕ → List DuePage
expiries part now = all_due (expiring part now) (rows_of part.tree)

-- the scheduled revisions whose moment has come
abbrev pub go_lives : TreePart → ℕ → List DuePage
go_lives part now = all_due (going_live part now) (rows_of part.tree)

-- the part with each of these pages' bodies changed, one after another
abbrev pub each_changed : (DuePage → Body → Body) → List DuePage → TreePart → TreePart
each_changed change [] part = part
each_changed change (due ∷ more) part =
    each_changed change more
    (record part { tree = rebodied due.page (change due) part.tree })

-- the world after the live pages that expire have stopped being live; their schedules stay
abbrev pub with_expired : TreePart → ℕ → TreePart
with_expired part now =
    each_changed (λ due body. record body { live = false; expired = true }) (expiries part now) part

-- what becomes of a scheduled revision whose moment has come: it is dropped where it has expired by
-- then, and else published
abbrev pub gone_live : ℕ → DuePage → Body → Body
gone_live now due body =
    if has_expired now due.revision
    then record body { scheduled = None }
    else published_body now due.revision body

-- What is due at a moment: the pages that stop being live, and then, in the world after that, the
-- scheduled revisions that are published, and those that are dropped.
pub record Due : Type 0 where
  pub unpublished : List DuePage
  pub published : List DuePage
  pub dropped : List DuePage

-- what is due at a moment
abbrev pub due_at : TreePart → ℕ → Due
due_at part now =
    let later = go_lives (with_expired part now) now in
    record {
      unpublished = expiries part now;
      published = filter (λ due. not (has_expired now due.revision)) later;
      dropped = filter (λ due. has_expired now due.revision) later;
    }

-- whether nothing is due
abbrev pub is_idle : Due → Bool
is_idle due =
    (length due.unpublished == 0) && ((length due.published == 0) && (length due.dropped == 0))

-- the rule of a tick
abbrev pub tick_rules : TreePart → ℕ → Option Refusal
tick_rules part now = refused_if (is_idle (due_at part (time_at part now))) NothingNew

-- the pages that are due
abbrev pub pages_due : List DuePage → List ℕ
pages_due due = map (λ one. one.page) due

-- what a tick does
abbrev pub tick : TreePart → ℕ → Deed
tick part now =
    let moment = time_at part now in
    let due = due_at part moment in
    let expired = with_expired part moment in
    let after = each_changed (gone_live moment) (go_lives expired moment) expired in
    plain_deed (record after { time = moment })
    (Ticked (pages_due due.unpublished) (pages_due due.published) (pages_due due.dropped))
