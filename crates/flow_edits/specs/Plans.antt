-- What is planned: plans of desks, of ticks, and what a purge takes.
use Rattle.std.specs.Prelude.{ℕ, ◌+◌, Bool, ◌==◌, ◌&&◌, not, List, [], ◌∷◌, filter, Option, Some, None, if◌then◌else◌}
use Rattle.site_types.specs.Content.{ContentValue}
use Rattle.site_types.specs.declared.body.Body.{Body}
use Rattle.site_types.specs.declared.reply.Reply.TheVariants.{Done, Id, Ticked}
use Rattle.site_types.specs.declared.revision.Revision.{Revision}
use Rattle.site_model.specs.Moderations.{after_filing, after_publishing}
use Rattle.site_model.specs.Publishing.{moderated_revision, published_body}
use Rattle.publishing.specs.declared.due.TickPlan.{TickPlan}
use Rattle.flat_model.specs.Made.{needs_revision}
use Rattle.flat_model.specs.Single.{tree_change, body_change}
use Rattle.flat_model.specs.declared.change.Change.{Change}
use Rattle.flat_model.specs.declared.change.Purge.{Purge}
use Rattle.flat_model.specs.declared.change.TreeChange.TheVariants.{Nothing}
use Rattle.site_part.specs.Plans.{quiet_plan}
use Rattle.site_part.specs.declared.plan.Plan.{Plan}
use Rattle.moderating.specs.Plans.{ending_plan}

-- the purge of a page of which this is kept
abbrev pub purge_of : ℕ → Body → Purge
purge_of page body =
    record {
      page = page;
      shown = body.shown;
      latest = body.latest;
      scheduled = body.scheduled;
      moderated = moderated_revision body.moderation;
    }

-- whether a purge takes a revision
abbrev pub is_taken : Purge → Revision → Bool
is_taken purge revision = (revision.page == purge.page) && not (needs_revision purge revision.id)

-- the revisions that a purge takes
abbrev pub taken : Purge → List Revision → List Revision
taken purge revisions = filter (is_taken purge) revisions

-- 1 where there is a revision that a purge takes
abbrev pub counted : Purge → Option Revision → ℕ
counted purge None = 0
counted purge (Some revision) = if is_taken purge revision then 1 else 0

-- the plan of a desk that is opened
abbrev pub opening_plan : ℕ → ℕ → ContentValue → ℕ → ℕ → ℕ → Plan
opening_plan page user text time next_page next_revision =
    record (quiet_plan Done (tree_change Nothing time next_page next_revision)) {
      opened = Some (page, user, text);
    }

-- a revision, by its parts
abbrev pub revision_of : ℕ → ℕ → ℕ → ℕ → ContentValue → Option ℕ → Option ℕ → Revision
revision_of id page by made content go_live expire =
    record {
      id = id;
      page = page;
      by = by;
      made = made;
      content = content;
      go_live = go_live;
      expire = expire;
    }

-- what is kept of a page whose text was filed with this revision
abbrev pub filed_body : Body → ℕ → Body
filed_body body revision =
    record body { latest = Some revision; moderation = after_filing revision body.moderation }

-- what is kept of a page of which this revision was published by a command at a moment: a moderation
-- that was not over is given up
abbrev pub published_by_command : ℕ → Revision → Body → Body
published_by_command moment revision body =
    record (published_body moment revision body) {
      moderation = after_publishing body.moderation;
    }

-- the plan of a text that is filed: a revision comes, the page has it as its latest, a moderation in
-- progress is about it, and the desk ends
abbrev pub filing_plan : Revision → Body → ℕ → Plan
filing_plan revision body next_page =
    ending_plan (Id revision.id) (revision.page ∷ [])
    (record (body_change revision.page (filed_body body revision.id) revision.made next_page
    (revision.id + 1)) {
      revisions = revision ∷ [];
    })

-- no store changes but the fields of these pages, and the time and the next ids are these
abbrev pub bodies_change : List (ℕ × Body) → ℕ → ℕ → ℕ → Change
bodies_change bodies time next_page next_revision =
    record (tree_change Nothing time next_page next_revision) { bodies = bodies }

-- the plan of a tick by what is due, which gives these pages their fields
abbrev pub ticking_plan : TickPlan → List (ℕ × Body) → ℕ → ℕ → ℕ → Plan
ticking_plan due bodies time next_page next_revision =
    ending_plan (Ticked due.unpublished due.published due.dropped) []
    (bodies_change bodies time next_page next_revision)
