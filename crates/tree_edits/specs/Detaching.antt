-- What is planned of an alias that becomes a regular page.
use Rattle.std.specs.Prelude.{◌≡◌, ℕ, Bool, ◌+◌, ◌<◌, ◌≤◌, [], ◌∷◌, Option, Some, None, if◌then◌else◌}
use Rattle.site_ids.specs.declared.ids.TheConstants.{LAST_REVISION_ID}
use Rattle.site_types.specs.declared.body.Body.{Body}
use Rattle.site_types.specs.declared.reply.Reply.TheVariants.{Done}
use Rattle.site_model.specs.World as worlds
use Rattle.flat_model.specs.Single.{body_change}
use Rattle.site_part.specs.Plans.{quiet_plan}
use Rattle.site_part.specs.declared.plan.Plan.{Plan}
use Rattle.tree_edits.specs.declared.detaching.Detached.{Detached}

-- what is told of the next revision's id: it, or that it is past the last
abbrev pub RevisionGiven : worlds.TreePart → Option ℕ → Type 0
RevisionGiven part None = LAST_REVISION_ID < part.next_revision
RevisionGiven part (Some id) =
    (part.next_revision ≤ LAST_REVISION_ID) × (id ≡ part.next_revision)

-- what is kept of a page that becomes a regular one with this revision, live or not
abbrev pub regular_body : Body → Bool → ℕ → ℕ → Body
regular_body body live revision moment =
    record body {
      source = None;
      live = live;
      shown = Some revision;
      latest = Some revision;
      first_published = if live then Some moment else None;
      last_published = if live then Some moment else None;
    }

-- the plan of an alias that becomes a regular page
abbrev pub detaching_plan : ℕ → Detached → ℕ → Plan
detaching_plan page made next_page =
    let time = made.revision.made in
    quiet_plan Done
    (record (body_change page made.body time next_page (made.revision.id + 1)) {
      revisions = made.revision ∷ [];
    })
