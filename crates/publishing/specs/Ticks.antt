-- What is due at a moment, of rows and revisions, and what a plan tells of it.
use Rattle.std.specs.Prelude.{◌≡◌, ℕ, Bool, false, not, List, map, filter, Option, None, if◌then◌else◌}
use Rattle.std.specs.Option.{option_and_then, option_map_or}
use Rattle.page_tree.specs.Rows.{rows_of}
use Rattle.site_types.specs.declared.revision.Revision.{Revision}
use Rattle.site_model.specs.World as worlds
use Rattle.site_model.specs.Publishing.{has_expired}
use Rattle.site_model.specs.Ticks.{DuePage, Due, due_by, all_due, pages_due, due_at}
use Rattle.page_store.specs.Pages.{Page}
use Rattle.publishing.specs.Times.{body_in, named}
use Rattle.publishing.specs.declared.due.TickPlan.{TickPlan}

-- whether a live page expires
abbrev pub expiring_in : List Revision → ℕ → Page → Option DuePage
expiring_in revisions t row =
    if row.body.live
    then option_and_then (λ revision. due_by t row.id revision.expire revision)
    (named revisions row.body.shown)
    else None

-- whether a scheduled revision is to go live
abbrev pub going_live_in : List Revision → ℕ → Page → Option DuePage
going_live_in revisions t row =
    option_and_then (λ revision. due_by t row.id revision.go_live revision)
    (named revisions row.body.scheduled)

-- the live pages that expire
abbrev pub due_expiries : List Page → List Revision → ℕ → List DuePage
due_expiries pages revisions t = all_due (expiring_in revisions t) pages

-- the scheduled revisions whose moment has come
abbrev pub due_go_lives : List Page → List Revision → ℕ → List DuePage
due_go_lives pages revisions t = all_due (going_live_in revisions t) pages

-- What is due of these pages: those that stop being live, and the scheduled revisions whose moment has
-- come, which are dropped where they have expired by then.
abbrev pub due_of : List Page → List Revision → ℕ → Due
due_of pages revisions t =
    record {
      unpublished = due_expiries pages revisions t;
      published = filter (λ due. not (has_expired t due.revision)) (due_go_lives pages revisions t);
      dropped = filter (λ due. has_expired t due.revision) (due_go_lives pages revisions t);
    }

-- what is due in a world is due of the rows of its tree and of its revisions
abbrev pub DueInWorld : Type 0
DueInWorld =
    (part : worlds.TreePart) (t : ℕ) →
    due_at part t ≡ due_of (rows_of part.tree) part.revisions t

-- the revision that a page has scheduled
abbrev pub scheduled_in : List Page → List Revision → ℕ → Option Revision
scheduled_in pages revisions page =
    option_and_then (λ body. named revisions body.scheduled) (body_in page pages)

-- whether the scheduled revision of a page has expired
abbrev pub is_dropped : List Page → List Revision → ℕ → ℕ → Bool
is_dropped pages revisions t page =
    option_map_or (has_expired t) (scheduled_in pages revisions page) false

-- the pages of pairs
abbrev pub pages_in : List (ℕ × ℕ) → List ℕ
pages_in entries = map (λ entry. entry.1) entries

-- the pages of these pairs whose scheduled revision has not expired
abbrev pub published_in : List Page → List Revision → ℕ → List (ℕ × ℕ) → List ℕ
published_in pages revisions t entries =
    pages_in (filter (λ entry. not (is_dropped pages revisions t entry.1)) entries)

-- the pages of these pairs whose scheduled revision has expired
abbrev pub dropped_in : List Page → List Revision → ℕ → List (ℕ × ℕ) → List ℕ
dropped_in pages revisions t entries =
    pages_in (filter (λ entry. is_dropped pages revisions t entry.1) entries)

-- A plan has these pages that stop being live, and the pages of these pairs.
pub record IsSplit (pages : List Page) (revisions : List Revision) (t : ℕ) (unpublished : List ℕ)
    (due : List (ℕ × ℕ)) (plan : TickPlan) : Type 0 where
  pub unpublished_are : plan.unpublished ≡ unpublished
  pub published_are : plan.published ≡ published_in pages revisions t due
  pub dropped_are : plan.dropped ≡ dropped_in pages revisions t due

-- A plan tells the pages of what is due, in the order of their moments.
pub record IsTickPlan (due : Due) (plan : TickPlan) : Type 0 where
  pub unpublished_are : plan.unpublished ≡ pages_due due.unpublished
  pub published_are : plan.published ≡ pages_due due.published
  pub dropped_are : plan.dropped ≡ pages_due due.dropped
