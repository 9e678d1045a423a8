-- What is planned of a page that is to be made.
use Rattle.std.specs.Prelude.{◌≡◌, ℕ, ◌+◌, nat_le, List, [], ◌∷◌, length, Option, Some, None, Result, Ok, Err, if◌then◌else◌}
use Rattle.page_tree.specs.Tree.{Forest, End, bare, grown, graft, kids_of, kid_with_slug}
use Rattle.page_tree.specs.Rows.{rows_of, child_url}
use Rattle.step_path.specs.Path.{path_text}
use Rattle.site_ids.specs.declared.ids.TheConstants.{LAST_PAGE_ID, LAST_REVISION_ID}
use Rattle.site_types.specs.Content.{ContentValue}
use Rattle.site_types.specs.declared.body.Body.{Body}
use Rattle.site_types.specs.declared.page_row.PageRow.{PageRow}
use Rattle.site_types.specs.declared.refusal.Refusal.{Refusal}
use Rattle.site_types.specs.declared.refusal.Refusal.TheVariants.{IdsFull}
use Rattle.site_types.specs.declared.reply.Reply.TheVariants.{Page}
use Rattle.site_types.specs.declared.revision.Revision.{Revision}
use Rattle.tree_model.specs.Changes.{url_in}
use Rattle.tree_model.specs.Limits.{MAX_URL}
use Rattle.path_moves.specs.Append.{appended_path}
use Rattle.slug_urls.specs.declared.fault.UrlFault.{UrlFault}
use Rattle.slug_urls.specs.declared.fault.UrlFault.TheVariants.{Taken, TooLong}
use Rattle.site_model.specs.World as worlds
use Rattle.site_model.specs.Create.{created, fresh_body, plain_revision}
use Rattle.site_model.specs.Rules.{first_of, slug_taken, steps_full, too_deep, url_too_long, ids_full, content_full}
use Rattle.flat_model.specs.Single.{tree_change}
use Rattle.flat_model.specs.declared.change.Change.{Change}
use Rattle.flat_model.specs.declared.change.TreeChange.TheVariants.{Insert}
use Rattle.site_part.specs.Plans.{quiet_plan}
use Rattle.site_part.specs.declared.plan.Plan.{Plan}
use Rattle.new_pages.specs.declared.place.NewPlace.{NewPlace}
use Rattle.new_pages.specs.declared.creation.NewPage.{NewPage}
use Rattle.new_pages.specs.declared.newcomer.Newcomer.{Newcomer}

-- the tree with a page made below a parent
abbrev pub with_page : Forest Body → ℕ → ℕ → List ℕ → Body → Forest Body
with_page tree page parent slug body = graft parent End (grown page 1 slug body bare bare) tree

-- why a page is refused its place, whose parent is there
abbrev pub place_refusal : Forest Body → ℕ → ℕ → List ℕ → Body → Option Refusal
place_refusal tree page parent slug body =
    let rows = rows_of (with_page tree page parent slug body) in
    first_of
    (slug_taken tree parent slug ∷ steps_full rows ∷ too_deep rows ∷ url_too_long rows ∷ [])

-- the URL of a new page, where this kid of its parent has its slug or none has
abbrev pub planned_url : Option ℕ → List ℕ → Result (List ℕ) UrlFault
planned_url (Some other) url = Err (Taken other)
planned_url None url = if nat_le (length url) MAX_URL then Ok url else Err TooLong

-- A page may be made here: no kid of its parent has the slug, and the path and the URL are those
-- behind the last kid.
pub record IsPlace (tree : Forest Body) (parent : ℕ) (slug : List ℕ) (place : NewPlace) : Type 0 where
  pub free : kid_with_slug slug (kids_of parent tree) ≡ None
  pub path : appended_path parent tree ≡ Ok place.path
  pub url : place.url ≡ child_url (url_in parent (rows_of tree)) slug

-- why a page gets no ids
abbrev pub ids_refusal : worlds.TreePart → Option Refusal
ids_refusal part =
    first_of
    (ids_full LAST_PAGE_ID part.next_page
    ∷ ids_full LAST_REVISION_ID part.next_revision
    ∷ [])

-- what is told of the next ids: both, or that one of them is past its last
abbrev pub IdsGiven : worlds.TreePart → Option (ℕ × ℕ) → Type 0
IdsGiven part None = ids_refusal part ≡ Some IdsFull
IdsGiven part (Some ids) = (ids_refusal part ≡ None) × (ids ≡ (part.next_page, part.next_revision))

-- The rules that may refuse a page whose parent is there, and whose maker may make it.
abbrev pub page_rules : worlds.TreePart → ℕ → ℕ → ℕ → List ℕ → ContentValue → List (Option Refusal)
page_rules part now caller parent slug content =
    let after = created part now caller parent slug content in
    let rows = rows_of after.tree in
    slug_taken part.tree parent slug
    ∷ steps_full rows
    ∷ too_deep rows
    ∷ url_too_long rows
    ∷ ids_full LAST_PAGE_ID part.next_page
    ∷ ids_full LAST_REVISION_ID part.next_revision
    ∷ content_full after.revisions
    ∷ []

-- A page that may be made: its place, and the next ids.
pub record IsNewPage (part : worlds.TreePart) (parent : ℕ) (slug : List ℕ) (made : NewPage) :
    Type 0 where
  pub place : IsPlace part.tree parent slug made.place
  pub page : made.page ≡ part.next_page
  pub revision : made.revision ≡ part.next_revision

-- the row of a page that comes at a path
abbrev pub row_at : ℕ → List ℕ → List ℕ → Body → PageRow
row_at page path slug body =
    record {
      id = page;
      path = path_text path;
      depth = length path;
      numchild = 0;
      slug = slug;
      body = body;
    }

-- What a page that comes changes: its row, revisions that come with it, and the next ids.
abbrev pub newcomer_change : Newcomer → List ℕ → List Revision → ℕ → ℕ → Change
newcomer_change newcomer slug revisions time next_revision =
    let row = row_at newcomer.id newcomer.place.path slug newcomer.body in
    let rows = (row, newcomer.place.url) ∷ [] in
    record (tree_change (Insert rows) time (newcomer.id + 1) next_revision) {
      revisions = revisions;
    }

-- the plan of a page that comes
abbrev pub newcomer_plan : Newcomer → List ℕ → List Revision → ℕ → ℕ → Plan
newcomer_plan newcomer slug revisions time next_revision =
    quiet_plan (Page newcomer.id (path_text newcomer.place.path) newcomer.place.url)
    (newcomer_change newcomer slug revisions time next_revision)

-- the plan of a creation
abbrev pub creation_plan : NewPage → List ℕ → ContentValue → ℕ → ℕ → Plan
creation_plan made slug content caller time =
    newcomer_plan
    (record { id = made.page; place = made.place; body = fresh_body caller made.revision }) slug
    (plain_revision made.revision made.page caller time content ∷ []) time (made.revision + 1)
