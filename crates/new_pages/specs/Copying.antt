-- What is planned of a copy.
use Rattle.std.specs.Prelude.{◌≡◌, ℕ, ◌+◌, ◌≤◌, nat_lt, Bool, false, Some, List, [], ◌∷◌, ◌++◌, length, map, take, drop, Option, Result, Ok, Err, if◌then◌else◌}
use Rattle.std.specs.List.{AllByRecursion, list_any}
use Rattle.page_tree.specs.Tree.{Forest, bare, grown, End, graft, node_of}
use Rattle.page_tree.specs.Rows.{row_with, rows_below, rows_of}
use Rattle.step_path.specs.Path.{BeginsWith, path_text, relabelled}
use Rattle.step_path.specs.declared.path.TheConstants.{MAX_DEPTH}
use Rattle.site_ids.specs.declared.ids.TheConstants.{LAST_PAGE_ID, LAST_REVISION_ID}
use Rattle.site_types.specs.declared.body.Body.{Body}
use Rattle.site_types.specs.declared.page_row.PageRow.{PageRow}
use Rattle.site_types.specs.declared.refusal.Refusal.{Refusal}
use Rattle.site_types.specs.declared.reply.Reply.TheVariants.{Page as PageReply}
use Rattle.site_types.specs.declared.revision.Revision.{Revision}
use Rattle.page_store.specs.Pages.{Page}
use Rattle.path_moves.specs.declared.fault.PathFault.{PathFault}
use Rattle.path_moves.specs.declared.fault.PathFault.TheVariants as paths
use Rattle.slug_urls.specs.declared.fault.UrlFault.{UrlFault}
use Rattle.slug_urls.specs.declared.fault.UrlFault.TheVariants as urls
use Rattle.tree_model.specs.Limits.{MAX_URL}
use Rattle.site_model.specs.World as worlds
use Rattle.site_model.specs.Copies.{to_copy, copies, copy_revisions, with_first_slug, into_copy}
use Rattle.site_model.specs.Create.{fresh_body}
use Rattle.site_model.specs.Rules.{slug_taken, steps_full, too_deep, url_too_long}
use Rattle.flat_model.specs.Single.{tree_change}
use Rattle.flat_model.specs.declared.change.Change.{Change}
use Rattle.flat_model.specs.declared.change.TreeChange.TheVariants.{Insert}
use Rattle.site_part.specs.Plans.{quiet_plan}
use Rattle.site_part.specs.declared.plan.Plan.{Plan}
use Rattle.page_copies.specs.Copied.{copy_rows}
use Rattle.new_pages.specs.Making.{IsPlace, row_at}
use Rattle.new_pages.specs.declared.place.NewPlace.{NewPlace}
use Rattle.new_pages.specs.declared.source.Source.{Source}
use Rattle.new_pages.specs.declared.copying.NewCopy.{NewCopy}

-- the rows below the page that is copied, which are copied with it
abbrev pub rows_below_it : List Page → Source → List Page
rows_below_it pages source = take source.rest (drop source.start pages)

-- A page that is copied, and the rows below it that are copied with it.
pub record IsSource (pages : List Page) (tree : Forest Body) (page : ℕ) (deep : Bool)
    (source : Source) : Type 0 where
  pub top : Page
  pub step : ℕ
  pub kids : Forest Body
  pub found : row_with page pages ≡ Some top
  pub path : source.path ≡ top.path
  pub url : source.url_length ≡ length top.url
  pub within : source.start + source.rest ≤ length pages
  pub rows_are : rows_below_it pages source ≡ rows_below (Some page) top.path top.url kids
  pub copied : to_copy deep (node_of page tree) ≡ grown page step top.slug top.body kids bare

-- whether the copy of a row would have too many steps, where the page goes to a path
abbrev pub is_deep : Source → List ℕ → Page → Bool
is_deep source path row = nat_lt MAX_DEPTH (length (relabelled source.path path row.path))

-- whether it would have too long a URL, where the page gets a URL
abbrev pub is_long : Source → List ℕ → Page → Bool
is_long source url row = nat_lt MAX_URL (length (url ++ drop source.url_length row.url))

-- the path that is told, unless the copy of a page below would have too many steps
abbrev pub path_within : List Page → Source → Result (List ℕ) PathFault → Result (List ℕ) PathFault
path_within pages source (Ok path) =
    if list_any (is_deep source path) (rows_below_it pages source)
    then Err paths.TooDeep
    else Ok path
path_within pages source (Err fault) = Err fault

-- the URL that is told, unless the copy of a page below would have too long a URL
abbrev pub url_within : List Page → Source → Result (List ℕ) UrlFault → Result (List ℕ) UrlFault
url_within pages source (Ok url) =
    if list_any (is_long source url) (rows_below_it pages source)
    then Err urls.TooLong
    else Ok url
url_within pages source (Err fault) = Err fault

-- the tree with the copy appended below its parent
abbrev pub copied_tree : worlds.TreePart → ℕ → ℕ → ℕ → List ℕ → Bool → Forest Body
copied_tree part caller page parent slug deep =
    graft parent End
    (with_first_slug slug (copies part caller 0 (to_copy deep (node_of page part.tree)))) part.tree

-- The rules on the place of a copy.
abbrev pub copy_place_rules : worlds.TreePart → ℕ → ℕ → ℕ → List ℕ → Bool → List (Option Refusal)
copy_place_rules part caller page parent slug deep =
    let rows = rows_of (copied_tree part caller page parent slug deep) in
    into_copy part page parent deep
    ∷ slug_taken part.tree parent slug
    ∷ steps_full rows
    ∷ too_deep rows
    ∷ url_too_long rows
    ∷ []

-- No copy of a row below has too many steps, where the page goes to a path.
abbrev pub AreShallow : List Page → Source → List ℕ → Type 0
AreShallow pages source path =
    list_any (is_deep source path) (rows_below_it pages source) ≡ false

-- A place for a copy.
pub record IsCopyPlace (part : worlds.TreePart) (pages : List Page) (parent : ℕ) (slug : List ℕ)
    (source : Source) (given : NewPlace) : Type 0 where
  pub place : IsPlace part.tree parent slug given
  pub shallow : AreShallow pages source given.path

-- Ids are left for a copy and so many copies more.
pub record AreLeft (part : worlds.TreePart) (more : ℕ) : Type 0 where
  pub pages : part.next_page + more ≤ LAST_PAGE_ID
  pub revisions : part.next_revision + more ≤ LAST_REVISION_ID

-- A copy that may be made: what is copied, its place, the revisions, and ids that are left.
pub record IsNewCopy (part : worlds.TreePart) (pages : List Page) (moment caller page parent : ℕ)
    (slug : List ℕ) (deep : Bool) (made : NewCopy) : Type 0 where
  pub source : IsSource pages part.tree page deep made.source
  pub place : IsCopyPlace part pages parent slug made.source made.place
  pub revisions : made.revisions
      ≡ copy_revisions part caller moment 0 (to_copy deep (node_of page part.tree))
  pub left : AreLeft part made.source.rest

-- the row of a page that is copied, as it stands where its copy goes
abbrev pub moved_row : Source → NewPlace → Page → Page
moved_row source place row =
    record row {
      path = relabelled source.path place.path row.path;
      url = place.url ++ drop source.url_length row.url;
    }

-- the rows that come with a copy
abbrev pub rows_of_copy : worlds.TreePart → ℕ → List ℕ → List Page → Source → NewPlace →
    List (PageRow × List ℕ)
rows_of_copy part caller slug pages source place = (
  row_at (part.next_page + 0) place.path slug (fresh_body caller (part.next_revision + 0)),
  place.url,
)
    ∷ copy_rows part caller 1 (map (moved_row source place) (rows_below_it pages source))

-- What can be copied row by row: each row below begins with the page's path, and has room there.
pub record AreMovable (pages : List Page) (source : Source) (place : NewPlace) : Type 0 where
  pub within : source.start + source.rest ≤ length pages
  pub begin : AllByRecursion (λ (row : Page). BeginsWith source.path row.path)
      (rows_below_it pages source)
  pub shallow : AreShallow pages source place.path

-- what a copy changes
abbrev pub copying_change : List (PageRow × List ℕ) → List Revision → ℕ → ℕ → ℕ → Change
copying_change rows revisions time next_page next_revision =
    record (tree_change (Insert rows) time next_page next_revision) { revisions = revisions }

-- the plan of a copy
abbrev pub copying_plan : ℕ → NewPlace → List (PageRow × List ℕ) → List Revision → ℕ → ℕ → ℕ → Plan
copying_plan page place rows revisions time next_page next_revision =
    quiet_plan (PageReply page (path_text place.path) place.url)
    (copying_change rows revisions time next_page next_revision)
