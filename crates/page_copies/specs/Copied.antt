-- What a copy of a page copies: the page alone, or with all below it.
use Rattle.std.specs.Prelude.{◌≡◌, ℕ, ◌+◌, ◌≤◌, Bool, true, List, [], ◌∷◌, ◌++◌, length, take, drop, Some, None}
use Rattle.page_tree.specs.Tree.{Forest, bare, grown, has_page, node_of}
use Rattle.page_tree.specs.Rows.{row_with, rows_below}
use Rattle.step_path.specs.Path.{path_text}
use Rattle.site_types.specs.Content.{ContentValue}
use Rattle.site_types.specs.declared.body.Body.{Body}
use Rattle.site_types.specs.declared.page_row.PageRow.{PageRow}
use Rattle.site_types.specs.declared.revision.Revision.{Revision}
use Rattle.page_store.specs.Pages.{Page}
use Rattle.site_model.specs.World.{TreePart}
use Rattle.site_model.specs.Create.{fresh_body, plain_revision}
use Rattle.site_model.specs.Copies.{copied_content, to_copy}
use Rattle.site_model.specs.Sound.{AreBodies}
use Rattle.page_copies.specs.Contents.{copied_by}

-- A page of a world that may be copied: it is there, and not the root, and what is kept of the
-- pages is sound.
pub record IsSource (part : TreePart) (page : ℕ) : Type 0 where
  pub bodies :
      AreBodies part.tree part.revisions part.next_user part.next_workflow part.workflows
  pub there : has_page page part.tree ≡ true
  pub below : page ≡ 1 → ⊥

-- the page of a row, with the content that its copy gets
abbrev pub copied_pair : TreePart → Page → ℕ × ContentValue
copied_pair part row = (row.id, copied_content part row.body)

-- these pages, depth first, each with the content that its copy gets
abbrev pub copied_pages : TreePart → Forest Body → List (ℕ × ContentValue)
copied_pages part bare = []
copied_pages part (grown i step slug body kids rest) =
    (i, copied_content part body) ∷ (copied_pages part kids ++ copied_pages part rest)

-- a copy of the page of a row gets a content
abbrev pub GetsContent : TreePart → Page → Type 0
GetsContent part row = copied_by part row.body ≡ None → ⊥

-- So many rows from a place on are those of what a copy of a page copies.
pub record AreCopied (pages : List Page) (tree : Forest Body) (page : ℕ) (deep : Bool)
    (place count : ℕ) : Type 0 where
  pub top : Page
  pub step : ℕ
  pub kids : Forest Body
  pub found : row_with page pages ≡ Some top
  pub within : place + count ≤ length pages
  pub rows_are : take count (drop place pages)
      ≡ top ∷ rows_below (Some page) top.path top.url kids
  pub copied : to_copy deep (node_of page tree) ≡ grown page step top.slug top.body kids bare

-- the row of a copy, with this number among the copies of a caller, where the row of the page at its
-- new place is this
abbrev pub copy_row : TreePart → ℕ → ℕ → Page → PageRow × List ℕ
copy_row part caller number row = (
  record {
    id = part.next_page + number;
    path = path_text row.path;
    depth = length row.path;
    numchild = 0;
    slug = row.slug;
    body = fresh_body caller (part.next_revision + number);
  },
  row.url,
)

-- the rows of copies, numbered from this one on
abbrev pub copy_rows : TreePart → ℕ → ℕ → List Page → List (PageRow × List ℕ)
copy_rows part caller number [] = []
copy_rows part caller number (row ∷ rows) =
    copy_row part caller number row ∷ copy_rows part caller (number + 1) rows

-- the revisions of copies with these contents, numbered from this one on
abbrev pub revisions_of : TreePart → ℕ → ℕ → ℕ → List (ℕ × ContentValue) → List Revision
revisions_of part caller moment number [] = []
revisions_of part caller moment number (copied ∷ pages) =
    plain_revision (part.next_revision + number) (part.next_page + number) caller moment copied.1
    ∷ revisions_of part caller moment (number + 1) pages
