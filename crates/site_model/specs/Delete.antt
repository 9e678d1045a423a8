-- The deletion of a page with all below it: its own rules, in their order, and its effect. The
-- aliases elsewhere that show a page which goes become regular pages first.
use Rattle.std.specs.Prelude.{ℕ, Bool, false, not, nat_lt, ◌+◌, ◌&&◌, List, [], ◌∷◌, ◌++◌, length, filter, Option, Some, None, if◌then◌else◌}
use Rattle.page_tree.specs.Tree.{Forest, has_page, node_of, without, ids_of}
use Rattle.page_tree.specs.Rows.{Row, rows_of}
use Rattle.site_ids.specs.declared.ids.TheConstants.{LAST_REVISION_ID}
use Rattle.site_types.specs.declared.body.Body.{Body}
use Rattle.site_types.specs.declared.revision.Revision.{Revision}
use Rattle.site_types.specs.declared.refusal.Refusal.{Refusal}
use Rattle.site_types.specs.declared.refusal.Refusal.TheVariants.{IdsFull}
use Rattle.site_types.specs.declared.reply.Reply.TheVariants.{Removed}
use Rattle.site_model.specs.World.{TreePart, Deed, time_at}
use Rattle.site_model.specs.Rules.{refused_if, first_of, content_full}
use Rattle.site_model.specs.Create.{plain_revision, plain_deed}
use Rattle.site_model.specs.Users.{put_in}
use Rattle.site_model.specs.Bodies.{rebodied}
use Rattle.site_model.specs.Aliases.{shown_content, detached_body, with_detached}

-- whether a source is among the pages that go
abbrev pub is_source_gone : Forest Body → Option ℕ → Bool
is_source_gone gone None = false
is_source_gone gone (Some source) = has_page source gone

-- whether a page stays, and shows one that goes
abbrev pub loses_source : Forest Body → Row Body → Bool
loses_source gone row = not (has_page row.id gone) && is_source_gone gone row.body.source

-- ids rise
abbrev pub id_key : ℕ → List ℕ
id_key id = id ∷ []

-- the pages of these rows that stay, and show one that goes; they rise by id
abbrev pub losing_source : Forest Body → List (Row Body) → List ℕ
losing_source gone [] = []
losing_source gone (row ∷ rows) =
    if loses_source gone row
    then put_in id_key row.id (losing_source gone rows)
    else losing_source gone rows

-- the aliases that a deletion of the page leaves without their source, rising by id
abbrev pub aliases_left : TreePart → ℕ → List ℕ
aliases_left part page = losing_source (node_of page part.tree) (rows_of part.tree)

-- the world with each of these aliases made a regular page, one after another
abbrev pub each_detached : ℕ → ℕ → List ℕ → TreePart → TreePart
each_detached now caller [] part = part
each_detached now caller (alias ∷ aliases) part =
    each_detached now caller aliases (with_detached part now caller alias)

-- the world without the page and all below it, and without their revisions and grants
abbrev pub without_page : TreePart → ℕ → ℕ → TreePart
without_page part now page =
    let gone = node_of page part.tree in
    record part {
      time = time_at part now;
      tree = without page part.tree;
      revisions = filter (λ revision. not (has_page revision.page gone)) part.revisions;
      grants = filter (λ grant. not (has_page grant.page gone)) part.grants;
    }

-- the world after the aliases that are left became regular pages, and the page then went
abbrev pub with_deleted : TreePart → ℕ → ℕ → ℕ → TreePart
with_deleted part now caller page =
    without_page (each_detached now caller (aliases_left part page) part) now page

-- more revision ids are needed than are left
abbrev pub revision_ids_full : TreePart → Option Refusal
revision_ids_full after = refused_if (nat_lt (LAST_REVISION_ID + 1) after.next_revision) IdsFull

-- the rules of a deletion
abbrev pub delete_rules : TreePart → ℕ → ℕ → ℕ → Option Refusal
delete_rules part now caller page =
    let after = with_deleted part now caller page in
    first_of (revision_ids_full after ∷ content_full after.revisions ∷ [])

-- how many pages go
abbrev pub count_gone : TreePart → ℕ → ℕ
count_gone part page = length (ids_of (node_of page part.tree))

-- what a deletion does: it tells how many pages went
abbrev pub delete : TreePart → ℕ → ℕ → ℕ → Deed
delete part now caller page =
    plain_deed (with_deleted part now caller page) (Removed (count_gone part page))

-- these aliases with the bodies of regular pages, each as it would become one in this world; their
-- revisions have the ids from this one on
abbrev pub each_rebodied : TreePart → ℕ → ℕ → List ℕ → Forest Body → Forest Body
each_rebodied part moment first [] tree = tree
each_rebodied part moment first (alias ∷ aliases) tree =
    each_rebodied part moment (first + 1) aliases
    (rebodied alias (detached_body part.tree moment first) tree)

-- the revisions of these aliases, from this id on, each with what its alias shows in this world
abbrev pub detached_revisions : TreePart → ℕ → ℕ → ℕ → List ℕ → List Revision
detached_revisions part moment caller first [] = []
detached_revisions part moment caller first (alias ∷ aliases) =
    plain_revision first alias caller moment (shown_content part alias)
    ∷ detached_revisions part moment caller (first + 1) aliases

-- the world after a deletion, told at once by the world before: the page goes, the aliases that are
-- left have the bodies of regular pages, and their revisions come behind those that are left
abbrev pub deleted_at_once : TreePart → ℕ → ℕ → ℕ → TreePart
deleted_at_once part now caller page =
    let moment = time_at part now in
    let gone = node_of page part.tree in
    let aliases = aliases_left part page in
    record part {
      time = moment;
      next_revision = part.next_revision + length aliases;
      tree = each_rebodied part moment part.next_revision aliases (without page part.tree);
      revisions = filter (λ revision. not (has_page revision.page gone)) part.revisions
          ++ detached_revisions part moment caller part.next_revision aliases;
      grants = filter (λ grant. not (has_page grant.page gone)) part.grants;
    }
