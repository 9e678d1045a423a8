-- Copies of pages: each copy is a regular page of its maker's, not live, with one new revision of
-- the latest content; an alias's is what it shows.
use Rattle.std.specs.Prelude.{ℕ, Bool, true, false, nat_lt, ◌+◌, ◌||◌, ◌&&◌, List, [], ◌∷◌, ◌++◌, length, Option, Some, None}
use Rattle.std.specs.Option.{unwrap_or}
use Rattle.page_tree.specs.Tree.{Forest, bare, grown, End, has_page, node_of, ids_of, graft}
use Rattle.page_tree.specs.Rows.{rows_of}
use Rattle.site_ids.specs.declared.ids.TheConstants.{LAST_PAGE_ID, LAST_REVISION_ID}
use Rattle.site_types.specs.Content.{ContentValue}
use Rattle.site_types.specs.declared.body.Body.{Body}
use Rattle.site_types.specs.declared.refusal.Refusal.{Refusal}
use Rattle.site_types.specs.declared.refusal.Refusal.TheVariants.{IdsFull, IntoItself}
use Rattle.site_types.specs.declared.revision.Revision.{Revision}
use Rattle.site_model.specs.World.{TreePart, Deed, time_at}
use Rattle.site_model.specs.Rules.{refused_if, first_of, slug_taken, steps_full, too_deep, url_too_long, content_full}
use Rattle.site_model.specs.Create.{fresh_body, plain_revision, page_reply, plain_deed}
use Rattle.site_model.specs.Aliases.{content_with, shown_by, no_content}

-- the content that a copy of a page of which this is kept has
abbrev pub copied_content : TreePart → Body → ContentValue
copied_content part body = unwrap_or (kept body.source) no_content
  where
    kept : Option ℕ → Option ContentValue
    kept None = content_with part body.latest
    kept (Some source) = shown_by part body

-- how many pages there are
abbrev pub size_of : Forest Body → ℕ
size_of tree = length (ids_of tree)

-- The page alone, or with all below it: what is copied.
abbrev pub to_copy : Bool → Forest Body → Forest Body
to_copy deep bare = bare
to_copy true (grown i step slug body kids rest) = grown i step slug body kids bare
to_copy false (grown i step slug body kids rest) = grown i step slug body bare bare

-- copies of these pages, of which so many came before, with their slugs and steps; ids are given
-- depth first
abbrev pub copies : TreePart → ℕ → ℕ → Forest Body → Forest Body
copies part caller before bare = bare
copies part caller before (grown i step slug body kids rest) =
    grown (part.next_page + before) step slug (fresh_body caller (part.next_revision + before))
    (copies part caller (before + 1) kids)
    (copies part caller (before + 1 + size_of kids) rest)

-- the revisions of these copies
abbrev pub copy_revisions : TreePart → ℕ → ℕ → ℕ → Forest Body → List Revision
copy_revisions part caller moment before bare = []
copy_revisions part caller moment before (grown i step slug body kids rest) =
    plain_revision (part.next_revision + before) (part.next_page + before) caller moment
    (copied_content part body)
    ∷ (copy_revisions part caller moment (before + 1) kids
    ++ copy_revisions part caller moment (before + 1 + size_of kids) rest)

-- the first of these pages with another slug
abbrev pub with_first_slug : List ℕ → Forest Body → Forest Body
with_first_slug new bare = bare
with_first_slug new (grown i step slug body kids rest) = grown i step new body kids rest

-- the world with the copy appended below its parent
abbrev pub with_copy : TreePart → ℕ → ℕ → ℕ → ℕ → List ℕ → Bool → TreePart
with_copy part now caller page parent slug deep =
    let moment = time_at part now in
    let copied = to_copy deep (node_of page part.tree) in
    record part {
      time = moment;
      next_page = part.next_page + size_of copied;
      next_revision = part.next_revision + size_of copied;
      tree = graft parent End (with_first_slug slug (copies part caller 0 copied)) part.tree;
      revisions = part.revisions ++ copy_revisions part caller moment 0 copied;
    }

-- a deep copy would come below what it copies
abbrev pub into_copy : TreePart → ℕ → ℕ → Bool → Option Refusal
into_copy part page parent deep =
    refused_if (deep && has_page parent (node_of page part.tree)) IntoItself

-- more ids are needed than are left
abbrev pub copy_ids_full : TreePart → TreePart → Option Refusal
copy_ids_full part after =
    refused_if
    (nat_lt (LAST_PAGE_ID + 1) after.next_page
    || nat_lt (LAST_REVISION_ID + 1) after.next_revision)
    IdsFull

-- the rules of a copy
abbrev pub copy_rules : TreePart → ℕ → ℕ → ℕ → ℕ → List ℕ → Bool → Option Refusal
copy_rules part now caller page parent slug deep =
    let after = with_copy part now caller page parent slug deep in
    let rows = rows_of after.tree in
    first_of
    (into_copy part page parent deep
    ∷ slug_taken part.tree parent slug
    ∷ steps_full rows
    ∷ too_deep rows
    ∷ url_too_long rows
    ∷ copy_ids_full part after
    ∷ content_full after.revisions
    ∷ [])

-- what a copy does
abbrev pub copy : TreePart → ℕ → ℕ → ℕ → ℕ → List ℕ → Bool → Deed
copy part now caller page parent slug deep =
    let after = with_copy part now caller page parent slug deep in
    plain_deed after (page_reply part.next_page after.tree)
