-- The command that creates a page: its own rules, in their order, and its effect.
use Rattle.std.specs.Prelude.{ℕ, ◌+◌, false, List, [], ◌∷◌, ◌++◌, Option, Some, None}
use Rattle.page_tree.specs.Tree.{Forest, bare, grown, End, graft}
use Rattle.page_tree.specs.Rows.{rows_of}
use Rattle.page_tree.specs.Walk.{path_of, url_of}
use Rattle.step_path.specs.Path.{path_text}
use Rattle.site_ids.specs.declared.ids.TheConstants.{LAST_PAGE_ID, LAST_REVISION_ID}
use Rattle.site_types.specs.Content.{ContentValue}
use Rattle.site_types.specs.declared.body.Body.{Body}
use Rattle.site_types.specs.declared.revision.Revision.{Revision}
use Rattle.site_types.specs.declared.refusal.Refusal.{Refusal}
use Rattle.site_types.specs.declared.reply.Reply.{Reply}
use Rattle.site_types.specs.declared.reply.Reply.TheVariants.{Page}
use Rattle.site_model.specs.World.{TreePart, Deed, time_at}
use Rattle.site_model.specs.Rules.{first_of, slug_taken, steps_full, too_deep, url_too_long, ids_full, content_full}

-- What is kept of a page that was just made: it is its maker's, not live, and shows its one
-- revision, the latest.
abbrev pub fresh_body : ℕ → ℕ → Body
fresh_body owner revision =
    record {
      owner = owner;
      source = None;
      live = false;
      expired = false;
      shown = Some revision;
      latest = Some revision;
      scheduled = None;
      first_published = None;
      last_published = None;
      locked_by = None;
      workflow = None;
      moderation = None;
    }

-- a revision without moments to publish it or to end it
abbrev pub plain_revision : ℕ → ℕ → ℕ → ℕ → ContentValue → Revision
plain_revision id page by made content =
    record {
      id = id;
      page = page;
      by = by;
      made = made;
      content = content;
      go_live = None;
      expire =
          None;
    }

-- the new page, standing alone
abbrev pub new_page : TreePart → ℕ → List ℕ → Forest Body
new_page part caller slug = grown part.next_page 1 slug (fresh_body caller part.next_revision) bare
    bare

-- a page's reply: its id, the text of its path, and its URL
abbrev pub page_reply : ℕ → Forest Body → Reply
page_reply id tree = Page id (path_text (path_of id tree)) (url_of id tree)

-- the world with the new page appended below its parent, with its one revision
abbrev pub created : TreePart → ℕ → ℕ → ℕ → List ℕ → ContentValue → TreePart
created part now caller parent slug content =
    record part {
      time = time_at part now;
      next_page = part.next_page + 1;
      next_revision = part.next_revision + 1;
      tree = graft parent End (new_page part caller slug) part.tree;
      revisions = part.revisions ++ plain_revision part.next_revision part.next_page caller
          (time_at part now) content ∷ [];
    }

-- a change of the tree part with this reply, which opens no desk and shuts none
abbrev pub plain_deed : TreePart → Reply → Deed
plain_deed part reply = record { part = part; reply = reply; opened = None; shut = false }

-- what refuses a creation, where the world would then be the second
abbrev pub creation_rules : TreePart → TreePart → ℕ → List ℕ → Option Refusal
creation_rules part after parent slug =
    let rows = rows_of after.tree in
    first_of
    (slug_taken part.tree parent slug
    ∷ steps_full rows
    ∷ too_deep rows
    ∷ url_too_long rows
    ∷ ids_full LAST_PAGE_ID part.next_page
    ∷ ids_full LAST_REVISION_ID part.next_revision
    ∷ content_full after.revisions
    ∷ [])

-- the rules of a creation by a caller at a moment
abbrev pub create_rules : TreePart → ℕ → ℕ → ℕ → List ℕ → ContentValue → Option Refusal
create_rules part now caller parent slug content =
    creation_rules part (created part now caller parent slug content) parent slug

-- what a creation does
abbrev pub create : TreePart → ℕ → ℕ → ℕ → List ℕ → ContentValue → Deed
create part now caller parent slug content =
    let after = created part now caller parent slug content in
    plain_deed after (page_reply part.next_page after.tree)
