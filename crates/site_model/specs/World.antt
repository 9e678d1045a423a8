-- The world that all commands speak of: a plain tree of pages, and beside it plain lists. The pages
-- are Wagtail's.
use Rattle.std.specs.Prelude.{ℕ, Bool, List, Option, max}
use Rattle.page_tree.specs.Tree.{Forest}
use Rattle.site_types.specs.Content.{ContentValue}
use Rattle.site_types.specs.declared.body.Body.{Body}
use Rattle.site_types.specs.declared.reply.Reply.{Reply}
use Rattle.site_types.specs.declared.revision.Revision.{Revision}
use Rattle.site_types.specs.declared.world_rows.UserRow.{UserRow}
use Rattle.site_types.specs.declared.world_rows.Member.{Member}
use Rattle.site_types.specs.declared.world_rows.Grant.{Grant}

-- An open desk without its text: the page, and the user whose desk it is.
pub record DeskPair : Type 0 where
  pub page : ℕ
  pub user : ℕ

-- An open desk: the page, the user whose desk it is, and what that user has written.
pub record Desk : Type 0 where
  pub page : ℕ
  pub user : ℕ
  pub text : ContentValue

-- All of the world but the texts of the open desks. Users, groups, tasks and workflows are numbered
-- from 1 on; the lists of users, tasks and workflows are in that order. A group is nothing but its
-- number.
pub record TreePart : Type 0 where
  pub time : ℕ
  pub next_page : ℕ
  pub next_revision : ℕ
  pub next_user : ℕ
  pub next_group : ℕ
  pub next_task : ℕ
  pub next_workflow : ℕ
  pub users : List UserRow
  pub tasks : List (List ℕ)
  pub workflows : List (List ℕ)
  pub members : List Member
  pub grants : List Grant
  pub tree : Forest Body
  pub revisions : List Revision
  pub desk_pairs : List DeskPair

-- The world: its tree part, and the open desks, which rise by page.
pub record World : Type 0 where
  pub part : TreePart
  pub desks : List Desk

-- What a command comes to of itself: the tree part after it, in which the open desks are still
-- those before it, its reply, the text of the desk that it opens, and whether it shuts the caller's
-- desk.
pub record Deed : Type 0 where
  pub part : TreePart
  pub reply : Reply
  pub opened : Option ContentValue
  pub shut : Bool

-- What an accepted entry does beside changing the tree part: its reply, the desk that it opens, and
-- the desks that end.
pub record Effect : Type 0 where
  pub reply : Reply
  pub opened : Option Desk
  pub ended : List DeskPair

-- a desk without its text
abbrev pub pair_of : Desk → DeskPair
pair_of desk = record { page = desk.page; user = desk.user }

-- the moment of an entry: the world's time never falls
abbrev pub time_at : TreePart → ℕ → ℕ
time_at part now = max part.time now
