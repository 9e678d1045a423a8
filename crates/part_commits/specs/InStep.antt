-- What keeps the tables and the aliases in step as a change is made: for the tables, pages whose
-- fields are still to change do not count, and the moments of all others stay those that they were.
use Rattle.std.specs.Prelude.{◌≡◌, ◌+◌, ◌≤◌, ℕ, Bool, false, nat_eq, List, [], ◌∷◌, length}
use Rattle.std.specs.List.{list_any}
use Rattle.std.specs.Option.{IfSome, option_and_then}
use Rattle.site_types.specs.declared.body.Body.{Body}
use Rattle.site_types.specs.declared.revision.Revision.{Revision}
use Rattle.page_store.specs.Pages.{Page}
use Rattle.time_table.specs.Table.{moment_in}
use Rattle.time_table.specs.declared.times.Times.{Times}
use Rattle.link_index.specs.Pairs.{without}
use Rattle.publishing.specs.Times.{body_in, expiry_of, go_live_of}
use Rattle.flat_model.specs.Lists.{PartLists}
use Rattle.flat_model.specs.Made.{made, rows_made}
use Rattle.flat_model.specs.declared.change.Change.{Change}
use Rattle.flat_model.specs.declared.change.TreeChange.{TreeChange}
use Rattle.flat_model.specs.declared.change.TreeChange.TheVariants as trees
use Rattle.site_part.specs.declared.part.TreePart.{TreePart}

-- whether the page is among those that get other fields
abbrev pub is_listed : ℕ → List (ℕ × Body) → Bool
is_listed page bodies = list_any (λ (one : ℕ × Body). nat_eq one.0 page) bodies

-- The tables of these pages and revisions, but for the pages that are still to get other fields.
pub record TimedBut (bodies : List (ℕ × Body)) (times : Times) (pages : List Page)
    (revisions : List Revision) : Type 0 where
  pub expiries : (page : ℕ) → is_listed page bodies ≡ false →
      moment_in times.expiries.entries page
      ≡ option_and_then (expiry_of revisions) (body_in page pages)
  pub go_lives : (page : ℕ) → is_listed page bodies ≡ false →
      moment_in times.go_lives.entries page
      ≡ option_and_then (go_live_of revisions) (body_in page pages)

-- A page has the same moments with other revisions.
pub record SameMoments (before after : List Revision) (body : Body) : Type 0 where
  pub expiry : expiry_of after body ≡ expiry_of before body
  pub go_live : go_live_of after body ≡ go_live_of before body

-- A change after which each page that it gives no other fields has the moments that it had.
abbrev pub StaysInStep : PartLists → Change → Type 0
StaysInStep lists change =
    (page : ℕ) → is_listed page change.bodies ≡ false →
    IfSome (body_in page (rows_made change.tree lists.pages))
    (SameMoments lists.revisions (made change lists).revisions)

-- the pairs without those of these aliases
abbrev pub without_aliases : List ℕ → List (ℕ × ℕ) → List (ℕ × ℕ)
without_aliases [] pairs = pairs
without_aliases (page ∷ pages) pairs = without_aliases pages (without page pairs)

-- how many pages come
abbrev pub rows_coming : TreeChange → ℕ
rows_coming trees.Nothing = 0
rows_coming (trees.Insert new) = length new
rows_coming (trees.Move plan urls) = 0
rows_coming (trees.Delete page) = 0
rows_coming (trees.Rename page slug urls) = 0

-- There is room in the tables for the moments of the pages that get other fields, and among the
-- aliases for these and those that come.
pub record HasIndexRoom (kept : TreePart) (change : Change) : Type 0 where
  pub expiries : length change.bodies ≤ kept.times.expiries.spare
  pub go_lives : length change.bodies ≤ kept.times.go_lives.spare
  pub aliases : rows_coming change.tree + length change.bodies ≤ kept.aliases.spare

-- A change can be made with all in step: there is room, and what it does not touch stays.
pub record CanStayInStep (kept : TreePart) (lists : PartLists) (change : Change) : Type 0 where
  pub room : HasIndexRoom kept change
  pub stays : StaysInStep lists change

-- All is the same but the tables, which have the same moments, and the aliases, which are the same
-- pairs.
pub record HasOtherRoom (before after : TreePart) : Type 0 where
  pub is : after ≡ record before { times = after.times; aliases = after.aliases }
  pub expiries : after.times.expiries.entries ≡ before.times.expiries.entries
  pub go_lives : after.times.go_lives.entries ≡ before.times.go_lives.entries
  pub aliases : after.aliases.pairs ≡ before.aliases.pairs
