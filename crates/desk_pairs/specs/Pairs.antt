-- Which pages have an open desk, and whose it is, as a list that rises by page.
use Rattle.std.specs.Prelude.{ℕ, Bool, ◌==◌, not, List, filter}
use Rattle.std.specs.List.{list_any}
use Rattle.site_model.specs.World.{DeskPair}
use Rattle.site_model.specs.Desks.{desk_key}
use Rattle.site_model.specs.Users.{put_in}

-- The open desks without their texts, and how many more can be put in without taking memory.
pub record PairList : Type 0 where
  pub pairs : List DeskPair
  pub spare : ℕ

-- the desk of a user on a page
abbrev pub pair_of : ℕ → ℕ → DeskPair
pair_of page user = record { page = page; user = user }

-- whether a desk is on the page
abbrev pub is_on : ℕ → DeskPair → Bool
is_on page pair = pair.page == page

-- whether a desk is open on the page
abbrev pub has_desk : List DeskPair → ℕ → Bool
has_desk pairs page = list_any (λ pair. pair.page == page) pairs

-- the open desks with one more
abbrev pub with_pair : ℕ → ℕ → List DeskPair → List DeskPair
with_pair page user pairs = put_in desk_key (pair_of page user) pairs

-- the open desks without the one on a page
abbrev pub without : ℕ → List DeskPair → List DeskPair
without page pairs = filter (λ pair. not (pair.page == page)) pairs
