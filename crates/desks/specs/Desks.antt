-- What a part of the open desks is seen as: the desks, rising by page.
use Rattle.std.specs.Prelude.{ℕ, suc, ◌<◌, ◌==◌, ◌&&◌, Bool, not, nat_lt, if◌then◌else◌, Option, List, [], ◌∷◌, find, filter, map}
use Rattle.std.specs.List.{AllByRecursion}
use Rattle.std.specs.Option.{option_map}
use Rattle.site_types.specs.Content.{ContentValue}
use Rattle.site_types.specs.declared.world_rows.DeskRow.{DeskRow}

-- The desks, and how many more can be opened without taking memory.
pub record DeskList : Type 0 where
  pub desks : List DeskRow
  pub spare : ℕ

-- the desk of a user on a page, with its text
abbrev pub desk_of : ℕ → ℕ → ContentValue → DeskRow
desk_of page user text = record { page = page; user = user; content = text }

-- the pages rise, so that a page has at most one desk
abbrev pub PagesRise : List DeskRow → Type 0
PagesRise [] = Unit {0}
PagesRise (desk ∷ desks) = AllByRecursion (λ later. desk.page < later.page) desks × PagesRise desks

-- whether a desk is the user's on the page
abbrev pub is_own : ℕ → ℕ → DeskRow → Bool
is_own page user desk = (desk.page == page) && (desk.user == user)

-- the desk on a page
abbrev pub desk_in : ℕ → List DeskRow → Option DeskRow
desk_in page desks = find (λ desk. desk.page == page) desks

-- the user whose desk is on the page
abbrev pub user_in : ℕ → List DeskRow → Option ℕ
user_in page desks = option_map (λ desk. desk.user) (desk_in page desks)

-- the text of a user's desk on a page
abbrev pub text_in : ℕ → ℕ → List DeskRow → Option ContentValue
text_in page user desks = option_map (λ desk. desk.content) (find (is_own page user) desks)

-- the desks with one more, before the first one on a greater page
abbrev pub with_desk : DeskRow → List DeskRow → List DeskRow
with_desk new [] = new ∷ []
with_desk new (desk ∷ desks) =
    if nat_lt new.page desk.page then new ∷ desk ∷ desks else desk ∷ with_desk new desks

-- a desk with another text, if it is the user's on the page
abbrev pub rewritten : ℕ → ℕ → ContentValue → DeskRow → DeskRow
rewritten page user text desk =
    if is_own page user desk then record desk { content = text } else desk

-- the desks with another text at the user's desk on the page
abbrev pub with_text : ℕ → ℕ → ContentValue → List DeskRow → List DeskRow
with_text page user text desks = map (rewritten page user text) desks

-- the desks on all other pages
abbrev pub without : ℕ → List DeskRow → List DeskRow
without page desks = filter (λ desk. not (desk.page == page)) desks

-- how many desks stand on pages below this one, where the pages rise
abbrev pub place_in : ℕ → List DeskRow → ℕ
place_in page [] = 0
place_in page (desk ∷ desks) = if nat_lt desk.page page then suc (place_in page desks) else 0
