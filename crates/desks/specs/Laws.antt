-- Laws of the open desks, where their pages rise.
use Rattle.std.specs.Prelude.{◌≡◌, ℕ, ◌==◌, Bool, not, if◌then◌else◌, Option, Some, None, List, filter, option_to_list}
use Rattle.site_types.specs.Content.{ContentValue}
use Rattle.site_types.specs.declared.world_rows.DeskRow.{DeskRow}
use Rattle.desks.specs.Desks.{PagesRise, is_own, desk_in, user_in, text_in, with_desk, with_text, without}

-- the desk that is found on a page is all that stand there
abbrev pub OneDeskAPage : Type 0
OneDeskAPage =
    (page : ℕ) (desks : List DeskRow) → PagesRise desks →
    filter (λ desk. desk.page == page) desks ≡ option_to_list (desk_in page desks)

-- the text of a desk, where it is the user's
abbrev pub own_text : ℕ → Option DeskRow → Option ContentValue
own_text user None = None
own_text user (Some desk) = if desk.user == user then Some desk.content else None

-- a user's desk on a page is the one on the page
abbrev pub OwnIsTheOne : Type 0
OwnIsTheOne =
    (page user : ℕ) (desks : List DeskRow) → PagesRise desks →
    text_in page user desks ≡ own_text user (desk_in page desks)

-- the desks without a user's on a page are those on other pages, if the one there is the user's
abbrev pub OwnGoesAlone : Type 0
OwnGoesAlone =
    (page user : ℕ) (desks : List DeskRow) → PagesRise desks → user_in page desks ≡ Some user →
    filter (λ desk. not (is_own page user desk)) desks ≡ without page desks

-- The pages still rise after each change.
pub record StillRise : Type 0 where
  -- where a desk is opened on a page that has none
  pub with_desk_rises : (new : DeskRow) (desks : List DeskRow) → desk_in new.page desks ≡ None →
      PagesRise desks → PagesRise (with_desk new desks)
  -- where a text is saved
  pub with_text_rises : (page user : ℕ) (text : ContentValue) (desks : List DeskRow) →
      PagesRise desks → PagesRise (with_text page user text desks)
  -- where some desks are taken out
  pub some_rise : (stays : DeskRow → Bool) (desks : List DeskRow) → PagesRise desks →
      PagesRise (filter stays desks)
