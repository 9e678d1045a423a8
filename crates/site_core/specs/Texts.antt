-- The open desks with their texts, kept as sixteen parts, and what a plan leaves of the desk on a page.
use Rattle.std.specs.Prelude.{◌≡◌, ◌≤◌, ℕ, ◌==◌, if◌then◌else◌, List, [], get_or, Option, Some, None, find}
use Rattle.std.specs.List.{AllByRecursion, list_any}
use Rattle.std.specs.Option.{option_map}
use Rattle.site_types.specs.Content.{ContentValue}
use Rattle.site_types.specs.declared.world_rows.DeskRow.{DeskRow}
use Rattle.site_model.specs.World.{Desk}
use Rattle.site_model.specs.Parts.{stripe_of}
use Rattle.desks.specs.Desks.{desk_of, desk_in, rewritten}

-- The desks of each stripe, and how many more can be opened in each without taking memory.
pub record DeskLists : Type 0 where
  pub lists : List (List DeskRow)
  pub spares : List ℕ

-- the desks that are kept in the part of a stripe
abbrev pub list_of : ℕ → List (List DeskRow) → List DeskRow
list_of number lists = get_or lists number []

-- how many more can be opened in the part of a page's stripe
abbrev pub room_for : ℕ → List ℕ → ℕ
room_for page spares = get_or spares (stripe_of page) 0

-- the desk that is kept on a page, in the part of the page's stripe
abbrev pub kept_on : ℕ → List (List DeskRow) → Option DeskRow
kept_on page lists = desk_in page (list_of (stripe_of page) lists)

-- each desk stands in the part of its page's stripe
abbrev pub InStripes : List (List DeskRow) → Type 0
InStripes lists =
    (number : ℕ) → AllByRecursion (λ desk. stripe_of desk.page ≡ number) (list_of number lists)

-- an open desk as it is kept
abbrev pub row_of : Desk → DeskRow
row_of desk = desk_of desk.page desk.user desk.text

-- the open desk on a page
abbrev pub desk_on : ℕ → List Desk → Option Desk
desk_on page desks = find (λ desk. desk.page == page) desks

-- What is kept of the open desks is those of a world, page by page.
abbrev pub AreDesks : List (List DeskRow) → List Desk → Type 0
AreDesks lists desks = (page : ℕ) → kept_on page lists ≡ option_map row_of (desk_on page desks)

-- the desk that a plan opens, if it is on this page, or else what is there
abbrev pub opened_on : Option (ℕ × ℕ × ContentValue) → ℕ → Option DeskRow → Option DeskRow
opened_on None page kept = kept
opened_on (Some desk) page kept =
    if desk.0 == page then Some (desk_of desk.0 desk.1 desk.2) else kept

-- what is there, with the text that a plan saves if it is for that desk
abbrev pub saved_on : Option (ℕ × ℕ × ContentValue) → Option DeskRow → Option DeskRow
saved_on None kept = kept
saved_on (Some text) kept = option_map (rewritten text.0 text.1 text.2) kept

-- what a plan that opens, saves and ends these leaves of the desk on a page
abbrev pub desk_left : Option (ℕ × ℕ × ContentValue) → Option (ℕ × ℕ × ContentValue) → List ℕ → ℕ →
    Option DeskRow → Option DeskRow
desk_left opened saved shut page kept =
    if list_any (λ id. id == page) shut then None else saved_on saved (opened_on opened page kept)

-- A desk can be opened: none is kept on its page, and there is room in the part of the page's stripe.
pub record CanOpen (desks : DeskLists) (page : ℕ) : Type 0 where
  pub free : kept_on page desks.lists ≡ None
  pub room : 1 ≤ room_for page desks.spares

-- if a desk is to be opened, it can be
abbrev pub OpensWell : DeskLists → Option (ℕ × ℕ × ContentValue) → Type 0
OpensWell desks None = Unit {0}
OpensWell desks (Some desk) = CanOpen desks desk.0
