-- What a time table is seen as: the pages that have a moment, in the order of their moments.
use Rattle.std.specs.Prelude.{◌≡◌, ℕ, Bool, true, false, not, nat_eq, nat_lt, nat_le, if◌then◌else◌, Option, Some, None, List, [], ◌∷◌, filter}
use Rattle.std.specs.List.{AllByRecursion}

-- Pairs of a moment and a page, which rise by moment and then by page, each page once; and how many
-- more pages can get a moment without taking memory.
pub record TimeList : Type 0 where
  pub entries : List (ℕ × ℕ)
  pub spare : ℕ

-- whether one pair comes before another: its moment does, or at the same moment its page
abbrev pub is_earlier : ℕ × ℕ → ℕ × ℕ → Bool
is_earlier one other = if nat_eq one.0 other.0 then nat_lt one.1 other.1 else nat_lt one.0 other.0

-- whether the pair is that of the page
abbrev pub is_of : ℕ → ℕ × ℕ → Bool
is_of page entry = nat_eq entry.1 page

-- the moment of a page, if it has one
abbrev pub moment_in : List (ℕ × ℕ) → ℕ → Option ℕ
moment_in [] page = None
moment_in (entry ∷ entries) page =
    if is_of page entry then Some entry.0 else moment_in entries page

-- the pairs of all other pages
abbrev pub without : ℕ → List (ℕ × ℕ) → List (ℕ × ℕ)
without page entries = filter (λ entry. not (is_of page entry)) entries

-- the pairs with one more, behind those that come before it
abbrev pub put_in : ℕ × ℕ → List (ℕ × ℕ) → List (ℕ × ℕ)
put_in new [] = new ∷ []
put_in new (entry ∷ entries) =
    if is_earlier entry new then entry ∷ put_in new entries else new ∷ entry ∷ entries

-- the pairs where the page has this moment, in place of the one that it had
abbrev pub with_moment : ℕ → ℕ → List (ℕ × ℕ) → List (ℕ × ℕ)
with_moment page moment entries = put_in (moment, page) (without page entries)

-- the pairs where the page has this moment, or none
abbrev pub with_option : ℕ → Option ℕ → List (ℕ × ℕ) → List (ℕ × ℕ)
with_option page None entries = without page entries
with_option page (Some moment) entries = with_moment page moment entries

-- the pairs whose moment is at most this one
abbrev pub due_in : ℕ → List (ℕ × ℕ) → List (ℕ × ℕ)
due_in moment entries = filter (λ entry. nat_le entry.0 moment) entries

-- one pair comes before another, which is of another page
abbrev pub ComesFirst : ℕ × ℕ → ℕ × ℕ → Type 0
ComesFirst one other = (is_earlier one other ≡ true) × (is_of one.1 other ≡ false)

-- the pairs rise, and each page stands once
abbrev pub IsTable : List (ℕ × ℕ) → Type 0
IsTable [] = Unit {0}
IsTable (entry ∷ entries) = AllByRecursion (ComesFirst entry) entries × IsTable entries
