-- Finding a place in the path order: how many of the pages stand in front of it.
use Rattle.std.specs.Prelude.{◌≡◌, ℕ, ◌+◌, ◌==◌, ◌&&◌, Bool, true, false, nat_eq, if◌then◌else◌, List, [], ◌∷◌}
use Rattle.std.specs.Option.{option_map_or, IfSome}
use Rattle.std.specs.List.{AllByRecursion}
use Rattle.std.specs.Map.{lookup}
use Rattle.page_tree.specs.Rows.{comes_before}
use Rattle.step_path.specs.Path.{steps_of}
use Rattle.page_store.specs.declared.stored.StoredRow.{StoredRow}
use Rattle.page_store.specs.declared.search.Front.{Front}
use Rattle.page_store.specs.declared.search.Front.TheVariants.{Before, Below}
use Rattle.page_store.specs.Kept.{IsStored}

-- how many elements at the front pass the test
abbrev pub leading : {X : Type 0} → (X → Bool) → List X → ℕ
leading test [] = 0
leading test (x ∷ xs) = if test x then leading test xs + 1 else 0

-- where one element does not pass the test, no later one does
abbrev pub PassFirst : {X : Type 0} → (X → Bool) → List X → Type 0
PassFirst test [] = Unit {0}
PassFirst test (x ∷ xs) = (test x ≡ false →
    AllByRecursion (λ later. test later ≡ false) xs) × PassFirst test xs

-- whether the second path begins with the first
abbrev pub begins : List ℕ → List ℕ → Bool
begins [] whole = true
begins (x ∷ front) [] = false
begins (x ∷ front) (y ∷ whole) = (x == y) && begins front whole

-- whether a page with this own path stands in front: before the path, or below it
abbrev pub front_test : Front → List ℕ → List ℕ → Bool
front_test Before path own = comes_before own path
front_test Below path own = begins path own

-- whether the page with the id stands in front
abbrev pub is_front : Front → List ℕ → List (ℕ × StoredRow) → ℕ → Bool
is_front front path stored id =
    option_map_or (λ page. front_test front path (steps_of page.row.path)) (lookup (nat_eq id) stored) false

-- each row that is kept has the text of a path
abbrev pub HaveTexts : List (ℕ × StoredRow) → Type 0
HaveTexts stored = (id : ℕ) → IfSome (lookup (nat_eq id) stored) IsStored
