-- The page above a page, in the rows of a store.
use Rattle.std.proofs.Common.{◌≡◌, ◌<◌, ◌≤◌, ◌-◌, ℕ, Bool, false, nat_eq, List, [], ◌∷◌, length, find, Option, Some, None, refl, sym, ap, ◌∙◌, arith}
use Rattle.std.specs.Option.{option_map}
use Rattle.std.specs.Str.{bytes_eq}
use Rattle.std.proofs.lemmas.Bool.Decides.{nat_tests}
use Rattle.std.proofs.lemmas.List.{length-take}
use Rattle.page_tree.specs.Rows.{row_with}
use Rattle.step_path.specs.Path.{IsPath}
use Rattle.page_store.specs.PageRows.{above, parent_id}
use Rattle.page_store.specs.Pages.{Page, ArePages}
use Rattle.page_store.specs.Search.{begins}
use Rattle.page_store.proofs.InsertLemmas.{same_bytes}
use Rattle.page_store.proofs.KeptLemmas.{found_passes}
use Rattle.page_store.proofs.SeenLemmas.{All-find, found_by_own_id}

-- a path does not begin with a longer one
begins-longer : (front whole : List ℕ) → length whole < length front → begins front whole ≡ false
begins-longer [] whole long = let no : ⊥ = omega arith in absurd no
begins-longer (x ∷ front) [] long = refl
begins-longer (x ∷ front) (y ∷ whole) long =
    let more : begins front whole ≡ false = begins-longer front whole (omega arith) in
    grind (arith, nat_tests)

-- nor does the path above it
begins-above : (path : List ℕ) → 1 ≤ length path → begins path (above path) ≡ false
begins-above path some =
    begins-longer path (above path)
    (let short = length-take (length path - 1) path in omega (arith, short))

-- A page's parent, which is there: its path is the page's without the last step.
pub record IsUnder (pages : List Page) (row : Page) (parent : ℕ) : Type 0 where
  pub top : Page
  pub found : row_with parent pages ≡ Some top
  pub outside : begins row.path top.path ≡ false

-- the parent of a page that has one
pub parent_row : (pages : List Page) (id parent : ℕ) (row : Page) → ArePages pages →
    row_with id pages ≡ Some row → row.parent ≡ Some parent → IsUnder pages row parent
parent_row pages id parent row are found below =
    let test : Page → Bool = λ r. nat_eq r.id id in
    let path : IsPath row.path = All-find (λ (r : Page). IsPath r.path) test pages row are.paths
    found in
    let told : row.parent ≡ parent_id row.path pages =
    All-find (λ (r : Page). r.parent ≡ parent_id r.path pages) test pages row are.parents found in
    by path (find (λ (r : Page). bytes_eq r.path (above row.path)) pages) refl (sym below ∙ told)
  where
    by : IsPath row.path → (o : Option Page) →
        find (λ (r : Page). bytes_eq r.path (above row.path)) pages ≡ o →
        Some parent ≡ parent_id row.path pages → IsUnder pages row parent
    by path None e is =
        let nothing : Some parent ≡ None = is ∙ ap (option_map (λ (r : Page). r.id)) e in absurd cc
    by path (Some top) e is =
        let one : Some parent ≡ Some top.id = is ∙ ap (option_map (λ (r : Page). r.id)) e in
        let same : top.id ≡ parent = cc in
        let whole : top.path ≡ above row.path =
        same_bytes top.path (above row.path)
        (found_passes (λ (r : Page). bytes_eq r.path (above row.path)) pages top e) in
        record {
          top = top;
          found = ap (λ i. row_with i pages) (sym same)
              ∙ All-find (λ (r : Page). row_with r.id pages ≡ Some r)
              (λ (r : Page). bytes_eq r.path (above row.path)) pages top
              (found_by_own_id pages are.own_ids) e;
          outside = ap (begins row.path) whole ∙ begins-above row.path path.some;
        }
