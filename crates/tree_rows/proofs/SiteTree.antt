-- A tree whose rows are the rows of a store: its steps rise, and no two pages have one id.
use Rattle.std.proofs.Common.{◌≡◌, ℕ, ◌<◌, true, List, [], ◌∷◌, ◌++◌, Option, Some, None, refl, sym, arith}
use Rattle.std.specs.List.{AllByRecursion}
use Rattle.std.proofs.lemmas.Bool.Decides.{nat_tests}
use Rattle.page_tree.specs.Tree.{Forest, bare, grown, AreRising, AllIds}
use Rattle.page_tree.specs.Walk.{kid_count}
use Rattle.page_tree.specs.Rows.{Row, rows_below, rows_of, child_url, comes_before}
use Rattle.step_path.specs.Path.{IsPath}
use Rattle.step_path.proofs.PathLemmas.{AreSteps-parts}
use Rattle.site_types.specs.declared.body.Body.{Body}
use Rattle.page_store.specs.Pages.{Page, EachPair, IsBefore, HasOtherId, ArePages}
use Rattle.page_store.proofs.AllLemmas.{All-weaker}
use Rattle.page_store.proofs.WindowLemmas.{comes_before-behind}
use Rattle.tree_rows.proofs.Apart.{Lacks, AreApart}
use Rattle.tree_rows.proofs.Lists.{all_parts, All-turned, EachPair-parts}

-- the step of the first of these, where there is one, is above this number
abbrev pub StartsAfter : {Body : Type 0} → ℕ → Forest Body → Type 0
StartsAfter before bare = Unit {0}
StartsAfter before (grown i s slug body kids rest) = before < s

-- what holds of each row's id holds of each page's
pub AllIds-rows : {Body : Type 0} (P : ℕ → Type 0) (parent : Option ℕ) (path url : List ℕ)
    (f : Forest Body) →
    AllByRecursion (λ (row : Row Body). P row.id) (rows_below parent path url f) → AllIds P f
AllIds-rows P parent path url bare all = tt
AllIds-rows P parent path url (grown i s slug body kids rest) all =
    let parts = all_parts _ _ _ all.1 in (
      all.0,
      AllIds-rows P (Some i) (path ++ s ∷ []) (child_url url slug) kids parts.0,
      AllIds-rows P parent path url rest parts.1,
    )

-- ids that stand on different rows are apart
pub apart_from_rows : (parent : Option ℕ) (path url : List ℕ) (f : Forest Body) →
    EachPair HasOtherId (rows_below parent path url f) → AreApart f
apart_from_rows parent path url bare others = tt
apart_from_rows parent path url (grown i s slug body kids rest) others =
    let heads = all_parts _ _ _ others.0 in
    let parts = EachPair-parts HasOtherId _ _ others.1 in
    let turned = All-turned HasOtherId _ _ parts.2 in
    let between = All-weaker _ (λ (row : Page). Lacks row.id kids)
    (λ (row : Page) all. AllIds-rows (λ k. k ≡ row.id →
    ⊥) (Some i) (path ++ s ∷ []) (child_url url slug) kids
    (All-weaker (λ (other : Page). HasOtherId other row) (λ (other : Page). other.id ≡ row.id → ⊥)
    (λ (other : Page) apart e. apart (sym e)) _ all)) _ turned in (
      (
        AllIds-rows (λ j. j ≡ i → ⊥) (Some i) (path ++ s ∷ []) (child_url url slug) kids heads.0,
        AllIds-rows (λ j. j ≡ i → ⊥) parent path url rest heads.1,
        AllIds-rows (λ j. Lacks j kids) parent path url rest between,
      ),
      apart_from_rows (Some i) (path ++ s ∷ []) (child_url url slug) kids parts.0,
      apart_from_rows parent path url rest parts.1,
    )

-- the first kid's step is a step
kids_start : (parent : Option ℕ) (path url : List ℕ) (f : Forest Body) →
    AllByRecursion (λ (row : Page). IsPath row.path) (rows_below parent path url f) →
    StartsAfter 0 f
kids_start parent path url bare paths = tt
kids_start parent path url (grown i s slug body kids rest) paths =
    let steps = AreSteps-parts path (s ∷ []) paths.0.steps in
    let least = steps.1.0.0 in omega arith

-- a later path below one page ends in a later step
step_after_from_order : (path : List ℕ) (s t : ℕ) → comes_before (path ++ s ∷ []) (path ++ t ∷ [])
    ≡ true → s < t
step_after_from_order path s t before =
    let order = rw (comes_before-behind path (s ∷ []) (t ∷ [])) at before in
    grind (arith, nat_tests)

-- the next sibling's step is above this one's
next_start : (head : Page) (parent : Option ℕ) (path url : List ℕ) (s : ℕ) (f : Forest Body) →
    head.path ≡ path ++ s ∷ [] →
    AllByRecursion (λ later. IsBefore head later) (rows_below parent path url f) → StartsAfter s f
next_start head parent path url s bare is before = tt
next_start head parent path url s (grown i t slug body kids rest) is before =
    step_after_from_order path s t (rw is at before.0)

-- rows in order are those of pages whose steps rise
pub rising_from_rows : (parent : Option ℕ) (path url : List ℕ) (before : ℕ) (f : Forest Body) →
    EachPair IsBefore (rows_below parent path url f) →
    AllByRecursion (λ (row : Page). IsPath row.path) (rows_below parent path url f) →
    StartsAfter before f → AreRising before f
rising_from_rows parent path url before bare order paths start = tt
rising_from_rows parent path url before (grown i s slug body kids rest) order paths start =
    let heads = all_parts _ _ _ order.0 in
    let parts = EachPair-parts IsBefore _ _ order.1 in
    let both = all_parts _ _ _ paths.1 in
    let head : Page = record {
      id = i;
      parent = parent;
      path = path ++ s ∷ [];
      url = child_url url slug;
      slug = slug;
      numchild = kid_count kids;
      body = body;
    } in (
      start,
      rising_from_rows (Some i) (path ++ s ∷ []) (child_url url slug) 0 kids parts.0 both.0
          (kids_start (Some i) (path ++ s ∷ []) (child_url url slug) kids both.0),
      rising_from_rows parent path url s rest parts.1 both.1
          (next_start head parent path url s rest refl heads.1),
    )

-- the steps of a tree rise where its rows are those of a store
pub rising_tree : (tree : Forest Body) → ArePages (rows_of tree) → AreRising 0 tree
rising_tree tree pages =
    rising_from_rows None [] [] 0 tree pages.in_order pages.paths
    (kids_start None [] [] tree pages.paths)

-- and its ids are apart
pub apart_tree : (tree : Forest Body) → ArePages (rows_of tree) → AreApart tree
apart_tree tree pages = apart_from_rows None [] [] tree pages.own_ids
