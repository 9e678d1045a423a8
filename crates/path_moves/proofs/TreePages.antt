-- A tree whose ids are apart and whose steps rise within their limits has the rows of a store, as
-- far as slugs do not matter.
use Rattle.std.proofs.Common.{◌≡◌, ℕ, ◌+◌, ◌<◌, ◌≤◌, true, false, nat_eq, nat_lt, List, [], ◌∷◌, ◌++◌, Option, Some, None, IsSome, length, refl, sym, ◌∙◌, subst, arith, append_assoc, length-append, rules}
use Rattle.std.specs.List.{AllByRecursion}
use Rattle.std.proofs.lemmas.Bool.Decides.{nat_tests}
use Rattle.std.proofs.lemmas.List.{append-nil}
use Rattle.site_types.specs.declared.body.Body.{Body}
use Rattle.page_tree.specs.Tree.{Forest, bare, grown, AllIds, AreRising}
use Rattle.page_tree.specs.Rows.{rows_below, rows_of, child_url, comes_before}
use Rattle.page_tree.proofs.RowLemmas.{AllIds-weaker}
use Rattle.step_path.specs.Path.{IsPath, AreSteps}
use Rattle.step_path.specs.declared.path.TheConstants.{MAX_DEPTH}
use Rattle.step_path.specs.declared.step.TheConstants.{LAST_STEP}
use Rattle.step_path.proofs.PathLemmas.{AreSteps-append, AreSteps-parts}
use Rattle.tree_model.specs.Limits.{height}
use Rattle.tree_model.specs.Shape.{AreWithin}
use Rattle.page_store.specs.Pages.{Page, EachPair, IsBefore, HasOtherId, StartsAtRoot}
use Rattle.page_store.proofs.AllLemmas.{All-append, All-weaker}
use Rattle.page_store.proofs.WindowLemmas.{comes_before-behind}
use Rattle.tree_rows.proofs.Apart.{Lacks, AreApart, rows_ids, rows_parents}
use Rattle.tree_rows.proofs.Lists.{all_parts, All-turned}
use Rattle.tree_rows.proofs.Paths.{GoesOn, rows_go_on}

-- pairs within two lists and across them are the pairs of both
pub EachPair-append : (R : Page → Page → Type 0) (xs ys : List Page) → EachPair R xs →
    EachPair R ys → AllByRecursion (λ x. AllByRecursion (R x) ys) xs → EachPair R (xs ++ ys)
EachPair-append R [] ys p q across = q
EachPair-append R (x ∷ xs) ys p q across =
    (All-append (R x) xs ys p.0 across.0, EachPair-append R xs ys p.1 q across.1)

-- a path comes before those that go on from it
before_longer : (path : List ℕ) (s : ℕ) (more : List ℕ) → comes_before path (path ++ s ∷ more)
    ≡ true
before_longer [] s more = refl
before_longer (x ∷ path) s more =
    let same : nat_eq x x ≡ true = grind (arith, nat_tests) in
    rw (same, before_longer path s more) refl

-- of paths that go on from one, that with the lower step comes first
before_later : (path a b : List ℕ) (s t : ℕ) → s < t →
    comes_before (path ++ s ∷ a) (path ++ t ∷ b) ≡ true
before_later path a b s t less =
    let differs : nat_eq s t ≡ false = grind (arith, nat_tests) in
    let lower : nat_lt s t ≡ true = grind (arith, nat_tests) in
    comes_before-behind path (s ∷ a) (t ∷ b) ∙ rw (differs, lower) refl

-- rows below a page come before those behind it
across_order : (path own : List ℕ) (s : ℕ) (more : List ℕ) (last : ℕ) (rows : List Page) →
    own ≡ path ++ s ∷ more →
    AllByRecursion (λ (row : Page). GoesOn path s last row.path) rows →
    AllByRecursion (λ (row : Page). comes_before own row.path ≡ true) rows
across_order path own s more last rows is on =
    All-weaker _ (λ (row : Page). comes_before own row.path ≡ true)
    (λ (row : Page) goes. rw (is, goes.is) (before_later path more goes.more s goes.step goes.late))
    rows on

-- the rows of pages whose steps rise are in order
pub rows_in_order : (parent : Option ℕ) (path url : List ℕ) (before : ℕ) (f : Forest Body) →
    AreRising before f → EachPair IsBefore (rows_below parent path url f)
rows_in_order parent path url before bare rising = tt
rows_in_order parent path url before (grown i s slug body kids rest) rising =
    let own = path ++ s ∷ [] in
    let below = rows_below (Some i) own (child_url url slug) kids in
    let after = rows_below parent path url rest in
    let below_on = rows_go_on (Some i) own (child_url url slug) 0 kids rising.1 in
    let after_on = rows_go_on parent path url s rest rising.2 in (
      All-append _ below after
          (All-weaker _ (λ (row : Page). comes_before own row.path ≡ true)
          (λ (row : Page) goes. rw goes.is (before_longer own goes.step goes.more)) below below_on)
          (across_order path own s [] _ after refl after_on),
      EachPair-append IsBefore below after
          (rows_in_order (Some i) own (child_url url slug) 0 kids rising.1)
          (rows_in_order parent path url s rest rising.2)
          (All-weaker _ (λ (row : Page). AllByRecursion (IsBefore row) after)
          (λ (row : Page) goes. across_order path row.path s (goes.step ∷ goes.more) _ after
          (goes.is ∙ append_assoc path (s ∷ []) (goes.step ∷ goes.more)) after_on) below below_on),
    )

-- the rows of pages whose ids are apart have other ids
pub rows_own_ids : (parent : Option ℕ) (path url : List ℕ) (f : Forest Body) → AreApart f →
    EachPair HasOtherId (rows_below parent path url f)
rows_own_ids parent path url bare apart = tt
rows_own_ids parent path url (grown i s slug body kids rest) apart =
    let own = path ++ s ∷ [] in
    let below = rows_below (Some i) own (child_url url slug) kids in
    let after = rows_below parent path url rest in
    let across = rows_ids (λ j. AllByRecursion (λ (row : Page). j ≡ row.id → ⊥) below) parent path
    url rest
    (AllIds-weaker (λ j. Lacks j kids) (λ j. AllByRecursion (λ (row : Page). j ≡ row.id → ⊥) below)
    rest (λ j lacks. rows_ids (λ k. j ≡ k → ⊥) (Some i) own (child_url url slug) kids
    (AllIds-weaker (λ k. k ≡ j → ⊥) (λ k. j ≡ k → ⊥) kids (λ k differ e. differ (sym e)) lacks))
    apart.0.2) in (
      All-append _ below after
          (rows_ids (λ j. j ≡ i → ⊥) (Some i) own (child_url url slug) kids apart.0.0)
          (rows_ids (λ j. j ≡ i → ⊥) parent path url rest apart.0.1),
      EachPair-append HasOtherId below after
          (rows_own_ids (Some i) own (child_url url slug) kids apart.1)
          (rows_own_ids parent path url rest apart.2)
          (All-turned (λ (later row : Page). HasOtherId row later) after below across),
    )

-- the rows of pages within the limits have paths
pub rows_paths : (parent : Option ℕ) (path url : List ℕ) (before : ℕ) (f : Forest Body) →
    AreSteps path → AreRising before f → AreWithin LAST_STEP f →
    length path + height f ≤ MAX_DEPTH →
    AllByRecursion (λ (row : Page). IsPath row.path) (rows_below parent path url f)
rows_paths parent path url before bare steps rising within deep = tt
rows_paths parent path url before (grown i s slug body kids rest) steps rising within deep =
    let own = path ++ s ∷ [] in
    let long : length own ≡ length path + 1 = length-append path (s ∷ []) in
    let late = rising.0 in
    let last = within.0 in
    let own_steps = AreSteps-append path (s ∷ []) steps ((omega (arith, late), last), tt) in (
      record { some = omega (arith, long); within = omega (arith, long, deep); steps = own_steps },
      All-append _ _ _
          (rows_paths (Some i) own (child_url url slug) 0 kids own_steps rising.1 within.1
          (omega (arith, long, deep)))
          (rows_paths parent path url s rest steps rising.2 within.2 (omega (arith, deep))),
    )

-- and their steps are within the limit where they have paths
pub within_from_rows : (parent : Option ℕ) (path url : List ℕ) (f : Forest Body) →
    AllByRecursion (λ (row : Page). IsPath row.path) (rows_below parent path url f) →
    AreWithin LAST_STEP f
within_from_rows parent path url bare paths = tt
within_from_rows parent path url (grown i s slug body kids rest) paths =
    let steps = AreSteps-parts path (s ∷ []) paths.0.steps in
    let parts = all_parts _ _ _ paths.1 in (
      steps.1.0.1,
      within_from_rows (Some i) (path ++ s ∷ []) (child_url url slug) kids parts.0,
      within_from_rows parent path url rest parts.1,
    )

-- A tree that has the root alone at its top.
pub record HasRoot (tree : Forest Body) : Type 0 where
  pub body : Body
  pub kids : Forest Body
  pub is : tree ≡ grown 1 1 [] body kids bare

-- what holds of every id holds of each
pub AllIds-always : (P : ℕ → Type 0) → ((i : ℕ) → P i) → (f : Forest Body) → AllIds P f
AllIds-always P each bare = tt
AllIds-always P each (grown i s slug body kids rest) =
    (each i, AllIds-always P each kids, AllIds-always P each rest)

-- the first row is the root's
pub starts_at_root : (tree : Forest Body) → HasRoot tree → StartsAtRoot (rows_of tree)
starts_at_root tree root =
    subst (λ f. StartsAtRoot (rows_of f)) (sym root.is) (
      record { id_is = refl; no_parent = refl; path_is = refl; no_slug = refl },
      rw (append-nil (rows_below (Some 1) (1 ∷ []) (child_url [] []) root.kids))
          (rows_parents (λ q. IsSome q) (Some 1) (1 ∷ []) (child_url [] []) root.kids (search rules)
          (AllIds-always (λ j. IsSome (Some j)) (λ j. search rules) root.kids)),
    )

-- where the first row is the root's, the root stands alone at the top
pub root_from_rows : (tree : Forest Body) → StartsAtRoot (rows_of tree) → HasRoot tree
root_from_rows bare starts = absurd starts
root_from_rows (grown i s slug body kids rest) starts =
    let parts = all_parts _ (rows_below (Some i) (s ∷ []) (child_url [] slug) kids)
    (rows_below None [] [] rest) starts.1 in
    alone rest parts.1
  where
    alone : (others : Forest Body) →
        AllByRecursion (λ (later : Page). IsSome later.parent) (rows_below None [] [] others) →
        HasRoot (grown i s slug body kids others)
    alone bare have =
        let id = starts.0.id_is in
        let slug_is = starts.0.no_slug in
        let step : s ≡ 1 = (let path = starts.0.path_is in cc) in
        record { body = body; kids = kids; is = rw (id, slug_is, step) refl }
    alone (grown j t own b k r) have = absurd (search (rules, have.0))
