-- What holds of a tree of pages that commands reach.
use Rattle.std.specs.Prelude.{◌≡◌, ℕ, ◌≤◌, List, [], None}
use Rattle.page_tree.specs.Tree.{Forest, bare, grown, kid_with_slug}
use Rattle.site_types.specs.declared.body.Body.{Body}

-- A tree that has the root alone at its top: page 1, at step 1, with an empty slug.
pub record IsWhole (tree : Forest Body) : Type 0 where
  pub own : Body
  pub kids : Forest Body
  pub is : tree ≡ grown 1 1 [] own kids bare

-- each page has P of its id, its slug and what is kept of it
abbrev pub AllPages : {Kept : Type 0} → (ℕ → List ℕ → Kept → Type 0) → Forest Kept → Type 0
AllPages P bare = Unit {0}
AllPages P (grown i step slug body kids rest) =
    P i slug body × AllPages P kids × AllPages P rest

-- no step is above the last that there is
abbrev pub AreWithin : {Kept : Type 0} → ℕ → Forest Kept → Type 0
AreWithin last bare = Unit {0}
AreWithin last (grown i step slug body kids rest) =
    (step ≤ last) × AreWithin last kids × AreWithin last rest

-- the slugs of siblings differ, here and below each of them
abbrev pub SlugsDiffer : {Kept : Type 0} → Forest Kept → Type 0
SlugsDiffer bare = Unit {0}
SlugsDiffer (grown i step slug body kids rest) =
    (kid_with_slug slug rest ≡ None) × SlugsDiffer kids × SlugsDiffer rest
