-- What the call that gives a page another slug has looked up, and what follows.
use Rattle.std.proofs.Common.{◌≡◌, ℕ, true, false, nat_eq, List, [], Option, Some, None, IsSome, is_some, unwrap_or, refl, sym, ap, ◌∙◌, subst, arith, rules}
use Rattle.std.specs.Borrow.{Bor}
use Rattle.std.specs.Option.{option_copied, option_map, option_and_then, IfSome}
use Rattle.std.specs.Str.{bytes_eq}
use Rattle.std.proofs.lemmas.Bool.Decides.{nat_tests}
use Rattle.page_tree.specs.Tree.{Forest}
use Rattle.page_tree.specs.Rows.{rows_of, row_with}
use Rattle.site_types.specs.declared.body.Body.{Body}
use Rattle.site_types.specs.declared.page_row.PageRow.{PageRow}
use Rattle.tree_model.specs.Places.{slug_in}
use Rattle.page_store.specs.PageRows.{page_row}
use Rattle.page_store.specs.Pages.{Page, ArePages}
use Rattle.page_store.specs.Search.{begins}
use Rattle.page_store.proofs.SlugLemmas.{parent_there}
use Rattle.site_model.specs.World.{TreePart}
use Rattle.new_pages.specs.Plans.{IsSoundTree}
use Rattle.site_types.specs.declared.refusal.Refusal.TheVariants.{NothingNew}
use Rattle.site_model.specs.Slugs.{slug_rules}
use Rattle.tree_edits.proofs.ParentLemmas.{IsUnder, parent_row}
use Rattle.tree_edits.proofs.SlugPlans.{IsSought}

-- A page's row was seen.
pub record IsSeen (pages : List Page) (page : ℕ) (row : PageRow) : Type 0 where
  pub top : Page
  pub found : row_with page pages ≡ Some top
  pub row_is : row ≡ page_row top

-- a row that is found was seen
pub seen : (pages : List Page) (page : ℕ) (looked : Option (Bor PageRow)) (row : Bor PageRow) →
    option_copied looked ≡ option_map page_row (row_with page pages) → looked ≡ Some row →
    IsSeen pages page row.now
seen pages page looked row is here =
    by (row_with page pages) refl (ap option_copied (sym here) ∙ is)
  where
    by : (o : Option Page) → row_with page pages ≡ o → Some row.now ≡ option_map page_row o →
        IsSeen pages page row.now
    by None e h = absurd cc
    by (Some top) e h = record { top = top; found = e; row_is = cc }

module _ (pages : List Page) (page : ℕ) (row : PageRow) (of : IsSeen pages page row) where
  -- its slug is the tree's
  pub slug_seen : (tree : Forest Body) → pages ≡ rows_of tree → slug_in tree page ≡ row.slug
  slug_seen tree is =
      ap (λ rows. unwrap_or (option_map (λ (r : Page). r.slug) (row_with page rows)) []) (sym is)
      ∙ (ap (λ (o : Option Page). unwrap_or (option_map (λ (r : Page). r.slug) o) []) of.found
      ∙ ap (λ (r : PageRow). r.slug) (sym of.row_is))

  -- a page is refused the slug that it has
  pub same_slug : (tree : Forest Body) (slug : List ℕ) → pages ≡ rows_of tree →
      bytes_eq row.slug slug ≡ true → slug_rules tree page slug ≡ Some NothingNew
  same_slug tree slug is same = rw (slug_seen tree is, same) refl

  -- a page without a parent is the root
  pub no_parent : ArePages pages → (up : Option ℕ) →
      up ≡ option_and_then (λ (r : Page). r.parent) (row_with page pages) → up ≡ None →
      nat_eq page 1 ≡ false → ⊥
  no_parent are up is none other =
      let some = parent_there page pages of.top are.root of.found (λ same. grind (
        arith,
        nat_tests,
      )) in
      let nothing : of.top.parent ≡ None =
      sym (ap (option_and_then (λ (r : Page). r.parent)) of.found) ∙ (sym is ∙ none) in
      let no : false ≡ true = subst (λ (o : Option ℕ). is_some o ≡ true) nothing some in
      absurd cc

  -- the parent that is told is the row's
  pub below : (up : Option ℕ) (parent : ℕ) →
      up ≡ option_and_then (λ (r : Page). r.parent) (row_with page pages) → up ≡ Some parent →
      of.top.parent ≡ Some parent
  below up parent is some =
      sym (ap (option_and_then (λ (r : Page). r.parent)) of.found) ∙ (sym is ∙ some)

  module _ (are : ArePages pages) (parent : ℕ) (under : of.top.parent ≡ Some parent) where
    -- the parent's row
    pub above_row : IsUnder pages of.top parent
    above_row = parent_row pages page parent of.top are of.found under

    -- it is there
    pub parent_is_there : IsSome (row_with parent pages)
    parent_is_there = rw above_row.found (search rules)

    -- and not below the page
    pub parent_outside : IfSome (row_with page pages) (λ r. IfSome (row_with parent pages)
        (λ top. begins r.path top.path ≡ false))
    parent_outside = rw (of.found, above_row.found) above_row.outside

  -- what is known of a page that has another slug than this one
  pub sought : (part : TreePart) → IsSoundTree part → pages ≡ rows_of part.tree → (slug : List ℕ)
      (parent : ℕ) → of.top.parent ≡ Some parent → bytes_eq row.slug slug ≡ false →
      IsSought part page slug of.top parent
  sought part sound is slug parent under new = record {
    sound = sound;
    found = ap (row_with page) (sym is) ∙ of.found;
    below = under;
    new = ap (λ text. bytes_eq text slug) (slug_seen part.tree is) ∙ new;
  }
