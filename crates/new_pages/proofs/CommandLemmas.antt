-- What the first rules of the commands on the tree name, which rules of their own they have, and what
-- they do.
use Rattle.std.proofs.Common.{◌≡◌, ℕ, Bool, true, false, cond, List, [], ◌∷◌, Option, None, nat_eq, refl, ap}
use Rattle.std.specs.List.{list_any}
use Rattle.page_tree.specs.Tree.{has_page}
use Rattle.site_types.specs.Content.{ContentValue}
use Rattle.site_types.specs.declared.command.Command.TheVariants.{Create, Move, Delete, SetSlug, Alias, Detach, Copy}
use Rattle.site_types.specs.declared.position.Position.{Position}
use Rattle.site_types.specs.declared.refusal.Refusal.TheVariants.{IsRoot}
use Rattle.tree_model.specs.Places.{is_beside}
use Rattle.tree_model.proofs.CountLemmas.{apart_by_test}
use Rattle.site_model.specs.World.{TreePart}
use Rattle.site_model.specs.Aliases.{alias_rules, make_alias, detach_rules, detach}
use Rattle.site_model.specs.Copies.{copy_rules, copy}
use Rattle.site_model.specs.Create.{create_rules, create}
use Rattle.site_model.specs.Delete.{delete_rules, delete}
use Rattle.site_model.specs.Desks.{desk_page}
use Rattle.site_model.specs.Front.{StopsOthers, StopsNobody, naming, on_page, on_move, row_of, front_rules}
use Rattle.site_model.specs.Losing.{NoDesk, suspects_of, shuts}
use Rattle.site_model.specs.Moves.{move_rules, move}
use Rattle.site_model.specs.Needs.{needs_of}
use Rattle.site_model.specs.Rules.{refused_if, are_root}
use Rattle.site_model.specs.Slugs.{slug_rules, set_slug}
use Rattle.site_model.specs.Step.{rules, effect}
use Rattle.site_model.proofs.AcceptLemmas.{front_parts, page_found}
use Rattle.site_model.proofs.ClearLemmas.{test_clear, neither}
use Rattle.new_pages.specs.Plans.{IsBelowRoot, NamesMove}

-- the first of pages that are not the root is not
first_below : (page : ℕ) (pages : List ℕ) → are_root (page ∷ pages) ≡ None →
    (nat_eq page 1 ≡ false) × (are_root pages ≡ None)
first_below page pages none =
    let both = neither (nat_eq page 1) (list_any (λ id. nat_eq id 1) pages)
    (test_clear (list_any (λ id. nat_eq id 1) (page ∷ pages)) IsRoot none) in
    (both.0, ap (λ t. refused_if t IsRoot) both.1)

module _ (part : TreePart) (caller : ℕ) where
  -- the parent of a creation is there
  pub create_names : (parent : ℕ) (slug : List ℕ) (content : ContentValue) →
      front_rules part caller (Create parent slug content) ≡ None →
      has_page parent part.tree ≡ true
  unfolding front_rules row_of
  create_names parent slug content none =
      let parts = front_parts part caller (naming (parent ∷ []) [])
      (needs_of part caller (Create parent slug content)) none in
      (page_found part.tree parent [] parts.pages).0

  -- the pages of a move are there
  pub move_names : (page target : ℕ) (position : Position) →
      front_rules part caller (Move page target position) ≡ None →
      NamesMove part.tree page target position
  unfolding front_rules row_of
  move_names page target position none =
      let parts = front_parts part caller (on_move page target position)
      (needs_of part caller (Move page target position)) none in
      let first = page_found part.tree page (target ∷ []) parts.pages in
      let second = page_found part.tree target [] first.1 in
      let below = by (is_beside position) refl parts.below in
      (first.0, second.0, below.0, below.1)
    where
      by : (beside : Bool) → is_beside position ≡ beside →
          are_root (cond beside (page ∷ target ∷ []) (page ∷ [])) ≡ None →
          (page ≡ 1 → ⊥) × (is_beside position ≡ true → target ≡ 1 → ⊥)
      by true e is =
          let first = first_below page (target ∷ []) is in
          let second = first_below target [] first.1 in
          (apart_by_test page 1 first.0, λ f. apart_by_test target 1 second.0)
      by false e is =
          (apart_by_test page 1 (first_below page [] is).0, λ f. absurd (cc))

  -- the pages of an alias are there
  pub alias_names : (source parent : ℕ) (slug : List ℕ) →
      front_rules part caller (Alias source parent slug) ≡ None →
      (has_page source part.tree ≡ true) × (has_page parent part.tree ≡ true)
  unfolding front_rules row_of
  alias_names source parent slug none =
      let parts = front_parts part caller (naming (source ∷ parent ∷ []) (source ∷ []))
      (needs_of part caller (Alias source parent slug)) none in
      let first = page_found part.tree source (parent ∷ []) parts.pages in
      (first.0, (page_found part.tree parent [] first.1).0)

  -- the pages of a copy are there, and the one that is copied is not the root
  pub copy_names : (page parent : ℕ) (slug : List ℕ) (deep : Bool) →
      front_rules part caller (Copy page parent slug deep) ≡ None →
      IsBelowRoot part.tree page × (has_page parent part.tree ≡ true)
  unfolding front_rules row_of
  copy_names page parent slug deep none =
      let parts = front_parts part caller (naming (page ∷ parent ∷ []) (page ∷ []))
      (needs_of part caller (Copy page parent slug deep)) none in
      let first = page_found part.tree page (parent ∷ []) parts.pages in (
        (first.0, apart_by_test page 1 (first_below page [] parts.below).0),
        (page_found part.tree parent [] first.1).0,
      )

  -- the page that becomes a regular one is there, and is not the root
  pub detach_names : (page : ℕ) → front_rules part caller (Detach page) ≡ None →
      IsBelowRoot part.tree page
  unfolding front_rules row_of
  detach_names page none =
      let parts = front_parts part caller (naming (page ∷ []) (page ∷ []))
      (needs_of part caller (Detach page)) none in (
        (page_found part.tree page [] parts.pages).0,
        apart_by_test page 1 (first_below page [] parts.below).0,
      )

  -- the page of a deletion is there, and is not the root
  pub delete_names : (page : ℕ) → front_rules part caller (Delete page) ≡ None →
      IsBelowRoot part.tree page
  unfolding front_rules row_of
  delete_names page none =
      let parts = front_parts part caller (on_page page StopsOthers false StopsNobody)
      (needs_of part caller (Delete page)) none in (
        (page_found part.tree page [] parts.pages).0,
        apart_by_test page 1 (first_below page [] parts.below).0,
      )

  -- so is the page of another slug
  pub slug_names : (page : ℕ) (slug : List ℕ) → front_rules part caller (SetSlug page slug) ≡ None →
      IsBelowRoot part.tree page
  unfolding front_rules row_of
  slug_names page slug none =
      let parts = front_parts part caller (on_page page StopsOthers false StopsOthers)
      (needs_of part caller (SetSlug page slug)) none in (
        (page_found part.tree page [] parts.pages).0,
        apart_by_test page 1 (first_below page [] parts.below).0,
      )

module _ (part : TreePart) (desk : Option ContentValue) (now caller : ℕ) where
  -- a creation
  pub create_own : (parent : ℕ) (slug : List ℕ) (content : ContentValue) →
      rules part desk now caller (Create parent slug content)
      ≡ create_rules part now caller parent slug content
  unfolding rules
  create_own parent slug content = refl

  pub create_done : (parent : ℕ) (slug : List ℕ) (content : ContentValue) →
      effect part desk now caller (Create parent slug content)
      ≡ create part now caller parent slug content
  unfolding effect
  create_done parent slug content = refl

  -- a move
  pub move_own : (page target : ℕ) (position : Position) →
      rules part desk now caller (Move page target position)
      ≡ move_rules part.tree page target position
  unfolding rules
  move_own page target position = refl

  pub move_done : (page target : ℕ) (position : Position) →
      effect part desk now caller (Move page target position) ≡ move part now page target position
  unfolding effect
  move_done page target position = refl

  -- a deletion
  pub delete_own : (page : ℕ) →
      rules part desk now caller (Delete page) ≡ delete_rules part now caller page
  unfolding rules
  delete_own page = refl

  pub delete_done : (page : ℕ) →
      effect part desk now caller (Delete page) ≡ delete part now caller page
  unfolding effect
  delete_done page = refl

  -- another slug
  pub slug_own : (page : ℕ) (slug : List ℕ) →
      rules part desk now caller (SetSlug page slug) ≡ slug_rules part.tree page slug
  unfolding rules
  slug_own page slug = refl

  pub slug_done : (page : ℕ) (slug : List ℕ) →
      effect part desk now caller (SetSlug page slug) ≡ set_slug part now page slug
  unfolding effect
  slug_done page slug = refl

  -- an alias
  pub alias_own : (source parent : ℕ) (slug : List ℕ) →
      rules part desk now caller (Alias source parent slug)
      ≡ alias_rules part now caller source parent slug
  unfolding rules
  alias_own source parent slug = refl

  pub alias_done : (source parent : ℕ) (slug : List ℕ) →
      effect part desk now caller (Alias source parent slug)
      ≡ make_alias part now caller source parent slug
  unfolding effect
  alias_done source parent slug = refl

  -- a copy
  pub copy_own : (page parent : ℕ) (slug : List ℕ) (deep : Bool) →
      rules part desk now caller (Copy page parent slug deep)
      ≡ copy_rules part now caller page parent slug deep
  unfolding rules
  copy_own page parent slug deep = refl

  pub copy_done : (page parent : ℕ) (slug : List ℕ) (deep : Bool) →
      effect part desk now caller (Copy page parent slug deep)
      ≡ copy part now caller page parent slug deep
  unfolding effect
  copy_done page parent slug deep = refl

  -- an alias that becomes a regular page
  pub detach_own : (page : ℕ) →
      rules part desk now caller (Detach page) ≡ detach_rules part now caller page
  unfolding rules
  detach_own page = refl

  pub detach_done : (page : ℕ) →
      effect part desk now caller (Detach page) ≡ detach part now caller page
  unfolding effect
  detach_done page = refl

-- no command on the tree looks at the caller's desk
pub create_desk : (parent : ℕ) (slug : List ℕ) (content : ContentValue) →
    desk_page (Create parent slug content) ≡ None
unfolding desk_page
create_desk parent slug content = refl

-- a move looks at no desk
pub move_desk : (page target : ℕ) (position : Position) →
    desk_page (Move page target position) ≡ None
unfolding desk_page
move_desk page target position = refl

-- a deletion looks at no desk
pub delete_desk : (page : ℕ) → desk_page (Delete page) ≡ None
unfolding desk_page
delete_desk page = refl

-- another slug looks at no desk
pub slug_desk : (page : ℕ) (slug : List ℕ) → desk_page (SetSlug page slug) ≡ None
unfolding desk_page
slug_desk page slug = refl

-- an alias looks at no desk
pub alias_desk : (source parent : ℕ) (slug : List ℕ) →
    desk_page (Alias source parent slug) ≡ None
unfolding desk_page
alias_desk source parent slug = refl

-- what makes an alias regular looks at no desk
pub detach_desk : (page : ℕ) → desk_page (Detach page) ≡ None
unfolding desk_page
detach_desk page = refl

-- nor does a copy
pub copy_desk : (page parent : ℕ) (slug : List ℕ) (deep : Bool) →
    desk_page (Copy page parent slug deep) ≡ None
unfolding desk_page
copy_desk page parent slug deep = refl

-- a creation can end no desk
pub create_quiet : (parent : ℕ) (slug : List ℕ) (content : ContentValue) →
    (suspects_of (Create parent slug content) ≡ NoDesk)
    × (shuts (Create parent slug content) ≡ false)
unfolding suspects_of shuts
create_quiet parent slug content = (refl, refl)

-- nor can an alias that is made
pub alias_quiet : (source parent : ℕ) (slug : List ℕ) →
    (suspects_of (Alias source parent slug) ≡ NoDesk)
    × (shuts (Alias source parent slug) ≡ false)
unfolding suspects_of shuts
alias_quiet source parent slug = (refl, refl)

-- nor can a copy
pub copy_quiet : (page parent : ℕ) (slug : List ℕ) (deep : Bool) →
    (suspects_of (Copy page parent slug deep) ≡ NoDesk)
    × (shuts (Copy page parent slug deep) ≡ false)
unfolding suspects_of shuts
copy_quiet page parent slug deep = (refl, refl)

-- nor one that becomes a regular page
pub detach_quiet : (page : ℕ) → (suspects_of (Detach page) ≡ NoDesk) × (shuts (Detach page) ≡ false)
unfolding suspects_of shuts
detach_quiet page = (refl, refl)

-- nor can another slug
pub slug_quiet : (page : ℕ) (slug : List ℕ) →
    (suspects_of (SetSlug page slug) ≡ NoDesk) × (shuts (SetSlug page slug) ≡ false)
unfolding suspects_of shuts
slug_quiet page slug = (refl, refl)
