-- Which desks the commands on pages may end.
use Rattle.std.proofs.Common.{◌≡◌, ℕ, Bool, true, false, nat_eq, List, Option, refl, sym, ap, ◌∙◌, arith}
use Rattle.std.specs.List.{list_any}
use Rattle.page_tree.specs.Tree.{HasDistinctIds, End, has_page, node_of, without}
use Rattle.site_types.specs.Content.{ContentValue}
use Rattle.site_types.specs.declared.body.Body.{Body}
use Rattle.site_types.specs.declared.command.Command.TheVariants.{Create, Move, Delete, SetSlug, Alias, Detach, Copy}
use Rattle.site_types.specs.declared.position.Position.{Position}
use Rattle.tree_model.specs.Places.{parent_at, place_at}
use Rattle.tree_model.proofs.CountLemmas.{once, cut_counts, none_has}
use Rattle.site_model.specs.World.{DeskPair, TreePart, time_at}
use Rattle.site_model.specs.Create.{new_page, fresh_body}
use Rattle.site_model.specs.Delete.{aliases_left, each_detached, without_page}
use Rattle.site_model.specs.Moves.{with_move}
use Rattle.site_model.specs.Slugs.{with_slug}
use Rattle.site_model.specs.Aliases.{source_of, alias_body, detached_body}
use Rattle.site_model.specs.Copies.{to_copy, copies, with_first_slug}
use Rattle.site_model.specs.Desks.{desk_page, stays}
use Rattle.site_model.specs.Step as steps
use Rattle.site_model.specs.Sound.{IsSoundPart}
use Rattle.site_model.specs.Losing.{suspects_of, is_within, shuts}
use Rattle.site_model.proofs.EachDetached.{each_distinct, each_desks, each_stays, each_way}
use Rattle.site_model.proofs.LosingTrees.{way_to, ids_on, passes, walked_ids, passes_counts, way-without, way-cut, way-graft, way-renamed}
use Rattle.site_model.proofs.LosingRights.{viewed_at, more_stays}
use Rattle.site_model.proofs.LosingLemmas.{EndsFew}
use Rattle.site_model.proofs.LosingBodies.{same_stays, desk_page_given, graft_stays, way_to_new, way_to_copies, way-first_slug, body_stays}
use Rattle.site_model.proofs.LosingPeople.{grants_kept}

-- a creation ends no desk
pub create_few : (part : TreePart) (desk : Option ContentValue) (now caller parent : ℕ)
    (slug : List ℕ) (content : ContentValue) → IsSoundPart part →
    EndsFew part caller (Create parent slug content)
    (steps.effect part desk now caller (Create parent slug content))
unfolding steps.effect desk_page suspects_of shuts
create_few part desk now caller parent slug content sound = record {
  shut = refl;
  pairs = refl;
  opened = tt;
  others = λ pair user stay free.
      graft_stays part pair parent End (new_page part caller slug)
      (way_to_new pair.page part.next_page slug (fresh_body caller part.next_revision)
      (desk_page_given part pair sound.pages.page_ids stay)) ∙ stay;
}

-- nor does an alias
pub alias_few : (part : TreePart) (desk : Option ContentValue) (now caller source parent : ℕ)
    (slug : List ℕ) → IsSoundPart part →
    EndsFew part caller (Alias source parent slug)
    (steps.effect part desk now caller (Alias source parent slug))
unfolding steps.effect desk_page suspects_of shuts
alias_few part desk now caller source parent slug sound = record {
  shut = refl;
  pairs = refl;
  opened = tt;
  others = λ pair user stay free.
      graft_stays part pair parent End _
      (way_to_new pair.page part.next_page slug (alias_body caller (source_of part source))
      (desk_page_given part pair sound.pages.page_ids stay)) ∙ stay;
}

-- nor does a copy
pub copy_few : (part : TreePart) (desk : Option ContentValue) (now caller page parent : ℕ)
    (slug : List ℕ) (deep : Bool) → IsSoundPart part →
    EndsFew part caller (Copy page parent slug deep)
    (steps.effect part desk now caller (Copy page parent slug deep))
unfolding steps.effect desk_page suspects_of shuts
copy_few part desk now caller page parent slug deep sound =
    let copied = to_copy deep (node_of page part.tree) in
    record {
      shut = refl;
      pairs = refl;
      opened = tt;
      others = λ pair user stay free.
          graft_stays part pair parent End (with_first_slug slug (copies part caller 0 copied))
          (way-first_slug pair.page slug (copies part caller 0 copied)
          ∙ way_to_copies pair.page caller 0 part copied
          (desk_page_given part pair sound.pages.page_ids stay)) ∙ stay;
    }

-- nor does an alias that becomes a regular page
pub detach_few : (part : TreePart) (desk : Option ContentValue) (now caller page : ℕ) →
    EndsFew part caller (Detach page) (steps.effect part desk now caller (Detach page))
unfolding steps.effect desk_page suspects_of shuts
detach_few part desk now caller page = record {
  shut = refl;
  pairs = refl;
  opened = tt;
  others = λ pair user stay free.
      body_stays part page (detached_body part.tree (time_at part now) part.next_revision) pair
      (λ body. record { owner = refl; locked_by = refl; moderation = refl }) ∙ stay;
}

-- nor does another slug
pub slug_few : (part : TreePart) (desk : Option ContentValue) (now caller page : ℕ)
    (slug : List ℕ) →
    EndsFew part caller (SetSlug page slug)
    (steps.effect part desk now caller (SetSlug page slug))
unfolding steps.effect desk_page suspects_of shuts
slug_few part desk now caller page slug = record {
  shut = refl;
  pairs = refl;
  opened = tt;
  others = λ pair user stay free.
      same_stays part (with_slug part now page slug) pair refl
      (ap (λ (way : Option (List ℕ × Body)). viewed_at part way)
      (way-renamed pair.page page slug part.tree)) ∙ stay;
}

-- a page that is not within another one is not passed on the way
pub not_passed : (part : TreePart) (page inner : ℕ) → is_within part.tree page inner ≡ false →
    passes page (way_to inner part.tree) ≡ false
not_passed part page inner free =
    ap (λ (ids : List ℕ). list_any (λ (one : ℕ). nat_eq one page) ids)
    (sym (walked_ids inner part.tree)) ∙ free

-- a page that is within another one is below it on the way
pub is_passed : (part : TreePart) (page inner : ℕ) → is_within part.tree page inner ≡ true →
    passes page (way_to inner part.tree) ≡ true
is_passed part page inner within =
    ap (λ (ids : List ℕ). list_any (λ (one : ℕ). nat_eq one page) ids)
    (sym (walked_ids inner part.tree)) ∙ within

-- a grant at a page on the way to one that stays is kept
grant_stays : (part : TreePart) (page inner at : ℕ) → HasDistinctIds part.tree →
    passes page (way_to inner part.tree) ≡ false → passes at (way_to inner part.tree) ≡ true →
    has_page at (node_of page part.tree) ≡ false
grant_stays part page inner at distinct free among =
    let kept = way-without inner page part.tree free in
    let some = passes_counts inner at (without page part.tree)
    (ap (λ (way : Option (List ℕ × Body)). passes at way) kept ∙ among) in
    let each = once part.tree distinct in
    let most = each at in
    let cut = cut_counts page at part.tree (each page) in
    none_has at (node_of page part.tree) (omega (arith, some, most, cut))

-- what is not on the page or below it stays where these go
cut_stays : (part : TreePart) (now page : ℕ) (pair : DeskPair) → HasDistinctIds part.tree →
    passes page (way_to pair.page part.tree) ≡ false → stays part pair ≡ true →
    stays (without_page part now page) pair ≡ true
cut_stays part now page pair distinct free stay =
    more_stays part (without_page part now page) pair
    (ap (λ (way : Option (List ℕ × Body)). viewed_at part way)
    (way-without pair.page page part.tree free))
    (grants_kept part (ids_on (way_to pair.page part.tree))
    (λ grant. has_page grant.page (node_of page part.tree)) pair.user
    (λ grant mine among. grant_stays part page pair.page grant.page distinct free among)) stay

-- a deletion ends desks on the page and below it alone
pub delete_few : (part : TreePart) (desk : Option ContentValue) (now caller page : ℕ) →
    IsSoundPart part →
    EndsFew part caller (Delete page) (steps.effect part desk now caller (Delete page))
unfolding steps.effect desk_page suspects_of shuts
delete_few part desk now caller page sound =
    let aliases = aliases_left part page in
    record {
      shut = refl;
      pairs = each_desks now caller aliases part;
      opened = tt;
      others = λ pair user stay apart.
          cut_stays (each_detached now caller aliases part) now page pair
          (each_distinct now caller aliases part sound.pages.distinct)
          (ap (λ (ids : List ℕ). list_any (λ (one : ℕ). nat_eq one page) ids)
          (each_way now caller aliases part pair.page) ∙ not_passed part page pair.page apart)
          (each_stays now caller aliases part pair ∙ stay);
    }

-- a move ends desks on the page and below it alone
pub move_few : (part : TreePart) (desk : Option ContentValue) (now caller page target : ℕ)
    (position : Position) → IsSoundPart part →
    EndsFew part caller (Move page target position)
    (steps.effect part desk now caller (Move page target position))
unfolding steps.effect desk_page suspects_of shuts
move_few part desk now caller page target position sound =
    let each = once part.tree sound.pages.distinct in
    record {
      shut = refl;
      pairs = refl;
      opened = tt;
      others = λ pair user stay apart.
          let free = not_passed part page pair.page apart in
          same_stays part (with_move part now page target position) pair refl
          (ap (λ (way : Option (List ℕ × Body)). viewed_at part way)
          (way-graft pair.page (parent_at part.tree target position)
          (place_at (without page part.tree) target position) (node_of page part.tree)
          (without page part.tree)
          (way-cut pair.page page part.tree (each page) (each pair.page) free)
          ∙ way-without pair.page page part.tree free)) ∙ stay;
    }
