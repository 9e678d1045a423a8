-- The pages that a tick changes, of two tables.
use Rattle.std.proofs.Common.{◌≡◌, ℕ, List, [], ◌∷◌, ◌++◌, Option, Some, None, refl, ap}
use Rattle.std.specs.Option.{option_map_or}
use Rattle.site_types.specs.declared.body.Body.{Body}
use Rattle.page_store.specs.Pages.{Page}
use Rattle.publishing.specs.Times.{body_in}
use Rattle.publishing.specs.Ticked.{changed_bodies}

module _ (change : Body → Body) (pages : List Page) where
  -- the pages of one list and then those of another
  pub changed-append : (xs ys : List ℕ) →
      changed_bodies change pages (xs ++ ys)
      ≡ changed_bodies change pages xs ++ changed_bodies change pages ys
  changed-append [] ys = refl
  changed-append (page ∷ xs) ys = by (body_in page pages) (changed-append xs ys)
    where
      by : (o : Option Body) →
          changed_bodies change pages (xs ++ ys)
          ≡ changed_bodies change pages xs ++ changed_bodies change pages ys →
          option_map_or (λ (body : Body). (page, change body) ∷ changed_bodies change pages (xs ++ ys)) o
          (changed_bodies change pages (xs ++ ys))
          ≡ option_map_or (λ (body : Body). (page, change body) ∷ changed_bodies change pages xs) o
          (changed_bodies change pages xs) ++ changed_bodies change pages ys
      by None more = more
      by (Some body) more = ap (λ (rest : List (ℕ × Body)). (page, change body) ∷ rest) more
