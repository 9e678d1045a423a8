-- At the start all is in step: there are no moments, no aliases and no links.
use Rattle.std.proofs.Common.{◌≡◌, ℕ, Bool, true, false, cond, nat_eq, List, [], ◌∷◌, Option, Some, None, refl, sym, subst}
use Rattle.std.specs.Option.{IfSome, option_map, option_and_then}
use Rattle.site_types.specs.declared.body.Body.{Body}
use Rattle.page_tree.specs.Walk.{SLASH}
use Rattle.page_store.specs.PageRows.{root_rows}
use Rattle.page_store.specs.Pages.{Page}
use Rattle.site_types.specs.RootBody.{root_body}
use Rattle.publishing.specs.Laws.{IsUntimed}
use Rattle.publishing.specs.Times.{body_in}
use Rattle.publishing.proofs.LawLemmas.{tables_start}
use Rattle.link_plans.specs.PageLinks.{source_in, finds_in, kept_links}
use Rattle.site_part.specs.Standing.{InStep, IsLinked}
use Rattle.site_part.specs.declared.part.TreePart.{TreePart}
use Rattle.part_commits.proofs.AliasLemmas.{no_aliases}

-- the root's row
abbrev root_row : Page
root_row = record {
  id = 1;
  parent = None;
  path = 1 ∷ [];
  url = SLASH ∷ [];
  slug = [];
  numchild = 0;
  body = root_body;
}

-- what is kept of a page, whether it is the root
abbrev kept_of_root : Bool → Option Body
kept_of_root t = option_map (λ (row : Page). row.body) (cond t (Some root_row) None)

-- the root is neither live nor scheduled
root_untimed : (page : ℕ) → IfSome (body_in page root_rows) IsUntimed
root_untimed page = by (nat_eq 1 page)
  where
    by : (t : Bool) → IfSome (kept_of_root t) IsUntimed
    by true = (refl, refl)
    by false = tt

-- nor is it an alias
root_plain : (page : ℕ) → source_in page root_rows ≡ None
root_plain page = by (nat_eq 1 page)
  where
    by : (t : Bool) → option_and_then (λ (body : Body). body.source) (kept_of_root t) ≡ None
    by true = refl
    by false = refl

-- without moments and aliases the root is in step
pub start_in_step : (kept : TreePart) → kept.rows.pages ≡ root_rows →
    kept.times.expiries.entries ≡ [] → kept.times.go_lives.entries ≡ [] →
    kept.aliases.pairs ≡ [] → InStep kept
start_in_step kept pages expiries go_lives aliases = record {
  timed = tables_start kept.times kept.rows.pages kept.shelf.revisions expiries go_lives
      (λ page. subst (λ (rows : List Page). IfSome (body_in page rows) IsUntimed) (sym pages)
      (root_untimed page));
  aliased = no_aliases kept.aliases.pairs kept.rows.pages aliases
      (λ page. subst (λ (rows : List Page). source_in page rows ≡ None) (sym pages)
      (root_plain page));
}

-- without links so is the root
pub start_linked : (kept : TreePart) → kept.rows.pages ≡ root_rows → kept.links.pairs ≡ [] →
    IsLinked kept
start_linked kept pages pairs linked page = rw (pages, pairs) (by (nat_eq 1 page))
  where
    by : (t : Bool) →
        false ≡ kept_links (finds_in root_rows kept.shelf.revisions) (kept_of_root t) linked
    by true = refl
    by false = refl
