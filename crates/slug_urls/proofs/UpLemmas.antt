-- From a page to the one above it, as the walk up goes.
use Rattle.std.proofs.Common.{◌≡◌, ℕ, ◌<◌, List, [], Option, Some, None, IsSome, length, refl, ap, sym, ◌∙◌, subst, arith, rules}
use Rattle.std.specs.Prelude.{option_and_then, Result, Ok, Err, IfOk}
use Rattle.std.specs.Option.{option_map, option_map_or}
use Rattle.page_tree.specs.Tree.{Forest}
use Rattle.page_tree.specs.Rows.{child_url, rows_of, row_with}
use Rattle.site_types.specs.declared.body.Body.{Body}
use Rattle.page_store.specs.Pages.{Page, ArePages}
use Rattle.slug_urls.proofs.TreeUrls.{urls_of_tree, page_above, url_down, url_alone}

-- what follows from a fact on a value that is there
pub ok_as : {T E : Type 0} (r : Result T E) (P Q : T → Type 0) → ((x : T) → P x → Q x) →
    IfOk r P → IfOk r Q
ok_as (Ok x) P Q f h = f x h
ok_as (Err e) P Q f h = h

-- the depth of the page with the id, and 0 where there is none
abbrev pub depth_at : ℕ → List Page → ℕ
depth_at id pages = option_map_or (λ row. length row.path) (row_with id pages) 0

-- the page above a page is there, and less deep
pub record IsUp (pages : List Page) (id p : ℕ) : Type 0 where
  pub there : IsSome (row_with p pages)
  pub less_deep : depth_at p pages < depth_at id pages

module _ (pages : List Page) (are : ArePages pages) (id : ℕ) where
  -- the parent of a page is such a page
  pub parent_is_up : (p : ℕ) → Some p ≡ option_and_then (λ (row : Page). row.parent) (row_with id pages) →
      IsUp pages id p
  parent_is_up p is = by (row_with id pages) refl is
    where
      by : (o : Option Page) → row_with id pages ≡ o → Some p
          ≡ option_and_then (λ (row : Page). row.parent) o →
          IsUp pages id p
      by None e h = absurd cc
      by (Some row) e h =
          let up = page_above pages are id row e p (sym h) in
          let shorter = up.shorter in
          let own : depth_at id pages ≡ length row.path =
          ap (λ (o : Option Page). option_map_or (λ (r : Page). length r.path) o 0) e in
          let above : depth_at p pages ≡ length up.top.path =
          ap (λ (o : Option Page). option_map_or (λ (r : Page). length r.path) o 0) up.found in
          record {
            there = subst IsSome (sym up.found) (search rules);
            less_deep = omega arith;
          }

  module _ (tree : Forest Body) (is_tree : pages ≡ rows_of tree) where
    -- the URL of a page, by that of its parent
    pub url_from_parent : (p : ℕ) (above : List ℕ) →
        Some p ≡ option_and_then (λ (row : Page). row.parent) (row_with id pages) →
        Some above ≡ option_map (λ (row : Page). row.url) (row_with p pages) →
        option_map (λ (row : Page). child_url above row.slug) (row_with id pages)
        ≡ option_map (λ (row : Page). row.url) (row_with id pages)
    url_from_parent p above is url_is = by (row_with id pages) refl is
      where
        by : (o : Option Page) → row_with id pages ≡ o →
            Some p ≡ option_and_then (λ (row : Page). row.parent) o →
            option_map (λ (row : Page). child_url above row.slug) o ≡ option_map (λ (row : Page). row.url) o
        by None e h = refl
        by (Some row) e h =
            let up = page_above pages are id row e p (sym h) in
            let down = url_down pages are id row e (urls_of_tree pages tree are is_tree) p
            (sym h) up.top up.found in
            let both : Some above ≡ Some up.top.url =
            url_is ∙ ap (option_map (λ (r : Page). r.url)) up.found in
            let same : above ≡ up.top.url = cc in
            ap Some (ap (λ u. child_url u row.slug) same ∙ sym down)

    -- and where it has none
    pub url_from_none : None ≡ option_and_then (λ (row : Page). row.parent) (row_with id pages) →
        option_map (λ (row : Page). child_url [] row.slug) (row_with id pages)
        ≡ option_map (λ (row : Page). row.url) (row_with id pages)
    url_from_none is = by (row_with id pages) refl is
      where
        by : (o : Option Page) → row_with id pages ≡ o →
            None ≡ option_and_then (λ (row : Page). row.parent) o →
            option_map (λ (row : Page). child_url [] row.slug) o ≡ option_map (λ (row : Page). row.url) o
        by None e h = refl
        by (Some row) e h =
            ap Some (sym (url_alone pages are id row e (urls_of_tree pages tree are is_tree) (sym h)))
