-- Which pages are live, and what is kept of a page, as the rows say it.
use Rattle.std.proofs.Common.{◌≡◌, ℕ, Bool, true, false, not, List, Option, Some, None, IsSome, take, drop, refl, sym, ap, ◌∙◌}
use Rattle.std.specs.List.{list_all}
use Rattle.std.specs.Option.{option_map, option_map_or, IfSome}
use Rattle.page_tree.specs.Tree.{Forest, bare, grown, node_of}
use Rattle.page_tree.specs.Rows.{rows_of, row_with}
use Rattle.site_types.specs.declared.body.Body.{Body}
use Rattle.site_types.specs.declared.page_row.PageRow.{PageRow}
use Rattle.page_store.specs.PageRows.{page_row, IsRange}
use Rattle.page_store.specs.Pages.{Page, ArePages}
use Rattle.site_model.specs.Views.{any_page, body_of, is_public, is_live, is_live_page, any_live}
use Rattle.site_part.specs.Live.{is_public_in, is_live_in}
use Rattle.link_plans.proofs.ModelLemmas.{tree_body}
use Rattle.site_part.proofs.OwnLemmas.{range_all, row_found}

-- tests that agree find the same among pages
any_same : (one other : Body → Bool) (f : Forest Body) → ((body : Body) → one body ≡ other body) →
    any_page one f ≡ any_page other f
any_same one other bare same = refl
any_same one other (grown i s slug body kids rest) same =
    rw (same body, any_same one other kids same, any_same one other rest same) refl

-- a test turned round twice
not_not : (t : Bool) → not (not t) ≡ t
not_not true = refl
not_not false = refl

module _ (pages : List Page) (tree : Forest Body) (is_tree : pages ≡ rows_of tree) where
  -- what is kept of a page, by the rows
  pub body_in : (id : ℕ) →
      body_of tree id ≡ option_map (λ (row : Page). row.body) (row_with id pages)
  body_in id =
      tree_body id tree
      ∙ ap (λ rows. option_map (λ (row : Page). row.body) (row_with id rows)) (sym is_tree)

  -- the row of a page has what is kept of it
  pub body_found : (id : ℕ) (row : PageRow) → Some row ≡ option_map page_row (row_with id pages) →
      body_of tree id ≡ Some row.body
  body_found id row is =
      let page = row_found row id pages is in
      body_in id
      ∙ (ap (option_map (λ (one : Page). one.body)) page.1
      ∙ ap (λ (one : PageRow). Some one.body) (sym page.2))

  -- of a page without a row nothing is kept
  pub body_missing : (id : ℕ) → None ≡ option_map page_row (row_with id pages) →
      body_of tree id ≡ None
  body_missing id is = by (row_with id pages) (body_in id) is
    where
      by : (o : Option Page) → body_of tree id ≡ option_map (λ (row : Page). row.body) o →
          None ≡ option_map page_row o → body_of tree id ≡ None
      by None e h = e
      by (Some row) e h = absurd cc

  -- a regular page is live if its row is
  public_in : (id : ℕ) → is_public_in pages id ≡ is_public (body_of tree id)
  public_in id = by (row_with id pages) (body_in id)
    where
      by : (o : Option Page) → body_of tree id ≡ option_map (λ (row : Page). row.body) o →
          option_map_or (λ (row : Page). row.body.live) o false ≡ is_public (body_of tree id)
      by None e = rw e refl
      by (Some row) e = rw e refl

  -- a page of which this is kept is live if the rows say so
  pub live_in : (body : Body) → is_live_in pages body ≡ is_live tree body
  live_in body = by body.source refl
    where
      by : (source : Option ℕ) → body.source ≡ source →
          is_live_in pages body ≡ is_live tree body
      by None e = rw e refl
      by (Some source) e = rw e (public_in source)

  -- a page is live if its row says so
  pub live_page_in : (id : ℕ) (row : PageRow) (result : Bool) →
      Some row ≡ option_map page_row (row_with id pages) → result ≡ is_live_in pages row.body →
      result ≡ is_live_page tree id
  live_page_in id row result is told =
      told ∙ (live_in row.body ∙ rw (body_found id row is) refl)

  -- and is not live if it has none
  pub no_page_live : (id : ℕ) → None ≡ option_map page_row (row_with id pages) →
      false ≡ is_live_page tree id
  no_page_live id is = rw (body_missing id is) refl

  -- a page or one below it is live unless all of them are hidden
  pub any_live_in : (id place count : ℕ) (hidden : Bool) → ArePages pages →
      IsSome (row_with id pages) →
      IfSome (row_with id pages) (λ row. IsRange pages row place count) →
      hidden ≡ list_all (λ (row : Page). not (is_live_in pages row.body))
      (take count (drop place pages)) → not hidden ≡ any_live tree id
  any_live_in id place count hidden are there range is =
      ap not is
      ∙ (ap not (range_all (λ body. not (is_live_in pages body)) pages are tree is_tree id place count
      there range)
      ∙ (not_not (any_page (λ body. not (not (is_live_in pages body))) (node_of id tree))
      ∙ any_same (λ body. not (not (is_live_in pages body))) (is_live tree) (node_of id tree)
      (λ body. not_not (is_live_in pages body) ∙ live_in body)))
