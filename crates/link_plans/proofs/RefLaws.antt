-- The pairs in step with a world have the pages that link to a page.
use Rattle.std.proofs.Common.{◌≡◌, ℕ, List, Option, Some, None, refl, sym, ◌∙◌}
use Rattle.page_tree.specs.Rows.{rows_of, row_with}
use Rattle.page_store.specs.Pages.{Page, ArePages}
use Rattle.site_model.specs.World.{TreePart}
use Rattle.site_model.specs.Links.{links_to, rising_ids, refs_of}
use Rattle.link_index.specs.Pairs.{PairsRise, seconds_of}
use Rattle.link_index.proofs.LawLemmas.{has_second, rise_seconds}
use Rattle.link_plans.specs.PageLinks.{finds_in, kept_links, page_links, AreLinked}
use Rattle.link_plans.proofs.ModelLemmas.{body_same}
use Rattle.link_plans.proofs.RefLemmas.{passes, any_page, rising_rises, steps_rise, numbers_one}
use Rattle.std.specs.Option.{option_map}

-- a page links to another where its row does
row_links : (part : TreePart) (id page : ℕ) →
    page_links (rows_of part.tree) part.revisions page id
    ≡ passes (λ (row : Page). links_to part row.body id) (row_with page (rows_of part.tree))
row_links part id page = by (row_with page (rows_of part.tree))
  where
    by : (found : Option Page) →
        kept_links (finds_in (rows_of part.tree) part.revisions)
        (option_map (λ (row : Page). row.body) found) id
        ≡ passes (λ (row : Page). links_to part row.body id) found
    by None = refl
    by (Some row) = body_same part id row.body

-- the pairs have the pages that link to a page
pub pairs_refs : (part : TreePart) (pairs : List (ℕ × ℕ)) (id : ℕ) → ArePages (rows_of part.tree) →
    PairsRise pairs → AreLinked pairs (rows_of part.tree) part.revisions →
    seconds_of id pairs ≡ refs_of part id
pairs_refs part pairs id are rise linked =
    let test = λ (row : Page). links_to part row.body id in
    let rows = rows_of part.tree in
    numbers_one (seconds_of id pairs) (rising_ids test rows)
    (steps_rise (seconds_of id pairs) (rise_seconds id pairs rise))
    (rising_rises test rows are.own_ids)
    (λ page. has_second id page pairs ∙ linked id page ∙ row_links part id page
    ∙ sym (any_page test rows are.own_ids page))
