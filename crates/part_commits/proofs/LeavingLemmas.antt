-- The pages of a range go, with their moments.
use Rattle.std.proofs.Common.{◌≡◌, ◌+◌, ℕ, List, [], ◌∷◌, ◌++◌, Some, IsSome, refl, sym, ap, subst, ◌∙◌}
use Rattle.std.specs.Option.{IfSome, option_map}
use Rattle.std.specs.Prelude.{slice_get}
use Rattle.page_tree.specs.Rows.{row_with}
use Rattle.page_store.specs.Changes.{without_range}
use Rattle.page_store.specs.PageRows.{IsRange}
use Rattle.page_store.specs.Pages.{Page, EachPair, HasOtherId}
use Rattle.path_moves.proofs.CallLemmas.{ids_more}
use Rattle.time_table.specs.Table.{without}
use Rattle.publishing.specs.Times.{without_all, AreLeft}
use Rattle.link_plans.proofs.GoingLemmas.{ids_of_range, range_gone}
use Rattle.part_commits.proofs.ToldLemmas.{left_gone}

-- one page more is taken out after the others
one_more : (ids : List ℕ) (page : ℕ) (entries : List (ℕ × ℕ)) →
    without_all (ids ++ page ∷ []) entries ≡ without page (without_all ids entries)
one_more [] page entries = refl
one_more (id ∷ ids) page entries = one_more ids page (without id entries)

-- the entries without one page more of a range
pub one_out : (pages : List Page) (place n page : ℕ) (first now later : List (ℕ × ℕ)) →
    Some page ≡ option_map (λ (row : Page). row.id) (slice_get pages (place + n)) →
    now ≡ without_all (ids_of_range pages place n) first → later ≡ without page now →
    later ≡ without_all (ids_of_range pages place (n + 1)) first
one_out pages place n page first now later at before step =
    step
    ∙ (ap (without page) before
    ∙ (sym (one_more (ids_of_range pages place n) page first)
    ∙ ap (λ (ids : List ℕ). without_all ids first)
    (ids_more pages place n page (ids_of_range pages place n)
    (ids_of_range pages place n ++ page ∷ []) refl at refl)))

-- the pages that are left without a page and all below it
pub range_left : (id : ℕ) (rows : List Page) (place n : ℕ) → IsSome (row_with id rows) →
    EachPair HasOtherId rows → IfSome (row_with id rows) (λ row. IsRange rows row place n) →
    AreLeft (ids_of_range rows place n) rows (without_range id rows)
range_left id rows place n there own range =
    subst (λ (ids : List ℕ). AreLeft ids rows (without_range id rows))
    (sym (range_gone id rows place n there range)) (left_gone id rows there own)
