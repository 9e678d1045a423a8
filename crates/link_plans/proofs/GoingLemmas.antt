-- The pages that go with a page: those of its range, one after another.
use Rattle.std.proofs.Common.{◌≡◌, ◌+◌, ◌≤◌, ℕ, true, false, List, [], ◌∷◌, ◌++◌, Option, Some, None, IsSome, length, map, take, drop, slice_get, refl, sym, ap, ◌∙◌, rules, append_assoc}
use Rattle.std.specs.Option.{IfSome, option_map}
use Rattle.std.proofs.lemmas.List.{map-append}
use Rattle.page_tree.specs.Rows.{row_with}
use Rattle.page_store.specs.PageRows.{IsRange}
use Rattle.page_store.specs.Pages.{Page}
use Rattle.tree_rows.proofs.SubtreeLemmas.{range_rows}
use Rattle.path_moves.proofs.CallLemmas.{ids_more}
use Rattle.link_plans.specs.Told.{fate, gone_with, gone_fates}
use Rattle.link_plans.specs.declared.fates.Fate.{Fate}

-- the ids of so many pages from a place on
abbrev pub ids_of_range : List Page → ℕ → ℕ → List ℕ
ids_of_range pages place n = map (λ row. row.id) (take n (drop place pages))

-- one page more of a range goes
pub one_gone : (pages : List Page) (place done page : ℕ) (first now later : List Fate) →
    now ≡ first ++ gone_fates (ids_of_range pages place done) →
    Some page ≡ option_map (λ (row : Page). row.id) (slice_get pages (place + done)) →
    later ≡ now ++ fate page None ∷ [] →
    later ≡ first ++ gone_fates (ids_of_range pages place (done + 1))
one_gone pages place done page first now later so_far at is =
    let ids = ids_of_range pages place done in
    is
    ∙ (ap (λ (list : List Fate). list ++ fate page None ∷ []) so_far
    ∙ (append_assoc first (gone_fates ids) (fate page None ∷ [])
    ∙ ap (λ (list : List Fate). first ++ list)
    (sym (map-append (λ (id : ℕ). fate id None) ids (page ∷ []))
    ∙ ap gone_fates (ids_more pages place done page ids (ids ++ page ∷ []) refl at refl))))

module _ (id : ℕ) (rows : List Page) (place n : ℕ) (there : IsSome (row_with id rows)) where
  -- the range of a page is within the rows
  pub range_within : IfSome (row_with id rows) (λ row. IsRange rows row place n) →
      place + n ≤ length rows
  range_within range = by (row_with id rows) there range
    where
      by : (o : Option Page) → IsSome o → IfSome o (λ row. IsRange rows row place n) →
          place + n ≤ length rows
      by None some range = absurd (search (rules, some))
      by (Some top) some range = range.within

  -- its pages are those that go with it
  pub range_gone : IfSome (row_with id rows) (λ row. IsRange rows row place n) →
      ids_of_range rows place n ≡ gone_with id rows
  range_gone range = by (row_with id rows) refl there range
    where
      by : (o : Option Page) → row_with id rows ≡ o → IsSome o →
          IfSome o (λ row. IsRange rows row place n) →
          ids_of_range rows place n ≡ gone_with id rows
      by None found some range = absurd (search (rules, some))
      by (Some top) found some range =
          rw found
          (ap (λ (list : List Page). map (λ (row : Page). row.id) list)
          (sym (range_rows rows top place n range)))

-- with a page that is not there none goes
pub none_gone : (id : ℕ) (rows : List Page) → (IsSome (row_with id rows) → false ≡ true) →
    gone_with id rows ≡ []
none_gone id rows never = by (row_with id rows) refl
  where
    by : (o : Option Page) → row_with id rows ≡ o → gone_with id rows ≡ []
    by None found = rw found refl
    by (Some top) found =
        let none : false ≡ true = never (rw found (search rules)) in absurd cc
