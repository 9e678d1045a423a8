-- The pairs of sources and aliases stay in step as pages come, go, move or get other fields.
use Rattle.std.proofs.Common.{◌≡◌, ℕ, Bool, true, false, cond, not, nat_eq, ◌&&◌, ◌||◌, List, [], ◌∷◌, ◌++◌, ◌+◌, Option, Some, None, IsSome, refl, sym, ap, subst, ◌∙◌, arith}
use Rattle.std.proofs.lemmas.Bool.Decides.{nat_tests}
use Rattle.std.specs.List.{list_any}
use Rattle.std.specs.Option.{option_map, option_and_then}
use Rattle.std.specs.Prelude.{slice_get}
use Rattle.page_tree.specs.Rows.{row_with}
use Rattle.site_types.specs.declared.body.Body.{Body}
use Rattle.site_types.specs.declared.page_row.PageRow.{PageRow}
use Rattle.step_path.specs.Path.{steps_of}
use Rattle.site_model.specs.Bodies.{same_number}
use Rattle.page_store.specs.Changes.{with_body}
use Rattle.page_store.specs.PageRows.{seen_row, parent_id}
use Rattle.page_store.specs.Pages.{Page}
use Rattle.path_moves.proofs.CallLemmas.{ids_more}
use Rattle.link_index.specs.Pairs.{has_pair, without}
use Rattle.link_index.proofs.SetLemmas.{has_without}
use Rattle.publishing.specs.Times.{body_in, AreLeft}
use Rattle.publishing.proofs.BodyLemmas.{body_in-with_row, body_in-with_body, body_there, eq_means}
use Rattle.flat_model.specs.Made.{with_page}
use Rattle.link_plans.specs.PageLinks.{AreAliases}
use Rattle.part_commits.specs.InStep.{without_aliases}
use Rattle.link_plans.proofs.GoingLemmas.{ids_of_range}

-- the source of what is kept of a page
abbrev source_of : Option Body → Option ℕ
source_of body = option_and_then (λ (body : Body). body.source) body

-- whether a source is this one
abbrev shows : Option Body → ℕ → Bool
shows body source = same_number (source_of body) (Some source)

-- pages that keep what is kept of them keep their sources
pub aliased_same : (pairs : List (ℕ × ℕ)) (rows after : List Page) → AreAliases pairs rows →
    ((page : ℕ) → body_in page after ≡ body_in page rows) → AreAliases pairs after
aliased_same pairs rows after aliased same source alias =
    aliased source alias ∙ ap (λ (o : Option Body). shows o source) (sym (same alias))

-- the pairs where a page comes, with its source
pub aliased_come : (pairs after : List (ℕ × ℕ)) (new : PageRow × List ℕ) (rows : List Page) →
    row_with new.0.id rows ≡ None →
    ((first second : ℕ) → has_pair first second after
    ≡ ((same_number new.0.body.source (Some first) && nat_eq new.0.id second)
    || has_pair first second pairs)) →
    AreAliases pairs rows → AreAliases after (with_page new rows)
aliased_come pairs after new rows none there aliased source alias =
    there source alias
    ∙ (by (nat_eq new.0.id alias) refl
    ∙ ap (λ (o : Option Body). shows o source)
    (sym (body_in-with_row (seen_row new.0 (parent_id (steps_of new.0.path) rows) new.1) alias rows
    none)))
  where
    front : (t u : Bool) → u ≡ false → ((t && true) || u) ≡ t
    front true u is = refl
    front false u is = is

    behind : (t u : Bool) → ((t && false) || u) ≡ u
    behind true u = refl
    behind false u = refl

    by : (t : Bool) → nat_eq new.0.id alias ≡ t →
        ((same_number new.0.body.source (Some source) && t) || has_pair source alias pairs)
        ≡ shows (cond t (Some new.0.body) (body_in alias rows)) source
    by true same =
        let absent : body_in alias rows ≡ None =
        subst (λ (id : ℕ). body_in id rows ≡ None) (eq_means new.0.id alias same)
        (ap (option_map (λ (row : Page). row.body)) none) in
        front (same_number new.0.body.source (Some source)) (has_pair source alias pairs)
        (aliased source alias ∙ ap (λ (o : Option Body). shows o source) absent)
    by false other =
        behind (same_number new.0.body.source (Some source)) (has_pair source alias pairs)
        ∙ aliased source alias

-- the pairs where a page gets other fields, with their source
pub aliased_put : (pairs after : List (ℕ × ℕ)) (page : ℕ) (body : Body) (rows : List Page) →
    IsSome (row_with page rows) →
    ((first second : ℕ) → has_pair first second after
    ≡ cond (nat_eq page second) (same_number body.source (Some first))
    (has_pair first second pairs)) →
    AreAliases pairs rows → AreAliases after (with_body page body rows)
aliased_put pairs after page body rows there put aliased source alias =
    let old = body_there page rows there in
    put source alias
    ∙ (by (nat_eq page alias) old.0 (body_in page rows) old.1
    ∙ ap (λ (o : Option Body). shows o source) (sym (body_in-with_body page alias body rows)))
  where
    by : (t : Bool) (old : Body) (o : Option Body) → o ≡ Some old →
        cond t (same_number body.source (Some source)) (has_pair source alias pairs)
        ≡ shows (cond t (option_map (λ (old : Body). body) o) (body_in alias rows)) source
    by true old o is = rw is refl
    by false old o is = aliased source alias

-- which pairs are left without those of some aliases
has_left : (pages : List ℕ) (first second : ℕ) (pairs : List (ℕ × ℕ)) →
    has_pair first second (without_aliases pages pairs)
    ≡ (not (list_any (λ page. nat_eq page second) pages) && has_pair first second pairs)
has_left [] first second pairs = refl
has_left (page ∷ pages) first second pairs =
    has_left pages first second (without page pairs)
    ∙ (ap (λ (t : Bool). not (list_any (λ page. nat_eq page second) pages) && t)
    (has_without page first second pairs)
    ∙ by (list_any (λ page. nat_eq page second) pages) (nat_eq second page) (nat_eq page second)
    (turned second page))
  where
    turned : (m n : ℕ) → nat_eq m n ≡ nat_eq n m
    turned m n = choice (nat_eq m n) (nat_eq n m) refl refl
      where
        choice : (t u : Bool) → nat_eq m n ≡ t → nat_eq n m ≡ u → t ≡ u
        choice true true is other = refl
        choice true false is other = absurd (grind (arith, nat_tests))
        choice false true is other = absurd (grind (arith, nat_tests))
        choice false false is other = refl

    by : (t u v : Bool) → u ≡ v →
        (not t && (not u && has_pair first second pairs))
        ≡ (not (v || t) && has_pair first second pairs)
    by true true true is = refl
    by true false false is = refl
    by false true true is = refl
    by false false false is = refl
    by t true false is = absurd (cc)
    by t false true is = absurd (cc)

-- the pairs where pages go, with their sources
pub aliased_left : (gone : List ℕ) (pairs left : List (ℕ × ℕ)) (rows after : List Page) →
    left ≡ without_aliases gone pairs → AreLeft gone rows after → AreAliases pairs rows →
    AreAliases left after
aliased_left gone pairs left rows after is are aliased source alias =
    ap (has_pair source alias) is
    ∙ (has_left gone source alias pairs
    ∙ (by (list_any (λ page. nat_eq page alias) gone)
    ∙ ap (λ (o : Option Body). shows o source) (sym (are alias))))
  where
    by : (t : Bool) → (not t && has_pair source alias pairs)
        ≡ shows (cond t None (body_in alias rows)) source
    by true = refl
    by false = aliased source alias

-- the pairs without one more page of a range
pub one_alias_out : (pages : List Page) (place n page : ℕ) (first now later : List (ℕ × ℕ)) →
    Some page ≡ option_map (λ (row : Page). row.id) (slice_get pages (place + n)) →
    now ≡ without_aliases (ids_of_range pages place n) first → later ≡ without page now →
    later ≡ without_aliases (ids_of_range pages place (n + 1)) first
one_alias_out pages place n page first now later at before step =
    step
    ∙ (ap (without page) before
    ∙ (sym (one_more (ids_of_range pages place n) first)
    ∙ ap (λ (ids : List ℕ). without_aliases ids first)
    (ids_more pages place n page (ids_of_range pages place n)
    (ids_of_range pages place n ++ page ∷ []) refl at refl)))
  where
    one_more : (ids : List ℕ) (pairs : List (ℕ × ℕ)) →
        without_aliases (ids ++ page ∷ []) pairs ≡ without page (without_aliases ids pairs)
    one_more [] pairs = refl
    one_more (id ∷ ids) pairs = one_more ids (without id pairs)

-- no pair is that of pages of which none is an alias
pub no_aliases : (pairs : List (ℕ × ℕ)) (rows : List Page) → pairs ≡ [] →
    ((page : ℕ) → source_of (body_in page rows) ≡ None) → AreAliases pairs rows
no_aliases pairs rows none plain source alias =
    ap (has_pair source alias) none
    ∙ ap (λ (o : Option ℕ). same_number o (Some source)) (sym (plain alias))
