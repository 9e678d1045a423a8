-- The two tables in step, after a page got other fields and other moments, and after pages went.
use Rattle.std.proofs.Common.{◌≡◌, ℕ, ◌+◌, ◌<◌, ◌≤◌, Bool, true, false, cond, ◌||◌, nat_eq, List, [], ◌∷◌, Option, Some, None, IsSome, length, get_or, refl, ap, sym, ◌∙◌}
use Rattle.std.specs.Prelude.{drop}
use Rattle.std.proofs.lemmas.List.{drop_all, drop_more}
use Rattle.std.specs.Option.{option_map, option_and_then}
use Rattle.std.specs.List.{list_any}
use Rattle.page_tree.specs.Rows.{row_with}
use Rattle.site_types.specs.declared.body.Body.{Body}
use Rattle.site_types.specs.declared.revision.Revision.{Revision}
use Rattle.page_store.specs.Changes.{with_body}
use Rattle.page_store.specs.Pages.{Page}
use Rattle.time_table.specs.Table.{moment_in, without, with_option}
use Rattle.time_table.specs.declared.times.Times.{Times}
use Rattle.time_table.proofs.TableLemmas.{found_with, found_without}
use Rattle.publishing.specs.Times.{body_in, expiry_of, go_live_of, AreTimed, AreLeft, without_all}
use Rattle.publishing.proofs.BodyLemmas.{body_in-with_body, body_there, eq_means}

-- the moment of a page after one got a moment or none
pub found_option : (page other : ℕ) (at : Option ℕ) (entries : List (ℕ × ℕ)) →
    moment_in (with_option page at entries) other
    ≡ cond (nat_eq page other) at (moment_in entries other)
found_option page other None entries = found_without page other entries
found_option page other (Some at) entries = found_with page at other entries

module _ (moment : Body → Option ℕ) where
  -- the moments of the entries are those of what is kept of the pages
  abbrev pub HaveMoments : List (ℕ × ℕ) → List Page → Type 0
  HaveMoments entries pages =
      (page : ℕ) → moment_in entries page ≡ option_and_then moment (body_in page pages)

  -- where a page gets other fields and their moment
  pub moments-with_body : (page : ℕ) (body : Body) (entries : List (ℕ × ℕ)) (pages : List Page) →
      IsSome (row_with page pages) → HaveMoments entries pages →
      HaveMoments (with_option page (moment body) entries) (with_body page body pages)
  moments-with_body page body entries pages there have other =
      let old = body_there page pages there in
      found_option page other (moment body) entries
      ∙ by (nat_eq page other) old.0 (body_in page pages) old.1
      ∙ ap (option_and_then moment) (sym (body_in-with_body page other body pages))
    where
      by : (t : Bool) (old : Body) (o : Option Body) → o ≡ Some old →
          cond t (moment body) (moment_in entries other)
          ≡ option_and_then moment (cond t (option_map (λ (old : Body). body) o) (body_in other pages))
      by true old o e = rw e refl
      by false old o e = have other

  -- where a page goes
  pub moments-left : (gone : List ℕ) (entries : List (ℕ × ℕ)) (pages after : List Page) →
      HaveMoments entries pages → AreLeft gone pages after →
      HaveMoments (without_all gone entries) after
  moments-left gone entries pages after have left page =
      found_all gone entries
      ∙ by (list_any (λ id. nat_eq id page) gone)
      ∙ ap (option_and_then moment) (sym (left page))
    where
      found_all : (gone : List ℕ) (entries : List (ℕ × ℕ)) →
          moment_in (without_all gone entries) page
          ≡ cond (list_any (λ id. nat_eq id page) gone) None (moment_in entries page)
      found_all [] entries = refl
      found_all (id ∷ gone) entries =
          found_all gone (without id entries)
          ∙ ap (λ (o : Option ℕ). cond (list_any (λ id. nat_eq id page) gone) None o)
          (found_without id page entries)
          ∙ joined (nat_eq id page) (list_any (λ id. nat_eq id page) gone)
        where
          joined : (t u : Bool) →
              cond u None (cond t None (moment_in entries page))
              ≡ cond (t || u) None (moment_in entries page)
          joined true true = refl
          joined true false = refl
          joined false true = refl
          joined false false = refl

      by : (t : Bool) →
          cond t None (moment_in entries page)
          ≡ option_and_then moment (cond t None (body_in page pages))
      by true = refl
      by false = have page

-- tables in step stay so where a page gets other fields and their moments
pub timed-with_body : (times after : Times) (pages rows : List Page) (revisions : List Revision)
    (page : ℕ) (body : Body) → IsSome (row_with page pages) →
    after.expiries.entries
    ≡ with_option page (expiry_of revisions body) times.expiries.entries →
    after.go_lives.entries
    ≡ with_option page (go_live_of revisions body) times.go_lives.entries →
    rows ≡ with_body page body pages → AreTimed times pages revisions →
    AreTimed after rows revisions
timed-with_body times after pages rows revisions page body there expiries go_lives is timed = record {
  expiries = rw (expiries, is)
      (moments-with_body (expiry_of revisions) page body times.expiries.entries pages there
      timed.expiries);
  go_lives = rw (go_lives, is)
      (moments-with_body (go_live_of revisions) page body times.go_lives.entries pages there
      timed.go_lives);
}

-- and where pages go, with their moments
pub timed-left : (gone : List ℕ) (times left : Times) (pages after : List Page)
    (revisions : List Revision) →
    left.expiries.entries ≡ without_all gone times.expiries.entries →
    left.go_lives.entries ≡ without_all gone times.go_lives.entries →
    AreTimed times pages revisions → AreLeft gone pages after → AreTimed left after revisions
timed-left gone times left pages after revisions expiries go_lives timed are = record {
  expiries = rw (expiries)
      (moments-left (expiry_of revisions) gone times.expiries.entries pages after timed.expiries are);
  go_lives = rw (go_lives)
      (moments-left (go_live_of revisions) gone times.go_lives.entries pages after timed.go_lives are);
}

-- tables in step stay so where a page gets other fields with the same moments
pub timed-same : (times : Times) (pages rows : List Page) (revisions : List Revision) (page : ℕ)
    (old body : Body) → body_in page pages ≡ Some old → rows ≡ with_body page body pages →
    expiry_of revisions body ≡ expiry_of revisions old →
    go_live_of revisions body ≡ go_live_of revisions old → AreTimed times pages revisions →
    AreTimed times rows revisions
timed-same times pages rows revisions page old body was is expiry go_live timed = record {
  expiries = λ other. timed.expiries other ∙ same (expiry_of revisions) expiry other;
  go_lives = λ other. timed.go_lives other ∙ same (go_live_of revisions) go_live other;
}
  where
    same : (moment : Body → Option ℕ) → moment body ≡ moment old → (other : ℕ) →
        option_and_then moment (body_in other pages) ≡ option_and_then moment (body_in other rows)
    same moment e other =
        rw (is, body_in-with_body page other body pages, was) (by (nat_eq page other) refl)
      where
        by : (t : Bool) → nat_eq page other ≡ t →
            option_and_then moment (body_in other pages)
            ≡ option_and_then moment (cond t (Some body) (body_in other pages))
        by true f =
            let one : page ≡ other = eq_means page other f in
            let own : body_in other pages ≡ Some old = rw (← one) was in
            rw own (sym e)
        by false f = refl

module _ (pages : List ℕ) (i : ℕ) (entries all : List (ℕ × ℕ))
    (so_far : without_all (drop i pages) entries ≡ all) where
  -- one page more goes
  pub one_gone : (page : ℕ) → i < length pages → page ≡ get_or pages i 0 →
      without_all (drop (i + 1) pages) (without page entries) ≡ all
  one_gone page within is =
      ap (λ n. without_all (drop (i + 1) pages) (without n entries)) is
      ∙ ap (λ list. without_all list entries) (sym (drop_more pages i 0 within))
      ∙ so_far

  -- behind the last page
  pub all_gone : length pages ≤ i → entries ≡ all
  all_gone past = ap (λ list. without_all list entries) (sym (drop_all i pages past)) ∙ so_far
