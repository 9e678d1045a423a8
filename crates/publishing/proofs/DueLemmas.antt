-- What is due of rows, as pairs of a moment and a page: a table, with the moments of the rows.
use Rattle.std.proofs.Common.{◌≡◌, ℕ, Bool, true, false, cond, nat_eq, nat_lt, List, [], ◌∷◌, map, Option, Some, None, refl, ap, ◌∙◌, arith}
use Rattle.std.proofs.lemmas.Bool.Decides.{nat_tests}
use Rattle.std.specs.List.{AllByRecursion}
use Rattle.std.specs.Option.{option_map, option_and_then}
use Rattle.page_tree.specs.Rows.{row_with, comes_before}
use Rattle.site_model.specs.Ticks.{DuePage, due_key, all_due}
use Rattle.site_model.specs.Users.{put_in}
use Rattle.page_store.specs.Pages.{Page, EachPair, HasOtherId}
use Rattle.time_table.specs.Table as tables
use Rattle.time_table.specs.Table.{is_earlier, moment_in, IsTable}
use Rattle.time_table.proofs.TableLemmas.{found_put, table_put}
use Rattle.publishing.proofs.BodyLemmas.{eq_means}

-- what is due, as a pair
abbrev pub pair_of : DuePage → ℕ × ℕ
pair_of due = (due.moment, due.page)

-- the pairs of what is due
abbrev pub pairs_of : List DuePage → List (ℕ × ℕ)
pairs_of due = map pair_of due

-- where a page has no moment, the first pair is not its own
first_differs : (entry : ℕ × ℕ) (entries : List (ℕ × ℕ)) (page : ℕ) →
    moment_in (entry ∷ entries) page ≡ None → nat_eq entry.1 page ≡ false
first_differs entry entries page none = by (nat_eq entry.1 page) none
  where
    by : (t : Bool) → cond t (Some entry.0) (moment_in entries page) ≡ None → t ≡ false
    by true h = cc
    by false h = refl

-- and it has none in what follows
rest_differs : (entry : ℕ × ℕ) (entries : List (ℕ × ℕ)) (page : ℕ) →
    moment_in (entry ∷ entries) page ≡ None → moment_in entries page ≡ None
rest_differs entry entries page none = by (nat_eq entry.1 page) none
  where
    by : (t : Bool) → cond t (Some entry.0) (moment_in entries page) ≡ None →
        moment_in entries page ≡ None
    by true h = cc
    by false h = h

-- of two pages one comes before the other by what is due exactly where its pair does not come behind
order_step : (m p n q : ℕ) → nat_eq q p ≡ false →
    cond (nat_eq m n) (cond (nat_eq p q) false (nat_lt p q)) (nat_lt m n)
    ≡ cond (cond (nat_eq n m) (nat_lt q p) (nat_lt n m)) false true
order_step m p n q differ = grind (arith, nat_tests)

-- to put one more in among what is due is to put its pair in, where its page is another
pub pairs-put : (new : DuePage) (due : List DuePage) →
    moment_in (pairs_of due) new.page ≡ None →
    pairs_of (put_in due_key new due) ≡ tables.put_in (pair_of new) (pairs_of due)
pairs-put new [] none = refl
pairs-put new (one ∷ due) none =
    by (comes_before (due_key new) (due_key one)) (is_earlier (pair_of one) (pair_of new))
    (order_step new.moment new.page one.moment one.page
    (first_differs (pair_of one) (pairs_of due) new.page none))
    (pairs-put new due (rest_differs (pair_of one) (pairs_of due) new.page none))
  where
    by : (t u : Bool) → t ≡ cond u false true →
        pairs_of (put_in due_key new due) ≡ tables.put_in (pair_of new) (pairs_of due) →
        pairs_of (cond t (new ∷ one ∷ due) (one ∷ put_in due_key new due))
        ≡ cond u (pair_of one ∷ tables.put_in (pair_of new) (pairs_of due))
        (pair_of new ∷ pair_of one ∷ pairs_of due)
    by true true e more = cc
    by true false e more = refl
    by false true e more = ap (λ (rest : List (ℕ × ℕ)). pair_of one ∷ rest) more
    by false false e more = cc

-- a page that no row is has none
pub no_row : (page : ℕ) (rows : List Page) →
    AllByRecursion (λ (row : Page). row.id ≡ page → ⊥) rows → row_with page rows ≡ None
no_row page [] all = refl
no_row page (row ∷ rows) all = by (nat_eq row.id page) refl (no_row page rows all.1)
  where
    by : (t : Bool) → nat_eq row.id page ≡ t → row_with page rows ≡ None →
        cond t (Some row) (row_with page rows) ≡ None
    by true e more = absurd (all.0 (eq_means row.id page e))
    by false e more = more

module _ (test : Page → Option DuePage) where
  -- the moment of a row that is due
  abbrev pub moment_of : Page → Option ℕ
  moment_of row = option_map (λ (due : DuePage). due.moment) (test row)

  -- what is due has the page of its row
  abbrev pub IsOwn : Type 0
  IsOwn = (row : Page) (due : DuePage) → test row ≡ Some due → due.page ≡ row.id

  -- The pairs of what is due of these rows are a table, with the moments of the rows.
  pub record HasMoments (rows : List Page) : Type 0 where
    pub table : IsTable (pairs_of (all_due test rows))
    pub moments : (page : ℕ) → moment_in (pairs_of (all_due test rows)) page
        ≡ option_and_then moment_of (row_with page rows)

  -- one row more
  row_comes : (row : Page) (rows : List Page) → IsOwn → row_with row.id rows ≡ None →
      HasMoments rows → HasMoments (row ∷ rows)
  row_comes row rows own none has = by (test row) refl
    where
      absent : moment_in (pairs_of (all_due test rows)) row.id ≡ None
      absent = has.moments row.id ∙ ap (option_and_then moment_of) none

      idle : (page : ℕ) → test row ≡ None → (t : Bool) → nat_eq row.id page ≡ t →
          option_and_then moment_of (row_with page rows)
          ≡ option_and_then moment_of (cond t (Some row) (row_with page rows))
      idle page quiet true e =
          let one = eq_means row.id page e in
          let gone : row_with page rows ≡ None = rw (← one) none in
          rw (gone, quiet) refl
      idle page quiet false e = refl

      busy : (page : ℕ) (due : DuePage) → test row ≡ Some due → (t : Bool) →
          cond t (Some due.moment) (option_and_then moment_of (row_with page rows))
          ≡ option_and_then moment_of (cond t (Some row) (row_with page rows))
      busy page due is true = rw is refl
      busy page due is false = refl

      by : (o : Option DuePage) → test row ≡ o → HasMoments (row ∷ rows)
      by None quiet = record {
        table = rw quiet (has.table);
        moments = λ page. rw quiet (has.moments page ∙ idle page quiet (nat_eq row.id page) refl);
      }
      by (Some due) is =
          let page_is = own row due is in
          let free : moment_in (pairs_of (all_due test rows)) due.page ≡ None = rw page_is absent in
          let put = pairs-put due (all_due test rows) free in
          record {
            table = rw (is, put) (table_put (pair_of due) (pairs_of (all_due test rows)) has.table free);
            moments = λ page.
                rw (is, put) (found_put (pair_of due) page (pairs_of (all_due test rows)) free
                ∙ rw (page_is, has.moments page) (busy page due is (nat_eq row.id page)));
          }

  -- so it is of rows with ids of their own
  pub have_moments : IsOwn → (rows : List Page) → EachPair HasOtherId rows → HasMoments rows
  have_moments own [] ids = record { table = tt; moments = λ page. refl }
  have_moments own (row ∷ rows) ids =
      row_comes row rows own (no_row row.id rows ids.0) (have_moments own rows ids.1)
