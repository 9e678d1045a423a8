-- What is kept of the pages of a list, after one of them got other fields or another came.
use Rattle.std.proofs.Common.{◌≡◌, ℕ, Bool, true, false, cond, nat_eq, List, [], ◌∷◌, Option, Some, None, IsSome, refl, ap, ◌∙◌, arith}
use Rattle.std.proofs.lemmas.Bool.Decides.{nat_tests}
use Rattle.std.specs.Option.{option_map}
use Rattle.page_tree.specs.Rows.{row_with, is_parent, with_kid, raise_count, insert_in_order, with_row, comes_before}
use Rattle.site_types.specs.declared.body.Body.{Body}
use Rattle.page_store.specs.Changes.{with_body, body_changed}
use Rattle.page_store.specs.Pages.{Page}
use Rattle.publishing.specs.Times.{body_in}
use Rattle.time_table.proofs.EntryLemmas.{eq_turned}
use Rattle.time_table.proofs.TableLemmas.{eq_joined}

-- a number is itself
pub eq_self : (n : ℕ) → nat_eq n n ≡ true
eq_self n = grind (arith, nat_tests)

-- what a test of two numbers means
pub eq_means : (m n : ℕ) → nat_eq m n ≡ true → m ≡ n
eq_means m n h = grind (arith, nat_tests)

-- what is kept of a row, where there is one
abbrev kept : Option Page → Option Body
kept row = option_map (λ (row : Page). row.body) row

-- what is kept of a page after one of the pages got these fields
pub body_in-with_body : (page other : ℕ) (body : Body) (pages : List Page) →
    body_in other (with_body page body pages)
    ≡ cond (nat_eq page other) (option_map (λ (old : Body). body) (body_in page pages))
    (body_in other pages)
body_in-with_body page other body [] = by (nat_eq page other)
  where
    by : (t : Bool) → kept None ≡ cond t (option_map (λ (old : Body). body) (kept None)) (kept None)
    by true = refl
    by false = refl
body_in-with_body page other body (row ∷ rows) =
    by (nat_eq row.id page) (nat_eq row.id other) (nat_eq page other) refl refl refl
    (body_in-with_body page other body rows)
  where
    by : (t u v : Bool) → nat_eq row.id page ≡ t → nat_eq row.id other ≡ u →
        nat_eq page other ≡ v →
        body_in other (with_body page body rows)
        ≡ cond (nat_eq page other) (option_map (λ (old : Body). body) (body_in page rows))
        (body_in other rows) →
        body_in other (cond t (body_changed body row) row ∷ with_body page body rows)
        ≡ cond v (option_map (λ (old : Body). body) (kept (cond t (Some row) (row_with page rows))))
        (kept (cond u (Some row) (row_with other rows)))
    by true true true e f g more = rw f refl
    by true true false e f g more =
        let joined : nat_eq page other ≡ true =
        eq_joined page row.id other (eq_turned row.id page true e) f in
        cc
    by true false true e f g more =
        let joined : nat_eq row.id other ≡ true = eq_joined row.id page other e g in
        cc
    by true false false e f g more = rw f (more ∙ rw g refl)
    by false true true e f g more =
        let joined : nat_eq row.id page ≡ true =
        eq_joined row.id other page f (eq_turned page other true g) in
        cc
    by false true false e f g more = rw f refl
    by false false true e f g more = rw f (more ∙ rw g refl)
    by false false false e f g more = rw f (more ∙ rw g refl)

-- the child counts are no part of it
body_in-raise_count : (parent : Option ℕ) (page : ℕ) (pages : List Page) →
    body_in page (raise_count parent pages) ≡ body_in page pages
body_in-raise_count parent page [] = refl
body_in-raise_count parent page (row ∷ rows) =
    by (is_parent row.id parent) (nat_eq row.id page) refl (body_in-raise_count parent page rows)
  where
    by : (t u : Bool) → nat_eq row.id page ≡ u →
        body_in page (raise_count parent rows) ≡ body_in page rows →
        body_in page (cond t (with_kid row) row ∷ raise_count parent rows)
        ≡ kept (cond u (Some row) (row_with page rows))
    by true true f more = rw f refl
    by true false f more = rw f more
    by false true f more = rw f refl
    by false false f more = rw f more

-- what is kept of a page after one that was not there was put in
body_in-insert : (new : Page) (page : ℕ) (pages : List Page) → body_in new.id pages ≡ None →
    body_in page (insert_in_order new pages)
    ≡ cond (nat_eq new.id page) (Some new.body) (body_in page pages)
body_in-insert new page [] none = by (nat_eq new.id page)
  where
    by : (t : Bool) → kept (cond t (Some new) None) ≡ cond t (Some new.body) (kept None)
    by true = refl
    by false = refl
body_in-insert new page (row ∷ rows) none =
    by (comes_before new.path row.path) (nat_eq row.id new.id) refl none (body_in-insert new page rows)
  where
    front : (t : Bool) (o : Option Page) →
        kept (cond t (Some new) o) ≡ cond t (Some new.body) (kept o)
    front true o = refl
    front false o = refl

    swapped : (u v : Bool) → nat_eq new.id page ≡ u → nat_eq row.id page ≡ v →
        nat_eq row.id new.id ≡ false → (o : Option Page) →
        kept o ≡ cond u (Some new.body) (body_in page rows) →
        kept (cond v (Some row) o)
        ≡ cond u (Some new.body) (kept (cond v (Some row) (row_with page rows)))
    swapped true true f g differs o more =
        let joined : nat_eq row.id new.id ≡ true =
        eq_joined row.id page new.id g (eq_turned new.id page true f) in
        cc
    swapped true false f g differs o more = more
    swapped false true f g differs o more = refl
    swapped false false f g differs o more = more

    by : (t u : Bool) → nat_eq row.id new.id ≡ u →
        kept (cond u (Some row) (row_with new.id rows)) ≡ None →
        (body_in new.id rows ≡ None →
        body_in page (insert_in_order new rows)
        ≡ cond (nat_eq new.id page) (Some new.body) (body_in page rows)) →
        body_in page (cond t (new ∷ row ∷ rows) (row ∷ insert_in_order new rows))
        ≡ cond (nat_eq new.id page) (Some new.body) (body_in page (row ∷ rows))
    by t true e h more = cc
    by true false e h more = front (nat_eq new.id page) (row_with page (row ∷ rows))
    by false false e h more =
        swapped (nat_eq new.id page) (nat_eq row.id page) refl refl e
        (row_with page (insert_in_order new rows)) (more h)

-- what is kept of a page after one that was not there came
pub body_in-with_row : (new : Page) (page : ℕ) (pages : List Page) → row_with new.id pages ≡ None →
    body_in page (with_row new pages)
    ≡ cond (nat_eq new.id page) (Some new.body) (body_in page pages)
body_in-with_row new page pages none =
    let absent : body_in new.id (raise_count new.parent pages) ≡ None =
    body_in-raise_count new.parent new.id pages ∙ ap kept none in
    body_in-insert new page (raise_count new.parent pages) absent
    ∙ ap (λ (o : Option Body). cond (nat_eq new.id page) (Some new.body) o)
    (body_in-raise_count new.parent page pages)

-- what is kept of a page that is there
pub body_there : (page : ℕ) (pages : List Page) → IsSome (row_with page pages) →
    (body : Body) × (body_in page pages ≡ Some body)
body_there page pages there = by (row_with page pages) refl there
  where
    by : (o : Option Page) → row_with page pages ≡ o → IsSome o →
        (body : Body) × (body_in page pages ≡ Some body)
    by None e some = absurd cc
    by (Some row) e some = (row.body, ap kept e)
