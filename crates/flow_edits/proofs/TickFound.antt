-- What is due of rows, found by its page.
use Rattle.std.proofs.Common.{◌≡◌, ◌||◌, ℕ, Bool, true, false, cond, nat_eq, List, [], ◌∷◌, Option, Some, None, refl, sym, ap, ◌∙◌, is_some}
use Rattle.std.specs.List.{AllByRecursion, list_any}
use Rattle.std.specs.Option.{option_and_then, option_map_or}
use Rattle.page_tree.specs.Rows.{row_with, comes_before}
use Rattle.site_types.specs.declared.body.Body.{Body}
use Rattle.site_model.specs.Ticks.{DuePage, due_key, with_due, all_due, pages_due}
use Rattle.site_model.specs.Users.{put_in}
use Rattle.page_store.specs.Pages.{Page, EachPair, HasOtherId}
use Rattle.time_table.specs.Table.{ComesFirst, IsTable}
use Rattle.time_table.proofs.TableLemmas.{eq_joined}
use Rattle.time_table.proofs.EntryLemmas.{eq_turned}
use Rattle.publishing.proofs.BodyLemmas.{eq_means}
use Rattle.publishing.proofs.DueLemmas.{pair_of, pairs_of, IsOwn, no_row}
use Rattle.flow_edits.proofs.TickRows.{fields_by}

-- what is due of a page
abbrev pub due_with : ℕ → List DuePage → Option DuePage
due_with page [] = None
due_with page (one ∷ due) = cond (nat_eq one.page page) (Some one) (due_with page due)

-- where nothing is due of a page, the first is another's
first_other : (one : DuePage) (due : List DuePage) (page : ℕ) → due_with page (one ∷ due) ≡ None →
    nat_eq one.page page ≡ false
first_other one due page none = by (nat_eq one.page page) none
  where
    by : (t : Bool) → cond t (Some one) (due_with page due) ≡ None → t ≡ false
    by true h = cc
    by false h = refl

-- and nothing is in what follows
rest_other : (one : DuePage) (due : List DuePage) (page : ℕ) → due_with page (one ∷ due) ≡ None →
    due_with page due ≡ None
rest_other one due page none = by (nat_eq one.page page) none
  where
    by : (t : Bool) → cond t (Some one) (due_with page due) ≡ None → due_with page due ≡ None
    by true h = cc
    by false h = h

-- what is due of a page with one more, of a page of which nothing was
found_put : (new : DuePage) (page : ℕ) (due : List DuePage) → due_with new.page due ≡ None →
    due_with page (put_in due_key new due)
    ≡ cond (nat_eq new.page page) (Some new) (due_with page due)
found_put new page [] none = refl
found_put new page (one ∷ due) none =
    by (comes_before (due_key new) (due_key one))
    (found_put new page due (rest_other one due new.page none))
  where
    swapped : (t u : Bool) → nat_eq new.page page ≡ t → nat_eq one.page page ≡ u →
        cond u (Some one) (cond t (Some new) (due_with page due))
        ≡ cond t (Some new) (cond u (Some one) (due_with page due))
    swapped true true e f =
        let joined : nat_eq one.page new.page ≡ true =
        eq_joined one.page page new.page f (eq_turned new.page page true e) in
        let differs = first_other one due new.page none in
        cc
    swapped true false e f = refl
    swapped false true e f = refl
    swapped false false e f = refl

    by : (t : Bool) →
        due_with page (put_in due_key new due)
        ≡ cond (nat_eq new.page page) (Some new) (due_with page due) →
        due_with page (cond t (new ∷ one ∷ due) (one ∷ put_in due_key new due))
        ≡ cond (nat_eq new.page page) (Some new) (cond (nat_eq one.page page) (Some one) (due_with page due))
    by true more = refl
    by false more =
        ap (λ (o : Option DuePage). cond (nat_eq one.page page) (Some one) o) more
        ∙ swapped (nat_eq new.page page) (nat_eq one.page page) refl refl

module _ (test : Page → Option DuePage) (own : IsOwn test) where
  -- what is due of a page is what its row tells
  pub due_found : (rows : List Page) → EachPair HasOtherId rows → (page : ℕ) →
      due_with page (all_due test rows) ≡ option_and_then test (row_with page rows)
  due_found [] ids page = refl
  due_found (row ∷ rows) ids page =
      by (test row) refl (due_found rows ids.1)
    where
      absent : row_with row.id rows ≡ None
      absent = no_row row.id rows ids.0

      idle : test row ≡ None → (t : Bool) → nat_eq row.id page ≡ t →
          option_and_then test (row_with page rows)
          ≡ option_and_then test (cond t (Some row) (row_with page rows))
      idle quiet true e =
          let one = eq_means row.id page e in
          let gone : row_with page rows ≡ None = rw (← one) absent in
          rw (gone, quiet) refl
      idle quiet false e = refl

      busy : (due : DuePage) → test row ≡ Some due → (t : Bool) →
          cond t (Some due) (option_and_then test (row_with page rows))
          ≡ option_and_then test (cond t (Some row) (row_with page rows))
      busy due is true = sym is
      busy due is false = refl

      by : (o : Option DuePage) → test row ≡ o →
          ((other : ℕ) →
          due_with other (all_due test rows) ≡ option_and_then test (row_with other rows)) →
          due_with page (with_due o (all_due test rows))
          ≡ option_and_then test (cond (nat_eq row.id page) (Some row) (row_with page rows))
      by None quiet more = more page ∙ idle quiet (nat_eq row.id page) refl
      by (Some due) is more =
          let page_is = own row due is in
          let free : due_with due.page (all_due test rows) ≡ None =
          rw page_is (more row.id ∙ ap (option_and_then test) absent) in
          found_put due page (all_due test rows) free
          ∙ ap (λ (p : ℕ). cond (nat_eq p page) (Some due) (due_with page (all_due test rows))) page_is
          ∙ ap (λ (o : Option DuePage). cond (nat_eq row.id page) (Some due) o) (more page)
          ∙ busy due is (nat_eq row.id page)

-- whether a page is among those that are due
pub any_due : (page : ℕ) (due : List DuePage) →
    list_any (λ one. nat_eq one page) (pages_due due) ≡ is_some (due_with page due)
any_due page [] = refl
any_due page (one ∷ due) = by (nat_eq one.page page) (any_due page due)
  where
    by : (t : Bool) →
        list_any (λ one. nat_eq one page) (pages_due due) ≡ is_some (due_with page due) →
        (t || list_any (λ one. nat_eq one page) (pages_due due))
        ≡ is_some (cond t (Some one) (due_with page due))
    by true more = refl
    by false more = more

module _ (change : DuePage → Body → Body) where
  -- what is due of other pages changes no field
  others_stay : (page : ℕ) (one : DuePage) (due : List DuePage) → nat_eq one.page page ≡ true →
      AllByRecursion (ComesFirst (pair_of one)) (pairs_of due) → (body : Body) →
      fields_by (λ (any : DuePage). any.page) change due page body ≡ body
  others_stay page one [] same all body = refl
  others_stay page one (next ∷ due) same all body =
      by (nat_eq page next.page) refl (others_stay page one due same all.1 body)
    where
      by : (t : Bool) → nat_eq page next.page ≡ t →
          fields_by (λ (any : DuePage). any.page) change due page body ≡ body →
          fields_by (λ (any : DuePage). any.page) change due page (cond t (change next body) body)
          ≡ body
      by true e more =
          let joined : nat_eq next.page one.page ≡ true =
          eq_joined next.page page one.page (eq_turned page next.page true e)
          (eq_turned one.page page true same) in
          let differs : nat_eq next.page one.page ≡ false = all.0.1 in
          cc
      by false e more = more

  -- what is due of a page changes its fields once
  pub due_fields : (page : ℕ) (due : List DuePage) → IsTable (pairs_of due) → (body : Body) →
      fields_by (λ (any : DuePage). any.page) change due page body
      ≡ option_map_or (λ one. change one body) (due_with page due) body
  due_fields page [] table body = refl
  due_fields page (one ∷ due) table body =
      by (nat_eq page one.page) (nat_eq one.page page) refl refl
      (due_fields page due table.1 body)
    where
      by : (t u : Bool) → nat_eq page one.page ≡ t → nat_eq one.page page ≡ u →
          fields_by (λ (any : DuePage). any.page) change due page body
          ≡ option_map_or (λ one. change one body) (due_with page due) body →
          fields_by (λ (any : DuePage). any.page) change due page (cond t (change one body) body)
          ≡ option_map_or (λ one. change one body) (cond u (Some one) (due_with page due)) body
      by true true e f more = others_stay page one due f table.0 (change one body)
      by true false e f more = let turned = eq_turned page one.page true e in cc
      by false true e f more = let turned = eq_turned one.page page true f in cc
      by false false e f more = more
