-- The change of a planned move: the rows can take it, and it leads to those of the moved tree.
use Rattle.std.proofs.Common.{◌≡◌, ℕ, ◌≤◌, Bool, true, false, cond, List, [], ◌∷◌, ◌++◌, Option, Some, None, is_some, IsSome, IfSome, Ok, nat_eq, unwrap_or, option_map, refl, sym, ap, subst, ◌∙◌, arith, rules}
use Rattle.std.specs.List.{AllByRecursion}
use Rattle.page_tree.specs.Tree.{Forest, bare, grown, HasDistinctIds, kids_of, kid_with_slug, without}
use Rattle.page_tree.specs.Rows.{Row, rows_below, rows_of, row_with, kid_named, child_url}
use Rattle.page_tree.proofs.RowLemmas.{has_page-rows}
use Rattle.site_types.specs.declared.body.Body.{Body}
use Rattle.site_types.specs.declared.position.Position.{Position}
use Rattle.tree_model.specs.Changes.{changed_urls, with_urls}
use Rattle.tree_model.specs.Places.{parent_at, slug_in, moved_to, leads_into_itself}
use Rattle.tree_model.proofs.CountLemmas.{count, counts_has, same_id, id_found}
use Rattle.page_store.specs.PageRows.{IsRange}
use Rattle.page_store.specs.Pages.{ArePages}
use Rattle.page_store.specs.Relabelling.{AreListed, KeepParents, first_moved, relabelled_rows}
use Rattle.page_store.specs.declared.plan.MovePlan.{MovePlan}
use Rattle.page_store.proofs.AllLemmas.{All-append}
use Rattle.path_moves.specs.Applying.{IsMovable, IsPlanned, IsFree}
use Rattle.path_moves.specs.Plans.{plan_of, planned_move}
use Rattle.path_moves.proofs.ApplyAfter.{planned_clear, distinct_rows}
use Rattle.path_moves.proofs.ApplyCall.{IsCall, call_is}
use Rattle.path_moves.proofs.ApplyChanges.{distinct_complete}
use Rattle.slug_urls.specs.Flat.{taken_by, other_kid}
use Rattle.slug_urls.proofs.Taken.{taken_is}
use Rattle.flat_model.specs.Fits.{MoveFits}
use Rattle.flat_model.specs.Made.{with_move}
use Rattle.flat_model.proofs.MoveRows.{HasRange, range_of_page, found_id, with_move_is, first_is, remaining_from}
use Rattle.tree_edits.proofs.ListedUrls.{changed_listed}
use Rattle.tree_edits.proofs.MovePlans.{outside_in}
use Rattle.new_pages.proofs.ReplyLemmas.{own_ids_of}

-- pages that were there have rows
rows_there : (before : Forest Body) (parent : Option ℕ) (path url : List ℕ) (f : Forest Body) →
    ((j : ℕ) → count j f ≤ count j before) →
    AllByRecursion (λ (row : Row Body). IsSome (row_with row.id (rows_of before)))
    (rows_below parent path url f)
rows_there before parent path url bare few = tt
rows_there before parent path url (grown i s slug body kids rest) few =
    let own = few i in
    let here : 1 ≤ count i (grown i s slug body kids rest) = rw (same_id i) (omega arith) in
    let there = counts_has i before (omega (arith, own, here)) in (
      sym (has_page-rows i None [] [] before) ∙ there,
      All-append (λ (row : Row Body). IsSome (row_with row.id (rows_of before)))
          (rows_below (Some i) (path ++ s ∷ []) (child_url url slug) kids)
          (rows_below parent path url rest)
          (rows_there before (Some i) (path ++ s ∷ []) (child_url url slug) kids
          (λ j. let all = few j in omega (arith, all)))
          (rows_there before parent path url rest (λ j. let all = few j in omega (arith, all))),
    )

-- where no kid but the page has the slug, the kid that has it is the page
pub kid_is : (page : ℕ) (found : Option ℕ) → other_kid page found ≡ None →
    IfSome found (λ kid. kid ≡ page)
kid_is page None is = tt
kid_is page (Some kid) is = by (nat_eq kid page) refl is
  where
    by : (t : Bool) → nat_eq kid page ≡ t → cond t None (Some kid) ≡ None → kid ≡ page
    by true e is = id_found kid page e
    by false e is = absurd (cc)

-- so it is where the slug is that of the page's row
free_kid : (rows : List (Row Body)) (page parent : ℕ) (o : Option (Row Body)) →
    taken_by page parent (unwrap_or (option_map (λ (row : Row Body). row.slug) o) []) rows ≡ None →
    IfSome o (λ row. IfSome (kid_named parent row.slug rows) (λ kid. kid ≡ page))
free_kid rows page parent None is = tt
free_kid rows page parent (Some row) is = kid_is page (kid_named parent row.slug rows) is

-- a row that is there is found
pub some_row : (found : Option (Row Body)) → is_some found ≡ true →
    (row : Row Body) × (found ≡ Some row)
some_row None is = absurd (cc)
some_row (Some row) is = (row, refl)

-- What is known of a move that no rule refuses, and of its plan.
pub record IsMove (tree : Forest Body) (page target : ℕ) (position : Position) (plan : MovePlan)
    (urls : List (ℕ × List ℕ)) : Type 0 where
  pub pages : ArePages (rows_of tree)
  pub movable : IsMovable tree page target position
  pub outside : leads_into_itself tree page target position ≡ false
  pub free : kid_with_slug (slug_in tree page) (kids_of (parent_at tree target position)
      (without page tree)) ≡ None
  pub counts : (j : ℕ) → count j (moved_to tree page target position) ≡ count j tree
  pub distinct : HasDistinctIds (moved_to tree page target position)
  pub planned : planned_move tree page target position ≡ Ok plan
  pub urls_are : urls ≡ changed_urls (rows_of tree) (rows_of (moved_to tree page target position))

module _ (tree : Forest Body) (page target : ℕ) (position : Position) (plan : MovePlan)
    (urls : List (ℕ × List ℕ)) (is : IsMove tree page target position plan urls) where
  -- the tree behind the move
  abbrev then : Forest Body
  then = moved_to tree page target position

  -- the plan is that of the tree
  plan_is : plan_of tree page target position ≡ plan
  plan_is = (planned_clear tree page target position plan is.planned).1

  -- so its page is the one that moves
  page_is : page ≡ plan.page
  page_is = ap (λ (p : MovePlan). p.page) plan_is

  -- the plan, in the rows
  planned_in : IsPlanned (rows_of tree) plan tree target position
  planned_in = record {
    rows_are = refl;
    movable = subst (λ id. IsMovable tree id target position) page_is is.movable;
    planned = subst (λ id. planned_move tree id target position ≡ Ok plan) page_is is.planned;
  }

  -- no other kid of the new parent has the page's slug
  free_in : IsFree plan (rows_of tree)
  free_in =
      let parent = parent_at tree target position in
      let place = outside_in tree page target position is.pages is.movable is.outside in
      let none : taken_by page parent (slug_in tree page) (rows_of tree) ≡ None =
      sym (taken_is tree page parent (slug_in tree page) is.pages place.there place.outside)
      ∙ is.free in
      let parent_is : parent ≡ plan.parent = ap (λ (p : MovePlan). p.parent) plan_is in
      rw (← page_is, ← parent_is)
      (free_kid (rows_of tree) page parent (row_with page (rows_of tree)) none)

  -- the URLs that change, each listed once
  listed_in : AreListed (rows_of tree) urls
  listed_in =
      subst (λ u. AreListed (rows_of tree) u) (sym is.urls_are)
      (changed_listed (rows_of tree) (rows_of then) (own_ids_of then is.distinct)
      (rows_there tree None [] [] then (λ j. let same = is.counts j in omega (arith, same))))

  -- the page's row
  own_row : (row : Row Body) × (row_with plan.page (rows_of tree) ≡ Some row)
  own_row =
      some_row (row_with plan.page (rows_of tree))
      (subst (λ id. is_some (row_with id (rows_of tree)) ≡ true) page_is
      (sym (has_page-rows page None [] [] tree) ∙ is.movable.page_there))

  -- the place and the size of its subtree
  own_range : HasRange (rows_of tree) own_row.0
  own_range = range_of_page plan.page (rows_of tree) own_row.0 is.pages own_row.1

  -- the relabelling of the rows
  call : IsCall (rows_of tree) plan.rows urls own_range.from own_range.n plan.place
      (rows_of (moved_to tree plan.page target position))
  call =
      let row = own_row in
      call_is (rows_of tree) plan tree target position urls own_range.from own_range.n is.pages
      planned_in free_in (rw row.1 (search rules))
      (subst (λ (o : Option (Row Body)). IfSome o (λ r. IsRange (rows_of tree) r own_range.from
      own_range.n)) (sym row.1) own_range.range)

  -- the move is that relabelling
  relabelled : with_move plan urls (rows_of tree)
      ≡ relabelled_rows own_range.from own_range.n plan.place plan.rows urls (rows_of tree)
  relabelled =
      with_move_is plan urls (rows_of tree) own_row.0 own_range.from own_range.n own_row.1
      own_range.range

  -- the rows can take the move
  pub move_fits : MoveFits plan urls (rows_of tree)
  move_fits =
      let row = own_row in
      let first = first_is (rows_of tree) row.0 own_range.from own_range.n own_range.range in
      let own = found_id plan.page (rows_of tree) row.0 row.1 in
      record {
        there = rw row.1 (search rules);
        within = rw row.1 (remaining_from (rows_of tree) row.0 own_range.from own_range.n
            plan.place own_range.range call.to_within);
        paths = call.listed;
        urls_are = listed_in;
        are_pages = subst ArePages (sym relabelled) call.are_pages;
        parents = subst (λ top. KeepParents top (rows_of tree) (with_move plan urls (rows_of tree)))
            (first ∙ ap Some own)
            (subst (KeepParents (first_moved own_range.from own_range.n (rows_of tree))
            (rows_of tree)) (sym relabelled) call.parents);
      }

  -- it leads to the rows of the moved tree
  pub move_leads : with_move plan urls (rows_of tree) ≡ rows_of then
  move_leads =
      relabelled
      ∙ (call.result
      ∙ (ap (λ id. with_urls urls (rows_of tree) (rows_of (moved_to tree id target position)))
      (sym page_is)
      ∙ (ap (λ u. with_urls u (rows_of tree) (rows_of then)) is.urls_are
      ∙ distinct_complete (rows_of tree) (rows_of then)
      (distinct_rows (rows_of then) (own_ids_of then is.distinct)))))
