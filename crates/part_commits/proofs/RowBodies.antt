-- What is kept of each page after a change of the rows: pages that move or get other names keep it,
-- a page that comes is neither live nor scheduled, and those that go stood below the page that is
-- deleted.
use Rattle.std.proofs.Common.{◌≡◌, ℕ, Bool, true, false, cond, not, nat_eq, List, [], ◌∷◌, ◌++◌, Option, Some, None, IsSome, map, filter, take, drop, refl, sym, ap, subst, ◌∙◌, ◌⊎◌, inl, inr, rules}
use Rattle.std.proofs.lemmas.List.{take-append-drop}
use Rattle.std.proofs.lemmas.List.Folds.{find-append}
use Rattle.std.specs.List.{AllByRecursion, list_any}
use Rattle.std.specs.Option.{IfSome, option_map, option_map_or, option_or}
use Rattle.page_tree.specs.Rows.{row_with}
use Rattle.site_types.specs.declared.body.Body.{Body}
use Rattle.site_types.specs.declared.page_row.PageRow.{PageRow}
use Rattle.step_path.specs.Path.{steps_of}
use Rattle.tree_model.specs.Changes.{path_in}
use Rattle.page_store.specs.Changes.{changed, slug_changed, without_kid, without_range}
use Rattle.page_store.specs.PageRows.{seen_row, parent_id}
use Rattle.page_store.specs.Pages.{Page, EachPair, HasOtherId}
use Rattle.page_store.specs.Relabelling.{relisted, reparented, recounted}
use Rattle.page_store.specs.Search.{begins}
use Rattle.page_store.specs.Settling.{settled}
use Rattle.page_store.specs.declared.plan.MovePlan.{MovePlan}
use Rattle.page_store.proofs.AllLemmas.{All-weaker}
use Rattle.page_store.proofs.CutLemmas.{find-stay}
use Rattle.page_store.proofs.WithoutLemmas.{EachPair-weaker}
use Rattle.publishing.specs.Laws.{IsUntimed}
use Rattle.publishing.specs.Times.{body_in}
use Rattle.publishing.proofs.BodyLemmas.{body_in-with_row, eq_means}
use Rattle.flat_model.specs.Fits.{PagesFit, TreeFits}
use Rattle.flat_model.specs.Made.{with_page, with_pages, with_move, with_name, outside, subtree, rows_made}
use Rattle.flat_model.specs.declared.change.TreeChange.{TreeChange}
use Rattle.flat_model.specs.declared.change.TreeChange.TheVariants as trees

-- what is kept of a row, where there is one
abbrev kept : Option Page → Option Body
kept row = option_map (λ (row : Page). row.body) row

-- a change of rows that leaves ids and what is kept of pages
pub body_in-map : (change : Page → Page) → ((row : Page) → (change row).id ≡ row.id) →
    ((row : Page) → (change row).body ≡ row.body) → (page : ℕ) (rows : List Page) →
    body_in page (map change rows) ≡ body_in page rows
body_in-map change ids bodies page [] = refl
body_in-map change ids bodies page (row ∷ rows) =
    ap (λ (id : ℕ). kept (cond (nat_eq id page) (Some (change row))
    (row_with page (map change rows)))) (ids row)
    ∙ by (nat_eq row.id page) (body_in-map change ids bodies page rows)
  where
    by : (t : Bool) → body_in page (map change rows) ≡ body_in page rows →
        kept (cond t (Some (change row)) (row_with page (map change rows)))
        ≡ kept (cond t (Some row) (row_with page rows))
    by true more = ap Some (bodies row)
    by false more = more

-- a change of one page that leaves its id and what is kept of it
pub body_in-changed : (id : ℕ) (change : Page → Page) → ((row : Page) → (change row).id ≡ row.id) →
    ((row : Page) → (change row).body ≡ row.body) → (page : ℕ) (rows : List Page) →
    body_in page (changed id change rows) ≡ body_in page rows
body_in-changed id change ids bodies page rows =
    body_in-map (λ (row : Page). cond (nat_eq row.id id) (change row) row)
    (λ row. same_id row (nat_eq row.id id)) (λ row. same_body row (nat_eq row.id id)) page rows
  where
    same_id : (row : Page) (t : Bool) → (cond t (change row) row).id ≡ row.id
    same_id row true = ids row
    same_id row false = refl

    same_body : (row : Page) (t : Bool) → (cond t (change row) row).body ≡ row.body
    same_body row true = bodies row
    same_body row false = refl

-- what is found in two parts where the first has nothing
pub or_none : {X : Type 0} (o : Option X) → option_or o None ≡ o
or_none None = refl
or_none (Some x) = refl

-- two parts without it, where both together are without it
both_none : {X : Type 0} (one other : Option X) → option_or one other ≡ None →
    (one ≡ None) × (other ≡ None)
both_none None other is = (refl, is)
both_none (Some x) other is = absurd (cc)

-- the rows that a test does not take out
abbrev staying : (Page → Bool) → List Page → List Page
staying out rows = filter (λ row. not (out row)) rows

-- the rows that a test takes out, at a place among those that stay
abbrev replaced : (Page → Bool) → ℕ → List Page → List Page
replaced out place rows =
    take place (staying out rows) ++ (filter out rows ++ drop place (staying out rows))

-- whether a row is that of a page that moves, or of one below it
abbrev goes_along : MovePlan → List Page → Page → Bool
goes_along plan rows row = begins (path_in plan.page rows) row.path

module _ (page : ℕ) where
  -- where no row is the page's, none is found among those that a test leaves
  none_left : (test : Page → Bool) (rows : List Page) →
      AllByRecursion (λ (row : Page). nat_eq row.id page ≡ false) rows →
      row_with page (filter test rows) ≡ None
  none_left test [] all = refl
  none_left test (row ∷ rows) all = by (test row) (none_left test rows all.1)
    where
      by : (t : Bool) → row_with page (filter test rows) ≡ None →
          row_with page (cond t (row ∷ filter test rows) (filter test rows)) ≡ None
      by true more = rw all.0 more
      by false more = more

  -- A page is found among the rows that a test takes out, or among those that stay, and not in
  -- both.
  abbrev IsParted : (Page → Bool) → List Page → Type 0
  IsParted out rows =
      ((row_with page (filter (λ row. not (out row)) rows) ≡ row_with page rows)
      × (row_with page (filter out rows) ≡ None))
      ⊎ ((row_with page (filter out rows) ≡ row_with page rows)
      × (row_with page (filter (λ row. not (out row)) rows) ≡ None))

  -- where ids differ, a test parts the rows
  parted : (out : Page → Bool) (rows : List Page) → EachPair HasOtherId rows → IsParted out rows
  parted out [] own = inl (refl, refl)
  parted out (row ∷ rows) own =
      by (nat_eq row.id page) (out row) refl (parted out rows own.1)
    where
      others : nat_eq row.id page ≡ true →
          AllByRecursion (λ (later : Page). nat_eq later.id page ≡ false) rows
      others same =
          All-weaker (HasOtherId row) (λ (later : Page). nat_eq later.id page ≡ false)
          (λ later differ. apart later differ) rows own.0
        where
          apart : (later : Page) → HasOtherId row later → nat_eq later.id page ≡ false
          apart later differ = choice (nat_eq later.id page) refl
            where
              choice : (t : Bool) → nat_eq later.id page ≡ t → nat_eq later.id page ≡ false
              choice true is =
                  absurd (differ (eq_means later.id page is ∙ sym (eq_means row.id page same)))
              choice false is = is

      by : (t u : Bool) → nat_eq row.id page ≡ t → IsParted out rows →
          ((row_with page (cond (not u) (row ∷ filter (λ row. not (out row)) rows)
          (filter (λ row. not (out row)) rows)) ≡ cond t (Some row) (row_with page rows))
          × (row_with page (cond u (row ∷ filter out rows) (filter out rows)) ≡ None))
          ⊎ ((row_with page (cond u (row ∷ filter out rows) (filter out rows))
          ≡ cond t (Some row) (row_with page rows))
          × (row_with page (cond (not u) (row ∷ filter (λ row. not (out row)) rows)
          (filter (λ row. not (out row)) rows)) ≡ None))
      by true true is more =
          inr (rw is refl, none_left (λ row. not (out row)) rows (others is))
      by true false is more = inl (rw is refl, none_left out rows (others is))
      by false true is (inl more) = inl (more.0, rw is more.1)
      by false true is (inr more) = inr (rw is more.0, more.1)
      by false false is (inl more) = inl (rw is more.0, more.1)
      by false false is (inr more) = inr (more.0, rw is more.1)

  -- what is found of a page after rows were moved to another place
  moved_found : (out : Page → Bool) (place : ℕ) (rows : List Page) → IsParted out rows →
      row_with page (replaced out place rows) ≡ row_with page rows
  moved_found out place rows parts =
      find-append (λ (row : Page). nat_eq row.id page) (take place (staying out rows))
      (filter out rows ++ drop place (staying out rows))
      ∙ (ap (option_or (row_with page (take place (staying out rows))))
      (find-append (λ (row : Page). nat_eq row.id page) (filter out rows)
      (drop place (staying out rows)))
      ∙ by parts)
    where
      whole :
          option_or (row_with page (take place (staying out rows)))
          (row_with page (drop place (staying out rows)))
          ≡ row_with page (staying out rows)
      whole =
          sym (find-append (λ (row : Page). nat_eq row.id page) (take place (staying out rows))
          (drop place (staying out rows)))
          ∙ ap (row_with page) (take-append-drop place (staying out rows))

      by : IsParted out rows →
          option_or (row_with page (take place (staying out rows)))
          (option_or (row_with page (filter out rows))
          (row_with page (drop place (staying out rows))))
          ≡ row_with page rows
      by (inl found) =
          ap (λ (o : Option Page). option_or (row_with page (take place (staying out rows)))
          (option_or o (row_with page (drop place (staying out rows))))) found.1
          ∙ (whole ∙ found.0)
      by (inr found) =
          let none = both_none (row_with page (take place (staying out rows)))
          (row_with page (drop place (staying out rows))) (whole ∙ found.1) in
          rw (none.0, none.1) (or_none (row_with page (filter out rows)) ∙ found.0)

  -- rows with the paths and URLs that are listed, settled, keep what is kept of their pages
  kept_settled : (paths urls : List (ℕ × List ℕ)) (rows : List Page) →
      body_in page (settled (map (relisted paths urls) rows)) ≡ body_in page rows
  kept_settled paths urls rows =
      let listed = map (relisted paths urls) rows in
      body_in-map (recounted (map (reparented listed) listed)) (λ row. refl) (λ row. refl) page
      (map (reparented listed) listed)
      ∙ (body_in-map (reparented listed) (λ row. refl) (λ row. refl) page listed
      ∙ body_in-map (relisted paths urls) (λ row. refl) (λ row. refl) page rows)

  -- a page that moves, or does not, keeps what is kept of it
  pub kept_moved : (plan : MovePlan) (urls : List (ℕ × List ℕ)) (rows : List Page) →
      EachPair HasOtherId rows → body_in page (with_move plan urls rows) ≡ body_in page rows
  kept_moved plan urls rows own =
      kept_settled plan.rows urls (replaced (goes_along plan rows) plan.place rows)
      ∙ ap kept (moved_found (goes_along plan rows) plan.place rows
      (parted (goes_along plan rows) rows own))

  -- a page that gets another slug, or another URL, keeps what is kept of it
  pub kept_named : (id : ℕ) (slug : List ℕ) (urls : List (ℕ × List ℕ)) (rows : List Page) →
      body_in page (with_name id slug urls rows) ≡ body_in page rows
  kept_named id slug urls rows =
      body_in-map _ (λ row. refl) (λ row. refl) page (changed id (slug_changed slug) rows)
      ∙ body_in-changed id (slug_changed slug) (λ row. refl) (λ row. refl) page rows

  -- a page that is deleted, or stands below it, goes, and each other keeps what is kept of it
  pub left_kept : (id : ℕ) (top : Page) (rows : List Page) → row_with id rows ≡ Some top →
      EachPair HasOtherId rows →
      body_in page (without_range id rows)
      ≡ cond (list_any (λ (row : Page). nat_eq row.id page) (subtree top.path rows)) None
      (body_in page rows)
  left_kept id top rows found own =
      rw found
      (counted top.parent
      ∙ (ap kept (find-stay (λ (row : Page). begins top.path row.path)
      (λ (row : Page). nat_eq row.id page) rows (EachPair-weaker HasOtherId
      (λ one other. nat_eq one.id page ≡ true → nat_eq other.id page ≡ true → ⊥)
      (λ one other differ e f. differ (eq_means other.id page f ∙ sym (eq_means one.id page e)))
      rows own))
      ∙ by (list_any (λ (row : Page). nat_eq row.id page) (subtree top.path rows))))
    where
      counted : (parent : Option ℕ) →
          body_in page (option_map_or (λ id. changed id without_kid (outside top.path rows)) parent
          (outside top.path rows))
          ≡ body_in page (outside top.path rows)
      counted None = refl
      counted (Some id) =
          body_in-changed id without_kid (λ row. refl) (λ row. refl) page (outside top.path rows)

      by : (t : Bool) → kept (cond t None (row_with page rows)) ≡ cond t None (body_in page rows)
      by true = refl
      by false = refl

  -- The page keeps what is kept of it, or it comes and is neither live nor scheduled.
  abbrev pub Comes : List Page → List Page → Type 0
  Comes before after =
      (body_in page after ≡ body_in page before)
      ⊎ ((body_in page before ≡ None) × IfSome (body_in page after) IsUntimed)

  -- so after two changes
  comes_after : (before mid after : List Page) → Comes before mid → Comes mid after →
      Comes before after
  comes_after before mid after (inl one) (inl other) = inl (other ∙ one)
  comes_after before mid after (inl one) (inr other) = inr (sym one ∙ other.0, other.1)
  comes_after before mid after (inr one) (inl other) =
      inr (one.0, subst (λ (o : Option Body). IfSome o IsUntimed) (sym other) one.1)
  comes_after before mid after (inr one) (inr other) = inr (one.0, other.1)

  -- where one page comes
  one_comes : (new : PageRow × List ℕ) (rows : List Page) → row_with new.0.id rows ≡ None →
      IsUntimed new.0.body → Comes rows (with_page new rows)
  one_comes new rows none untimed =
      by (nat_eq new.0.id page) refl
      (body_in-with_row (seen_row new.0 (parent_id (steps_of new.0.path) rows) new.1) page rows
      none)
    where
      by : (t : Bool) → nat_eq new.0.id page ≡ t →
          body_in page (with_page new rows) ≡ cond t (Some new.0.body) (body_in page rows) →
          Comes rows (with_page new rows)
      by true same is =
          inr (
            subst (λ (id : ℕ). body_in id rows ≡ None) (eq_means new.0.id page same)
                (ap kept none),
            subst (λ (o : Option Body). IfSome o IsUntimed) (sym is) untimed,
          )
      by false other is = inl is

  -- where pages come, one after the other
  pub pages_come : (new : List (PageRow × List ℕ)) (rows : List Page) → PagesFit new rows →
      Comes rows (with_pages new rows)
  pages_come [] rows fits = inl refl
  pages_come (one ∷ new) rows fits =
      comes_after rows (with_page one rows) (with_pages new (with_page one rows))
      (one_comes one rows fits.0.new_id fits.1) (pages_come new (with_page one rows) fits.2)

  -- what is kept of a page after any change of the rows
  pub rows_keep : (tree : TreeChange) (rows : List Page) → TreeFits tree rows →
      EachPair HasOtherId rows →
      (body_in page (rows_made tree rows) ≡ None) ⊎ Comes rows (rows_made tree rows)
  rows_keep trees.Nothing rows fits own = inr (inl refl)
  rows_keep (trees.Insert new) rows fits own = inr (pages_come new rows fits)
  rows_keep (trees.Move plan urls) rows fits own = inr (inl (kept_moved plan urls rows own))
  rows_keep (trees.Delete id) rows fits own = by (row_with id rows) refl fits.0
    where
      either : (top : Page) (t : Bool) →
          body_in page (without_range id rows) ≡ cond t None (body_in page rows) →
          (body_in page (without_range id rows) ≡ None) ⊎ Comes rows (without_range id rows)
      either top true is = inl is
      either top false is = inr (inl is)

      by : (o : Option Page) → row_with id rows ≡ o → IsSome o →
          (body_in page (without_range id rows) ≡ None) ⊎ Comes rows (without_range id rows)
      by None found there = absurd (search (rules, there))
      by (Some top) found there =
          either top (list_any (λ (row : Page). nat_eq row.id page) (subtree top.path rows))
          (left_kept id top rows found own)
  rows_keep (trees.Rename id slug urls) rows fits own = inr (inl (kept_named id slug urls rows))
