-- Rows whose fields change, page by page: each row has what the changes of its page make of its fields.
use Rattle.std.proofs.Common.{◌≡◌, ℕ, Bool, true, false, cond, nat_eq, List, [], ◌∷◌, map, Some, IsSome, refl, ap, ◌∙◌, arith}
use Rattle.std.specs.List.{AllByRecursion}
use Rattle.page_tree.specs.Tree.{Forest, HasDistinctIds}
use Rattle.page_tree.specs.Rows.{row_with, rows_of}
use Rattle.site_types.specs.declared.body.Body.{Body}
use Rattle.tree_model.proofs.CountLemmas.{once, distinct_ids}
use Rattle.site_model.specs.World as worlds
use Rattle.site_model.specs.Bodies.{rebodied}
use Rattle.site_model.specs.Ticks.{DuePage, each_changed}
use Rattle.site_model.proofs.BodyLemmas.{count-rebodied}
use Rattle.page_store.specs.Pages.{Page}
use Rattle.flat_model.specs.Fits.{BodiesFit}
use Rattle.flat_model.specs.Made.{with_bodies}
use Rattle.flat_model.proofs.BodyRows.{put, rebodied_map}

-- a row with these fields
abbrev pub refielded : (ℕ → Body → Body) → Page → Page
refielded fields row = record row { body = fields row.id row.body }

-- rows with fields made twice
fields_twice : (first last : ℕ → Body → Body) (rows : List Page) →
    map (refielded last) (map (refielded first) rows)
    ≡ map (refielded (λ id body. last id (first id body))) rows
fields_twice first last [] = refl
fields_twice first last (row ∷ rows) =
    ap (λ (more : List Page). refielded (λ id body. last id (first id body)) row ∷ more)
    (fields_twice first last rows)

module _ {X : Type 0} (page : X → ℕ) (change : X → Body → Body) where
  -- what changes of pages make of the fields of a page
  abbrev pub fields_by : List X → ℕ → Body → Body
  fields_by [] id body = body
  fields_by (one ∷ more) id body =
      fields_by more id (cond (nat_eq id (page one)) (change one body) body)

  -- the rows after one change after another
  abbrev pub rows_by : List X → List Page → List Page
  rows_by [] rows = rows
  rows_by (one ∷ more) rows = rows_by more (map (put (page one) (change one)) rows)

  -- each row has what the changes make of its fields
  pub rows_by_fields : (changes : List X) (rows : List Page) →
      rows_by changes rows ≡ map (refielded (fields_by changes)) rows
  rows_by_fields [] [] = refl
  rows_by_fields [] (row ∷ rows) =
      ap (λ (more : List Page). row ∷ more) (rows_by_fields [] rows)
  rows_by_fields (one ∷ more) rows =
      rows_by_fields more (map (put (page one) (change one)) rows) ∙ first rows
    where
      at : (row : Page) (t : Bool) →
          refielded (fields_by more) (cond t (record row { body = change one row.body }) row)
          ≡ record row { body = fields_by more row.id (cond t (change one row.body) row.body) }
      at row true = refl
      at row false = refl

      first : (rows : List Page) →
          map (refielded (fields_by more)) (map (put (page one) (change one)) rows)
          ≡ map (refielded (fields_by (one ∷ more))) rows
      first [] = refl
      first (row ∷ rows) =
          ap (λ (here : Page). here
          ∷ map (refielded (fields_by more)) (map (put (page one) (change one)) rows))
          (at row (nat_eq row.id (page one)))
          ∙ ap (λ (rest : List Page). refielded (fields_by (one ∷ more)) row ∷ rest) (first rows)

-- what a list of pages with their fields makes of rows
pub bodies_rows : (bodies : List (ℕ × Body)) (rows : List Page) →
    with_bodies bodies rows
    ≡ map (refielded (fields_by (λ (one : ℕ × Body). one.0) (λ one body. one.1) bodies)) rows
bodies_rows bodies rows =
    by bodies rows ∙ rows_by_fields (λ (one : ℕ × Body). one.0) (λ one body. one.1) bodies rows
  where
    by : (bodies : List (ℕ × Body)) (rows : List Page) →
        with_bodies bodies rows
        ≡ rows_by (λ (one : ℕ × Body). one.0) (λ one body. one.1) bodies rows
    by [] rows = refl
    by (one ∷ more) rows = by more (map (put one.0 (λ (old : Body). one.1)) rows)

-- ids stay distinct where a page gets other fields
still_distinct : (id : ℕ) (change : Body → Body) (tree : Forest Body) → HasDistinctIds tree →
    HasDistinctIds (rebodied id change tree)
still_distinct id change tree distinct =
    distinct_ids (rebodied id change tree) (λ j.
    let same = count-rebodied id change j tree in
    let most = once tree distinct j in omega (arith, same, most))

-- what a list of due pages makes of the rows of a world's tree
pub each_rows : (change : DuePage → Body → Body) (due : List DuePage) (part : worlds.TreePart) →
    HasDistinctIds part.tree →
    rows_of (each_changed change due part).tree
    ≡ map (refielded (fields_by (λ (one : DuePage). one.page) change due)) (rows_of part.tree)
each_rows change due part distinct =
    by due part distinct
    ∙ rows_by_fields (λ (one : DuePage). one.page) change due (rows_of part.tree)
  where
    by : (due : List DuePage) (part : worlds.TreePart) → HasDistinctIds part.tree →
        rows_of (each_changed change due part).tree
        ≡ rows_by (λ (one : DuePage). one.page) change due (rows_of part.tree)
    by [] part distinct = refl
    by (one ∷ due) part distinct =
        by due (record part { tree = rebodied one.page (change one) part.tree })
        (still_distinct one.page (change one) part.tree distinct)
        ∙ ap (rows_by (λ (one : DuePage). one.page) change due)
        (rebodied_map one.page (change one) part.tree distinct)

-- ids stay distinct where due pages get other fields
pub each_distinct : (change : DuePage → Body → Body) (due : List DuePage)
    (part : worlds.TreePart) → HasDistinctIds part.tree →
    HasDistinctIds (each_changed change due part).tree
each_distinct change [] part distinct = distinct
each_distinct change (one ∷ due) part distinct =
    each_distinct change due (record part { tree = rebodied one.page (change one) part.tree })
    (still_distinct one.page (change one) part.tree distinct)

-- nothing but the tree changes
pub each_tree : (change : DuePage → Body → Body) (due : List DuePage) (part : worlds.TreePart) →
    each_changed change due part ≡ record part { tree = (each_changed change due part).tree }
each_tree change [] part = refl
each_tree change (one ∷ due) part =
    let next : worlds.TreePart =
    record part { tree = rebodied one.page (change one) part.tree } in
    each_tree change due next

-- rows where due pages of two kinds change, one kind after the other
pub rows_twice : (first last : DuePage → Body → Body) (due later : List DuePage)
    (part : worlds.TreePart) → HasDistinctIds part.tree →
    rows_of (each_changed last later (each_changed first due part)).tree
    ≡ map (refielded (λ id body.
    fields_by (λ (one : DuePage). one.page) last later id
    (fields_by (λ (one : DuePage). one.page) first due id body))) (rows_of part.tree)
rows_twice first last due later part distinct =
    each_rows last later (each_changed first due part) (each_distinct first due part distinct)
    ∙ ap (map (refielded (fields_by (λ (one : DuePage). one.page) last later)))
    (each_rows first due part distinct)
    ∙ fields_twice (fields_by (λ (one : DuePage). one.page) first due)
    (fields_by (λ (one : DuePage). one.page) last later) (rows_of part.tree)

-- rows of which each has the same fields either way
pub same_fields : (one other : ℕ → Body → Body) (rows : List Page) →
    AllByRecursion (λ (row : Page). one row.id row.body ≡ other row.id row.body) rows →
    map (refielded one) rows ≡ map (refielded other) rows
same_fields one other [] all = refl
same_fields one other (row ∷ rows) all =
    ap (λ (body : Body). record row { body = body } ∷ map (refielded one) rows) all.0
    ∙ ap (λ (more : List Page). refielded other row ∷ more) (same_fields one other rows all.1)

-- a page is there where another gets other fields
there_still : (page id : ℕ) (body : Body) (rows : List Page) → IsSome (row_with page rows) →
    IsSome (row_with page (map (put id (λ (old : Body). body)) rows))
there_still page id body [] there = there
there_still page id body (row ∷ rows) there =
    by (nat_eq row.id id) (nat_eq row.id page) refl there (there_still page id body rows)
  where
    by : (t u : Bool) → nat_eq row.id page ≡ u → IsSome (cond u (Some row) (row_with page rows)) →
        (IsSome (row_with page rows) →
        IsSome (row_with page (map (put id (λ (old : Body). body)) rows))) →
        IsSome (row_with page (cond t (record row { body = body }) row
        ∷ map (put id (λ (old : Body). body)) rows))
    by true true e some more = rw e refl
    by true false e some more = rw e (more some)
    by false true e some more = rw e refl
    by false false e some more = rw e (more some)

-- pages that are there can get other fields
pub bodies_fit : (bodies : List (ℕ × Body)) (rows : List Page) →
    AllByRecursion (λ (one : ℕ × Body). IsSome (row_with one.0 rows)) bodies → BodiesFit bodies rows
bodies_fit [] rows all = tt
bodies_fit (one ∷ more) rows all =
    (all.0, bodies_fit more (map (put one.0 (λ (old : Body). one.1)) rows) (still more all.1))
  where
    still : (some : List (ℕ × Body)) →
        AllByRecursion (λ (other : ℕ × Body). IsSome (row_with other.0 rows)) some →
        AllByRecursion (λ (other : ℕ × Body).
        IsSome (row_with other.0 (map (put one.0 (λ (old : Body). one.1)) rows))) some
    still [] all = tt
    still (other ∷ some) all =
        (there_still other.0 one.0 one.1 rows all.0, still some all.1)
