-- Other fields for a page of a tree are other fields in its row.
use Rattle.std.proofs.Common.{◌≡◌, ◌+◌, ◌≤◌, ℕ, Bool, true, false, cond, nat_eq, List, [], ◌∷◌, ◌++◌, map, Option, Some, None, refl, sym, ap, subst, ◌∙◌, arith}
use Rattle.page_tree.specs.Tree.{Forest, bare, grown, HasDistinctIds, node_of}
use Rattle.page_tree.specs.Rows.{Row, rows_below, rows_of, child_url}
use Rattle.page_tree.specs.Walk.{kid_count}
use Rattle.site_types.specs.declared.body.Body.{Body}
use Rattle.page_store.specs.Changes.{with_body}
use Rattle.tree_model.specs.Shape.{AllPages}
use Rattle.tree_model.proofs.CountLemmas.{count, one, once, not_first, id_found}
use Rattle.tree_model.proofs.PageLemmas.{AllPages-weaker}
use Rattle.site_model.specs.Bodies.{rebodied}
use Rattle.site_model.specs.Views.{first_body, body_of}
use Rattle.site_model.proofs.BodyLemmas.{AllPages-found}
use Rattle.site_model.proofs.RegularLemmas.{same_body}

-- what is put into a list's front and its back is put into it
map_append : {X Y : Type 0} (f : X → Y) (xs ys : List X) → map f (xs ++ ys) ≡ map f xs ++ map f ys
map_append f [] ys = refl
map_append f (x ∷ xs) ys = ap (λ more. f x ∷ more) (map_append f xs ys)

-- the row of a page
abbrev own_row : Option ℕ → List ℕ → List ℕ → ℕ → ℕ → List ℕ → ℕ → Body → Row Body
own_row parent path url i s slug kid_number body =
    record {
      id = i;
      parent = parent;
      path = path ++ s ∷ [];
      url = child_url url slug;
      slug = slug;
      numchild = kid_number;
      body = body;
    }

-- the rows below a page
abbrev kid_rows : List ℕ → List ℕ → ℕ → ℕ → List ℕ → Forest Body → List (Row Body)
kid_rows path url i s slug kids = rows_below (Some i) (path ++ s ∷ []) (child_url url slug) kids

-- a row with its fields changed if it is the page's
abbrev pub put : ℕ → (Body → Body) → Row Body → Row Body
put id step row = cond (nat_eq row.id id) (record row { body = step row.body }) row

module _ (id : ℕ) (change : Body → Body) where
  -- as many pages stand side by side
  kids_stay : (f : Forest Body) → kid_count (rebodied id change f) ≡ kid_count f
  kids_stay bare = refl
  kids_stay (grown i s slug body kids rest) = by (nat_eq i id) (kids_stay rest)
    where
      by : (t : Bool) → kid_count (rebodied id change rest) ≡ kid_count rest →
          kid_count (cond t (grown i s slug (change body) kids rest)
          (grown i s slug body (rebodied id change kids) (rebodied id change rest)))
          ≡ kid_count rest + 1
      by true same = refl
      by false same = ap (λ n. n + 1) same

  module _ (step : Body → Body) where
    -- rows of other pages stay
    rows_absent : (parent : Option ℕ) (path url : List ℕ) (f : Forest Body) → count id f ≡ 0 →
        map (put id step) (rows_below parent path url f) ≡ rows_below parent path url f
    rows_absent parent path url bare none = refl
    rows_absent parent path url (grown i s slug body kids rest) none =
        let other = not_first id i (count id kids + count id rest) none in
        rw (
          other,
          map_append (put id step) (kid_rows path url i s slug kids)
              (rows_below parent path url rest),
          rows_absent (Some i) (path ++ s ∷ []) (child_url url slug) kids (omega (arith, none)),
          rows_absent parent path url rest (omega (arith, none)),
        ) refl

    -- what is asked of each page with the id: both changes make the same of it
    abbrev Becomes : ℕ → List ℕ → Body → Type 0
    Becomes i slug body = nat_eq i id ≡ true → change body ≡ step body

    -- the rows of a page's fields, changed in the tree or in the rows
    rows_rebodied : (parent : Option ℕ) (path url : List ℕ) (f : Forest Body) → count id f ≤ 1 →
        AllPages Becomes f →
        rows_below parent path url (rebodied id change f)
        ≡ map (put id step) (rows_below parent path url f)
    rows_rebodied parent path url bare most all = refl
    rows_rebodied parent path url (grown i s slug body kids rest) most all =
        by (nat_eq i id) refl most
        (λ h. rows_rebodied (Some i) (path ++ s ∷ []) (child_url url slug) kids h all.1)
        (λ h. rows_rebodied parent path url rest h all.2)
      where
        by : (t : Bool) → nat_eq i id ≡ t → one t + (count id kids + count id rest) ≤ 1 →
            (count id kids ≤ 1 → kid_rows path url i s slug (rebodied id change kids)
            ≡ map (put id step) (kid_rows path url i s slug kids)) →
            (count id rest ≤ 1 → rows_below parent path url (rebodied id change rest)
            ≡ map (put id step) (rows_below parent path url rest)) →
            rows_below parent path url (cond t (grown i s slug (change body) kids rest)
            (grown i s slug body (rebodied id change kids) (rebodied id change rest)))
            ≡ cond t (own_row parent path url i s slug (kid_count kids) (step body))
            (own_row parent path url i s slug (kid_count kids) body)
            ∷ map (put id step) (kid_rows path url i s slug kids ++ rows_below parent path url rest)
        by true e most in_kids in_rest =
            let no_kid : count id kids ≡ 0 = omega arith in
            let no_rest : count id rest ≡ 0 = omega arith in
            let below : map (put id step) (kid_rows path url i s slug kids)
            ≡ kid_rows path url i s slug kids =
            rows_absent (Some i) (path ++ s ∷ []) (child_url url slug) kids no_kid in
            let behind : map (put id step) (rows_below parent path url rest)
            ≡ rows_below parent path url rest = rows_absent parent path url rest no_rest in
            rw (
              map_append (put id step) (kid_rows path url i s slug kids)
                  (rows_below parent path url rest),
              below,
              behind,
              all.0 e,
            ) refl
        by false e most in_kids in_rest =
            let few_kids : count id kids ≤ 1 = omega arith in
            let few_rest : count id rest ≤ 1 = omega arith in
            rw (
              map_append (put id step) (kid_rows path url i s slug kids)
                  (rows_below parent path url rest),
              kids_stay kids,
              in_kids few_kids,
              in_rest few_rest,
            ) refl

    -- it is so of the one page that has the fields of which both make the same
    asked : (body : Body) → change body ≡ step body → (f : Forest Body) → count id f ≤ 1 →
        first_body (node_of id f) ≡ Some body → AllPages Becomes f
    asked body is f most found =
        AllPages-weaker (λ i slug own. i ≡ id → first_body (node_of id f) ≡ Some own) Becomes f
        (λ i slug own same test.
        subst (λ (one : Body). change one ≡ step one)
        (sym (same_body own body (sym (same (id_found i id test)) ∙ found))) is)
        (AllPages-found id f most)

  -- a change makes the same as itself
  always : (f : Forest Body) → AllPages (λ i slug body. nat_eq i id ≡ true → change body ≡ change body) f
  always bare = tt
  always (grown i s slug body kids rest) = (λ e. refl, always kids, always rest)

-- other fields for a page that is there are other fields in its row
pub rebodied_rows : (id : ℕ) (change : Body → Body) (body new : Body) (tree : Forest Body) →
    HasDistinctIds tree → body_of tree id ≡ Some body → change body ≡ new →
    rows_of (rebodied id change tree) ≡ with_body id new (rows_of tree)
rebodied_rows id change body new tree distinct found is =
    let most = once tree distinct id in
    let step : Body → Body = λ (one : Body). new in
    rows_rebodied id change step None [] [] tree most (asked id change step body is tree most found)

-- the same where each page with the id has fields that become the new ones
pub rows_become : (id : ℕ) (change : Body → Body) (new : Body) (tree : Forest Body) →
    count id tree ≤ 1 → AllPages (λ i slug body. nat_eq i id ≡ true → change body ≡ new) tree →
    rows_of (rebodied id change tree) ≡ with_body id new (rows_of tree)
rows_become id change new tree most all =
    let step : Body → Body = λ (one : Body). new in
    rows_rebodied id change step None [] [] tree most all

-- a change of a page's fields changes them in its row
pub rebodied_map : (id : ℕ) (change : Body → Body) (tree : Forest Body) → HasDistinctIds tree →
    rows_of (rebodied id change tree) ≡ map (put id change) (rows_of tree)
rebodied_map id change tree distinct =
    rows_rebodied id change change None [] [] tree (once tree distinct id) (always id change tree)
