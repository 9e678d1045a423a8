-- Live pages by their URLs: no two pages have one URL, so that the page with a URL is the one that is
-- asked whether it is live.
use Rattle.std.proofs.Common.{◌≡◌, ◌≤◌, ℕ, Bool, true, false, cond, ◌&&◌, List, [], ◌∷◌, ◌++◌, length, find, Option, Some, None, IsSome, bytes_eq, refl, sym, ap, subst, ◌∙◌, arith, rules}
use Rattle.std.specs.List.{AllByRecursion}
use Rattle.std.specs.Option.{option_map}
use Rattle.page_tree.specs.Tree.{Forest, bare, grown}
use Rattle.page_tree.specs.Rows.{rows_below, rows_of, row_with, child_url}
use Rattle.page_tree.specs.Walk.{SLASH}
use Rattle.site_ids.specs.Slug.{IsSlug}
use Rattle.site_types.specs.declared.body.Body.{Body}
use Rattle.site_types.specs.declared.page_row.PageRow.{PageRow}
use Rattle.tree_model.specs.Shape.{AllPages}
use Rattle.tree_model.proofs.CountLemmas.{count, once}
use Rattle.tree_model.proofs.PageLemmas.{AllPages-both, AllPages-counted}
use Rattle.page_store.specs.PageRows.{page_row}
use Rattle.page_store.specs.Pages.{Page, ArePages}
use Rattle.page_store.proofs.AllLemmas.{All-append, All-weaker}
use Rattle.page_store.proofs.InsertLemmas.{same_bytes}
use Rattle.page_store.proofs.KeptLemmas.{found_passes}
use Rattle.page_store.proofs.SeenLemmas.{found_by_own_id, All-find}
use Rattle.slug_urls.specs.Urls.{HaveSlugs, page_at}
use Rattle.slug_urls.specs.Descent.{page_below}
use Rattle.slug_urls.proofs.Descents.{reached}
use Rattle.slug_urls.proofs.TreeUrls.{urls_of_tree}
use Rattle.site_model.specs.World.{TreePart}
use Rattle.site_model.specs.Views.{body_of, is_live}
use Rattle.site_model.specs.Sound.{IsTree}
use Rattle.sight_model.proofs.AliasLemmas.{body_in}
use Rattle.site_core.specs.Finding.{live_at}

-- what holds of each page holds of its row
rows_all : (P : ℕ → List ℕ → Type 0) (parent : Option ℕ) (path url : List ℕ) (f : Forest Body) →
    AllPages (λ id slug body. P id slug) f →
    AllByRecursion (λ (row : Page). P row.id row.slug) (rows_below parent path url f)
rows_all P parent path url bare all = tt
rows_all P parent path url (grown i s slug body kids rest) all = (
  all.0,
  All-append (λ (row : Page). P row.id row.slug)
      (rows_below (Some i) (path ++ s ∷ []) (child_url url slug) kids)
      (rows_below parent path url rest)
      (rows_all P (Some i) (path ++ s ∷ []) (child_url url slug) kids all.1)
      (rows_all P parent path url rest all.2),
)

-- no page below the root is the root, so that each has a slug
slugs_below : (own : Body) (kids : Forest Body) →
    AllPages (λ id slug body. (id ≡ 1 → ⊥) → IsSlug slug) (grown 1 1 [] own kids bare) →
    count 1 (grown 1 1 [] own kids bare) ≤ 1 →
    HaveSlugs (rows_of (grown 1 1 [] own kids bare))
slugs_below own kids all few = (
  (λ some. absurd (search (rules, some))),
  All-append (λ (row : Page). IsSome row.parent → IsSlug row.slug)
      (rows_below (Some 1) ([] ++ 1 ∷ []) (child_url [] []) kids) [] (
      All-weaker (λ (row : Page). IsSlug row.slug)
      (λ (row : Page). IsSome row.parent → IsSlug row.slug) (λ row slug some. slug)
      (rows_below (Some 1) ([] ++ 1 ∷ []) (child_url [] []) kids)
      (rows_all (λ id slug. IsSlug slug) (Some 1) ([] ++ 1 ∷ []) (child_url [] []) kids
      (AllPages-both (λ id slug body. (id ≡ 1 → ⊥) → IsSlug slug)
      (λ id slug body. id ≡ 1 → ⊥) (λ id slug body. IsSlug slug) kids
      (λ id slug body slugs other. slugs other) all.1
      (AllPages-counted (λ id. id ≡ 1 → ⊥) kids (λ j some. other j some))))
      ) tt,
)
  where
    none : count 1 kids ≡ 0
    none = omega (arith, few)

    other : (j : ℕ) → 1 ≤ count j kids → j ≡ 1 → ⊥
    other j some same =
        let here = subst (λ i. 1 ≤ count i kids) same some in omega (arith, here, none)

-- the pages of a sound world have slugs
pub have_slugs : (part : TreePart) → IsTree part.tree part.next_page → (pages : List Page) → pages
    ≡ rows_of part.tree →
    HaveSlugs pages
have_slugs part sound pages is =
    subst HaveSlugs (sym is)
    (subst (λ tree. AllPages (λ id slug body. (id ≡ 1 → ⊥) → IsSlug slug) tree →
    count 1 tree ≤ 1 → HaveSlugs (rows_of tree)) (sym sound.whole.is)
    (slugs_below sound.whole.own sound.whole.kids) sound.slugs (once part.tree sound.distinct 1))

-- none of two tests passes where none of one does
none_both : (test live : Page → Bool) (rows : List Page) → find test rows ≡ None →
    find (λ row. test row && live row) rows ≡ None
none_both test live [] none = refl
none_both test live (row ∷ rows) none = by (test row) none (none_both test live rows)
  where
    by : (t : Bool) → cond t (Some row) (find test rows) ≡ None →
        (find test rows ≡ None → find (λ row. test row && live row) rows ≡ None) →
        cond (t && live row) (Some row) (find (λ row. test row && live row) rows) ≡ None
    by true none more = absurd (cc)
    by false none more = more none

-- where the one that passes a test is not live, none passes both
not_live : (test live : Page → Bool) (top : Page) (rows : List Page) →
    AllByRecursion (λ (row : Page). test row ≡ true → row ≡ top) rows → live top ≡ false →
    find (λ row. test row && live row) rows ≡ None
not_live test live top [] all dead = refl
not_live test live top (row ∷ rows) all dead =
    by (test row) refl (not_live test live top rows all.1 dead)
  where
    by : (t : Bool) → test row ≡ t → find (λ row. test row && live row) rows ≡ None →
        cond (t && live row) (Some row) (find (λ row. test row && live row) rows) ≡ None
    by true is more =
        let none : live row ≡ false = ap live (all.0 is) ∙ dead in rw none more
    by false is more = more

-- the one that passes a test passes both where it is live
only_live : (test live : Page → Bool) (top : Page) (rows : List Page) →
    AllByRecursion (λ (row : Page). test row ≡ true → row ≡ top) rows →
    find test rows ≡ Some top →
    find (λ row. test row && live row) rows ≡ cond (live top) (Some top) None
only_live test live top [] all found = absurd (cc)
only_live test live top (row ∷ rows) all found =
    by (test row) refl found (only_live test live top rows all.1)
  where
    here : (t : Bool) → live row ≡ t → row ≡ top →
        cond (true && live row) (Some row) (find (λ row. test row && live row) rows)
        ≡ cond (live top) (Some top) None
    here true is same =
        let up : live top ≡ true = ap live (sym same) ∙ is in rw (is, up) (ap Some same)
    here false is same =
        let down : live top ≡ false = ap live (sym same) ∙ is in
        rw (is, down) (not_live test live top rows all.1 down)

    by : (t : Bool) → test row ≡ t → cond t (Some row) (find test rows) ≡ Some top →
        (find test rows ≡ Some top →
        find (λ row. test row && live row) rows ≡ cond (live top) (Some top) None) →
        cond (t && live row) (Some row) (find (λ row. test row && live row) rows)
        ≡ cond (live top) (Some top) None
    by true is found more = here (live row) refl (cc)
    by false is found more = more found

module _ (pages : List Page) (tree : Forest Body) (are : ArePages pages)
    (is : pages ≡ rows_of tree) (slugs : HaveSlugs pages) (url : List ℕ) where
  -- a row with the URL is the one that is found with it
  one_row : (top row : Page) → find (λ (r : Page). bytes_eq r.url url) pages ≡ Some top →
      row_with row.id pages ≡ Some row → bytes_eq row.url url ≡ true → row ≡ top
  one_row top row found own same =
      let urls = urls_of_tree pages tree are is in
      let test : Page → Bool = λ r. bytes_eq r.url url in
      let own_top = All-find (λ (r : Page). row_with r.id pages ≡ Some r) test pages top
      (found_by_own_id pages are.own_ids) found in
      let url_top = same_bytes top.url url (found_passes test pages top found) in
      let url_row = same_bytes row.url url same in
      let down_top = reached pages are urls slugs (length top.path) top.id top own_top refl in
      let down_row = reached pages are urls slugs (length row.path) row.id row own refl in
      let both : SLASH ∷ down_row.0 ≡ SLASH ∷ down_top.0 =
      sym down_row.1 ∙ (url_row ∙ (sym url_top ∙ down_top.1)) in
      let rest : down_row.0 ≡ down_top.0 = cc in
      let ids : Some row.id ≡ Some top.id =
      sym down_row.2 ∙ (ap (λ r. page_below pages 1 [] r) rest ∙ down_top.2) in
      let id : row.id ≡ top.id = cc in
      let rows : Some row ≡ Some top =
      sym own ∙ (ap (λ i. row_with i pages) id ∙ own_top) in
      cc

  -- each row with the URL is
  each_row : (top : Page) → find (λ (r : Page). bytes_eq r.url url) pages ≡ Some top →
      AllByRecursion (λ (row : Page). bytes_eq row.url url ≡ true → row ≡ top) pages
  each_row top found =
      All-weaker (λ (row : Page). row_with row.id pages ≡ Some row)
      (λ (row : Page). bytes_eq row.url url ≡ true → row ≡ top) (λ row own same.
      one_row top row found own same) pages (found_by_own_id pages are.own_ids)

  -- no page with the URL is live where none has it
  pub none_at : page_at url pages ≡ None → live_at tree url ≡ None
  none_at none =
      ap (λ rows. option_map (λ (row : Page). row.id)
      (find (λ row. bytes_eq row.url url && is_live tree row.body) rows)) (sym is)
      ∙ ap (option_map (λ (row : Page). row.id))
      (none_both (λ (r : Page). bytes_eq r.url url) (λ (r : Page). is_live tree r.body) pages
      (no_id (find (λ (r : Page). bytes_eq r.url url) pages) none))
    where
      no_id : (o : Option Page) → option_map (λ (row : Page). row.id) o ≡ None → o ≡ None
      no_id None e = refl
      no_id (Some row) e = absurd (cc)

  -- the page with the URL, and whether it is live
  pub one_at : (page : ℕ) → page_at url pages ≡ Some page → (live : Bool) →
      ((row : Page) → row_with page pages ≡ Some row → live ≡ is_live tree row.body) →
      live_at tree url ≡ cond live (Some page) None
  one_at page some live told =
      ap (λ rows. option_map (λ (row : Page). row.id)
      (find (λ row. bytes_eq row.url url && is_live tree row.body) rows)) (sym is)
      ∙ by (find (λ (r : Page). bytes_eq r.url url) pages) refl some
    where
      inner : (top : Page) (t : Bool) → top.id ≡ page →
          option_map (λ (row : Page). row.id) (cond t (Some top) None) ≡ cond t (Some page) None
      inner top true same = ap Some same
      inner top false same = refl

      by : (o : Option Page) → find (λ (r : Page). bytes_eq r.url url) pages ≡ o →
          option_map (λ (row : Page). row.id) o ≡ Some page →
          option_map (λ (row : Page). row.id)
          (find (λ row. bytes_eq row.url url && is_live tree row.body) pages)
          ≡ cond live (Some page) None
      by None e id = absurd (cc)
      by (Some top) e id =
          let same : top.id ≡ page = cc in
          let own = All-find (λ (r : Page). row_with r.id pages ≡ Some r)
          (λ (r : Page). bytes_eq r.url url) pages top (found_by_own_id pages are.own_ids) e in
          let found = ap (λ i. row_with i pages) (sym same) ∙ own in
          ap (option_map (λ (row : Page). row.id))
          (only_live (λ (r : Page). bytes_eq r.url url) (λ (r : Page). is_live tree r.body) top
          pages (each_row top e) e)
          ∙ (ap (λ t. option_map (λ (row : Page). row.id) (cond t (Some top) None))
          (sym (told top found))
          ∙ inner top live same)

-- what is kept of a page is what its row has
pub kept_told : (page : ℕ) (tree : Forest Body) (pages : List Page) → pages ≡ rows_of tree →
    (row : PageRow) → Some row ≡ option_map page_row (row_with page pages) →
    body_of tree page ≡ Some row.body
kept_told page tree pages is row seen =
    by (row_with page (rows_of tree)) refl
    (seen ∙ ap (λ rows. option_map page_row (row_with page rows)) is)
  where
    by : (o : Option Page) → row_with page (rows_of tree) ≡ o → Some row ≡ option_map page_row o →
        body_of tree page ≡ Some row.body
    by None e found = absurd (cc)
    by (Some top) e found =
        let same : row ≡ page_row top = cc in
        body_in page None [] [] tree
        ∙ (ap (option_map (λ (r : Page). r.body)) e
        ∙ sym (ap (λ (r : PageRow). Some r.body) same))

-- nothing is kept of a page without a row
pub kept_absent : (page : ℕ) (tree : Forest Body) (pages : List Page) → pages ≡ rows_of tree →
    None ≡ option_map page_row (row_with page pages) → body_of tree page ≡ None
kept_absent page tree pages is seen =
    by (row_with page (rows_of tree)) refl
    (seen ∙ ap (λ rows. option_map page_row (row_with page rows)) is)
  where
    by : (o : Option Page) → row_with page (rows_of tree) ≡ o → None ≡ option_map page_row o →
        body_of tree page ≡ None
    by None e found =
        body_in page None [] [] tree ∙ ap (option_map (λ (r : Page). r.body)) e
    by (Some top) e found = absurd (cc)
