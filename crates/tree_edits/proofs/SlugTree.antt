-- The rows of a tree where a page has another slug are those of a store where it has, and then the
-- pages below it their URLs.
use Rattle.std.proofs.Common.{◌≡◌, ◌≤◌, ◌+◌, ℕ, Bool, true, false, cond, nat_eq, List, [], ◌∷◌, ◌++◌, Option, Some, None, map, unwrap_or, refl, sym, ap, ◌∙◌, arith}
use Rattle.std.specs.Option.{option_map}
use Rattle.std.specs.Map.{lookup}
use Rattle.std.proofs.lemmas.List.{map-append}
use Rattle.page_tree.specs.Tree.{Forest, bare, grown, HasDistinctIds}
use Rattle.page_tree.specs.Walk.{kid_count}
use Rattle.page_tree.specs.Rows.{rows_below, rows_of, row_with, child_url}
use Rattle.site_types.specs.declared.body.Body.{Body}
use Rattle.tree_model.specs.Changes.{url_in, changed_urls, with_url, with_urls}
use Rattle.tree_model.specs.Renames.{renamed}
use Rattle.tree_model.proofs.CountLemmas.{count, one, once, distinct_ids}
use Rattle.tree_model.proofs.RenameLemmas.{count-renamed}
use Rattle.page_store.specs.Pages.{Page}
use Rattle.page_store.specs.Changes.{slug_changed, with_slug}
use Rattle.page_store.proofs.AllLemmas.{All-always}
use Rattle.page_store.proofs.ChangeLemmas.{after, find-changed}
use Rattle.path_moves.proofs.ApplyChanges.{urls_complete}
use Rattle.slug_urls.proofs.Renaming.{renamed_absent}
use Rattle.new_pages.proofs.ReplyLemmas.{own_ids_of}

-- another slug leaves as many kids
kid_count-renamed : (id : ℕ) (new : List ℕ) (f : Forest Body) → kid_count (renamed id new f) ≡
    kid_count f
kid_count-renamed id new bare = refl
kid_count-renamed id new (grown i s slug body kids rest) =
    by (nat_eq i id) (kid_count-renamed id new rest)
  where
    by : (t : Bool) → kid_count (renamed id new rest) ≡ kid_count rest →
        kid_count (cond t (grown i s new body kids rest)
        (grown i s slug body (renamed id new kids) (renamed id new rest))) ≡ kid_count rest + 1
    by true more = refl
    by false more = ap (λ n. n + 1) more

module _ (page : ℕ) (new : List ℕ) (url : ℕ → List ℕ) where
  -- the row with its URL of these
  abbrev put : Page → Page
  put row = with_url (url row.id) row

  -- rows one after the other
  joined : (xs ys zs ws : List Page) → map put (with_slug page new xs) ≡ map put zs →
      map put (with_slug page new ys) ≡ map put ws →
      map put (with_slug page new (xs ++ ys)) ≡ map put (zs ++ ws)
  joined xs ys zs ws first second =
      ap (map put) (map-append (after page (slug_changed new)) xs ys)
      ∙ (map-append put (with_slug page new xs) (with_slug page new ys)
      ∙ (ap (λ list. list ++ map put (with_slug page new ys)) first
      ∙ (ap (λ list. map put zs ++ list) second ∙ sym (map-append put zs ws))))

  -- but for their URLs, the rows with another slug are those of the tree with it
  same_but_urls : (q : Option ℕ) (path here there : List ℕ) (f : Forest Body) → count page f ≤ 1 →
      map put (with_slug page new (rows_below q path here f))
      ≡ map put (rows_below q path there (renamed page new f))
  same_but_urls q path here there bare most = refl
  same_but_urls q path here there (grown i s o body kids rest) most =
      let own = path ++ s ∷ [] in
      by (nat_eq i page) refl most
      (λ text few. same_but_urls (Some i) own (child_url here o) text kids few)
      (λ few. same_but_urls q path here there rest few)
    where
      by : (t : Bool) → nat_eq i page ≡ t → one t + (count page kids + count page rest) ≤ 1 →
          ((text : List ℕ) → count page kids ≤ 1 →
          map put (with_slug page new (rows_below (Some i) (path ++ s ∷ []) (child_url here o)
          kids))
          ≡ map put (rows_below (Some i) (path ++ s ∷ []) text (renamed page new kids))) →
          (count page rest ≤ 1 → map put (with_slug page new (rows_below q path here rest))
          ≡ map put (rows_below q path there (renamed page new rest))) →
          map put (with_slug page new (rows_below q path here (grown i s o body kids rest)))
          ≡ map put (rows_below q path there (cond t (grown i s new body kids rest)
          (grown i s o body (renamed page new kids) (renamed page new rest))))
      by true e most below behind =
          let no_kid : count page kids ≡ 0 = omega (arith, most) in
          let none : count page rest ≡ 0 = omega (arith, most) in
          let first = below (child_url there new) (omega (arith, no_kid))
          ∙ ap (λ f. map put (rows_below (Some i) (path ++ s ∷ []) (child_url there new) f))
          (renamed_absent page new kids no_kid) in
          let second = behind (omega (arith, none))
          ∙ ap (λ f. map put (rows_below q path there f)) (renamed_absent page new rest none) in
          let tail = joined (rows_below (Some i) (path ++ s ∷ []) (child_url here o) kids)
          (rows_below q path here rest)
          (rows_below (Some i) (path ++ s ∷ []) (child_url there new) kids)
          (rows_below q path there rest) first second in
          rw (e, tail) refl
      by false e most below behind =
          let first = below (child_url there o) (omega (arith, most)) in
          let second = behind (omega (arith, most)) in
          let tail = joined (rows_below (Some i) (path ++ s ∷ []) (child_url here o) kids)
          (rows_below q path here rest)
          (rows_below (Some i) (path ++ s ∷ []) (child_url there o) (renamed page new kids))
          (rows_below q path there (renamed page new rest)) first second in
          rw (e, tail, kid_count-renamed page new kids) refl

-- a change of one page leaves the URL of each
url_in-slug : (page : ℕ) (new : List ℕ) (id : ℕ) (rows : List Page) →
    url_in id (with_slug page new rows) ≡ url_in id rows
url_in-slug page new id rows =
    ap (λ o. unwrap_or (option_map (λ (r : Page). r.url) o) [])
    (find-changed (λ (r : Page). nat_eq r.id id) page (slug_changed new) rows
    (All-always (λ (r : Page). nat_eq r.id page ≡ true → nat_eq r.id id ≡ nat_eq r.id id) (λ r e.
    refl) rows))
    ∙ same (row_with id rows)
  where
    same : (o : Option Page) →
        unwrap_or (option_map (λ (r : Page). r.url) (option_map (after page (slug_changed new)) o))
        []
        ≡ unwrap_or (option_map (λ (r : Page). r.url) o) []
    same None = refl
    same (Some row) = by (nat_eq row.id page)
      where
        by : (t : Bool) → (let r : Page = cond t (slug_changed new row) row in r.url) ≡ row.url
        by true = refl
        by false = refl

-- the row that is found where rows have other URLs
find-put : (url : ℕ → List ℕ) (id : ℕ) (rows : List Page) →
    row_with id (map (λ (r : Page). with_url (url r.id) r) rows)
    ≡ option_map (λ (r : Page). with_url (url r.id) r) (row_with id rows)
find-put url id [] = refl
find-put url id (row ∷ rows) = by (nat_eq row.id id) (find-put url id rows)
  where
    by : (t : Bool) → row_with id (map (λ (r : Page). with_url (url r.id) r) rows)
        ≡ option_map (λ (r : Page). with_url (url r.id) r) (row_with id rows) →
        cond t (Some (with_url (url row.id) row)) (row_with id (map (λ (r : Page). with_url (url
        r.id) r) rows))
        ≡ option_map (λ (r : Page). with_url (url r.id) r) (cond t (Some row) (row_with id rows))
    by true more = refl
    by false more = more

-- A row is a page's later one: its path is the earlier one's.
pub record IsLater (pages : List Page) (page : ℕ) (row : Page) : Type 0 where
  pub later : Page
  pub found : row_with page pages ≡ Some later
  pub path_is : later.path ≡ row.path

module _ (tree : Forest Body) (distinct : HasDistinctIds tree) (page : ℕ) (new : List ℕ) where
  -- the rows before
  abbrev before : List Page
  before = rows_of tree

  -- the rows of the tree with the slug
  abbrev later : List Page
  later = rows_of (renamed page new tree)

  -- the URLs that change
  abbrev urls : List (ℕ × List ℕ)
  urls = changed_urls before later

  -- its ids are distinct
  pub distinct-renamed : HasDistinctIds (renamed page new tree)
  distinct-renamed =
      distinct_ids (renamed page new tree) (λ j.
      let same = count-renamed j page new tree in
      let most = once tree distinct j in omega (arith, same, most))

  -- the rows with another slug and then their URLs are those of the tree with it
  pub slug_rows : with_urls urls (with_slug page new before) (with_slug page new before) ≡ later
  slug_rows =
      ap (λ (of : ℕ → List ℕ). map (λ (row : Page). with_url (of row.id) row) (with_slug page new
      before))
      (λ i id. unwrap_or (lookup (nat_eq id) urls) (url_in-slug page new id before i))
      ∙ (same_but_urls page new (λ id. unwrap_or (lookup (nat_eq id) urls) (url_in id before)) None
      [] [] []
      tree (once tree distinct page)
      ∙ urls_complete before later (own_ids_of (renamed page new tree) distinct-renamed))

  -- the page's later row
  pub later_row : (row : Page) → row_with page before ≡ Some row → IsLater later page row
  later_row row found =
      let of : ℕ → List ℕ = λ id. unwrap_or (lookup (nat_eq id) urls) (url_in id (with_slug page
      new before)) in
      let slugged : row_with page (with_slug page new before) ≡ Some (after page (slug_changed new)
      row) =
      find-changed (λ (r : Page). nat_eq r.id page) page (slug_changed new) before
      (All-always (λ (r : Page). nat_eq r.id page ≡ true → nat_eq r.id page ≡ nat_eq r.id page) (λ
      r e. refl) before)
      ∙ ap (option_map (after page (slug_changed new))) found in
      record {
        later =
            with_url (of (after page (slug_changed new) row).id) (after page (slug_changed new)
            row);
        found = ap (row_with page) (sym slug_rows)
            ∙ (find-put of page (with_slug page new before)
            ∙ ap (option_map (λ (r : Page). with_url (of r.id) r)) slugged);
        path_is = by (nat_eq row.id page);
      }
    where
      by : (t : Bool) → (let r : Page = cond t (slug_changed new row) row in r.path) ≡ row.path
      by true = refl
      by false = refl
