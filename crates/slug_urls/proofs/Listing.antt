-- The list of new URLs, page by page.
use Rattle.std.proofs.Common.{◌≡◌, ℕ, suc, ◌+◌, ◌<◌, Bool, true, false, cond, nat_lt, nat_le, ◌||◌, List, [], ◌∷◌, ◌++◌, Option, Some, None, map, length, take, drop, slice_get, refl, ap, sym, ◌∙◌, subst, arith, add-one}
use Prim.Native.Nat.{zero}
use Rattle.std.proofs.lemmas.Bool.Decides.{nat_tests}
use Rattle.std.specs.List.{list_any}
use Rattle.std.specs.Option.{option_map, IfSome}
use Rattle.std.specs.Str.{bytes_eq}
use Rattle.std.proofs.lemmas.List.{map-append}
use Rattle.page_tree.specs.Rows.{row_with}
use Rattle.tree_model.specs.Limits.{MAX_URL}
use Rattle.page_store.specs.PageRows.{IsRange}
use Rattle.page_store.specs.Pages.{Page, ArePages}
use Rattle.page_store.proofs.RangeLemmas.{All-at}
use Rattle.page_store.proofs.SeenLemmas.{found_by_own_id}
use Rattle.tree_rows.proofs.Lists.{slice_get-drop}
use Rattle.tree_rows.proofs.SubtreeLemmas.{range_rows}
use Rattle.slug_urls.specs.Plans.{is_one_long}
use Rattle.slug_urls.specs.Flat.{moved_from, urls_of_row, row_urls, if_fits, if_all_fit}
use Rattle.tree_rows.proofs.Lists.{take_one_more}

-- the page at a place, found by its id
pub record IsAt (pages : List Page) (place id : ℕ) : Type 0 where
  pub row : Page
  pub at : slice_get pages place ≡ Some row
  pub id_is : id ≡ row.id
  pub found : row_with id pages ≡ Some row

-- a page that stands at a place is found by its id
pub page_at_place : (pages : List Page) (place id : ℕ) → ArePages pages →
    Some id ≡ option_map (λ (row : Page). row.id) (slice_get pages place) → IsAt pages place id
page_at_place pages place id are is = by (slice_get pages place) refl is
  where
    by : (o : Option Page) → slice_get pages place ≡ o →
        Some id ≡ option_map (λ (row : Page). row.id) o → IsAt pages place id
    by None e h = absurd cc
    by (Some row) e h =
        let same : id ≡ row.id = cc in
        let own = All-at (λ (other : Page). row_with other.id pages ≡ Some other) place pages row
        (found_by_own_id pages are.own_ids) e in
        record {
          row = row;
          at = e;
          id_is = same;
          found = subst (λ n. row_with n pages ≡ Some row) (sym same) own;
        }

-- the pair of one page more
pairs_more : {Y : Type 0} (f : Page → Y) (pages : List Page) (place done : ℕ) (row : Page) →
    slice_get pages (place + done) ≡ Some row →
    map f (take (done + 1) (drop place pages)) ≡ map f (take done (drop place pages)) ++ f row ∷ []
pairs_more f pages place done row at =
    let here = slice_get-drop pages place done (place + done) refl ∙ at in
    let more = take_one_more (drop place pages) done row here in
    rw (add-one, more) (map-append f (take done (drop place pages)) (row ∷ []))

-- none passes where those of neither list do
list_any-append : {Y : Type 0} (test : Y → Bool) (xs ys : List Y) → list_any test xs ≡ false →
    list_any test ys ≡ false → list_any test (xs ++ ys) ≡ false
list_any-append test [] ys front back = back
list_any-append test (x ∷ xs) ys front back =
    by (test x) front (λ none. list_any-append test xs ys none back)
  where
    by : (t : Bool) → t || list_any test xs ≡ false →
        (list_any test xs ≡ false → list_any test (xs ++ ys) ≡ false) →
        t || list_any test (xs ++ ys) ≡ false
    by false front more = more front
    by true front more = absurd cc

-- one that passes is enough
one_passes : {X Y : Type 0} (test : Y → Bool) (f : X → Y) (xs : List X) (n j : ℕ) (x : X) →
    slice_get xs j ≡ Some x → j < n → test (f x) ≡ true → list_any test (map f (take n xs)) ≡ true
one_passes test f [] n j x at low passes = absurd cc
one_passes test f (y ∷ xs) zero j x at low passes = absurd (omega arith)
one_passes test f (y ∷ xs) (suc n) zero x at low passes =
    let same : y ≡ x = cc in
    let own : test (f y) ≡ true = ap (λ z. test (f z)) same ∙ passes in
    rw own refl
one_passes test f (y ∷ xs) (suc n) (suc j) x at low passes =
    by (test (f y)) (one_passes test f xs n j x at (omega arith) passes)
  where
    by : (t : Bool) → list_any test (map f (take n xs)) ≡ true →
        t || list_any test (map f (take n xs)) ≡ true
    by true more = refl
    by false more = more

-- whether a URL is too long
abbrev is_long : ℕ × List ℕ → Bool
is_long pair = nat_lt MAX_URL (length pair.1)

-- a URL that fits is that URL, and is not too long
fitting : (url : List ℕ) (id : ℕ) (found : List ℕ) → Some found ≡ if_fits url →
    (found ≡ url) × (is_long (id, url) ≡ false)
fitting url id found is = by (nat_le (length url) MAX_URL) refl is
  where
    by : (t : Bool) → nat_le (length url) MAX_URL ≡ t → Some found ≡ cond t (Some url) None →
        (found ≡ url) × (is_long (id, url) ≡ false)
    by true e h = ((let same : found ≡ url = cc in same), grind (arith, nat_tests))
    by false e h = absurd cc

-- and one that does not fit is none
not_fitting : (url : List ℕ) (id : ℕ) → None ≡ if_fits url → is_long (id, url) ≡ true
not_fitting url id is = by (nat_le (length url) MAX_URL) refl is
  where
    by : (t : Bool) → nat_le (length url) MAX_URL ≡ t → None ≡ cond t (Some url) None →
        is_long (id, url) ≡ true
    by true e h = absurd cc
    by false e h = grind (arith, nat_tests)

-- What is listed so far: the pairs of the first pages, each with a URL that fits.
pub record AreListed (pages : List Page) (place done old : ℕ) (new : List ℕ)
    (pairs : List (ℕ × List ℕ)) : Type 0 where
  pub pairs_are : pairs ≡ map (moved_from old new) (take done (drop place pages))
  pub all_fit : is_one_long pairs ≡ false

-- one page more
pub listed_more : (pages : List Page) (place done old id : ℕ) (new url : List ℕ)
    (pairs more : List (ℕ × List ℕ)) → AreListed pages place done old new pairs →
    (here : IsAt pages (place + done) id) → Some url ≡ if_fits (new ++ drop old here.row.url) →
    more ≡ pairs ++ (id, url) ∷ [] → AreListed pages place (done + 1) old new more
listed_more pages place done old id new url pairs more so_far here is added =
    let fit = fitting (new ++ drop old here.row.url) id url is in
    let pair_is : (id, url) ≡ moved_from old new here.row =
    ap (λ u. (id, u)) fit.0 ∙ ap (λ n. (n, new ++ drop old here.row.url)) here.id_is in
    let one : is_long (id, url) ≡ false = ap (λ u. is_long (id, u)) fit.0 ∙ fit.1 in
    record {
      pairs_are = added ∙ (ap (λ ps. ps ++ (id, url) ∷ []) so_far.pairs_are
          ∙ (ap (λ p. map (moved_from old new) (take done (drop place pages)) ++ p ∷ []) pair_is
          ∙ sym (pairs_more (moved_from old new) pages place done here.row here.at)));
      all_fit = ap is_one_long added
          ∙ list_any-append is_long pairs ((id, url) ∷ []) so_far.all_fit (rw one refl);
    }

-- no list, where one URL does not fit
pub not_listed : (pages : List Page) (place count done old id : ℕ) (new : List ℕ) →
    (here : IsAt pages (place + done) id) → done < count →
    None ≡ if_fits (new ++ drop old here.row.url) →
    None ≡ if_all_fit (map (moved_from old new) (take count (drop place pages)))
not_listed pages place count done old id new here low is =
    let long = not_fitting (new ++ drop old here.row.url) here.row.id is in
    let one = one_passes is_long (moved_from old new) (drop place pages) count done here.row
    (slice_get-drop pages place done (place + done) refl ∙ here.at) low long in
    rw one refl

-- the pages of a range, where the URL of the first changes
pub listed_below : (pages : List Page) (page place n : ℕ) (old new : List ℕ) →
    Some old ≡ option_map (λ (row : Page). row.url) (row_with page pages) →
    IfSome (row_with page pages) (λ row. IsRange pages row place n) → bytes_eq old new ≡ false →
    if_all_fit (map (moved_from (length old) new) (take n (drop place pages)))
    ≡ if_all_fit (row_urls page new pages)
listed_below pages page place n old new = by (row_with page pages)
  where
    by : (o : Option Page) → Some old ≡ option_map (λ (row : Page). row.url) o →
        IfSome o (λ row. IsRange pages row place n) → bytes_eq old new ≡ false →
        if_all_fit (map (moved_from (length old) new) (take n (drop place pages)))
        ≡ if_all_fit (urls_of_row o page new pages)
    by None url_is range other = absurd cc
    by (Some row) url_is range other =
        let same : old ≡ row.url = cc in
        let differs : bytes_eq row.url new ≡ false = rw (← same) other in
        rw (differs, ← same) (ap (λ rows. if_all_fit (map (moved_from (length old) new) rows))
        (sym (range_rows pages row place n range)))
