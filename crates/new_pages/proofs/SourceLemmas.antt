-- The rows that a copy copies, read at their places.
use Rattle.std.proofs.Common.{◌≡◌, ◌<◌, ◌≤◌, ◌+◌, ◌-◌, ℕ, zero, suc, Bool, true, false, nat_lt, ◌||◌, List, [], ◌∷◌, ◌++◌, length, take, drop, slice_get, Option, Some, None, refl, sym, ap, ◌∙◌, arith, length-append, length-drop}
use Rattle.std.specs.List.{list_any}
use Rattle.std.specs.Option.{option_map}
use Rattle.std.proofs.lemmas.Bool.Decides.{nat_tests}
use Rattle.page_tree.specs.Rows.{row_with}
use Rattle.page_store.specs.Pages.{Page, ArePages}
use Rattle.tree_rows.proofs.Lists.{slice_get-drop}
use Rattle.tree_rows.proofs.SubtreeLemmas.{found_at_place}
use Rattle.site_model.proofs.RowLemmas.{any_append}
use Rattle.new_pages.proofs.WeightLemmas.{one_taken}

-- what is read of the row that is found by its id is read of the row at the place
pub read_at : {X : Type 0} (f : Page → X) (pages : List Page) (place id : ℕ) (own : X) →
    ArePages pages → Some id ≡ option_map (λ (row : Page). row.id) (slice_get pages place) →
    Some own ≡ option_map f (row_with id pages) → Some own ≡ option_map f (slice_get pages place)
read_at f pages place id own are is found = by (slice_get pages place) refl is
  where
    by : (o : Option Page) → slice_get pages place ≡ o →
        Some id ≡ option_map (λ (row : Page). row.id) o → Some own ≡ option_map f o
    by None e is = absurd (cc)
    by (Some row) e is =
        let same : row.id ≡ id = cc in
        found ∙ ap (option_map f)
        (ap (λ n. row_with n pages) (sym same) ∙ found_at_place pages place row are e)

-- the page at a place has a row
pub never_missing : {X : Type 0} (f : Page → X) (pages : List Page) (place id : ℕ) →
    ArePages pages → Some id ≡ option_map (λ (row : Page). row.id) (slice_get pages place) →
    None ≡ option_map f (row_with id pages) → ⊥
never_missing f pages place id are is found = by (slice_get pages place) refl is
  where
    by : (o : Option Page) → slice_get pages place ≡ o →
        Some id ≡ option_map (λ (row : Page). row.id) o → ⊥
    by None e is = cc
    by (Some row) e is =
        let same : row.id ≡ id = cc in
        let none : None ≡ Some (f row) = found ∙ ap (option_map f)
        (ap (λ n. row_with n pages) (sym same) ∙ found_at_place pages place row are e) in
        cc

-- no row that was passed so far passes the test, and the next one does not either
pub none_more : {X : Type 0} (test : X → Bool) (xs : List X) (start done : ℕ) (x : X) →
    slice_get xs (start + done) ≡ Some x → list_any test (take done (drop start xs)) ≡ false →
    test x ≡ false → list_any test (take (done + 1) (drop start xs)) ≡ false
none_more test xs start done x at none fails =
    let next = one_taken (drop start xs) done x
    (slice_get-drop xs start done (start + done) refl ∙ at) in
    rw (next, any_append test (take done (drop start xs)) (x ∷ []), none, fails) refl

-- one among the first passes the test
some_first : {X : Type 0} (test : X → Bool) (xs : List X) (n k : ℕ) (x : X) →
    slice_get xs k ≡ Some x → k < n → test x ≡ true → list_any test (take n xs) ≡ true
some_first test [] n k x at less is = absurd (cc)
some_first test (y ∷ xs) zero k x at less is = absurd (omega arith)
some_first test (y ∷ xs) (suc n) zero x at less is =
    let same : y ≡ x = cc in rw (same, is) refl
some_first test (y ∷ xs) (suc n) (suc k) x at less is =
    by (test y) (some_first test xs n k x at (omega arith) is)
  where
    by : (t : Bool) → list_any test (take n xs) ≡ true → (t || list_any test (take n xs)) ≡ true
    by true more = refl
    by false more = more

-- one of the window passes the test
pub some_in : {X : Type 0} (test : X → Bool) (xs : List X) (start rest done : ℕ) (x : X) →
    slice_get xs (start + done) ≡ Some x → done < rest → test x ≡ true →
    list_any test (take rest (drop start xs)) ≡ true
some_in test xs start rest done x at less is =
    some_first test (drop start xs) rest done x
    (slice_get-drop xs start done (start + done) refl ∙ at) less is

-- the element at a place that gives this
pub element_at : {X Y : Type 0} (f : X → Y) (o : Option X) (y : Y) → Some y ≡ option_map f o →
    (x : X) × (o ≡ Some x) × (y ≡ f x)
element_at f None y is = absurd (cc)
element_at f (Some x) y is = (x, refl, (let same : y ≡ f x = cc in same))

-- how long a text is with another beginning
pub new_length : (old : ℕ) (front whole : List ℕ) →
    length (front ++ drop old whole) ≡ length front + (length whole - old)
new_length old front whole =
    let sum = length-append front (drop old whole) in
    let rest = length-drop old whole in omega (arith, sum, rest)

-- so it is past a limit, or not
pub is_past : (limit old : ℕ) (front whole : List ℕ) (more sum : ℕ) →
    more ≡ length whole - old → sum ≡ length front + more → limit < sum →
    nat_lt limit (length (front ++ drop old whole)) ≡ true
is_past limit old front whole more sum more_is sum_is past =
    let long = new_length old front whole in
    let over : limit < length (front ++ drop old whole) =
    omega (arith, long, more_is, sum_is, past) in
    grind (arith, nat_tests)

-- and one whose sum is within the limit is not past it
pub not_past : (limit old : ℕ) (front whole : List ℕ) (more sum : ℕ) →
    more ≡ length whole - old → sum ≡ length front + more → sum ≤ limit →
    nat_lt limit (length (front ++ drop old whole)) ≡ false
not_past limit old front whole more sum more_is sum_is fits =
    let long = new_length old front whole in
    let most : length (front ++ drop old whole) ≤ limit =
    omega (arith, long, more_is, sum_is, fits) in
    grind (arith, nat_tests)

-- the first of some rows, and the others
pub rest_is : (pages : List Page) (place count : ℕ) (top : Page) (below : List Page) →
    take count (drop place pages) ≡ top ∷ below →
    (1 ≤ count) × (take (count - 1) (drop (place + 1) pages) ≡ below)
rest_is pages place zero top below is = absurd (cc)
rest_is [] zero (suc count) top below is = absurd (cc)
rest_is [] (suc place) (suc count) top below is = absurd (cc)
rest_is (page ∷ pages) zero (suc count) top below is =
    let same : take count pages ≡ below = cc in
    let less : suc count - 1 ≡ count = omega arith in
    (omega arith, ap (λ n. take n pages) less ∙ same)
rest_is (page ∷ pages) (suc place) (suc count) top below is =
    let more = rest_is pages place (suc count) top below is in
    let next : suc place + 1 ≡ suc (place + 1) = omega arith in
    (more.0, ap (λ n. take (suc count - 1) (drop n (page ∷ pages))) next ∙ more.1)

-- the path that was read is that of the page's row
pub path_read : (pages : List Page) (page : ℕ) (top : Page) (steps path : List ℕ) →
    row_with page pages ≡ Some top →
    option_map (λ (row : Page). row.path) (row_with page pages) ≡ Some steps → path ≡ steps →
    path ≡ top.path
path_read pages page top steps path found told is =
    let both : ◌≡◌ {A = Option (List ℕ)} (Some top.path) (Some steps) =
    ap (option_map (λ (row : Page). row.path)) (sym found) ∙ told in
    let same : top.path ≡ steps = cc in
    is ∙ sym same

-- so is the length of its URL
pub url_read : (pages : List Page) (page : ℕ) (top : Page) (url : List ℕ) (n : ℕ) →
    row_with page pages ≡ Some top →
    Some url ≡ option_map (λ (row : Page). row.url) (row_with page pages) → n ≡ length url →
    n ≡ length top.url
url_read pages page top url n found told is =
    let both : ◌≡◌ {A = Option (List ℕ)} (Some url) (Some top.url) =
    told ∙ ap (option_map (λ (row : Page). row.url)) found in
    let same : url ≡ top.url = cc in
    is ∙ ap length same
