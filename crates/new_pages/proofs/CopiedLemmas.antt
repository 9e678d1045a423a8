-- The rows and the revisions that come with a copy, one after the other.
use Rattle.std.proofs.Common.{◌≡◌, ◌<◌, ◌≤◌, ◌+◌, ℕ, zero, suc, Bool, true, false, List, [], ◌∷◌, ◌++◌, length, map, take, drop, slice_get, Option, Some, refl, sym, ap, subst, ◌∙◌, arith, append_assoc}
use Rattle.std.specs.List.{AllByRecursion, list_any}
use Rattle.std.specs.Option.{option_map}
use Rattle.std.proofs.lemmas.List.{length-map, map-append}
use Rattle.std.proofs.lemmas.Bool.Decides.{nat_tests}
use Rattle.page_tree.specs.Tree.{Forest}
use Rattle.site_ids.specs.Ids.{IsPageId, IsRevisionId}
use Rattle.site_types.specs.Content.{ContentValue}
use Rattle.site_types.specs.declared.body.Body.{Body}
use Rattle.site_types.specs.declared.page_row.PageRow.{PageRow}
use Rattle.site_types.specs.declared.revision.Revision.{Revision}
use Rattle.page_store.specs.PageRows.{page_row}
use Rattle.page_store.specs.Pages.{Page, ArePages}
use Rattle.page_store.proofs.RangeLemmas.{All-at}
use Rattle.step_path.specs.Path.{IsPath, IsPathText, path_text, steps_of, relabelled}
use Rattle.step_path.specs.declared.path.TheConstants.{MAX_DEPTH}
use Rattle.step_path.proofs.PathLemmas.{IsPathText-path_text, steps_of-path_text}
use Rattle.tree_rows.proofs.Lists.{slice_get-drop}
use Rattle.site_model.specs.World.{TreePart}
use Rattle.site_model.specs.Copies.{copy_revisions}
use Rattle.site_model.specs.Create.{fresh_body, plain_revision}
use Rattle.site_part.specs.Standing.{IsReady}
use Rattle.site_part.specs.declared.part.TreePart.{TreePart as KeptPart}
use Rattle.page_copies.specs.Copied.{copied_pages, copy_row, copy_rows, revisions_of}
use Rattle.page_copies.proofs.CopiedRows.{copy_rows-append, revisions_numbered}
use Rattle.new_pages.proofs.WeightLemmas.{one_taken}
use Rattle.new_pages.proofs.SourceLemmas.{element_at, some_in}
use Rattle.new_pages.specs.Copying.{AreLeft, is_deep}
use Rattle.new_pages.specs.Making.{row_at}
use Rattle.new_pages.specs.declared.source.Source.{Source}

-- so many of a list that has more
pub taken_length : {X : Type 0} (xs : List X) (n : ℕ) (x : X) → slice_get xs n ≡ Some x →
    length (take n xs) ≡ n
taken_length [] n x is = absurd (cc)
taken_length (y ∷ xs) zero x is = refl
taken_length (y ∷ xs) (suc n) x is =
    let more = taken_length xs n x is in omega (arith, more)

-- the rows that come, with one more
pub rows_more : (part : TreePart) (caller start done : ℕ) (move : Page → Page) (xs : List Page)
    (page : Page) (first row : PageRow × List ℕ) (rows : List (PageRow × List ℕ)) →
    slice_get xs (start + done) ≡ Some page →
    row ≡ copy_row part caller (1 + done) (move page) →
    rows ≡ first ∷ copy_rows part caller 1 (map move (take done (drop start xs))) →
    rows ++ row ∷ [] ≡ first ∷ copy_rows part caller 1 (map move (take (done + 1) (drop start xs)))
rows_more part caller start done move xs page first row rows at row_is so_far =
    let here = slice_get-drop xs start done (start + done) refl ∙ at in
    let front = take done (drop start xs) in
    let next = one_taken (drop start xs) done page here in
    let count : length (map move front) ≡ done =
    length-map front move ∙ taken_length (drop start xs) done page here in
    let together : copy_rows part caller 1 (map move (take (done + 1) (drop start xs)))
    ≡ copy_rows part caller 1 (map move front) ++ copy_row part caller (1 + done) (move page) ∷ [] =
    ap (λ ys. copy_rows part caller 1 (map move ys)) next
    ∙ (ap (copy_rows part caller 1) (map-append move front (page ∷ []))
    ∙ (copy_rows-append part caller 1 (map move front) (move page ∷ [])
    ∙ ap (λ n. copy_rows part caller 1 (map move front)
    ++ copy_row part caller (1 + n) (move page) ∷ [])
    count)) in
    rw (so_far, row_is, together) refl

-- the revisions that come, with one more
pub ones_more : (part : TreePart) (caller moment done : ℕ) (page : ℕ) (content : ContentValue)
    (rest : List (ℕ × ContentValue)) (ones all : List Revision) (one : Revision) →
    ones ++ revisions_of part caller moment done ((page, content) ∷ rest) ≡ all →
    one ≡ plain_revision (part.next_revision + done) (part.next_page + done) caller moment content →
    (ones ++ one ∷ []) ++ revisions_of part caller moment (done + 1) rest ≡ all
ones_more part caller moment done page content rest ones all one so_far is =
    append_assoc ones (one ∷ []) (revisions_of part caller moment (done + 1) rest)
    ∙ (ap (λ r. ones ++ (r ∷ revisions_of part caller moment (done + 1) rest)) is ∙ so_far)

-- where no row goes too deep, the one at a place does not
pub none_at : {X : Type 0} (test : X → Bool) (xs : List X) (start rest done : ℕ) (x : X) →
    slice_get xs (start + done) ≡ Some x → done < rest →
    list_any test (take rest (drop start xs)) ≡ false → test x ≡ false
none_at test xs start rest done x at less none =
    by (test x) refl
  where
    by : (t : Bool) → test x ≡ t → test x ≡ false
    by false e = e
    by true e =
        let some = some_in test xs start rest done x at less e in
        absurd (cc)

-- what holds of each row holds of the one at a place
pub all_at : (P : Page → Type 0) (xs : List Page) (start rest done : ℕ) (x : Page) →
    slice_get xs (start + done) ≡ Some x → done < rest →
    AllByRecursion P (take rest (drop start xs)) → P x
all_at P xs start rest done x at less all =
    go (drop start xs) rest done (slice_get-drop xs start done (start + done) refl ∙ at) less all
  where
    go : (ys : List Page) (n k : ℕ) → slice_get ys k ≡ Some x → k < n →
        AllByRecursion P (take n ys) → P x
    go [] n k is low every = absurd (cc)
    go (y ∷ ys) zero k is low every = absurd (omega arith)
    go (y ∷ ys) (suc n) zero is low every = (let same : y ≡ x = cc in subst P same every.0)
    go (y ∷ ys) (suc n) (suc k) is low every = go ys n k is (omega (arith, low)) every.1

-- A row that was read at a place, with the path that its text reads back.
pub record IsRead (pages : List Page) (place : ℕ) (own : PageRow) (text : List ℕ) : Type 0 where
  pub row : Page
  pub at : slice_get pages place ≡ Some row
  pub own_is : own ≡ page_row row
  pub reads : IsPathText text
  pub path_is : steps_of text ≡ row.path

-- so it is of each row of a store
pub row_read : (pages : List Page) (place : ℕ) (own : PageRow) (text : List ℕ) → ArePages pages →
    Some own ≡ option_map page_row (slice_get pages place) → text ≡ own.path →
    IsRead pages place own text
row_read pages place own text are is text_is =
    let one = element_at page_row (slice_get pages place) own is in
    let path = All-at (λ (row : Page). IsPath row.path) place pages one.0 are.paths one.1 in
    let same : text ≡ path_text one.0.path = text_is ∙ ap (λ (row : PageRow). row.path) one.2 in
    record {
      row = one.0;
      at = one.1;
      own_is = one.2;
      reads = subst IsPathText (sym same) (IsPathText-path_text one.0.path path);
      path_is = ap steps_of same ∙ steps_of-path_text one.0.path path.steps;
    }

-- a copy that is not too deep has room for its steps
pub has_room : (source : Source) (path : List ℕ) (row : Page) → is_deep source path row ≡ false →
    length (relabelled source.path path row.path) ≤ MAX_DEPTH
has_room source path row fails = grind (arith, nat_tests)

-- The ids of the copy with this number are ids, where so many more are left.
pub ids_left : (kept : KeptPart) (part : TreePart) → IsReady kept part → (more number : ℕ) →
    AreLeft part more → number ≤ more →
    IsPageId (kept.next_page + number) × IsRevisionId (kept.next_revision + number)
ids_left kept part ready more number left within =
    let page = ready.stands.next_page in
    let revision = ready.stands.next_revision in
    let first : 1 ≤ part.next_page = ready.reached.sound.pages.next_page.0 in
    let one : 1 ≤ part.next_revision = ready.reached.sound.revisions.next_revision.0 in
    let pages = left.pages in
    let revisions = left.revisions in (
      (omega (arith, page, first), omega (arith, page, pages, within)),
      (omega (arith, revision, one), omega (arith, revision, revisions, within)),
    )

-- The revisions that come with the contents of these pages are those of their copies.
pub ones_are : (part : TreePart) (caller moment time : ℕ) (tree : Forest Body)
    (plan : List (ℕ × ContentValue)) (ones : List Revision) → time ≡ moment →
    plan ≡ copied_pages part tree → ones ≡ revisions_of part caller time 0 plan →
    ones ≡ copy_revisions part caller moment 0 tree
ones_are part caller moment time tree plan ones time_is plan_is is =
    is
    ∙ (ap (λ t. revisions_of part caller t 0 plan) time_is
    ∙ (ap (revisions_of part caller moment 0) plan_is
    ∙ sym (revisions_numbered part caller moment 0 tree)))

-- A row that is built of the copy's parts is the copy's, where the page at its new place is this.
pub row_copied : (part : TreePart) (caller number : ℕ) (row : Page) (id revision : ℕ)
    (path slug url : List ℕ) (body : Body) (one : PageRow) → id ≡ part.next_page + number →
    revision ≡ part.next_revision + number → path ≡ row.path → slug ≡ row.slug → url ≡ row.url →
    body ≡ fresh_body caller revision → one ≡ row_at id path slug body →
    (one, url) ≡ copy_row part caller number row
row_copied part caller number row id revision path slug url body one id_is revision_is path_is
    slug_is url_is body_is is =
    rw (is, body_is, id_is, revision_is, path_is, slug_is, url_is) refl

-- two elements that are there are one if they stand at one place
pub same_element : {X : Type 0} (x y : X) → ◌≡◌ {A = Option X} (Some x) (Some y) → x ≡ y
same_element x y is = cc
