-- The rows of what a copy copies, and the contents that the copies get.
use Rattle.std.proofs.Common.{◌≡◌, ◌+◌, ◌<◌, ◌≤◌, ℕ, zero, suc, Bool, true, false, nat_eq, List, [], ◌∷◌, ◌++◌, length, map, take, drop, slice_get, Option, Some, None, IsSome, is_some, Result, Ok, Err, IfOk, refl, sym, ap, subst, ◌∙◌, arith, add-one}
use Rattle.std.specs.List.{AllByRecursion}
use Rattle.std.specs.Option.{IfSome, option_map, unwrap_or}
use Rattle.std.proofs.lemmas.List.{map-append, append-nil}
use Rattle.std.proofs.lemmas.Option.{slice_get_within}
use Rattle.page_tree.specs.Tree.{Forest, bare, grown, has_page, node_of, kids_of}
use Rattle.page_tree.specs.Rows.{row_with, rows_below, rows_of, child_url}
use Rattle.page_tree.proofs.RowLemmas.{has_page-rows}
use Rattle.site_types.specs.Content.{ContentValue}
use Rattle.site_types.specs.declared.body.Body.{Body}
use Rattle.site_types.specs.declared.page_row.PageRow.{PageRow}
use Rattle.page_store.specs.PageRows.{page_row, IsRange}
use Rattle.page_store.specs.Pages.{Page, StartsAtRoot, ArePages}
use Rattle.page_store.proofs.AllLemmas.{All-append, All-both}
use Rattle.page_store.proofs.KeptLemmas.{found_passes}
use Rattle.page_store.proofs.SeenLemmas.{found_by_own_id, All-find}
use Rattle.tree_model.proofs.CountLemmas.{id_found, told_apart}
use Rattle.tree_rows.proofs.Block.{Block}
use Rattle.tree_rows.proofs.Lists.{slice_get-drop, slice_get-window}
use Rattle.tree_rows.proofs.SubtreeLemmas.{block_rows, range_rows, found_block, found_at_place}
use Rattle.tree_rows.specs.Subtree.{subtree_rows}
use Rattle.site_model.specs.World.{TreePart}
use Rattle.site_model.specs.Copies.{copied_content, to_copy}
use Rattle.site_model.specs.Aliases.{no_content}
use Rattle.site_part.proofs.LiveLemmas.{body_in}
use Rattle.page_copies.specs.Contents.{copied_by}
use Rattle.page_copies.specs.Copied.{IsSource, AreCopied, GetsContent, copied_pages, copied_pair}
use Rattle.page_copies.proofs.ShownLemmas.{copied_there}

-- one element more at the front
one_more : {X : Type 0} (xs : List X) (n : ℕ) (x : X) → slice_get xs n ≡ Some x →
    take (suc n) xs ≡ take n xs ++ x ∷ []
one_more [] n x is = absurd (cc)
one_more (y ∷ xs) zero x is =
    let same : y ≡ x = cc in
    ap (λ z. z ∷ []) same
one_more (y ∷ xs) (suc n) x is = ap (λ more. y ∷ more) (one_more xs n x is)

-- one element more between two places
pub mapped_more : {X Y : Type 0} (f : X → Y) (xs : List X) (place done : ℕ) (y : Y)
    (front : List Y) → front ≡ map f (take done (drop place xs)) →
    Some y ≡ option_map f (slice_get xs (place + done)) →
    front ++ y ∷ [] ≡ map f (take (done + 1) (drop place xs))
mapped_more f xs place done y front so_far found =
    by (slice_get xs (place + done)) refl found
  where
    by : (o : Option _) → slice_get xs (place + done) ≡ o → Some y ≡ option_map f o →
        front ++ y ∷ [] ≡ map f (take (done + 1) (drop place xs))
    by None e found = absurd (cc)
    by (Some x) e found =
        let same : y ≡ f x = cc in
        let next = one_more (drop place xs) done x
        (slice_get-drop xs place done (place + done) refl ∙ e) in
        rw (add-one, next, map-append f (take done (drop place xs)) (x ∷ []), ← so_far, same) refl

-- a content that a copy gets is the copied one
pub gets_is : (part : TreePart) (body : Body) (content : ContentValue) →
    Some content ≡ copied_by part body → copied_content part body ≡ content
gets_is part body content is = by body.source refl
  where
    by : (o : Option ℕ) → body.source ≡ o → copied_content part body ≡ content
    by None e =
        let own : copied_content part body ≡ unwrap_or (copied_by part body) no_content =
        rw e refl in
        own ∙ ap (λ o. unwrap_or o no_content) (sym is)
    by (Some source) e =
        let own : copied_content part body ≡ unwrap_or (copied_by part body) no_content =
        rw e refl in
        own ∙ ap (λ o. unwrap_or o no_content) (sym is)

-- the pages of rows, with the contents of their copies, are those of what is copied
pub pages_copied : (part : TreePart) (parent : Option ℕ) (path url : List ℕ) (f : Forest Body) →
    map (copied_pair part) (rows_below parent path url f) ≡ copied_pages part f
pages_copied part parent path url bare = refl
pages_copied part parent path url (grown i s slug body kids rest) =
    ap (λ more. (i, copied_content part body) ∷ more)
    (map-append (copied_pair part) (rows_below (Some i) (path ++ s ∷ []) (child_url url slug) kids)
    (rows_below parent path url rest)
    ∙ rw (
      pages_copied part (Some i) (path ++ s ∷ []) (child_url url slug) kids,
      pages_copied part parent path url rest,
    ) refl)

-- a row with a parent is not the root's
not_root : (pages : List Page) (row : Page) → StartsAtRoot pages →
    row_with row.id pages ≡ Some row → IsSome row.parent → row.id ≡ 1 → ⊥
not_root [] row starts found parent same = starts
not_root (first ∷ pages) row starts found parent same =
    let own : row_with 1 (first ∷ pages) ≡ Some first = rw starts.0.id_is refl in
    let one : ◌≡◌ {A = Option Page} (Some first) (Some row) =
    sym own ∙ (ap (λ id. row_with id (first ∷ pages)) (sym same) ∙ found) in
    let is : first ≡ row = cc in
    let none = starts.0.no_parent in
    let some : is_some row.parent ≡ true = parent in
    let gone : is_some first.parent ≡ true = rw is some in
    cc

-- a page below the root has a parent
has_parent : (pages : List Page) (page : ℕ) (row : Page) → StartsAtRoot pages →
    row_with page pages ≡ Some row → (page ≡ 1 → ⊥) → IsSome row.parent
has_parent [] page row starts found below = absurd starts
has_parent (first ∷ pages) page row starts found below =
    let other : nat_eq first.id page ≡ false =
    told_apart first.id page (λ same. below (sym same ∙ starts.0.id_is)) in
    All-find (λ (later : Page). IsSome later.parent) (λ (r : Page). nat_eq r.id page) pages row
    starts.1 (rw other at found)

-- all rows below a page have a parent
all_have : (i : ℕ) (path url : List ℕ) (f : Forest Body) →
    AllByRecursion (λ (row : Page). IsSome row.parent) (rows_below (Some i) path url f)
all_have i path url bare = tt
all_have i path url (grown j s slug body kids rest) = (
  refl,
  All-append (λ (row : Page). IsSome row.parent)
      (rows_below (Some j) (path ++ s ∷ []) (child_url url slug) kids)
      (rows_below (Some i) path url rest) (all_have j (path ++ s ∷ []) (child_url url slug) kids)
      (all_have i path url rest),
)

-- a copy of a page of a row that is found, and is not the root's, gets a content
row_gets : (part : TreePart) (pages : List Page) (page : ℕ) → pages ≡ rows_of part.tree →
    StartsAtRoot pages → IsSource part page → (row : Page) → row_with row.id pages ≡ Some row →
    IsSome row.parent → GetsContent part row
row_gets part pages page is starts source row found parent =
    copied_there part source.bodies row.id row.body (not_root pages row starts found parent)
    (has_page-rows row.id None [] [] part.tree
    ∙ (ap (λ rows. is_some (row_with row.id rows)) (sym is) ∙ ap is_some found))
    (body_in pages part.tree is row.id
    ∙ ap (option_map (λ (one : Page). one.body)) found)

module _ (pages : List Page) (tree : Forest Body) (page : ℕ) (deep : Bool) (place n : ℕ)
    (are : ArePages pages) (is : pages ≡ rows_of tree) (row : Page)
    (found : row_with page pages ≡ Some row) (range : IsRange pages row place n) where
  -- the block of the page
  block : (b : Block page 0 None [] [] tree) × (row ≡ b.top)
  block = found_block tree page row (subst ArePages is are) (subst (λ rows. row_with page rows
      ≡ Some row) is found)

  -- all its rows
  window : take n (drop place pages)
      ≡ row ∷ rows_below (Some page) row.path row.url (kids_of page tree)
  window =
      let b = block.0 in
      sym (range_rows pages row place n range)
      ∙ (ap (subtree_rows row.path) is
      ∙ (ap (λ (r : Page). subtree_rows r.path (rows_of tree)) block.1
      ∙ (block_rows page 0 None [] [] tree b
      ∙ ap (λ (r : Page). r ∷ rows_below (Some page) r.path r.url (kids_of page tree))
      (sym block.1))))

  -- its tree
  node : node_of page tree
      ≡ grown page block.0.own_step row.slug row.body (kids_of page tree) bare
  node =
      block.0.node_is
      ∙ ap (λ (r : Page). grown page block.0.own_step r.slug r.body (kids_of page tree) bare)
      (sym block.1)

  -- with all below it
  pub deep_copied : AreCopied pages tree page true place n
  deep_copied = record {
    top = row;
    step = block.0.own_step;
    kids = kids_of page tree;
    found = found;
    within = range.within;
    rows_are = window;
    copied = ap (to_copy true) node;
  }

  -- alone
  pub shallow_copied : AreCopied pages tree page false place 1
  shallow_copied = record {
    top = row;
    step = block.0.own_step;
    kids = bare;
    found = found;
    within = (let low = slice_get_within pages place row range.page in omega (arith, low));
    rows_are = one_more (drop place pages) 0 row
        (slice_get-drop pages place 0 (place + 0) refl
        ∙ (ap (slice_get pages) (omega arith) ∙ range.page));
    copied = ap (to_copy false) node;
  }

-- each page that is copied gets a content
pub all_get : (part : TreePart) (pages : List Page) (page : ℕ) (deep : Bool) (place n : ℕ) →
    ArePages pages → pages ≡ rows_of part.tree → IsSource part page →
    AreCopied pages part.tree page deep place n →
    AllByRecursion (GetsContent part) (take n (drop place pages))
all_get part pages page deep place n are is source copied =
    let parent = has_parent pages page copied.top are.root copied.found source.below in
    let parents : AllByRecursion (λ (row : Page). IsSome row.parent) (take n (drop place pages)) =
    rw copied.rows_are (parent, all_have page copied.top.path copied.top.url copied.kids) in
    let own : AllByRecursion (λ (row : Page). row_with row.id pages ≡ Some row)
    (take n (drop place pages)) =
    all_within (λ (row : Page). row_with row.id pages ≡ Some row) pages place n
    (found_by_own_id pages are.own_ids) in
    All-both (λ (row : Page). row_with row.id pages ≡ Some row)
    (λ (row : Page). IsSome row.parent) (GetsContent part)
    (row_gets part pages page is are.root source) (take n (drop place pages)) own parents
  where
    all_taken : {X : Type 0} (P : X → Type 0) (xs : List X) (n : ℕ) → AllByRecursion P xs →
        AllByRecursion P (take n xs)
    all_taken P [] zero all = tt
    all_taken P [] (suc n) all = tt
    all_taken P (x ∷ xs) zero all = tt
    all_taken P (x ∷ xs) (suc n) all = (all.0, all_taken P xs n all.1)

    all_left : {X : Type 0} (P : X → Type 0) (xs : List X) (place : ℕ) → AllByRecursion P xs →
        AllByRecursion P (drop place xs)
    all_left P [] zero all = tt
    all_left P [] (suc place) all = tt
    all_left P (x ∷ xs) zero all = all
    all_left P (x ∷ xs) (suc place) all = all_left P xs place all.1

    all_within : {X : Type 0} (P : X → Type 0) (xs : List X) (place n : ℕ) →
        AllByRecursion P xs → AllByRecursion P (take n (drop place xs))
    all_within P xs place n all = all_taken P (drop place xs) n (all_left P xs place all)

-- the pages of the rows, with the contents of their copies, are those of what is copied
pub plan_is : (part : TreePart) (pages : List Page) (page : ℕ) (deep : Bool) (place n : ℕ) →
    AreCopied pages part.tree page deep place n →
    map (copied_pair part) (take n (drop place pages))
    ≡ copied_pages part (to_copy deep (node_of page part.tree))
plan_is part pages page deep place n copied =
    let top_id : copied.top.id ≡ page =
    id_found copied.top.id page
    (found_passes (λ (r : Page). nat_eq r.id page) pages
    copied.top copied.found) in
    ap (map (copied_pair part)) copied.rows_are
    ∙ (rw (
      top_id,
      pages_copied part (Some page) copied.top.path copied.top.url copied.kids,
    ) (ap (λ more. (page, copied_content part copied.top.body) ∷ more)
    (sym (append-nil (copied_pages part copied.kids))))
    ∙ ap (copied_pages part) (sym copied.copied))

-- a page's own row at its place
pub gets_at : (part : TreePart) (pages : List Page) (place n done : ℕ) → place + n ≤ length pages →
    done < n → AllByRecursion (GetsContent part) (take n (drop place pages)) →
    IfSome (slice_get pages (place + done)) (GetsContent part)
gets_at part pages place n done within low all =
    let same = slice_get-window pages place n done low in
    subst (λ o. IfSome o (GetsContent part)) same
    (at (take n (drop place pages)) done all)
  where
    at : (xs : List Page) (k : ℕ) → AllByRecursion (GetsContent part) xs →
        IfSome (slice_get xs k) (GetsContent part)
    at [] k all = tt
    at (x ∷ xs) zero all = all.0
    at (x ∷ xs) (suc k) all = at xs k all.1

-- the rows of a page's range are those that a copy copies, and so is its own row alone
pub range_copied : (pages : List Page) (tree : Forest Body) (page place n : ℕ) → ArePages pages →
    pages ≡ rows_of tree → IsSome (row_with page pages) →
    IfSome (row_with page pages) (λ row. IsRange pages row place n) →
    AreCopied pages tree page true place n × AreCopied pages tree page false place 1
range_copied pages tree page place n are is there range =
    by (row_with page pages) refl there range
  where
    by : (o : Option Page) → row_with page pages ≡ o → IsSome o →
        IfSome o (λ row. IsRange pages row place n) →
        AreCopied pages tree page true place n × AreCopied pages tree page false place 1
    by None e there range = absurd (cc)
    by (Some row) e there range = (
      deep_copied pages tree page true place n are is row e range,
      shallow_copied pages tree page false place n are is row e range,
    )

-- The page at a place, with the row that is found by its id.
record IsFound (pages : List Page) (place : ℕ) (own : PageRow) : Type 0 where
  pub row : Page
  pub at : slice_get pages place ≡ Some row
  pub body_is : own.body ≡ row.body

-- it is there
found_row : (pages : List Page) (place id : ℕ) (own : PageRow) → ArePages pages →
    Some id ≡ option_map (λ (row : Page). row.id) (slice_get pages place) →
    Some own ≡ option_map page_row (row_with id pages) → IsFound pages place own
found_row pages place id own are is found = by (slice_get pages place) refl is
  where
    by : (o : Option Page) → slice_get pages place ≡ o →
        Some id ≡ option_map (λ (row : Page). row.id) o → IsFound pages place own
    by None e is = absurd (cc)
    by (Some row) e is =
        let same : row.id ≡ id = cc in
        let here : row_with id pages ≡ Some row =
        ap (λ n. row_with n pages) (sym same) ∙ found_at_place pages place row are e in
        let one : own ≡ page_row row = same_row own (page_row row) (found
        ∙ ap (option_map page_row) here) in
        record {
          row = row;
          at = e;
          body_is = ap (λ (r : PageRow). r.body) one;
        }
      where
        same_row : (a b : PageRow) → ◌≡◌ {A = Option PageRow} (Some a) (Some b) → a ≡ b
        same_row a b e = cc

-- the content that its copy gets is not missing
pub not_missing : (part : TreePart) (pages : List Page) (place id : ℕ) (own : PageRow) →
    ArePages pages → Some id ≡ option_map (λ (row : Page). row.id) (slice_get pages place) →
    Some own ≡ option_map page_row (row_with id pages) →
    IfSome (slice_get pages place) (GetsContent part) → None ≡ copied_by part own.body → ⊥
not_missing part pages place id own are is found gets none =
    let there = found_row pages place id own are is found in
    let all : GetsContent part there.row =
    subst (λ (o : Option Page). IfSome o (GetsContent part)) there.at gets in
    all (ap (copied_by part) (sym there.body_is) ∙ sym none)

-- the page with its content is the one at its place
pub pair_is : (part : TreePart) (pages : List Page) (place id : ℕ) (own : PageRow)
    (content copy : ContentValue) → ArePages pages →
    Some id ≡ option_map (λ (row : Page). row.id) (slice_get pages place) →
    Some own ≡ option_map page_row (row_with id pages) →
    Some content ≡ copied_by part own.body → copy ≡ content →
    Some (id, copy) ≡ option_map (copied_pair part) (slice_get pages place)
pair_is part pages place id own content copy are is found gets copy_is =
    let there = found_row pages place id own are is found in
    let row_id : there.row.id ≡ id =
    same_id there.row.id id (ap (option_map (λ (row : Page). row.id)) (sym there.at) ∙ sym is) in
    let told : copied_content part there.row.body ≡ copy =
    gets_is part there.row.body content (gets ∙ ap (copied_by part) there.body_is) ∙ sym copy_is in
    rw (there.at, row_id, told) refl
  where
    same_id : (a b : ℕ) → ◌≡◌ {A = Option ℕ} (Some a) (Some b) → a ≡ b
    same_id a b e = cc

-- a page that is there has a row
pub source_row : (part : TreePart) (pages : List Page) (page : ℕ) → pages ≡ rows_of part.tree →
    has_page page part.tree ≡ true → IsSome (row_with page pages)
source_row part pages page is there =
    subst (λ rows. IsSome (row_with page rows)) (sym is)
    (sym (has_page-rows page None [] [] part.tree) ∙ there)

-- what is told of the rows is told of what is copied
pub plan_told : {E : Type 0} (part : TreePart) (pages : List Page) (page : ℕ) (deep : Bool)
    (place n : ℕ) → AreCopied pages part.tree page deep place n →
    (result : Result (List (ℕ × ContentValue)) E) →
    IfOk result (λ plan. plan ≡ map (copied_pair part) (take n (drop place pages))) →
    IfOk result (λ plan. plan ≡ copied_pages part (to_copy deep (node_of page part.tree)))
plan_told part pages page deep place n copied (Ok plan) is =
    is ∙ plan_is part pages page deep place n copied
plan_told part pages page deep place n copied (Err fault) is = tt
