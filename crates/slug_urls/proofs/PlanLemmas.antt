-- What a page plans, read off the rows of the tree.
use Rattle.std.proofs.Common.{◌≡◌, ℕ, inr, Bool, true, false, cond, not, List, [], ◌∷◌, ◌++◌, Option, Some, None, IsSome, is_some, map, filter, length, drop, unwrap_or, refl, sym, ap, ◌∙◌, subst, arith}
use Rattle.std.specs.Prelude.{Ok, Err}
use Rattle.std.specs.List.{AllByRecursion}
use Rattle.std.specs.Option.{option_map, IfSome}
use Rattle.std.specs.Str.{bytes_eq}
use Rattle.std.proofs.lemmas.List.{append-nil, drop_all}
use Rattle.page_tree.specs.Tree.{Forest, bare, grown, has_page, kids_of, node_of}
use Rattle.page_tree.specs.Rows.{child_url, rows_below, rows_of, row_with}
use Rattle.page_tree.proofs.RowLemmas.{has_page-rows}
use Rattle.site_types.specs.declared.body.Body.{Body}
use Rattle.page_store.specs.Pages.{Page, ArePages}
use Rattle.page_store.specs.Search.{begins}
use Rattle.page_store.proofs.AllLemmas.{All-weaker, All-map}
use Rattle.page_store.proofs.SeenLemmas.{found_by_own_id}
use Rattle.tree_rows.proofs.Lists.{all_parts}
use Rattle.tree_rows.proofs.SubtreeLemmas.{found_block, block_rows}
use Rattle.tree_model.specs.Changes.{url_in, changed_urls}
use Rattle.tree_model.specs.Renames.{renamed}
use Rattle.tree_model.proofs.CountLemmas.{same_id}
use Rattle.slug_urls.specs.declared.fault.UrlFault.TheVariants.{Taken, TooLong}
use Rattle.slug_urls.specs.Plans.{UnlessMemory, new_urls, is_one_long, planned_urls, unless_taken, urls_that_fit}
use Rattle.slug_urls.specs.Flat.{moved_from, urls_from, urls_of_row, row_urls, taken_by, if_all_fit}
use Rattle.slug_urls.proofs.Pairs.{pair_of, differs, moved_pair, HasOwn, pairs_below, pairs_of_rows, changes_below, beginning_replaced}
use Rattle.slug_urls.proofs.Taken.{taken_is}

-- a row that is found by its id has its own URL
pub url_of_found : (pages : List Page) (id : ℕ) (row : Page) → row_with id pages ≡ Some row →
    url_in id pages ≡ row.url
url_of_found pages id row found =
    ap (λ (o : Option Page). unwrap_or (option_map (λ (r : Page). r.url) o) []) found

-- rows that are found by their ids have their own URLs
pub own_pairs : (pages rows : List Page) →
    AllByRecursion (λ (row : Page). row_with row.id pages ≡ Some row) rows →
    AllByRecursion (HasOwn pages) (map pair_of rows)
own_pairs pages rows own =
    All-map (HasOwn pages) pair_of rows (All-weaker
    (λ (row : Page). row_with row.id pages ≡ Some row) (λ (row : Page). HasOwn pages (pair_of row))
    (λ row found. url_of_found pages row.id row found) rows own)

-- a row's page with its URL moved
moved_pairs : (old : ℕ) (new : List ℕ) (rows : List Page) →
    map (moved_from old new) rows ≡ map (moved_pair old new) (map pair_of rows)
moved_pairs old new [] = refl
moved_pairs old new (row ∷ rows) =
    ap (λ pairs. moved_from old new row ∷ pairs) (moved_pairs old new rows)

-- nothing stands behind a whole text
nothing_behind : (new old : List ℕ) → new ++ drop (length old) old ≡ new
nothing_behind new old = ap (λ u. new ++ u) (drop_all (length old) old (omega arith))
    ∙ append-nil new

-- the page itself, and those below it: all have other URLs, or none
with_top : (page : ℕ) (old new : List ℕ) (pages : List Page) (pairs moved : List (ℕ × List ℕ)) →
    url_in page pages ≡ old →
    filter (differs pages) pairs ≡ cond (bytes_eq old new) [] moved →
    filter (differs pages) ((page, new) ∷ (pairs ++ []))
    ≡ cond (bytes_eq old new) [] ((page, new) ∷ moved)
with_top page old new pages pairs moved own rest =
    ap (λ ps. filter (differs pages) ((page, new) ∷ ps)) (append-nil pairs)
    ∙ rw own (by (bytes_eq old new) rest)
  where
    by : (t : Bool) → filter (differs pages) pairs ≡ cond t [] moved →
        cond (not t) ((page, new) ∷ filter (differs pages) pairs) (filter (differs pages) pairs)
        ≡ cond t [] ((page, new) ∷ moved)
    by true more = more
    by false more = ap (λ ps. (page, new) ∷ ps) more

module _ (tree : Forest Body) (page parent : ℕ) (slug above : List ℕ) (are : ArePages (rows_of
    tree))
    (above_is : Some above ≡ option_map (λ (row : Page). row.url) (row_with parent (rows_of tree)))
  where
    -- the URL of the parent is the one that the rows tell
    parent_url : url_in parent (rows_of tree) ≡ above
    parent_url = ap (λ (o : Option (List ℕ)). unwrap_or o []) (sym above_is)

    -- the new URLs of a page that has this row
    listed_there : (row : Page) → row_with page (rows_of tree) ≡ Some row →
        changed_urls (rows_of tree)
        (rows_below (Some parent) [] above (renamed page slug (node_of page tree)))
        ≡ urls_from row (child_url above slug) (rows_of tree)
    listed_there row found =
        let block = found_block tree page row are found in
        let b = block.0 in
        let kids = kids_of page tree in
        let all = subst (λ rows. AllByRecursion (λ (r : Page). row_with r.id (rows_of tree)
        ≡ Some r) rows)
        b.rows_are (found_by_own_id (rows_of tree) are.own_ids) in
        let behind = (all_parts (λ (r : Page). row_with r.id (rows_of tree) ≡ Some r) b.front
        (b.top ∷ (rows_below (Some page) b.top.path b.top.url kids ++ b.behind)) all).1 in
        let below = (all_parts (λ (r : Page). row_with r.id (rows_of tree) ≡ Some r)
        (rows_below (Some page) b.top.path b.top.url kids) b.behind behind.1).0 in
        let own = subst (λ pairs. AllByRecursion (HasOwn (rows_of tree)) pairs)
        (pairs_of_rows (Some page) b.top.path b.top.url kids)
        (own_pairs (rows_of tree) (rows_below (Some page) b.top.path b.top.url kids) below) in
        let url_is : url_in page (rows_of tree) ≡ b.top.url =
        url_of_found (rows_of tree) page row found ∙ ap (λ (r : Page). r.url) block.1 in
        let node : renamed page slug (node_of page tree)
        ≡ grown page b.own_step slug b.top.body kids bare =
        ap (renamed page slug) b.node_is ∙ rw (same_id page) refl in
        let new = child_url above slug in
        let moved : map (moved_from (length b.top.url) new)
        (b.top ∷ rows_below (Some page) b.top.path b.top.url kids)
        ≡ (page, new) ∷ map (moved_pair (length b.top.url) new) (pairs_below b.top.url kids) =
        moved_pairs (length b.top.url) new (b.top ∷ rows_below (Some page) b.top.path b.top.url
        kids)
        ∙ (ap (λ u. (b.top.id, u) ∷ map (moved_pair (length b.top.url) new)
        (map pair_of (rows_below (Some page) b.top.path b.top.url kids))) (nothing_behind new
        b.top.url)
        ∙ (ap (λ i. (i, new) ∷ map (moved_pair (length b.top.url) new)
        (map pair_of (rows_below (Some page) b.top.path b.top.url kids))) b.id_is
        ∙ ap (λ pairs. (page, new) ∷ map (moved_pair (length b.top.url) new) pairs)
        (pairs_of_rows (Some page) b.top.path b.top.url kids))) in
        ap (λ f. changed_urls (rows_of tree) (rows_below (Some parent) [] above f)) node
        ∙ (changes_below (rows_of tree) (Some parent) [] above
        (grown page b.own_step slug b.top.body kids bare)
        ∙ (with_top page b.top.url new (rows_of tree) (pairs_below new kids)
        (map (moved_pair (length b.top.url) new) (pairs_below b.top.url kids)) url_is
        (beginning_replaced (rows_of tree) b.top.url new kids own)
        ∙ (ap (λ pairs. cond (bytes_eq b.top.url new) [] pairs) (sym moved)
        ∙ (ap (λ rows. cond (bytes_eq b.top.url new) [] (map (moved_from (length b.top.url) new)
        rows))
        (sym (block_rows page 0 None [] [] tree b))
        ∙ ap (λ (r : Page). urls_from r new (rows_of tree)) (sym block.1)))))

    -- The new URLs are those that the rows tell.
    pub new_urls_are : new_urls tree page parent slug
        ≡ row_urls page (child_url above slug) (rows_of tree)
    new_urls_are =
        by (row_with page (rows_of tree)) refl (has_page-rows page None [] [] tree)
      where
        by : (o : Option Page) → row_with page (rows_of tree) ≡ o →
            has_page page tree ≡ is_some (row_with page (rows_of tree)) →
            new_urls tree page parent slug
            ≡ urls_of_row o page (child_url above slug) (rows_of tree)
        by None e has =
            let absent : has_page page tree ≡ false = has ∙ ap is_some e in
            rw (absent, parent_url) refl
        by (Some row) e has =
            let there : has_page page tree ≡ true = has ∙ ap is_some e in
            rw (there, parent_url) (listed_there row e)

-- whether the parent's row is outside of the subtree of the page
abbrev pub IsOutside : ℕ → ℕ → List Page → Type 0
IsOutside page parent pages =
    IfSome (row_with page pages) (λ row. IfSome (row_with parent pages)
    (λ top. begins row.path top.path ≡ false))

module _ (pages : List Page) (tree : Forest Body) (page parent : ℕ) (slug : List ℕ)
    (are : ArePages pages) (is : pages ≡ rows_of tree) (there : IsSome (row_with parent pages))
    (outside : IsOutside page parent pages) where
  -- a kid with the slug is in the way
  taken_first : planned_urls tree page parent slug
      ≡ unless_taken (taken_by page parent slug pages) (new_urls tree page parent slug)
  taken_first =
      subst (λ (rows : List Page). ArePages rows → IsSome (row_with parent rows) →
      IsOutside page parent rows → planned_urls tree page parent slug
      ≡ unless_taken (taken_by page parent slug rows) (new_urls tree page parent slug)) (sym is)
      (λ pages_are some out. ap (λ o. unless_taken o (new_urls tree page parent slug))
      (taken_is tree page parent slug pages_are some out)) are there outside

  -- the list that is planned where no kid is in the way
  listed_first : (above : List ℕ) →
      Some above ≡ option_map (λ (row : Page). row.url) (row_with parent pages) →
      new_urls tree page parent slug ≡ row_urls page (child_url above slug) pages
  listed_first above above_is =
      subst (λ (rows : List Page). ArePages rows →
      Some above ≡ option_map (λ (row : Page). row.url) (row_with parent rows) →
      new_urls tree page parent slug ≡ row_urls page (child_url above slug) rows) (sym is)
      (λ pages_are url_is. new_urls_are tree page parent slug above pages_are url_is) are above_is

  -- another kid has the slug
  pub taken_planned : (other : ℕ) → Some other ≡ taken_by page parent slug pages →
      UnlessMemory (planned_urls tree page parent slug) (Err (Taken other))
  taken_planned other found =
      inr (sym (taken_first
      ∙ ap (λ o. unless_taken o (new_urls tree page parent slug)) (sym found)))

  module _ (above own : List ℕ)
      (above_is : Some above ≡ option_map (λ (row : Page). row.url) (row_with parent pages))
      (own_is : own ≡ slug) (free : None ≡ taken_by page parent slug pages) where
    -- the plan is the list that fits
    free_planned : planned_urls tree page parent slug
        ≡ urls_that_fit (row_urls page (child_url above own) pages)
    free_planned =
        taken_first ∙ (ap (λ o. unless_taken o (new_urls tree page parent slug)) (sym free)
        ∙ (ap urls_that_fit (listed_first above above_is)
        ∙ ap (λ text. urls_that_fit (row_urls page (child_url above text) pages)) (sym own_is)))

    -- all new URLs fit
    pub list_planned : (urls : List (ℕ × List ℕ)) →
        Some urls ≡ if_all_fit (row_urls page (child_url above own) pages) →
        UnlessMemory (planned_urls tree page parent slug) (Ok urls)
    list_planned urls listed =
        inr (sym (free_planned
        ∙ by (is_one_long (row_urls page (child_url above own) pages)) listed))
      where
        by : (t : Bool) →
            Some urls ≡ cond t None (Some (row_urls page (child_url above own) pages)) →
            cond t (Err TooLong) (Ok (row_urls page (child_url above own) pages)) ≡ Ok urls
        by true h = absurd cc
        by false h = let same : urls ≡ row_urls page (child_url above own) pages = cc in ap Ok (sym
            same)

    -- one of them does not
    pub long_planned : None ≡ if_all_fit (row_urls page (child_url above own) pages) →
        UnlessMemory (planned_urls tree page parent slug) (Err TooLong)
    long_planned none =
        inr (sym (free_planned
        ∙ by (is_one_long (row_urls page (child_url above own) pages)) none))
      where
        by : (t : Bool) →
            None ≡ cond t None (Some (row_urls page (child_url above own) pages)) →
            cond t (Err TooLong) (Ok (row_urls page (child_url above own) pages)) ≡ Err TooLong
        by true h = refl
        by false h = absurd cc
