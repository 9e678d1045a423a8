-- A page that comes with all below it behind the last kid of its parent, one page after the other:
-- the rows are those of the tree with it grafted in.
use Rattle.std.proofs.Common.{◌≡◌, ◌+◌, ℕ, Bool, true, false, cond, nat_eq, List, [], ◌∷◌, ◌++◌, Option, Some, None, refl, sym, ap, subst, ◌∙◌, arith}
use Rattle.std.specs.List.{AllByRecursion}
use Rattle.std.specs.Str.{bytes_eq}
use Rattle.std.proofs.lemmas.List.{append_assoc}
use Rattle.std.proofs.lemmas.Bool.Decides.{nat_tests}
use Rattle.page_tree.specs.Tree.{Forest, bare, grown, End, AreRising, AllIds, kids_of, kid_with_slug, step_needed, placed, put_last, graft}
use Rattle.page_tree.specs.Rows.{row_with, rows_below, rows_of, child_url, with_kid}
use Rattle.page_tree.specs.Walk.{kid_count}
use Rattle.step_path.specs.Path.{IsPath}
use Rattle.site_types.specs.declared.body.Body.{Body}
use Rattle.page_store.specs.Pages.{Page, EachPair, IsBefore, HasOtherId, HasOtherSlug}
use Rattle.page_store.proofs.AllLemmas.{All-weaker, All-append}
use Rattle.page_store.proofs.InsertLemmas.{bytes_eq-self}
use Rattle.path_moves.proofs.GraftLemmas.{rows_below-put_last}
use Rattle.path_moves.proofs.LawLemmas.{block_in}
use Rattle.path_moves.proofs.TreePages.{EachPair-append, rows_in_order, rows_own_ids}
use Rattle.tree_model.specs.Shape.{SlugsDiffer}
use Rattle.tree_rows.proofs.Apart.{Lacks, AreApart}
use Rattle.tree_rows.proofs.Block.{Block}
use Rattle.tree_rows.proofs.Lists.{all_parts}
use Rattle.tree_rows.specs.Cuts.{with_count}
use Rattle.publishing.specs.Laws.{IsUntimed}
use Rattle.flat_model.specs.Fits.{PagesFit}
use Rattle.flat_model.specs.Made.{with_pages}
use Rattle.page_copies.specs.Coming.{coming_rows}
use Rattle.page_copies.proofs.ComingPairs.{Differ, recounted, not_among, found_second, raised_by, raise-append, raise-absent}
use Rattle.page_copies.proofs.ComingRows.{HaveCome, all_come}

-- what holds of the parent of some pages and of each of them holds of each parent among their rows
parents_are : (P : Option ℕ → Type 0) (parent : Option ℕ) (path url : List ℕ) (f : Forest Body) →
    P parent → AllIds (λ i. P (Some i)) f →
    AllByRecursion (λ (row : Page). P row.parent) (rows_below parent path url f)
parents_are P parent path url bare own all = tt
parents_are P parent path url (grown i s slug body kids rest) own all = (
  own,
  All-append (λ (row : Page). P row.parent)
      (rows_below (Some i) (path ++ s ∷ []) (child_url url slug) kids)
      (rows_below parent path url rest)
      (parents_are P (Some i) (path ++ s ∷ []) (child_url url slug) kids all.0 all.1)
      (parents_are P parent path url rest own all.2),
)

-- the ids in a list of pages in a weaker form
ids_weaker : (P Q : ℕ → Type 0) → ((i : ℕ) → P i → Q i) → (f : Forest Body) → AllIds P f →
    AllIds Q f
ids_weaker P Q w bare all = tt
ids_weaker P Q w (grown i s slug body kids rest) all =
    (w i all.0, ids_weaker P Q w kids all.1, ids_weaker P Q w rest all.2)

-- the same parent, or two names that are none
same_page : (i j : ℕ) → ◌≡◌ {A = Option ℕ} (Some i) (Some j) → i ≡ j
same_page i j is = cc

-- the parent is none of these pages
abbrev NotIn : Option ℕ → Forest Body → Type 0
NotIn parent f = AllIds (λ i. parent ≡ Some i → ⊥) f

-- a slug that no page side by side has is no row's below their parent
other_slugs : (slug : List ℕ) (parent : Option ℕ) (path url : List ℕ) (f : Forest Body) →
    NotIn parent f → kid_with_slug slug f ≡ None →
    AllByRecursion (λ (row : Page). row.parent ≡ parent → row.slug ≡ slug → ⊥)
    (rows_below parent path url f)
other_slugs slug parent path url bare out free = tt
other_slugs slug parent path url (grown i s own body kids rest) out free =
    by (bytes_eq own slug) refl free (other_slugs slug parent path url rest out.2)
  where
    below : AllByRecursion (λ (row : Page). row.parent ≡ parent → row.slug ≡ slug → ⊥)
        (rows_below (Some i) (path ++ s ∷ []) (child_url url own) kids)
    below =
        All-weaker (λ (row : Page). parent ≡ row.parent → ⊥)
        (λ (row : Page). row.parent ≡ parent → row.slug ≡ slug → ⊥)
        (λ row other same slugs. other (sym same))
        (rows_below (Some i) (path ++ s ∷ []) (child_url url own) kids)
        (parents_are (λ q. parent ≡ q → ⊥) (Some i) (path ++ s ∷ []) (child_url url own) kids out.0
        out.1)

    by : (t : Bool) → bytes_eq own slug ≡ t →
        cond t (Some i) (kid_with_slug slug rest) ≡ None →
        (kid_with_slug slug rest ≡ None →
        AllByRecursion (λ (row : Page). row.parent ≡ parent → row.slug ≡ slug → ⊥)
        (rows_below parent path url rest)) →
        AllByRecursion (λ (row : Page). row.parent ≡ parent → row.slug ≡ slug → ⊥)
        (rows_below parent path url (grown i s own body kids rest))
    by true e free later = absurd (cc)
    by false e free later = (
      (λ same slugs. differ slugs),
      All-append (λ (row : Page). row.parent ≡ parent → row.slug ≡ slug → ⊥)
          (rows_below (Some i) (path ++ s ∷ []) (child_url url own) kids)
          (rows_below parent path url rest) below (later free),
    )
      where
        differ : own ≡ slug → ⊥
        differ same =
            let self : bytes_eq own slug ≡ true =
            subst (λ x. bytes_eq own x ≡ true) same (bytes_eq-self own) in
            cc

-- siblings have different slugs among the rows of pages whose siblings do
own_slugs : (parent : Option ℕ) (path url : List ℕ) (f : Forest Body) → NotIn parent f →
    AreApart f → SlugsDiffer f → EachPair HasOtherSlug (rows_below parent path url f)
own_slugs parent path url bare out apart differ = tt
own_slugs parent path url (grown i s slug body kids rest) out apart differ =
    let own = path ++ s ∷ [] in
    let below = rows_below (Some i) own (child_url url slug) kids in
    let after = rows_below parent path url rest in
    let in_kids = ids_weaker (λ j. j ≡ i → ⊥) (λ j. Some i ≡ Some j → ⊥)
    (λ j other same. other (sym (same_page i j same))) kids apart.0.0 in
    let kids_parents : AllByRecursion (λ (row : Page). AllByRecursion (λ (other : Page).
    other.parent ≡ row.parent → ⊥) after) below =
    parents_are (λ q. AllByRecursion (λ (other : Page). other.parent ≡ q → ⊥) after) (Some i) own
    (child_url url slug) kids
    (parents_are (λ q. q ≡ Some i → ⊥) parent path url rest out.0
    (ids_weaker (λ j. j ≡ i → ⊥) (λ j. Some j ≡ Some i → ⊥)
    (λ j other same. other (same_page j i same)) rest apart.0.1))
    (each_kid kids apart.0.2 out.1) in (
      All-append (λ (later : Page). later.parent ≡ parent → later.slug ≡ slug → ⊥) below after
          (All-weaker (λ (row : Page). parent ≡ row.parent → ⊥)
          (λ (row : Page). row.parent ≡ parent → row.slug ≡ slug → ⊥)
          (λ row other same slugs. other (sym same)) below
          (parents_are (λ q. parent ≡ q → ⊥) (Some i) own (child_url url slug) kids out.0 out.1))
          (other_slugs slug parent path url rest out.2 differ.0),
      EachPair-append HasOtherSlug below after
          (own_slugs (Some i) own (child_url url slug) kids in_kids apart.1 differ.1)
          (own_slugs parent path url rest out.2 apart.2 differ.2)
          (All-weaker (λ (row : Page). AllByRecursion (λ (other : Page). other.parent ≡ row.parent → ⊥)
          after) (λ (row : Page). AllByRecursion (HasOtherSlug row) after)
          (λ row all. All-weaker (λ (other : Page). other.parent ≡ row.parent → ⊥) (HasOtherSlug row)
          (λ other apart same slugs. apart same) after all) below kids_parents),
    )
  where
    each_kid : (f : Forest Body) → AllIds (λ j. Lacks j f) rest → NotIn parent f →
        AllIds (λ j. AllByRecursion (λ (other : Page). other.parent ≡ Some j → ⊥)
        (rows_below parent path url rest)) f
    each_kid bare lacks out = tt
    each_kid (grown j t other_slug other kids_of_it more) lacks out = (
      parents_are (λ q. q ≡ Some j → ⊥) parent path url rest out.0
          (ids_weaker (λ k. Lacks k (grown j t other_slug other kids_of_it more))
          (λ k. Some k ≡ Some j → ⊥)
          (λ k lack same. lack.0 (sym (same_page k j same))) rest lacks),
      each_kid kids_of_it
          (ids_weaker (λ k. Lacks k (grown j t other_slug other kids_of_it more))
          (λ k. Lacks k kids_of_it) (λ k lack. lack.1) rest lacks) out.1,
      each_kid more
          (ids_weaker (λ k. Lacks k (grown j t other_slug other kids_of_it more))
          (λ k. Lacks k more) (λ k lack. lack.2) rest lacks) out.2,
    )

-- no page is the parent of the root
never : (f : Forest Body) → NotIn None f
never bare = tt
never (grown i s slug body kids rest) = ((λ same. cc), never kids, never rest)

-- two facts of each pair
pairs_both : (R S T : Page → Page → Type 0) → ((x y : Page) → R x y → S x y → T x y) →
    (rows : List Page) → EachPair R rows → EachPair S rows → EachPair T rows
pairs_both R S T w [] one other = tt
pairs_both R S T w (row ∷ rows) one other =
    (all_both rows one.0 other.0, pairs_both R S T w rows one.1 other.1)
  where
    all_both : (xs : List Page) → AllByRecursion (R row) xs → AllByRecursion (S row) xs →
        AllByRecursion (T row) xs
    all_both [] rs ss = tt
    all_both (x ∷ xs) rs ss = (w row x rs.0 ss.0, all_both xs rs.1 ss.1)

-- the rows of a tree differ
pub tree_pairs : (tree : Forest Body) → AreRising 0 tree → AreApart tree → SlugsDiffer tree →
    EachPair Differ (rows_of tree)
tree_pairs tree rising apart differ =
    let order = rows_in_order None [] [] 0 tree rising in
    let ids = rows_own_ids None [] [] tree apart in
    let slugs = own_slugs None [] [] tree (never tree) apart differ in
    pairs_both IsBefore (λ x y. HasOtherId x y × HasOtherSlug x y) Differ
    (λ x y before both. (before, both.0, both.1)) (rows_of tree) order
    (pairs_both HasOtherId HasOtherSlug (λ x y. HasOtherId x y × HasOtherSlug x y)
    (λ x y id slug. (id, slug)) (rows_of tree) ids slugs)

-- a page more among siblings, with all below it
one_more : (before id step : ℕ) (slug : List ℕ) (body : Body) (kids f : Forest Body) →
    kid_count (put_last before (grown id step slug body kids bare) f) ≡ kid_count f + 1
one_more before id step slug body kids bare = refl
one_more before id step slug body kids (grown i s own b k rest) =
    ap (λ n. n + 1) (one_more s id step slug body kids rest)

module _ (tree : Forest Body) (rising : AreRising 0 tree) (apart : AreApart tree)
    (parent id step : ℕ) (slug : List ℕ) (body : Body) (kids : Forest Body) (top : Page)
    (found : row_with parent (rows_of tree) ≡ Some top)
    (pairs : EachPair Differ (rows_of (graft parent End (grown id step slug body kids bare) tree)))
    (paths : AllByRecursion (λ (row : Page). IsPath row.path)
    (rows_of (graft parent End (grown id step slug body kids bare) tree)))
    (untimed : AllByRecursion (λ (row : Page). IsUntimed row.body)
    (rows_below (Some parent) top.path top.url
    (placed (grown id step slug body kids bare) (step_needed End (kids_of parent tree)) bare))) where
  -- the page that comes, at its step
  abbrev node : Forest Body
  node = grown id step slug body kids bare

  abbrev at_step : Forest Body
  at_step = placed node (step_needed End (kids_of parent tree)) bare

  -- the block of the parent
  block : (b : Block parent 0 None [] [] tree) × (top ≡ b.top)
  block = block_in tree parent top rising apart found

  abbrev b : Block parent 0 None [] [] tree
  b = block.0

  abbrev inner : List Page
  inner = rows_below (Some parent) b.top.path b.top.url (kids_of parent tree)

  -- the rows up to the last one below the parent, and those that come
  abbrev front : List Page
  front = b.front ++ b.top ∷ inner

  abbrev new : List Page
  new = rows_below (Some parent) b.top.path b.top.url at_step

  -- the rows before and after
  before_is : rows_of tree ≡ front ++ b.behind
  before_is = b.rows_are ∙ sym (append_assoc b.front (b.top ∷ inner) b.behind)

  after_parts : rows_of (graft parent End node tree)
      ≡ b.front ++ with_kid b.top ∷ (inner ++ (new ++ b.behind))
  after_parts =
      let count : with_count (kid_count (put_last 0 node (kids_of parent tree))) b.top
      ≡ with_kid b.top =
      ap (λ n. with_count n b.top)
      (one_more 0 id step slug body kids (kids_of parent tree)
      ∙ ap (λ n. n + 1) (sym b.count_is)) in
      b.graft_is End node
      ∙ rw (
        count,
        rows_below-put_last (Some parent) b.top.path b.top.url 0 node (kids_of parent tree),
        append_assoc inner new b.behind,
      ) refl

  -- the parent's row counts it
  counted : raised_by parent 1 front ≡ b.front ++ with_kid b.top ∷ inner
  counted =
      let own : nat_eq parent b.top.id ≡ true = (let same = b.id_is in grind (arith, nat_tests)) in
      raise-append (Some parent) b.front (b.top ∷ inner)
      ∙ rw (raise-absent parent b.front b.front_ids, own, raise-absent parent inner b.inner_ids) refl

  -- the parent's row is found
  top_found : row_with parent front ≡ Some b.top
  top_found =
      let own : nat_eq b.top.id parent ≡ true = (let same = b.id_is in grind (arith, nat_tests)) in
      found_second parent b.front (b.top ∷ inner) (not_among parent b.front b.front_ids)
      ∙ rw own refl

  -- all rows differ, with the count that the parent had
  all_pairs : EachPair Differ (front ++ (new ++ b.behind))
  all_pairs =
      subst (EachPair Differ) (sym (append_assoc b.front (b.top ∷ inner) (new ++ b.behind)))
      (recounted b.front (inner ++ (new ++ b.behind)) (with_kid b.top) b.top.numchild
      (subst (EachPair Differ) after_parts pairs))

  -- the new paths are paths
  new_paths : AllByRecursion (λ (row : Page). IsPath row.path) new
  new_paths =
      let all = (all_parts (λ (row : Page). IsPath row.path) b.front
      (with_kid b.top ∷ (inner ++ (new ++ b.behind)))
      (subst (AllByRecursion (λ (row : Page). IsPath row.path)) after_parts paths)).1.1 in
      (all_parts (λ (row : Page). IsPath row.path) new b.behind
      (all_parts (λ (row : Page). IsPath row.path) inner (new ++ b.behind) all).1).0

  -- they come
  have_come : HaveCome parent b.top.path b.top.url at_step front b.behind
  have_come =
      all_come parent b.top.path b.top.url at_step front b.behind b.top top_found refl all_pairs
      new_paths
      (subst (λ above. AllByRecursion (λ (row : Page). IsUntimed row.body)
      (rows_below (Some parent) above.path above.url at_step)) block.1 untimed)

  -- the rows that come, by the parent's row
  abbrev coming : Page → List Page
  coming above = rows_below (Some parent) above.path above.url at_step

  -- their rows may be put in one after the other
  pub graft_fits : PagesFit (coming_rows (coming top)) (rows_of tree)
  graft_fits =
      subst (λ above. PagesFit (coming_rows (coming above)) (rows_of tree)) (sym block.1)
      (subst (PagesFit (coming_rows new)) (sym before_is) have_come.fit)

  -- and then the rows are those of the tree with the page
  pub graft_comes : with_pages (coming_rows (coming top)) (rows_of tree)
      ≡ rows_of (graft parent End node tree)
  graft_comes =
      ap (λ above. with_pages (coming_rows (coming above)) (rows_of tree)) block.1
      ∙ (ap (with_pages (coming_rows new)) before_is
      ∙ (have_come.come
      ∙ (ap (λ xs. xs ++ (new ++ b.behind)) counted
      ∙ (append_assoc b.front (with_kid b.top ∷ inner) (new ++ b.behind) ∙ sym after_parts))))
