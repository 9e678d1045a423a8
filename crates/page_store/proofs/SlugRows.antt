-- The rows where a page has another slug.
use Rattle.std.proofs.Common.{◌≡◌, ℕ, Bool, true, false, cond, nat_eq, ◌&&◌, List, [], ◌∷◌, Option, Some, None, IsSome, find, length, refl, ap, sym, ◌∙◌, subst, arith}
use Rattle.std.proofs.lemmas.Bool.Decides.{nat_tests}
use Rattle.std.proofs.lemmas.List.{length-map}
use Rattle.std.specs.List.{AllByRecursion}
use Rattle.std.specs.Option.{option_map, IfSome}
use Rattle.std.specs.Str.{bytes_eq}
use Rattle.page_tree.specs.Rows.{is_parent, row_with, kid_named, kids_in}
use Rattle.step_path.specs.Path.{IsPath}
use Rattle.site_types.specs.Ids.{IsPageId}
use Rattle.page_store.specs.PageRows.{above, parent_id}
use Rattle.page_store.specs.Pages.{Page, EachPair, IsBefore, HasOtherId, HasOtherSlug, IsRootRow, StartsAtRoot, ArePages}
use Rattle.page_store.specs.Changes.{changed, slug_changed, with_slug}
use Rattle.page_store.proofs.AllLemmas.{All-weaker, All-both, All-always, All-map}
use Rattle.page_store.proofs.InsertLemmas.{same_bytes, bytes_eq-self, all_fail_from_find}
use Rattle.page_store.proofs.SeenLemmas.{All-find}
use Rattle.page_store.proofs.KeptLemmas.{found_passes}
use Rattle.page_store.proofs.ChangeLemmas.{after, All-changed, EachPair-changed, find-changed, count-changed, id_of_after}

-- a test of a kid that passes says what its parent and its slug are
pub kid_passes : (p : ℕ) (slug : List ℕ) (parent : Option ℕ) (own : List ℕ) →
    is_parent p parent && bytes_eq own slug ≡ true → (parent ≡ Some p) × (own ≡ slug)
kid_passes p slug None own h = absurd cc
kid_passes p slug (Some q) own h =
    let same : q ≡ p = grind (arith, nat_tests) in
    let texts : bytes_eq own slug ≡ true = grind (arith, nat_tests) in
    (ap Some same, same_bytes own slug texts)

-- and a kid with another parent or another slug fails it
pub kid_fails : (p : ℕ) (slug : List ℕ) (parent : Option ℕ) (own : List ℕ) →
    (parent ≡ Some p → own ≡ slug → ⊥) → is_parent p parent && bytes_eq own slug ≡ false
kid_fails p slug parent own differ = by (is_parent p parent && bytes_eq own slug) refl
  where
    by : (t : Bool) → is_parent p parent && bytes_eq own slug ≡ t →
        is_parent p parent && bytes_eq own slug ≡ false
    by true e = let is = kid_passes p slug parent own e in absurd (differ is.0 is.1)
    by false e = e

-- of the siblings of a row that is found none has its slug
pub others_differ : (test : Page → Bool) (rows : List Page) (row : Page) →
    EachPair HasOtherSlug rows → find test rows ≡ Some row →
    AllByRecursion (λ other. nat_eq other.id row.id ≡ false → HasOtherSlug row other) rows
others_differ test [] row own found = tt
others_differ test (one ∷ rows) row own found =
    by (test one) found (others_differ test rows row own.1)
  where
    by : (t : Bool) → cond t (Some one) (find test rows) ≡ Some row → (find test rows ≡ Some row →
        AllByRecursion (λ other. nat_eq other.id row.id ≡ false → HasOtherSlug row other) rows) →
        AllByRecursion (λ other. nat_eq other.id row.id ≡ false → HasOtherSlug row other) (one ∷
        rows)
    by true h more =
        let same : one ≡ row = cc in
        let ids : one.id ≡ row.id = ap (λ (r : Page). r.id) same in (
          λ differ. absurd (grind (arith, nat_tests)),
          subst (λ (r : Page). AllByRecursion (λ other. nat_eq other.id row.id ≡ false →
              HasOtherSlug r other) rows) same (All-weaker (HasOtherSlug one) (λ other. nat_eq
              other.id row.id ≡ false → HasOtherSlug one other) (λ other h differ. h) rows own.0),
        )
    by false h more = (
      λ differ parent slug. All-find (HasOtherSlug one) test rows row own.0 h (sym parent) (sym slug),
      more h,
    )

-- a row with the id of the row that is found is that row
pub same_row : (id : ℕ) (rows : List Page) (row : Page) → EachPair HasOtherId rows →
    row_with id rows ≡ Some row →
    AllByRecursion (λ other. nat_eq other.id id ≡ true → other ≡ row) rows
same_row id [] row own found = tt
same_row id (one ∷ rows) row own found =
    by (nat_eq one.id id) refl found (same_row id rows row own.1)
  where
    by : (t : Bool) → nat_eq one.id id ≡ t → cond t (Some one) (row_with id rows) ≡ Some row →
        (row_with id rows ≡ Some row →
        AllByRecursion (λ other. nat_eq other.id id ≡ true → other ≡ row) rows) →
        AllByRecursion (λ other. nat_eq other.id id ≡ true → other ≡ row) (one ∷ rows)
    by true e h more =
        let same : one ≡ row = cc in (
          λ test. same,
          All-weaker (HasOtherId one) (λ other. nat_eq other.id id ≡ true → other ≡ row) (λ other
              differ test. absurd (differ (grind (arith, nat_tests)))) rows own.0,
        )
    by false e h more = ((λ test. absurd cc), more h)

-- where the changed row alone passes, it is what is found
pub find-changed_one : (test : Page → Bool) (id : ℕ) (change : Page → Page) (rows : List Page) (row :
    Page) → row_with id rows ≡ Some row → test (change row) ≡ true →
    AllByRecursion (λ other. nat_eq other.id id ≡ false → test other ≡ false) rows →
    find test (changed id change rows) ≡ Some (change row)
find-changed_one test id change [] row found passes others = absurd cc
find-changed_one test id change (one ∷ rows) row found passes others =
    by (nat_eq one.id id) refl found (λ h. find-changed_one test id change rows row h passes
    others.1)
  where
    by : (t : Bool) → nat_eq one.id id ≡ t → cond t (Some one) (row_with id rows) ≡ Some row →
        (row_with id rows ≡ Some row → find test (changed id change rows) ≡ Some (change row)) →
        find test (after id change one ∷ changed id change rows) ≡ Some (change row)
    by true e h more = let same : one ≡ row = cc in rw e (rw (same, passes) refl)
    by false e h more = rw (e, others.0 e) (more h)

-- the root has no parent, and each other page has one
pub parent_there : (id : ℕ) (pages : List Page) (row : Page) → StartsAtRoot pages →
    row_with id pages ≡ Some row → (id ≡ 1 → ⊥) → IsSome row.parent
parent_there id [] row root found other = absurd root
parent_there id (top ∷ rows) row root found other = by (nat_eq top.id id) refl found
  where
    by : (t : Bool) → nat_eq top.id id ≡ t → cond t (Some top) (row_with id rows) ≡ Some row →
        IsSome row.parent
    by true e h =
        let own = root.0.id_is in
        let same : id ≡ 1 = grind (arith, nat_tests) in
        absurd (other same)
    by false e h =
        All-find (λ (later : Page). IsSome later.parent) (λ (r : Page). nat_eq r.id id) rows row root.1 h

module _ (pages : List Page) (are : ArePages pages) (id p : ℕ) (slug : List ℕ) (row : Page)
    (found : row_with id pages ≡ Some row) (below : row.parent ≡ Some p)
    (free : IfSome (kid_named p slug pages) (λ kid. kid ≡ id)) (other : id ≡ 1 → ⊥) where
  -- the change
  abbrev change : Page → Page
  change = slug_changed slug

  -- all rows then
  abbrev all : List Page
  all = with_slug id slug pages

  -- the row that is found has the id
  own : row.id ≡ id
  own = let test : nat_eq row.id id ≡ true = found_passes (λ (r : Page). nat_eq r.id id) pages row found in
      grind (arith, nat_tests)

  -- no other kid of the parent has the new slug
  others_free : AllByRecursion (λ r. nat_eq r.id id ≡ false → r.parent ≡ Some p → r.slug ≡ slug →
      ⊥) pages
  others_free = by (find (λ (r : Page). is_parent p r.parent && bytes_eq r.slug slug) pages) refl free
    where
      self : nat_eq p p ≡ true
      self = grind (arith, nat_tests)

      clash : (q : Option ℕ) (text : List ℕ) → is_parent p q && bytes_eq text slug ≡ false →
          q ≡ Some p → text ≡ slug → ⊥
      clash q text fails same texts =
          let h = rw (same, texts, self, bytes_eq-self slug) at fails in cc

      by : (o : Option Page) →
          find (λ (r : Page). is_parent p r.parent && bytes_eq r.slug slug) pages ≡ o →
          IfSome (option_map (λ (r : Page). r.id) o) (λ kid. kid ≡ id) →
          AllByRecursion (λ r. nat_eq r.id id ≡ false → r.parent ≡ Some p → r.slug ≡ slug → ⊥)
          pages
      by None e is =
          All-weaker (λ r. is_parent p r.parent && bytes_eq r.slug slug ≡ false) (λ r. nat_eq r.id
          id ≡ false → r.parent ≡ Some p → r.slug ≡ slug → ⊥) (λ r fails differ same texts. clash
          r.parent r.slug fails same texts) pages (all_fail_from_find (λ (r : Page). is_parent p
          r.parent && bytes_eq r.slug slug) pages e)
      by (Some kid) e is =
          let passes = found_passes (λ (r : Page). is_parent p r.parent && bytes_eq r.slug slug)
          pages kid e in
          let says = kid_passes p slug kid.parent kid.slug passes in
          All-weaker (λ r. nat_eq r.id kid.id ≡ false → HasOtherSlug kid r) (λ r. nat_eq r.id id ≡
          false → r.parent ≡ Some p → r.slug ≡ slug → ⊥) (λ r h differ same texts. h (rw is differ)
          (same ∙ sym says.0) (texts ∙ sym says.1)) pages (others_differ (λ (r : Page). is_parent p
          r.parent && bytes_eq r.slug slug) pages kid are.own_slugs e)

  -- nor has any the slug that the page had
  others_apart : AllByRecursion (λ r. nat_eq r.id id ≡ false → r.parent ≡ Some p → r.slug ≡
      row.slug → ⊥) pages
  others_apart =
      All-weaker (λ r. nat_eq r.id row.id ≡ false → HasOtherSlug row r) (λ r. nat_eq r.id id ≡ false
      → r.parent ≡ Some p → r.slug ≡ row.slug → ⊥) (λ r h differ same texts. h (rw own differ)
      (same ∙ sym below) texts) pages (others_differ (λ (r : Page). nat_eq r.id id) pages row
      are.own_slugs found)

  -- siblings have different slugs then
  own_slugs_then : (rows : List Page) → EachPair HasOtherId rows → EachPair HasOtherSlug rows →
      AllByRecursion (λ r. nat_eq r.id id ≡ false → r.parent ≡ Some p → r.slug ≡ slug → ⊥) rows →
      AllByRecursion (λ r. nat_eq r.id id ≡ true → r ≡ row) rows →
      EachPair HasOtherSlug (with_slug id slug rows)
  own_slugs_then [] ids slugs frees sames = tt
  own_slugs_then (one ∷ rows) ids slugs frees sames = (
    by (nat_eq one.id id) refl,
    own_slugs_then rows ids.1 slugs.1 frees.1 sames.1,
  )
    where
      -- a later row and the changed one
      first : nat_eq one.id id ≡ true → (later : Page) → HasOtherId one later →
          (nat_eq later.id id ≡ false → later.parent ≡ Some p → later.slug ≡ slug → ⊥) →
          HasOtherSlug (change one) (after id change later)
      first e later differ none =
          let mine : one ≡ row = sames.0 e in
          let parent : one.parent ≡ Some p = ap (λ (r : Page). r.parent) mine ∙ below in
          let apart : nat_eq later.id id ≡ false = grind (arith, nat_tests) in
          rw apart (λ same texts. none apart (same ∙ parent) texts)

      -- a row and a later one, which may be the changed one
      later_one : nat_eq one.id id ≡ false → (later : Page) → HasOtherSlug one later →
          (nat_eq later.id id ≡ true → later ≡ row) → HasOtherSlug one (after id change later)
      later_one e later differ is = pick (nat_eq later.id id) refl
        where
          pick : (t : Bool) → nat_eq later.id id ≡ t →
              HasOtherSlug one (cond t (change later) later)
          pick true f =
              let parent : later.parent ≡ Some p = ap (λ (r : Page). r.parent) (is f) ∙ below in
              λ same texts. frees.0 e (sym same ∙ parent) (sym texts)
          pick false f = differ

      by : (t : Bool) → nat_eq one.id id ≡ t →
          AllByRecursion (λ later. HasOtherSlug (cond t (change one) one) later) (with_slug id slug
          rows)
      by true e =
          All-map (λ later. HasOtherSlug (change one) later) (after id change) rows (All-both
          (HasOtherId one) (λ r. nat_eq r.id id ≡ false → r.parent ≡ Some p → r.slug ≡ slug → ⊥) (λ
          r. HasOtherSlug (change one) (after id change r)) (first e) rows ids.0 frees.1)
      by false e =
          All-map (λ later. HasOtherSlug one later) (after id change) rows (All-both (HasOtherSlug
          one) (λ r. nat_eq r.id id ≡ true → r ≡ row) (λ r. HasOtherSlug one (after id change r))
          (later_one e) rows slugs.0 sames.1)

  -- a search that does not look at the slug finds the same page
  same_found : (test : Page → Bool) → ((r : Page) → test (change r) ≡ test r) →
      option_map (λ (r : Page). r.id) (find test all) ≡ option_map (λ (r : Page). r.id) (find test
      pages)
  same_found test keeps =
      ap (λ o. option_map (λ (r : Page). r.id) o) (find-changed test id change pages
      (All-always (λ r. nat_eq r.id id ≡ true → test (change r) ≡ test r) (λ r e. keeps r) pages))
      ∙ id_of_after id change (λ r. refl) (find test pages)

  -- the root stays the first row
  root_stays : (rows : List Page) → StartsAtRoot rows → StartsAtRoot (with_slug id slug rows)
  root_stays [] root = root
  root_stays (top ∷ rows) root = (
    by (nat_eq top.id id) refl,
    All-changed (λ later. IsSome later.parent) id change (λ r h. h) rows root.1,
  )
    where
      by : (t : Bool) → nat_eq top.id id ≡ t → IsRootRow (cond t (change top) top)
      by true e =
          let first = root.0.id_is in
          let same : id ≡ 1 = grind (arith, nat_tests) in
          absurd (other same)
      by false e = root.0

  -- a page has as many kids as before
  same_count : (q : ℕ) → length (kids_in q all) ≡ length (kids_in q pages)
  same_count q = rw (length-map, length-map) (count-changed (λ r. is_parent q r.parent) id change (λ
      r. refl) pages)

  -- they are the rows of a tree again
  pub are_pages-with_slug : ArePages all
  are_pages-with_slug = record {
    root = root_stays pages are.root;
    ids_fit = All-changed (λ r. IsPageId r.id) id change (λ r h. h) pages are.ids_fit;
    paths = All-changed (λ r. IsPath r.path) id change (λ r h. h) pages are.paths;
    in_order = EachPair-changed IsBefore id change (λ r later h. h) (λ r later h. h) pages
        are.in_order;
    own_ids = EachPair-changed HasOtherId id change (λ r later h. h) (λ r later h. h) pages
        are.own_ids;
    parents = All-changed (λ r. r.parent ≡ parent_id r.path all) id change (λ r h. h) pages
        (All-weaker (λ r. r.parent ≡ parent_id r.path pages) (λ r. r.parent ≡ parent_id r.path all)
        (λ r is. is ∙ sym (same_found (λ (s : Page). bytes_eq s.path (above r.path)) (λ s. refl)))
        pages are.parents);
    counts = All-changed (λ r. r.numchild ≡ length (kids_in r.id all)) id change (λ r h. h)
        pages (All-weaker (λ r. r.numchild ≡ length (kids_in r.id pages)) (λ r. r.numchild
        ≡ length (kids_in r.id all)) (λ r is. is ∙ sym (same_count r.id)) pages are.counts);
    own_slugs = own_slugs_then pages are.own_ids are.own_slugs others_free (same_row id pages row
        are.own_ids found);
  }
