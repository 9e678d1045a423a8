-- Which page the slugs of a URL reach, going down from a page.
use Rattle.std.proofs.Common.{◌≡◌, ℕ, suc, ◌+◌, ◌-◌, ◌<◌, ◌≤◌, Bool, true, false, cond, nat_eq, ◌&&◌, ◌==◌, List, [], ◌∷◌, ◌++◌, Option, Some, None, IsSome, find, length, take, drop, get_or, refl, ap, sym, ◌∙◌, subst, arith, rules, append_assoc}
use Prim.Native.Nat.{zero}
use Rattle.std.proofs.lemmas.Bool.Decides.{nat_tests}
use Rattle.std.proofs.lemmas.List.{append-nil, drop_more, take_more, length-drop, get_or-drop, take_all, drop_all}
use Rattle.std.specs.Prelude.{IsTrue, option_and_then}
use Rattle.std.specs.List.{AllByRecursion, list_all}
use Rattle.std.specs.Option.{option_map}
use Rattle.std.specs.Str.{bytes_eq}
use Rattle.page_tree.specs.Walk.{SLASH}
use Rattle.page_tree.specs.Tree.{Forest}
use Rattle.page_tree.specs.Rows.{child_url, row_with, rows_of, is_parent, kid_named}
use Rattle.site_types.specs.declared.body.Body.{Body}
use Rattle.step_path.specs.Path.{IsPath}
use Rattle.site_ids.specs.Slug.{is_slug_byte, IsSlug}
use Rattle.page_store.specs.Pages.{Page, ArePages, StartsAtRoot, EachPair, HasOtherSlug}
use Rattle.page_store.proofs.InsertLemmas.{same_bytes, bytes_eq-self, all_fail_from_find}
use Rattle.page_store.proofs.SeenLemmas.{found_by_own_id, All-find}
use Rattle.page_store.proofs.KeptLemmas.{found_passes}
use Rattle.page_store.proofs.SlugLemmas.{kid_passes, others_differ, same_row}
use Rattle.slug_urls.specs.Urls.{HasUrl, HaveSlugs, page_at}
use Rattle.slug_urls.specs.Descent.{page_reached, page_below}
use Rattle.slug_urls.proofs.TreeUrls.{urls_of_tree, own_id, page_above, url_down, url_alone}
use Rattle.page_store.proofs.WithoutLemmas.{both_true}

-- no byte of a slug is a `/`
not_slash : (b : ℕ) → is_slug_byte b ≡ true → nat_eq b SLASH ≡ false
not_slash b allowed = by (nat_eq b SLASH) refl
  where
    by : (t : Bool) → nat_eq b SLASH ≡ t → nat_eq b SLASH ≡ false
    by true e = let same : b ≡ 47 = grind (arith, nat_tests) in
        let never : false ≡ true = subst (λ n. is_slug_byte n ≡ true) same allowed in absurd cc
    by false e = e

-- bytes of a slug are read one by one
read_slug : (pages : List Page) (page : ℕ) (seen slug rest : List ℕ) →
    list_all is_slug_byte slug ≡ true →
    page_below pages page seen (slug ++ rest) ≡ page_below pages page (seen ++ slug) rest
read_slug pages page seen [] rest allowed =
    ap (λ s. page_below pages page s rest) (sym (append-nil seen))
read_slug pages page seen (b ∷ slug) rest allowed =
    let parts = both_true (is_slug_byte b) (list_all is_slug_byte slug) allowed in
    rw (not_slash b parts.0) (read_slug pages page (seen ++ b ∷ []) slug rest parts.1
    ∙ ap (λ s. page_below pages page s rest) (append_assoc seen (b ∷ []) slug))

-- going on from the page that is reached
go_on : (pages : List Page) (page : ℕ) (seen front rest : List ℕ) (reached : ℕ) →
    page_below pages page seen front ≡ Some reached →
    page_below pages page seen (front ++ rest) ≡ page_below pages reached [] rest
go_on pages page [] [] rest reached h = let same : page ≡ reached = cc in rw same refl
go_on pages page (s ∷ seen) [] rest reached h = absurd cc
go_on pages page seen (b ∷ front) rest reached h =
    by (nat_eq b SLASH) (kid_named page seen pages) (λ p s. go_on pages p s front rest reached) h
  where
    by : (t : Bool) (o : Option ℕ) → ((p : ℕ) (s : List ℕ) → page_below pages p s front ≡ Some reached →
        page_below pages p s (front ++ rest) ≡ page_below pages reached [] rest) →
        cond t (option_and_then (λ kid. page_below pages kid [] front) o)
        (page_below pages page (seen ++ b ∷ []) front) ≡ Some reached →
        cond t (option_and_then (λ kid. page_below pages kid [] (front ++ rest)) o)
        (page_below pages page (seen ++ b ∷ []) (front ++ rest)) ≡ page_below pages reached [] rest
    by true None more h = absurd cc
    by true (Some kid) more h = more kid [] h
    by false o more h = more page (seen ++ b ∷ []) h

-- what is found first passes, and so does an equal one
found_first : (test : Page → Bool) (pages : List Page) (row : Page) → test row ≡ true →
    AllByRecursion (λ other. test other ≡ true → other ≡ row) pages → IsSome (find test pages) →
    find test pages ≡ Some row
found_first test [] row passes same there = absurd (first_of (cc, search rules))
found_first test (other ∷ pages) row passes same there =
    by (test other) refl (found_first test pages row passes same.1) there
  where
    by : (t : Bool) → test other ≡ t → (IsSome (find test pages) → find test pages ≡ Some row) →
        IsSome (cond t (Some other) (find test pages)) →
        cond t (Some other) (find test pages) ≡ Some row
    by true e more there = ap Some (same.0 e)
    by false e more there = more there

-- a test that one element passes finds one
finds_some : (test own : Page → Bool) (pages : List Page) (row : Page) → find own pages ≡ Some row →
    test row ≡ true → IsSome (find test pages)
finds_some test own pages row found passes = by (find test pages) refl
  where
    by : (o : Option Page) → find test pages ≡ o → IsSome o
    by None e =
        let none = All-find (λ (r : Page). test r ≡ false) own pages row
        (all_fail_from_find test pages e) found in
        absurd cc
    by (Some r) e = search rules

module _ (pages : List Page) (are : ArePages pages) where
  -- the kid of a page with the slug of a kid is that kid
  kid_is : (id p : ℕ) (row : Page) → row_with id pages ≡ Some row → row.parent ≡ Some p →
      kid_named p row.slug pages ≡ Some id
  kid_is id p row found is =
      let own = own_id pages are id row found in
      let passes : is_parent p row.parent && bytes_eq row.slug row.slug ≡ true =
      rw (is, bytes_eq-self row.slug) self in
      let one = found_first (λ (r : Page). is_parent p r.parent && bytes_eq r.slug row.slug) pages row passes
      (only pages are.own_slugs found (same_row id pages row are.own_ids found))
      (finds_some (λ (r : Page). is_parent p r.parent && bytes_eq r.slug row.slug)
      (λ (r : Page). nat_eq r.id id) pages row found passes) in
      ap (option_map (λ (r : Page). r.id)) one ∙ ap Some own
    where
      self : nat_eq p p && true ≡ true
      self = grind (arith, nat_tests)

      each : (other : Page) → (nat_eq other.id row.id ≡ false → HasOtherSlug row other) →
          (nat_eq other.id id ≡ true → other ≡ row) →
          is_parent p other.parent && bytes_eq other.slug row.slug ≡ true → other ≡ row
      each other differ same test =
          let passed = kid_passes p row.slug other.parent other.slug test in
          let own = own_id pages are id row found in
          pick (nat_eq other.id id) refl
        where
          pick : (t : Bool) → nat_eq other.id id ≡ t → other ≡ row
          pick true e = same e
          pick false e =
              let own = own_id pages are id row found in
              let apart : nat_eq other.id row.id ≡ false = rw own e in
              let passed = kid_passes p row.slug other.parent other.slug test in
              absurd (differ apart (passed.0 ∙ sym is) passed.1)

      both : (rows : List Page) →
          AllByRecursion (λ other. nat_eq other.id row.id ≡ false → HasOtherSlug row other) rows →
          AllByRecursion (λ other. nat_eq other.id id ≡ true → other ≡ row) rows →
          AllByRecursion (λ other. is_parent p other.parent && bytes_eq other.slug row.slug ≡ true →
          other ≡ row) rows
      both [] differ same = tt
      both (other ∷ rows) differ same =
          (each other differ.0 same.0, both rows differ.1 same.1)

      only : (rows : List Page) → EachPair HasOtherSlug rows → row_with id rows ≡ Some row →
          AllByRecursion (λ other. nat_eq other.id id ≡ true → other ≡ row) rows →
          AllByRecursion (λ other. is_parent p other.parent && bytes_eq other.slug row.slug ≡ true →
          other ≡ row) rows
      only rows slugs there same =
          both rows (others_differ (λ (r : Page). nat_eq r.id id) rows row slugs there) same

  module _ (urls : AllByRecursion (HasUrl pages) pages) (slugs : HaveSlugs pages) where
    -- a page is reached from the root by what stands behind the first `/` of its URL
    pub reached : (depth id : ℕ) (row : Page) → row_with id pages ≡ Some row → length row.path ≡ depth →
        (rest : List ℕ) × (row.url ≡ SLASH ∷ rest) × (page_below pages 1 [] rest ≡ Some id)
    reached zero id row found long = absurd (never (page_path id row found) long)
      where
        page_path : (id : ℕ) (row : Page) → row_with id pages ≡ Some row → 0 < length row.path
        page_path id row found =
            (All-find (λ (r : Page). 0 < length r.path) (λ (r : Page). nat_eq r.id id) pages row
            (some pages are.paths) found)
          where
            some : (rows : List Page) → AllByRecursion (λ r. IsPath r.path) rows →
                AllByRecursion (λ r. 0 < length r.path) rows
            some [] all = tt
            some (r ∷ rows) all = (all.0.some, some rows all.1)

        never : 0 < length row.path → length row.path ≡ 0 → ⊥
        never some none = omega arith
    reached (suc depth) id row found long = by (λ n r. reached depth n r) row.parent refl
      where
        by : ((n : ℕ) (r : Page) → row_with n pages ≡ Some r → length r.path ≡ depth →
            (rest : List ℕ) × (r.url ≡ SLASH ∷ rest) × (page_below pages 1 [] rest ≡ Some n)) →
            (o : Option ℕ) → row.parent ≡ o →
            (rest : List ℕ) × (row.url ≡ SLASH ∷ rest) × (page_below pages 1 [] rest ≡ Some id)
        by higher None e =
            let root = at_root pages are.root found e in (
              [],
              url_alone pages are id row found urls e
                  ∙ ap (λ s. child_url [] s) root.1,
              ap Some (sym root.0),
            )
          where
            at_root : (rows : List Page) → StartsAtRoot rows → row_with id rows ≡ Some row →
                row.parent ≡ None →
                (id ≡ 1) × (row.slug ≡ [])
            at_root [] root there none = absurd root
            at_root (top ∷ rows) root there none = inner (nat_eq top.id id) refl there
              where
                inner : (t : Bool) → nat_eq top.id id ≡ t → cond t (Some top) (row_with id rows) ≡ Some row →
                    (id ≡ 1) × (row.slug ≡ [])
                inner true e there =
                    let one : top ≡ row = cc in
                    let own = root.0.id_is in
                    (grind (arith, nat_tests), ap (λ (r : Page). r.slug) (sym one) ∙ root.0.no_slug)
                inner false e there =
                    let some = All-find (λ (later : Page). IsSome later.parent) (λ (r : Page). nat_eq r.id id)
                    rows row root.1 there in
                    let never : IsSome (let out : Option ℕ = None in out) = subst IsSome none some in
                    absurd (first_of (cc, search rules))
        by higher (Some p) e =
            let up = page_above pages are id row found p e in
            let shorter = up.shorter in
            let deep = higher p up.top up.found (omega arith) in
            let slug = All-find (λ (r : Page). IsSome r.parent → IsSlug r.slug) (λ (r : Page). nat_eq r.id id)
            pages row slugs found (subst IsSome (sym e) (search rules)) in
            let down = url_down pages are id row found urls p e up.top up.found in
            let url_is : row.url ≡ SLASH ∷ (deep.0 ++ (row.slug ++ SLASH ∷ [])) =
            down ∙ (ap (λ u. child_url u row.slug) deep.1
            ∙ ap (λ s. SLASH ∷ s) (append_assoc deep.0 row.slug (SLASH ∷ []))) in
            let on = go_on pages 1 [] deep.0 (row.slug ++ SLASH ∷ []) p deep.2 in
            let read = read_slug pages p [] row.slug (SLASH ∷ []) (allowed slug) in (
              deep.0 ++ (row.slug ++ SLASH ∷ []),
              url_is,
              on ∙ (read ∙ ap (option_and_then (λ kid. page_below pages kid [] []))
                  (kid_is id p row found e)),
            )
          where
            truth : (t : Bool) → IsTrue t → t ≡ true
            truth true h = refl
            truth false h = absurd (first_of (cc, search rules))

            allowed : IsSlug row.slug → list_all is_slug_byte row.slug ≡ true
            allowed slug = truth _ slug.allowed

    -- a page that is reached has the URL that leads to it
    url_reached : (page : ℕ) (top : Page) (seen bytes : List ℕ) (id : ℕ) → row_with page pages ≡ Some top →
        page_below pages page seen bytes ≡ Some id →
        (row : Page) × (row_with id pages ≡ Some row) × (row.url ≡ (top.url ++ seen) ++ bytes)
    url_reached page top [] [] id found h =
        let same : page ≡ id = cc in (
          top,
          subst (λ n. row_with n pages ≡ Some top) same found,
          sym (append-nil (top.url ++ []) ∙ append-nil top.url),
        )
    url_reached page top (s ∷ seen) [] id found h = absurd cc
    url_reached page top seen (b ∷ bytes) id found h =
        by (nat_eq b SLASH) refl
        (find (λ (r : Page). is_parent page r.parent && bytes_eq r.slug seen) pages) refl
        (λ p t s n. url_reached p t s bytes n) h
      where
        by : (t : Bool) → nat_eq b SLASH ≡ t → (o : Option Page) →
            find (λ (r : Page). is_parent page r.parent && bytes_eq r.slug seen) pages ≡ o →
            ((p : ℕ) (t : Page) (s : List ℕ) (n : ℕ) → row_with p pages ≡ Some t →
            page_below pages p s bytes ≡ Some n →
            (row : Page) × (row_with n pages ≡ Some row) × (row.url ≡ (t.url ++ s) ++ bytes)) →
            cond t (option_and_then (λ kid. page_below pages kid [] bytes)
            (option_map (λ (r : Page). r.id) o))
            (page_below pages page (seen ++ b ∷ []) bytes) ≡ Some id →
            (row : Page) × (row_with id pages ≡ Some row) × (row.url ≡ (top.url ++ seen) ++ b ∷ bytes)
        by true e None k deeper h = absurd cc
        by true e (Some kid) k deeper h =
            let passed = kid_passes page seen kid.parent kid.slug
            (found_passes (λ (r : Page). is_parent page r.parent && bytes_eq r.slug seen) pages kid k) in
            let own = All-find (λ (r : Page). row_with r.id pages ≡ Some r)
            (λ (r : Page). is_parent page r.parent && bytes_eq r.slug seen) pages kid
            (found_by_own_id pages are.own_ids) k in
            let down = url_down pages are kid.id kid own urls page passed.0 top found in
            let more = deeper kid.id kid [] id own h in
            let slash : b ≡ SLASH = grind (arith, nat_tests) in (
              more.0,
              more.1,
              more.2 ∙ (ap (λ u. u ++ bytes) (append-nil kid.url ∙ (down
                  ∙ ap (λ s. child_url top.url s) passed.1))
                  ∙ (append_assoc (top.url ++ seen) (SLASH ∷ []) bytes
                  ∙ ap (λ s. (top.url ++ seen) ++ s ∷ bytes) (sym slash))),
            )
        by false e o k deeper h =
            let more = deeper page top (seen ++ b ∷ []) id found h in (
              more.0,
              more.1,
              more.2 ∙ (ap (λ u. u ++ bytes) (sym (append_assoc top.url seen (b ∷ [])))
                  ∙ append_assoc (top.url ++ seen) (b ∷ []) bytes),
            )

    -- the root is there, and its URL is `/`
    root_there : (rows : List Page) → StartsAtRoot rows → (top : Page) × (row_with 1 rows ≡ Some top) ×
        (top.parent ≡ None) × (top.slug ≡ [])
    root_there [] root = absurd root
    root_there (top ∷ rows) root =
        (top, rw root.0.id_is refl, root.0.no_parent, root.0.no_slug)

    -- the page that is reached from the root is the one with the URL
    pub page_at-reached : (rest : List ℕ) →
        page_below pages 1 [] rest ≡ page_at (SLASH ∷ rest) pages
    page_at-reached rest =
        by (find (λ (r : Page). bytes_eq r.url (SLASH ∷ rest)) pages) refl
      where
        by : (o : Option Page) → find (λ (r : Page). bytes_eq r.url (SLASH ∷ rest)) pages ≡ o →
            page_below pages 1 [] rest ≡ option_map (λ (r : Page). r.id) o
        by (Some row) e =
            let url_is = same_bytes row.url (SLASH ∷ rest)
            (found_passes (λ (r : Page). bytes_eq r.url (SLASH ∷ rest)) pages row e) in
            let own = All-find (λ (r : Page). row_with r.id pages ≡ Some r)
            (λ (r : Page). bytes_eq r.url (SLASH ∷ rest)) pages row (found_by_own_id pages are.own_ids) e in
            let down = reached (length row.path) row.id row own refl in
            let both : SLASH ∷ rest ≡ SLASH ∷ down.0 = sym url_is ∙ down.1 in
            let same : rest ≡ down.0 = cc in
            ap (λ s. page_below pages 1 [] s) same ∙ down.2
        by None e = inner (page_below pages 1 [] rest) refl
          where
            inner : (o : Option ℕ) → page_below pages 1 [] rest ≡ o → page_below pages 1 [] rest ≡ None
            inner None k = k
            inner (Some id) k =
                let root = root_there pages are.root in
                let found = url_reached 1 root.0 [] rest id root.1 k in
                let root_url = url_alone pages are 1 root.0 root.1 urls root.2
                ∙ ap (λ s. child_url [] s) root.3 in
                let url_is : found.0.url ≡ SLASH ∷ rest =
                found.2 ∙ ap (λ u. (u ++ []) ++ rest) root_url in
                let fails = All-find (λ (r : Page). bytes_eq r.url (SLASH ∷ rest) ≡ false)
                (λ (r : Page). nat_eq r.id id) pages found.0
                (all_fail_from_find (λ (r : Page). bytes_eq r.url (SLASH ∷ rest)) pages e) found.1 in
                let passes : bytes_eq found.0.url (SLASH ∷ rest)
                ≡ true = rw url_is (bytes_eq-self (SLASH ∷ rest)) in
                absurd cc

    -- no page has a URL that does not begin with `/`
    pub page_at-none : (url : List ℕ) → ((rest : List ℕ) → url ≡ SLASH ∷ rest → ⊥) → page_at url pages ≡ None
    page_at-none url no_slash = by (find (λ (r : Page). bytes_eq r.url url) pages) refl
      where
        by : (o : Option Page) → find (λ (r : Page). bytes_eq r.url url) pages ≡ o →
            option_map (λ (r : Page). r.id) o ≡ None
        by None e = refl
        by (Some row) e =
            let url_is = same_bytes row.url url
            (found_passes (λ (r : Page). bytes_eq r.url url) pages row e) in
            let own = All-find (λ (r : Page). row_with r.id pages ≡ Some r)
            (λ (r : Page). bytes_eq r.url url) pages row (found_by_own_id pages are.own_ids) e in
            let down = reached (length row.path) row.id row own refl in
            absurd (no_slash down.0 (sym url_is ∙ down.1))
