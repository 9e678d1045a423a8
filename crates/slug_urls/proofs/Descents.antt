-- Going down by slugs reaches each page by its URL, and no other.
use Rattle.std.proofs.Common.{◌≡◌, ℕ, suc, ◌+◌, ◌-◌, ◌<◌, ◌≤◌, Bool, true, false, cond, nat_eq, ◌&&◌, ◌==◌, List, [], ◌∷◌, ◌++◌, Option, Some, None, IsSome, find, length, take, drop, get_or, refl, ap, sym, ◌∙◌, subst, arith, rules, append_assoc}
use Prim.Native.Nat.{zero}
use Rattle.std.proofs.lemmas.Bool.Decides.{nat_tests}
use Rattle.std.proofs.lemmas.List.{append-nil, drop_more, take_more, length-drop, get_or-drop, take_all, drop_all}
use Rattle.std.specs.Prelude.{IsTrue, option_and_then}
use Rattle.std.specs.List.{AllByRecursion, list_all}
use Rattle.std.specs.Option.{option_map}
use Rattle.std.specs.Str.{bytes_eq}
use Rattle.page_tree.specs.Walk.{SLASH}
use Rattle.page_tree.specs.Tree.{Forest}
use Rattle.page_tree.specs.Rows.{child_url, row_with, rows_of, is_parent, kid_named}
use Rattle.site_types.specs.declared.body.Body.{Body}
use Rattle.step_path.specs.Path.{IsPath}
use Rattle.site_ids.specs.Slug.{is_slug_byte, IsSlug}
use Rattle.page_store.specs.Pages.{Page, ArePages, StartsAtRoot, EachPair, HasOtherSlug}
use Rattle.page_store.proofs.InsertLemmas.{same_bytes, bytes_eq-self, all_fail_from_find}
use Rattle.page_store.proofs.SeenLemmas.{found_by_own_id, All-find}
use Rattle.page_store.proofs.KeptLemmas.{found_passes}
use Rattle.page_store.proofs.SlugLemmas.{kid_passes, others_differ, same_row}
use Rattle.slug_urls.specs.Urls.{HasUrl, HaveSlugs, page_at}
use Rattle.slug_urls.specs.Descent.{page_reached, page_below}
use Rattle.slug_urls.proofs.TreeUrls.{urls_of_tree, own_id, page_above, url_down, url_alone}
use Rattle.slug_urls.proofs.Reaching.{page_at-reached, page_at-none}
pub use Rattle.slug_urls.proofs.Reaching.{reached}

-- one byte more of a slug
pub byte_more : (pages : List Page) (page start i : ℕ) (slugs : List ℕ) → start ≤ i → i < length slugs →
    nat_eq (get_or slugs i 0) SLASH ≡ false →
    page_below pages page (take (i - start) (drop start slugs)) (drop i slugs)
    ≡ page_below pages page (take (i + 1 - start) (drop start slugs)) (drop (i + 1) slugs)
byte_more pages page start i slugs behind within other =
    let rest = drop_more slugs i 0 within in
    let long = length-drop start slugs in
    let more = take_more (drop start slugs) (i - start) 0 (omega arith) in
    let at : get_or (drop start slugs) (i - start) 0 ≡ get_or slugs i 0 =
    get_or-drop start slugs (i - start) 0 ∙ ap (λ k. get_or slugs k 0) (omega arith) in
    let next : i + 1 - start ≡ i - start + 1 = omega arith in
    ap (page_below pages page (take (i - start) (drop start slugs))) rest
    ∙ (rw other (ap (λ s. page_below pages page s (drop (i + 1) slugs))
    (ap (λ b. take (i - start) (drop start slugs) ++ b ∷ []) (sym at) ∙ (sym more
    ∙ ap (λ k. take k (drop start slugs)) (sym next)))))

-- a `/`, and the slug before it
pub slash_read : (pages : List Page) (page i : ℕ) (slug slugs : List ℕ) → i < length slugs →
    nat_eq (get_or slugs i 0) SLASH ≡ true →
    page_below pages page slug (drop i slugs)
    ≡ option_and_then (λ kid. page_below pages kid [] (drop (i + 1) slugs)) (kid_named page slug pages)
slash_read pages page i slug slugs within slash =
    ap (page_below pages page slug) (drop_more slugs i 0 within) ∙ rw slash refl

-- nothing left to read
pub none_left : (pages : List Page) (page start : ℕ) (slugs : List ℕ) → start ≤ length slugs →
    page_below pages page (take (length slugs - start) (drop start slugs)) (drop (length slugs) slugs)
    ≡ page_reached page (drop start slugs)
none_left pages page start slugs within =
    let long = length-drop start slugs in
    let all = take_all (length slugs - start) (drop start slugs) (omega arith) in
    rw (drop_all (length slugs) slugs (omega arith), all) refl

-- no page has something that is no slug
pub no_slug_no_kid : (pages : List Page) (page : ℕ) (slug : List ℕ) → HaveSlugs pages →
    (IsSlug slug → ⊥) → None ≡ kid_named page slug pages
no_slug_no_kid pages page slug slugs never =
    by (find (λ (r : Page). is_parent page r.parent && bytes_eq r.slug slug) pages) refl
  where
    by : (o : Option Page) → find (λ (r : Page). is_parent page r.parent && bytes_eq r.slug slug) pages ≡ o →
        None ≡ option_map (λ (r : Page). r.id) o
    by None e = refl
    by (Some kid) e =
        let passed = kid_passes page slug kid.parent kid.slug
        (found_passes (λ (r : Page). is_parent page r.parent && bytes_eq r.slug slug) pages kid e) in
        let own = All-find (λ (r : Page). IsSome r.parent → IsSlug r.slug)
        (λ (r : Page). is_parent page r.parent && bytes_eq r.slug slug) pages kid slugs e in
        absurd (never (subst IsSlug passed.1 (own (subst IsSome (sym passed.0) (search rules)))))

-- the page with a URL that begins with `/`, found from the root down
pub page_found : (pages : List Page) (tree : Forest Body) (url rest : List ℕ) (result : Option ℕ) →
    ArePages pages → pages ≡ rows_of tree → HaveSlugs pages →
    result ≡ page_below pages 1 [] rest → url ≡ SLASH ∷ rest → result ≡ page_at url pages
page_found pages tree url rest result are is slugs down url_is =
    down ∙ (page_at-reached pages are (urls_of_tree pages tree are is) slugs rest
    ∙ ap (λ u. page_at u pages) (sym url_is))

-- and no page has another URL
pub page_missed : (pages : List Page) (tree : Forest Body) (url : List ℕ) →
    ArePages pages → pages ≡ rows_of tree → HaveSlugs pages →
    ((rest : List ℕ) → url ≡ SLASH ∷ rest → ⊥) → None ≡ page_at url pages
page_missed pages tree url are is slugs other =
    sym (page_at-none pages are (urls_of_tree pages tree are is) slugs url other)

-- a slug's kid takes the place of the page
pub slash_more : (pages : List Page) (page kid start i : ℕ) (slugs : List ℕ) → i < length slugs →
    nat_eq (get_or slugs i 0) SLASH ≡ true →
    Some kid ≡ kid_named page (take (i - start) (drop start slugs)) pages →
    page_below pages page (take (i - start) (drop start slugs)) (drop i slugs)
    ≡ page_below pages kid (take (i + 1 - (i + 1)) (drop (i + 1) slugs)) (drop (i + 1) slugs)
slash_more pages page kid start i slugs within slash is =
    let none : i + 1 - (i + 1) ≡ 0 = omega arith in
    slash_read pages page i (take (i - start) (drop start slugs)) slugs within slash
    ∙ (ap (option_and_then (λ k. page_below pages k [] (drop (i + 1) slugs))) (sym is)
    ∙ ap (λ n. page_below pages kid (take n (drop (i + 1) slugs)) (drop (i + 1) slugs)) (sym none))

-- nothing is reached where there is no such kid
pub slash_ends : (pages : List Page) (page start i : ℕ) (slugs : List ℕ) → i < length slugs →
    nat_eq (get_or slugs i 0) SLASH ≡ true →
    None ≡ kid_named page (take (i - start) (drop start slugs)) pages →
    page_below pages page (take (i - start) (drop start slugs)) (drop i slugs) ≡ None
slash_ends pages page start i slugs within slash is =
    slash_read pages page i (take (i - start) (drop start slugs)) slugs within slash
    ∙ ap (option_and_then (λ k. page_below pages k [] (drop (i + 1) slugs))) (sym is)

-- at the end the page is reached where no bytes are left over
pub ends_there : (pages : List Page) (page start : ℕ) (slugs : List ℕ) → start ≡ length slugs →
    page_below pages page (take (length slugs - start) (drop start slugs)) (drop (length slugs) slugs)
    ≡ Some page
ends_there pages page start slugs is =
    none_left pages page start slugs (omega arith)
    ∙ ap (page_reached page) (drop_all start slugs (omega arith))

-- and none is where some are
pub ends_before : (pages : List Page) (page start : ℕ) (slugs : List ℕ) → start < length slugs →
    page_below pages page (take (length slugs - start) (drop start slugs)) (drop (length slugs) slugs)
    ≡ None
ends_before pages page start slugs more =
    none_left pages page start slugs (omega arith) ∙ ap (page_reached page) (drop_more slugs start 0 more)

-- what differs fails the test of being equal
differs : (m n : ℕ) → (m ≡ n → ⊥) → nat_eq m n ≡ false
differs m n other = by (nat_eq m n) refl
  where
    by : (t : Bool) → nat_eq m n ≡ t → nat_eq m n ≡ false
    by true e = let same : m ≡ n = grind (arith, nat_tests) in absurd (other same)
    by false e = e

-- and what is equal passes it
equals : (m n : ℕ) → m ≡ n → nat_eq m n ≡ true
equals m n same = grind (arith, nat_tests)

-- The page so far leads to where the root leads: the bytes of the slug that is being read stand
-- between the start and the place, and the rest behind them.
abbrev pub LeadsOn : List Page → List ℕ → ℕ → ℕ → ℕ → Type 0
LeadsOn pages slugs page start i =
    (start ≤ i) × (HaveSlugs pages → page_below pages 1 [] slugs
    ≡ page_below pages page (take (i - start) (drop start slugs)) (drop i slugs))

-- a byte of a slug leaves the page
pub byte_leads_on : (pages : List Page) (slugs : List ℕ) (page start i next from : ℕ) →
    LeadsOn pages slugs page start i → i < length slugs → (get_or slugs i 0 ≡ 47 → ⊥) →
    next ≡ page → from ≡ start → LeadsOn pages slugs next from (i + 1)
byte_leads_on pages slugs page start i next from so_far within other is begins =
    let behind = so_far.0 in (
      omega arith,
      λ have. rw (is, begins) (so_far.1 have
          ∙ byte_more pages page start i slugs behind within (differs (get_or slugs i 0) 47 other)),
    )

-- a `/` leads to the kid
pub slash_leads_on : (pages : List Page) (slugs : List ℕ) (page start i kid next from : ℕ) →
    LeadsOn pages slugs page start i → i < length slugs → get_or slugs i 0 ≡ 47 →
    (HaveSlugs pages → Some kid ≡ kid_named page (take (i - start) (drop start slugs)) pages) →
    next ≡ kid → from ≡ i + 1 → LeadsOn pages slugs next from (i + 1)
slash_leads_on pages slugs page start i kid next from so_far within slash named is begins = (
  omega arith,
  λ have. rw (is, begins) (so_far.1 have
      ∙ slash_more pages page kid start i slugs within (equals (get_or slugs i 0) 47 slash) (named have)),
)

-- where there is no such kid, nothing is reached
pub slash_leads_nowhere : (pages : List Page) (slugs : List ℕ) (page start i : ℕ) →
    LeadsOn pages slugs page start i → i < length slugs → get_or slugs i 0 ≡ 47 → HaveSlugs pages →
    None ≡ kid_named page (take (i - start) (drop start slugs)) pages →
    None ≡ page_below pages 1 [] slugs
slash_leads_nowhere pages slugs page start i so_far within slash have none =
    sym (so_far.1 have ∙ slash_ends pages page start i slugs within (equals (get_or slugs i 0) 47 slash) none)

-- at the end of the bytes the page is reached
pub leads_there : (pages : List Page) (slugs : List ℕ) (page start i : ℕ) →
    LeadsOn pages slugs page start i → i ≡ length slugs → start ≡ length slugs → HaveSlugs pages →
    Some page ≡ page_below pages 1 [] slugs
leads_there pages slugs page start i so_far end is have =
    sym (so_far.1 have ∙ (ap
    (λ k. page_below pages page (take (k - start) (drop start slugs)) (drop k slugs)) end
    ∙ ends_there pages page start slugs is))

-- and none where bytes of a slug are left over
pub leads_nowhere : (pages : List Page) (slugs : List ℕ) (page start i : ℕ) →
    LeadsOn pages slugs page start i → i ≡ length slugs → start < length slugs → HaveSlugs pages →
    None ≡ page_below pages 1 [] slugs
leads_nowhere pages slugs page start i so_far end more have =
    sym (so_far.1 have ∙ (ap
    (λ k. page_below pages page (take (k - start) (drop start slugs)) (drop k slugs)) end
    ∙ ends_before pages page start slugs more))

-- an empty list does not begin with a `/`
pub not_empty : (url rest : List ℕ) (t : Bool) → t ≡ (length url == 0) → t ≡ true →
    url ≡ SLASH ∷ rest → ⊥
not_empty [] rest t e h is = cc
not_empty (x ∷ url) rest t e h is =
    let none : nat_eq (suc (length url)) 0 ≡ true = sym e ∙ h in grind (arith, nat_tests)

-- a list whose first byte is a `/`, taken apart
pub slash_first : (url : List ℕ) → get_or url 0 0 ≡ 47 →
    url ≡ SLASH ∷ take (length url - 1) (drop 1 url)
slash_first [] is = absurd (omega arith)
slash_first (x ∷ url) is =
    let same : length (x ∷ url) - 1 ≡ length url = omega arith in
    rw same (ap (λ b. b ∷ url) is ∙ ap (λ s. SLASH ∷ s) (sym (take_all (length url) url (omega arith))))
