-- The aliases of the pages that go, as they are found page by page: sorted, those that stay are the
-- aliases that a deletion leaves.
use Rattle.std.proofs.Common.{◌≡◌, ◌+◌, ◌≤◌, ℕ, Bool, true, false, cond, not, ◌&&◌, ◌||◌, nat_eq, List, [], ◌∷◌, ◌++◌, length, map, filter, Option, Some, None, Less, refl, sym, ap, subst, ◌∙◌, arith}
use Rattle.std.specs.List.{AllByRecursion, IsDistinct, list_any}
use Rattle.std.specs.List.Sorted.{IsPermutation, IsSorted, IsStrictlySortedBy}
use Rattle.std.specs.Option.{option_map, option_and_then}
use Rattle.std.specs.Ordering.{nat_cmp}
use Rattle.std.proofs.lemmas.Bool.Decides.{nat_tests}
use Rattle.std.proofs.lemmas.List.Folds.{list_any-append}
use Rattle.std.proofs.lemmas.List.Sorted.{IsNonDecreasingBy-from_sort, list_any-IsPermutation}
use Rattle.std.proofs.lemmas.Map.Keys.{IsDistinct-IsPermutation, IsStrictlyIncreasing-from_distinct, sorted_from_strictly_increasing}
use Rattle.page_tree.specs.Tree.{Forest, HasDistinctIds, has_page, node_of, ids_of}
use Rattle.page_tree.specs.Rows.{Row, rows_of, row_with, comes_before}
use Rattle.site_types.specs.declared.body.Body.{Body}
use Rattle.page_store.specs.Pages.{EachPair, HasOtherId}
use Rattle.page_store.proofs.AllLemmas.{All-weaker}
use Rattle.tree_model.proofs.CountLemmas.{one, once, told_apart, id_found, distinct_ids, cut_counts}
use Rattle.link_index.specs.Pairs.{has_pair, pairs_of, seconds_of, PairsRise}
use Rattle.link_index.proofs.OrderLemmas.{eq_turned}
use Rattle.link_index.proofs.PairLemmas.{none_there, none_behind}
use Rattle.link_index.proofs.LawLemmas.{has_second}
use Rattle.site_model.specs.World as worlds
use Rattle.site_model.specs.Bodies.{same_number}
use Rattle.site_model.specs.Delete.{id_key, is_source_gone, loses_source, aliases_left}
use Rattle.site_model.specs.Sound.{KeysRise}
use Rattle.site_model.proofs.AliasesLeft.{times, none_listed}
use Rattle.site_model.proofs.AliasesTold.{is_listed, aliases_told}
use Rattle.link_plans.specs.PageLinks.{source_in, AreAliases}
use Rattle.tree_edits.specs.Leaving.{staying}
use Rattle.tree_edits.proofs.DeletionChange.{listed_is}

-- an id stands in two lists as often as in both together
times-append : (id : ℕ) (xs ys : List ℕ) → times id (xs ++ ys) ≡ times id xs + times id ys
times-append id [] ys = omega arith
times-append id (x ∷ xs) ys = let more = times-append id xs ys in omega (arith, more)

-- it stands among those that pass a test no more often than among all
times-filter : (test : ℕ → Bool) (id : ℕ) (xs : List ℕ) →
    times id (filter test xs) ≤ times id xs
times-filter test id [] = omega arith
times-filter test id (x ∷ xs) = by (test x) (times-filter test id xs)
  where
    by : (t : Bool) → times id (filter test xs) ≤ times id xs →
        times id (cond t (x ∷ filter test xs) (filter test xs)) ≤ one (nat_eq x id) + times id xs
    by true more = omega (arith, more)
    by false more = omega (arith, more)

-- nothing holds with what does not
and_never : (t : Bool) → false ≡ (t && false)
and_never true = refl
and_never false = refl

-- it is listed among those that pass where it passes and is listed
listed-filter : (test : ℕ → Bool) (id : ℕ) (xs : List ℕ) →
    is_listed id (filter test xs) ≡ (test id && is_listed id xs)
listed-filter test id [] = and_never (test id)
listed-filter test id (x ∷ xs) =
    by (nat_eq x id) refl (test x) refl (listed-filter test id xs)
  where
    by : (same : Bool) → nat_eq x id ≡ same → (t : Bool) → test x ≡ t →
        is_listed id (filter test xs) ≡ (test id && is_listed id xs) →
        is_listed id (cond t (x ∷ filter test xs) (filter test xs))
        ≡ (test id && (nat_eq x id || is_listed id xs))
    by true same true passes more =
        let here : test id ≡ true = ap test (sym (id_found x id same)) ∙ passes in
        rw (same, here) refl
    by true same false fails more =
        let out : test id ≡ false = ap test (sym (id_found x id same)) ∙ fails in
        rw out at more ∙ rw out refl
    by false differs true passes more = rw differs more
    by false differs false fails more = rw differs more

-- two tests that agree are passed alike
any_alike : {X : Type 0} (p q : X → Bool) → ((x : X) → p x ≡ q x) → (xs : List X) →
    list_any p xs ≡ list_any q xs
any_alike p q same [] = refl
any_alike p q same (x ∷ xs) = rw (same x, any_alike p q same xs) refl

-- a test that always fails is passed by none
any_never : {X : Type 0} (xs : List X) → list_any (λ x. false) xs ≡ false
any_never [] = refl
any_never (x ∷ xs) = any_never xs

-- ids of which none stands twice differ
apart_once : (ids : List ℕ) → ((id : ℕ) → times id ids ≤ 1) → IsDistinct nat_eq ids
unfolding IsDistinct
apart_once [] few = tt
apart_once (id ∷ ids) few =
    let own : one (nat_eq id id) + times id ids ≤ 1 = few id in
    let none : times id ids ≡ 0 = grind (arith, nat_tests, own) in (
      All-weaker (λ (other : ℕ). other ≡ id → ⊥) (λ (other : ℕ). nat_eq id other ≡ false)
          (λ other differs. told_apart id other (λ same. differs (sym same))) ids
          (none_listed id ids none),
      apart_once ids (λ j. let most = few j in omega (arith, most)),
    )

-- numbers that rise are keys that rise
keys_rise : (ids : List ℕ) → IsStrictlySortedBy nat_cmp ids → KeysRise id_key ids
unfolding IsStrictlySortedBy
keys_rise [] rise = tt
keys_rise (id ∷ ids) rise = (
  All-weaker (λ (other : ℕ). nat_cmp id other ≡ Less)
      (λ (other : ℕ). comes_before (id_key id) (id_key other) ≡ true)
      (λ other less. before id other less) ids rise.0,
  keys_rise ids rise.1,
)
  where
    before : (a b : ℕ) → nat_cmp a b ≡ Less → comes_before (id_key a) (id_key b) ≡ true
    before a b less = grind (arith, nat_tests)

-- an alias stands among those of a page once at most, and only where it is one
times-seconds : (page id : ℕ) (pairs : List (ℕ × ℕ)) → PairsRise pairs →
    times id (seconds_of page pairs) ≤ one (has_pair page id pairs)
times-seconds page id [] rise = omega arith
times-seconds page id (pair ∷ pairs) rise =
    by (nat_eq pair.0 page) refl (nat_eq pair.1 id) refl (times-seconds page id pairs rise.1)
  where
    by : (t : Bool) → nat_eq pair.0 page ≡ t → (u : Bool) → nat_eq pair.1 id ≡ u →
        times id (seconds_of page pairs) ≤ one (has_pair page id pairs) →
        times id
        (map (λ (p : ℕ × ℕ). p.1) (cond t (pair ∷ pairs_of page pairs) (pairs_of page pairs)))
        ≤ one ((t && nat_eq pair.1 id) || has_pair page id pairs)
    by false e u f more = more
    by true e true f more =
        let behind : has_pair pair.0 pair.1 pairs ≡ false =
        none_there pair.0 pair.1 pairs (none_behind pair pairs rise.0) in
        let none : has_pair page id pairs ≡ false =
        subst (λ n. has_pair page n pairs ≡ false) (id_found pair.1 id f)
        (subst (λ n. has_pair n pair.1 pairs ≡ false) (id_found pair.0 page e) behind) in
        let few = rw none at more in
        rw f (omega (arith, few))
    by true e false f more = rw f (omega (arith, more))

-- the aliases of a page are those that are paired with it
listed-seconds : (page id : ℕ) (pairs : List (ℕ × ℕ)) →
    is_listed id (seconds_of page pairs) ≡ has_pair page id pairs
listed-seconds page id pairs =
    any_alike (λ other. nat_eq other id) (nat_eq id) (λ other. eq_turned other id)
    (seconds_of page pairs)
    ∙ has_second page id pairs

module _ (gone : Forest Body) (pairs : List (ℕ × ℕ)) where
  -- the aliases of these pages that stay, page by page
  abbrev pub found : List ℕ → List ℕ
  found [] = []
  found (page ∷ pages) = staying gone (seconds_of page pairs) ++ found pages

  -- how many of these pages have it as an alias
  abbrev paired : ℕ → List ℕ → ℕ
  paired id [] = 0
  paired id (page ∷ pages) = one (has_pair page id pairs) + paired id pages

  -- an alias is found no more often
  times-found : (id : ℕ) (pages : List ℕ) → (1 ≤ length pages → PairsRise pairs) →
      times id (found pages) ≤ paired id pages
  times-found id [] rise = omega arith
  times-found id (page ∷ pages) rise =
      let all : PairsRise pairs = rise (omega arith) in
      let both = times-append id (staying gone (seconds_of page pairs)) (found pages) in
      let few = times-filter (λ one. not (has_page one gone)) id (seconds_of page pairs) in
      let own = times-seconds page id pairs all in
      let more = times-found id pages (λ some. all) in
      omega (arith, both, few, own, more)

  -- it is found where it stays and one of these pages has it
  listed-found : (id : ℕ) (pages : List ℕ) →
      is_listed id (found pages)
      ≡ (not (has_page id gone) && list_any (λ page. has_pair page id pairs) pages)
  listed-found id [] = and_never (not (has_page id gone))
  listed-found id (page ∷ pages) =
      list_any-append (λ one. nat_eq one id) (staying gone (seconds_of page pairs)) (found pages)
      ∙ rw (
        listed-filter (λ one. not (has_page one gone)) id (seconds_of page pairs),
        listed-seconds page id pairs,
        listed-found id pages,
      ) (spread (not (has_page id gone)) (has_pair page id pairs)
      (list_any (λ page. has_pair page id pairs) pages))
    where
      spread : (t a b : Bool) → ((t && a) || (t && b)) ≡ (t && (a || b))
      spread true a b = refl
      spread false a b = refl

  module _ (rows : List (Row Body)) (are : AreAliases pairs rows) where
    -- a page has one source
    one_source : (o : Option ℕ) (a b : ℕ) → same_number o (Some a) ≡ true →
        nat_eq a b ≡ false → same_number o (Some b) ≡ false
    one_source None a b is differs = absurd (cc)
    one_source (Some n) a b is differs =
        subst (λ k. nat_eq k b ≡ false) (sym (id_found n a is)) differs

    -- so that no two pages have it as an alias
    paired_none : (id : ℕ) (pages : List ℕ) →
        AllByRecursion (λ (page : ℕ). has_pair page id pairs ≡ false) pages → paired id pages ≡ 0
    paired_none id [] none = refl
    paired_none id (page ∷ pages) none =
        let more = paired_none id pages none.1 in rw none.0 (omega (arith, more))

    paired_once : (id : ℕ) (pages : List ℕ) → IsDistinct nat_eq pages → paired id pages ≤ 1
    unfolding IsDistinct
    paired_once id [] apart = omega arith
    paired_once id (page ∷ pages) apart =
        by (has_pair page id pairs) refl (paired_once id pages apart.1)
      where
        by : (t : Bool) → has_pair page id pairs ≡ t → paired id pages ≤ 1 →
            one t + paired id pages ≤ 1
        by false e more = omega (arith, more)
        by true e more =
            let none = paired_none id pages
            (All-weaker (λ (other : ℕ). nat_eq page other ≡ false)
            (λ (other : ℕ). has_pair other id pairs ≡ false)
            (λ other differs. are other id
            ∙ one_source (source_in id rows) page other (sym (are page id) ∙ e) differs) pages
            apart.0) in
            omega (arith, none)

    -- one of the pages that go has it where its source goes
    any_source : (id : ℕ) →
        list_any (λ page. has_pair page id pairs) (ids_of gone)
        ≡ is_source_gone gone (source_in id rows)
    any_source id =
        any_alike (λ page. has_pair page id pairs)
        (λ page. same_number (source_in id rows) (Some page)) (λ page. are page id) (ids_of gone)
        ∙ by (source_in id rows)
      where
        by : (o : Option ℕ) → list_any (λ page. same_number o (Some page)) (ids_of gone)
            ≡ is_source_gone gone o
        by None = any_never (ids_of gone)
        by (Some source) =
            any_alike (nat_eq source) (λ page. nat_eq page source) (λ page. eq_turned source page)
            (ids_of gone)
            ∙ listed_is source gone

  -- no other row than the first with an id loses its source as that one
  others_keep : (id : ℕ) (rows : List (Row Body)) →
      AllByRecursion (λ (row : Row Body). row.id ≡ id → ⊥) rows →
      list_any (λ (row : Row Body). nat_eq row.id id && loses_source gone row) rows ≡ false
  others_keep id [] all = refl
  others_keep id (row ∷ rows) all = rw (told_apart row.id id all.0) (others_keep id rows all.1)

  -- a row with the id loses its source where the page stays and its source goes
  losing_is : (id : ℕ) (rows : List (Row Body)) → EachPair HasOtherId rows →
      list_any (λ (row : Row Body). nat_eq row.id id && loses_source gone row) rows
      ≡ (not (has_page id gone) && is_source_gone gone (source_in id rows))
  losing_is id [] apart = and_never (not (has_page id gone))
  losing_is id (row ∷ rows) apart = by (nat_eq row.id id) refl (losing_is id rows apart.1)
    where
      or_none : (t : Bool) → (t || false) ≡ t
      or_none true = refl
      or_none false = refl

      by : (t : Bool) → nat_eq row.id id ≡ t →
          list_any (λ (other : Row Body). nat_eq other.id id && loses_source gone other) rows
          ≡ (not (has_page id gone) && is_source_gone gone (source_in id rows)) →
          ((t && loses_source gone row)
          || list_any (λ (other : Row Body). nat_eq other.id id && loses_source gone other) rows)
          ≡ (not (has_page id gone)
          && is_source_gone gone (option_and_then (λ (body : Body). body.source)
          (option_map (λ (one : Row Body). one.body) (cond t (Some row) (row_with id rows)))))
      by false e more = more
      by true e more =
          let same : row.id ≡ id = id_found row.id id e in
          let rest = others_keep id rows
          (subst (λ n. AllByRecursion (λ (other : Row Body). other.id ≡ n → ⊥) rows) same
          apart.0) in
          rw rest (or_none (loses_source gone row)
          ∙ ap (λ n. not (has_page n gone) && is_source_gone gone row.body.source) same)

-- sorted, what is found are the aliases that are left
pub found_left : (part : worlds.TreePart) (page : ℕ) (pairs : List (ℕ × ℕ)) (pages ids : List ℕ) →
    HasDistinctIds part.tree → EachPair HasOtherId (rows_of part.tree) →
    (1 ≤ length pages → PairsRise pairs) → AreAliases pairs (rows_of part.tree) →
    pages ≡ ids_of (node_of page part.tree) →
    IsPermutation (found (node_of page part.tree) pairs pages) ids → IsSorted nat_cmp ids →
    ids ≡ aliases_left part page
found_left part page pairs pages ids distinct apart rise are pages_are moved sorted =
    aliases_told part page ids distinct
    (keys_rise ids (sorted_from_strictly_increasing ids
    (IsStrictlyIncreasing-from_distinct ids (IsNonDecreasingBy-from_sort (λ x. x) ids sorted)
    (IsDistinct-IsPermutation nat_eq eq_turned all ids moved (apart_once all few)))))
    (λ id. sym (list_any-IsPermutation (λ one. nat_eq one id) all ids moved)
    ∙ (listed-found gone pairs id pages
    ∙ (ap (λ (ones : List ℕ). not (has_page id gone)
    && list_any (λ one. has_pair one id pairs) ones) pages_are
    ∙ (ap (λ t. not (has_page id gone) && t) (any_source gone pairs rows are id)
    ∙ sym (losing_is gone pairs id rows apart)))))
  where
    gone : Forest Body
    gone = node_of page part.tree

    rows : List (Row Body)
    rows = rows_of part.tree

    all : List ℕ
    all = found gone pairs pages

    own : IsDistinct nat_eq pages
    own = subst (IsDistinct nat_eq) (sym pages_are)
        (distinct_ids gone (λ j.
        let sum = cut_counts page j part.tree (once part.tree distinct page) in
        let most = once part.tree distinct j in omega (arith, sum, most)))

    few : (id : ℕ) → times id all ≤ 1
    few id =
        let most = times-found gone pairs id pages rise in
        let single = paired_once gone pairs rows are id pages own in
        omega (arith, most, single)
