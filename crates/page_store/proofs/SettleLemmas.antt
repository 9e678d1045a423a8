-- Rows that are settled: where no page has another parent they stay, and else one page has another
-- parent, and the child counts of two are others.
use Rattle.std.proofs.Common.{◌≡◌, ℕ, ◌+◌, ◌-◌, Bool, true, false, cond, nat_eq, List, [], ◌∷◌, Option, Some, map, filter, length, refl, ap, sym, ◌∙◌, arith}
use Rattle.std.proofs.lemmas.Bool.Decides.{nat_tests}
use Rattle.std.proofs.lemmas.List.{length-map}
use Rattle.std.specs.List.{AllByRecursion}
use Rattle.std.specs.Option.{option_map}
use Rattle.page_tree.specs.Rows.{is_parent, row_with, kids_in, with_kid}
use Rattle.page_store.specs.PageRows.{parent_id}
use Rattle.page_store.specs.Pages.{Page, EachPair, HasOtherId, HasOtherSlug, ArePages}
use Rattle.page_store.specs.Changes.{changed, without_kid}
use Rattle.page_store.specs.Relabelling.{reparented, recounted}
use Rattle.page_store.specs.Settling.{settled, under, CanSettle}
use Rattle.page_store.proofs.AllLemmas.{All-weaker, All-both}
use Rattle.page_store.proofs.KeptLemmas.{found_passes}
use Rattle.page_store.proofs.ChangeLemmas.{after, All-changed}
use Rattle.page_store.proofs.SlugLemmas.{others_differ, same_row}
use Rattle.page_store.proofs.MapLemmas.{All-unmap, find-map, map-equal, map-same, nat_eq-flip}

-- rows with their parents and their child counts are settled
pub settled_same : (rows : List Page) →
    AllByRecursion (λ row. row.parent ≡ parent_id row.path rows) rows →
    AllByRecursion (λ row. row.numchild ≡ length (kids_in row.id rows)) rows → settled rows ≡ rows
settled_same rows parents counts =
    ap (λ (below : List Page). map (recounted below) below) (map-same (reparented rows) rows
    (All-weaker (λ row. row.parent ≡ parent_id row.path rows) (λ row. reparented rows row ≡ row) (λ
    row is. ap (λ (q : Option ℕ). (let out : Page = record row { parent = q } in out)) (sym is)) rows
    parents))
    ∙ map-same (recounted rows) rows (All-weaker (λ row. row.numchild ≡ length (kids_in row.id rows))
    (λ row. recounted rows row ≡ row) (λ row is. ap (λ (n : ℕ). (let out : Page = record row {
      numchild = n;
    } in out)) (sym is)) rows counts)

-- one kid more or less of a page, where one page goes from one parent to another
pub count-under : (q top p to : ℕ) (rows : List Page) (row : Page) → EachPair HasOtherId rows →
    row_with top rows ≡ Some row → row.parent ≡ Some p →
    length (filter (λ (r : Page). is_parent q r.parent) (changed top (under to) rows)) + cond (nat_eq
    p q) 1 0 ≡ length (filter (λ (r : Page). is_parent q r.parent) rows) + cond (nat_eq to q) 1 0
count-under q top p to [] row own found below = absurd cc
count-under q top p to (one ∷ rows) row own found below =
    by (nat_eq one.id top) refl found (λ h. count-under q top p to rows row own.1 h below)
  where
    by : (t : Bool) → nat_eq one.id top ≡ t → cond t (Some one) (row_with top rows) ≡ Some row →
        (row_with top rows ≡ Some row →
        length (filter (λ (r : Page). is_parent q r.parent) (changed top (under to) rows)) + cond
        (nat_eq p q) 1 0 ≡ length (filter (λ (r : Page). is_parent q r.parent) rows) + cond (nat_eq
        to q) 1 0) →
        length (filter (λ (r : Page). is_parent q r.parent) (cond t (under to one) one ∷ changed top
        (under to) rows)) + cond (nat_eq p q) 1 0 ≡ length (filter (λ (r : Page). is_parent q
        r.parent) (one ∷ rows)) + cond (nat_eq to q) 1 0
    by true e h more =
        let same : one ≡ row = cc in
        let parent : one.parent ≡ Some p = ap (λ (r : Page). r.parent) same ∙ below in
        let rest : changed top (under to) rows ≡ rows = map-same (after top (under to)) rows
        (All-weaker (HasOtherId one) (λ r. after top (under to) r ≡ r) others rows own.0) in
        rw rest (count (nat_eq p q) (nat_eq to q) (is_parent q one.parent) (ap (is_parent q) parent))
      where
        others : (r : Page) → HasOtherId one r → after top (under to) r ≡ r
        others r differ =
            let fails : nat_eq r.id top ≡ false = grind (arith, nat_tests) in rw fails refl

        count : (t u v : Bool) → v ≡ t → length (cond u (under to one ∷ filter (λ (r : Page). is_parent q
            r.parent) rows) (filter (λ (r : Page). is_parent q r.parent) rows)) + cond t 1 0 ≡ length
            (cond v (one ∷ filter (λ (r : Page). is_parent q r.parent) rows) (filter (λ (r : Page).
            is_parent q r.parent) rows)) + cond u 1 0
        count true true true is = refl
        count true false true is = omega arith
        count false true false is = omega arith
        count false false false is = refl
        count true u false is = absurd cc
        count false u true is = absurd cc
    by false e h more = pick (is_parent q one.parent) (more h)
      where
        pick : (t : Bool) →
            length (filter (λ (r : Page). is_parent q r.parent) (changed top (under to) rows)) + cond
            (nat_eq p q) 1 0 ≡ length (filter (λ (r : Page). is_parent q r.parent) rows) + cond
            (nat_eq to q) 1 0 →
            length (cond t (one ∷ filter (λ (r : Page). is_parent q r.parent) (changed top (under to)
            rows)) (filter (λ (r : Page). is_parent q r.parent) (changed top (under to) rows))) + cond
            (nat_eq p q) 1 0 ≡ length (cond t (one ∷ filter (λ (r : Page). is_parent q r.parent) rows)
            (filter (λ (r : Page). is_parent q r.parent) rows)) + cond (nat_eq to q) 1 0
        pick true more = omega arith
        pick false more = more

module _ (rows : List Page) (top p to : ℕ) (row : Page) (can : CanSettle (Some top) rows)
    (own : EachPair HasOtherId rows) (found : row_with top rows ≡ Some row)
    (below : row.parent ≡ Some p) (goes : parent_id row.path rows ≡ Some to)
    (differ : p ≡ to → ⊥) where
  -- the rows with the page below its new parent
  abbrev pub put_under : List Page
  put_under = changed top (under to) rows

  -- and with the child counts of both parents
  abbrev pub counted : List Page
  counted = changed to with_kid (changed p without_kid put_under)

  -- each page below the page above its path
  below_all : map (reparented rows) rows ≡ put_under
  below_all =
      map-equal (reparented rows) (after top (under to)) rows (All-both (λ r. (Some top ≡ Some r.id →
      ⊥) → r.parent ≡ parent_id r.path rows) (λ r. nat_eq r.id top ≡ true → r ≡ row) (λ r. reparented
      rows r ≡ after top (under to) r) (λ r is one. by r is one (nat_eq r.id top) refl) rows can.others
      (same_row top rows row own found))
    where
      by : (r : Page) → ((Some top ≡ Some r.id → ⊥) → r.parent ≡ parent_id r.path rows) →
          (nat_eq r.id top ≡ true → r ≡ row) → (t : Bool) → nat_eq r.id top ≡ t →
          reparented rows r ≡ cond t (under to r) r
      by r is one true e =
          let path : parent_id r.path rows ≡ Some to =
          ap (λ (s : Page). parent_id s.path rows) (one e) ∙ goes in
          ap (λ (q : Option ℕ). (let out : Page = record r { parent = q } in out)) path
      by r is one false e =
          ap (λ (q : Option ℕ). (let out : Page = record r { parent = q } in out)) (sym (is (λ same.
          apart same)))
        where
          apart : Some top ≡ Some r.id → ⊥
          apart same = let ids : top ≡ r.id = cc in absurd (grind (arith, nat_tests))

  -- the count of one page
  count_is : (n kids now : ℕ) (t u : Bool) → n ≡ kids → now + cond t 1 0 ≡ kids + cond u 1 0 →
      (t ≡ true → u ≡ true → ⊥) → now ≡ cond u (cond t (n - 1) n + 1) (cond t (n - 1) n)
  count_is n kids now true true is sum never = absurd (never refl refl)
  count_is n kids now true false is sum never = omega arith
  count_is n kids now false true is sum never = omega arith
  count_is n kids now false false is sum never = omega arith

  -- each page with the number of its kids
  counted_all : map (recounted put_under) put_under ≡ counted
  counted_all =
      map-equal (recounted put_under) (λ r. after to with_kid (after p without_kid r)) put_under
      (All-changed (λ r. recounted put_under r ≡ after to with_kid (after p without_kid r)) top (under
      to) (λ r h. ap (under to) h ∙ moves r (nat_eq r.id p)) rows (All-weaker (λ r. r.numchild ≡
      length (kids_in r.id rows)) (λ r. recounted put_under r
      ≡ after to with_kid (after p without_kid r)) one rows
      can.counts))
      ∙ twice put_under
    where
      twice : (rs : List Page) → map (λ r. after to with_kid (after p without_kid r)) rs ≡ changed to
          with_kid (changed p without_kid rs)
      twice [] = refl
      twice (r ∷ rs) = ap (λ ys. after to with_kid (after p without_kid r) ∷ ys) (twice rs)

      -- what a page is below does not matter
      moves : (r : Page) (t : Bool) → under to (let mid = cond t (without_kid r) r in cond (nat_eq
          mid.id to) (with_kid mid) mid) ≡ (let mid = cond t (without_kid (under to r)) (under to r) in
          cond (nat_eq mid.id to) (with_kid mid) mid)
      moves r true = by (nat_eq r.id to)
        where
          by : (u : Bool) → under to (cond u (with_kid (without_kid r)) (without_kid r)) ≡ cond u
              (with_kid (without_kid (under to r))) (without_kid (under to r))
          by true = refl
          by false = refl
      moves r false = by (nat_eq r.id to)
        where
          by : (u : Bool) → under to (cond u (with_kid r) r) ≡ cond u (with_kid (under to r)) (under to r)
          by true = refl
          by false = refl

      one : (r : Page) → r.numchild ≡ length (kids_in r.id rows) →
          recounted put_under r ≡ after to with_kid (after p without_kid r)
      one r is =
          by (nat_eq r.id p) (nat_eq r.id to) refl refl
        where
          kids : length (kids_in r.id rows) ≡ length (filter (λ (k : Page). is_parent r.id k.parent)
              rows)
          kids = length-map _ (λ (k : Page). k.id)

          now : length (kids_in r.id put_under) ≡ length (filter (λ (k : Page). is_parent r.id
              k.parent) put_under)
          now = length-map _ (λ (k : Page). k.id)

          sum : length (filter (λ (k : Page). is_parent r.id k.parent) put_under) + cond (nat_eq r.id
              p) 1 0 ≡ length (filter (λ (k : Page). is_parent r.id k.parent) rows) + cond (nat_eq
              r.id to) 1 0
          sum = rw (nat_eq-flip r.id p, nat_eq-flip r.id to) (count-under r.id top p to rows row own
              found below)

          -- the page with a child count
          counted_as : ℕ → Page
          counted_as n = record r { numchild = n }

          both : (t u : Bool) → nat_eq r.id p ≡ t → nat_eq r.id to ≡ u → t ≡ true → u ≡ true → ⊥
          both true true e f h k = differ (grind (arith, nat_tests))
          both true false e f h k = absurd cc
          both false u e f h k = absurd cc

          is_now : length (kids_in r.id put_under) ≡ (let t = nat_eq r.id p in let n = r.numchild in
              cond (nat_eq r.id to) (cond t (n - 1) n + 1) (cond t (n - 1) n))
          is_now = now ∙ count_is r.numchild _ _ (nat_eq r.id p) (nat_eq r.id to) (is ∙ kids) sum (both
              (nat_eq r.id p) (nat_eq r.id to) refl refl)

          by : (t u : Bool) → nat_eq r.id p ≡ t → nat_eq r.id to ≡ u →
              recounted put_under r ≡ (let mid = cond t (without_kid r) r in cond (nat_eq mid.id to)
              (with_kid mid) mid)
          by true true e f = absurd (both true true e f refl refl)
          by true false e f = rw f (ap counted_as (rw (e, f) at is_now))
          by false true e f = rw f (ap counted_as (rw (e, f) at is_now))
          by false false e f = rw f (ap counted_as (rw (e, f) at is_now))

  -- the rows are settled then
  pub settled_is : settled rows ≡ counted
  settled_is = ap (λ (rs : List Page). map (recounted rs) rs) below_all ∙ counted_all

  -- no other page is to have the page's slug below its new parent
  others_free : ArePages (settled rows) → AllByRecursion (λ r. nat_eq r.id top ≡ false →
      r.parent ≡ Some to → r.slug ≡ row.slug → ⊥) rows
  others_free are =
      All-both (λ r. (Some top ≡ Some r.id → ⊥) → r.parent ≡ parent_id r.path rows) (λ r. nat_eq r.id
      top ≡ false → parent_id r.path rows ≡ parent_id row.path rows → r.slug ≡ row.slug → ⊥) (λ r.
      nat_eq r.id top ≡ false → r.parent ≡ Some to → r.slug ≡ row.slug → ⊥) (λ r is apart other parent
      text. apart other (sym (is (λ same. not_top r other same)) ∙ parent ∙ sym goes) text) rows
      can.others settled_apart
    where
      not_top : (r : Page) → nat_eq r.id top ≡ false → Some top ≡ Some r.id → ⊥
      not_top r other same = let ids : top ≡ r.id = cc in absurd (grind (arith, nat_tests))

      own_id : row.id ≡ top
      own_id =
          let test : nat_eq row.id top ≡ true = found_passes (λ (r : Page). nat_eq r.id top) rows row
          found in grind (arith, nat_tests)

      found_settled : row_with top (settled rows) ≡ Some (recounted (map (reparented rows) rows)
          (reparented rows row))
      found_settled =
          find-map (λ (r : Page). nat_eq r.id top) (recounted (map (reparented rows) rows)) (map
          (reparented rows) rows)
          ∙ ap (option_map (recounted (map (reparented rows) rows))) (find-map (λ (r : Page). nat_eq
          r.id top) (reparented rows) rows ∙ ap (option_map (reparented rows)) found)

      settled_apart : AllByRecursion (λ r. nat_eq r.id top ≡ false → parent_id r.path rows ≡ parent_id
          row.path rows → r.slug ≡ row.slug → ⊥) rows
      settled_apart =
          All-weaker (λ r. nat_eq r.id row.id ≡ false → parent_id r.path rows ≡ parent_id row.path rows
          → r.slug ≡ row.slug → ⊥) (λ r. nat_eq r.id top ≡ false → parent_id r.path rows ≡ parent_id
          row.path rows → r.slug ≡ row.slug → ⊥) (λ r h other. h (ap (nat_eq r.id) own_id ∙ other))
          rows (All-unmap (λ r. nat_eq r.id row.id ≡ false → r.parent ≡ parent_id row.path rows →
          r.slug ≡ row.slug → ⊥) (reparented rows) rows (All-unmap (λ r. nat_eq r.id row.id ≡ false →
          r.parent ≡ parent_id row.path rows → r.slug ≡ row.slug → ⊥) (recounted (map (reparented rows)
          rows)) (map (reparented rows) rows) (others_differ (λ (r : Page). nat_eq r.id top) (settled
          rows) (recounted (map (reparented rows) rows) (reparented rows row)) are.own_slugs
          found_settled)))

  -- nor has any it below its old parent
  others_apart : AllByRecursion (λ r. nat_eq r.id top ≡ false → r.parent ≡ Some p →
      r.slug ≡ row.slug → ⊥) rows
  others_apart =
      All-weaker (λ r. nat_eq r.id top ≡ false → HasOtherSlug row r) (λ r. nat_eq r.id top ≡ false →
      r.parent ≡ Some p → r.slug ≡ row.slug → ⊥) (λ r h other parent text. h other (parent ∙ sym below)
      text) rows (can.apart top row found)
