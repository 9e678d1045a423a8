-- A revision taken out of its page's chain: the one after it leads to the one before it.
use Rattle.std.proofs.Common.{◌≡◌, ℕ, ◌-◌, ◌<◌, ◌≤◌, Bool, true, false, cond, not, nat_eq, nat_lt, ◌&&◌, List, [], ◌∷◌, Option, Some, None, map, filter, refl, ap, sym, ◌∙◌, arith}
use Rattle.std.proofs.lemmas.Bool.Decides.{nat_tests}
use Rattle.std.specs.List.{AllByRecursion}
use Rattle.std.specs.Option.{option_map, IfSome}
use Rattle.std.specs.Map.{lookup}
use Rattle.site_types.specs.declared.revision.Revision.{Revision}
use Rattle.revision_shelf.specs.declared.shelf.Kept.{Kept}
use Rattle.revision_shelf.specs.Shelf.{weight_of, revision_with, latest_of, Rises}
use Rattle.revision_shelf.specs.Kept.{below, without, led_to, IsOwn, IsKept, IsChained}
use Rattle.revision_shelf.proofs.ListLemmas.{All-weaker, All-found, All-passing, filter-filter, filter-swap, map-filter}
use Rattle.revision_shelf.proofs.RiseLemmas.{Rises-filter, Rises-without, total-without}
use Rattle.revision_shelf.proofs.LatestLemmas.{IsUpTo, latest-agree, latest-has, latest-newest, latest-stays}
use Rattle.revision_shelf.proofs.RemoveLemmas.{find-without}
use Rattle.revision_shelf.proofs.ChainLemmas.{chained_of}

-- the revision that is kept is the same where another is before it
led_same : (previous : Option ℕ) (o : Option Kept) →
    option_map (λ (kept : Kept). kept.revision) (option_map (led_to previous) o)
    ≡ option_map (λ (kept : Kept). kept.revision) o
led_same previous None = refl
led_same previous (Some kept) = refl

-- each passes the test that it is below an id
all_below : (id : ℕ) (revisions : List Revision) →
    AllByRecursion (λ (r : Revision). nat_lt r.id id ≡ true) (below id revisions)
all_below id [] = tt
all_below id (r ∷ rs) = by (nat_lt r.id id) refl (all_below id rs)
  where
    by : (t : Bool) → nat_lt r.id id ≡ t →
        AllByRecursion (λ (r : Revision). nat_lt r.id id ≡ true) (below id rs) →
        AllByRecursion (λ (r : Revision). nat_lt r.id id ≡ true) (cond t (r ∷ below id rs) (below id rs))
    by true e more = (e, more)
    by false e more = more

-- what is the latest below an id is below it
pub latest-below : (page last id : ℕ) (revisions : List Revision) →
    latest_of page (below id revisions) ≡ Some last → last < id
latest-below page last id revisions is =
    let test : nat_lt last id ≡ true = latest-has (λ (n : ℕ). nat_lt n id ≡ true) page last
    (below id revisions) (all_below id revisions) is in grind (arith, nat_tests)

-- and of the page's below the id it is the greatest
pub up_to_below : (page last id : ℕ) (revisions : List Revision) → Rises 0 revisions →
    latest_of page (below id revisions) ≡ Some last →
    AllByRecursion (λ (r : Revision). nat_lt r.id id ≡ true → IsUpTo page last r) revisions
up_to_below page last id revisions rises is =
    All-passing (IsUpTo page last) (λ (r : Revision). nat_lt r.id id) revisions (latest-newest 0 page last
    (below id revisions) (Rises-filter 0 (λ (r : Revision). nat_lt r.id id) revisions rises) is)

-- A revision that is found by its id has it, and what holds of all.
pub record IsFound (P : Revision → Type 0) (id : ℕ) (one : Revision) : Type 0 where
  pub same : one.id ≡ id
  pub holds : P one

-- one that is found
pub found_one : (P : Revision → Type 0) (id : ℕ) (revisions : List Revision) (one : Revision) →
    AllByRecursion P revisions → revision_with id revisions ≡ Some one → IsFound P id one
found_one P id revisions one all is =
    let own = All-found P (λ (r : Revision). nat_eq r.id id) revisions one all is in
    let test : nat_eq one.id id ≡ true = own.1 in
    record { same = grind (arith, nat_tests); holds = own.0 }

-- where one of the page is there, it has the page
own_one : (page : ℕ) (o : Option Revision) (P : Type 0) →
    option_map (λ (r : Revision). r.page) o ≡ Some page →
    ((one : Revision) → o ≡ Some one → one.page ≡ page → P) → P
own_one page None P own use_it = absurd cc
own_one page (Some one) P own use_it = use_it one refl cc

module _ (stored mid later : List (ℕ × Kept)) (newest : List (ℕ × ℕ)) (order : List ℕ) (weight : ℕ)
    (revisions : List Revision) (kept : IsKept stored newest order weight revisions)
    (page gone after : ℕ) (taken : Kept)
    (own : option_map (λ (r : Revision). r.page) (revision_with after revisions) ≡ Some page)
    (before : latest_of page (below after revisions) ≡ Some gone)
    (is : lookup (nat_eq gone) stored ≡ Some taken)
    (takes : (id : ℕ) → lookup (nat_eq id) mid ≡ cond (nat_eq gone id) None (lookup (nat_eq id) stored))
    (leads : (id : ℕ) → lookup (nat_eq id) later ≡ cond (nat_eq after id)
    (option_map (led_to taken.previous) (lookup (nat_eq after) mid)) (lookup (nat_eq id) mid)) where
  -- the one that goes is below the one after it
  gone_below : gone < after
  gone_below = latest-below page gone after revisions before

  -- of the page's below that one it is the greatest
  up_to : AllByRecursion (λ (r : Revision). nat_lt r.id after ≡ true → IsUpTo page gone r) revisions
  up_to = up_to_below page gone after revisions kept.rises before

  -- it is there
  there : revision_with gone revisions ≡ Some taken.revision
  there = kept.found gone ∙ ap (option_map (λ (kept : Kept). kept.revision)) is

  -- and it is one of the page's
  own_page : taken.revision.page ≡ page
  own_page =
      let own = found_one (λ (r : Revision). nat_lt r.id after ≡ true → IsUpTo page gone r) gone revisions
      taken.revision up_to there in
      let same = own.same in
      let less = gone_below in
      let test : nat_lt taken.revision.id after ≡ true = grind (arith, nat_tests) in
      let mine : nat_eq taken.revision.page page ≡ true = (own.holds test).1 same in
      grind (arith, nat_tests)

  -- each that stays is found by its id
  mid_found : (id : ℕ) → revision_with id (without gone revisions) ≡ option_map (λ (kept : Kept).
      kept.revision) (lookup (nat_eq id) mid)
  mid_found id = find-without gone id revisions ∙ rw (takes id, kept.found id) (by (nat_eq gone id))
    where
      by : (t : Bool) → cond t None (option_map (λ (kept : Kept). kept.revision) (lookup (nat_eq id)
          stored)) ≡ option_map (λ (kept : Kept). kept.revision) (cond t None (lookup (nat_eq id)
          stored))
      by true = refl
      by false = refl

  -- also once the one after it leads to another
  rest_found : (id : ℕ) → revision_with id (without gone revisions) ≡ option_map (λ (kept : Kept).
      kept.revision) (lookup (nat_eq id) later)
  rest_found id = rw (leads id) (by (nat_eq after id) refl)
    where
      by : (t : Bool) → nat_eq after id ≡ t → revision_with id (without gone revisions)
          ≡ option_map (λ (kept : Kept). kept.revision) (cond t (option_map (led_to taken.previous)
          (lookup (nat_eq after) mid)) (lookup (nat_eq id) mid))
      by true e =
          let same : id ≡ after = grind (arith, nat_tests) in
          mid_found id ∙ ap (λ (n : ℕ). option_map (λ (kept : Kept). kept.revision) (lookup (nat_eq n)
          mid)) same ∙ sym (led_same taken.previous (lookup (nat_eq after) mid))
      by false e = mid_found id

  -- it is the latest of no page
  not_latest : (other : ℕ) → latest_of other revisions ≡ Some gone → ⊥
  not_latest other latest =
      own_one page (revision_with after revisions) ⊥ own (λ one found of_page. contra one found of_page)
    where
      contra : (one : Revision) → revision_with after revisions ≡ Some one → one.page ≡ page → ⊥
      contra one found of_page =
          let all = latest-newest 0 other gone revisions kept.rises latest in
          let mine = found_one (IsUpTo other gone) gone revisions taken.revision all there in
          let its = found_one (IsUpTo other gone) after revisions one all found in
          let same_page : nat_eq taken.revision.page other ≡ true = mine.holds.1 mine.same in
          let page_is = own_page in
          let test : nat_eq one.page other ≡ true = grind (arith, nat_tests) in
          let le = its.holds.0 test in
          let id = its.same in
          let less = gone_below in absurd (omega arith)

  -- so each page's latest stays
  rest_last : (other : ℕ) → lookup (nat_eq other) newest ≡ latest_of other (without gone revisions)
  rest_last other =
      kept.last other ∙ sym (latest-stays 0 other gone revisions kept.rises (not_latest other))

  -- below the one after it, without it, are those below it
  below_after : latest_of page (below after (without gone revisions))
      ≡ latest_of page (below gone revisions)
  below_after =
      ap (latest_of page) (filter-filter (λ (r : Revision). nat_lt r.id after) (λ (r : Revision). not
      (nat_eq r.id gone)) revisions)
      ∙ latest-agree page (λ (r : Revision). not (nat_eq r.id gone) && nat_lt r.id after) (λ (r :
      Revision). nat_lt r.id gone) revisions (All-weaker (λ (r : Revision). nat_lt r.id after ≡ true →
      IsUpTo page gone r) (λ (r : Revision). nat_eq r.page page ≡ true → (not (nat_eq r.id gone) &&
      nat_lt r.id after) ≡ nat_lt r.id gone) (λ r h mine. one r.id gone_below (λ under. (h under).0
      mine)) revisions up_to)
    where
      one : (id : ℕ) → gone < after → (nat_lt id after ≡ true → id ≤ gone) →
          (not (nat_eq id gone) && nat_lt id after) ≡ nat_lt id gone
      one id less le = by (nat_eq id gone) (nat_lt id after) (nat_lt id gone) refl refl refl
        where
          by : (t u v : Bool) → nat_eq id gone ≡ t → nat_lt id after ≡ u → nat_lt id gone ≡ v →
              (not t && u) ≡ v
          by true u true e f g = absurd (grind (arith, nat_tests))
          by true u false e f g = refl
          by false true true e f g = refl
          by false true false e f g = let most = le f in absurd (grind (arith, nat_tests))
          by false false true e f g = absurd (grind (arith, nat_tests))
          by false false false e f g = refl

  -- below any other that stays the latest of its page is not the one that goes
  not_before : (id : ℕ) (old : Kept) → nat_eq after id ≡ false → lookup (nat_eq id) stored ≡ Some old →
      latest_of old.revision.page (below id revisions) ≡ Some gone → ⊥
  not_before id old differs at latest =
      own_one page (revision_with after revisions) ⊥ own (λ one found of_page. by one found of_page
      (nat_lt after id) refl)
    where
      by : (one : Revision) → revision_with after revisions ≡ Some one → one.page ≡ page → (t : Bool) →
          nat_lt after id ≡ t → ⊥
      by one found of_page t e =
          let less = gone_below in
          let under = latest-below old.revision.page gone id revisions latest in
          let all = up_to_below old.revision.page gone id revisions kept.rises latest in
          let mine = found_one (λ (r : Revision). nat_lt r.id id ≡ true → IsUpTo old.revision.page gone
          r) gone revisions taken.revision all there in
          let its = found_one (λ (r : Revision). nat_lt r.id id ≡ true → IsUpTo old.revision.page gone
          r) after revisions one all found in
          let olds = found_one (λ (r : Revision). nat_lt r.id after ≡ true → IsUpTo page gone r) id
          revisions old.revision up_to (kept.found id ∙ ap (option_map (λ (kept : Kept). kept.revision))
          at) in
          let mine_id = mine.same in
          let test : nat_lt taken.revision.id id ≡ true = grind (arith, nat_tests) in
          let same_page : nat_eq taken.revision.page old.revision.page ≡ true = (mine.holds test).1
          mine.same in
          let page_is = own_page in
          ends one t e of_page its.same its.holds olds.same olds.holds same_page page_is less under
        where
          ends : (one : Revision) (t : Bool) → nat_lt after id ≡ t → one.page ≡ page → one.id ≡ after →
              (nat_lt one.id id ≡ true → IsUpTo old.revision.page gone one) → old.revision.id ≡ id →
              (nat_lt old.revision.id after ≡ true → IsUpTo page gone old.revision) →
              nat_eq taken.revision.page old.revision.page ≡ true → taken.revision.page ≡ page →
              gone < after → gone < id → ⊥
          ends one true e of_page its_id its olds_id olds same_page page_is less under =
              let test : nat_lt one.id id ≡ true = grind (arith, nat_tests) in
              let on_page : nat_eq one.page old.revision.page ≡ true = grind (arith, nat_tests) in
              let le = (its test).0 on_page in absurd (omega arith)
          ends one false e of_page its_id its olds_id olds same_page page_is less under =
              let test : nat_lt old.revision.id after ≡ true = grind (arith, nat_tests) in
              let on_page : nat_eq old.revision.page page ≡ true = grind (arith, nat_tests) in
              let le = (olds test).0 on_page in absurd (omega arith)

  -- the one after it leads to the one before it, each other to the same
  rest_chained : (id : ℕ) → IfSome (lookup (nat_eq id) later) (λ kept.
      kept.previous ≡ latest_of kept.revision.page (below id (without gone revisions)))
  rest_chained id = rw (leads id) (by (nat_eq after id) refl)
    where
      led : (o : Option Kept) → lookup (nat_eq after) stored ≡ o → nat_eq after id ≡ true →
          IfSome (option_map (led_to taken.previous) o) (λ kept.
          kept.previous ≡ latest_of kept.revision.page (below id (without gone revisions)))
      led None f e = tt
      led (Some next) f e =
          let same : id ≡ after = grind (arith, nat_tests) in
          let found : revision_with after revisions ≡ Some next.revision =
          kept.found after ∙ ap (option_map (λ (kept : Kept). kept.revision)) f in
          let paged : option_map (λ (r : Revision). r.page) (Some next.revision) ≡ Some page =
          ap (option_map (λ (r : Revision). r.page)) (sym found) ∙ own in
          let of_page : next.revision.page ≡ page = cc in
          let chained = kept.chained gone in
          let mine : taken.previous ≡ latest_of taken.revision.page (below gone revisions) =
          rw is at chained in
          mine ∙ ap (λ p. latest_of p (below gone revisions)) own_page ∙ sym below_after
          ∙ ap (λ p. latest_of p (below after (without gone revisions))) (sym of_page)
          ∙ ap (λ n. latest_of next.revision.page (below n (without gone revisions))) (sym same)

      other : (t : Bool) (o : Option Kept) → lookup (nat_eq id) stored ≡ o → nat_eq after id ≡ false →
          IfSome (cond t None o) (λ kept.
          kept.previous ≡ latest_of kept.revision.page (below id (without gone revisions)))
      other true o f e = tt
      other false None f e = tt
      other false (Some old) f e =
          let chained = kept.chained id in
          let mine : old.previous ≡ latest_of old.revision.page (below id revisions) =
          rw f at chained in
          mine
          ∙ sym (ap (latest_of old.revision.page) (filter-swap (λ (r : Revision). nat_lt r.id id) (λ (r :
          Revision). not (nat_eq r.id gone)) revisions) ∙ latest-stays 0 old.revision.page gone (below
          id revisions) (Rises-filter 0 (λ (r : Revision). nat_lt r.id id) revisions kept.rises)
          (not_before id old e f))

      by : (t : Bool) → nat_eq after id ≡ t → IfSome (cond t (option_map (led_to taken.previous)
          (lookup (nat_eq after) mid)) (lookup (nat_eq id) mid)) (λ kept.
          kept.previous ≡ latest_of kept.revision.page (below id (without gone revisions)))
      by true e =
          let less = gone_below in
          let apart : nat_eq gone after ≡ false = grind (arith, nat_tests) in
          rw (takes after, apart) (led (lookup (nat_eq after) stored) refl e)
      by false e = rw (takes id) (other (nat_eq gone id) (lookup (nat_eq id) stored) refl e)

  -- what is kept stands for those that stay
  pub mend_kept : IsKept later newest (filter (λ other. not (nat_eq other gone)) order) (weight - weight_of
      taken.revision) (without gone revisions)
  mend_kept =
      record {
        ids = map-filter (λ other. not (nat_eq other gone)) (λ (r : Revision). r.id) revisions ∙ ap
            (filter (λ other. not (nat_eq other gone))) kept.ids;
        found = rest_found;
        last = rest_last;
        chained = rest_chained;
        weighs = let less = total-without 0 gone revisions taken.revision kept.rises there in
            let weighs = kept.weighs in omega arith;
        rises = Rises-without 0 gone revisions kept.rises;
      }

-- without a revision of a page the others are chained, where the one after it leads to the one before it
pub mend_one : (stored mid later : List (ℕ × Kept)) (newest : List (ℕ × ℕ)) (weight : ℕ)
    (page gone after : ℕ) (taken : Kept) → lookup (nat_eq gone) stored ≡ Some taken →
    ((id : ℕ) → lookup (nat_eq id) mid ≡ cond (nat_eq gone id) None (lookup (nat_eq id) stored)) →
    ((id : ℕ) → lookup (nat_eq id) later ≡ cond (nat_eq after id) (option_map (led_to taken.previous)
    (lookup (nat_eq after) mid)) (lookup (nat_eq id) mid)) → (revisions : List Revision) →
    IsChained stored newest weight revisions → IsOwn page (Some after) revisions →
    latest_of page (below after revisions) ≡ Some gone →
    IsChained later newest (weight - weight_of taken.revision) (without gone revisions)
mend_one stored mid later newest weight page gone after taken is takes leads revisions kept own before =
    chained_of later newest (filter (λ other. not (nat_eq other gone)) (map (λ r. r.id) revisions))
    (weight - weight_of taken.revision) (without gone revisions) (mend_kept stored mid later newest
    (map (λ r. r.id) revisions) weight revisions kept page gone after taken own before is takes leads)
