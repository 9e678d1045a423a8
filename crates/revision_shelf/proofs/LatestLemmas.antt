-- The latest revision of a page: the greatest of its ids, and how it changes.
use Rattle.std.proofs.Common.{◌≡◌, ℕ, ◌<◌, ◌≤◌, Bool, true, false, cond, not, nat_eq, List, [], ◌∷◌, ◌++◌, Option, Some, None, filter, refl, ap, sym, ◌∙◌, arith}
use Rattle.std.proofs.lemmas.Bool.Decides.{nat_tests}
use Rattle.std.specs.List.{AllByRecursion}
use Rattle.std.specs.Option.{option_or}
use Rattle.site_types.specs.declared.revision.Revision.{Revision}
use Rattle.revision_shelf.specs.Shelf.{revision_with, latest_of, Rises}
use Rattle.revision_shelf.specs.Kept.{without}
use Rattle.revision_shelf.proofs.ListLemmas.{All-filter, filter-all}
use Rattle.revision_shelf.proofs.RiseLemmas.{all_above}

-- an option or none is the option
or_none : (o : Option ℕ) → option_or o None ≡ o
or_none None = refl
or_none (Some x) = refl

-- one more at the end is the latest of its page, and changes no other
pub latest-last : (page : ℕ) (revisions : List Revision) (new : Revision) →
    latest_of page (revisions ++ new ∷ []) ≡ cond (nat_eq new.page page) (Some new.id) (latest_of page
    revisions)
latest-last page [] new = refl
latest-last page (r ∷ rs) new =
    rw (latest-last page rs new) (by (nat_eq new.page page))
  where
    by : (t : Bool) → option_or (cond t (Some new.id) (latest_of page rs)) (cond (nat_eq r.page page)
        (Some r.id) None) ≡ cond t (Some new.id) (latest_of page (r ∷ rs))
    by true = refl
    by false = refl

-- a page without a latest revision has none
pub latest-none : (page : ℕ) (revisions : List Revision) → latest_of page revisions ≡ None →
    AllByRecursion (λ r. nat_eq r.page page ≡ false) revisions
latest-none page [] h = tt
latest-none page (r ∷ rs) h =
    by (latest_of page rs) (nat_eq r.page page) refl refl (latest-none page rs) h
  where
    by : (o : Option ℕ) (t : Bool) → latest_of page rs ≡ o → nat_eq r.page page ≡ t →
        (latest_of page rs ≡ None → AllByRecursion (λ r. nat_eq r.page page ≡ false) rs) →
        option_or o (cond t (Some r.id) None) ≡ None →
        AllByRecursion (λ r. nat_eq r.page page ≡ false) (r ∷ rs)
    by (Some x) t e f more h = absurd cc
    by None true e f more h = absurd cc
    by None false e f more h = (f, more e)

-- the latest is above what the ids rise from
pub latest-above : (low page last : ℕ) (revisions : List Revision) → Rises low revisions →
    latest_of page revisions ≡ Some last → low < last
latest-above low page last [] h is = cc
latest-above low page last (r ∷ rs) h is =
    by (latest_of page rs) (nat_eq r.page page) refl (latest-above r.id page last rs h.3) is
  where
    by : (o : Option ℕ) (t : Bool) → latest_of page rs ≡ o →
        (latest_of page rs ≡ Some last → r.id < last) →
        option_or o (cond t (Some r.id) None) ≡ Some last → low < last
    by (Some x) t e more is = let same : x ≡ last = cc in
        let behind = more (rw (← same) e) in let first : low < r.id = h.0 in omega arith
    by None true e more is = let same : r.id ≡ last = cc in rw (← same) (h.0)
    by None false e more is = absurd cc

-- a revision of the page is none after the latest, and the latest is one of the page
abbrev pub IsUpTo : ℕ → ℕ → Revision → Type 0
IsUpTo page last r = (nat_eq r.page page ≡ true → r.id ≤ last) × (r.id ≡ last → nat_eq r.page page ≡ true)

-- the latest is the greatest of the page's
pub latest-newest : (low page last : ℕ) (revisions : List Revision) → Rises low revisions →
    latest_of page revisions ≡ Some last → AllByRecursion (IsUpTo page last) revisions
latest-newest low page last [] h is = tt
latest-newest low page last (r ∷ rs) h is =
    by (latest_of page rs) (nat_eq r.page page) refl refl (latest-newest r.id page last rs h.3) is
  where
    others : (xs : List Revision) → AllByRecursion (λ x. r.id < x.id) xs →
        AllByRecursion (λ x. nat_eq x.page page ≡ false) xs → r.id ≡ last →
        AllByRecursion (IsUpTo page last) xs
    others [] above fails same = tt
    others (x ∷ xs) above fails same =
        ((λ t. absurd cc, λ own. absurd (omega arith)), others xs above.1 fails.1 same)

    by : (o : Option ℕ) (t : Bool) → latest_of page rs ≡ o → nat_eq r.page page ≡ t →
        (latest_of page rs ≡ Some last → AllByRecursion (IsUpTo page last) rs) →
        option_or o (cond t (Some r.id) None) ≡ Some last →
        AllByRecursion (IsUpTo page last) (r ∷ rs)
    by (Some x) t e f rest is =
        let same : x ≡ last = cc in
        let more : latest_of page rs ≡ Some last = rw (← same) e in
        let above = latest-above r.id page last rs h.3 more in
        ((λ own. omega arith, λ own. absurd (omega arith)), rest more)
    by None true e f rest is =
        let same : r.id ≡ last = cc in
        ((λ own. omega arith, λ own. f), others rs (all_above r.id rs h.3) (latest-none page rs e) same)
    by None false e f rest is = absurd cc

-- the latest is there
pub latest-there : (page last : ℕ) (revisions : List Revision) → latest_of page revisions ≡ Some last →
    revision_with last revisions ≡ None → ⊥
latest-there page last [] is none = cc
latest-there page last (r ∷ rs) is none =
    by (latest_of page rs) (nat_eq r.page page) (nat_eq r.id last) refl refl (latest-there page last
    rs) is none
  where
    by : (o : Option ℕ) (t u : Bool) → latest_of page rs ≡ o → nat_eq r.id last ≡ u →
        (latest_of page rs ≡ Some last → revision_with last rs ≡ None → ⊥) →
        option_or o (cond t (Some r.id) None) ≡ Some last →
        cond u (Some r) (revision_with last rs) ≡ None → ⊥
    by o t true e f more is none = cc
    by (Some x) t false e f more is none = let same : x ≡ last = cc in more (rw (← same) e) none
    by None true false e f more is none = let same : r.id ≡ last = cc in grind (arith, nat_tests)
    by None false false e f more is none = cc

-- tests that agree on a page's revisions keep one latest of them
pub latest-agree : (page : ℕ) (t u : Revision → Bool) (revisions : List Revision) →
    AllByRecursion (λ r. nat_eq r.page page ≡ true → t r ≡ u r) revisions →
    latest_of page (filter t revisions) ≡ latest_of page (filter u revisions)
latest-agree page t u [] all = refl
latest-agree page t u (r ∷ rs) all =
    by (t r) (u r) (nat_eq r.page page) refl refl refl (latest-agree page t u rs all.1)
  where
    by : (b c d : Bool) → t r ≡ b → u r ≡ c → nat_eq r.page page ≡ d →
        latest_of page (filter t rs) ≡ latest_of page (filter u rs) →
        latest_of page (cond b (r ∷ filter t rs) (filter t rs)) ≡ latest_of page (cond c (r ∷ filter
        u rs) (filter u rs))
    by true true d e f g more = rw more refl
    by false false d e f g more = more
    by true false true e f g more = absurd (let same = all.0 g in cc)
    by false true true e f g more = absurd (let same = all.0 g in cc)
    by true false false e f g more = rw g (or_none (latest_of page (filter t rs)) ∙ more)
    by false true false e f g more = rw g (more ∙ sym (or_none (latest_of page (filter u rs))))

-- each passes a test that all pass
all_true : (revisions : List Revision) → AllByRecursion (λ r. true ≡ true) revisions
all_true [] = tt
all_true (r ∷ rs) = (refl, all_true rs)

-- a test that a page's revisions pass keeps the latest of them
pub latest-filter : (page : ℕ) (t : Revision → Bool) (revisions : List Revision) →
    AllByRecursion (λ r. nat_eq r.page page ≡ true → t r ≡ true) revisions →
    latest_of page (filter t revisions) ≡ latest_of page revisions
latest-filter page t revisions all =
    latest-agree page t (λ r. true) revisions all
    ∙ ap (latest_of page) (filter-all (λ (r : Revision). true) revisions (all_true revisions))

-- what holds of each id holds of the latest
pub latest-has : (P : ℕ → Type 0) (page last : ℕ) (revisions : List Revision) →
    AllByRecursion (λ (r : Revision). P r.id) revisions → latest_of page revisions ≡ Some last → P last
latest-has P page last [] all is = cc
latest-has P page last (r ∷ rs) all is =
    by (latest_of page rs) (nat_eq r.page page) refl (latest-has P page last rs all.1) is
  where
    by : (o : Option ℕ) (t : Bool) → latest_of page rs ≡ o → (latest_of page rs ≡ Some last → P last) →
        option_or o (cond t (Some r.id) None) ≡ Some last → P last
    by (Some x) t e more is = let same : x ≡ last = cc in more (rw (← same) e)
    by None true e more is = let same : r.id ≡ last = cc in rw (← same) (all.0)
    by None false e more is = absurd cc

-- the latest stays where another goes
pub latest-stays : (low page gone : ℕ) (revisions : List Revision) → Rises low revisions →
    (latest_of page revisions ≡ Some gone → ⊥) →
    latest_of page (without gone revisions) ≡ latest_of page revisions
latest-stays low page gone [] h other = refl
latest-stays low page gone (r ∷ rs) h other =
    by (nat_eq r.id gone) (latest_of page rs) refl refl other (latest-stays r.id page gone rs h.3)
  where
    by : (t : Bool) (o : Option ℕ) → nat_eq r.id gone ≡ t → latest_of page rs ≡ o →
        (option_or o (cond (nat_eq r.page page) (Some r.id) None) ≡ Some gone → ⊥) →
        ((latest_of page rs ≡ Some gone → ⊥) → latest_of page (without gone rs) ≡ latest_of page rs) →
        latest_of page (cond (not t) (r ∷ without gone rs) (without gone rs))
        ≡ option_or (latest_of page rs) (cond (nat_eq r.page page) (Some r.id) None)
    by true (Some x) e f other more =
        let rest = more (λ (is : latest_of page rs ≡ Some gone). other (sym f ∙ is)) in rest ∙ rw f refl
    by false (Some x) e f other more =
        let rest = more (λ (is : latest_of page rs ≡ Some gone). other (sym f ∙ is)) in rw rest refl
    by false None e f other more =
        let rest = more (λ (is : latest_of page rs ≡ Some gone). absurd cc) in rw rest refl
    by true None e f other more =
        let same : r.id ≡ gone = grind (arith, nat_tests) in
        let rest = more (λ (is : latest_of page rs ≡ Some gone). absurd cc) in
        rest ∙ inner (nat_eq r.page page) refl same
      where
        inner : (v : Bool) → nat_eq r.page page ≡ v → r.id ≡ gone →
            latest_of page rs ≡ option_or (latest_of page rs) (cond v (Some r.id) None)
        inner true g same = absurd (other (rw g (ap (λ n. Some n) same)))
        inner false g same = rw f refl

-- a latest of those that pass a test is there
pub latest-found : (page last : ℕ) (test : Revision → Bool) (revisions : List Revision) →
    latest_of page (filter test revisions) ≡ Some last → revision_with last revisions ≡ None → ⊥
latest-found page last test revisions is none =
    let differs : nat_eq last last ≡ false = latest-has (λ (n : ℕ). nat_eq n last ≡ false) page last
    (filter test revisions) (All-filter (λ (r : Revision). nat_eq r.id last ≡ false) test revisions
    (none_with revisions none)) is in absurd (grind (arith, nat_tests))
  where
    none_with : (revisions : List Revision) → revision_with last revisions ≡ None →
        AllByRecursion (λ (r : Revision). nat_eq r.id last ≡ false) revisions
    none_with [] none = tt
    none_with (r ∷ rs) none = by (nat_eq r.id last) refl none (none_with rs)
      where
        by : (t : Bool) → nat_eq r.id last ≡ t → cond t (Some r) (revision_with last rs) ≡ None →
            (revision_with last rs ≡ None →
            AllByRecursion (λ (r : Revision). nat_eq r.id last ≡ false) rs) →
            AllByRecursion (λ (r : Revision). nat_eq r.id last ≡ false) (r ∷ rs)
        by true e none more = cc
        by false e none more = (e, more none)
