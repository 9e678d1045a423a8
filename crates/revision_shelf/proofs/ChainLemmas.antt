-- Chains of which the newest goes, and the ids that are left when chains are gone.
use Rattle.std.proofs.Common.{◌≡◌, ℕ, ◌-◌, ◌<◌, Bool, true, false, cond, not, is_some, nat_eq, List, [], ◌∷◌, Option, Some, None, map, filter, length, refl, ap, sym, ◌∙◌, subst, arith}
use Rattle.std.proofs.lemmas.Bool.Decides.{nat_tests}
use Rattle.std.specs.List.{AllByRecursion, list_any}
use Rattle.std.specs.Option.{option_map}
use Rattle.std.specs.Map.{lookup}
use Rattle.site_types.specs.declared.revision.Revision.{Revision}
use Rattle.revision_shelf.specs.declared.shelf.Kept.{Kept}
use Rattle.revision_shelf.specs.Shelf.{weight_of, revision_with, latest_of, without_page, without_pages, Rises}
use Rattle.revision_shelf.specs.Kept.{without, without_latest, IsKept, IsChained}
use Rattle.revision_shelf.proofs.ListLemmas.{All-weaker, filter-agree, map-filter, find-none}
use Rattle.revision_shelf.proofs.RiseLemmas.{all_above, length-without}
use Rattle.revision_shelf.proofs.LatestLemmas.{latest-there}
use Rattle.revision_shelf.proofs.RemoveLemmas.{none_goes, remove_kept, others_kept, goes_with}

-- the ids of the revisions with other ids
pub ids-without : (gone : ℕ) (revisions : List Revision) →
    map (λ r. r.id) (without gone revisions) ≡ filter (λ other. not (nat_eq other gone)) (map (λ r. r.id)
    revisions)
ids-without gone revisions = map-filter (λ other. not (nat_eq other gone)) (λ (r : Revision). r.id) revisions

-- what is chained in any order of its ids is chained
pub chained_of : (stored : List (ℕ × Kept)) (newest : List (ℕ × ℕ)) (order : List ℕ) (weight : ℕ)
    (revisions : List Revision) → IsKept stored newest order weight revisions →
    IsChained stored newest weight revisions
chained_of stored newest order weight revisions kept =
    subst (λ (ids : List ℕ). IsKept stored newest ids weight revisions) (sym kept.ids) kept

-- and what is chained is kept in the order of its ids
pub kept_of : (stored : List (ℕ × Kept)) (newest : List (ℕ × ℕ)) (order : List ℕ) (weight : ℕ)
    (revisions : List Revision) → IsChained stored newest weight revisions →
    order ≡ map (λ r. r.id) revisions → IsKept stored newest order weight revisions
kept_of stored newest order weight revisions chained is =
    subst (λ (ids : List ℕ). IsKept stored newest ids weight revisions) (sym is) chained

-- without the newest of a page the others are chained
pub take_one : (stored later : List (ℕ × Kept)) (newest left : List (ℕ × ℕ)) (weight : ℕ) (page gone : ℕ)
    (taken : Kept) → lookup (nat_eq page) newest ≡ Some gone → lookup (nat_eq gone) stored ≡ Some taken →
    ((id : ℕ) → lookup (nat_eq id) later ≡ cond (nat_eq gone id) None (lookup (nat_eq id) stored)) →
    ((other : ℕ) → lookup (nat_eq other) left ≡ cond (nat_eq page other) taken.previous (lookup (nat_eq
    other) newest)) → (revisions : List Revision) → IsChained stored newest weight revisions →
    IsChained later left (weight - weight_of taken.revision) (without_latest page revisions)
take_one stored later newest left weight page gone taken latest is stores news revisions kept =
    subst (IsChained later left (weight - weight_of taken.revision)) (sym (goes_with page gone revisions
    (sym (kept.last page) ∙ latest))) (chained_of later left (filter (λ other. not (nat_eq other gone))
    (map (λ r. r.id) revisions)) (weight - weight_of taken.revision) (without gone revisions)
    (remove_kept stored later newest left (map (λ r. r.id) revisions) weight revisions kept page gone taken
    latest is stores news))

-- where a page has no newest revision nothing of it is left
pub none_latest : (page : ℕ) (revisions : List Revision) → latest_of page revisions ≡ None →
    without_latest page revisions ≡ revisions
none_latest page revisions none = rw none refl

-- where nothing of a page is left, its chain is out
pub chain_over : (stored : List (ℕ × Kept)) (newest : List (ℕ × ℕ)) (weight page : ℕ) (rest revisions :
    List Revision) → latest_of page rest ≡ None →
    IsChained stored newest weight (without_latest page rest) →
    without_page page rest ≡ without_page page revisions →
    IsChained stored newest weight (without_page page revisions)
chain_over stored newest weight page rest revisions none chained same =
    subst (IsChained stored newest weight) (none_latest page rest none ∙ sym (none_goes page rest none) ∙
    same) chained

-- where the newest of a page goes there are fewer
pub fewer_then : (page gone : ℕ) (revisions : List Revision) → latest_of page revisions ≡ Some gone →
    length (without_latest page revisions) < length revisions
fewer_then page gone revisions is =
    rw (goes_with page gone revisions is) (by (revision_with gone revisions) refl)
  where
    by : (o : Option Revision) → revision_with gone revisions ≡ o →
        length (without gone revisions) < length revisions
    by None e = absurd (latest-there page gone revisions is e)
    by (Some one) e = length-without gone revisions one e

-- whether a page has a newest revision or not, the others are those of before
pub others_then : (page : ℕ) (revisions : List Revision) → Rises 0 revisions →
    without_page page (without_latest page revisions) ≡ without_page page revisions
others_then page revisions rises = by (latest_of page revisions) refl
  where
    by : (o : Option ℕ) → latest_of page revisions ≡ o →
        without_page page (without_latest page revisions) ≡ without_page page revisions
    by None e = ap (without_page page) (none_latest page revisions e)
    by (Some gone) e =
        ap (without_page page) (goes_with page gone revisions e)
        ∙ others_kept page gone revisions rises e

-- of revisions whose ids rise, those that pass a test are found among those that pass it, and no others
found_kept : (low : ℕ) (test : Revision → Bool) (revisions : List Revision) → Rises low revisions →
    AllByRecursion (λ r. is_some (revision_with r.id (filter test revisions)) ≡ test r) revisions
found_kept low test [] h = tt
found_kept low test (r ∷ rs) h = (
  here (test r) (absent rs (all_above r.id rs h.3)),
  behind rs (all_above r.id rs h.3) (found_kept r.id test rs h.3),
)
  where
    absent : (xs : List Revision) → AllByRecursion (λ x. r.id < x.id) xs →
        AllByRecursion (λ x. nat_eq x.id r.id ≡ false) (filter test xs)
    absent [] above = tt
    absent (x ∷ xs) above = by (test x) (absent xs above.1)
      where
        by : (t : Bool) → AllByRecursion (λ x. nat_eq x.id r.id ≡ false) (filter test xs) →
            AllByRecursion (λ x. nat_eq x.id r.id ≡ false) (cond t (x ∷ filter test xs) (filter test
            xs))
        by true more =
            let less = above.0 in
            let differ : nat_eq x.id r.id ≡ false = grind (arith, nat_tests) in (differ, more)
        by false more = more

    here : (t : Bool) → AllByRecursion (λ x. nat_eq x.id r.id ≡ false) (filter test rs) →
        is_some (revision_with r.id (cond t (r ∷ filter test rs) (filter test rs))) ≡ t
    here true fails = let self : nat_eq r.id r.id ≡ true = grind (arith, nat_tests) in rw self refl
    here false fails = ap is_some (find-none (λ (x : Revision). nat_eq x.id r.id) (filter test rs) fails)

    behind : (xs : List Revision) → AllByRecursion (λ x. r.id < x.id) xs →
        AllByRecursion (λ x. is_some (revision_with x.id (filter test rs)) ≡ test x) xs →
        AllByRecursion (λ x. is_some (revision_with x.id (filter test (r ∷ rs))) ≡ test x) xs
    behind [] above all = tt
    behind (x ∷ xs) above all = (by (test r), behind xs above.1 all.1)
      where
        by : (t : Bool) →
            is_some (revision_with x.id (cond t (r ∷ filter test rs) (filter test rs))) ≡ test x
        by true =
            let less = above.0 in
            let differ : nat_eq r.id x.id ≡ false = grind (arith, nat_tests) in rw differ (all.0)
        by false = all.0

-- The ids of which a revision is there, once some pages' revisions are gone, are those of the others.
pub ids_left : (stored : List (ℕ × Kept)) (newest : List (ℕ × ℕ)) (weight : ℕ) (pages order later :
    List ℕ) (revisions : List Revision) → Rises 0 revisions →
    map (λ r. r.id) revisions ≡ order →
    IsChained stored newest weight (without_pages pages revisions) →
    later ≡ filter (λ id. is_some (lookup (nat_eq id) stored)) order →
    later ≡ map (λ r. r.id) (without_pages pages revisions)
ids_left stored newest weight pages order later revisions rises ids chained is =
    is ∙ ap (filter (λ id. is_some (lookup (nat_eq id) stored))) (sym ids)
    ∙ sym (map-filter (λ id. is_some (lookup (nat_eq id) stored)) (λ (r : Revision). r.id) revisions)
    ∙ ap (map (λ (r : Revision). r.id)) (filter-agree (λ (r : Revision). is_some (lookup (nat_eq r.id)
    stored)) stays revisions (All-weaker (λ (r : Revision). is_some (revision_with r.id (without_pages
    pages revisions)) ≡ stays r) (λ (r : Revision). is_some (lookup (nat_eq r.id) stored) ≡ stays r)
    (λ r h. one (lookup (nat_eq r.id) stored) ∙ ap is_some (sym (chained.found r.id)) ∙ h) revisions
    (found_kept 0 stays revisions rises)))
  where
    stays : Revision → Bool
    stays revision = not (list_any (λ page. nat_eq page revision.page) pages)

    one : (o : Option Kept) → is_some o ≡ is_some (option_map (λ (kept : Kept). kept.revision) o)
    one None = refl
    one (Some kept) = refl
