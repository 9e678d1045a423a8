-- The latest revision of a page taken out.
use Rattle.std.proofs.Common.{◌≡◌, ℕ, ◌+◌, ◌-◌, ◌<◌, ◌≤◌, Bool, true, false, cond, not, nat_eq, nat_lt, ◌&&◌, List, [], ◌∷◌, Option, Some, None, filter, length, refl, ap, sym, ◌∙◌, arith}
use Rattle.std.proofs.lemmas.Bool.Decides.{nat_tests}
use Rattle.std.specs.List.{AllByRecursion}
use Rattle.std.specs.Option.{option_map, option_map_or, IfSome}
use Rattle.std.specs.Map.{lookup}
use Rattle.site_types.specs.declared.revision.Revision.{Revision}
use Rattle.revision_shelf.specs.declared.shelf.Kept.{Kept}
use Rattle.revision_shelf.specs.Shelf.{weight_of, total_weight, revision_with, latest_of, without_page, Rises}
use Rattle.revision_shelf.specs.Kept.{below, without, without_latest, IsKept}
use Rattle.revision_shelf.proofs.ListLemmas.{All-weaker, filter-all, filter-filter, map-filter, All-found}
use Rattle.revision_shelf.proofs.RiseLemmas.{Rises-without, total-without, length-without}
use Rattle.revision_shelf.proofs.LatestLemmas.{IsUpTo, latest-newest, latest-none, latest-there, latest-agree, latest-filter}

-- a page without revisions stays as it is when its revisions go
pub none_goes : (page : ℕ) (revisions : List Revision) → latest_of page revisions ≡ None →
    without_page page revisions ≡ revisions
none_goes page revisions none =
    filter-all (λ (r : Revision). not (nat_eq r.page page)) revisions (All-weaker (λ (r : Revision).
    nat_eq r.page page ≡ false) (λ (r : Revision). not (nat_eq r.page page) ≡ true) (λ r h. rw h refl)
    revisions (latest-none page revisions none))

-- one option either way
either : (t : Bool) (o : Option Revision) → o ≡ cond t o o
either true o = refl
either false o = refl

-- the revision that a look-up by id does not find
pub find-without : (gone id : ℕ) (revisions : List Revision) →
    revision_with id (without gone revisions) ≡ cond (nat_eq gone id) None (revision_with id revisions)
find-without gone id [] = either (nat_eq gone id) None
find-without gone id (r ∷ rs) =
    by (nat_eq r.id gone) (nat_eq gone id) (nat_eq r.id id) refl refl refl (find-without gone id rs)
  where
    by : (t u v : Bool) → nat_eq r.id gone ≡ t → nat_eq gone id ≡ u → nat_eq r.id id ≡ v →
        revision_with id (without gone rs) ≡ cond (nat_eq gone id) None (revision_with id rs) →
        revision_with id (cond (not t) (r ∷ without gone rs) (without gone rs)) ≡ cond u None (cond v
        (Some r) (revision_with id rs))
    by true true v e f g more = more ∙ rw f refl
    by true false true e f g more = absurd (grind (arith, nat_tests))
    by true false false e f g more = more ∙ rw f refl
    by false true true e f g more = absurd (grind (arith, nat_tests))
    by false true false e f g more = rw g (more ∙ rw f refl)
    by false false true e f g more = rw g refl
    by false false false e f g more = rw g (more ∙ rw f refl)

-- the other pages' revisions stay
others_stay : (page gone : ℕ) (revisions : List Revision) →
    AllByRecursion (IsUpTo page gone) revisions →
    without_page page (without gone revisions) ≡ without_page page revisions
others_stay page gone [] all = refl
others_stay page gone (r ∷ rs) all =
    by (nat_eq r.id gone) (nat_eq r.page page) refl refl (others_stay page gone rs all.1)
  where
    by : (t u : Bool) → nat_eq r.id gone ≡ t → nat_eq r.page page ≡ u →
        without_page page (without gone rs) ≡ without_page page rs →
        without_page page (cond (not t) (r ∷ without gone rs) (without gone rs)) ≡ cond (not u) (r ∷
        without_page page rs) (without_page page rs)
    by true true e f more = more
    by true false e f more =
        let same : r.id ≡ gone = grind (arith, nat_tests) in
        let own : nat_eq r.page page ≡ true = all.0.1 same in absurd cc
    by false true e f more = rw f more
    by false false e f more = rw f (ap (λ xs. r ∷ xs) more)

module _ (page gone : ℕ) (revisions : List Revision) (newest_one : AllByRecursion (IsUpTo page gone)
    revisions) where
  -- of the page's revisions those with other ids are those below
  rest_below : latest_of page (without gone revisions) ≡ latest_of page (below gone revisions)
  rest_below =
      latest-agree page (λ (r : Revision). not (nat_eq r.id gone)) (λ (r : Revision). nat_lt r.id gone)
      revisions (All-weaker (IsUpTo page gone) (λ (r : Revision). nat_eq r.page page ≡ true → not (nat_eq
      r.id gone) ≡ nat_lt r.id gone) (λ r h own. one r.id (h.0 own)) revisions newest_one)
    where
      one : (id : ℕ) → id ≤ gone → not (nat_eq id gone) ≡ nat_lt id gone
      one id le = by (nat_eq id gone) (nat_lt id gone) refl refl
        where
          by : (t u : Bool) → nat_eq id gone ≡ t → nat_lt id gone ≡ u → not t ≡ u
          by true true e f = absurd (grind (arith, nat_tests))
          by true false e f = refl
          by false true e f = refl
          by false false e f = absurd (grind (arith, nat_tests))

  -- another page's latest stays
  others_latest : (other : ℕ) → nat_eq page other ≡ false →
      latest_of other (without gone revisions) ≡ latest_of other revisions
  others_latest other differ =
      latest-filter other (λ (r : Revision). not (nat_eq r.id gone)) revisions (All-weaker (IsUpTo page
      gone) (λ (r : Revision). nat_eq r.page other ≡ true → not (nat_eq r.id gone) ≡ true)
      (λ r h own. by r h own (nat_eq r.id gone) refl) revisions newest_one)
    where
      by : (r : Revision) → IsUpTo page gone r → nat_eq r.page other ≡ true → (t : Bool) →
          nat_eq r.id gone ≡ t → not t ≡ true
      by r h own false e = refl
      by r h own true e =
          let same : r.id ≡ gone = grind (arith, nat_tests) in
          let mine : nat_eq r.page page ≡ true = h.1 same in absurd (grind (arith, nat_tests))

  -- below one that stays, of one page, nothing goes
  below_stays : (id own : ℕ) → (nat_eq own page ≡ true → id ≤ gone) →
      latest_of own (below id (without gone revisions)) ≡ latest_of own (below id revisions)
  below_stays id own under =
      ap (latest_of own) (filter-filter (λ (r : Revision). nat_lt r.id id) (λ (r : Revision). not (nat_eq
      r.id gone)) revisions)
      ∙ latest-agree own (λ (r : Revision). not (nat_eq r.id gone) && nat_lt r.id id) (λ (r : Revision).
      nat_lt r.id id) revisions (All-weaker (IsUpTo page gone) (λ (r : Revision). nat_eq r.page own ≡
      true → (not (nat_eq r.id gone) && nat_lt r.id id) ≡ nat_lt r.id id) (λ r h mine. by r h mine
      (nat_eq r.id gone) (nat_lt r.id id) refl refl) revisions newest_one)
    where
      by : (r : Revision) → IsUpTo page gone r → nat_eq r.page own ≡ true → (t u : Bool) →
          nat_eq r.id gone ≡ t → nat_lt r.id id ≡ u → (not t && u) ≡ u
      by r h mine false u e f = refl
      by r h mine true false e f = refl
      by r h mine true true e f =
          let same : r.id ≡ gone = grind (arith, nat_tests) in
          let of_page : nat_eq r.page page ≡ true = h.1 same in
          let own_page : nat_eq own page ≡ true = grind (arith, nat_tests) in
          let le = under own_page in absurd (grind (arith, nat_tests))

module _ (stored later : List (ℕ × Kept)) (newest left : List (ℕ × ℕ)) (order : List ℕ) (weight : ℕ)
    (revisions : List Revision) (kept : IsKept stored newest order weight revisions) (page gone : ℕ)
    (taken : Kept) (latest : lookup (nat_eq page) newest ≡ Some gone)
    (is : lookup (nat_eq gone) stored ≡ Some taken)
    (stores : (id : ℕ) → lookup (nat_eq id) later ≡ cond (nat_eq gone id) None (lookup (nat_eq id) stored))
    (news : (other : ℕ) → lookup (nat_eq other) left ≡ cond (nat_eq page other) taken.previous (lookup
    (nat_eq other) newest)) where
  -- the one that goes is the latest of the page
  pub is_latest : latest_of page revisions ≡ Some gone
  is_latest = sym (kept.last page) ∙ latest

  -- it is the greatest of the page's
  greatest : AllByRecursion (IsUpTo page gone) revisions
  greatest = latest-newest 0 page gone revisions kept.rises is_latest

  -- it is there
  pub there : revision_with gone revisions ≡ Some taken.revision
  there = kept.found gone ∙ ap (option_map (λ (kept : Kept). kept.revision)) is

  -- and it is one of the page's
  own_page : nat_eq taken.revision.page page ≡ true
  own_page =
      let own = All-found (IsUpTo page gone) (λ (r : Revision). nat_eq r.id gone) revisions
      taken.revision greatest there in
      let test : nat_eq taken.revision.id gone ≡ true = own.1 in
      let same : taken.revision.id ≡ gone = grind (arith, nat_tests) in own.0.1 same

  -- each that stays is found by its id
  rest_found : (id : ℕ) → revision_with id (without gone revisions) ≡ option_map (λ (kept : Kept).
      kept.revision) (lookup (nat_eq id) later)
  rest_found id = find-without gone id revisions ∙ rw (stores id, kept.found id) (by (nat_eq gone id))
    where
      by : (t : Bool) → cond t None (option_map (λ (kept : Kept). kept.revision) (lookup (nat_eq id)
          stored)) ≡ option_map (λ (kept : Kept). kept.revision) (cond t None (lookup (nat_eq id)
          stored))
      by true = refl
      by false = refl

  -- the one before it is then the latest
  rest_last : (other : ℕ) → lookup (nat_eq other) left ≡ latest_of other (without gone revisions)
  rest_last other = rw (news other) (by (nat_eq page other) refl)
    where
      by : (t : Bool) → nat_eq page other ≡ t →
          cond t taken.previous (lookup (nat_eq other) newest) ≡ latest_of other (without gone revisions)
      by true e =
          let same : page ≡ other = grind (arith, nat_tests) in
          let own = own_page in
          let mine : taken.revision.page ≡ page = grind (arith, nat_tests) in
          let chained = kept.chained gone in
          let before : taken.previous ≡ latest_of taken.revision.page (below gone revisions) =
          rw is at chained in
          before ∙ ap (λ p. latest_of p (below gone revisions)) mine ∙ sym (rest_below page gone
          revisions greatest) ∙ ap (λ p. latest_of p (without gone revisions)) same
      by false e = kept.last other ∙ sym (others_latest page gone revisions greatest other e)

  -- each leads to the one before it
  rest_chained : (id : ℕ) → IfSome (lookup (nat_eq id) later) (λ kept.
      kept.previous ≡ latest_of kept.revision.page (below id (without gone revisions)))
  rest_chained id = rw (stores id) (by (nat_eq gone id) (lookup (nat_eq id) stored) refl)
    where
      by : (t : Bool) (o : Option Kept) → lookup (nat_eq id) stored ≡ o →
          IfSome (cond t None o) (λ kept. kept.previous ≡ latest_of kept.revision.page (below id
          (without gone revisions)))
      by true o f = tt
      by false None f = tt
      by false (Some old) f =
          let found : revision_with id revisions ≡ Some old.revision =
          kept.found id ∙ ap (option_map (λ (kept : Kept). kept.revision)) f in
          let own = All-found (IsUpTo page gone) (λ (r : Revision). nat_eq r.id id) revisions
          old.revision greatest found in
          let test : nat_eq old.revision.id id ≡ true = own.1 in
          let same : old.revision.id ≡ id = grind (arith, nat_tests) in
          let chained = kept.chained id in
          let mine : old.previous ≡ latest_of old.revision.page (below id revisions) = rw f at chained in
          mine ∙ sym (below_stays page gone revisions greatest id old.revision.page (λ of_page. rw (←
          same) (own.0.0 of_page)))

  -- the weight falls by its own
  pub weighs_less : total_weight (without gone revisions) + weight_of taken.revision ≡ weight
  weighs_less = total-without 0 gone revisions taken.revision kept.rises there ∙ sym kept.weighs

  -- what is kept stands for those that stay
  pub remove_kept : IsKept later left (filter (λ other. not (nat_eq other gone)) order) (weight - weight_of
      taken.revision) (without gone revisions)
  remove_kept =
      record {
        ids = map-filter (λ other. not (nat_eq other gone)) (λ (r : Revision). r.id) revisions ∙ ap
            (filter (λ other. not (nat_eq other gone))) kept.ids;
        found = rest_found;
        last = rest_last;
        chained = rest_chained;
        weighs = let less = weighs_less in omega arith;
        rises = Rises-without 0 gone revisions kept.rises;
      }

-- the other pages' revisions stay where the latest goes
pub others_kept : (page gone : ℕ) (revisions : List Revision) → Rises 0 revisions →
    latest_of page revisions ≡ Some gone →
    without_page page (without gone revisions) ≡ without_page page revisions
others_kept page gone revisions rises is =
    others_stay page gone revisions (latest-newest 0 page gone revisions rises is)

-- there are fewer
pub fewer_seen : (seen : List Revision) (gone : ℕ) (revisions : List Revision) (taken : Option Kept)
    {kept : Kept} → seen ≡ without gone revisions →
    revision_with gone revisions ≡ option_map (λ (kept : Kept). kept.revision) taken →
    taken ≡ Some kept → length seen < length revisions
fewer_seen seen gone revisions taken {kept} same found is =
    rw same (length-without gone revisions kept.revision (found ∙ ap (option_map (λ (kept : Kept).
    kept.revision)) is))

-- what goes with the latest
pub goes_with : (page gone : ℕ) (revisions : List Revision) → latest_of page revisions ≡ Some gone →
    without_latest page revisions ≡ without gone revisions
goes_with page gone revisions is = ap (λ o. option_map_or (λ id. without id revisions) o revisions) is

-- one that is kept weighs no more than all
pub total_at_least : (stored : List (ℕ × Kept)) (newest : List (ℕ × ℕ)) (order : List ℕ) (weight : ℕ)
    (revisions : List Revision) → IsKept stored newest order weight revisions → (gone : ℕ) (taken :
    Kept) → lookup (nat_eq gone) stored ≡ Some taken → weight_of taken.revision ≤ weight
total_at_least stored newest order weight revisions kept gone taken is =
    let there = kept.found gone ∙ ap (option_map (λ (kept : Kept). kept.revision)) is in
    let total = total-without 0 gone revisions taken.revision kept.rises there in
    let weighs = kept.weighs in omega arith

-- the latest of a page is kept
pub latest_kept : (stored : List (ℕ × Kept)) (newest : List (ℕ × ℕ)) (order : List ℕ) (weight : ℕ)
    (revisions : List Revision) (page gone : ℕ) → IsKept stored newest order weight revisions →
    lookup (nat_eq page) newest ≡ Some gone → lookup (nat_eq gone) stored ≡ None → ⊥
latest_kept stored newest order weight revisions page gone kept latest none =
    latest-there page gone revisions (sym (kept.last page) ∙ latest) (kept.found gone ∙ ap (option_map
    (λ (kept : Kept). kept.revision)) none)
