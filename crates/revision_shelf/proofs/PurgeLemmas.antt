-- A page's revisions from the newest back, of which some are kept and the others go.
use Rattle.std.proofs.Common.{◌≡◌, ℕ, ◌+◌, ◌<◌, ◌≤◌, Bool, true, false, cond, not, ◌&&◌, nat_eq, nat_lt, List, [], ◌∷◌, Option, Some, None, length, refl, ap, sym, ◌∙◌, subst, arith}
use Rattle.std.proofs.lemmas.Bool.Decides.{nat_tests}
use Rattle.std.specs.List.{AllByRecursion, list_any}
use Rattle.std.specs.Option.{option_map, is_some}
use Rattle.site_types.specs.declared.revision.Revision.{Revision}
use Rattle.revision_shelf.specs.Shelf.{revision_with, latest_of, is_kept, purged, Rises}
use Rattle.site_types.specs.Ids.{IsRevisionId}
use Rattle.revision_shelf.specs.Purge.{named, is_among, step_after, step_count, step_left}
use Rattle.revision_shelf.specs.Kept.{below, without, is_before, before_in, IsOwn}
use Rattle.revision_shelf.proofs.ListLemmas.{All-weaker, All-both, All-filter, All-passing, filter-agree, filter-all, filter-filter, filter-swap, length-fewer}
use Rattle.revision_shelf.proofs.RiseLemmas.{Rises-filter, length-one_less}
use Rattle.revision_shelf.proofs.LatestLemmas.{IsUpTo, latest-found, latest-has, latest-newest, latest-none}
use Rattle.revision_shelf.proofs.RemoveLemmas.{find-without}
use Rattle.revision_shelf.proofs.MendLemmas.{found_one}

-- all revisions are before none
pub before_none : (revisions : List Revision) → before_in None revisions ≡ revisions
before_none [] = refl
before_none (r ∷ rs) = ap (λ xs. r ∷ xs) (before_none rs)

-- each that is before is
all_before : (after : Option ℕ) (revisions : List Revision) →
    AllByRecursion (λ (r : Revision). is_before after r.id ≡ true) (before_in after revisions)
all_before after [] = tt
all_before after (r ∷ rs) = by (is_before after r.id) refl (all_before after rs)
  where
    by : (t : Bool) → is_before after r.id ≡ t →
        AllByRecursion (λ (r : Revision). is_before after r.id ≡ true) (before_in after rs) →
        AllByRecursion (λ (r : Revision). is_before after r.id ≡ true)
        (cond t (r ∷ before_in after rs) (before_in after rs))
    by true e more = (e, more)
    by false e more = more

-- all but those before stay
abbrev pub AreKept : ℕ → List ℕ → Option ℕ → List Revision → Type 0
AreKept page keep after revisions =
    AllByRecursion (λ (r : Revision). is_before after r.id ≡ false → is_kept page keep r ≡ true) revisions

-- all are before none
pub none_kept : (page : ℕ) (keep : List ℕ) (revisions : List Revision) →
    AreKept page keep None revisions
none_kept page keep [] = tt
none_kept page keep (r ∷ rs) = (λ h. absurd cc, none_kept page keep rs)

-- one of another page stays
other_stays : (page : ℕ) (keep : List ℕ) (r : Revision) → nat_eq r.page page ≡ false →
    is_kept page keep r ≡ true
other_stays page keep r differs = rw differs refl

module _ (page : ℕ) (keep : List ℕ) (after : Option ℕ) (revisions : List Revision)
    (rises : Rises 0 revisions) where
  -- where the page has none before, nothing more goes
  pub all_stay : AreKept page keep after revisions →
      latest_of page (before_in after revisions) ≡ None → purged page keep revisions ≡ revisions
  all_stay kept none =
      filter-all (is_kept page keep) revisions (All-weaker (λ (r : Revision). (is_before after r.id ≡
      true → nat_eq r.page page ≡ false) × (is_before after r.id ≡ false → is_kept page keep r ≡ true))
      (λ (r : Revision). is_kept page keep r ≡ true) (λ r h. by r h.0 h.1 (is_before after r.id) refl)
      revisions (All-both (λ (r : Revision). is_before after r.id ≡ true → nat_eq r.page page ≡ false)
      (λ (r : Revision). is_before after r.id ≡ false → is_kept page keep r ≡ true) revisions
      (All-passing (λ (r : Revision). nat_eq r.page page ≡ false) (λ (r : Revision). is_before after
      r.id) revisions (latest-none page (before_in after revisions) none)) kept))
    where
      by : (r : Revision) → (is_before after r.id ≡ true → nat_eq r.page page ≡ false) →
          (is_before after r.id ≡ false → is_kept page keep r ≡ true) → (t : Bool) →
          is_before after r.id ≡ t → is_kept page keep r ≡ true
      by r other own true e = other_stays page keep r (other e)
      by r other own false e = own e

  module _ (id : ℕ) (is : latest_of page (before_in after revisions) ≡ Some id) where
    -- the page's last before is before
    id_before : is_before after id ≡ true
    id_before =
        latest-has (λ (n : ℕ). is_before after n ≡ true) page id (before_in after revisions)
        (all_before after revisions) is

    -- it is the greatest of the page's before
    up_to : AllByRecursion (λ (r : Revision). is_before after r.id ≡ true → IsUpTo page id r) revisions
    up_to =
        All-passing (IsUpTo page id) (λ (r : Revision). is_before after r.id) revisions (latest-newest 0
        page id (before_in after revisions) (Rises-filter 0 (λ (r : Revision). is_before after r.id)
        revisions rises) is)

    -- those with its id are the page's
    same_page : AllByRecursion (λ (r : Revision). r.id ≡ id → nat_eq r.page page ≡ true) revisions
    same_page =
        All-weaker (λ (r : Revision). is_before after r.id ≡ true → IsUpTo page id r) (λ (r : Revision).
        r.id ≡ id → nat_eq r.page page ≡ true) (λ r h same. (h (ap (is_before after) same ∙
        id_before)).1 same) revisions up_to

    -- it is there, and the page's
    pub is_own : IsOwn page (Some id) revisions
    is_own = by (revision_with id revisions) refl
      where
        by : (o : Option Revision) → revision_with id revisions ≡ o →
            option_map (λ (r : Revision). r.page) o ≡ Some page
        by None e = absurd (latest-found page id (λ (r : Revision). is_before after r.id) revisions is e)
        by (Some one) e =
            let found = found_one (λ (r : Revision). r.id ≡ id → nat_eq r.page page ≡ true) id revisions
            one same_page e in
            let test : nat_eq one.page page ≡ true = found.holds found.same in
            let same : one.page ≡ page = grind (arith, nat_tests) in
            ap (λ n. Some n) same

    -- where it is kept, all from it on stay
    pub one_more_kept : AreKept page keep after revisions → list_any (λ n. nat_eq n id) keep ≡ true →
        AreKept page keep (Some id) revisions
    one_more_kept kept named =
        All-weaker (λ (r : Revision). (is_before after r.id ≡ true → IsUpTo page id r) × (is_before after
        r.id ≡ false → is_kept page keep r ≡ true)) (λ (r : Revision). nat_lt r.id id ≡ false → is_kept
        page keep r ≡ true) (λ r h from. by r h.0 h.1 from (is_before after r.id) refl (nat_eq r.page
        page) refl) revisions (All-both (λ (r : Revision). is_before after r.id ≡ true → IsUpTo page id
        r) (λ (r : Revision). is_before after r.id ≡ false → is_kept page keep r ≡ true) revisions up_to
        kept)
      where
        by : (r : Revision) → (is_before after r.id ≡ true → IsUpTo page id r) →
            (is_before after r.id ≡ false → is_kept page keep r ≡ true) → nat_lt r.id id ≡ false →
            (t : Bool) → is_before after r.id ≡ t → (u : Bool) → nat_eq r.page page ≡ u →
            is_kept page keep r ≡ true
        by r up own from false e u f = own e
        by r up own from true e false f = other_stays page keep r f
        by r up own from true e true f =
            let le = (up e).0 f in
            let same : r.id ≡ id = grind (arith, nat_tests) in
            rw (f, same) named

    -- and fewer are before it
    pub fewer_before : length (before_in (Some id) revisions) < length (before_in after revisions)
    fewer_before =
        subst (λ (xs : List Revision). length xs < length (before_in after revisions)) same
        (length-fewer (λ (r : Revision). nat_lt r.id id) (before_in after revisions) not_all)
      where
        not_all : AllByRecursion (λ (r : Revision). nat_lt r.id id ≡ true) (before_in after revisions) → ⊥
        not_all all =
            let self : nat_lt id id ≡ true = latest-has (λ (n : ℕ). nat_lt n id ≡ true) page id
            (before_in after revisions) all is in absurd (grind (arith, nat_tests))

        earlier : (after : Option ℕ) (id n : ℕ) → is_before after id ≡ true →
            (is_before after n && nat_lt n id) ≡ nat_lt n id
        earlier None id n before = refl
        earlier (Some a) id n before = by (nat_lt n a) (nat_lt n id) refl refl
          where
            by : (t u : Bool) → nat_lt n a ≡ t → nat_lt n id ≡ u → (t && u) ≡ u
            by true u e f = refl
            by false false e f = refl
            by false true e f = absurd (grind (arith, nat_tests))

        each : (rs : List Revision) → AllByRecursion (λ (r : Revision). (is_before after r.id && nat_lt
            r.id id) ≡ nat_lt r.id id) rs
        each [] = tt
        each (r ∷ rs) = (earlier after id r.id id_before, each rs)

        same : below id (before_in after revisions) ≡ before_in (Some id) revisions
        same =
            filter-filter (λ (r : Revision). nat_lt r.id id) (λ (r : Revision). is_before after r.id)
            revisions
            ∙ filter-agree (λ (r : Revision). is_before after r.id && nat_lt r.id id) (λ (r : Revision).
            nat_lt r.id id) revisions (each revisions)

    -- where it is not kept and goes, those that stay are the same
    pub one_gone : list_any (λ n. nat_eq n id) keep ≡ false →
        purged page keep (without id revisions) ≡ purged page keep revisions
    one_gone unnamed =
        filter-filter (is_kept page keep) (λ (r : Revision). not (nat_eq r.id id)) revisions
        ∙ filter-agree (λ (r : Revision). not (nat_eq r.id id) && is_kept page keep r) (is_kept page
        keep) revisions (All-weaker (λ (r : Revision). r.id ≡ id → nat_eq r.page page ≡ true) (λ (r :
        Revision). (not (nat_eq r.id id) && is_kept page keep r) ≡ is_kept page keep r) (λ r h. by r h
        (nat_eq r.id id) refl) revisions same_page)
      where
        by : (r : Revision) → (r.id ≡ id → nat_eq r.page page ≡ true) → (t : Bool) → nat_eq r.id id ≡ t →
            (not t && is_kept page keep r) ≡ is_kept page keep r
        by r own false e = refl
        by r own true e =
            let same : r.id ≡ id = grind (arith, nat_tests) in
            let mine = own same in rw (mine, same) (sym unnamed)

    -- all but those before still stay
    pub still_kept : AreKept page keep after revisions → AreKept page keep after (without id revisions)
    still_kept kept =
        All-filter (λ (r : Revision). is_before after r.id ≡ false → is_kept page keep r ≡ true) (λ (r :
        Revision). not (nat_eq r.id id)) revisions kept

    -- the one after it is still there
    pub still_own : IsOwn page after revisions → IsOwn page after (without id revisions)
    still_own own = by after id_before own
      where
        by : (after : Option ℕ) → is_before after id ≡ true → IsOwn page after revisions →
            IsOwn page after (without id revisions)
        by None before own = tt
        by (Some a) before own =
            let apart : nat_eq id a ≡ false = grind (arith, nat_tests) in
            rw (find-without id a revisions, apart) own

    -- there is one less
    pub one_less : length (without id revisions) + 1 ≡ length revisions
    one_less = by (revision_with id revisions) refl
      where
        by : (o : Option Revision) → revision_with id revisions ≡ o →
            length (without id revisions) + 1 ≡ length revisions
        by None e = absurd (latest-found page id (λ (r : Revision). is_before after r.id) revisions is e)
        by (Some one) e = length-one_less 0 id revisions one rises e

    -- and one less before
    pub fewer_left : length (before_in after (without id revisions)) < length (before_in after revisions)
    fewer_left =
        rw (filter-swap (λ (r : Revision). is_before after r.id) (λ (r : Revision). not (nat_eq r.id id))
        revisions) (length-fewer (λ (r : Revision). not (nat_eq r.id id)) (before_in after revisions)
        not_all)
      where
        not_all : AllByRecursion (λ (r : Revision). not (nat_eq r.id id) ≡ true) (before_in after
            revisions) → ⊥
        not_all all =
            let differs : not (nat_eq id id) ≡ true = latest-has (λ (n : ℕ). not (nat_eq n id) ≡ true)
            page id (before_in after revisions) all is in
            let self : nat_eq id id ≡ true = grind (arith, nat_tests) in absurd cc

-- each id is in its range
all_ids : (low : ℕ) (revisions : List Revision) → Rises low revisions →
    AllByRecursion (λ (r : Revision). IsRevisionId r.id) revisions
all_ids low [] h = tt
all_ids low (r ∷ rs) h = (h.1, all_ids r.id rs h.3)

-- A purge under way: all of the page's revisions from the last one kept on stay, the same stay as of all,
-- and those that went are counted.
pub record IsPurging (page : ℕ) (keep : List ℕ) (all : List Revision) (after gone : ℕ)
    (revisions : List Revision) : Type 0 where
  pub own : IsOwn page (named after) revisions
  pub within : after ≤ 4_000_000_000
  pub kept : AreKept page keep (named after) revisions
  pub same : purged page keep revisions ≡ purged page keep all
  pub count : length revisions + gone ≡ length all

-- at its start
pub purging_none : (page : ℕ) (keep : List ℕ) (all : List Revision) → IsPurging page keep all 0 0 all
purging_none page keep all =
    record {
      own = tt;
      within = omega arith;
      kept = none_kept page keep all;
      same = refl;
      count = omega arith;
    }

module _ (page : ℕ) (keep : List ℕ) (all : List Revision) (after gone : ℕ) (revisions : List Revision)
    (rises : Rises 0 revisions) (at : IsPurging page keep all after gone revisions) where
  -- at its end
  pub purging_over : is_some (latest_of page (before_in (named after) revisions)) ≡ false →
      (revisions ≡ purged page keep all) × (length all ≡ length revisions + gone)
  purging_over over = by (latest_of page (before_in (named after) revisions)) refl over
    where
      by : (o : Option ℕ) → latest_of page (before_in (named after) revisions) ≡ o → is_some o ≡ false →
          (revisions ≡ purged page keep all) × (length all ≡ length revisions + gone)
      by (Some id) e over = absurd cc
      by None e over = (
        sym (all_stay page keep (named after) revisions rises at.kept e) ∙ at.same,
        sym at.count,
      )

  -- where one is kept, it is named by its number
  named_id : (id : ℕ) → latest_of page (before_in (named after) revisions) ≡ Some id →
      (named id ≡ Some id) × (id ≤ 4_000_000_000)
  named_id id e =
      let own = latest-has IsRevisionId page id (before_in (named after) revisions) (All-filter (λ (r :
      Revision). IsRevisionId r.id) (λ (r : Revision). is_before (named after) r.id) revisions (all_ids 0
      revisions rises)) e in
      let least : 1 ≤ id = own.0 in
      let most : id ≤ 4_000_000_000 = own.1 in
      let test : nat_eq id 0 ≡ false = grind (arith, nat_tests) in
      (rw test refl, most)

  -- a step more
  pub purging_more : is_some (latest_of page (before_in (named after) revisions)) ≡ true →
      IsPurging page keep all
      (step_after keep (latest_of page (before_in (named after) revisions)) after)
      (gone + step_count keep (latest_of page (before_in (named after) revisions)))
      (step_left keep (latest_of page (before_in (named after) revisions)) revisions)
  purging_more more = by (latest_of page (before_in (named after) revisions)) refl more
    where
      by : (o : Option ℕ) → latest_of page (before_in (named after) revisions) ≡ o → is_some o ≡ true →
          IsPurging page keep all (step_after keep o after) (gone + step_count keep o)
          (step_left keep o revisions)
      by None e more = absurd cc
      by (Some id) e more = inner (is_among keep id) refl
        where
          inner : (t : Bool) → is_among keep id ≡ t →
              IsPurging page keep all (cond t id after) (gone + cond t 0 1)
              (cond t revisions (without id revisions))
          inner true f =
              let names = named_id id e in
              record {
                own = rw (names.0) (is_own page keep (named after) revisions rises id e);
                within = names.1;
                kept = rw (names.0) (one_more_kept page keep (named after) revisions rises id e at.kept f);
                same = at.same;
                count = let count = at.count in omega arith;
              }
          inner false f =
              record {
                own = still_own page keep (named after) revisions rises id e at.own;
                within = at.within;
                kept = still_kept page keep (named after) revisions rises id e at.kept;
                same = one_gone page keep (named after) revisions rises id e f ∙ at.same;
                count = let less = one_less page keep (named after) revisions rises id e in
                    let count = at.count in omega arith;
              }

  -- a step leaves fewer to look at
  pub purging_fewer : is_some (latest_of page (before_in (named after) revisions)) ≡ true →
      length (before_in
      (named (step_after keep (latest_of page (before_in (named after) revisions)) after))
      (step_left keep (latest_of page (before_in (named after) revisions)) revisions))
      < length (before_in (named after) revisions)
  purging_fewer more = by (latest_of page (before_in (named after) revisions)) refl more
    where
      by : (o : Option ℕ) → latest_of page (before_in (named after) revisions) ≡ o → is_some o ≡ true →
          length (before_in (named (step_after keep o after)) (step_left keep o revisions))
          < length (before_in (named after) revisions)
      by None e more = absurd cc
      by (Some id) e more = inner (is_among keep id)
        where
          inner : (t : Bool) →
              length (before_in (named (cond t id after)) (cond t revisions (without id revisions)))
              < length (before_in (named after) revisions)
          inner true =
              let names = named_id id e in
              rw (names.0) (fewer_before page keep (named after) revisions rises id e)
          inner false = fewer_left page keep (named after) revisions rises id e
