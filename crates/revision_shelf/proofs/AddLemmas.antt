-- A revision added behind all others.
use Rattle.std.proofs.Common.{◌≡◌, ℕ, ◌+◌, ◌<◌, ◌≤◌, Bool, true, false, cond, nat_eq, nat_lt, List, [], ◌∷◌, ◌++◌, Option, Some, None, refl, ap, sym, ◌∙◌, arith}
use Rattle.std.proofs.lemmas.Bool.Decides.{nat_tests}
use Rattle.std.specs.List.{AllByRecursion}
use Rattle.std.specs.Option.{option_map, IfSome}
use Rattle.std.specs.Map.{lookup}
use Rattle.site_types.specs.Ids.{IsRevisionId}
use Rattle.site_types.specs.declared.revision.Revision.{Revision}
use Rattle.revision_shelf.specs.declared.shelf.Kept.{Kept}
use Rattle.revision_shelf.specs.Shelf.{weight_of, revision_with, latest_of}
use Rattle.revision_shelf.specs.Kept.{below, IsKept}
use Rattle.revision_shelf.proofs.ListLemmas.{All-weaker, filter-all, filter-fails_last, map-last, All-found, find-none, find-last, find-fails_last}
use Rattle.revision_shelf.proofs.RiseLemmas.{Rises-last, total-last}
use Rattle.revision_shelf.proofs.LatestLemmas.{latest-last}

module _ (stored later : List (ℕ × Kept)) (newest more_newest : List (ℕ × ℕ)) (order : List ℕ)
    (weight : ℕ) (revisions : List Revision) (kept : IsKept stored newest order weight revisions)
    (new : Kept) (above : AllByRecursion (λ r. r.id < new.revision.id) revisions)
    (is_id : IsRevisionId new.revision.id) (fits : weight_of new.revision ≤ 65_536)
    (previous : new.previous ≡ lookup (nat_eq new.revision.page) newest)
    (stores : (id : ℕ) → lookup (nat_eq id) later ≡ cond (nat_eq new.revision.id id) (Some new) (lookup
    (nat_eq id) stored))
    (news : (page : ℕ) → lookup (nat_eq page) more_newest ≡ cond (nat_eq new.revision.page page) (Some
    new.revision.id) (lookup (nat_eq page) newest)) where
  -- all revisions
  abbrev all : List Revision
  all = revisions ++ new.revision ∷ []

  -- none of the others has the new id
  no_other : revision_with new.revision.id revisions ≡ None
  no_other =
      find-none (λ (r : Revision). nat_eq r.id new.revision.id) revisions (All-weaker (λ (r :
      Revision). r.id < new.revision.id) (λ (r : Revision). nat_eq r.id new.revision.id ≡ false)
      (λ r h. grind (arith, nat_tests)) revisions above)

  -- each is found by its id
  all_found : (id : ℕ) → revision_with id all ≡ option_map (λ (kept : Kept). kept.revision) (lookup
      (nat_eq id) later)
  all_found id = rw (stores id) (by (nat_eq new.revision.id id) refl)
    where
      by : (t : Bool) → nat_eq new.revision.id id ≡ t →
          revision_with id all ≡ option_map (λ (kept : Kept). kept.revision) (cond t (Some new)
          (lookup (nat_eq id) stored))
      by true e =
          let same : new.revision.id ≡ id = grind (arith, nat_tests) in
          let none : revision_with id revisions ≡ None = rw (← same) no_other in
          find-last (λ (r : Revision). nat_eq r.id id) revisions new.revision none ∙ rw e refl
      by false e =
          find-fails_last (λ (r : Revision). nat_eq r.id id) revisions new.revision e ∙ kept.found id

  -- all of the others are below the new one
  all_below : below new.revision.id all ≡ revisions
  all_below =
      let self : nat_lt new.revision.id new.revision.id ≡ false = grind (arith, nat_tests) in
      filter-fails_last (λ (r : Revision). nat_lt r.id new.revision.id) revisions new.revision self
      ∙ filter-all (λ (r : Revision). nat_lt r.id new.revision.id) revisions (All-weaker (λ (r :
      Revision). r.id < new.revision.id) (λ (r : Revision). nat_lt r.id new.revision.id ≡ true)
      (λ r h. grind (arith, nat_tests)) revisions above)

  -- each leads to the one before it
  all_chained : (id : ℕ) → IfSome (lookup (nat_eq id) later) (λ kept.
      kept.previous ≡ latest_of kept.revision.page (below id all))
  all_chained id = rw (stores id) (by (nat_eq new.revision.id id) refl (lookup (nat_eq id) stored) refl)
    where
      by : (t : Bool) → nat_eq new.revision.id id ≡ t → (o : Option Kept) →
          lookup (nat_eq id) stored ≡ o →
          IfSome (cond t (Some new) o) (λ kept. kept.previous ≡ latest_of kept.revision.page (below id
          all))
      by true e o f =
          let same : new.revision.id ≡ id = grind (arith, nat_tests) in
          let under : below id all ≡ revisions = rw (← same) all_below in
          rw under (previous ∙ kept.last new.revision.page)
      by false e None f = tt
      by false e (Some old) f =
          let found : revision_with id revisions ≡ Some old.revision =
          kept.found id ∙ ap (option_map (λ (kept : Kept). kept.revision)) f in
          let own = All-found (λ (r : Revision). r.id < new.revision.id) (λ (r : Revision). nat_eq r.id
          id) revisions old.revision above found in
          let less : old.revision.id < new.revision.id = own.0 in
          let test : nat_eq old.revision.id id ≡ true = own.1 in
          let fails : nat_lt new.revision.id id ≡ false = grind (arith, nat_tests) in
          let chained = kept.chained id in
          let mine : old.previous ≡ latest_of old.revision.page (below id revisions) = rw f at chained in
          mine ∙ ap (latest_of old.revision.page) (sym (filter-fails_last (λ (r : Revision). nat_lt r.id
          id) revisions new.revision fails))

  -- what is kept stands for all revisions
  pub add_kept : IsKept later more_newest (order ++ new.revision.id ∷ []) (weight + weight_of
      new.revision) all
  add_kept =
      record {
        ids = map-last (λ (r : Revision). r.id) revisions new.revision ∙ ap (λ ids. ids ++
            new.revision.id ∷ []) kept.ids;
        found = all_found;
        last = λ page. news page ∙ rw (latest-last page revisions new.revision) (ap (cond (nat_eq
            new.revision.page page) (Some new.revision.id)) (kept.last page));
        chained = all_chained;
        weighs = ap (λ n. n + weight_of new.revision) kept.weighs ∙ sym (total-last revisions
            new.revision);
        rises = Rises-last 0 revisions new.revision kept.rises above is_id.0 is_id fits;
      }
