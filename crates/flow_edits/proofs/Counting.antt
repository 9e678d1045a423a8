-- How many revisions a purge takes: counted one by one, they are those that it takes.
use Rattle.std.proofs.Common.{◌≡◌, ◌+◌, ◌≤◌, ◌<◌, ℕ, zero, suc, Bool, true, false, cond, List, [], ◌∷◌, length, take, slice_get, refl, sym, subst, arith}
use Rattle.site_ids.specs.declared.ids.TheConstants.{LAST_REVISION_ID}
use Rattle.site_types.specs.declared.revision.Revision.{Revision}
use Rattle.revision_shelf.specs.Shelf.{Rises}
use Rattle.flat_model.specs.declared.change.Purge.{Purge}
use Rattle.flow_edits.specs.Plans.{is_taken, taken, counted}

-- there are no more revisions than ids
rises_fit : (low : ℕ) (revisions : List Revision) → low ≤ LAST_REVISION_ID → Rises low revisions →
    low + length revisions ≤ LAST_REVISION_ID
rises_fit low [] most rise = omega (arith, most)
rises_fit low (revision ∷ revisions) most rise =
    let more = rises_fit revision.id revisions rise.1.1 rise.3 in
    let lower : low < revision.id = rise.0 in
    omega (arith, more, lower)

module _ (purge : Purge) where
  -- a purge takes no more of the first revisions than there are
  taken_most : (revisions : List Revision) (n : ℕ) →
      length (taken purge (take n revisions)) ≤ length revisions
  taken_most [] zero = omega arith
  taken_most [] (suc n) = omega arith
  taken_most (revision ∷ revisions) zero = omega arith
  taken_most (revision ∷ revisions) (suc n) = by (is_taken purge revision) (taken_most revisions n)
    where
      by : (t : Bool) → length (taken purge (take n revisions)) ≤ length revisions →
          length (cond t (revision ∷ taken purge (take n revisions)) (taken purge (take n revisions)))
          ≤ suc (length revisions)
      by true more = omega (arith, more)
      by false more = omega (arith, more)

  -- one revision more is counted
  taken_next : (revisions : List Revision) (place : ℕ) →
      length (taken purge (take (suc place) revisions))
      ≡ length (taken purge (take place revisions)) + counted purge (slice_get revisions place)
  taken_next [] zero = refl
  taken_next [] (suc place) = refl
  taken_next (revision ∷ revisions) zero = by (is_taken purge revision)
    where
      by : (t : Bool) → length (cond t (revision ∷ taken purge (take 0 revisions))
          (taken purge (take 0 revisions))) ≡ 0 + cond t 1 0
      by true = refl
      by false = refl
  taken_next (revision ∷ revisions) (suc place) =
      by (is_taken purge revision) (taken_next revisions place)
    where
      by : (t : Bool) → length (taken purge (take (suc place) revisions))
          ≡ length (taken purge (take place revisions)) + counted purge (slice_get revisions place) →
          length (cond t (revision ∷ taken purge (take (suc place) revisions))
          (taken purge (take (suc place) revisions)))
          ≡ length (cond t (revision ∷ taken purge (take place revisions))
          (taken purge (take place revisions))) + counted purge (slice_get revisions place)
      by true more = omega (arith, more)
      by false more = more

  -- the count after one revision more
  pub count_next : (revisions : List Revision) (place count more : ℕ) →
      count ≡ length (taken purge (take place revisions)) →
      more ≡ counted purge (slice_get revisions place) →
      count + more ≡ length (taken purge (take (place + 1) revisions))
  count_next revisions place count more count_is more_is =
      let next = taken_next revisions place in
      let one : place + 1 ≡ suc place = omega arith in
      subst (λ (n : ℕ). count + more ≡ length (taken purge (take n revisions))) (sym one)
      (omega (arith, next, count_is, more_is))

  -- it fits
  pub count_fits : (revisions : List Revision) (place count more : ℕ) → Rises 0 revisions →
      count ≡ length (taken purge (take place revisions)) →
      more ≡ counted purge (slice_get revisions place) → count + more ≤ LAST_REVISION_ID
  count_fits revisions place count more rise count_is more_is =
      let all = rises_fit 0 revisions (omega arith) rise in
      let most = taken_most revisions (place + 1) in
      let next = count_next revisions place count more count_is more_is in
      omega (arith, all, most, next)
