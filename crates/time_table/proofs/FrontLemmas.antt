-- Tests that the pairs of a table pass at its front: what a partition point is, and what stands
-- before it.
use Rattle.std.proofs.Common.{◌≡◌, ℕ, zero, suc, ◌≤◌, Bool, true, false, cond, List, [], ◌∷◌, filter, take, length, get_or, refl, ap, arith}
use Rattle.std.specs.List.{AllByRecursion}
use Rattle.std.specs.List.Sorted.{IsPartitionPoint, IsPartitionedBy}
use Rattle.time_table.specs.Table.{is_earlier, ComesFirst, IsTable}
use Rattle.time_table.specs.Kept.{leading}
use Rattle.time_table.proofs.EntryLemmas.{all_at}

module _ (test : ℕ × ℕ → Bool)
    (first : (a b : ℕ × ℕ) → is_earlier a b ≡ true → test b ≡ true → test a ≡ true) where
  -- those that pass stand before the others
  pub parted : (entries : List (ℕ × ℕ)) → IsTable entries → IsPartitionedBy test entries
  parted [] table i j d le lt h = absurd (omega arith)
  parted (entry ∷ entries) table zero zero d le lt h = h
  parted (entry ∷ entries) table zero (suc j) d le lt h =
      let later = all_at (ComesFirst entry) entries j d table.0 (omega arith) in
      first entry (get_or entries j d) later.0 h
  parted (entry ∷ entries) table (suc i) zero d le lt h = absurd (omega arith)
  parted (entry ∷ entries) table (suc i) (suc j) d le lt h =
      parted entries table.1 i j d (omega arith) (omega arith) h

  -- behind one that fails none passes
  none_pass : (entry : ℕ × ℕ) (entries : List (ℕ × ℕ)) → test entry ≡ false →
      AllByRecursion (ComesFirst entry) entries → filter test entries ≡ []
  none_pass entry [] fails all = refl
  none_pass entry (next ∷ entries) fails all = by (test next) refl (none_pass entry entries fails all.1)
    where
      by : (t : Bool) → test next ≡ t → filter test entries ≡ [] →
          cond t (next ∷ filter test entries) (filter test entries) ≡ []
      by true e more =
          let passed = first entry next all.0.0 e in
          cc
      by false e more = more

  -- those at the front are all that pass
  pub front_is : (entries : List (ℕ × ℕ)) → IsTable entries →
      take (leading test entries) entries ≡ filter test entries
  front_is [] table = refl
  front_is (entry ∷ entries) table = by (test entry) refl (front_is entries table.1)
    where
      by : (t : Bool) → test entry ≡ t →
          take (leading test entries) entries ≡ filter test entries →
          take (cond t (suc (leading test entries)) 0) (entry ∷ entries)
          ≡ cond t (entry ∷ filter test entries) (filter test entries)
      by true e more = ap (λ (rest : List (ℕ × ℕ)). entry ∷ rest) more
      by false e more = rw (none_pass entry entries e table.0) refl

-- where all before a place pass, and none behind does, it is the number of those at the front
pub point_is : (test : ℕ × ℕ → Bool) (entries : List (ℕ × ℕ)) (i : ℕ) → i ≤ length entries →
    IsPartitionPoint (λ entry. test entry ≡ true) (λ entry. test entry ≡ false) entries i →
    i ≡ leading test entries
point_is test [] zero le point = refl
point_is test [] (suc i) le point = absurd (omega arith)
point_is test (entry ∷ entries) zero le point =
    let behind = point.1 zero entry (omega arith) (omega arith) in
    rw behind refl
point_is test (entry ∷ entries) (suc i) le point =
    let before = point.0 zero entry (omega arith) (omega arith) in
    rw before (ap suc (point_is test entries i (omega arith) (
      λ k d low high. point.0 (suc k) d (omega arith) (omega arith),
      λ k d low high. point.1 (suc k) d (omega arith) (omega arith),
    )))
