-- The first of some, taken one after another.
use Rattle.std.proofs.Common.{◌≡◌, ◌<◌, ◌≤◌, ◌-◌, ℕ, suc, List, [], ◌∷◌, ◌++◌, length, length-append, append_assoc, take, sym, ap, ◌∙◌, arith}
use Rattle.std.proofs.lemmas.List.{append-nil}
use Rattle.std.proofs.Math.Seq.{take-nil}

-- Those so far, and as many of those that are left as there is room for, are the first of all.
pub record AreFirst {X : Type 0} (few : ℕ) (so_far left all : List X) : Type 0 where
  pub within : length so_far ≤ few
  pub are : so_far ++ take (few - length so_far) left ≡ take few all

-- so many are taken that there is room for no more
pub first_full : {X : Type 0} (few : ℕ) (so_far left all : List X) → AreFirst few so_far left all →
    few ≤ length so_far → so_far ≡ take few all
first_full few so_far left all first full =
    let none : few - length so_far ≡ 0 = omega arith in
    sym (append-nil so_far)
    ∙ (ap (λ n. so_far ++ take n left) (sym none) ∙ first.are)

-- none is left
pub first_all : {X : Type 0} (few : ℕ) (so_far left all : List X) → AreFirst few so_far left all →
    left ≡ [] → so_far ≡ take few all
first_all few so_far left all first none =
    sym (append-nil so_far)
    ∙ (ap (λ list. so_far ++ list) (sym (take-nil (few - length so_far)))
    ∙ (ap (λ list. so_far ++ take (few - length so_far) list) (sym none) ∙ first.are))

-- one more is taken
pub first_more : {X : Type 0} (few : ℕ) (so_far left all : List X) (next : X) →
    length so_far < few → AreFirst few so_far (next ∷ left) all →
    AreFirst few (so_far ++ next ∷ []) left all
first_more few so_far left all next room first =
    record {
      within = let more = length-append so_far (next ∷ []) in omega (arith, more, room);
      are =
          let one : few - length so_far ≡ suc (few - length (so_far ++ next ∷ [])) =
          let more = length-append so_far (next ∷ []) in omega (arith, more, room) in
          append_assoc so_far (next ∷ []) (take (few - length (so_far ++ next ∷ [])) left)
          ∙ (ap (λ n. so_far ++ take n (next ∷ left)) (sym one) ∙ first.are);
    }
