-- Lists with elements moved to another place.
use Rattle.std.proofs.Common.{◌≡◌, ℕ, ◌+◌, ◌-◌, ◌≤◌, List, ◌++◌, length, take, drop, ap, sym, ◌∙◌, arith}
use Rattle.std.proofs.lemmas.List.{take-append-drop, length-append, append_assoc, drop-drop, length-take-le, length-drop}
use Rattle.std.proofs.Math.Seq.{take-append_seam, drop-append_seam}
use borrow.Rule.Slice.PartMut.{put_mid}
use Rattle.page_store.specs.Settling.{items_moved}

module _ {X : Type 0} where
  -- the first elements, where it is said how many
  pub take_front : (n : ℕ) (front back : List X) → length front ≡ n → take n (front ++ back) ≡ front
  take_front n front back is = ap (λ k. take k (front ++ back)) (sym is) ∙ take-append_seam front back

  -- the others
  pub drop_front : (n : ℕ) (front back : List X) → length front ≡ n → drop n (front ++ back) ≡ back
  drop_front n front back is = ap (λ k. drop k (front ++ back)) (sym is) ∙ drop-append_seam front back

  -- the others behind two blocks
  drop_two : (n : ℕ) (front one back : List X) → length front + length one ≡ n →
      drop n (front ++ (one ++ back)) ≡ back
  drop_two n front one back is =
      ap (drop n) (sym (append_assoc front one back)) ∙ drop_front n (front ++ one) back
      (length-append front one ∙ is)

  -- a rotation of a part that is two blocks swaps them
  pub swapped : (front one other back xs ys : List X) (start middle end : ℕ) →
      xs ≡ front ++ (one ++ (other ++ back)) → length front ≡ start →
      length one ≡ middle - start → length other ≡ end - middle → start ≤ middle → middle ≤ end →
      ys ≡ drop (middle - start) (take (end - start) (drop start xs)) ++ take (middle - start) (take
      (end - start) (drop start xs)) →
      put_mid start (end - start) xs ys ≡ front ++ (other ++ (one ++ back))
  swapped front one other back xs ys start middle end is a b d low high rotated =
      let part : take (end - start) (drop start xs) ≡ one ++ other =
      ap (λ zs. take (end - start) (drop start zs)) is
      ∙ ap (take (end - start)) (drop_front start front (one ++ (other ++ back)) a)
      ∙ ap (take (end - start)) (sym (append_assoc one other back))
      ∙ take_front (end - start) (one ++ other) back (length-append one other ∙ omega arith) in
      let turned : ys ≡ other ++ one =
      rotated ∙ ap (λ zs. drop (middle - start) zs ++ take (middle - start) zs) part
      ∙ ap (λ zs. zs ++ take (middle - start) (one ++ other)) (drop_front (middle - start) one other b)
      ∙ ap (λ zs. other ++ zs) (take_front (middle - start) one other b) in
      let behind : drop (end - start) (drop start xs) ≡ back =
      ap (λ zs. drop (end - start) (drop start zs)) is
      ∙ ap (drop (end - start)) (drop_front start front (one ++ (other ++ back)) a)
      ∙ drop_two (end - start) one other back (omega arith) in
      ap (λ zs. take start zs ++ (ys ++ drop (end - start) (drop start xs))) is
      ∙ ap (λ zs. zs ++ (ys ++ drop (end - start) (drop start xs))) (take_front start front (one ++
      (other ++ back)) a)
      ∙ ap (λ zs. front ++ (zs ++ drop (end - start) (drop start xs))) turned
      ∙ ap (λ zs. front ++ ((other ++ one) ++ zs)) behind
      ∙ ap (λ zs. front ++ zs) (append_assoc other one back)

  -- what is moved towards the front, block by block
  pub moved_down : (front one other back : List X) (from n to : ℕ) → length front ≡ to →
      length one + to ≡ from → length other ≡ n →
      items_moved from n to (front ++ (one ++ (other ++ back))) ≡ front ++ (other ++ (one ++ back))
  moved_down front one other back from n to a b d =
      let whole : front ++ (one ++ (other ++ back)) ≡ (front ++ one) ++ (other ++ back) =
      sym (append_assoc front one (other ++ back)) in
      let long : length (front ++ one) ≡ from = length-append front one ∙ omega arith in
      let first : take from (front ++ (one ++ (other ++ back))) ≡ front ++ one =
      ap (take from) whole ∙ take_front from (front ++ one) (other ++ back) long in
      let behind : drop from (front ++ (one ++ (other ++ back))) ≡ other ++ back =
      ap (drop from) whole ∙ drop_front from (front ++ one) (other ++ back) long in
      let last : drop (from + n) (front ++ (one ++ (other ++ back))) ≡ back =
      ap (drop (from + n)) whole ∙ drop_two (from + n) (front ++ one) other back (omega arith) in
      let rest : take from (front ++ (one ++ (other ++ back))) ++ drop (from + n) (front ++ (one ++
      (other ++ back))) ≡ front ++ (one ++ back) =
      ap (λ zs. zs ++ drop (from + n) (front ++ (one ++ (other ++ back)))) first
      ∙ ap (λ zs. (front ++ one) ++ zs) last ∙ append_assoc front one back in
      let middle : take n (drop from (front ++ (one ++ (other ++ back)))) ≡ other =
      ap (take n) behind ∙ take_front n other back d in
      ap (λ zs. take to zs ++ (take n (drop from (front ++ (one ++ (other ++ back)))) ++ drop to zs)) rest
      ∙ ap (λ zs. take to (front ++ (one ++ back)) ++ (zs ++ drop to (front ++ (one ++ back)))) middle
      ∙ ap (λ zs. zs ++ (other ++ drop to (front ++ (one ++ back)))) (take_front to front (one ++ back) a)
      ∙ ap (λ zs. front ++ (other ++ zs)) (drop_front to front (one ++ back) a)

  -- and towards the end
  pub moved_up : (front one other back : List X) (from n to : ℕ) → length front ≡ from →
      length one ≡ n → length other + from ≡ to →
      items_moved from n to (front ++ (one ++ (other ++ back))) ≡ front ++ (other ++ (one ++ back))
  moved_up front one other back from n to a b d =
      let first : take from (front ++ (one ++ (other ++ back))) ≡ front =
      take_front from front (one ++ (other ++ back)) a in
      let behind : drop from (front ++ (one ++ (other ++ back))) ≡ one ++ (other ++ back) =
      drop_front from front (one ++ (other ++ back)) a in
      let last : drop (from + n) (front ++ (one ++ (other ++ back))) ≡ other ++ back =
      drop_two (from + n) front one (other ++ back) (omega arith) in
      let rest : take from (front ++ (one ++ (other ++ back))) ++ drop (from + n) (front ++ (one ++
      (other ++ back))) ≡ (front ++ other) ++ back =
      ap (λ zs. zs ++ drop (from + n) (front ++ (one ++ (other ++ back)))) first
      ∙ ap (λ zs. front ++ zs) last ∙ sym (append_assoc front other back) in
      let middle : take n (drop from (front ++ (one ++ (other ++ back)))) ≡ one =
      ap (take n) behind ∙ take_front n one (other ++ back) b in
      let long : length (front ++ other) ≡ to = length-append front other ∙ omega arith in
      ap (λ zs. take to zs ++ (take n (drop from (front ++ (one ++ (other ++ back)))) ++ drop to zs)) rest
      ∙ ap (λ zs. take to ((front ++ other) ++ back) ++ (zs ++ drop to ((front ++ other) ++ back))) middle
      ∙ ap (λ zs. zs ++ (one ++ drop to ((front ++ other) ++ back)))
      (take_front to (front ++ other) back long)
      ∙ ap (λ zs. (front ++ other) ++ (one ++ zs)) (drop_front to (front ++ other) back long)
      ∙ append_assoc front other (one ++ back)

  -- a list in four blocks
  blocks : (a b d : ℕ) (xs : List X) → xs ≡ take a xs ++ (take b (drop a xs) ++ (take d (drop (a + b)
      xs) ++ drop (a + b + d) xs))
  blocks a b d xs =
      sym (take-append-drop a xs)
      ∙ ap (λ zs. take a xs ++ zs) (sym (take-append-drop b (drop a xs))
      ∙ ap (λ zs. take b (drop a xs) ++ zs) (drop-drop b a xs
      ∙ sym (take-append-drop d (drop (a + b) xs))
      ∙ ap (λ zs. take d (drop (a + b) xs) ++ zs) (drop-drop d (a + b) xs)))

  -- the length of a block
  length-block : (a b : ℕ) (xs : List X) → a + b ≤ length xs → length (take b (drop a xs)) ≡ b
  length-block a b xs within =
      let long = length-drop a xs in length-take-le b (drop a xs) (omega arith)

  -- what a list is that is written over another of its length
  pub written : (len : ℕ) (xs slice new : List X) → slice ≡ xs → length slice ≡ len →
      length new ≡ length slice → take len (new ++ drop (length new) xs) ≡ new
  written len xs slice new is long same = take_front len new (drop (length new) xs) (same ∙ long)

  -- where any two blocks next to each other were swapped, what stands behind has moved in front
  pub swapped_down : (xs slice new : List X) (from n to : ℕ) {len : ℕ} → slice ≡ xs →
      length slice ≡ len → from + n ≤ len → to ≤ from →
      ((front one other back : List X) → slice ≡ front ++ (one ++ (other ++ back)) →
      length front ≡ to → length one ≡ from - to → length other ≡ from + n - from →
      new ≡ front ++ (other ++ (one ++ back))) → new ≡ items_moved from n to xs
  swapped_down xs slice new from n to seen long within down swaps =
      let front = take to slice in
      let one = take (from - to) (drop to slice) in
      let other = take n (drop (to + (from - to)) slice) in
      let back = drop (to + (from - to) + n) slice in
      let is : slice ≡ front ++ (one ++ (other ++ back)) = blocks to (from - to) n slice in
      let a : length front ≡ to = length-take-le to slice (omega arith) in
      let b : length one ≡ from - to = length-block to (from - to) slice (omega arith) in
      let d : length other ≡ n = length-block (to + (from - to)) n slice (omega arith) in
      swaps front one other back is a b (omega arith)
      ∙ sym (moved_down front one other back from n to a (omega arith) d)
      ∙ ap (items_moved from n to) (sym is ∙ seen)

  -- and the other way round
  pub swapped_up : (xs slice new : List X) (from n to : ℕ) {len : ℕ} → slice ≡ xs →
      length slice ≡ len → to + n ≤ len → from ≤ to →
      ((front one other back : List X) → slice ≡ front ++ (one ++ (other ++ back)) →
      length front ≡ from → length one ≡ from + n - from → length other ≡ to + n - (from + n) →
      new ≡ front ++ (other ++ (one ++ back))) → new ≡ items_moved from n to xs
  swapped_up xs slice new from n to seen long within up swaps =
      let front = take from slice in
      let one = take n (drop from slice) in
      let other = take (to - from) (drop (from + n) slice) in
      let back = drop (from + n + (to - from)) slice in
      let is : slice ≡ front ++ (one ++ (other ++ back)) = blocks from n (to - from) slice in
      let a : length front ≡ from = length-take-le from slice (omega arith) in
      let b : length one ≡ n = length-block from n slice (omega arith) in
      let d : length other ≡ to - from = length-block (from + n) (to - from) slice (omega arith) in
      swaps front one other back is a (omega arith) (omega arith)
      ∙ sym (moved_up front one other back from n to a b (omega arith))
      ∙ ap (items_moved from n to) (sym is ∙ seen)
