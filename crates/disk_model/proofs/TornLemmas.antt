-- Lemmas about writes and cuts that were done in part: doing all of it or none is one of them.
use Rattle.std.proofs.Common.{◌≡◌, ℕ, ◌+◌, ◌≤◌, max, List, ◌++◌, length, take, drop, refl, ◌∙◌, ap, arith, length-append, length-drop, append_assoc}
use Rattle.std.proofs.lemmas.List.{take_at, drop_at, take_all, length-take-le}
use Rattle.disk_model.specs.Past.{written}
use Rattle.disk_model.specs.Images.{Torn, Shortened}

-- none of a write
pub Torn-none : (at count : ℕ) (bytes : List ℕ) → Torn at count bytes bytes
Torn-none at count bytes = record {
  before = refl;
  after = refl;
  no_shorter = omega arith;
  no_longer = omega arith;
}

-- what stands in front of the bytes that are written
pub take-written : (old : List ℕ) (at : ℕ) (bytes : List ℕ) → at ≤ length old
    → take at (written old at bytes) ≡ take at old
take-written old at bytes within =
    ap (take at) (append_assoc (take at old) bytes (drop (at + length bytes) old))
    ∙ take_at (take at old) (bytes ++ drop (at + length bytes) old) at
    (length-take-le at old within)

-- the bytes that are written, and what stands after them
pub drop-written : (old : List ℕ) (at : ℕ) (bytes : List ℕ) → at ≤ length old
    → drop at (written old at bytes) ≡ bytes ++ drop (at + length bytes) old
drop-written old at bytes within =
    ap (drop at) (append_assoc (take at old) bytes (drop (at + length bytes) old))
    ∙ drop_at (take at old) (bytes ++ drop (at + length bytes) old) at
    (length-take-le at old within)

-- what stands after them alone
pub drop_more-written : (old : List ℕ) (at : ℕ) (bytes : List ℕ) → at ≤ length old
    → drop (at + length bytes) (written old at bytes) ≡ drop (at + length bytes) old
drop_more-written old at bytes within =
    drop_at (take at old ++ bytes) (drop (at + length bytes) old) (at + length bytes)
    (length-append (take at old) bytes ∙ ap (λ n. n + length bytes) (length-take-le at old within))

-- how long the file is then
pub length-written : (old : List ℕ) (at : ℕ) (bytes : List ℕ) → at ≤ length old
    → length (written old at bytes) ≡ max (length old) (at + length bytes)
length-written old at bytes within =
    let front = length-take-le at old within in
    let both = length-append (take at old) bytes in
    let all = length-append (take at old ++ bytes) (drop (at + length bytes) old) in
    let back = length-drop (at + length bytes) old in
    omega arith

-- all of a write
pub Torn-all : (at : ℕ) (bytes old : List ℕ) → at ≤ length old
    → Torn at (length bytes) old (written old at bytes)
Torn-all at bytes old within =
    let long = length-written old at bytes within in
    record {
      before = take-written old at bytes within;
      after = drop_more-written old at bytes within;
      no_shorter = omega arith;
      no_longer = omega arith;
    }

-- none of a cut
pub Shortened-none : (size : ℕ) (bytes : List ℕ) → size ≤ length bytes
    → Shortened size bytes bytes
Shortened-none size bytes within =
    record { no_shorter = within; front = take_all (length bytes) bytes (omega arith) }

-- all of a cut
pub Shortened-all : (size : ℕ) (old : List ℕ) → size ≤ length old
    → Shortened size old (take size old)
Shortened-all size old within =
    let long = length-take-le size old within in
    record { no_shorter = omega arith; front = ap (λ n. take n old) long }
