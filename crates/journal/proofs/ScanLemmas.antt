-- Lemmas about specs/Scan.antt: what a scan has read.
use Rattle.std.proofs.Common.{◌≡◌, ◌≢◌, ◌⊎◌, inl, inr, ℕ, ◌+◌, ◌-◌, ◌^◌, ◌<◌, ◌≤◌, min, false, List, [], ◌∷◌, ◌++◌, length, take, drop, get_or, refl, sym, ◌∙◌, ap, subst, arith, length-append, length-drop, take-append-drop, add_comm}
use Rattle.std.proofs.Math.Seq.{take-add}
use Rattle.std.specs.Int.{w32, to_be_bytes, from_be_bytes}
use Rattle.std.proofs.lemmas.List.{append-nil, drop_all, drop_more, drop-drop, drop-take, take-take, length-take-le, get_or-take}
use Rattle.std.proofs.lemmas.Nat.{from_be_bytes-to_be_bytes_4}
use Rattle.journal.specs.Form.{header, record_of, front, Fits, Recovers}
use Rattle.journal.specs.Scan.{ScanValue, HasRead, IsCutShort, IsPart}
use Rattle.journal.proofs.FormLemmas.{front-nil, length-header, front-push, length-front-push, fit-push}

-- a header was read, and no record yet
pub HasRead-fresh : (k size n : ℕ) (bytes got head room : List ℕ) → size ≡ length bytes → 17 ≤ size
    → n ≡ min (length room) (size - 0) → length room ≡ 16
    → head ≡ take n (drop 0 got) ++ drop n room → got ≡ bytes → head ≡ header k
    → HasRead (record { k = k; gate = 16; size = size; ended = false; at = 0; block = [] }) bytes []
HasRead-fresh k size n bytes got head room size_is long n_is room_is head_is got_is header_is =
    let all : n ≡ 16 = omega arith in
    let rest : drop n room ≡ [] = drop_all n room (omega arith) in
    let front_is : take 16 bytes ≡ header k =
    ap (λ m. take m bytes) (sym all) ∙ ap (take n) (sym got_is) ∙ sym (append-nil (take n got))
    ∙ ap (λ l. take n got ++ l) (sym rest) ∙ sym head_is ∙ header_is in
    record {
      size = size_is;
      more = omega arith;
      gate = sym (ap length (front-nil k) ∙ length-header k);
      read = front_is ∙ sym (front-nil k);
      fit = tt;
      part = refl;
    }

-- what a part holds from a later offset on
pub IsPart-drop : (block : List ℕ) (at gate : ℕ) (bytes : List ℕ) → IsPart block at bytes
    → at ≤ gate → gate ≤ at + length block → IsPart (drop (gate - at) block) gate bytes
IsPart-drop block at gate bytes part before within =
    let m = gate - at in
    let n = length block - m in
    let whole : m + n ≡ length block = omega arith in
    let size : length (drop m block) ≡ n = length-drop m block in
    let place : at + m ≡ gate = omega arith in
    ap (drop m) (part ∙ ap (λ l. take l (drop at bytes)) (sym whole))
    ∙ drop-take m n (drop at bytes)
    ∙ ap (take n) (drop-drop m at bytes ∙ ap (λ p. drop p bytes) place)
    ∙ ap (λ l. take l (drop gate bytes)) (sym size)

-- what a scan holds from its gate on, by whatever names block and gate go
pub IsPart-held : (block : List ℕ) (at gate place : ℕ) (held bytes : List ℕ)
    → IsPart block at bytes → gate ≡ place → held ≡ drop (gate - at) block → at ≤ place
    → place ≤ at + length block → IsPart held place bytes
IsPart-held block at gate place held bytes part same held_is before within =
    let P : List ℕ → Type 0 = λ l. IsPart l place bytes in
    subst P (sym (held_is ∙ ap (λ n. drop (n - at) block) same))
    (IsPart-drop block at place bytes part before within)

-- how many bytes are held from a place on
pub length-held : (block : List ℕ) (at gate place : ℕ) (held : List ℕ) → gate ≡ place
    → held ≡ drop (gate - at) block → length held ≡ length block - (place - at)
length-held block at gate place held same held_is =
    ap length (held_is ∙ ap (λ n. drop (n - at) block) same) ∙ length-drop (place - at) block

module _ (scan : ScanValue) (bytes : List ℕ) (payloads : List (List ℕ))
    (was : HasRead scan bytes payloads) where
  abbrev rest : List ℕ
  rest = drop scan.gate bytes

  length-rest : length rest ≡ scan.size - scan.gate
  length-rest = length-drop scan.gate bytes ∙ ap (λ n. n - scan.gate) (sym was.size)

  split : bytes ≡ front scan.k payloads ++ rest
  split = sym (take-append-drop scan.gate bytes) ∙ ap (λ l. l ++ rest) was.read

  gate_of : ℕ
  gate_of = get_or rest 0 0

  rest_is : rest ≡ get_or rest 0 0 ∷ drop 1 rest
  rest_is = drop_more rest 0 0 (omega (arith, length-rest, was.more))

  -- the first bytes there, as far as they are held
  module _ (held : List ℕ) (held_is : IsPart held scan.gate bytes) where
    first_is : 0 < length held → get_or held 0 0 ≡ get_or rest 0 0
    first_is some = ap (λ l. get_or l 0 0) held_is ∙ get_or-take (length held) rest 0 0 some

    -- a gate that is not 1 ends the journal
    pub read-closed : 0 < length held → get_or held 0 0 ≢ 1 → Recovers scan.k payloads bytes
    read-closed some closed = record {
      gate = get_or rest 0 0;
      rest = drop 1 rest;
      is = split ∙ ap (λ l. front scan.k payloads ++ l) rest_is;
      closed = λ e. closed (first_is some ∙ e);
      fit = was.fit;
    }

    -- so many of the first bytes are those of the file
    take_held : (n : ℕ) → n ≤ length held → take n held ≡ take n rest
    take_held n within = ap (take n) held_is ∙ take-take n (length held) rest within

    -- an open gate
    open_is : 0 < length held → get_or held 0 0 ≡ 1 → rest ≡ 1 ∷ drop 1 rest
    open_is some is = rest_is ∙ ap (λ x. x ∷ drop 1 rest) (sym (first_is some) ∙ is)

    -- the number after an open gate, if a record follows, is the length of its payload
    count_of : 5 ≤ length held → (payload : List ℕ) (next : ℕ) (more : List ℕ) → Fits payload
        → drop 1 rest ≡ record_of payload ++ next ∷ more
        → from_be_bytes w32 (take 4 (drop 1 held)) ≡ length payload
    count_of some payload next more fits follows =
        let five : take 5 held ≡ take 5 rest = take_held 5 some in
        let four : take 4 (drop 1 held) ≡ take 4 (drop 1 rest) =
        sym (drop-take 1 4 held) ∙ ap (drop 1) five ∙ drop-take 1 4 rest in
        ap (from_be_bytes w32) (four ∙ ap (take 4) follows)
        ∙ from_be_bytes-to_be_bytes_4 (length payload) fits

    -- an open gate with no whole record after it
    pub read-short : (left : ℕ) → left ≡ scan.size - scan.gate → min left 5 ≤ length held
        → get_or held 0 0 ≡ 1
        → (left < 6) ⊎ ((6 ≤ left) × (left < from_be_bytes w32 (take 4 (drop 1 held)) + 6))
        → (offset : ℕ) → scan.gate ≡ offset → IsCutShort scan.k payloads bytes offset
    read-short left left_is some is short offset offset_is = record {
      offset_is = sym offset_is ∙ was.gate;
      rest = drop 1 rest;
      is = split ∙ ap (λ l. front scan.k payloads ++ l)
          (open_is (omega (arith, was.more)) is);
      none = λ payload next more fits follows.
          let long = ap length follows ∙ length-append (record_of payload) (next ∷ more) in
          let tail = length-drop 1 rest in
          elim short [
            | inl few ↦ absurd (omega (arith, length-rest))
            | inr (six, few) ↦
                let count = count_of (omega arith) payload next more fits follows in
                absurd (omega (arith, length-rest))
          ];
    }

    -- the first five bytes, as another part holds them
    take_seen : (seen : List ℕ) → IsPart seen scan.gate bytes → 5 ≤ length seen
        → take 5 seen ≡ take 5 rest
    take_seen seen seen_is long = ap (take 5) seen_is ∙ take-take 5 (length seen) rest long

    -- an open gate, and a whole record after it
    pub read-open : (seen : List ℕ) → IsPart seen scan.gate bytes → 5 ≤ length seen
        → (count : ℕ) → take 5 seen ≡ 1 ∷ to_be_bytes w32 count
        → count + 6 ≤ scan.size - scan.gate → count < 2 ^ 32 → count + 6 ≤ length held
        → (at : ℕ) (block : List ℕ) → IsPart block at bytes
        → HasRead (record scan { gate = scan.gate + (count + 5); at = at; block = block }) bytes
        (payloads ++ take count (drop 5 held) ∷ [])
    read-open seen seen_is seen_long count seen_head left fits long at block part =
        let payload = take count (drop 5 held) in
        let head : take 5 held ≡ 1 ∷ to_be_bytes w32 count =
        take_held 5 (omega arith) ∙ sym (take_seen seen seen_is seen_long) ∙ seen_head in
        let size : length payload ≡ count =
        length-take-le count (drop 5 held) (omega (arith, length-drop 5 held)) in
        let whole : take (5 + count) held ≡ take 5 held ++ payload = take-add 5 count held in
        let record_is : take (5 + count) held ≡ 1 ∷ record_of payload =
        whole ∙ ap (λ l. l ++ payload) head
        ∙ ap (λ n. 1 ∷ to_be_bytes w32 n ++ payload) (sym size) in
        let reach : take (scan.gate + (count + 5)) bytes
        ≡ take scan.gate bytes ++ take (count + 5) rest = take-add scan.gate (count + 5) bytes in
        let same : take (count + 5) rest ≡ take (5 + count) held =
        ap (λ n. take n rest) (add_comm count 5)
        ∙ sym (take_held (5 + count) (omega arith)) in
        let far = length-front-push scan.k payloads payload in
        let record_size = length-append (record_of payload) (0 ∷ []) in
        record {
          size = was.size;
          more = omega (arith, was.more);
          gate = omega (arith, was.gate);
          read = reach ∙ ap (λ l. l ++ take (count + 5) rest) was.read
              ∙ ap (λ l. front scan.k payloads ++ l) (same ∙ record_is)
              ∙ sym (front-push scan.k payloads payload);
          fit = fit-push payloads payload was.fit (omega arith);
          part = part;
        }

-- a scan that is known by its parts
pub HasRead-by : (now scan : ScanValue) (bytes : List ℕ) (payloads : List (List ℕ))
    → now.k ≡ scan.k → now.gate ≡ scan.gate → now.size ≡ scan.size
    → IsPart now.block now.at bytes → HasRead scan bytes payloads → HasRead now bytes payloads
HasRead-by now scan bytes payloads k_is gate_is size_is part was = record {
  size = size_is ∙ was.size;
  more = omega (arith, was.more);
  gate = gate_is ∙ was.gate ∙ ap (λ k. length (front k payloads)) (sym k_is);
  read = ap (λ n. take n bytes) gate_is ∙ was.read ∙ ap (λ k. front k payloads) (sym k_is);
  fit = was.fit;
  part = part;
}

-- a part of bytes that go by two names
pub IsPart-along : (block : List ℕ) (at : ℕ) (bytes same : List ℕ) → bytes ≡ same
    → IsPart block at bytes → IsPart block at same
IsPart-along block at bytes same is part =
    let P : List ℕ → Type 0 = λ l. IsPart block at l in
    subst P is part
