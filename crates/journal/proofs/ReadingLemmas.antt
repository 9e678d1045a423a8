-- A file has one reading as a journal.
use Rattle.std.proofs.Common.{◌≡◌, ◌≢◌, ℕ, List, [], ◌∷◌, ◌++◌, length, take, drop, refl, sym, ◌∙◌, ap, append_assoc}
use Rattle.std.specs.List.{AllByRecursion}
use Rattle.std.specs.Int.{w32, to_be_bytes, from_be_bytes}
use Rattle.std.proofs.lemmas.List.{take_at, drop_at, append_cancel_left}
use Rattle.std.proofs.lemmas.Nat.{from_be_bytes-to_be_bytes_4}
use Rattle.journal.specs.Form.{header, record_of, opened, front, Fits, Recovers}
use Rattle.journal.specs.Scan.{HasHeader, IsCutShort}

-- two records that begin the same bytes are one, with the same bytes after them
pub record IsSame (first second rest other : List ℕ) : Type 0 where
  pub payload : first ≡ second
  pub tail : rest ≡ other

-- two records that begin the same bytes are one
pub same_record : (first second rest other : List ℕ) → Fits first → Fits second
    → record_of first ++ rest ≡ record_of second ++ other → IsSame first second rest other
same_record first second rest other fits other_fits is =
    let four : to_be_bytes w32 (length first) ≡ to_be_bytes w32 (length second) =
    ap (take 4) is in
    let size : length first ≡ length second =
    sym (from_be_bytes-to_be_bytes_4 (length first) fits) ∙ ap (from_be_bytes w32) four
    ∙ from_be_bytes-to_be_bytes_4 (length second) other_fits in
    let tails : first ++ rest ≡ second ++ other = ap (drop 4) is in
    record {
      payload = sym (take_at first rest (length first) refl) ∙ ap (take (length first)) tails
          ∙ take_at second other (length first) (sym size);
      tail = sym (drop_at first rest (length first) refl) ∙ ap (drop (length first)) tails
          ∙ drop_at second other (length first) (sym size);
    }

-- the first record, and what follows it
pub opened-first : (payload : List ℕ) (payloads : List (List ℕ)) (rest : List ℕ)
    → opened (payload ∷ payloads) ++ rest ≡ 1 ∷ record_of payload ++ (opened payloads ++ rest)
unfolding opened
opened-first payload payloads rest =
    append_assoc (1 ∷ record_of payload) (opened payloads) rest

-- no payload has no bytes
pub opened-none : (rest : List ℕ) → opened [] ++ rest ≡ rest
unfolding opened
opened-none rest = refl

-- lists that are the same begin and go on the same
same_head : (x y : ℕ) (xs ys : List ℕ) → x ∷ xs ≡ y ∷ ys → x ≡ y
same_head x y xs ys is = cc

-- lists that are the same go on the same
pub same_tail : (x y : ℕ) (xs ys : List ℕ) → x ∷ xs ≡ y ∷ ys → xs ≡ ys
same_tail x y xs ys is = cc

-- two readings of the same bytes are one
opened-once : (payloads others : List (List ℕ)) (gate other : ℕ) (rest after : List ℕ)
    → opened payloads ++ gate ∷ rest ≡ opened others ++ other ∷ after → gate ≢ 1 → other ≢ 1
    → AllByRecursion Fits payloads → AllByRecursion Fits others → payloads ≡ others
opened-once [] [] gate other rest after is closed shut fit fits = refl
opened-once [] (second ∷ others) gate other rest after is closed shut fit fits =
    absurd (closed (same_head gate 1 rest _ (sym (opened-none (gate ∷ rest)) ∙ is
    ∙ opened-first second others (other ∷ after))))
opened-once (first ∷ payloads) [] gate other rest after is closed shut fit fits =
    absurd (shut (same_head other 1 after _ (sym (opened-none (other ∷ after)) ∙ sym is
    ∙ opened-first first payloads (gate ∷ rest))))
opened-once (first ∷ payloads) (second ∷ others) gate other rest after is closed shut fit fits =
    let same = same_record first second (opened payloads ++ gate ∷ rest)
    (opened others ++ other ∷ after) fit.0 fits.0
    (same_tail 1 1 _ _ (sym (opened-first first payloads (gate ∷ rest)) ∙ is
    ∙ opened-first second others (other ∷ after))) in
    let more = opened-once payloads others gate other rest after same.tail closed shut fit.1
    fits.1 in
    ap (λ p. p ∷ payloads) same.payload ∙ ap (λ ps. second ∷ ps) more

-- bytes that recover are not cut short after any records
opened-sound : (payloads others : List (List ℕ)) (gate : ℕ) (rest after : List ℕ)
    → opened payloads ++ gate ∷ rest ≡ opened others ++ 1 ∷ after → gate ≢ 1
    → AllByRecursion Fits payloads → AllByRecursion Fits others
    → ((payload : List ℕ) (next : ℕ) (more : List ℕ) → Fits payload
    → after ≡ record_of payload ++ next ∷ more → ⊥) → ⊥
opened-sound [] [] gate rest after is closed fit fits none =
    closed (same_head gate 1 rest after (sym (opened-none (gate ∷ rest)) ∙ is
    ∙ opened-none (1 ∷ after)))
opened-sound [] (second ∷ others) gate rest after is closed fit fits none =
    closed (same_head gate 1 rest _ (sym (opened-none (gate ∷ rest)) ∙ is
    ∙ opened-first second others (1 ∷ after)))
opened-sound (first ∷ []) [] gate rest after is closed fit fits none =
    none first gate rest fit.0
    (sym (same_tail 1 1 _ _ (sym (opened-first first [] (gate ∷ rest)) ∙ is
    ∙ opened-none (1 ∷ after))) ∙ ap (λ l. record_of first ++ l) (opened-none (gate ∷ rest)))
opened-sound (first ∷ next ∷ payloads) [] gate rest after is closed fit fits none =
    none first 1 (record_of next ++ (opened payloads ++ gate ∷ rest)) fit.0
    (sym (same_tail 1 1 _ _ (sym (opened-first first (next ∷ payloads) (gate ∷ rest)) ∙ is
    ∙ opened-none (1 ∷ after)))
    ∙ ap (λ l. record_of first ++ l) (opened-first next payloads (gate ∷ rest)))
opened-sound (first ∷ payloads) (second ∷ others) gate rest after is closed fit fits none =
    let same = same_record first second (opened payloads ++ gate ∷ rest)
    (opened others ++ 1 ∷ after) fit.0 fits.0
    (same_tail 1 1 _ _ (sym (opened-first first payloads (gate ∷ rest)) ∙ is
    ∙ opened-first second others (1 ∷ after))) in
    opened-sound payloads others gate rest after same.tail closed fit.1 fits.1 none

-- what stands after the header
pub after_header : (k : ℕ) (payloads others : List (List ℕ)) (rest after : List ℕ)
    → front k payloads ++ rest ≡ front k others ++ after
    → opened payloads ++ rest ≡ opened others ++ after
unfolding front
after_header k payloads others rest after is =
    append_cancel_left (header k) (opened payloads ++ rest) (opened others ++ after)
    (sym (append_assoc (header k) (opened payloads) rest) ∙ is
    ∙ append_assoc (header k) (opened others) after)

-- a file recovers to one list of payloads
pub Recovers-once : (k : ℕ) (payloads others : List (List ℕ)) (bytes : List ℕ)
    → Recovers k payloads bytes → Recovers k others bytes → payloads ≡ others
Recovers-once k payloads others bytes one other =
    opened-once payloads others one.gate other.gate one.rest other.rest
    (after_header k payloads others (one.gate ∷ one.rest) (other.gate ∷ other.rest)
    (sym one.is ∙ other.is)) one.closed other.closed one.fit other.fit

-- a file that recovers is cut short nowhere
pub Recovers-sound : (k : ℕ) (payloads others : List (List ℕ)) (bytes : List ℕ) (offset : ℕ)
    → Recovers k payloads bytes → AllByRecursion Fits others
    → IsCutShort k others bytes offset → ⊥
Recovers-sound k payloads others bytes offset one fits short =
    opened-sound payloads others one.gate one.rest short.rest
    (after_header k payloads others (one.gate ∷ one.rest) (1 ∷ short.rest)
    (sym one.is ∙ short.is)) one.closed one.fit fits short.none

-- after the header stands a gate
starts : (k : ℕ) (payloads : List (List ℕ)) (gate : ℕ) (rest bytes : List ℕ)
    → bytes ≡ header k ++ (opened payloads ++ gate ∷ rest) → HasHeader k bytes
starts k [] gate rest bytes is = record {
  gate = gate;
  rest = rest;
  is = is ∙ ap (λ l. header k ++ l) (opened-none (gate ∷ rest));
}
starts k (first ∷ payloads) gate rest bytes is = record {
  gate = 1;
  rest = record_of first ++ (opened payloads ++ gate ∷ rest);
  is = is ∙ ap (λ l. header k ++ l) (opened-first first payloads (gate ∷ rest));
}

-- a file that recovers has a header
pub Recovers-header : (k : ℕ) (payloads : List (List ℕ)) (bytes : List ℕ)
    → Recovers k payloads bytes → HasHeader k bytes
unfolding front
Recovers-header k payloads bytes one =
    starts k payloads one.gate one.rest bytes
    (one.is ∙ append_assoc (header k) (opened payloads) (one.gate ∷ one.rest))
