-- Lemmas about files that are a front, one byte and a tail, and writes at that byte or after it.
use Rattle.std.proofs.Common.{◌≡◌, ℕ, ◌+◌, List, [], ◌∷◌, ◌++◌, length, take, drop, get_or, sym, ◌∙◌, ap, arith, append_assoc, length-append, take-append-drop}
use Rattle.std.proofs.lemmas.List.{take_at, drop_at, drop_more, drop-drop, length_push}
use Rattle.disk_model.specs.Past.{written}
use Rattle.disk_model.specs.Images.{Torn}

module _ (front : List ℕ) (gate : ℕ) (tail : List ℕ) (size : ℕ) (size_is : length front ≡ size)
  where
    abbrev file : List ℕ
    file = front ++ gate ∷ tail

    split : file ≡ (front ++ gate ∷ []) ++ tail
    split = sym (append_assoc front (gate ∷ []) tail)

    up_to_gate : length (front ++ gate ∷ []) ≡ size + 1
    up_to_gate = length_push front gate ∙ ap (λ n. n + 1) size_is

    pub length-file : length file ≡ size + 1 + length tail
    length-file = ap length split ∙ length-append (front ++ gate ∷ []) tail
        ∙ ap (λ n. n + length tail) up_to_gate

    take_gate : take (size + 1) file ≡ front ++ gate ∷ []
    take_gate = ap (take (size + 1)) split ∙ take_at (front ++ gate ∷ []) tail (size + 1) up_to_gate

    pub drop_gate : drop (size + 1) file ≡ tail
    drop_gate = ap (drop (size + 1)) split ∙ drop_at (front ++ gate ∷ []) tail (size + 1) up_to_gate

    pub take_front : take size file ≡ front
    take_front = take_at front (gate ∷ tail) size size_is

    -- a write after the byte, done in part, leaves the front and the byte
    pub torn_after : (count : ℕ) (held : List ℕ) → Torn (size + 1) count file held
        → (rest : List ℕ) × (held ≡ front ++ gate ∷ rest)
    torn_after count held torn =
        let rest = drop (size + 1) held in (
          rest,
          sym (take-append-drop (size + 1) held)
              ∙ ap (λ l. l ++ rest) (torn.before ∙ take_gate)
              ∙ append_assoc front (gate ∷ []) rest,
        )

    -- a write of the byte, done in part, leaves the front and the tail
    pub torn_at : (held : List ℕ) → Torn size 1 file held
        → (other : ℕ) × (held ≡ front ++ other ∷ tail)
    torn_at held torn =
        let long = length-file in
        let other = get_or held size 0 in
        let rest : drop size held ≡ other ∷ tail =
        drop_more held size 0 (omega (arith, torn.no_shorter))
        ∙ ap (λ l. other ∷ l) (torn.after ∙ drop_gate) in (
          other,
          sym (take-append-drop size held) ∙ ap (λ l. l ++ drop size held) (torn.before ∙ take_front)
              ∙ ap (λ l. front ++ l) rest,
        )

    -- a write after the byte
    pub written_after : (bytes : List ℕ)
        → written file (size + 1) bytes ≡ front ++ gate ∷ bytes ++ drop (length bytes) tail
    written_after bytes =
        let back : drop (size + 1 + length bytes) file ≡ drop (length bytes) tail =
        sym (drop-drop (length bytes) (size + 1) file) ∙ ap (drop (length bytes)) drop_gate in
        ap (λ l. l ++ bytes ++ drop (size + 1 + length bytes) file) take_gate
        ∙ ap (λ l. (front ++ gate ∷ []) ++ bytes ++ l) back
        ∙ ap (λ l. l ++ drop (length bytes) tail) (append_assoc front (gate ∷ []) bytes)

    -- a write of the byte
    pub written_at : (other : ℕ) → written file size (other ∷ []) ≡ front ++ other ∷ tail
    written_at other =
        ap (λ l. l ++ (other ∷ []) ++ drop (size + 1) file) take_front
        ∙ ap (λ l. front ++ (other ∷ []) ++ l) drop_gate
        ∙ append_assoc front (other ∷ []) tail

-- bytes that are written at the front, and nothing after them
pub take-written_front : (old bytes : List ℕ) (size : ℕ) → length bytes ≡ size
    → take size (written old 0 bytes) ≡ bytes
take-written_front old bytes size size_is =
    take_at bytes (drop (0 + length bytes) old) size size_is
