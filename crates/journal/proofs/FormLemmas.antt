-- Lemmas about specs/Form.antt: records at the end of a journal's file.
use Rattle.std.proofs.Common.{◌≡◌, ◌≢◌, inl, inr, ℕ, ◌+◌, ◌≤◌, List, [], ◌∷◌, ◌++◌, length, drop, sym, ◌∙◌, ap, subst, arith, append_assoc, length-append}
use Rattle.std.specs.List.{AllByRecursion}
use Rattle.std.proofs.lemmas.Bool.{cases_eq}
use Rattle.std.proofs.lemmas.List.{append-nil}
use Rattle.disk_model.specs.Past.{written}
use Rattle.disk_model.specs.Images.{Torn}
use Rattle.journal.specs.Form.{header, record_of, opened, front, Fits, Recovers, LeavesInDoubt, RecoversEither}
use Rattle.journal.proofs.ByteLemmas.{length-file, torn_after, torn_at, written_after, written_at}

-- one record more
opened-push : (payloads : List (List ℕ)) (payload : List ℕ)
    → opened (payloads ++ payload ∷ []) ≡ opened payloads ++ 1 ∷ record_of payload
unfolding opened
opened-push [] payload = append-nil (1 ∷ record_of payload)
opened-push (first ∷ payloads) payload =
    ap (λ l. (1 ∷ record_of first) ++ l) (opened-push payloads payload)
    ∙ sym (append_assoc (1 ∷ record_of first) (opened payloads) (1 ∷ record_of payload))

-- one payload more comes at the end of what is open
pub front-push : (k : ℕ) (payloads : List (List ℕ)) (payload : List ℕ)
    → front k (payloads ++ payload ∷ []) ≡ front k payloads ++ 1 ∷ record_of payload
unfolding front
front-push k payloads payload =
    ap (λ l. header k ++ l) (opened-push payloads payload)
    ∙ sym (append_assoc (header k) (opened payloads) (1 ∷ record_of payload))

-- how long a record is
pub length-record_of : (payload : List ℕ) → length (record_of payload) ≡ 4 + length payload
length-record_of payload = omega arith

-- payloads that fit do so with one more that fits
pub fit-push : (payloads : List (List ℕ)) (payload : List ℕ) → AllByRecursion Fits payloads
    → Fits payload → AllByRecursion Fits (payloads ++ payload ∷ [])
fit-push [] payload fit fits = (fits, fit)
fit-push (first ∷ payloads) payload fit fits = (fit.0, fit-push payloads payload fit.1 fits)

module _ (k : ℕ) (payloads : List (List ℕ)) (gate : ℕ)
    (gate_is : gate ≡ length (front k payloads)) where
  -- a file that recovers to the payloads reaches its gate
  pub reaches_gate : (bytes : List ℕ) → Recovers k payloads bytes → gate + 1 ≤ length bytes
  reaches_gate bytes is =
      let long = length-file (front k payloads) is.gate is.rest gate (sym gate_is) in
      omega (arith, ap length is.is, long)

  -- a write after the gate, done in part, changes nothing
  pub Recovers-torn : (count : ℕ) (was held : List ℕ) → Recovers k payloads was
      → Torn (gate + 1) count was held → Recovers k payloads held
  Recovers-torn count was held is torn =
      let kept = torn_after (front k payloads) is.gate is.rest gate (sym gate_is) count held
      (subst (λ l. Torn (gate + 1) count l held) is.is torn) in
      record { gate = is.gate; rest = kept.0; is = kept.1; closed = is.closed; fit = is.fit }

  -- a record after the gate, with a closed gate after it, is in doubt
  pub in_doubt-written : (payload bytes : List ℕ) → Fits payload → Recovers k payloads bytes
      → LeavesInDoubt k payloads payload (written bytes (gate + 1) (record_of payload ++ 0 ∷ []))
  in_doubt-written payload bytes fits is =
      let piece = record_of payload ++ 0 ∷ [] in
      let rest = drop (length piece) is.rest in
      record {
        gate = is.gate;
        next = 0;
        rest = rest;
        is = ap (λ l. written l (gate + 1) piece) is.is
            ∙ written_after (front k payloads) is.gate is.rest gate (sym gate_is) piece
            ∙ regrouped is.gate rest;
        closed = λ e. absurd (omega arith);
        fit = is.fit;
        last_fits = fits;
      }
    where
      regrouped : (g : ℕ) (rest : List ℕ)
          → front k payloads ++ g ∷ (record_of payload ++ 0 ∷ []) ++ rest
          ≡ front k payloads ++ g ∷ record_of payload ++ 0 ∷ rest
      regrouped g rest =
          ap (λ l. l ++ rest) (sym (append_assoc (front k payloads) (g ∷ record_of payload) (0 ∷
          [])))
          ∙ append_assoc (front k payloads ++ g ∷ record_of payload) (0 ∷ []) rest

  module _ (payload : List ℕ) where
    -- the gate before a record in doubt, and the tail after that gate
    tail_of : (bytes : List ℕ) (is : LeavesInDoubt k payloads payload bytes)
        → bytes ≡ front k payloads ++ is.gate ∷ (record_of payload ++ is.next ∷ is.rest)
    tail_of bytes is =
        is.is ∙ append_assoc (front k payloads) (is.gate ∷ record_of payload) (is.next ∷ is.rest)

    with_gate : (bytes : List ℕ) (is : LeavesInDoubt k payloads payload bytes) (other : ℕ)
        (held : List ℕ)
        → held ≡ front k payloads ++ other ∷ (record_of payload ++ is.next ∷ is.rest)
        → LeavesInDoubt k payloads payload held
    with_gate bytes is other held held_is = record {
      gate = other;
      next = is.next;
      rest = is.rest;
      is = held_is ∙ sym (append_assoc (front k payloads) (other ∷ record_of payload)
          (is.next ∷ is.rest));
      closed = is.closed;
      fit = is.fit;
      last_fits = is.last_fits;
    }

    pub reaches_doubt : (bytes : List ℕ) → LeavesInDoubt k payloads payload bytes
        → gate + 1 ≤ length bytes
    reaches_doubt bytes is =
        let long = length-file (front k payloads) is.gate
        (record_of payload ++ is.next ∷ is.rest) gate (sym gate_is) in
        omega (arith, ap length (tail_of bytes is), long)

    -- a write of the gate, done in part, leaves the record in doubt
    pub in_doubt-torn : (was held : List ℕ) → LeavesInDoubt k payloads payload was
        → Torn gate 1 was held → LeavesInDoubt k payloads payload held
    in_doubt-torn was held is torn =
        let kept = torn_at (front k payloads) is.gate (record_of payload ++ is.next ∷ is.rest) gate
        (sym gate_is) held (subst (λ l. Torn gate 1 l held) (tail_of was is) torn) in
        with_gate was is kept.0 held kept.1

    -- an open gate before the record
    recovers_with : (bytes : List ℕ) (is : LeavesInDoubt k payloads payload bytes)
        (held : List ℕ)
        → held ≡ front k payloads ++ 1 ∷ (record_of payload ++ is.next ∷ is.rest)
        → Recovers k (payloads ++ payload ∷ []) held
    recovers_with bytes is held held_is = record {
      gate = is.next;
      rest = is.rest;
      is = held_is
          ∙ sym (append_assoc (front k payloads) (1 ∷ record_of payload) (is.next ∷ is.rest))
          ∙ ap (λ l. l ++ is.next ∷ is.rest) (sym (front-push k payloads payload));
      closed = is.closed;
      fit = fit-push payloads payload is.fit is.last_fits;
    }

    -- a closed gate before the record
    recovers_without : (bytes : List ℕ) (is : LeavesInDoubt k payloads payload bytes)
        (other : ℕ) (held : List ℕ) → other ≢ 1
        → held ≡ front k payloads ++ other ∷ (record_of payload ++ is.next ∷ is.rest)
        → Recovers k payloads held
    recovers_without bytes is other held closed held_is = record {
      gate = other;
      rest = record_of payload ++ is.next ∷ is.rest;
      is = held_is;
      closed = closed;
      fit = is.fit;
    }

    -- the gate is opened
    pub Recovers-opened : (bytes : List ℕ) → LeavesInDoubt k payloads payload bytes
        → Recovers k (payloads ++ payload ∷ []) (written bytes gate (1 ∷ []))
    Recovers-opened bytes is =
        recovers_with bytes is _ (ap (λ l. written l gate (1 ∷ [])) (tail_of bytes is)
        ∙ written_at (front k payloads) is.gate (record_of payload ++ is.next ∷ is.rest) gate
        (sym gate_is) 1)

    -- the gate is closed
    pub Recovers-closed : (bytes : List ℕ) → LeavesInDoubt k payloads payload bytes
        → Recovers k payloads (written bytes gate (0 ∷ []))
    Recovers-closed bytes is =
        recovers_without bytes is 0 _ (λ e. absurd (omega arith))
        (ap (λ l. written l gate (0 ∷ [])) (tail_of bytes is)
        ∙ written_at (front k payloads) is.gate (record_of payload ++ is.next ∷ is.rest) gate
        (sym gate_is) 0)

    -- whatever the gate is, the file recovers to the payloads with the one in doubt or without
    pub RecoversEither-in_doubt : (bytes : List ℕ) → LeavesInDoubt k payloads payload bytes
        → RecoversEither k payloads payload bytes
    RecoversEither-in_doubt bytes is = elim (cases_eq is.gate 1) [
      | inl open_gate ↦ inr (recovers_with bytes is bytes (tail_of bytes is
          ∙ ap (λ g. front k payloads ++ g ∷ (record_of payload ++ is.next ∷ is.rest)) open_gate))
      | inr shut ↦ inl (recovers_without bytes is is.gate bytes shut (tail_of bytes is))
    ]

-- how far the records reach with one more
pub length-front-push : (k : ℕ) (payloads : List (List ℕ)) (payload : List ℕ)
    → length (front k (payloads ++ payload ∷ []))
    ≡ length (front k payloads) + length (record_of payload ++ 0 ∷ [])
length-front-push k payloads payload =
    let is = ap length (front-push k payloads payload)
    ∙ length-append (front k payloads) (1 ∷ record_of payload) in
    let long = length-append (record_of payload) (0 ∷ []) in
    omega (arith, is, long)

-- no records
pub front-nil : (k : ℕ) → front k [] ≡ header k
unfolding front opened
front-nil k = append-nil (header k)

-- a header has 16 bytes
pub length-header : (k : ℕ) → length (header k) ≡ 16
length-header k = omega arith

-- a header and a closed gate
pub Recovers-fresh : (k : ℕ) (held : List ℕ) → held ≡ header k ++ 0 ∷ [] → Recovers k [] held
Recovers-fresh k held is = record {
  gate = 0;
  rest = [];
  is = is ∙ ap (λ l. l ++ 0 ∷ []) (sym (front-nil k));
  closed = λ e. absurd (omega arith);
  fit = tt;
}

-- a header and a gate have 17 bytes
pub length-fresh : (k : ℕ) → length (header k ++ 0 ∷ []) ≡ 17
length-fresh k = omega arith
