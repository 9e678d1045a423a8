-- The bytes after a transcript give one end.
use Rattle.std.proofs.Common.{◌≡◌, ◌<◌, inl, inr, ℕ, true, false, List, [], length, refl, sym, ap, ◌∙◌, arith}
use Rattle.http_model.specs.Requests.{part, refused, IsFront}
use Rattle.http_model.proofs.FrontLemmas.{one_front}
use Rattle.wire_model.specs.Transcript.{Told}
use Rattle.request_loop.specs.declared.connection_end.ConnectionEnd.{ConnectionEnd}
use Rattle.request_loop.specs.declared.connection_end.ConnectionEnd.TheVariants.{Closed, Spent, Cut, Refused, ReadFault, WriteFault, Memory}
use Rattle.request_loop.specs.Serving.{MayGoOn}
use Rattle.request_loop.specs.Ending.{IsEnd}
use Rattle.request_loop.proofs.ServeLemmas.{nothing_is_part}

-- a part is not refused
not_refused : (bytes : List ℕ) (status : ℕ) → IsFront bytes part → IsFront bytes (refused status) → ⊥
not_refused bytes status is other =
    let same : part ≡ refused status = one_front bytes part (refused status) is other in cc

-- the refusals of the same bytes have one status
one_refusal : (rest : List ℕ) (a b : ℕ) → IsFront rest (refused a) → IsFront rest (refused b) → a ≡ b
one_refusal rest a b is other =
    let same : refused a ≡ refused b = one_front rest (refused a) (refused b) is other in cc

module _ (limit : ℕ) (told : List Told) (rest : List ℕ) where
  -- fewer than the limit are not as many
  not_spent : length told < limit → length told ≡ limit → ⊥
  not_spent few all = omega arith

  -- if a transcript is closed, it does not go on with some bytes left
  not_closed : MayGoOn limit told → 0 < length rest → IsEnd limit told rest Closed → ⊥
  not_closed may some (few, inl closed) = let same : true ≡ false = sym closed ∙ may.1 in cc
  not_closed may some (few, inr open_end) = omega (arith, ap length open_end.1)

  -- and nothing of it is refused
  not_closed_refused : (status : ℕ) → MayGoOn limit told → IsFront rest (refused status) →
      IsEnd limit told rest Closed → ⊥
  not_closed_refused status may is (few, inl closed) =
      let same : true ≡ false = sym closed ∙ may.1 in cc
  not_closed_refused status may is (few, inr open_end) =
      not_refused [] status nothing_is_part (rw open_end.1 at is)

-- the bytes after a transcript give one end
pub one_end : (limit : ℕ) (told : List Told) (rest : List ℕ) (end other : ConnectionEnd) →
    IsEnd limit told rest end → IsEnd limit told rest other → end ≡ other
one_end limit told rest Spent Spent h k = refl
one_end limit told rest Spent Closed h k = absurd (not_spent limit told rest k.0 h)
one_end limit told rest Spent (Cut n) h k = absurd (not_spent limit told rest k.0.0 h)
one_end limit told rest Spent (Refused s) h k = absurd (not_spent limit told rest k.0.0 h)
one_end limit told rest Closed Spent h k = absurd (not_spent limit told rest h.0 k)
one_end limit told rest Closed Closed h k = refl
one_end limit told rest Closed (Cut n) h k = absurd (not_closed limit told rest k.0 k.1 h)
one_end limit told rest Closed (Refused s) h k =
    absurd (not_closed_refused limit told rest s k.0 k.1 h)
one_end limit told rest (Cut n) Spent h k = absurd (not_spent limit told rest h.0.0 k)
one_end limit told rest (Cut n) Closed h k = absurd (not_closed limit told rest h.0 h.1 k)
one_end limit told rest (Cut n) (Cut m) h k = ap Cut (h.3 ∙ sym k.3)
one_end limit told rest (Cut n) (Refused s) h k = absurd (not_refused rest s h.2 k.1)
one_end limit told rest (Refused s) Spent h k = absurd (not_spent limit told rest h.0.0 k)
one_end limit told rest (Refused s) Closed h k =
    absurd (not_closed_refused limit told rest s h.0 h.1 k)
one_end limit told rest (Refused s) (Cut n) h k = absurd (not_refused rest s k.2 h.1)
one_end limit told rest (Refused s) (Refused t) h k = ap Refused (one_refusal rest s t h.1 k.1)
one_end limit told rest ReadFault other h k = absurd h
one_end limit told rest WriteFault other h k = absurd h
one_end limit told rest Memory other h k = absurd h
one_end limit told rest Spent ReadFault h k = absurd k
one_end limit told rest Spent WriteFault h k = absurd k
one_end limit told rest Spent Memory h k = absurd k
one_end limit told rest Closed ReadFault h k = absurd k
one_end limit told rest Closed WriteFault h k = absurd k
one_end limit told rest Closed Memory h k = absurd k
one_end limit told rest (Cut n) ReadFault h k = absurd k
one_end limit told rest (Cut n) WriteFault h k = absurd k
one_end limit told rest (Cut n) Memory h k = absurd k
one_end limit told rest (Refused s) ReadFault h k = absurd k
one_end limit told rest (Refused s) WriteFault h k = absurd k
one_end limit told rest (Refused s) Memory h k = absurd k
