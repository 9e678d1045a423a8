-- Who knows more of the requests knows as much of the end.
use Rattle.std.proofs.Common.{◌+◌, ℕ, List, Option, length, inl, inr}
use Rattle.wire_model.specs.Transcript.{Told}
use Rattle.request_loop.specs.declared.connection_end.ConnectionEnd.{ConnectionEnd}
use Rattle.request_loop.specs.declared.connection_end.ConnectionEnd.TheVariants.{Closed, Spent, Cut, Refused, ReadFault, WriteFault, Memory}
use Rattle.request_loop.specs.Ending.{Ends, Reached}

module _ {one other : List Told → List ℕ → ℕ → Type 0}
    (known : (told : List Told) (rest : List ℕ) (reads : ℕ) → one told rest reads →
    other told rest reads) (limit : ℕ) (left before after : Option (List ℕ)) where
  -- what was reached
  abbrev reached_map : Reached one limit → Reached other limit
  reached_map reached = record {
    told = reached.told;
    rest = reached.rest;
    holds = known reached.told reached.rest (length reached.told) reached.holds;
    within = reached.within;
  }

  -- and how the connection ended
  pub Ends-map : (end : ConnectionEnd) → Ends one limit left before after end →
      Ends other limit left before after end
  Ends-map Closed e =
      record { reached = reached_map e.reached; ends = e.ends; written = e.written }
  Ends-map Spent e =
      record { reached = reached_map e.reached; ends = e.ends; written = e.written }
  Ends-map (Cut count) e =
      record { reached = reached_map e.reached; ends = e.ends; written = e.written }
  Ends-map (Refused status) e =
      record { reached = reached_map e.reached; ends = e.ends; written = e.written }
  Ends-map ReadFault e = record {
    reached = reached_map e.reached;
    goes_on = e.goes_on;
    unanswered = e.unanswered;
    waits = e.waits;
    left_is = e.left_is;
    written = e.written;
  }
  Ends-map WriteFault (inl e) = inl (record {
    reached = reached_map e.reached;
    earlier = e.earlier;
    last = e.last;
    told = e.told;
    written = e.written;
  })
  Ends-map WriteFault (inr e) = inr (record {
    reached = reached_map e.reached;
    status = e.status;
    ends = e.ends;
    written = e.written;
  })
  Ends-map Memory (inl e) = inl (record { reached = reached_map e.reached; written = e.written })
  Ends-map Memory (inr (inl e)) = inr (inl (record {
    told = e.told;
    rest = e.rest;
    holds = known e.told e.rest (length e.told + 1) e.holds;
    goes_on = e.goes_on;
    request = e.request;
    following = e.following;
    asked = e.asked;
    written = e.written;
  }))
  Ends-map Memory (inr (inr e)) = inr (inr (record {
    reached = reached_map e.reached;
    earlier = e.earlier;
    last = e.last;
    told = e.told;
    written = e.written;
  }))
