-- The law of sessions, proved in src/laws.rt.
use Rattle.std.specs.Prelude.{◌≡◌, ℕ, List, Option, IsSome}
use Rattle.wire_model.specs.Exchange.{Past}
use Rattle.request_loop.specs.declared.connection_end.ConnectionEnd.{ConnectionEnd}
use Rattle.request_loop.specs.Ending.{EndsAsTold}
use Rattle.pagetree_session.specs.declared.session.TheConstants.{ANSWER_LIMIT}
use Rattle.pagetree_session.specs.declared.options.Options.{Options}
use Rattle.pagetree_session.specs.Ending.{IsPlainTranscript}
use Rattle.pagetree_session.specs.Words.{moments, Moves}

-- If no call failed and memory sufficed, what a session writes and how it ends is a function of its
-- bytes and moments, and of the history that the disk had: two sessions from one history, on the same
-- bytes and with the same moments, end alike and write the same, in whatever pieces the bytes came.
abbrev pub OneOutcome : Type 0
OneOutcome =
    (begin : Past) (count : ℕ) (bytes : List ℕ) (options other_options : Options)
    (given later other_given other_later : ℕ → Option ℕ)
    (left other_left before after other_after : Option (List ℕ)) (end other : ConnectionEnd) →
    ((k : ℕ) → IsSome (moments options given k)) →
    ((k : ℕ) → moments other_options other_given k ≡ moments options given k) →
    EndsAsTold (IsPlainTranscript begin count bytes (moments options given)
    (Moves options given later) left) ANSWER_LIMIT before after end →
    EndsAsTold (IsPlainTranscript begin count bytes (moments other_options other_given)
    (Moves other_options other_given other_later) other_left) ANSWER_LIMIT before other_after other →
    (end ≡ other) × (after ≡ other_after)
