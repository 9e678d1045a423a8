-- How a session ends by the clock that its options ask for.
use Rattle.std.proofs.Common.{◌≡◌, inl, inr, ℕ, List, Option, Some, None, refl, sym, subst}
use Rattle.outside_world.specs.declared.memory_clock.MemoryClock.{MemoryClock}
use Rattle.wire_model.specs.Exchange.{Past}
use Rattle.wire_model.specs.Transcript.{Told}
use Rattle.request_loop.specs.declared.connection_end.ConnectionEnd.{ConnectionEnd}
use Rattle.request_loop.specs.declared.connection_end.ConnectionEnd.TheVariants as ends
use Rattle.request_loop.proofs.MapLemmas.{Ends-map}
use Rattle.pagetree_session.specs.declared.session.TheConstants.{ANSWER_LIMIT}
use Rattle.pagetree_session.specs.declared.status.Status.{Status}
use Rattle.pagetree_session.specs.declared.status.Status.TheVariants.{Done, Usage, ReadFault, WriteFault, DiskFault, Memory, BadStore, Cut, Refused, Spent}
use Rattle.pagetree_session.specs.Ending.{DiskSeen, IsServed, IsUntouched, MovesOn, Ends, EndsBy}
use Rattle.pagetree_session.specs.Words.{moments_of, moments_by, MovesBy}

module _ (honest : Type 0) (disk later : DiskSeen) (bytes : List ℕ)
    (left before after : Option (List ℕ)) where
  module _ (coming : ℕ → Option ℕ) (HasMoved OtherMoved : ℕ → Type 0)
      (known : (count : ℕ) → HasMoved count → OtherMoved count) where
    -- a transcript says the same of another clock
    other_clock : (begin : Past) (told : List Told) (rest : List ℕ) (reads : ℕ) →
        IsServed honest later begin disk.count bytes coming HasMoved left told rest reads →
        IsServed honest later begin disk.count bytes coming OtherMoved left told rest reads
    other_clock begin told rest reads is = record {
      transcript = record {
        past = is.transcript.past;
        last_count = is.transcript.last_count;
        follows = is.transcript.follows;
        moments = is.transcript.moments;
        in_range = is.transcript.in_range;
        moved = known reads is.transcript.moved;
        read = is.transcript.read;
        read_left = is.transcript.read_left;
        turns = is.transcript.turns;
      };
      count_is = is.count_is;
      on_disk = is.on_disk;
    }

    -- so does the end of a connection
    other_end : (end : ConnectionEnd) →
        EndsBy honest disk later bytes coming HasMoved left before after end →
        EndsBy honest disk later bytes coming OtherMoved left before after end
    other_end end (begin, starts, ended) =
        (begin, starts, Ends-map (other_clock begin) ANSWER_LIMIT left before after end ended)

    -- so does a session that did nothing
    other_untouched : IsUntouched bytes HasMoved left before after →
        IsUntouched bytes OtherMoved left before after
    other_untouched is = record {
      unread = is.unread;
      unwritten = is.unwritten;
      unmoved = known 0 is.unmoved;
    }

    -- and the end of a session
    other_clock_ends : (status : Status) →
        Ends honest disk later bytes coming HasMoved left before after status →
        Ends honest disk later bytes coming OtherMoved left before after status
    other_clock_ends Usage ended = absurd ended
    other_clock_ends (BadStore file offset) ended =
        (other_untouched ended.0, ended.1, ended.2)
    other_clock_ends DiskFault ended = (other_untouched ended.0, ended.1, ended.2)
    other_clock_ends Memory (inl ended) = inl (other_untouched ended.0, ended.1)
    other_clock_ends Memory (inr ended) = inr (other_end ends.Memory ended)
    other_clock_ends Done ended = other_end ends.Closed ended
    other_clock_ends Spent ended = other_end ends.Spent ended
    other_clock_ends (Cut count) ended = other_end (ends.Cut count) ended
    other_clock_ends (Refused status) ended = other_end (ends.Refused status) ended
    other_clock_ends ReadFault ended = other_end ends.ReadFault ended
    other_clock_ends WriteFault ended = other_end ends.WriteFault ended

  -- with a clock that the options ask for, the one that is given stands
  pub asked_ends : (asked : Option MemoryClock) (clock : MemoryClock)
      (given memory_later : ℕ → Option ℕ) (status : Status) → asked ≡ Some clock →
      Ends honest disk later bytes (moments_of clock) (MovesOn (moments_of clock) memory_later) left
      before after status →
      Ends honest disk later bytes (moments_by asked given) (MovesBy asked given given) left before
      after status
  asked_ends asked clock given memory_later status is ended =
      subst (λ (a : Option MemoryClock). Ends honest disk later bytes (moments_by a given)
      (MovesBy a given given) left before after status) (sym is)
      (other_clock_ends (moments_of clock) (MovesOn (moments_of clock) memory_later)
      (MovesBy (Some clock) given given) (λ count moved k. refl) status ended)

  -- with none, the one that is given moves on
  pub given_ends : (asked : Option MemoryClock) (given moved : ℕ → Option ℕ) (status : Status) →
      asked ≡ None →
      Ends honest disk later bytes given (MovesOn given moved) left before after status →
      Ends honest disk later bytes (moments_by asked given) (MovesBy asked given moved) left before
      after status
  given_ends asked given moved status is ended =
      subst (λ (a : Option MemoryClock). Ends honest disk later bytes (moments_by a given)
      (MovesBy a given moved) left before after status) (sym is) ended
