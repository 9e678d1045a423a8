-- Two sessions on the same bytes and moments, of which no call failed, end alike.
use Rattle.std.proofs.Common.{◌≡◌, ◌≤◌, ℕ, List, [], ◌++◌, length, Option, sym, ap, subst, ◌∙◌, inl, inr, arith}
use Rattle.std.specs.Prelude.{IsSome}
use Rattle.outside_world.specs.Sink.{with_back}
use Rattle.http_model.specs.Requests.{whole, part, refused, IsFront}
use Rattle.http_model.proofs.FrontLemmas.{one_front}
use Rattle.pagetree_session.specs.declared.session.TheConstants.{ANSWER_LIMIT}
use Rattle.wire_model.specs.Exchange.{Past}
use Rattle.wire_model.specs.Laws.{AsksNothing}
use Rattle.wire_model.specs.Transcript.{Told, Follows, HasMoments, ArePlain, text_of}
use Rattle.wire_model.proofs.TranscriptLemmas.{one_transcript, nothing_asked_is_last, closing_is_last}
use Rattle.request_loop.specs.declared.connection_end.ConnectionEnd.{ConnectionEnd}
use Rattle.request_loop.specs.declared.connection_end.ConnectionEnd.TheVariants as ends
use Rattle.request_loop.specs.Ending.{IsEnd, EndsAsTold, last_text}
use Rattle.request_loop.proofs.ServeLemmas.{nothing_is_part}
use Rattle.request_loop.proofs.EndLemmas.{one_end}
use Rattle.pagetree_session.specs.Ending.{IsPlainTranscript}

-- less than a request asks nothing
part_asks_nothing : (rest : List ℕ) → IsFront rest part → AsksNothing rest
part_asks_nothing rest waits = λ request after is.
    let same : part ≡ whole request after = one_front rest part (whole request after) waits is in cc

-- what is refused asks nothing
refused_asks_nothing : (rest : List ℕ) (status : ℕ) → IsFront rest (refused status) →
    AsksNothing rest
refused_asks_nothing rest status is = λ request after other.
    let same : refused status ≡ whole request after =
    one_front rest (refused status) (whole request after) is other in cc

module _ (coming : ℕ → Option ℕ) (past after later : Past) (count first second : ℕ)
    (bytes rest left : List ℕ) (told other : List Told) (plain : ArePlain told)
    (other_plain : ArePlain other) (tells : (k : ℕ) → IsSome (coming k))
    (moments : HasMoments coming 0 told) (other_moments : HasMoments coming 0 other)
    (follows : Follows past count bytes told after first rest)
    (other_follows : Follows past count bytes other later second left)
    (within : length other ≤ ANSWER_LIMIT) where
  -- no transcript is longer, if no request is left
  last_if_nothing : AsksNothing rest → length other ≤ length told
  last_if_nothing none =
      nothing_asked_is_last coming 0 past after later count first second bytes rest left told other
      plain other_plain tells moments other_moments follows other_follows none

  -- no transcript is longer than one at whose end the bytes end it
  no_longer : (end : ConnectionEnd) → IsEnd ANSWER_LIMIT told rest end →
      length other ≤ length told
  no_longer ends.Spent all = omega arith
  no_longer ends.Closed (few, inl closed) =
      closing_is_last coming 0 past after later count first second bytes rest left told other plain
      other_plain tells moments other_moments follows other_follows closed
  no_longer ends.Closed (few, inr open_end) =
      last_if_nothing (rw open_end.1 (part_asks_nothing [] nothing_is_part))
  no_longer (ends.Cut count) is = last_if_nothing (part_asks_nothing rest is.2)
  no_longer (ends.Refused status) is = last_if_nothing (refused_asks_nothing rest status is.1)
  no_longer ends.ReadFault is = absurd is
  no_longer ends.WriteFault is = absurd is
  no_longer ends.Memory is = absurd is

-- two sessions on the same bytes and moments, in which no call failed and memory sufficed, end alike
-- and write the same
pub one_outcome : (begin : Past) (count : ℕ) (bytes : List ℕ) (coming : ℕ → Option ℕ)
    (HasMoved OtherMoved : ℕ → Type 0) (left other_left before after other_after : Option (List ℕ))
    (end other : ConnectionEnd) → ((k : ℕ) → IsSome (coming k)) →
    EndsAsTold (IsPlainTranscript begin count bytes coming HasMoved left) ANSWER_LIMIT before after
    end →
    EndsAsTold (IsPlainTranscript begin count bytes coming OtherMoved other_left) ANSWER_LIMIT before
    other_after other → (end ≡ other) × (after ≡ other_after)
one_outcome begin count bytes coming HasMoved OtherMoved left other_left before after other_after end
    other tells e f =
    let a = e.reached.holds.0 in
    let b = f.reached.holds.0 in
    let plain = e.reached.holds.1 in
    let other_plain = f.reached.holds.1 in
    let fewer = no_longer coming begin a.past b.past count a.last_count b.last_count bytes
    e.reached.rest f.reached.rest e.reached.told f.reached.told plain other_plain tells a.moments
    b.moments a.follows b.follows f.reached.within end e.ends in
    let more = no_longer coming begin b.past a.past count b.last_count a.last_count bytes
    f.reached.rest e.reached.rest f.reached.told e.reached.told other_plain plain tells b.moments
    a.moments b.follows a.follows e.reached.within other f.ends in
    let alike : length e.reached.told ≡ length f.reached.told = omega arith in
    let one = one_transcript coming 0 begin a.past b.past count a.last_count b.last_count bytes
    e.reached.rest f.reached.rest e.reached.told f.reached.told plain other_plain tells a.moments
    b.moments a.follows b.follows alike in
    let ends_f : IsEnd ANSWER_LIMIT e.reached.told e.reached.rest other =
    subst (λ (t : List Told). IsEnd ANSWER_LIMIT t e.reached.rest other) (sym one.0)
    (subst (λ (r : List ℕ). IsEnd ANSWER_LIMIT f.reached.told r other) (sym one.3) f.ends) in
    let same = one_end ANSWER_LIMIT e.reached.told e.reached.rest end other e.ends ends_f in
    let text : text_of ANSWER_LIMIT e.reached.told ++ last_text end
    ≡ text_of ANSWER_LIMIT f.reached.told ++ last_text other =
    (λ i. text_of ANSWER_LIMIT (one.0 i) ++ last_text (same i)) in
    (same, e.written ∙ (ap (with_back before) text ∙ sym f.written))
