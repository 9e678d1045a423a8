-- What a connection has done so far, and how one turn goes on from it or ends it.
use Rattle.std.proofs.Common.{◌≡◌, ◌≤◌, ◌<◌, ◌+◌, inl, inr, ℕ, true, false, List, [], ◌∷◌, ◌++◌, Option, Some, None, length, drop, refl, sym, ap, subst, ◌∙◌, arith}
use Rattle.std.proofs.lemmas.List.{append_assoc, append-nil}
use Rattle.outside_world.specs.Source.{with_front, IsSpent}
use Rattle.outside_world.specs.Sink.{with_back, AppendsPart}
use Rattle.outside_world.proofs.SourceLemmas.{with_front-with_front}
use Rattle.outside_world.proofs.SinkLemmas.{with_back-with_back}
use Rattle.http_model.specs.Requests.{Request, whole, part, refused, IsFront}
use Rattle.http_model.proofs.FinalLemmas.{final_stays}
use Rattle.wire_model.specs.declared.answer.Answer.{Answer}
use Rattle.wire_model.specs.declared.answer.Answer.TheVariants.{Head}
use Rattle.wire_model.specs.Transcript.{Told, HasMoments, closes, answer_text, text_of}
use Rattle.request_loop.specs.declared.connection_end.ConnectionEnd.TheVariants.{Refused}
use Rattle.request_loop.specs.Serving.{Asks, Chains, AreMoments, MayGoOn, ReadsInTurn, IsAfter, Served}
use Rattle.request_loop.specs.Ending.{IsEnd, last_text, ended_by, Reached, EndsAsTold, EndsAtRead, EndsInRefusal, EndsEarly, EndsBeforeAnswer}
use Rattle.request_loop.proofs.ServingLemmas.{reads_in_turn}

-- What a connection has done so far: the bytes that it used asked for its requests, whatever follows
-- the bytes that it holds; the answers led from the first state to the one now; and the sink has the
-- text of the answers.
pub record SoFar {A : Type 0} (answers : A → Request → ℕ → Answer → A → Type 0) (limit : ℕ)
    (first now : A) (held : List ℕ) (count : ℕ) (left_first left : Option (List ℕ))
    (taken_first taken : Option (List ℕ)) (coming_first coming : ℕ → Option ℕ) : Type 0 where
  pub used : List ℕ
  pub told : List Told
  pub asks : (more : List ℕ) → Asks (used ++ (held ++ more)) told (held ++ more)
  pub left_is : left_first ≡ with_front (used ++ held) left
  pub chain : Chains answers first told now
  pub count_is : length told ≡ count
  pub goes_on : closes told ≡ false
  pub taken_is : taken ≡ with_back taken_first (text_of limit told)
  pub moments : HasMoments coming_first 0 told
  pub in_range : AreMoments told
  pub coming_is : (k : ℕ) → coming k ≡ coming_first (k + count)
  pub turns : ReadsInTurn limit (used ++ held) told

-- what follows the bytes that are used and held
abbrev pub rest_after : (used held : List ℕ) (left : Option (List ℕ)) (bytes : List ℕ) →
    with_front (used ++ held) left ≡ Some bytes →
    (rest : List ℕ) × (left ≡ Some rest) × (bytes ≡ used ++ (held ++ rest))
rest_after used held None bytes is = cc
rest_after used held (Some rest) bytes is =
    let same : (used ++ held) ++ rest ≡ bytes = cc in
    (rest, refl, sym same ∙ append_assoc used held rest)

-- less than a request at the end of the input ends a connection as nothing does, or as a part does
ended_at_end : (limit : ℕ) (told : List Told) (rest : List ℕ) → MayGoOn limit told →
    IsFront rest part → IsEnd limit told rest (ended_by rest)
ended_at_end limit told [] may front = (may.0, inr (may.1, refl))
ended_at_end limit told (b ∷ rest) may front = (may, omega arith, front, refl)

-- nothing is written after the answers there
ended_quietly : (rest : List ℕ) → last_text (ended_by rest) ≡ []
ended_quietly [] = refl
ended_quietly (b ∷ rest) = refl

module _ {A : Type 0} {answers : A → Request → ℕ → Answer → A → Type 0} {limit : ℕ}
    {first now : A} {held : List ℕ} {count : ℕ} {left_first left : Option (List ℕ)}
    {taken_first taken : Option (List ℕ)} {coming_first coming : ℕ → Option ℕ}
    (so : SoFar answers limit first now held count left_first left taken_first taken coming_first
    coming) where
  -- more requests may be answered
  may_go_on : count < limit → MayGoOn limit so.told
  may_go_on few = let within = so.count_is in (omega arith, so.goes_on)

  -- the bytes that were read are held
  pub more_held : (held_later more : List ℕ) (left_later : Option (List ℕ)) → count < limit →
      IsFront held part → held_later ≡ held ++ more →
      with_front held left ≡ with_front held_later left_later →
      SoFar answers limit first now held_later count left_first left_later taken_first taken
      coming_first coming
  more_held held_later more left_later few waits is same = record {
    used = so.used;
    told = so.told;
    asks = λ rest. subst (λ (bs : List ℕ). Asks (so.used ++ bs) so.told bs)
        (sym (ap (λ xs. xs ++ rest) is ∙ append_assoc held more rest)) (so.asks (more ++ rest));
    left_is = so.left_is ∙ (sym (with_front-with_front so.used held left)
        ∙ (ap (with_front so.used) same ∙ with_front-with_front so.used held_later left_later));
    chain = so.chain;
    count_is = so.count_is;
    goes_on = so.goes_on;
    taken_is = so.taken_is;
    moments = so.moments;
    in_range = so.in_range;
    coming_is = so.coming_is;
    turns = subst (λ (bs : List ℕ). ReadsInTurn limit bs so.told)
        (append_assoc so.used held more ∙ ap (λ xs. so.used ++ xs) (sym is))
        (reads_in_turn limit (so.used ++ held) more so.told held
        (subst (λ (bs : List ℕ). Asks (so.used ++ bs) so.told bs) (append-nil held) (so.asks []))
        waits (may_go_on few));
  }

  module _ (gives_up : A → A → Type 0) (bytes : List ℕ) (told : left_first ≡ Some bytes) where
    -- what follows the bytes that are used and held
    abbrev behind : (rest : List ℕ) × (left ≡ Some rest) × (bytes ≡ so.used ++ (held ++ rest))
    behind = rest_after so.used held left bytes (sym so.left_is ∙ told)

    -- the transcript so far, from all the bytes; the clock may have been read once more for an
    -- answer that never came
    abbrev pub served : (later : A) (coming_later : ℕ → Option ℕ) (reads : ℕ) →
        IsAfter gives_up (length so.told) reads now later →
        ((k : ℕ) → coming_later k ≡ coming_first (k + reads)) →
        Served answers gives_up limit first later bytes left coming_first coming_later so.told
        (held ++ behind.0) reads
    served later coming_later reads state moved = record {
      asks = subst (λ (b : List ℕ). Asks b so.told (held ++ behind.0)) (sym behind.2)
          (so.asks behind.0);
      last = now;
      chain = so.chain;
      state = state;
      moments = so.moments;
      in_range = so.in_range;
      moved = moved;
      read = so.used ++ held;
      read_left = sym so.left_is ∙ told;
      turns = so.turns;
    }

    -- the same, where the clock was read once for each
    abbrev pub reached : count ≤ limit →
        (r : Reached (Served answers gives_up limit first now bytes left coming_first coming) limit)
        × (r.told ≡ so.told) × (r.rest ≡ held ++ behind.0)
    reached few =
        let within = so.count_is in (
          record {
            told = so.told;
            rest = held ++ behind.0;
            holds = served now coming (length so.told) (inl (refl, refl))
                (λ k. so.coming_is k ∙ ap (λ (n : ℕ). coming_first (k + n)) (sym so.count_is));
            within = omega arith;
          },
          refl,
          refl,
        )

    -- memory ran out
    pub ends_early : count ≤ limit →
        EndsEarly (Served answers gives_up limit first now bytes left coming_first coming) limit
        taken_first taken
    ends_early few = record { reached = (reached few).0; written = so.taken_is }

    -- memory ran out before an answer, for which the clock was read
    pub ends_before_answer : (request : Request) (n : ℕ) (later : A) (coming_later : ℕ → Option ℕ) →
        count < limit → IsFront held (whole request (drop n held)) → gives_up now later →
        ((k : ℕ) → coming_later k ≡ coming (k + 1)) →
        EndsBeforeAnswer (Served answers gives_up limit first later bytes left coming_first
        coming_later) limit taken_first taken
    ends_before_answer request n later coming_later few front stop goes = record {
      told = so.told;
      rest = held ++ behind.0;
      holds = served later coming_later (length so.told + 1) (inr (refl, stop))
          (λ k. goes k ∙ (so.coming_is (k + 1) ∙ ap coming_first (let c = so.count_is in
          let e : (k + 1) + count ≡ k + (length so.told + 1) = omega arith in e)));
      goes_on = may_go_on few;
      request = request;
      following = drop n held ++ behind.0;
      asked = final_stays held behind.0 (whole request (drop n held)) tt front;
      written = so.taken_is;
    }

    -- a read failed, and what is held is less than a request
    pub ends_at_read : count < limit → IsFront held part →
        EndsAtRead (Served answers gives_up limit first now bytes left coming_first coming) limit left
        taken_first taken
    ends_at_read few waits = record {
      reached = (reached (omega arith)).0;
      goes_on = may_go_on few;
      unanswered = held;
      waits = waits;
      left_is = ap (with_front held) behind.1;
      written = so.taken_is;
    }

    -- if nothing more is there, the connection ends by what is held
    pub ends_at_end : count < limit → IsSpent left → IsFront held part →
        EndsAsTold (Served answers gives_up limit first now bytes left coming_first coming) limit
        taken_first taken (ended_by held)
    ends_at_end few spent front =
        let none = rw behind.1 at spent in
        let rest : held ++ behind.0 ≡ held = ap (λ xs. held ++ xs) none ∙ append-nil held in
        record {
          reached = (reached (omega arith)).0;
          ends = subst (λ (xs : List ℕ). IsEnd limit so.told xs (ended_by held)) (sym rest)
              (ended_at_end limit so.told held (may_go_on few) front);
          written = so.taken_is ∙ ap (with_back taken_first)
              (rw (ended_quietly held) (sym (append-nil (text_of limit so.told))));
        }

    -- what is refused is so whatever follows, and ends the connection
    refused_end : (status : ℕ) → count < limit → IsFront held (refused status) →
        IsEnd limit so.told (held ++ behind.0) (Refused status)
    refused_end status few is =
        (may_go_on few, final_stays held behind.0 (refused status) tt is)

    -- the connection ends with the response to what is refused
    pub ends_refused : (status : ℕ) (after : Option (List ℕ)) → count < limit →
        IsFront held (refused status) → after ≡ with_back taken (answer_text (Head status) true) →
        EndsAsTold (Served answers gives_up limit first now bytes left coming_first coming) limit
        taken_first after (Refused status)
    ends_refused status after few is written = record {
      reached = (reached (omega arith)).0;
      ends = refused_end status few is;
      written = written ∙ (ap (λ t. with_back t (answer_text (Head status) true)) so.taken_is
          ∙ with_back-with_back taken_first (text_of limit so.told)
          (answer_text (Head status) true));
    }

    -- a write failed within that response
    pub ends_in_refusal : (status : ℕ) (after : Option (List ℕ)) → count < limit →
        IsFront held (refused status) → AppendsPart taken after (answer_text (Head status) true) →
        EndsInRefusal (Served answers gives_up limit first now bytes left coming_first coming) limit
        taken_first after
    ends_in_refusal status after few is broken = record {
      reached = (reached (omega arith)).0;
      status = status;
      ends = refused_end status few is;
      written = rw so.taken_is at broken;
    }
