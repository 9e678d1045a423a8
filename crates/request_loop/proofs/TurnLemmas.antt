-- One more request after what a connection has done so far: how it goes on, and how it ends with it.
use Rattle.std.proofs.Common.{◌≡◌, ◌<◌, ◌+◌, inl, ℕ, true, false, List, [], ◌∷◌, ◌++◌, Option, Some, IfSome, length, take, drop, refl, sym, ap, subst, ◌∙◌, arith}
use Rattle.std.proofs.lemmas.List.{append_assoc, append-nil, take-append-drop, length-append}
use Rattle.outside_world.specs.Source.{with_front}
use Rattle.outside_world.specs.Sink.{with_back, AppendsPart}
use Rattle.outside_world.proofs.SinkLemmas.{with_back-with_back}
use Rattle.http_model.specs.Requests.{Request, whole, IsFront}
use Rattle.http_model.proofs.FinalLemmas.{final_stays}
use Rattle.wire_model.specs.declared.answer.Answer.{Answer}
use Rattle.wire_model.specs.Transcript.{Told, HasMoments, answer_text, is_last, text_of}
use Rattle.request_loop.specs.declared.connection_end.ConnectionEnd.TheVariants.{Closed, Spent}
use Rattle.request_loop.specs.Serving.{Asks, ReadsInTurn, Served}
use Rattle.request_loop.specs.Exchanging.{WasAnswered}
use Rattle.request_loop.specs.Ending.{Reached, EndsAsTold, EndsInAnswer, EndsUnanswered}
use Rattle.request_loop.proofs.ServingLemmas.{Asks-push, Chains-push, AreMoments-push, ReadsInTurn-push, HasMoments-push, text_of-push, closes-push}
use Rattle.request_loop.proofs.SoFarLemmas.{SoFar, rest_after}

module _ {A : Type 0} {answers : A → Request → ℕ → Answer → A → Type 0} {limit : ℕ}
    {first now : A} {held : List ℕ} {count : ℕ} {left_first left : Option (List ℕ)}
    {taken_first taken : Option (List ℕ)} {coming_first coming : ℕ → Option ℕ}
    (so : SoFar answers limit first now held count left_first left taken_first taken coming_first
    coming) (request : Request) (n : ℕ) (front : IsFront held (whole request (drop n held)))
    (after : A) (was : WasAnswered answers (coming 0) request now after) where
  -- the request with its moment and its answer
  abbrev pub one : Told
  one = record { request = request; moment = was.moment; answer = was.answer }

  -- the used bytes and the held ones are the same bytes
  same_bytes : (rest : List ℕ) →
      so.used ++ (held ++ rest) ≡ (so.used ++ take n held) ++ (drop n held ++ rest)
  same_bytes rest =
      ap (λ xs. so.used ++ (xs ++ rest)) (sym (take-append-drop n held))
      ∙ (ap (λ xs. so.used ++ xs) (append_assoc (take n held) (drop n held) rest)
      ∙ sym (append_assoc so.used (take n held) (drop n held ++ rest)))

  -- so are those that were read
  same_read : so.used ++ held ≡ (so.used ++ take n held) ++ drop n held
  same_read =
      ap (λ xs. so.used ++ xs) (sym (take-append-drop n held))
      ∙ sym (append_assoc so.used (take n held) (drop n held))

  -- the new request is asked for too, whatever follows
  asks_more : (rest : List ℕ) →
      Asks ((so.used ++ take n held) ++ (drop n held ++ rest)) (so.told ++ one ∷ [])
      (drop n held ++ rest)
  asks_more rest =
      let there = final_stays held rest (whole request (drop n held)) tt front in
      subst (λ (b : List ℕ). Asks b (so.told ++ one ∷ []) (drop n held ++ rest))
      (same_bytes rest)
      (Asks-push (so.used ++ (held ++ rest)) so.told (held ++ rest) one (drop n held ++ rest)
      (so.asks rest) so.goes_on there)

  -- the moments with the new one
  moments_more : HasMoments coming_first 0 (so.told ++ one ∷ [])
  moments_more =
      let place : 0 + count ≡ 0 + length so.told = let c = so.count_is in omega arith in
      HasMoments-push coming_first 0 so.told one so.moments
      (subst (λ (o : Option ℕ). IfSome o (λ given. was.moment ≡ given))
      (so.coming_is 0 ∙ ap coming_first place) was.moment_is)

  -- the text with the new answer
  text_more : text_of limit (so.told ++ one ∷ []) ≡
      text_of limit so.told ++ answer_text was.answer (is_last limit count request)
  text_more =
      text_of-push limit so.told one
      ∙ ap (λ c. text_of limit so.told ++ answer_text was.answer (is_last limit c request))
      so.count_is

  -- what the sink then has
  taken_more : (taken_later : Option (List ℕ)) →
      taken_later ≡ with_back taken (answer_text was.answer (is_last limit count request)) →
      taken_later ≡ with_back taken_first (text_of limit (so.told ++ one ∷ []))
  taken_more taken_later written =
      written
      ∙ (ap (λ t. with_back t (answer_text was.answer (is_last limit count request))) so.taken_is
      ∙ (with_back-with_back taken_first (text_of limit so.told) _
      ∙ ap (with_back taken_first) (sym text_more)))

  -- there is one request more
  count_more : length (so.told ++ one ∷ []) ≡ count + 1
  count_more =
      let c = so.count_is in let l = length-append so.told (one ∷ []) in omega arith

  -- the moments still to come are those after one more
  coming_more : (later : ℕ → Option ℕ) → ((k : ℕ) → later k ≡ coming (k + 1)) → (k : ℕ) →
      later k ≡ coming_first (k + (count + 1))
  coming_more later goes k =
      goes k ∙ (so.coming_is (k + 1)
      ∙ ap coming_first (let e : (k + 1) + count ≡ k + (count + 1) = omega arith in e))

  -- a request more was answered, and its answer written, and it does not ask for closing
  pub answered_more : (taken_later : Option (List ℕ)) (later : ℕ → Option ℕ) →
      request.close ≡ false →
      taken_later ≡ with_back taken (answer_text was.answer (is_last limit count request)) →
      ((k : ℕ) → later k ≡ coming (k + 1)) →
      SoFar answers limit first after (drop n held) (count + 1) left_first left taken_first
      taken_later coming_first later
  answered_more taken_later later stays written goes = record {
    used = so.used ++ take n held;
    told = so.told ++ one ∷ [];
    asks = asks_more;
    left_is = so.left_is ∙ ap (λ xs. with_front xs left) same_read;
    chain = Chains-push answers first now after so.told one so.chain was.answered;
    count_is = count_more;
    goes_on = closes-push so.told one ∙ stays;
    taken_is = taken_more taken_later written;
    moments = moments_more;
    in_range = AreMoments-push so.told one so.in_range was.in_range;
    coming_is = coming_more later goes;
    turns = subst (λ (bs : List ℕ). ReadsInTurn limit bs (so.told ++ one ∷ [])) same_read
        (ReadsInTurn-push limit (so.used ++ held) so.told one so.turns);
  }

  module _ (gives_up : A → A → Type 0) (bytes : List ℕ) (told : left_first ≡ Some bytes)
      (few : count < limit) (later : ℕ → Option ℕ) (goes : (k : ℕ) → later k ≡ coming (k + 1))
    where
      -- what is known of the requests, with this one
      abbrev pub reach_more : List Told → List ℕ → ℕ → Type 0
      reach_more = Served answers gives_up limit first after bytes left coming_first later

      -- what follows the bytes that are used and held
      abbrev behind : (rest : List ℕ) × (left ≡ Some rest) × (bytes ≡ so.used ++ (held ++ rest))
      behind = rest_after so.used held left bytes (sym so.left_is ∙ told)

      -- the transcript with the new request, from all the bytes
      abbrev reached_more : (r : Reached reach_more limit) × (r.told ≡ so.told ++ one ∷ [])
      reached_more =
          let c = count_more in (
            record {
              told = so.told ++ one ∷ [];
              rest = drop n held ++ behind.0;
              holds = record {
                asks = subst (λ (b : List ℕ). Asks b (so.told ++ one ∷ []) (drop n held ++ behind.0))
                    (sym (behind.2 ∙ same_bytes behind.0)) (asks_more behind.0);
                last = after;
                chain = Chains-push answers first now after so.told one so.chain was.answered;
                state = inl (refl, refl);
                moments = moments_more;
                in_range = AreMoments-push so.told one so.in_range was.in_range;
                moved = λ k. coming_more later goes k
                    ∙ ap (λ (m : ℕ). coming_first (k + m)) (sym count_more);
                read = so.used ++ held;
                read_left = sym so.left_is ∙ told;
                turns = ReadsInTurn-push limit (so.used ++ held) so.told one so.turns;
              };
              within = omega arith;
            },
            refl,
          )

      -- as many requests were answered as the limit allows
      pub ends_spent : (taken_later : Option (List ℕ)) → count + 1 ≡ limit →
          taken_later ≡ with_back taken (answer_text was.answer (is_last limit count request)) →
          EndsAsTold reach_more limit taken_first taken_later Spent
      ends_spent taken_later all written = record {
        reached = reached_more.0;
        ends = count_more ∙ all;
        written = taken_more taken_later written
            ∙ ap (with_back taken_first) (sym (append-nil (text_of limit (so.told ++ one ∷ []))));
      }

      -- the last request asks for closing
      pub ends_closed : (taken_later : Option (List ℕ)) → count + 1 < limit →
          request.close ≡ true →
          taken_later ≡ with_back taken (answer_text was.answer (is_last limit count request)) →
          EndsAsTold reach_more limit taken_first taken_later Closed
      ends_closed taken_later fewer asks written = record {
        reached = reached_more.0;
        ends = (let c = count_more in omega arith, inl (closes-push so.told one ∙ asks));
        written = taken_more taken_later written
            ∙ ap (with_back taken_first) (sym (append-nil (text_of limit (so.told ++ one ∷ []))));
      }

      -- a write failed within the answer
      pub ends_in_answer : (taken_later : Option (List ℕ)) →
          AppendsPart taken taken_later (answer_text was.answer (is_last limit count request)) →
          EndsInAnswer reach_more limit taken_first taken_later
      ends_in_answer taken_later broken = record {
        reached = reached_more.0;
        earlier = so.told;
        last = one;
        told = reached_more.1;
        written = rw (so.taken_is, ← so.count_is) at broken;
      }

      -- memory ran out before the answer was written
      pub ends_unanswered : (taken_later : Option (List ℕ)) → taken_later ≡ taken →
          EndsUnanswered reach_more limit taken_first taken_later
      ends_unanswered taken_later same = record {
        reached = reached_more.0;
        earlier = so.told;
        last = one;
        told = reached_more.1;
        written = same ∙ so.taken_is;
      }
