-- How a connection begins, and how its ends follow from what stands.
use Rattle.std.proofs.Common.{◌≡◌, ◌<◌, ◌+◌, ℕ, Bool, List, [], ◌∷◌, Option, Some, Err, drop, refl, sym, ap, subst, arith, inl, inr}
use Rattle.outside_world.proofs.SourceLemmas.{with_front-nil}
use Rattle.outside_world.proofs.SinkLemmas.{with_back-nil}
use Rattle.http_model.specs.Requests.{Request, whole, part, refused, IsFront}
use Rattle.wire_model.specs.declared.answer.Answer.{Answer}
use Rattle.wire_model.specs.Transcript.{Told, is_last}
use Rattle.request_loop.specs.declared.connection_end.ConnectionEnd.{ConnectionEnd}
use Rattle.request_loop.specs.declared.connection_end.ConnectionEnd.TheVariants.{Closed, Spent, Cut, Refused, ReadFault, WriteFault, Memory}
use Rattle.request_loop.specs.declared.exchange.Interrupted.{Interrupted}
use Rattle.request_loop.specs.declared.exchange.Interrupted.TheVariants.{BeforeAnswer, BeforeWriting, InWriting}
use Rattle.request_loop.specs.Exchanging.{Exchanges, stopped_by}
use Rattle.request_loop.specs.Serving.{Served}
use Rattle.request_loop.specs.Ending.{Ends, EndsAsTold, EndsEarly, EndsBeforeAnswer, ended_by, RefusedWith}
use Rattle.request_loop.proofs.ServingLemmas.{reads_in_turn}
use Rattle.request_loop.proofs.SoFarLemmas.{SoFar, ends_early, ends_before_answer, ends_in_refusal, ends_refused}
use Rattle.request_loop.proofs.TurnLemmas.{ends_in_answer, ends_unanswered}

-- nothing is a part of a request
pub nothing_is_part : IsFront [] part
unfolding IsFront
nothing_is_part = refl

-- a connection begins with nothing told
pub first_so_far : {A : Type 0} → (answers : A → Request → ℕ → Answer → A → Type 0) (limit : ℕ)
    (first : A) (left taken : Option (List ℕ)) (coming : ℕ → Option ℕ) → 0 < limit →
    SoFar answers limit first first [] 0 left left taken taken coming coming
first_so_far answers limit first left taken coming some = record {
  used = [];
  told = [];
  asks = λ more. refl;
  left_is = sym (with_front-nil left);
  chain = refl;
  count_is = refl;
  goes_on = refl;
  taken_is = sym (with_back-nil taken);
  moments = tt;
  in_range = tt;
  coming_is = λ k. ap coming (let same : k ≡ k + 0 = omega arith in same);
  turns = reads_in_turn limit [] [] [] [] refl nothing_is_part (some, refl);
}

-- a connection that makes no turn leaves everything as it was
pub ends_at_once : {A : Type 0} → (answers : A → Request → ℕ → Answer → A → Type 0)
    (gives_up : A → A → Type 0) (limit : ℕ) (first : A) (bytes : List ℕ)
    (left taken : Option (List ℕ)) (coming : ℕ → Option ℕ) → 0 < limit → left ≡ Some bytes →
    EndsEarly (Served answers gives_up limit first first bytes left coming coming) limit taken taken
ends_at_once answers gives_up limit first bytes left taken coming some told =
    ends_early (first_so_far answers limit first left taken coming some) gives_up bytes told
    (omega arith)

-- an end of the input is an end as told
pub ends_as_ended : (reach : List Told → List ℕ → ℕ → Type 0) (limit : ℕ) (rest : List ℕ)
    (left before after : Option (List ℕ)) →
    EndsAsTold reach limit before after (ended_by rest) →
    Ends reach limit left before after (ended_by rest)
ends_as_ended reach limit [] left before after ends = ends
ends_as_ended reach limit (b ∷ rest) left before after ends = ends

module _ {A : Type 0} {answers : A → Request → ℕ → Answer → A → Type 0} {limit : ℕ}
    {first now : A} {held : List ℕ} {count : ℕ} {left_first left : Option (List ℕ)}
    {taken_first taken : Option (List ℕ)} {coming_first coming : ℕ → Option ℕ}
    (so : SoFar answers limit first now held count left_first left taken_first taken coming_first
    coming) (gives_up : A → A → Type 0) (bytes : List ℕ) (told : left_first ≡ Some bytes)
    (few : count < limit) where
  -- an exchange that stopped ends the connection
  pub ends_stopped : (request : Request) (n : ℕ) (after : A) (taken_later : Option (List ℕ))
      (later : ℕ → Option ℕ) (last : Bool) (why : Interrupted) →
      IsFront held (whole request (drop n held)) → last ≡ is_last limit count request →
      Exchanges answers gives_up (coming 0) request last now after taken taken_later (Err why) →
      ((k : ℕ) → later k ≡ coming (k + 1)) →
      Ends (Served answers gives_up limit first after bytes left coming_first later) limit left
      taken_first taken_later (stopped_by why)
  ends_stopped request n after taken_later later last BeforeAnswer front is same goes =
      inr (inl (subst (λ (t : Option (List ℕ)). EndsBeforeAnswer (Served answers gives_up limit
      first after bytes left coming_first later) limit taken_first t) (sym same.0)
      (ends_before_answer so gives_up bytes told request n after later few front same.1 goes)))
  ends_stopped request n after taken_later later last BeforeWriting front is kept goes =
      inr (inr (ends_unanswered so request n front after kept.was gives_up bytes told few later goes
      taken_later kept.written))
  ends_stopped request n after taken_later later last InWriting front is broken goes =
      inl (ends_in_answer so request n front after broken.was gives_up bytes told few later goes
      taken_later (rw is at broken.written))

  -- what is refused ends the connection
  pub ends_with_refusal : (status : ℕ) (taken_later : Option (List ℕ)) (end : ConnectionEnd) →
      RefusedWith status taken taken_later end → IsFront held (refused status) →
      Ends (Served answers gives_up limit first now bytes left coming_first coming) limit left
      taken_first taken_later end
  ends_with_refusal status taken_later Closed with is = absurd with
  ends_with_refusal status taken_later Spent with is = absurd with
  ends_with_refusal status taken_later ReadFault with is = absurd with
  ends_with_refusal status taken_later (Cut n) with is = absurd with
  ends_with_refusal status taken_later WriteFault with is =
      inr (ends_in_refusal so gives_up bytes told status taken_later few is with)
  ends_with_refusal status taken_later Memory with is =
      inl (subst (λ (t : Option (List ℕ)). EndsEarly (Served answers gives_up limit first now bytes
      left coming_first coming) limit taken_first t) (sym with)
      (ends_early so gives_up bytes told (omega arith)))
  ends_with_refusal status taken_later (Refused other) with is =
      rw with.0 (ends_refused so gives_up bytes told status taken_later few is with.1)
