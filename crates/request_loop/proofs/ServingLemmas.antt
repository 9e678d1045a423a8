-- Requests with one more at their end: what they ask, their answers, moments and texts.
use Rattle.std.proofs.Common.{◌≡◌, ◌≤◌, ◌+◌, ℕ, Bool, true, false, List, [], ◌∷◌, ◌++◌, Option, IfSome, length, refl, sym, ap, subst, ◌∙◌, arith, add-zero}
use Rattle.std.proofs.lemmas.List.{append_assoc, append-nil}
use Rattle.outside_world.specs.declared.clock.TheConstants.{LAST_MOMENT}
use Rattle.http_model.specs.Requests.{Request, whole, part, IsFront}
use Rattle.wire_model.specs.declared.answer.Answer.{Answer}
use Rattle.wire_model.specs.Transcript.{Told, EndsWhereClosing, HasMoments, closes, answer_text, is_last, text_from, text_of}
use Rattle.request_loop.specs.Serving.{Asks, Chains, AreMoments, MayGoOn, ReadsInTurn}

-- no list that goes on is empty
never_empty : (x : Told) (more : List Told) → x ∷ more ≡ [] → ⊥
never_empty x more is = cc

-- a request that does not ask for closing may be followed
open_goes_on : (close : Bool) (more : List Told) → close ≡ false → EndsWhereClosing close more
open_goes_on true more is = cc
open_goes_on false more is = tt

-- a request that was followed may be followed by more
followed_goes_on : (close : Bool) (x : Told) (more other : List Told) →
    EndsWhereClosing close (x ∷ more) → EndsWhereClosing close other
followed_goes_on true x more other ends = absurd (never_empty x more ends)
followed_goes_on false x more other ends = tt

-- nothing follows the last request
followed_by_nothing : (close : Bool) → EndsWhereClosing close []
followed_by_nothing true = refl
followed_by_nothing false = tt

-- one more request is asked for after requests of which the last does not ask for closing
pub Asks-push : (bytes : List ℕ) (told : List Told) (rest : List ℕ) (one : Told) (mid : List ℕ) →
    Asks bytes told rest → closes told ≡ false → IsFront rest (whole one.request mid) →
    Asks bytes (told ++ one ∷ []) mid
Asks-push bytes [] rest one mid asks unclosed asked = (
  mid,
  subst (λ (b : List ℕ). IsFront b (whole one.request mid)) asks asked,
  followed_by_nothing one.request.close,
  refl,
)
Asks-push bytes (first ∷ []) rest one mid asks unclosed asked = (
  asks.0,
  asks.1,
  open_goes_on first.request.close (one ∷ []) unclosed,
  Asks-push asks.0 [] rest one mid asks.3 refl asked,
)
Asks-push bytes (first ∷ next ∷ told) rest one mid asks unclosed asked = (
  asks.0,
  asks.1,
  followed_goes_on first.request.close next told (next ∷ told ++ one ∷ []) asks.2,
  Asks-push asks.0 (next ∷ told) rest one mid asks.3 unclosed asked,
)

-- one more answer leads one step on
pub Chains-push : {A : Type 0} → (answers : A → Request → ℕ → Answer → A → Type 0)
    (first last next : A) (told : List Told) (one : Told) → Chains answers first told last →
    answers last one.request one.moment one.answer next →
    Chains answers first (told ++ one ∷ []) next
Chains-push {A} answers first last next [] one chain answered = (
  next,
  subst (λ (a : A). answers a one.request one.moment one.answer next) chain answered,
  refl,
)
Chains-push answers first last next (x ∷ told) one chain answered = (
  chain.0,
  chain.1,
  Chains-push answers chain.0 last next told one chain.2 answered,
)

-- one more moment is in range
pub AreMoments-push : (told : List Told) (one : Told) → AreMoments told →
    one.moment ≤ LAST_MOMENT → AreMoments (told ++ one ∷ [])
AreMoments-push [] one all last = (last, tt)
AreMoments-push (first ∷ told) one all last = (all.0, AreMoments-push told one all.1 last)

-- one more request was read in turn, since it was read by then
pub ReadsInTurn-push : (limit : ℕ) (read : List ℕ) (told : List Told) (one : Told) →
    ReadsInTurn limit read told → ReadsInTurn limit read (told ++ one ∷ [])
ReadsInTurn-push limit read told one turns = record {
  earlier = turns.earlier;
  piece = turns.piece;
  read_is = turns.read_is;
  first = turns.first;
  more = turns.more ++ one ∷ [];
  told_is = ap (λ (xs : List Told). xs ++ one ∷ []) turns.told_is
      ∙ append_assoc turns.first turns.more (one ∷ []);
  waiting = turns.waiting;
  asks = turns.asks;
  waits = turns.waits;
  goes_on = turns.goes_on;
}

-- a read is in its turn after less than a request
pub reads_in_turn : (limit : ℕ) (earlier piece : List ℕ) (told : List Told) (waiting : List ℕ) →
    Asks earlier told waiting → IsFront waiting part → MayGoOn limit told →
    ReadsInTurn limit (earlier ++ piece) told
reads_in_turn limit earlier piece told waiting asks waits goes_on = record {
  earlier = earlier;
  piece = piece;
  read_is = refl;
  first = told;
  more = [];
  told_is = sym (append-nil told);
  waiting = waiting;
  asks = asks;
  waits = waits;
  goes_on = goes_on;
}

-- the last request of a longer transcript
pub closes-push : (told : List Told) (one : Told) → closes (told ++ one ∷ []) ≡ one.request.close
closes-push [] one = refl
closes-push (first ∷ []) one = refl
closes-push (first ∷ next ∷ told) one = closes-push (next ∷ told) one

-- one moment more
pub HasMoments-push : (coming : ℕ → Option ℕ) (place : ℕ) (told : List Told) (one : Told) →
    HasMoments coming place told →
    IfSome (coming (place + length told)) (λ moment. one.moment ≡ moment) →
    HasMoments coming place (told ++ one ∷ [])
HasMoments-push coming place [] one moments last = (rw add-zero at last, tt)
HasMoments-push coming place (first ∷ told) one moments last =
    let n : place + length (first ∷ told) ≡ (place + 1) + length told = omega arith in (
      moments.0,
      HasMoments-push coming (place + 1) told one moments.1
          (subst (λ (k : ℕ). IfSome (coming k) (λ moment. one.moment ≡ moment)) n last),
    )

-- one answer more
text_from-push : (limit count : ℕ) (told : List Told) (one : Told) →
    text_from limit count (told ++ one ∷ []) ≡ text_from limit count told ++
    answer_text one.answer (is_last limit (count + length told) one.request)
text_from-push limit count [] one =
    rw add-zero (append-nil (answer_text one.answer (is_last limit count one.request)))
text_from-push limit count (first ∷ told) one =
    let n : count + length (first ∷ told) ≡ (count + 1) + length told = omega arith in
    rw (n, text_from-push limit (count + 1) told one)
    (sym (append_assoc (answer_text first.answer (is_last limit count first.request))
    (text_from limit (count + 1) told) _))

-- the text of a transcript with one more request is its text with one more answer
pub text_of-push : (limit : ℕ) (told : List Told) (one : Told) →
    text_of limit (told ++ one ∷ []) ≡ text_of limit told ++
    answer_text one.answer (is_last limit (length told) one.request)
text_of-push limit told one =
    let n : 0 + length told ≡ length told = omega arith in
    rw n at (text_from-push limit 0 told one)
