-- What the chain of a session's answers comes to: one history, whose transcript it is.
use Rattle.std.proofs.Common.{◌≡◌, inl, inr, ℕ, List, [], ◌∷◌, Option, Result, Ok, Err, IfOk, refl, sym, ap, subst}
use Rattle.http_model.specs.Requests.{Request}
use Rattle.site_ids.specs.declared.no_memory.NoMemory.{NoMemory}
use Rattle.wire_model.specs.declared.answer.Answer.{Answer}
use Rattle.wire_model.specs.Exchange.{Past}
use Rattle.wire_model.specs.Transcript.{Told, Follows}
use Rattle.request_loop.specs.declared.connection_end.ConnectionEnd.{ConnectionEnd}
use Rattle.request_loop.specs.Serving.{Asks, Chains, IsAfter, Served}
use Rattle.request_loop.specs.Ending as loops
use Rattle.request_loop.proofs.MapLemmas.{Ends-map}
use Rattle.pagetree_session.specs.declared.session.TheConstants.{ANSWER_LIMIT}
use Rattle.pagetree_session.specs.Ending.{IsServed, MovesOn}
use Rattle.pagetree_session.specs.Standing.{Seen, IsReady, HasKept, GoesOn, MayAnswer, Answered, Keeps}
use Rattle.pagetree_session.proofs.StoreLemmas.{kept_is_left}

-- a store that answered a request may be asked more
pub may_go_on : (honest still : Type 0) (before after : Seen) (request : Request) (moment : ℕ)
    (r : Result Answer NoMemory) → MayAnswer before →
    IfOk r (λ answer. Answered honest before request moment answer still after) →
    IfOk r (λ _. MayAnswer after)
may_go_on honest still before after request moment (Ok answer) (past, ready) answered =
    let was = answered past ready in (was.0, was.2.ready)
may_go_on honest still before after request moment (Err none) may answered = tt

module _ {A : Type 0} (honest : A → Type 0) (seen : A → Seen) where
  -- how an answerer with such a store answers
  abbrev pub answers_by : A → Request → ℕ → Answer → A → Type 0
  answers_by before request moment answer after =
      Answered (honest before) (seen before) request moment answer (honest after) (seen after)

  -- and gives up
  abbrev pub gives_up_by : A → A → Type 0
  gives_up_by before after = Keeps (honest before) (seen before) (honest after) (seen after)

  -- one step after another
  goes_on : (first mid last : A) (begin past next : Past) →
      GoesOn (honest first) (seen first) begin (honest mid) (seen mid) past →
      GoesOn (honest mid) (seen mid) past (honest last) (seen last) next →
      GoesOn (honest first) (seen first) begin (honest last) (seen last) next
  goes_on first mid last begin past next one other = record {
    ready = other.ready;
    still_honest = λ is. other.still_honest (one.still_honest is);
    kept = λ is kept. other.kept (one.still_honest is) (one.kept is kept);
  }

  -- the requests in the bytes, answered one after another, are a transcript of the history
  chain_follows : (past : Past) (bytes : List ℕ) (told : List Told) (rest : List ℕ)
      (first last : A) → IsReady (seen first) past → Asks bytes told rest →
      Chains answers_by first told last →
      (after : Past) × Follows past (seen first).count bytes told after (seen last).count rest
      × GoesOn (honest first) (seen first) past (honest last) (seen last) after
  chain_follows past bytes [] rest first last ready asks chain = (
    past,
    (refl, ap (λ (a : A). (seen a).count) chain, asks),
    subst (λ (a : A). GoesOn (honest first) (seen first) past (honest a) (seen a) past) (sym chain)
        (record { ready = ready; still_honest = λ is. is; kept = λ is kept. kept }),
  )
  chain_follows past bytes (x ∷ told) rest first last ready asks chain =
      let was = chain.1 past ready in
      let onward = chain_follows was.0 asks.0 told rest chain.0 last was.2.ready asks.3 chain.2 in (
        onward.0,
        (asks.0, was.0, (seen chain.0).count, asks.1, was.1, asks.2, onward.1),
        goes_on first chain.0 last past was.0 onward.0 was.2 onward.2,
      )

  -- what gave up after the last answer is at what that left
  given_up : (past : Past) (count reads : ℕ) (last now : A) → IsReady (seen last) past →
      IsAfter gives_up_by count reads last now →
      ((seen now).count ≡ (seen last).count)
      × GoesOn (honest last) (seen last) past (honest now) (seen now) past
  given_up past count reads last now ready (inl (same, is)) = (
    ap (λ (a : A). (seen a).count) is,
    subst (λ (a : A). GoesOn (honest last) (seen last) past (honest a) (seen a) past) (sym is)
        (record { ready = ready; still_honest = λ h. h; kept = λ h kept. kept }),
  )
  given_up past count reads last now ready (inr (more, keeps)) = (keeps.0, keeps.1 past ready)

  module _ (first now : A) (begin : Past) (bytes : List ℕ) (left : Option (List ℕ))
      (coming later : ℕ → Option ℕ) (ready : IsReady (seen first) begin) where
    -- what is known of a session's requests
    abbrev pub session_served : List Told → List ℕ → ℕ → Type 0
    session_served =
        Served answers_by gives_up_by ANSWER_LIMIT first now bytes left coming later

    -- what was served is a transcript from the history on that the store was at
    served_transcript : (told : List Told) (rest : List ℕ) (reads : ℕ) →
        session_served told rest reads →
        IsServed (honest first × HasKept (seen first) begin)
        (record { past = (seen now).past; count = (seen now).count }) begin (seen first).count bytes
        coming (MovesOn coming later) left told rest reads
    served_transcript told rest reads served =
        let follows = chain_follows begin bytes told rest first served.last ready served.asks
        served.chain in
        let up = given_up follows.0 _ reads served.last now follows.2.ready served.state in
        let goes = goes_on first served.last now begin follows.0 follows.0 follows.2 up.1 in
        record {
          transcript = record {
            past = follows.0;
            last_count = (seen served.last).count;
            follows = follows.1;
            moments = served.moments;
            in_range = served.in_range;
            moved = served.moved;
            read = served.read;
            read_left = served.read_left;
            turns = served.turns;
          };
          count_is = up.0;
          on_disk = λ had. kept_is_left (seen now) follows.0 goes.ready (goes.kept had.0 had.1);
        }

    -- so a session ends as its connection does
    pub session_ends : (before after : Option (List ℕ)) (end : ConnectionEnd) →
        loops.Ends session_served ANSWER_LIMIT left before after end →
        loops.Ends (IsServed (honest first × HasKept (seen first) begin)
        (record { past = (seen now).past; count = (seen now).count }) begin (seen first).count bytes
        coming (MovesOn coming later) left) ANSWER_LIMIT left before after end
    session_ends before after end ended =
        Ends-map served_transcript ANSWER_LIMIT left before after end ended
