-- Each turn goes on from what was done so far, or ends the connection.
use Rattle.std.proofs.Common.{◌≡◌, ◌+◌, ◌-◌, ℕ, subst, arith}
use Rattle.std.proofs.lemmas.List.{length-drop}
use Rattle.http_model.proofs.BoundLemmas.{part_is_short}
use Rattle.request_loop.proofs.SoFarLemmas.{more_held, ends_at_read, ends_at_end}
use Rattle.request_loop.proofs.TurnLemmas.{answered_more, ends_spent, ends_closed}
use Rattle.request_loop.proofs.ServeLemmas.{first_so_far, ends_as_ended, ends_stopped, ends_with_refusal}
use Rattle.request_loop.proofs.turns.serve_from.Goals as goal

pub turns-init : goal.turns-init
turns-init g c = record {
  so = rw c.requires.empty (first_so_far _ _ _ _ _ _ c.requires.some);
  knows = c.requires.new _;
  few = c.requires.some;
  may = subst (λ (n : ℕ). g.A.Answerer.may_answer c.args.answerer.now n)
      (let all : c.args.limit ≡ c.args.limit - 0 = omega arith in all) c.requires.may;
  fits = rw c.requires.empty (omega arith);
  source_later = omega arith;
  sink_later = omega arith;
}

pub exchange-requires : goal.exchange-requires
exchange-requires g c =
    let few = c.turns.invariant.few in
    let one_more : c.args.limit - c.turns.answered ≡ (c.args.limit - c.turns.answered - 1) + 1 =
    omega arith in (
      c.args.limit - c.turns.answered - 1,
      subst (λ (n : ℕ). g.A.Answerer.may_answer c.turns.answerer n) one_more c.turns.invariant.may,
    )

pub returns-in-Err-clause-ends : goal.returns-in-Err-clause-ends
returns-in-Err-clause-ends g c = λ bytes told.
    let front = rw c.bytes.ensures at c.in-Whole.ensures.front in
    rw c.from.ensures (ends_stopped c.turns.invariant.so _ bytes told c.turns.invariant.few _ _ _ _ _
    _ c.in-Err.why front.1 c.is_last-last.ensures c.in-Err.ensures.exchanged
    c.exchange.ensures.clock)

pub returns-then-answered-limit-clause-ends : goal.returns-then-answered-limit-clause-ends
returns-then-answered-limit-clause-ends g c = λ bytes told.
    let front = rw c.bytes.ensures at c.in-Whole.ensures.front in
    let written = rw c.is_last-last.ensures at c.in-Ok.ensures.exchanged in
    ends_spent c.turns.invariant.so _ _ front.1 _ written.was _ bytes told c.turns.invariant.few _
    c.exchange.ensures.clock _ c.if-answered-limit.true written.written

pub returns-then-request-clause-ends : goal.returns-then-request-clause-ends
returns-then-request-clause-ends g c = λ bytes told.
    let few = c.turns.invariant.few in
    let front = rw c.bytes.ensures at c.in-Whole.ensures.front in
    let written = rw c.is_last-last.ensures at c.in-Ok.ensures.exchanged in
    ends_closed c.turns.invariant.so _ _ front.1 _ written.was _ bytes told few _
    c.exchange.ensures.clock _ (omega (arith, c.if-answered-limit.false)) c.if-request.true
    written.written

pub turns-preserved-in-Whole : goal.turns-preserved-in-Whole
turns-preserved-in-Whole g c =
    let few = c.turns.invariant.few in
    let front = rw c.bytes.ensures at c.in-Whole.ensures.front in
    let written = rw c.is_last-last.ensures at c.in-Ok.ensures.exchanged in
    let one_more : c.args.limit - c.turns.answered
    ≡ (c.args.limit - (c.turns.answered + 1)) + 1 = omega arith in
    record {
      so = rw c.skip.ensures (answered_more c.turns.invariant.so _ _ front.1 _ written.was _ _
          c.if-request.false written.written c.exchange.ensures.clock);
      knows = c.in-Whole.ensures.knows _;
      few = omega (arith, c.if-answered-limit.false);
      may = c.in-Ok.ensures.may _ (subst (λ (n : ℕ). g.A.Answerer.may_answer c.turns.answerer n)
          one_more c.turns.invariant.may);
      fits = rw (c.skip.ensures, length-drop c.in-Whole.used c.turns.buffer)
          (let fits = c.turns.invariant.fits in omega arith);
      source_later = c.turns.invariant.source_later;
      sink_later = let now = c.exchange.ensures.later in
          let before = c.turns.invariant.sink_later in omega arith;
    }

pub returns-in-Refused-clause-ends : goal.returns-in-Refused-clause-ends
returns-in-Refused-clause-ends g c = λ bytes told.
    let front = rw c.bytes.ensures at c.in-Refused.ensures.front in
    ends_with_refusal c.turns.invariant.so _ bytes told c.turns.invariant.few _ _ _
    c.refused.ensures.response front

pub fill-requires : goal.fill-requires
fill-requires g c =
    let short = part_is_short c.turns.buffer (rw c.bytes.ensures at c.in-Partial.ensures.front) in
    omega arith

pub returns-in-Ok-eq0-clause-ends : goal.returns-in-Ok-eq0-clause-ends
returns-in-Ok-eq0-clause-ends g c = λ bytes told.
    let few = c.turns.invariant.few in
    let front = rw c.bytes.ensures at c.in-Partial.ensures.front in
    let ends = c.in-Ok-eq0.ensures.ends c.in-Ok-eq0.field-0-test in
    let later = more_held c.turns.invariant.so _ _ _ few front c.fill.ensures.grows.1
    c.fill.ensures.bytes in
    rw (c.ended.ensures, c.bytes-in-Ok-eq0.ensures)
    (ends_as_ended _ _ c.fill.new.self _ _ _ (ends_at_end later _ bytes told few ends.1
    (rw ends.0 front)))

pub turns-preserved : goal.turns-preserved
turns-preserved g c =
    let front = rw c.bytes.ensures at c.in-Partial.ensures.front in
    record {
      so = more_held c.turns.invariant.so _ _ _ c.turns.invariant.few front
          c.fill.ensures.grows.1 c.fill.ensures.bytes;
      knows = rw c.fill.ensures.grows.1
          ((rw c.bytes.ensures at c.in-Partial.ensures.knows) c.fill.ensures.grows.0);
      few = c.turns.invariant.few;
      may = c.turns.invariant.may;
      fits = c.fill.ensures.fits;
      source_later = let before = c.turns.invariant.source_later in
          let now = c.fill.ensures.later in omega arith;
      sink_later = c.turns.invariant.sink_later;
    }

pub returns-in-Err-fill-clause-ends : goal.returns-in-Err-fill-clause-ends
returns-in-Err-fill-clause-ends g c = λ bytes told.
    let few = c.turns.invariant.few in
    let front = rw c.bytes.ensures at c.in-Partial.ensures.front in
    let later = more_held c.turns.invariant.so _ _ _ few front c.fill.ensures.grows.1
    c.fill.ensures.bytes in
    ends_at_read later _ bytes told few (rw c.in-Err-fill.ensures.err front)
