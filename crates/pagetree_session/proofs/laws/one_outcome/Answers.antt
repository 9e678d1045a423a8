-- The transcripts are one, and so are their ends.
use Rattle.std.proofs.Common.{◌≡◌, ℕ, Option, subst}
use Rattle.request_loop.specs.Ending.{EndsAsTold}
use Rattle.pagetree_session.specs.declared.session.TheConstants.{ANSWER_LIMIT}
use Rattle.pagetree_session.specs.Ending.{IsPlainTranscript}
use Rattle.pagetree_session.specs.Words.{moments, Moves}
use Rattle.pagetree_session.proofs.OutcomeLemmas.{one_outcome}
use Rattle.pagetree_session.proofs.laws.one_outcome.Goals as goal

pub returns : goal.returns
returns c = λ begin count bytes options other_options given later other_given other_later left
    other_left before after other_after end other tells same e f.
    let alike : moments other_options other_given ≡ moments options given = λ i k. same k i in
    one_outcome begin count bytes (moments options given) (Moves options given later)
    (Moves other_options other_given other_later) left other_left before after other_after end other
    tells e
    (subst (λ (coming : ℕ → Option ℕ). EndsAsTold (IsPlainTranscript begin count bytes coming
    (Moves other_options other_given other_later) other_left) ANSWER_LIMIT before other_after other)
    alike f)
