-- Where memory runs out at once, nothing is done.
use Rattle.std.proofs.Common.{inl}
use Rattle.request_loop.proofs.ServeLemmas.{ends_at_once}
use Rattle.request_loop.proofs.turns.serve.Goals as goal

pub returns-in_default-clause-ends : goal.returns-in_default-clause-ends
returns-in_default-clause-ends g c = λ bytes told.
    inl (ends_at_once _ _ _ _ bytes _ _ _ c.requires.some told)

pub returns-in_default-new-clause-ends : goal.returns-in_default-new-clause-ends
returns-in_default-new-clause-ends g c = λ bytes told.
    inl (ends_at_once _ _ _ _ bytes _ _ _ c.requires.some told)
