-- The pages that come before the path stand first in the order.
use Rattle.std.proofs.Common.{◌∙◌}
use Rattle.step_path.specs.Path.{steps_of}
use Rattle.page_store.specs.declared.search.Front.TheVariants.{Before}
use Rattle.page_tree.specs.Rows.{comes_before}
use Rattle.page_store.proofs.Leading.{leading-le-length}
use Rattle.page_store.proofs.SeenLemmas.{place_found, fronts_first}
use Rattle.page_store.proofs.rows.Rows.place_of.Goals as goal

pub count_front-requires-clause-first : goal.count_front-requires-clause-first
count_front-requires-clause-first c =
    rw c.deref.ensures.value (fronts_first _ _ _ _ c.self.invariant (steps_of c.args.path.now))

pub returns-clause-place : goal.returns-clause-place
returns-clause-place c =
    rw (← c.self.view_is) (c.count_front.ensures ∙ rw c.deref.ensures.value (place_found _ _ _ _
    c.self.invariant Before (steps_of c.args.path.now)))

pub returns-clause-within : goal.returns-clause-within
returns-clause-within c =
    rw (returns-clause-place c) (leading-le-length (λ row. comes_before row.path (steps_of
    c.args.path.now)) c.args.self.now.pages)
