-- What is kept then stands for the pairs without the page's.
use Rattle.std.proofs.Common.{◌∙◌, sym, ap}
use Rattle.time_table.specs.Table.{TimeList, without}
use Rattle.time_table.proofs.TableLemmas.{taken_kept, nothing_taken}
use Rattle.time_table.proofs.table.TimeTable.clear.Goals as goal

pub invariant_of-self : goal.invariant_of-self
invariant_of-self c =
    rw (c.take_out.ensures.items)
    (taken_kept _ _ _ c.args.page c.self.invariant c.swap_remove.ensures.updates.0)

pub returns-in_default-clause-entries : goal.returns-in_default-clause-entries
returns-in_default-clause-entries c =
    let none = sym (c.self.invariant.found c.args.page) ∙ sym c.swap_remove.ensures.value ∙ c.in_default.is in
    sym (nothing_taken c.args.page c.self.inside.order.items none)
    ∙ ap (λ (v : TimeList). without c.args.page v.entries) c.self.view_is
