-- What is kept then stands for the pairs with the new one.
use Rattle.std.proofs.Common.{◌≡◌, None, sym, subst}
use Rattle.time_table.specs.Table.{TimeList, moment_in}
use Rattle.time_table.proofs.TableLemmas.{put_kept}
use Rattle.time_table.proofs.table.TimeTable.add.Goals as goal

pub invariant_of-self : goal.invariant_of-self
invariant_of-self c =
    let none = subst (λ (v : TimeList). moment_in v.entries c.args.page ≡ None) (sym c.self.view_is)
    c.requires.absent in
    rw (c.put_at.ensures.items)
    (put_kept _ _ _ c.args.page c.args.at c.self.invariant none c.put_moment.ensures.updates)
