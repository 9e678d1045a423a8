-- The grants at the page give what all grants give there.
use Rattle.std.proofs.Common.{List, ap, ◌∙◌}
use Rattle.std.specs.List.{list_any}
use Rattle.site_types.specs.declared.world_rows.Grant.{Grant}
use Rattle.grants.specs.Granted.{held_where, gives_any}
use Rattle.grants.proofs.HeldLemmas.{given_here}
use Rattle.grants.proofs.right.granted_at.Goals as goal

pub returns : goal.returns
returns c =
    c.granted_by.ensures
    ∙ (ap (λ (grants : List Grant). held_where (λ p. list_any (gives_any c.args.members.now p) grants))
    c.grants_at.ensures
    ∙ given_here c.args.grants.now c.args.members.now c.args.page)
