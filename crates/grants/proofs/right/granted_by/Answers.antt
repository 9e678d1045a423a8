-- Each grant adds what it gives.
use Rattle.std.proofs.Common.{List, refl, ap, ◌∙◌, arith}
use Rattle.std.specs.List.{list_any}
use Rattle.std.proofs.lemmas.List.{take_all}
use Rattle.site_types.specs.declared.world_rows.Grant.{Grant}
use Rattle.grants.specs.Granted.{held_where, held_either, gives_any}
use Rattle.grants.proofs.HeldLemmas.{one_more}
use Rattle.grants.proofs.right.granted_by.Goals as goal

pub loop-grant-init : goal.loop-grant-init
loop-grant-init c = refl

pub loop-grant-preserved : goal.loop-grant-preserved
loop-grant-preserved c =
    c.either-held.ensures
    ∙ (ap (λ held. held_either c.loop-grant.held held) c.given_by.ensures
    ∙ one_more (gives_any c.args.members.now) c.args.grants.now c.loop-grant.grant-index
    c.grant-item.result c.loop-grant.held c.loop-grant-test.true c.grant-item.is
    c.loop-grant.invariant)

pub returns : goal.returns
returns c =
    c.loop-grant.invariant
    ∙ ap (λ (grants : List Grant). held_where (λ p. list_any (gives_any c.args.members.now p) grants))
    (take_all c.loop-grant.grant-index c.args.grants.now (omega arith))
