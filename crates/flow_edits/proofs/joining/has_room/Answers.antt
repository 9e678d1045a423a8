-- One less is always possible, and one more where there is room.
use Rattle.std.proofs.Common.{not, ◌≡◌, nat_lt, length, sym, subst}
use Rattle.site_model.specs.Limits.{MAX_GRANTS}
use Rattle.site_model.specs.Users.{grants_after}
use Rattle.flow_edits.proofs.PeopleRights.{room_told, room_less}
use Rattle.flow_edits.proofs.joining.has_room.Goals as goal

pub returns-then-not-on : goal.returns-then-not-on
returns-then-not-on c = λ world group page permission ready new.
    subst (λ on. not on
    ≡ not (nat_lt MAX_GRANTS (length (grants_after world.grants group page permission on))))
    (sym c.if-not-on.true)
    (room_less c.args.part.now world group page permission ready)

pub returns-else-not-on : goal.returns-else-not-on
returns-else-not-on c = λ world group page permission ready new.
    subst (λ on. nat_lt c.grant_count.result MAX_GRANTS
    ≡ not (nat_lt MAX_GRANTS (length (grants_after world.grants group page permission on))))
    (sym c.if-not-on.false)
    (room_told c.args.part.now world group page permission c.grant_count.result ready
    c.grant_count.ensures)
