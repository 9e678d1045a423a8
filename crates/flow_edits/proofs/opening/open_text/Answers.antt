-- A page below the root has a latest revision.
use Rattle.std.proofs.Common.{sym, ap, ◌∙◌}
use Rattle.std.specs.Option.{option_copied}
use Rattle.moderating.proofs.Facts.{latest_there}
use Rattle.flow_edits.proofs.Facts.{open_names, open_regular}
use Rattle.flow_edits.proofs.opening.open_text.Goals as goal

pub unreachable-requires : goal.unreachable-requires
unreachable-requires c =
    let world = c.requires.0 in
    let asked = c.requires.2 in
    latest_there world c.args.page asked.given.ready.reached
    (open_names world c.args.caller c.args.page asked.front)
    (open_regular world c.args.caller c.args.page asked.front)
    (ap option_copied (sym c.in_default-latest_of.is)
    ∙ c.latest_of.ensures world asked.given.ready.stands)
