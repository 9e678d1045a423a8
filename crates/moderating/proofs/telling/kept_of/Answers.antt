-- The page is there.
use Rattle.std.proofs.Common.{sym, ◌∙◌}
use Rattle.moderating.proofs.Facts.{not_missing}
use Rattle.moderating.proofs.telling.kept_of.Goals as goal

pub unreachable-requires : goal.unreachable-requires
unreachable-requires c =
    let world = c.requires.0 in
    not_missing c.args.page world.tree c.requires.2
    (sym c.in_default.is ∙ c.body_of.ensures world.tree c.requires.1.pages)

pub returns : goal.returns
returns c = λ world stands.
    sym (c.body_of.ensures world.tree stands.pages) ∙ c.in-Some.is
