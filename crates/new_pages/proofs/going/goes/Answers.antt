-- A page that is there goes exactly if a move of the other would lead into it.
use Rattle.std.proofs.Common.{sym, ◌∙◌}
use Rattle.site_types.specs.declared.position.Position.TheVariants.{LastChild}
use Rattle.new_pages.proofs.GoneLemmas.{goes_is, never_beside, not_there, kept_row}
use Rattle.new_pages.proofs.going.goes.Goals as goal

pub leads_into_itself-requires-clause-target_there :
    goal.leads_into_itself-requires-clause-target_there
leads_into_itself-requires-clause-target_there c =
    kept_row c.args.rows.now.pages c.args.other c.in-Some._row.now c.in-Some.ensures

pub returns-in-Some : goal.returns-in-Some
returns-in-Some c = λ tree is.
    c.leads_into_itself.ensures tree LastChild is (never_beside c.args.page c.args.other)
    ∙ goes_is c.args.rows.now.pages tree c.args.page c.args.other c.len-len.ensures.pages is
    c.requires

pub returns-in-None : goal.returns-in-None
returns-in-None c = λ tree is.
    sym (not_there c.args.rows.now.pages tree c.args.page c.args.other c.len-len.ensures.pages is
    c.in-None.ensures)
