-- The needs of a command are those of its kind, at pages that have rows.
use Rattle.std.proofs.Common.{ap, sym, subst, ◌∙◌, IsSome, true, ◌≡◌}
use Rattle.page_tree.specs.Tree.{has_page}
use Rattle.page_tree.specs.Rows.{row_with}
use Rattle.command_rows.specs.Needs.{AreNamed, need_row_of, seen_needs}
use Rattle.command_rows.proofs.NeedLemmas.{needs_seen, needs_named, AreNamed-weaker}
use Rattle.site_model.specs.Needs.{unmet}
use Rattle.site_part.specs.Needs.{need_told}
use Rattle.site_part.proofs.NeedLemmas.{has_row}
use Rattle.site_part.proofs.need.may.Goals as goal

pub first_need-requires : goal.first_need-requires
first_need-requires c =
    let world = c.requires.0 in
    let pages = c.args.part.now.rows.pages in
    subst (AreNamed (λ page. IsSome (row_with page pages))) (sym c.need_row-row.ensures)
    (AreNamed-weaker (λ page. has_page page world.tree ≡ true)
    (λ page. IsSome (row_with page pages)) (need_row_of c.args.command.now)
    (λ page there. has_row page world.tree pages c.requires.1.pages there)
    (needs_named world.tree c.args.command.now c.requires.2))

pub returns-in-Some : goal.returns-in-Some
returns-in-Some c world stands =
    ap need_told
    (c.in-Some.ensures world stands
    ∙ (ap (λ row. unmet world c.args.user (seen_needs world c.args.user row))
    c.need_row-row.ensures
    ∙ ap (unmet world c.args.user) (needs_seen world c.args.user c.args.command.now)))

pub returns-in-None : goal.returns-in-None
returns-in-None c world stands =
    ap need_told
    (c.in-None.ensures world stands
    ∙ (ap (λ row. unmet world c.args.user (seen_needs world c.args.user row))
    c.need_row-row.ensures
    ∙ ap (unmet world c.args.user) (needs_seen world c.args.user c.args.command.now)))
