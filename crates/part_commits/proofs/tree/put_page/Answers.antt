-- The page comes, with its source.
use Rattle.std.proofs.Common.{sym, subst}
use Rattle.link_plans.specs.PageLinks.{AreAliases}
use Rattle.part_commits.proofs.AliasLemmas.{aliased_come}
use Rattle.part_commits.proofs.tree.put_page.Goals as goal

pub returns-clause-aliased : goal.returns-clause-aliased
returns-clause-aliased c = λ aliased.
    subst (AreAliases c.add_row.new.aliases.pairs) (sym c.insert_reserved.ensures.pages)
    (aliased_come c.args.aliases.now.pairs c.add_row.new.aliases.pairs (c.args.row, c.args.url)
    c.args.rows.now.pages c.requires.new.new_id c.add_row.ensures.there aliased)
