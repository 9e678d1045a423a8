-- A page's row tells what it shows.
use Rattle.std.proofs.Common.{sym, ap, ◌∙◌, option_copied}
use Rattle.std.specs.Prelude.{option_and_then}
use Rattle.site_types.specs.declared.body.Body.{Body}
use Rattle.site_core.proofs.FindLemmas.{kept_told, kept_absent}
use Rattle.site_core.proofs.card.own_shown.Goals as goal

pub returns-in-None : goal.returns-in-None
returns-in-None c = λ tree is.
    sym (ap (option_and_then (λ (kept : Body). kept.shown))
    (kept_absent c.args.page tree c.args.rows.now.pages is
    (sym (ap option_copied c.in-None.is) ∙ c.row.ensures)))

pub returns-in-Some : goal.returns-in-Some
returns-in-Some c = λ tree is.
    sym (ap (option_and_then (λ (kept : Body). kept.shown))
    (kept_told c.args.page tree c.args.rows.now.pages is c.in-Some.row.now
    (sym (ap option_copied c.in-Some.is) ∙ c.row.ensures)))
