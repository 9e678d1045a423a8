-- A row has what is kept of its page.
use Rattle.std.proofs.Common.{refl}
use Rattle.site_part.proofs.LiveLemmas.{body_found, body_missing}
use Rattle.page_copies.proofs.alias.plan_alias.Goals as goal

pub returns-in_default : goal.returns-in_default
returns-in_default c = λ part is.
    rw (body_missing c.args.rows.now.pages part.tree is c.args.source c.in_default.ensures) refl

pub returns-in-Some-source : goal.returns-in-Some-source
returns-in-Some-source c = λ part is.
    rw (
      body_found c.args.rows.now.pages part.tree is c.args.source c.in-Some.row.now
          c.in-Some.ensures,
      c.in-Some-source.is,
    ) refl

pub returns-in-None : goal.returns-in-None
returns-in-None c = λ part is.
    rw (
      body_found c.args.rows.now.pages part.tree is c.args.source c.in-Some.row.now
          c.in-Some.ensures,
      c.in-None.is,
    ) refl
