-- The page gets the moments of its fields.
use Rattle.std.proofs.Common.{ℕ, Option, ◌∙◌, ap}
use Rattle.time_table.specs.Table.{with_option}
use Rattle.publishing.proofs.TimesLemmas.{timed-with_body}
use Rattle.publishing.proofs.body.put_body.Goals as goal

pub returns-clause-expiry : goal.returns-clause-expiry
returns-clause-expiry c =
    c.put.ensures.entries
    ∙ ap (λ (at : Option ℕ). with_option c.args.page at c.args.times.now.expiries.entries)
    c.expiry.ensures

pub returns-clause-go_live : goal.returns-clause-go_live
returns-clause-go_live c =
    c.put-2.ensures.entries
    ∙ ap (λ (at : Option ℕ). with_option c.args.page at c.args.times.now.go_lives.entries)
    c.go_live.ensures

pub returns-clause-timed : goal.returns-clause-timed
returns-clause-timed c = λ timed.
    let times = c.args.times.now in
    timed-with_body times _ _ _ c.args.shelf.now.revisions c.args.page c.args.body c.requires.there
    (c.put.ensures.entries
    ∙ ap (λ (at : Option ℕ). with_option c.args.page at times.expiries.entries) c.expiry.ensures)
    (c.put-2.ensures.entries
    ∙ ap (λ (at : Option ℕ). with_option c.args.page at times.go_lives.entries) c.go_live.ensures)
    c.set_body.ensures.pages timed
