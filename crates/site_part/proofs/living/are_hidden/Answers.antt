-- One page that is live is enough.
use Rattle.std.proofs.Common.{◌≡◌, not, take, drop, refl, sym, ap, ◌∙◌, arith}
use Rattle.std.specs.List.{list_all}
use Rattle.page_store.specs.Pages.{Page}
use Rattle.site_part.specs.Live.{is_live_in}
use Rattle.site_part.proofs.OwnLemmas.{fails_between, passes_between}
use Rattle.site_part.proofs.living.are_hidden.Goals as goal

pub loop-done-init : goal.loop-done-init
loop-done-init c = refl

pub returns-then-not-is_hidden_at : goal.returns-then-not-is_hidden_at
returns-then-not-is_hidden_at c =
    sym (fails_between (λ (row : Page). not (is_live_in c.args.rows.now.pages row.body))
    c.args.rows.now.pages c.args.place c.args.count c.loop-done.done c.loop-done-test.true c.requires
    (sym c.is_hidden_at.ensures ∙ c.if-not-is_hidden_at.true))

pub loop-done-preserved : goal.loop-done-preserved
loop-done-preserved c =
    passes_between (λ (row : Page). not (is_live_in c.args.rows.now.pages row.body))
    c.args.rows.now.pages c.args.place c.loop-done.done c.loop-done.invariant
    (sym c.is_hidden_at.ensures ∙ c.if-not-is_hidden_at.false)

pub returns : goal.returns
returns c =
    let whole : c.loop-done.done ≡ c.args.count = omega arith in
    sym (ap (λ n. list_all (λ (row : Page). not (is_live_in c.args.rows.now.pages row.body))
    (take n (drop c.args.place c.args.rows.now.pages))) (sym whole) ∙ c.loop-done.invariant)
