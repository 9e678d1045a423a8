-- One page that another owns is enough.
use Rattle.std.proofs.Common.{◌≡◌, nat_eq, take, drop, refl, sym, ap, ◌∙◌, arith}
use Rattle.std.specs.List.{list_all}
use Rattle.page_store.specs.Pages.{Page}
use Rattle.site_part.proofs.OwnLemmas.{fails_between, passes_between}
use Rattle.site_part.proofs.owning.own_rows.Goals as goal

pub loop-done-init : goal.loop-done-init
loop-done-init c = refl

pub returns-then-not-owns_at : goal.returns-then-not-owns_at
returns-then-not-owns_at c =
    sym (fails_between (λ (row : Page). nat_eq row.body.owner c.args.user) c.args.rows.now.pages
    c.args.place c.args.count c.loop-done.done c.loop-done-test.true c.requires
    (sym c.owns_at.ensures ∙ c.if-not-owns_at.true))

pub loop-done-preserved : goal.loop-done-preserved
loop-done-preserved c =
    passes_between (λ (row : Page). nat_eq row.body.owner c.args.user) c.args.rows.now.pages
    c.args.place c.loop-done.done c.loop-done.invariant
    (sym c.owns_at.ensures ∙ c.if-not-owns_at.false)

pub returns : goal.returns
returns c =
    let whole : c.loop-done.done ≡ c.args.count = omega arith in
    sym (ap (λ n. list_all (λ (row : Page). nat_eq row.body.owner c.args.user)
    (take n (drop c.args.place c.args.rows.now.pages))) (sym whole) ∙ c.loop-done.invariant)
