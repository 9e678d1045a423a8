-- A byte more is read, or a slug's kid takes the place of the page.
use Rattle.std.proofs.Common.{ℕ, [], ap, sym, arith}
use Rattle.slug_urls.specs.Descent.{page_below}
use Rattle.slug_urls.proofs.Descents.{byte_leads_on, slash_leads_on, slash_leads_nowhere, leads_there, leads_nowhere}
use Rattle.slug_urls.proofs.downward.go_down.Goals as goal
use Rattle.slug_urls.proofs.downward.go_down.Goals.{then-slugs-i-eq47+in_ok-page, else-slugs-i-eq47}

pub loop-i-init : goal.loop-i-init
loop-i-init c = (
  omega arith,
  λ slugs. ap (λ (p : ℕ). page_below c.args.rows.now.pages p [] c.args.slugs.now)
      (sym c.root-page.ensures),
)

pub loop-i-preserved : goal.loop-i-preserved
loop-i-preserved c =
    elim c.if-slugs-i-eq47.branch [
      | then-slugs-i-eq47+in_ok-page w ↦ slash_leads_on c.args.rows.now.pages c.args.slugs.now
          c.loop-i.page c.loop-i.start c.loop-i.i _ c.if-slugs-i-eq47.page c.if-slugs-i-eq47.start
          c.loop-i.invariant c.loop-i-test.true w.if-slugs-i-eq47.true w.in_ok-page.ensures
          w.page-is w.start-is
      | else-slugs-i-eq47 w ↦ byte_leads_on c.args.rows.now.pages c.args.slugs.now
          c.loop-i.page c.loop-i.start c.loop-i.i c.if-slugs-i-eq47.page c.if-slugs-i-eq47.start
          c.loop-i.invariant c.loop-i-test.true w.if-slugs-i-eq47.false w.page-is w.start-is
    ]

pub returns-in_err-page : goal.returns-in_err-page
returns-in_err-page c slugs =
    let none = slash_leads_nowhere c.args.rows.now.pages c.args.slugs.now c.loop-i.page c.loop-i.start
    c.loop-i.i c.loop-i.invariant c.loop-i-test.true c.if-slugs-i-eq47.true slugs
    (c.in_err-page.ensures slugs) in
    cc

pub returns-then-start-slugs : goal.returns-then-start-slugs
returns-then-start-slugs c slugs =
    leads_there c.args.rows.now.pages c.args.slugs.now c.loop-i.page c.loop-i.start c.loop-i.i
    c.loop-i.invariant (omega arith) (omega arith) slugs

pub returns-else-start-slugs : goal.returns-else-start-slugs
returns-else-start-slugs c slugs =
    let behind = c.loop-i.invariant.0 in
    leads_nowhere c.args.rows.now.pages c.args.slugs.now c.loop-i.page c.loop-i.start c.loop-i.i
    c.loop-i.invariant (omega arith) (omega arith) slugs
