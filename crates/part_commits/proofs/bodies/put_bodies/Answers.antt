-- One page more gets its fields, and their moments.
use Rattle.std.proofs.Common.{◌≡◌, ℕ, ◌∷◌, [], List, length, refl, sym, ap, subst, ◌∙◌, arith}
use Rattle.site_types.specs.declared.body.Body.{Body}
use Rattle.flat_model.specs.Fits.{BodiesFit}
use Rattle.flat_model.specs.Made.{with_bodies}
use Rattle.link_plans.specs.PageLinks.{AreAliases}
use Rattle.part_commits.specs.InStep.{TimedBut}
use Rattle.part_commits.proofs.AliasLemmas.{aliased_put}
use Rattle.part_commits.proofs.InStepLemmas.{one_put, none_to_change}
use Rattle.part_commits.proofs.bodies.put_bodies.Goals as goal

-- a list of no length has nothing in it
nothing_left : (bodies : List (ℕ × Body)) → length bodies ≡ 0 → bodies ≡ []
nothing_left [] none = refl
nothing_left (one ∷ bodies) none = absurd (omega arith)

pub put_body-requires-clause-there : goal.put_body-requires-clause-there
put_body-requires-clause-there c =
    let at = c.loop-page.invariant in
    let next : c.loop-page.page-iterator.rest.items
    ≡ (c.in-Some.page, c.in-Some.body) ∷ c.next.new.self.rest.items =
    c.in-Some.ensures.steps.0 in
    (subst (λ (bodies : List (ℕ × Body)). BodiesFit bodies c.loop-page.rows.pages) next at.fits).0

pub loop-page-preserved : goal.loop-page-preserved
loop-page-preserved c =
    let at = c.loop-page.invariant in
    let next : c.loop-page.page-iterator.rest.items
    ≡ (c.in-Some.page, c.in-Some.body) ∷ c.next.new.self.rest.items =
    c.in-Some.ensures.steps.0 in
    let fits = subst (λ (bodies : List (ℕ × Body)). BodiesFit bodies c.loop-page.rows.pages) next
    at.fits in
    let size = ap length next in
    record {
      rows = ap (with_bodies c.next.new.self.rest.items) c.put_body.ensures.pages
          ∙ (ap (λ (bodies : List (ℕ × Body)). with_bodies bodies c.loop-page.rows.pages) (sym next)
          ∙ at.rows);
      left = let was = at.left in let gone = c.in-Some.ensures.steps.1 in
          omega (arith, size, was, gone);
      fits = subst (BodiesFit c.next.new.self.rest.items) (sym c.put_body.ensures.pages) fits.1;
      expiries = omega (arith, size, at.expiries, c.put_body.ensures.expiries_spare);
      go_lives = omega (arith, size, at.go_lives, c.put_body.ensures.go_lives_spare);
      places = omega (arith, size, at.places, c.put_source.ensures.spare);
      aliased = λ aliased.
          subst (AreAliases c.put_source.new.aliases.pairs) (sym c.put_body.ensures.pages)
          (aliased_put c.loop-page.aliases.pairs c.put_source.new.aliases.pairs c.in-Some.page
          c.in-Some.body c.loop-page.rows.pages fits.0 c.put_source.ensures.there
          (at.aliased aliased));
      timed = λ timed.
          one_put c.next.new.self.rest.items c.in-Some.page c.in-Some.body c.loop-page.times _
          c.loop-page.rows.pages _ c.args.shelf.now.revisions fits.0 c.put_body.ensures.expiry
          c.put_body.ensures.go_live c.put_body.ensures.pages
          (subst (λ (bodies : List (ℕ × Body)). TimedBut bodies c.loop-page.times
          c.loop-page.rows.pages c.args.shelf.now.revisions) next (at.timed timed));
    }

pub returns-clause-timed : goal.returns-clause-timed
returns-clause-timed c = λ timed.
    let at = c.loop-page in
    let none : at.page-iterator.rest.items ≡ [] = nothing_left at.page-iterator.rest.items
    (sym at.invariant.left ∙ c.in-None.ensures.steps.0) in
    let all : c.into_iter-page-iterator.result.rest.items ≡ c.args.bodies =
    c.into_iter-page-iterator.ensures.into_iter_gives.0 ∙ c.into_vec-page-items.ensures in
    none_to_change at.times at.rows.pages c.args.shelf.now.revisions
    (subst (λ (bodies : List (ℕ × Body)). TimedBut bodies at.times at.rows.pages
    c.args.shelf.now.revisions) none
    (at.invariant.timed (subst (λ (bodies : List (ℕ × Body)). TimedBut bodies c.args.times.now
    c.args.rows.now.pages c.args.shelf.now.revisions) (sym all) timed)))
