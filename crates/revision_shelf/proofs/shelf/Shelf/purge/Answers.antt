-- Step by step the page's revisions are kept or go, until none is left to look at.
use Rattle.std.proofs.Common.{◌≡◌, ◌∙◌, ℕ, List, Option, Some, None, false, is_some, refl, sym, arith}
use Rattle.site_types.specs.declared.revision.Revision.{Revision}
use Rattle.revision_shelf.specs.Shelf.{latest_of}
use Rattle.revision_shelf.specs.Kept.{before_in}
use Rattle.revision_shelf.specs.Purge.{named, step_left}
use Rattle.revision_shelf.proofs.RiseLemmas.{length-bound}
use Rattle.revision_shelf.proofs.PurgeLemmas.{purging_none, purging_more, purging_over, purging_fewer}
use Rattle.revision_shelf.proofs.shelf.Shelf.purge.Goals as goal

-- where there was none to look at, all are left
left_all : (keep : List ℕ) (o : Option ℕ) (revisions : List Revision) → is_some o ≡ false →
    step_left keep o revisions ≡ revisions
left_all keep None revisions none = refl
left_all keep (Some id) revisions none = cc

pub back-init : goal.back-init
back-init c =
    let few = length-bound 0 c.args.self.now.revisions c.len.ensures.rises (omega arith) in
    record {
      purging = purging_none c.args.page c.args.keep.now c.args.self.now.revisions;
      room = omega arith;
      few = omega arith;
    }

pub back-smaller : goal.back-smaller
back-smaller c =
    rw (c.step.ensures.after, c.step.ensures.revisions) (purging_fewer c.args.page c.args.keep.now
    c.args.self.now.revisions c.back.after c.back.gone c.back.self.revisions c.step.ensures.rises
    c.back.invariant.purging (sym c.step.ensures.more ∙ c.back-test.true))

pub back-preserved : goal.back-preserved
back-preserved c =
    record {
      purging = rw (c.step.ensures.after, c.step.ensures.gone, c.step.ensures.revisions) (purging_more
          c.args.page c.args.keep.now c.args.self.now.revisions c.back.after c.back.gone
          c.back.self.revisions c.step.ensures.rises c.back.invariant.purging
          (sym c.step.ensures.more ∙ c.back-test.true));
      room = let before = c.back.invariant.room in
          let step = c.step.ensures.spare in omega arith;
      few = c.back.invariant.few;
    }

pub returns-clause-revisions : goal.returns-clause-revisions
returns-clause-revisions c =
    let over = sym c.step.ensures.more ∙ c.back-test.false in
    let done = purging_over c.args.page c.args.keep.now c.args.self.now.revisions c.back.after
    c.back.gone c.back.self.revisions c.step.ensures.rises c.back.invariant.purging over in
    c.step.ensures.revisions ∙ left_all c.args.keep.now (latest_of c.args.page (before_in (named
    c.back.after) c.back.self.revisions)) c.back.self.revisions over ∙ done.0
