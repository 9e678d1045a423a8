-- Page by page.
use Rattle.std.proofs.Common.{refl, ap, ◌+◌, ◌∙◌, arith}
use Rattle.site_types.specs.declared.world_rows.Grant.{Grant}
use Rattle.flat_model.proofs.ListLemmas.{people_are}
use Rattle.part_commits.proofs.DropLemmas.{one_gone, all_gone}
use Rattle.part_commits.proofs.going.drop_grants.Goals as goal

pub loop-number-init : goal.loop-number-init
loop-number-init c = record {
  left = refl;
  users = refl;
  groups = refl;
  members = refl;
  spare = omega arith;
}

pub loop-number-preserved : goal.loop-number-preserved
loop-number-preserved c =
    let so_far = c.loop-number.invariant in
    record {
      left = rw c.drop_page.ensures.grants
          (one_gone (λ (grant : Grant). grant.page) c.args.gone.now c.loop-number.number-index
          c.loop-number.grants.grants _ so_far.left c.page_of.result c.loop-number-test.true
          c.page_of.ensures);
      users = c.drop_page.ensures.users ∙ so_far.users;
      groups = c.drop_page.ensures.groups ∙ so_far.groups;
      members = c.drop_page.ensures.members ∙ so_far.members;
      spare = let more = c.drop_page.ensures.spare in let before = so_far.spare in
          omega (arith, more, before);
    }

pub returns-clause-people : goal.returns-clause-people
returns-clause-people c =
    let so_far = c.loop-number.invariant in
    people_are _ _ so_far.users (ap (λ n. n + 1) so_far.groups) so_far.members
    (all_gone (λ (grant : Grant). grant.page) c.args.gone.now c.loop-number.number-index
    c.loop-number.grants.grants _ so_far.left c.loop-number-test.false)

pub returns-clause-spare : goal.returns-clause-spare
returns-clause-spare c = c.loop-number.invariant.spare
