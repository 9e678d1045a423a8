-- The grant is put in again, and without it the part has the desks of the world without it.
use Rattle.std.proofs.Common.{◌≡◌, ◌+◌, List, true, false, sym, ap, subst, ◌∙◌}
use Rattle.std.specs.List.{list_any}
use Rattle.site_types.specs.declared.world_rows.Grant.{Grant}
use Rattle.site_model.specs.World.{TreePart}
use Rattle.site_model.specs.Sound.{KeysRise}
use Rattle.site_model.specs.Users.{grant_key, is_grant, grants_after}
use Rattle.flat_model.specs.People.{grants_with}
use Rattle.site_part.proofs.StandingLemmas.{same_grants}
use Rattle.lost_desks.proofs.BackLemmas.{grant_back, grant_gone}
use Rattle.lost_desks.proofs.withdrawal.lost_by_withdrawal.Goals as goal

pub returns-clause-same : goal.returns-clause-same
returns-clause-same c =
    let kept = c.in_ok-reserve.ensures.same in
    let ready = c.requires.ready.1 in
    let rise = subst (λ (grants : List Grant). KeysRise grant_key grants)
    (sym ready.stands.lists.grants) ready.reached.sound.grants.grants_rise in
    same_grants c.args.part.now c.set_grant-2.new.self (record {
      users = c.set_grant-2.ensures.users ∙ (c.set_grant.ensures.users ∙ kept.users);
      groups = c.set_grant-2.ensures.groups ∙ (c.set_grant.ensures.groups ∙ kept.groups);
      members = c.set_grant-2.ensures.members ∙ (c.set_grant.ensures.members ∙ kept.members);
      grants = c.set_grant-2.ensures.grants
          ∙ (ap (λ (grants : List Grant).
          grants_with grants c.args.group c.args.page c.args.permission true)
          (c.set_grant.ensures.grants
          ∙ ap (λ (grants : List Grant).
          grants_with grants c.args.group c.args.page c.args.permission false) kept.grants)
          ∙ grant_back c.args.part.now.grants.grants c.args.group c.args.page c.args.permission rise
          c.requires.granted);
    })

pub returns-clause-lost : goal.returns-clause-lost
returns-clause-lost c world now ready =
    let kept = c.in_ok-reserve.ensures.same in
    let lists = ready.stands.lists in
    let after : TreePart =
    record world {
      grants = grants_after world.grants c.args.group c.args.page c.args.permission false;
    } in
    let there : list_any (is_grant c.args.group c.args.page c.args.permission) world.grants ≡ true =
    ap (λ (grants : List Grant). list_any (is_grant c.args.group c.args.page c.args.permission) grants)
    (sym lists.grants) ∙ c.requires.granted in
    c.lost_desks-lost.ensures after record {
      pages = ready.stands.pages;
      lists = record {
        users = c.set_grant.ensures.users ∙ (kept.users ∙ lists.users);
        groups = ap (λ n. n + 1) (c.set_grant.ensures.groups ∙ kept.groups) ∙ lists.groups;
        members = c.set_grant.ensures.members ∙ (kept.members ∙ lists.members);
        grants = c.set_grant.ensures.grants
            ∙ (ap (λ (grants : List Grant).
            grants_with grants c.args.group c.args.page c.args.permission false)
            (kept.grants ∙ lists.grants)
            ∙ grant_gone world.grants c.args.group c.args.page c.args.permission there);
      };
      flows = record {
        tasks = ready.stands.flows.tasks;
        workflows = ready.stands.flows.workflows;
      };
      desks = ready.stands.desks;
    }
