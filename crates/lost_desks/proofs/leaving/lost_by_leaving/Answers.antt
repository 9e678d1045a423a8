-- The membership is put in again, and without it the part has the desks of the world without it.
use Rattle.std.proofs.Common.{◌≡◌, ◌+◌, List, true, false, sym, ap, subst, ◌∙◌}
use Rattle.std.specs.List.{list_any}
use Rattle.site_types.specs.declared.world_rows.Member.{Member}
use Rattle.site_model.specs.World.{TreePart}
use Rattle.site_model.specs.Sound.{KeysRise}
use Rattle.site_model.specs.Users.{member_key, is_membership, members_after}
use Rattle.flat_model.specs.People.{members_with}
use Rattle.site_part.proofs.StandingLemmas.{same_grants}
use Rattle.lost_desks.proofs.BackLemmas.{member_back, member_gone}
use Rattle.lost_desks.proofs.leaving.lost_by_leaving.Goals as goal

pub returns-clause-same : goal.returns-clause-same
returns-clause-same c =
    let kept = c.in_ok-reserve.ensures.same in
    let ready = c.requires.ready.1 in
    let rise = subst (λ (members : List Member). KeysRise member_key members)
    (sym ready.stands.lists.members) ready.reached.sound.people.members_rise in
    same_grants c.args.part.now c.set_member-2.new.self (record {
      users = c.set_member-2.ensures.users ∙ (c.set_member.ensures.users ∙ kept.users);
      groups = c.set_member-2.ensures.groups ∙ (c.set_member.ensures.groups ∙ kept.groups);
      members = c.set_member-2.ensures.members
          ∙ (ap (λ (members : List Member). members_with members c.args.user c.args.group true)
          (c.set_member.ensures.members
          ∙ ap (λ (members : List Member). members_with members c.args.user c.args.group false)
          kept.members)
          ∙ member_back c.args.part.now.grants.members c.args.user c.args.group rise
          c.requires.member);
      grants = c.set_member-2.ensures.grants ∙ (c.set_member.ensures.grants ∙ kept.grants);
    })

pub returns-clause-lost : goal.returns-clause-lost
returns-clause-lost c world now ready =
    let kept = c.in_ok-reserve.ensures.same in
    let lists = ready.stands.lists in
    let after : TreePart =
    record world { members = members_after world.members c.args.user c.args.group false } in
    let there : list_any (is_membership c.args.user c.args.group) world.members ≡ true =
    ap (λ (members : List Member). list_any (is_membership c.args.user c.args.group) members)
    (sym lists.members) ∙ c.requires.member in
    c.lost_desks-lost.ensures after record {
      pages = ready.stands.pages;
      lists = record {
        users = c.set_member.ensures.users ∙ (kept.users ∙ lists.users);
        groups = ap (λ n. n + 1) (c.set_member.ensures.groups ∙ kept.groups) ∙ lists.groups;
        members = c.set_member.ensures.members
            ∙ (ap (λ (members : List Member). members_with members c.args.user c.args.group false)
            (kept.members ∙ lists.members)
            ∙ member_gone world.members c.args.user c.args.group there);
        grants = c.set_member.ensures.grants ∙ (kept.grants ∙ lists.grants);
      };
      flows = record {
        tasks = ready.stands.flows.tasks;
        workflows = ready.stands.flows.workflows;
      };
      desks = ready.stands.desks;
    }
