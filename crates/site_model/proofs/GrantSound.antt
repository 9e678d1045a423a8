-- A grant that is given or withdrawn keeps a world sound.
use Rattle.std.proofs.Common.{◌≡◌, ◌≤◌, ℕ, Bool, true, false, not, [], length, None, arith}
use Rattle.std.specs.List.{list_any}
use Rattle.page_tree.specs.Tree.{has_page}
use Rattle.site_ids.specs.Moment.{IsMoment}
use Rattle.site_types.specs.declared.permission.Permission.{Permission}
use Rattle.site_types.specs.declared.refusal.NameKind.TheVariants as kinds
use Rattle.site_types.specs.declared.refusal.Refusal.TheVariants.{IdsFull, NothingNew, NoName}
use Rattle.site_types.specs.declared.world_rows.Grant.{Grant}
use Rattle.site_model.specs.World.{TreePart}
use Rattle.site_model.specs.Limits.{MAX_GRANTS}
use Rattle.site_model.specs.Rights.{permission_number}
use Rattle.site_model.specs.Rules.{is_given, no_group}
use Rattle.site_model.specs.Users.{grant_key, grant_of, is_grant, agree, grant_rules, with_grant, grants_after}
use Rattle.site_model.specs.Sound.{IsGiven, AreGrants}
use Rattle.site_model.proofs.ClearLemmas.{first_clear, test_clear, not_false, limit_clear}
use Rattle.site_model.proofs.Groups.{AreGroups}
use Rattle.site_model.proofs.OrderLemmas.{all_put, rise_put, all_filter, rise_filter}
use Rattle.site_model.proofs.PeopleSound.{given_by, none_passes, other_triple}

-- the grants with one more or one less
grants_sound : (part : TreePart) (group page : ℕ) (permission : Permission) (on : Bool) →
    AreGroups part → agree on (list_any (is_grant group page permission) part.grants) ≡ false →
    IsGiven part.next_group group → has_page page part.tree ≡ true →
    length (grants_after part.grants group page permission on) ≤ MAX_GRANTS →
    AreGrants (grants_after part.grants group page permission on) part.tree part.next_group
grants_sound part group page permission true sound new named there fits =
    let one = grant_of group page permission in
    let old = sound.grants in
    record {
      grants_name = all_put (λ (grant : Grant). IsGiven part.next_group grant.group) grant_key one
          part.grants named old.grants_name;
      grants_have_pages = all_put (λ (grant : Grant). has_page grant.page part.tree ≡ true)
          grant_key one part.grants there old.grants_have_pages;
      grants_rise = rise_put grant_key one part.grants
          (none_passes (λ (grant : Grant). grant_key grant ≡ grant_key one → ⊥)
          (is_grant group page permission) part.grants
          (λ grant is. other_triple grant.page grant.group (permission_number grant.permission) page
          group (permission_number permission) is) new) old.grants_rise;
      grants_fit = fits;
    }
grants_sound part group page permission false sound new named there fits =
    let keep = λ (grant : Grant). not (is_grant group page permission grant) in
    let old = sound.grants in
    record {
      grants_name = all_filter (λ (grant : Grant). IsGiven part.next_group grant.group) keep
          part.grants old.grants_name;
      grants_have_pages = all_filter (λ (grant : Grant). has_page grant.page part.tree ≡ true) keep
          part.grants old.grants_have_pages;
      grants_rise = rise_filter grant_key keep part.grants old.grants_rise;
      grants_fit = fits;
    }

-- a grant that no rule refuses keeps a world sound
pub grant_keeps_sound : (part : TreePart) (now group page : ℕ) (permission : Permission)
    (on : Bool) → AreGroups part → IsMoment now → has_page page part.tree ≡ true →
    grant_rules part group page permission on ≡ None →
    AreGroups (with_grant part now group page permission on)
grant_keeps_sound part now group page permission on sound moment there none =
    let new = first_clear _ _ none in
    let named = first_clear (no_group part group) _ new.1 in
    let full = first_clear _ [] named.1 in
    let apart = test_clear (agree on (list_any (is_grant group page permission) part.grants))
    NothingNew new.0 in
    let grouped = given_by part.next_group group
    (not_false (is_given part.next_group group) (test_clear _ (NoName kinds.Group) named.0)) in
    let room = limit_clear MAX_GRANTS
    (length (grants_after part.grants group page permission on))
    (test_clear _ IdsFull full.0) in
    record {
      time = omega (arith, sound.time, moment);
      pages = sound.pages;
      revisions = sound.revisions;
      bodies = sound.bodies;
      people = sound.people;
      tasks = sound.tasks;
      grants = grants_sound part group page permission on sound apart grouped there room;
    }
