-- What is left to take out of what is left comes to what is to be left, and nothing else changes.
use Rattle.std.proofs.Common.{◌≡◌, ◌≤◌}
use Rattle.std.specs.Prelude.{drop}
use Rattle.site_types.specs.declared.world_rows.Grant.{Grant}
use Rattle.flat_model.specs.Made.{of_others}
use Rattle.part_commits.proofs.going.drop_grants.Given as goal

abbrev pub invariant-loop-number : goal.invariant-loop-number
invariant-loop-number l =
    record {
      left : of_others (λ (grant : Grant). grant.page) (drop l.number-index l.gone) l.grants.grants
          ≡ of_others (λ (grant : Grant). grant.page) l.gone l.initial.grants.grants;
      users : l.grants.users ≡ l.initial.grants.users;
      groups : l.grants.groups ≡ l.initial.grants.groups;
      members : l.grants.members ≡ l.initial.grants.members;
      spare : l.initial.grants.spare ≤ l.grants.spare;
    }
