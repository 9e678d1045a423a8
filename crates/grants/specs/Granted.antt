-- What is held where each permission is tested, and what is held as the model has it.
use Rattle.std.specs.Prelude.{ℕ, Bool, ◌==◌, ◌||◌, ◌&&◌, List, [], ◌∷◌}
use Rattle.std.specs.List.{list_any}
use Rattle.site_types.specs.declared.permission.Permission.{Permission}
use Rattle.site_types.specs.declared.permission.Permission.TheVariants.{Add, Change, Publish, BulkDelete, Lock, Unlock}
use Rattle.site_types.specs.declared.world_rows.Member.{Member}
use Rattle.site_types.specs.declared.world_rows.Grant.{Grant}
use Rattle.site_model.specs.Rights as rights
use Rattle.site_model.specs.Rights.{is_same}
use Rattle.grants.specs.declared.right.Held.{Held}

-- the permissions that pass the test
abbrev pub held_where : (Permission → Bool) → Held
held_where test =
    record {
      add = test Add;
      change = test Change;
      publish = test Publish;
      bulk_delete = test BulkDelete;
      lock = test Lock;
      unlock = test Unlock;
    }

-- the permissions that are held one way or the other
abbrev pub held_either : Held → Held → Held
held_either one other =
    record {
      add = one.add || other.add;
      change = one.change || other.change;
      publish = one.publish || other.publish;
      bulk_delete = one.bulk_delete || other.bulk_delete;
      lock = one.lock || other.lock;
      unlock = one.unlock || other.unlock;
    }

-- the memberships of one user rise by group
abbrev pub group_key : Member → List ℕ
group_key member = member.group ∷ []

-- whether a grant is of the permission, to the group of one of these memberships
abbrev pub gives_any : List Member → Permission → Grant → Bool
gives_any members permission grant =
    list_any (λ member. member.group == grant.group) members && is_same grant.permission permission

-- the permissions that are held, as the model has them
abbrev pub seen_held : Held → rights.Held
seen_held held =
    record {
      add = held.add;
      change = held.change;
      publish = held.publish;
      bulk_delete = held.bulk_delete;
      lock = held.lock;
      unlock = held.unlock;
    }

-- whether a permission is among those that are held
abbrev pub is_held : Held → Permission → Bool
is_held held Add = held.add
is_held held Change = held.change
is_held held Publish = held.publish
is_held held BulkDelete = held.bulk_delete
is_held held Lock = held.lock
is_held held Unlock = held.unlock
