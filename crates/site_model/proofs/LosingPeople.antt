-- What users, memberships and grants that come or go make of the rights of the others.
use Rattle.std.proofs.Common.{◌≡◌, ◌≤◌, ℕ, zero, suc, Bool, true, false, cond, not, ◌||◌, ◌&&◌, nat_eq, List, [], ◌∷◌, ◌++◌, length, map, filter, None, refl, sym, ap, ◌∙◌, arith}
use Rattle.std.specs.List.{list_any}
use Rattle.page_tree.specs.Rows.{comes_before}
use Rattle.site_types.specs.declared.permission.Permission.{Permission}
use Rattle.site_types.specs.declared.world_rows.UserRow.{UserRow}
use Rattle.site_types.specs.declared.world_rows.Member.{Member}
use Rattle.site_types.specs.declared.world_rows.Grant.{Grant}
use Rattle.tree_model.proofs.CountLemmas.{id_found}
use Rattle.site_model.specs.World.{TreePart}
use Rattle.site_model.specs.Rights.{permission_number, is_same, user_at, groups_of, has_group, rights_of, permits}
use Rattle.site_model.specs.Users.{put_in, member_key, grant_key, is_membership, is_grant}
use Rattle.site_model.proofs.LosingTrees.{both_values}
use Rattle.site_model.proofs.LosingRights.{HasMore, both_hold, hold_both, weaker_or, weaker_and}

-- nobody has the number 0
user_zero : (users : List UserRow) → user_at users 0 ≡ None
user_zero [] = refl
user_zero (user ∷ users) = refl

-- a user stays who it was where more are there
pub user_front : (users more : List UserRow) (number : ℕ) → number ≤ length users →
    user_at (users ++ more) number ≡ user_at users number
user_front users more zero within = user_zero (users ++ more) ∙ sym (user_zero users)
user_front [] more (suc number) within = let never : ⊥ = omega (arith, within) in absurd never
user_front (user ∷ users) more (suc zero) within = refl
user_front (user ∷ users) more (suc (suc number)) within =
    user_front users more (suc number) (omega (arith, within))

module _ {Item : Type 0} where
  -- one of what a test keeps passes another test where one of all passes both
  pub any_filter : (p keep : Item → Bool) (items : List Item) →
      list_any p (filter keep items) ≡ list_any (λ (item : Item). keep item && p item) items
  any_filter p keep [] = refl
  any_filter p keep (item ∷ items) = choice (keep item) (any_filter p keep items)
    where
      choice : (t : Bool) →
          list_any p (filter keep items)
          ≡ list_any (λ (one : Item). keep one && p one) items →
          list_any p (cond t (item ∷ filter keep items) (filter keep items))
          ≡ ((t && p item) || list_any (λ (one : Item). keep one && p one) items)
      choice true more = ap (λ (b : Bool). p item || b) more
      choice false more = more

  -- what one passes, one of more passes
  pub any_put : (p : Item → Bool) (key : Item → List ℕ) (new : Item) (items : List Item) →
      list_any p items ≡ true → list_any p (put_in key new items) ≡ true
  any_put p key new [] is = absurd (cc)
  any_put p key new (item ∷ items) is =
      choice (comes_before (key new) (key item)) (any_put p key new items)
    where
      behind : (t u : Bool) → u ≡ true → (t || u) ≡ true
      behind true u h = refl
      behind false u h = h

      choice : (t : Bool) →
          (list_any p items ≡ true → list_any p (put_in key new items) ≡ true) →
          list_any p (cond t (new ∷ item ∷ items) (item ∷ put_in key new items)) ≡ true
      choice true more = behind (p new) (p item || list_any p items) is
      choice false more =
          weaker_or (p item) (list_any p items) (p item) (list_any p (put_in key new items))
          (λ here. here) more is

  -- what one passes, one passes by a weaker test
  pub any_by : (p q : Item → Bool) (items : List Item) →
      ((item : Item) → p item ≡ true → q item ≡ true) → list_any p items ≡ true →
      list_any q items ≡ true
  any_by p q [] follows is = absurd (cc)
  any_by p q (item ∷ items) follows is =
      weaker_or (p item) (list_any p items) (q item) (list_any q items) (follows item)
      (any_by p q items follows) is

  -- what one passes that none of those passes that go, one passes of the rest
  pub any_rest : (p gone : Item → Bool) (items : List Item) →
      ((item : Item) → p item ≡ true → gone item ≡ false) → list_any p items ≡ true →
      list_any p (filter (λ (item : Item). not (gone item)) items) ≡ true
  any_rest p gone items follows is =
      any_filter p (λ (item : Item). not (gone item)) items
      ∙ any_by p (λ (item : Item). not (gone item) && p item) items
      (λ item passed. hold_both (not (gone item)) (p item)
      (ap (λ (t : Bool). not t) (follows item passed)) passed) is

-- whether a user is in a group, by the memberships
pub group_listed : (members : List Member) (user group : ℕ) →
    has_group (groups_of members user) group ≡ list_any (is_membership user group) members
group_listed [] user group = refl
group_listed (member ∷ members) user group =
    choice (nat_eq member.user user) (group_listed members user group)
  where
    choice : (t : Bool) →
        has_group (groups_of members user) group ≡ list_any (is_membership user group) members →
        has_group (map (λ (one : Member). one.group)
        (cond t (member ∷ filter (λ (one : Member). nat_eq one.user user) members)
        (filter (λ (one : Member). nat_eq one.user user) members))) group
        ≡ ((t && nat_eq member.group group) || list_any (is_membership user group) members)
    choice true more = ap (λ (b : Bool). nat_eq member.group group || b) more
    choice false more = more

-- the groups of another user stay where a membership goes
pub groups_kept : (members : List Member) (user group other : ℕ) → nat_eq other user ≡ false →
    groups_of (filter (λ (member : Member). not (is_membership user group member)) members) other
    ≡ groups_of members other
groups_kept [] user group other apart = refl
groups_kept (member ∷ members) user group other apart =
    choice (nat_eq member.user other) refl (is_membership user group member) refl
    (groups_kept members user group other apart)
  where
    kept : List Member
    kept = filter (λ (one : Member). not (is_membership user group one)) members

    choice : (own : Bool) → nat_eq member.user other ≡ own → (gone : Bool) →
        is_membership user group member ≡ gone →
        groups_of kept other ≡ groups_of members other →
        groups_of (cond (not gone) (member ∷ kept) kept) other
        ≡ map (λ (one : Member). one.group)
        (cond own (member ∷ filter (λ (one : Member). nat_eq one.user other) members)
        (filter (λ (one : Member). nat_eq one.user other) members))
    choice true at true is more =
        let named = (both_hold (nat_eq member.user user) (nat_eq member.group group) is).0 in
        let same = id_found member.user other at in
        absurd (both_values (sym named ∙ rw same apart))
    choice true at false is more = rw at (ap (λ (ids : List ℕ). member.group ∷ ids) more)
    choice false at true is more = more
    choice false at false is more = rw at more

-- A user has more with one membership more.
pub member_more : (part : TreePart) (above : List ℕ) (new : Member) (user : ℕ) →
    HasMore above (rights_of part user)
    (rights_of (record part { members = put_in member_key new part.members }) user)
member_more part above new user =
    let members = put_in member_key new part.members in
    let before = groups_of part.members user in
    let after = groups_of members user in
    let groups = λ (group : ℕ) (is : has_group before group ≡ true).
    group_listed members user group
    ∙ any_put (is_membership user group) member_key new part.members
    (sym (group_listed part.members user group) ∙ is) in
    record {
      user = refl;
      super = λ is. is;
      groups = groups;
      granted = λ permission page among is.
          any_filter (permits permission page)
          (λ (grant : Grant). has_group after grant.group) part.grants
          ∙ any_by
          (λ (grant : Grant). has_group before grant.group && permits permission page grant)
          (λ (grant : Grant). has_group after grant.group && permits permission page grant)
          part.grants
          (λ grant both. weaker_and (has_group before grant.group) (permits permission page grant)
          (has_group after grant.group) (permits permission page grant) (groups grant.group)
          (λ same. same) both)
          (sym (any_filter (permits permission page)
          (λ (grant : Grant). has_group before grant.group) part.grants) ∙ is);
    }

-- A user has more with one grant more.
pub grant_more : (part : TreePart) (above : List ℕ) (new : Grant) (user : ℕ) →
    HasMore above (rights_of part user)
    (rights_of (record part { grants = put_in grant_key new part.grants }) user)
grant_more part above new user =
    let groups = groups_of part.members user in
    record {
      user = refl;
      super = λ is. is;
      groups = λ group is. is;
      granted = λ permission page among is.
          any_filter (permits permission page)
          (λ (grant : Grant). has_group groups grant.group)
          (put_in grant_key new part.grants)
          ∙ any_put
          (λ (grant : Grant). has_group groups grant.group && permits permission page grant)
          grant_key new part.grants
          (sym (any_filter (permits permission page)
          (λ (grant : Grant). has_group groups grant.group) part.grants) ∙ is);
    }

-- A user has on these pages what it had where grants go that gave it nothing there.
pub grants_kept : (part : TreePart) (above : List ℕ) (gone : Grant → Bool) (user : ℕ) →
    ((grant : Grant) → has_group (groups_of part.members user) grant.group ≡ true →
    list_any (λ (one : ℕ). nat_eq one grant.page) above ≡ true → gone grant ≡ false) →
    HasMore above (rights_of part user) (rights_of
    (record part { grants = filter (λ (grant : Grant). not (gone grant)) part.grants }) user)
grants_kept part above gone user stays =
    let groups = groups_of part.members user in
    record {
      user = refl;
      super = λ is. is;
      groups = λ group is. is;
      granted = λ permission page among is.
          any_filter (permits permission page)
          (λ (grant : Grant). has_group groups grant.group)
          (filter (λ (grant : Grant). not (gone grant)) part.grants)
          ∙ any_rest
          (λ (grant : Grant). has_group groups grant.group && permits permission page grant)
          gone part.grants
          (λ grant both.
          let parts = both_hold (has_group groups grant.group) (permits permission page grant) both
          in
          let at = both_hold (nat_eq grant.page page) (is_same grant.permission permission) parts.1
          in
          stays grant parts.0 (rw (id_found grant.page page at.0) among))
          (sym (any_filter (permits permission page)
          (λ (grant : Grant). has_group groups grant.group) part.grants) ∙ is);
    }

-- A grant of a group gave nothing on pages that do not lie below its page, nor to a user who is not
-- in the group.
pub grant_apart : (part : TreePart) (above : List ℕ) (group page : ℕ) (permission : Permission)
    (user : ℕ) →
    (list_any (λ (one : ℕ). nat_eq one page) above
    && list_any (is_membership user group) part.members) ≡ false →
    HasMore above (rights_of part user) (rights_of (record part {
      grants = filter (λ (grant : Grant). not (is_grant group page permission grant)) part.grants;
    }) user)
grant_apart part above group page permission user apart =
    grants_kept part above (is_grant group page permission) user
    (λ grant mine among. told grant (is_grant group page permission grant) refl mine among)
  where
    told : (grant : Grant) (t : Bool) → is_grant group page permission grant ≡ t →
        has_group (groups_of part.members user) grant.group ≡ true →
        list_any (λ (one : ℕ). nat_eq one grant.page) above ≡ true → t ≡ false
    told grant false is mine among = refl
    told grant true is mine among =
        let first = both_hold (nat_eq grant.page page) _ is in
        let second = both_hold (nat_eq grant.group group)
        (nat_eq (permission_number grant.permission) (permission_number permission)) first.1 in
        let at = id_found grant.page page first.0 in
        let of = id_found grant.group group second.0 in
        let within = rw at at among in
        let listed = sym (group_listed part.members user group) ∙ (rw of at mine) in
        absurd (both_values (sym (hold_both (list_any (λ (one : ℕ). nat_eq one page) above)
        (list_any (is_membership user group) part.members) within listed) ∙ apart))
