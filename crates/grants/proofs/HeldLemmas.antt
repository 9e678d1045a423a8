-- What is held where tests of permissions are put together: the grants of a list, groups one by one.
use Rattle.std.proofs.Common.{◌≡◌, ℕ, ◌+◌, ◌<◌, Bool, true, false, ◌&&◌, ◌||◌, cond, nat_eq, List, [], ◌∷◌, length, get_or, take, map, filter, refl, sym, ap, ◌∙◌}
use Rattle.std.specs.List.{list_any}
use Rattle.std.proofs.lemmas.List.Folds.{list_any_more}
use Rattle.page_tree.specs.Walk.{Visit, walk}
use Rattle.site_types.specs.declared.body.Body.{Body}
use Rattle.site_types.specs.declared.permission.Permission.{Permission}
use Rattle.site_types.specs.declared.permission.Permission.TheVariants.{Add, Change, Publish, BulkDelete, Lock, Unlock}
use Rattle.site_types.specs.declared.world_rows.Member.{Member}
use Rattle.site_types.specs.declared.world_rows.Grant.{Grant}
use Rattle.site_model.specs.World.{TreePart}
use Rattle.site_types.specs.declared.world_rows.UserRow.{UserRow}
use Rattle.site_model.specs.Rights.{gives, is_same, is_superuser, is_granted, held}
use Rattle.site_model.proofs.RightLemmas.{held_by_walks}
use Rattle.grants.specs.declared.right.Held.{Held}
use Rattle.grants.specs.Granted.{held_where, held_either, gives_any, seen_held}

-- tests that agree at each permission hold the same
pub held_agree : (one other : Permission → Bool) → ((p : Permission) → one p ≡ other p) →
    held_where one ≡ held_where other
held_agree one other same =
    rw (same Add, same Change, same Publish, same BulkDelete, same Lock, same Unlock) refl

-- four tests of which one holds, in another order
sort_or : (a b c d : Bool) → (a || b) || (c || d) ≡ (a || c) || (b || d)
sort_or true b c d = refl
sort_or false true true d = refl
sort_or false true false d = refl
sort_or false false c d = refl

module _ {Item : Type 0} where
  -- tests that agree at each item pass the same lists
  pub any_agree : (one other : Item → Bool) → ((x : Item) → one x ≡ other x) → (xs : List Item) →
      list_any one xs ≡ list_any other xs
  any_agree one other same [] = refl
  any_agree one other same (x ∷ xs) = rw (same x, any_agree one other same xs) refl

  -- an item passes one of two tests where one passes the first or one passes the second
  pub any_either : (one other : Item → Bool) (xs : List Item) →
      list_any (λ x. one x || other x) xs ≡ list_any one xs || list_any other xs
  any_either one other [] = refl
  any_either one other (x ∷ xs) =
      rw (any_either one other xs)
      (sort_or (one x) (other x) (list_any one xs) (list_any other xs))

  -- a test of what another keeps
  pub any_kept : (keep test : Item → Bool) (xs : List Item) →
      list_any test (filter keep xs) ≡ list_any (λ x. keep x && test x) xs
  any_kept keep test [] = refl
  any_kept keep test (x ∷ xs) = choice (keep x) (any_kept keep test xs)
    where
      choice : (t : Bool) →
          list_any test (filter keep xs) ≡ list_any (λ x. keep x && test x) xs →
          list_any test (cond t (x ∷ filter keep xs) (filter keep xs))
          ≡ (t && test x) || list_any (λ x. keep x && test x) xs
      choice true more = rw more refl
      choice false more = more

-- one grant more
pub one_more : (test : Permission → Grant → Bool) (grants : List Grant) (i : ℕ) (grant : Grant)
    (before : Held) → i < length grants → grant ≡ get_or grants i grant →
    before ≡ held_where (λ p. list_any (test p) (take i grants)) →
    held_either before (held_where (λ p. test p grant))
    ≡ held_where (λ p. list_any (test p) (take (i + 1) grants))
one_more test grants i grant before within is so_far =
    ap (λ held. held_either held (held_where (λ p. test p grant))) so_far
    ∙ held_agree (λ p. list_any (test p) (take i grants) || test p grant)
    (λ p. list_any (test p) (take (i + 1) grants))
    (λ p. ap (λ (g : Grant). list_any (test p) (take i grants) || test p g) is
    ∙ sym (list_any_more (test p) grants i grant within))

-- whether a group is that of one of these memberships
group_among : (group : ℕ) (members : List Member) →
    list_any (λ (m : Member). nat_eq m.group group) members
    ≡ list_any (λ g. nat_eq g group) (map (λ (m : Member). m.group) members)
group_among group [] = refl
group_among group (member ∷ members) =
    ap (λ t. nat_eq member.group group || t) (group_among group members)

-- three tests, in another order
last_first : (a b c : Bool) → a && (b && c) ≡ a && (c && b)
last_first true true true = refl
last_first true true false = refl
last_first true false true = refl
last_first true false false = refl
last_first false b c = refl

-- what the grants at a page give is what all grants give there
pub given_here : (grants : List Grant) (members : List Member) (page : ℕ) →
    held_where (λ p. list_any (gives_any members p)
    (filter (λ (g : Grant). nat_eq g.page page) grants))
    ≡ held_where (λ p. list_any (gives (map (λ (m : Member). m.group) members) p page) grants)
given_here grants members page =
    held_agree
    (λ p. list_any (gives_any members p) (filter (λ (g : Grant). nat_eq g.page page) grants))
    (λ p. list_any (gives (map (λ (m : Member). m.group) members) p page) grants)
    (λ p. any_kept (λ (g : Grant). nat_eq g.page page) (gives_any members p) grants
    ∙ any_agree (λ (g : Grant). nat_eq g.page page && gives_any members p g)
    (gives (map (λ (m : Member). m.group) members) p page)
    (λ g. ap (λ t. nat_eq g.page page && (t && is_same g.permission p))
    (group_among g.group members)
    ∙ last_first (nat_eq g.page page)
    (list_any (λ group. nat_eq group g.group) (map (λ (m : Member). m.group) members))
    (is_same g.permission p)) grants)

-- what is granted on the walk to a page to the groups of these memberships
abbrev pub granted_along : TreePart → ℕ → List Member → List Grant → Held
granted_along part page members grants =
    held_where (λ p. list_any (λ (visit : Visit Body).
    list_any (gives (map (λ (m : Member). m.group) members) p visit.id) grants)
    (walk page part.tree))

-- what the model says is held is what these tests say, as the model has it
held_seen : (part : TreePart) (user page : ℕ) →
    seen_held (held_where (λ p. is_superuser part.users user || is_granted part user p page))
    ≡ held part user page
held_seen part user page =
    let walks = held_by_walks part user page in
    rw (walks Add, walks Change, walks Publish, walks BulkDelete, walks Lock, walks Unlock) refl

-- a superuser holds everything
pub all_held : (part : TreePart) (user page : ℕ) (users : List UserRow) → users ≡ part.users →
    is_superuser users user ≡ true →
    seen_held (held_where (λ p. true)) ≡ held part user page
all_held part user page users same super =
    let there : is_superuser part.users user ≡ true = ap (λ us. is_superuser us user) (sym same) ∙ super in
    ap seen_held (held_agree (λ p. true)
    (λ p. is_superuser part.users user || is_granted part user p page) (λ p. rw there refl))
    ∙ held_seen part user page

-- nobody but a superuser holds more than that
pub held_is : (part : TreePart) (user page : ℕ) (result : Held) (members : List Member)
    (grants : List Grant) → is_superuser part.users user ≡ false →
    members ≡ filter (λ (m : Member). nat_eq m.user user) part.members → grants ≡ part.grants →
    result ≡ granted_along part page members grants → seen_held result ≡ held part user page
held_is part user page result members grants none own all is =
    ap seen_held is
    ∙ (ap (λ ms. seen_held (granted_along part page ms grants)) own
    ∙ (ap (λ gs. seen_held (granted_along part page
    (filter (λ (m : Member). nat_eq m.user user) part.members) gs)) all
    ∙ (ap seen_held (held_agree
    (λ p. is_granted part user p page)
    (λ p. is_superuser part.users user || is_granted part user p page) (λ p. rw none refl))
    ∙ held_seen part user page)))
