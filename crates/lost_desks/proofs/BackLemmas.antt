-- What is taken out of a list that rises by its keys and put in again leaves the list as it was.
use Rattle.std.proofs.Common.{◌≡◌, ℕ, Bool, true, false, not, List, [], ◌∷◌, filter, refl, ap, sym, ◌∙◌, arith}
use Rattle.std.specs.List.{AllByRecursion, list_any}
use Rattle.std.proofs.lemmas.Bool.Decides.{nat_tests}
use Rattle.page_tree.specs.Rows.{comes_before}
use Rattle.site_types.specs.declared.permission.Permission.{Permission}
use Rattle.site_types.specs.declared.permission.Permission.TheVariants.{Add, Change, Publish, BulkDelete, Lock, Unlock}
use Rattle.site_types.specs.declared.world_rows.Member.{Member}
use Rattle.site_types.specs.declared.world_rows.Grant.{Grant}
use Rattle.site_model.specs.Rights.{permission_number}
use Rattle.site_model.specs.Users.{put_in, member_key, grant_key, membership, grant_of, is_membership, is_grant, members_after, grants_after}
use Rattle.site_model.specs.Sound.{KeysRise}
use Rattle.flat_model.specs.People.{members_with, grants_with}
use Rattle.page_tree.proofs.OrderLemmas.{comes_before-not_back}
use Rattle.desk_pairs.proofs.KeyLemmas.{before_self}

module _ {Item : Type 0} (key : Item → List ℕ) (new : Item) (test : Item → Bool)
    (names : (item : Item) → test item ≡ true → item ≡ new) where
  -- an item before the one that is looked for comes before it
  found_behind : (item : Item) (items : List Item) → list_any test items ≡ true →
      AllByRecursion (λ (later : Item). comes_before (key item) (key later) ≡ true) items →
      comes_before (key item) (key new) ≡ true
  found_behind item [] found before = absurd cc
  found_behind item (next ∷ items) found before =
      choice (test next) refl (λ later. found_behind item items later before.1)
    where
      choice : (t : Bool) → test next ≡ t →
          (list_any test items ≡ true → comes_before (key item) (key new) ≡ true) →
          comes_before (key item) (key new) ≡ true
      choice true e more =
          let same = names next e in
          ap (λ (one : Item). comes_before (key item) (key one)) (sym same) ∙ before.0
      choice false e more = more (rw e at found)

  -- those behind it do not pass
  behind_fails : (item : Item) (items : List Item) → item ≡ new →
      AllByRecursion (λ (later : Item). comes_before (key item) (key later) ≡ true) items →
      filter (λ one. not (test one)) items ≡ items
  behind_fails item [] same before = refl
  behind_fails item (next ∷ items) same before =
      choice (test next) refl (behind_fails item items same before.1)
    where
      choice : (t : Bool) → test next ≡ t → filter (λ one. not (test one)) items ≡ items →
          filter (λ one. not (test one)) (next ∷ items) ≡ next ∷ items
      choice true e more =
          let own = names next e in
          absurd (before_self (key item) (key next) (ap key (same ∙ sym own)) before.0)
      choice false e more = rw e (ap (λ rest. next ∷ rest) more)

  -- it goes in before those that come after it
  put_first : (items : List Item) →
      AllByRecursion (λ (later : Item). comes_before (key new) (key later) ≡ true) items →
      put_in key new items ≡ new ∷ items
  put_first [] before = refl
  put_first (next ∷ items) before = rw (before.0) refl

  -- put in again it stands where it stood
  pub put_back : (items : List Item) → KeysRise key items → list_any test items ≡ true →
      put_in key new (filter (λ one. not (test one)) items) ≡ items
  put_back [] rise found = absurd cc
  put_back (item ∷ items) rise found =
      choice (test item) refl (λ later. put_back items rise.1 later)
    where
      choice : (t : Bool) → test item ≡ t →
          (list_any test items ≡ true →
          put_in key new (filter (λ one. not (test one)) items) ≡ items) →
          put_in key new (filter (λ one. not (test one)) (item ∷ items)) ≡ item ∷ items
      choice true e more =
          let same = names item e in
          let left = behind_fails item items same rise.0 in
          let first : AllByRecursion (λ (later : Item).
          comes_before (key new) (key later) ≡ true) items =
          turned items rise.0 same in
          rw (e, left) (put_first items first ∙ ap (λ (one : Item). one ∷ items) (sym same))
        where
          turned : (later : List Item) →
              AllByRecursion (λ (one : Item). comes_before (key item) (key one) ≡ true) later →
              item ≡ new →
              AllByRecursion (λ (one : Item). comes_before (key new) (key one) ≡ true) later
          turned [] all same = tt
          turned (one ∷ later) all same = (
            ap (λ (other : Item). comes_before (key other) (key one)) (sym same) ∙ all.0,
            turned later all.1 same,
          )
      choice false e more =
          let later : list_any test items ≡ true = rw e at found in
          let before = found_behind item items later rise.0 in
          let after = comes_before-not_back (key item) (key new) before in
          rw (e, after) (ap (λ rest. item ∷ rest) (more later))

-- none is left of those that are taken out
none_left : {Item : Type 0} (test : Item → Bool) (items : List Item) →
    list_any test (filter (λ one. not (test one)) items) ≡ false
none_left test [] = refl
none_left test (item ∷ items) = choice (test item) refl (none_left test items)
  where
    choice : (t : Bool) → test item ≡ t →
        list_any test (filter (λ one. not (test one)) items) ≡ false →
        list_any test (filter (λ one. not (test one)) (item ∷ items)) ≡ false
    choice true e more = rw e more
    choice false e more = rw (e, e) more

-- a membership that is tested for is the membership
member_is : (user group : ℕ) (member : Member) → is_membership user group member ≡ true →
    member ≡ membership user group
member_is user group member is =
    let first : member.user ≡ user = grind (arith, nat_tests) in
    let second : member.group ≡ group = grind (arith, nat_tests) in
    ap (λ u. membership u member.group) first ∙ ap (membership user) second

-- permissions with one number are one
permission_is : (one other : Permission) → permission_number one ≡ permission_number other →
    one ≡ other
permission_is Add Add is = refl
permission_is Add Change is = absurd (omega arith)
permission_is Add Publish is = absurd (omega arith)
permission_is Add BulkDelete is = absurd (omega arith)
permission_is Add Lock is = absurd (omega arith)
permission_is Add Unlock is = absurd (omega arith)
permission_is Change Add is = absurd (omega arith)
permission_is Change Change is = refl
permission_is Change Publish is = absurd (omega arith)
permission_is Change BulkDelete is = absurd (omega arith)
permission_is Change Lock is = absurd (omega arith)
permission_is Change Unlock is = absurd (omega arith)
permission_is Publish Add is = absurd (omega arith)
permission_is Publish Change is = absurd (omega arith)
permission_is Publish Publish is = refl
permission_is Publish BulkDelete is = absurd (omega arith)
permission_is Publish Lock is = absurd (omega arith)
permission_is Publish Unlock is = absurd (omega arith)
permission_is BulkDelete Add is = absurd (omega arith)
permission_is BulkDelete Change is = absurd (omega arith)
permission_is BulkDelete Publish is = absurd (omega arith)
permission_is BulkDelete BulkDelete is = refl
permission_is BulkDelete Lock is = absurd (omega arith)
permission_is BulkDelete Unlock is = absurd (omega arith)
permission_is Lock Add is = absurd (omega arith)
permission_is Lock Change is = absurd (omega arith)
permission_is Lock Publish is = absurd (omega arith)
permission_is Lock BulkDelete is = absurd (omega arith)
permission_is Lock Lock is = refl
permission_is Lock Unlock is = absurd (omega arith)
permission_is Unlock Add is = absurd (omega arith)
permission_is Unlock Change is = absurd (omega arith)
permission_is Unlock Publish is = absurd (omega arith)
permission_is Unlock BulkDelete is = absurd (omega arith)
permission_is Unlock Lock is = absurd (omega arith)
permission_is Unlock Unlock is = refl

-- a grant that is tested for is the grant
grant_is : (group page : ℕ) (permission : Permission) (grant : Grant) →
    is_grant group page permission grant ≡ true → grant ≡ grant_of group page permission
grant_is group page permission grant is =
    let first : grant.page ≡ page = grind (arith, nat_tests) in
    let second : grant.group ≡ group = grind (arith, nat_tests) in
    let third = permission_is grant.permission permission (grind (arith, nat_tests)) in
    ap (λ p. grant_of grant.group p grant.permission) first
    ∙ (ap (λ g. grant_of g page grant.permission) second ∙ ap (grant_of group page) third)

-- A membership that ends and begins again leaves the memberships as they were.
pub member_back : (members : List Member) (user group : ℕ) → KeysRise member_key members →
    list_any (is_membership user group) members ≡ true →
    members_with (members_with members user group false) user group true ≡ members
member_back members user group rise there =
    let gone = none_left (is_membership user group) members in
    rw (there, gone)
    (put_back member_key (membership user group) (is_membership user group) (member_is user group)
    members rise there)

-- A grant that is withdrawn and given again leaves the grants as they were.
pub grant_back : (grants : List Grant) (group page : ℕ) (permission : Permission) →
    KeysRise grant_key grants → list_any (is_grant group page permission) grants ≡ true →
    grants_with (grants_with grants group page permission false) group page permission true ≡ grants
grant_back grants group page permission rise there =
    let gone = none_left (is_grant group page permission) grants in
    rw (there, gone)
    (put_back grant_key (grant_of group page permission) (is_grant group page permission)
    (grant_is group page permission) grants rise there)

-- a membership that is there is taken out
pub member_gone : (members : List Member) (user group : ℕ) →
    list_any (is_membership user group) members ≡ true →
    members_with members user group false ≡ members_after members user group false
member_gone members user group there = rw there refl

-- a grant that is there is taken out
pub grant_gone : (grants : List Grant) (group page : ℕ) (permission : Permission) →
    list_any (is_grant group page permission) grants ≡ true →
    grants_with grants group page permission false ≡ grants_after grants group page permission false
grant_gone grants group page permission there = rw there refl
