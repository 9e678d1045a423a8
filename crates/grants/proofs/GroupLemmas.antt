-- Who is a member of one of several groups.
use Rattle.std.proofs.Common.{◌≡◌, ℕ, Bool, false, ◌||◌, nat_eq, List, [], ◌∷◌, map, refl, sym, ap, ◌∙◌, arith}
use Rattle.std.proofs.lemmas.Bool.Decides.{nat_tests}
use Rattle.std.specs.List.{list_any}
use Rattle.site_types.specs.declared.world_rows.Member.{Member}
use Rattle.site_model.specs.Rights.{has_group}
use Rattle.grants.proofs.HeldLemmas.{any_agree, any_either}

-- nothing passes where nothing may
pub none_any : {Item : Type 0} (xs : List Item) → list_any (λ x. false) xs ≡ false
none_any [] = refl
none_any (x ∷ xs) = none_any xs

-- one of each list passes, whichever list is taken first
any_in_turn : {One : Type 0} {Other : Type 0} (test : One → Other → Bool) (xs : List One)
    (ys : List Other) →
    list_any (λ x. list_any (test x) ys) xs ≡ list_any (λ y. list_any (λ x. test x y) xs) ys
any_in_turn test [] ys = sym (none_any ys)
any_in_turn test (x ∷ xs) ys =
    ap (λ t. list_any (test x) ys || t) (any_in_turn test xs ys)
    ∙ sym (any_either (test x) (λ y. list_any (λ x. test x y) xs) ys)

-- equality of numbers, turned round
same_turned : (a b : ℕ) → nat_eq a b ≡ nat_eq b a
same_turned a b = grind (arith, nat_tests)

-- members of one of these groups, by the groups of these members
by_groups : (groups : List ℕ) (members : List Member) →
    list_any (λ (member : Member). list_any (λ id. nat_eq member.group id) groups) members
    ≡ list_any (λ own. has_group groups own) (map (λ (member : Member). member.group) members)
by_groups groups [] = refl
by_groups groups (member ∷ members) =
    rw (
      any_agree (λ id. nat_eq member.group id) (λ id. nat_eq id member.group)
          (λ id. same_turned member.group id) groups,
      by_groups groups members,
    )
    refl

-- one of these members is in one of these groups
pub members_asked : (groups : List ℕ) (members : List Member) →
    list_any (λ id. list_any (λ (member : Member). nat_eq member.group id) members) groups
    ≡ list_any (λ own. has_group groups own) (map (λ (member : Member). member.group) members)
members_asked groups members =
    any_in_turn (λ id (member : Member). nat_eq member.group id) groups members
    ∙ by_groups groups members
