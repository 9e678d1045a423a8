-- What a user holds at a page, as one reads it on the walk there.
use Rattle.std.proofs.Common.{◌≡◌, ℕ, Bool, true, false, cond, ◌||◌, ◌&&◌, ◌==◌, List, [], ◌∷◌, map, filter, refl}
use Rattle.std.specs.List.{list_any}
use Rattle.page_tree.specs.Walk.{Visit, walk}
use Rattle.site_types.specs.declared.body.Body.{Body}
use Rattle.site_types.specs.declared.permission.Permission.{Permission}
use Rattle.site_types.specs.declared.world_rows.Grant.{Grant}
use Rattle.site_model.specs.World.{TreePart}
use Rattle.site_model.specs.Rights.{is_same, is_superuser, groups_of, has_group, permits, has, gives, is_granted}

-- a grant to one of the groups gives it what it permits
same_grant : (group same at : Bool) → (group && (at && same)) ≡ (at && (same && group))
same_grant true true true = refl
same_grant true true false = refl
same_grant true false true = refl
same_grant true false false = refl
same_grant false true true = refl
same_grant false true false = refl
same_grant false false true = refl
same_grant false false false = refl

-- two tests that are the same, before two others that are
by_test : (here there a b : Bool) → here ≡ there → a ≡ b → (here || a) ≡ (there || b)
by_test here there a b e f = rw (e, f) refl

-- a false test, before two others that are the same
by_false : (there a b : Bool) → false ≡ there → a ≡ b → a ≡ (there || b)
by_false there a b e f = rw (← e, f) refl

-- of the grants that are to one of the groups, one permits where one of all gives
one_gives : (groups : List ℕ) (permission : Permission) (page : ℕ) (grants : List Grant) →
    list_any (permits permission page)
    (filter (λ (grant : Grant). has_group groups grant.group) grants)
    ≡ list_any (gives groups permission page) grants
one_gives groups permission page [] = refl
one_gives groups permission page (grant ∷ grants) =
    choice (has_group groups grant.group) (is_same grant.permission permission)
    (grant.page == page) (one_gives groups permission page grants)
  where
    choice : (group same at : Bool) →
        list_any (permits permission page)
        (filter (λ (one : Grant). has_group groups one.group) grants)
        ≡ list_any (gives groups permission page) grants →
        list_any (permits permission page) (cond group
        (grant ∷ filter (λ (one : Grant). has_group groups one.group) grants)
        (filter (λ (one : Grant). has_group groups one.group) grants))
        ≡ (((grant.page == page) && (is_same grant.permission permission && group))
        || list_any (gives groups permission page) grants)
    choice true same at more =
        by_test ((grant.page == page) && is_same grant.permission permission) _ _ _
        (same_grant true (is_same grant.permission permission) (grant.page == page)) more
    choice false same at more =
        by_false _ _ _
        (same_grant false (is_same grant.permission permission) (grant.page == page)) more

-- along a walk
along : (groups : List ℕ) (permission : Permission) (grants : List Grant)
    (visits : List (Visit Body)) →
    list_any (λ page. list_any (permits permission page)
    (filter (λ (grant : Grant). has_group groups grant.group) grants))
    (map (λ visit. visit.id) visits)
    ≡ list_any (λ visit. list_any (gives groups permission visit.id) grants) visits
along groups permission grants [] = refl
along groups permission grants (visit ∷ visits) =
    rw (one_gives groups permission visit.id grants, along groups permission grants visits) refl

-- A user holds a permission exactly as a superuser, or where it was granted on the walk.
pub held_by_walks : (part : TreePart) (user page : ℕ) (permission : Permission) →
    has part user permission page
    ≡ (is_superuser part.users user || is_granted part user permission page)
held_by_walks part user page permission =
    rw (along (groups_of part.members user) permission part.grants (walk page part.tree)) refl
