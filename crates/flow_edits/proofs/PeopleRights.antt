-- Room for one grant more.
use Rattle.std.proofs.Common.{◌≡◌, ◌≤◌, ◌+◌, ℕ, suc, Bool, true, false, not, cond, nat_lt, List, [], ◌∷◌, length, refl, sym, ap, ◌∙◌, arith}
use Rattle.std.specs.Prelude.{filter}
use Rattle.std.proofs.lemmas.Bool.Decides.{nat_tests}
use Rattle.page_tree.specs.Rows.{comes_before}
use Rattle.site_types.specs.declared.permission.Permission.{Permission}
use Rattle.site_types.specs.declared.world_rows.Grant.{Grant as PageGrant}
use Rattle.site_model.specs.World as worlds
use Rattle.site_model.specs.Limits.{MAX_GRANTS}
use Rattle.site_model.specs.Users.{is_grant, grant_key, grant_of, put_in, grants_after}
use Rattle.site_part.specs.declared.part.TreePart.{TreePart}
use Rattle.site_part.specs.Standing.{IsReady}

-- one grant more
length_put : {X : Type 0} (key : X → List ℕ) (new : X) (items : List X) →
    length (put_in key new items) ≡ length items + 1
length_put key new [] = refl
length_put key new (item ∷ items) =
    by (comes_before (key new) (key item)) (length_put key new items)
  where
    by : (t : Bool) → length (put_in key new items) ≡ length items + 1 →
        length (cond t (new ∷ item ∷ items) (item ∷ put_in key new items))
        ≡ suc (length items) + 1
    by true more = omega arith
    by false more = omega (arith, more)

-- there is no fewer of what a test keeps
length_kept : {X : Type 0} (keep : X → Bool) (items : List X) →
    length (filter keep items) ≤ length items
length_kept keep [] = omega arith
length_kept keep (item ∷ items) = by (keep item) (length_kept keep items)
  where
    by : (t : Bool) → length (filter keep items) ≤ length items →
        length (cond t (item ∷ filter keep items)
        (filter keep items)) ≤ suc (length items)
    by true more = omega (arith, more)
    by false more = omega (arith, more)

-- a test of one number more
less_than : (limit count longer : ℕ) → longer ≡ count + 1 →
    nat_lt count limit ≡ not (nat_lt limit longer)
less_than limit count longer is = by (nat_lt count limit) refl
  where
    by : (t : Bool) → nat_lt count limit ≡ t → t ≡ not (nat_lt limit longer)
    by true e = let no : nat_lt limit longer ≡ false = grind (arith, nat_tests) in rw no refl
    by false e = let yes : nat_lt limit longer ≡ true = grind (arith, nat_tests) in rw yes refl

-- there is room for a grant more where one is left, and always for one less
pub room_told : (kept : TreePart) (part : worlds.TreePart) (group page : ℕ)
    (permission : Permission) (count : ℕ) → IsReady kept part →
    count ≡ length kept.grants.grants →
    nat_lt count MAX_GRANTS
    ≡ not (nat_lt MAX_GRANTS (length (grants_after part.grants group page permission true)))
room_told kept part group page permission count ready is =
    less_than MAX_GRANTS count (length (grants_after part.grants group page permission true))
    (length_put grant_key (grant_of group page permission) part.grants
    ∙ ap (λ n. n + 1) (ap length (sym ready.stands.lists.grants) ∙ sym is))

-- nothing is in the way of one less
pub room_less : (kept : TreePart) (part : worlds.TreePart) (group page : ℕ)
    (permission : Permission) → IsReady kept part →
    true ≡ not (nat_lt MAX_GRANTS (length (grants_after part.grants group page permission false)))
room_less kept part group page permission ready =
    let fewer = length_kept (λ (grant : PageGrant). not (is_grant group page permission grant))
    part.grants in
    let most = ready.reached.sound.grants.grants_fit in
    let fits : nat_lt MAX_GRANTS (length (grants_after part.grants group page permission false))
    ≡ false = within (length (grants_after part.grants group page permission false)) (omega (
      arith,
      fewer,
      most,
    )) in
    rw fits refl
  where
    within : (n : ℕ) → n ≤ MAX_GRANTS → nat_lt MAX_GRANTS n ≡ false
    within n fits = grind (arith, nat_tests)
