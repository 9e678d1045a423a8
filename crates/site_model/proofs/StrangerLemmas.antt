-- Who is no user holds nothing, so that whoever may do something is one.
use Rattle.std.proofs.Common.{◌≡◌, ◌<◌, ◌≤◌, ℕ, zero, suc, Bool, true, false, cond, ◌||◌, ◌&&◌, nat_eq, nat_lt, ◌⊎◌, List, [], ◌∷◌, length, filter, Option, Some, None, inl, inr, refl, arith}
use Rattle.std.specs.List.{AllByRecursion, list_any}
use Rattle.std.proofs.lemmas.Bool.Decides.{nat_tests}
use Rattle.site_types.specs.declared.permission.Permission.{Permission}
use Rattle.site_types.specs.declared.permission.Permission.TheVariants.{Add, Change}
use Rattle.site_types.specs.declared.world_rows.UserRow.{UserRow}
use Rattle.site_types.specs.declared.world_rows.Member.{Member}
use Rattle.site_types.specs.declared.world_rows.Grant.{Grant}
use Rattle.site_model.specs.World.{TreePart}
use Rattle.std.specs.Option.{option_map}
use Rattle.site_types.specs.declared.refusal.Refusal.TheVariants.{Denied}
use Rattle.site_model.specs.Rights.{permission_number, user_at, is_superuser, groups_of, has_group, rights_of, permits, above_of, has}
use Rattle.site_model.specs.Views.{View, Stage, owns_all, view_of, meets, moderates, may_edit}
use Rattle.site_model.specs.Needs.{unless_met, first_unmet, need_at, take_need, edit_needs, denied}
use Rattle.site_model.specs.Sound.{NamesBoth, ArePeople}

-- past the last user there is none
no_user_past : (users : List UserRow) (number : ℕ) → length users < number →
    user_at users number ≡ None
no_user_past [] number past = refl
no_user_past (user ∷ users) zero past =
    let no : ⊥ = omega (arith, past) in absurd no
no_user_past (user ∷ users) (suc zero) past =
    let no : ⊥ = omega (arith, past) in absurd no
no_user_past (user ∷ users) (suc (suc number)) past =
    no_user_past users (suc number) (omega (arith, past))

-- nobody past the last user is a member
no_groups : (next groups user : ℕ) (members : List Member) → next ≤ user →
    AllByRecursion (NamesBoth next groups) members → groups_of members user ≡ []
no_groups next groups user [] past all = refl
no_groups next groups user (member ∷ members) past all =
    let given = all.0.0 in
    let differs : nat_eq member.user user ≡ false = grind (arith, nat_tests, given.1, past) in
    rw differs (no_groups next groups user members past all.1)

-- no grant is to nobody
none_granted : (grants : List Grant) →
    filter (λ (grant : Grant). has_group [] grant.group) grants ≡ []
none_granted [] = refl
none_granted (grant ∷ grants) = none_granted grants

-- of nothing granted nothing is held
nothing_held : (permission : Permission) (above : List ℕ) →
    list_any (λ page. list_any (permits permission page) []) above ≡ false
nothing_held permission [] = refl
nothing_held permission (page ∷ above) = nothing_held permission above

-- who is no user is no superuser
stranger_is_not_super : (part : TreePart) (user : ℕ) →
    ArePeople part.users part.members part.next_user part.next_group → part.next_user ≤ user →
    is_superuser part.users user ≡ false
stranger_is_not_super part user people past =
    let none = no_user_past part.users user (omega (arith, people.numbered, past)) in
    let differs : nat_eq user 0 ≡ false = grind (arith, nat_tests, people.numbered, past) in
    rw (none, differs) refl

-- and holds nothing
stranger_holds_nothing : (part : TreePart) (user page : ℕ) (permission : Permission) →
    ArePeople part.users part.members part.next_user part.next_group → part.next_user ≤ user →
    has part user permission page ≡ false
stranger_holds_nothing part user page permission people past =
    rw (
      stranger_is_not_super part user people past,
      no_groups part.next_user part.next_group user part.members past people.members_name,
      none_granted part.grants,
    )
    (nothing_held permission (above_of part.tree page))

-- who is in no group is asked by no task
asked_by_none : (user : ℕ) (stage : Option Stage) →
    moderates (record { user = user; super = false; groups = []; granted = [] }) stage ≡ false
asked_by_none user None = refl
asked_by_none user (Some stage) = refl

-- and may edit nothing
stranger_edits_nothing : (part : TreePart) (user : ℕ) (view : View) →
    ArePeople part.users part.members part.next_user part.next_group → part.next_user ≤ user →
    may_edit (rights_of part user) view ≡ false
stranger_edits_nothing part user view people past =
    rw (
      stranger_is_not_super part user people past,
      no_groups part.next_user part.next_group user part.members past people.members_name,
      none_granted part.grants,
      nothing_held Change view.above,
    )
    (asked_by_none user view.stage)

-- one number is below another or not
below_or_not : (a b : ℕ) → (a < b) ⊎ (b ≤ a)
below_or_not a b = choice (nat_lt a b) refl
  where
    choice : (t : Bool) → nat_lt a b ≡ t → (a < b) ⊎ (b ≤ a)
    choice true is = inl (grind (arith, nat_tests, is))
    choice false is = inr (grind (arith, nat_tests, is))

-- whoever is not denied a permission is a user
pub maker_is_user : (part : TreePart) (user page : ℕ) (permission : Permission) →
    ArePeople part.users part.members part.next_user part.next_group →
    denied part user (need_at part user permission page ∷ []) ≡ None → user < part.next_user
maker_is_user part user page permission people may =
    elim (below_or_not user part.next_user) [
      | inl below ↦ below
      | inr past ↦
          let super = stranger_is_not_super part user people past in
          let held = stranger_holds_nothing part user page permission people past in
          refused (is_superuser part.users user) (has part user permission page) super held may
    ]
  where
    refused : (super held : Bool) → super ≡ false → held ≡ false →
        option_map Denied (cond super None (first_unmet
        (unless_met held (permission_number permission) ∷ []))) ≡ None → user < part.next_user
    refused true held a b is = absurd (cc)
    refused false true a b is = absurd (cc)
    refused false false a b is = absurd (cc)

-- whoever is not denied to take a page away is a user
pub remover_is_user : (part : TreePart) (user page : ℕ) →
    ArePeople part.users part.members part.next_user part.next_group →
    denied part user (take_need part user page ∷ []) ≡ None → user < part.next_user
remover_is_user part user page people may =
    elim (below_or_not user part.next_user) [
      | inl below ↦ below
      | inr past ↦
          refused (is_superuser part.users user) (has part user Change page)
          (has part user Add page) (owns_all part.tree user page)
          (stranger_is_not_super part user people past)
          (stranger_holds_nothing part user page Change people past)
          (stranger_holds_nothing part user page Add people past) may
    ]
  where
    refused : (super change add owned : Bool) → super ≡ false → change ≡ false →
        add ≡ false →
        option_map Denied (cond super None (first_unmet
        (unless_met (change || (add && owned)) (permission_number Change) ∷ []))) ≡ None →
        user < part.next_user
    refused true change add owned a b c is = absurd (cc)
    refused false true add owned a b c is = absurd (cc)
    refused false false true owned a b c is = absurd (cc)
    refused false false false owned a b c is = absurd (cc)

-- whoever is not denied to edit a page is a user
pub editor_is_user : (part : TreePart) (user page : ℕ) →
    ArePeople part.users part.members part.next_user part.next_group →
    denied part user (edit_needs part user page) ≡ None → user < part.next_user
editor_is_user part user page people may =
    elim (below_or_not user part.next_user) [
      | inl below ↦ below
      | inr past ↦
          refused (is_superuser part.users user) (view_of part page)
          (stranger_is_not_super part user people past)
          (λ view. stranger_edits_nothing part user view people past) may
    ]
  where
    refused : (super : Bool) (view : Option View) → super ≡ false →
        ((seen : View) → may_edit (rights_of part user) seen ≡ false) →
        option_map Denied (cond super None (first_unmet
        (unless_met (meets (may_edit (rights_of part user)) view) (permission_number Change) ∷ [])))
        ≡ None → user < part.next_user
    refused true view a b is = absurd (cc)
    refused false None a b is = absurd (cc)
    refused false (Some view) a b is = let no = rw (b view) at is in absurd (cc)
