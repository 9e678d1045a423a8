-- The key of a membership, and memberships with one more or less.
use Rattle.std.proofs.Common.{◌≡◌, ℕ, ◌<◌, ◌≤◌, Bool, true, false, List, [], ◌∷◌, Ok, Err, length, insert, remove, arith}
use Rattle.std.proofs.lemmas.Bool.Decides.{nat_tests}
use Rattle.site_types.specs.declared.world_rows.Member.{Member}
use Rattle.site_model.specs.Users.{member_key, membership, is_membership}
use Rattle.site_model.specs.Sound.{KeysRise}
use Rattle.flat_model.specs.People.{members_with}
use Rattle.desk_pairs.specs.Places.{search_told}
use Rattle.desk_pairs.proofs.PlaceLemmas.{IsTestOf}
use Rattle.desk_pairs.proofs.SearchLemmas.{taken_where_told, put_where_told, rise_with}

-- a membership has the key where it is the membership
pub tests_member : (user group : ℕ) →
    IsTestOf member_key (user ∷ group ∷ []) (is_membership user group)
tests_member user group =
    record {
      means = λ (member : Member) (passed : is_membership user group member ≡ true).
          let first : member.user ≡ user = grind (arith, nat_tests) in
          let second : member.group ≡ group = grind (arith, nat_tests) in
          cc;
      names = λ (member : Member) (same : member_key member ≡ user ∷ group ∷ []).
          let first : member.user ≡ user = cc in
          let second : member.group ≡ group = cc in
          grind (arith, nat_tests);
    }

-- a membership that a search found is taken out at that place
pub member_taken : (members slice : List Member) (user group place : ℕ) → KeysRise member_key members →
    slice ≡ members →
    Ok place ≡ search_told member_key (user ∷ group ∷ []) (is_membership user group) slice →
    (place < length members) × (remove members place ≡ members_with members user group false)
member_taken members slice user group place rise same told =
    taken_where_told member_key (is_membership user group) (membership user group) (tests_member user group)
    members place rise (rw same at told)

-- a membership that a search did not find is put in at that place
pub member_put : (members slice : List Member) (user group place : ℕ) → slice ≡ members →
    Err place ≡ search_told member_key (user ∷ group ∷ []) (is_membership user group) slice →
    (place ≤ length members)
    × (insert members place (membership user group) ≡ members_with members user group true)
member_put members slice user group place same told =
    put_where_told member_key (is_membership user group) (membership user group) (tests_member user group)
    members place (rw same at told)

-- the memberships still rise
pub members_rise : (members after : List Member) (user group : ℕ) (on : Bool) → KeysRise member_key members →
    after ≡ members_with members user group on → KeysRise member_key after
members_rise members after user group on rise is =
    rw is (rise_with member_key (is_membership user group) (membership user group) (tests_member user group)
    members on rise)
