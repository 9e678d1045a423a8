-- The key of a grant, and grants with one more or less.
use Rattle.std.proofs.Common.{◌≡◌, ℕ, ◌<◌, ◌≤◌, Bool, true, false, List, Ok, Err, length, insert, remove, arith}
use Rattle.std.proofs.lemmas.Bool.Decides.{nat_tests}
use Rattle.site_types.specs.declared.world_rows.Grant.{Grant}
use Rattle.site_model.specs.Rights.{permission_number}
use Rattle.site_model.specs.Users.{grant_key, is_grant}
use Rattle.site_model.specs.Sound.{KeysRise}
use Rattle.flat_model.specs.People.{grants_with}
use Rattle.desk_pairs.specs.Places.{search_told}
use Rattle.desk_pairs.proofs.PlaceLemmas.{IsTestOf}
use Rattle.desk_pairs.proofs.SearchLemmas.{taken_where_told, put_where_told, rise_with}

-- whether this is that grant
abbrev is_this : Grant → Grant → Bool
is_this grant = is_grant grant.group grant.page grant.permission

-- a grant has the key where it is the grant
pub tests_grant : (grant : Grant) → IsTestOf grant_key (grant_key grant) (is_this grant)
tests_grant grant =
    record {
      means = λ (other : Grant) (passed : is_this grant other ≡ true).
          let first : other.page ≡ grant.page = grind (arith, nat_tests) in
          let second : other.group ≡ grant.group = grind (arith, nat_tests) in
          let third : permission_number other.permission ≡ permission_number grant.permission =
          grind (arith, nat_tests) in
          cc;
      names = λ (other : Grant) (same : grant_key other ≡ grant_key grant).
          let first : other.page ≡ grant.page = cc in
          let second : other.group ≡ grant.group = cc in
          let third : permission_number other.permission ≡ permission_number grant.permission = cc in
          grind (arith, nat_tests);
    }

-- a grant that a search found is taken out at that place
pub grant_taken : (grants slice : List Grant) (grant : Grant) (place : ℕ) → KeysRise grant_key grants →
    slice ≡ grants → Ok place ≡ search_told grant_key (grant_key grant) (is_this grant) slice →
    (place < length grants)
    × (remove grants place ≡ grants_with grants grant.group grant.page grant.permission false)
grant_taken grants slice grant place rise same told =
    taken_where_told grant_key (is_this grant) grant (tests_grant grant) grants place rise (rw same at told)

-- a grant that a search did not find is put in at that place
pub grant_put : (grants slice : List Grant) (grant : Grant) (place : ℕ) → slice ≡ grants →
    Err place ≡ search_told grant_key (grant_key grant) (is_this grant) slice →
    (place ≤ length grants)
    × (insert grants place grant ≡ grants_with grants grant.group grant.page grant.permission true)
grant_put grants slice grant place same told =
    put_where_told grant_key (is_this grant) grant (tests_grant grant) grants place (rw same at told)

-- the grants still rise
pub grants_rise : (grants after : List Grant) (grant : Grant) (on : Bool) → KeysRise grant_key grants →
    after ≡ grants_with grants grant.group grant.page grant.permission on → KeysRise grant_key after
grants_rise grants after grant on rise is =
    rw is (rise_with grant_key (is_this grant) grant (tests_grant grant) grants on rise)
