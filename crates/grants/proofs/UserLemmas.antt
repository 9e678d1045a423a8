-- The users by number and by digest, and one user more.
use Rattle.std.proofs.Common.{◌≡◌, ℕ, zero, suc, ◌+◌, ◌<◌, Bool, true, false, cond, List, [], ◌∷◌, ◌++◌, Option, Some, None, length, length-append, bytes_eq, refl, ap, ◌∙◌, arith}
use Rattle.std.specs.List.{slice_get}
use Rattle.std.specs.Map.{lookup}
use Rattle.std.specs.Option.{option_or}
use Rattle.page_store.proofs.InsertLemmas.{same_bytes}
use Rattle.site_ids.specs.declared.ids.TheConstants.{LAST_USER_ID}
use Rattle.site_types.specs.declared.world_rows.UserRow.{UserRow}
use Rattle.site_types.specs.declared.world_rows.Member.{Member}
use Rattle.site_types.specs.declared.world_rows.Grant.{Grant}
use Rattle.site_model.specs.Rights.{user_at, user_from, user_of}
use Rattle.grants.specs.Kept.{IsKept}

-- no user has number 0
pub none_at_zero : (users : List UserRow) → user_at users 0 ≡ None
none_at_zero [] = refl
none_at_zero (user ∷ users) = refl

-- the users are numbered from 1
pub numbered_from_one : (users : List UserRow) (place : ℕ) → user_at users (suc place) ≡ slice_get users place
numbered_from_one [] place = refl
numbered_from_one (user ∷ users) zero = refl
numbered_from_one (user ∷ users) (suc place) = numbered_from_one users place

-- a user behind the others is found by the digest where none of them is
found_last : (number : ℕ) (digest : List ℕ) (users : List UserRow) (row : UserRow) →
    user_from number digest (users ++ row ∷ [])
    ≡ option_or (user_from number digest users)
    (cond (bytes_eq row.digest digest) (Some (number + length users)) None)
found_last number digest [] row = let none : number + 0 ≡ number = omega arith in rw none refl
found_last number digest (user ∷ users) row =
    choice (bytes_eq user.digest digest) (found_last (suc number) digest users row)
  where
    choice : (t : Bool) →
        user_from (suc number) digest (users ++ row ∷ [])
        ≡ option_or (user_from (suc number) digest users)
        (cond (bytes_eq row.digest digest) (Some (suc number + length users)) None) →
        cond t (Some number) (user_from (suc number) digest (users ++ row ∷ []))
        ≡ option_or (cond t (Some number) (user_from (suc number) digest users))
        (cond (bytes_eq row.digest digest) (Some (number + length (user ∷ users))) None)
    choice true more = refl
    choice false more =
        let count : suc number + length users ≡ number + length (user ∷ users) = omega arith in
        rw (← count) more

-- where none has the digest, one more user is found by it, and the others by theirs
found_more : (users : List UserRow) (row : UserRow) (digest : List ℕ) → user_of row.digest users ≡ None →
    cond (bytes_eq row.digest digest) (Some (length users + 1)) (user_of digest users)
    ≡ user_of digest (users ++ row ∷ [])
found_more users row digest new =
    rw (found_last 1 digest users row) (choice (bytes_eq row.digest digest) refl)
  where
    choice : (t : Bool) → bytes_eq row.digest digest ≡ t →
        cond t (Some (length users + 1)) (user_of digest users)
        ≡ option_or (user_of digest users) (cond t (Some (1 + length users)) None)
    choice true e =
        let same = same_bytes row.digest digest e in
        let none : user_of digest users ≡ None = rw same at new in
        let count : length users + 1 ≡ 1 + length users = omega arith in
        rw (none, count) refl
    choice false e = rest (user_of digest users)
      where
        rest : (o : Option ℕ) → o ≡ option_or o None
        rest None = refl
        rest (Some number) = refl

-- what is kept stands for one user more
pub kept_more : (users : List UserRow) (numbers later : List (List ℕ × ℕ)) (groups : ℕ)
    (members : List Member) (grants : List Grant) (row : UserRow) →
    IsKept users numbers groups members grants →
    length users < LAST_USER_ID → user_of row.digest users ≡ None →
    ((digest : List ℕ) → lookup (bytes_eq digest) later
    ≡ cond (bytes_eq row.digest digest) (Some (length users + 1)) (lookup (bytes_eq digest) numbers)) →
    IsKept (users ++ row ∷ []) later groups members grants
kept_more users numbers later groups members grants row kept left new entered =
    record {
      found = λ digest. entered digest
          ∙ (ap (cond (bytes_eq row.digest digest) (Some (length users + 1))) (kept.found digest)
          ∙ found_more users row digest new);
      user_count = let count = length-append users (row ∷ []) in omega arith;
      group_count = kept.group_count;
      members_rise = kept.members_rise;
      grants_rise = kept.grants_rise;
    }
