-- How the page above a page is kept.
use Rattle.std.specs.Prelude.{◌≡◌, ◌≤◌, ◌⊎◌, ℕ, zero, suc, Option, Some, None}
use Rattle.std.specs.Option.{SomeIff}
use Rattle.std.proofs.Common.{refl, ap, arith, inl, inr}
use Rattle.site_types.specs.Ids.{IsPageId}
use Rattle.page_store.specs.Stored.{page_numbered}

-- a number from 1 on names a page
pub numbered_page : (n : ℕ) → 1 ≤ n → page_numbered n ≡ Some n
numbered_page zero from_one = absurd (omega arith)
numbered_page (suc n) from_one = refl

-- the page that a kept number names is what a check of the number gives
pub number_names : (n : ℕ) (found : Option ℕ) → (n ≡ 0) ⊎ IsPageId n → SomeIff found (IsPageId n) n →
    found ≡ page_numbered n
number_names zero None kept is = refl
number_names zero (Some page) kept is = absurd (let at_least = is.0.0 in omega arith)
number_names (suc n) None (inl e) is = absurd (omega arith)
number_names (suc n) None (inr fits) is = absurd (is fits)
number_names (suc n) (Some page) kept is = ap Some is.1
