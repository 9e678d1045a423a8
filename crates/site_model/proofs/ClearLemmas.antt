-- What rules tell that do not refuse, and what lists keep.
use Rattle.std.proofs.Common.{◌≡◌, ◌<◌, ◌≤◌, ℕ, Bool, true, false, cond, not, ◌||◌, List, [], ◌∷◌, ◌++◌, length, Option, Some, None, nat_eq, nat_lt, refl, arith}
use Rattle.std.specs.List.{AllByRecursion, list_any}
use Rattle.std.specs.Option.{option_map}
use Rattle.std.proofs.lemmas.Bool.Decides.{nat_tests}
use Rattle.page_tree.specs.Tree.{Forest, bare, grown}
use Rattle.page_tree.specs.Rows.{Row}
use Rattle.site_types.specs.declared.body.Body.{Body}
use Rattle.site_types.specs.declared.refusal.Refusal.{Refusal}
use Rattle.site_types.specs.declared.refusal.Refusal.TheVariants.{SlugTaken}
use Rattle.site_types.specs.declared.revision.Revision.{Revision}
use Rattle.tree_model.specs.Limits.{MAX_URL}
use Rattle.site_model.specs.Rules.{refused_if, first_of}
use Rattle.tree_model.specs.Shape.{AllPages}
use Rattle.site_model.specs.Sound.{IsGiven, IdsRise, is_own}
use Rattle.tree_model.proofs.CountLemmas.{count}

-- no rule refuses: neither the first nor a later one
pub first_clear : (refusal : Option Refusal) (rules : List (Option Refusal)) →
    first_of (refusal ∷ rules) ≡ None → (refusal ≡ None) × (first_of rules ≡ None)
first_clear (Some refusal) rules is = absurd (cc)
first_clear None rules is = (refl, is)

-- a rule that does not refuse does not hold
pub test_clear : (test : Bool) (refusal : Refusal) → refused_if test refusal ≡ None →
    test ≡ false
test_clear true refusal is = absurd (cc)
test_clear false refusal is = refl

-- where neither a test's refusal nor what comes else refuses, the latter does not
pub else_clear : (test : Bool) (refusal : Refusal) (other : Option Refusal) →
    cond test (Some refusal) other ≡ None → other ≡ None
else_clear true refusal other is = absurd (cc)
else_clear false refusal other is = is

-- a test that refuses does not hold where nothing is refused
pub then_clear : (test : Bool) (refusal : Refusal) (other : Option Refusal) →
    cond test (Some refusal) other ≡ None → test ≡ false
then_clear true refusal other is = absurd (cc)
then_clear false refusal other is = refl

-- a test whose opposite is false is true
pub not_false : (test : Bool) → not test ≡ false → test ≡ true
not_false true is = refl
not_false false is = absurd (cc)

-- where no slug is taken there is none
pub slug_clear : (found : Option ℕ) → option_map SlugTaken found ≡ None → found ≡ None
slug_clear None is = refl
slug_clear (Some id) is = absurd (cc)

-- what is not above a limit is within it
pub limit_clear : (limit n : ℕ) → nat_lt limit n ≡ false → n ≤ limit
limit_clear limit n is = grind (arith, nat_tests)

-- of two tests that do not hold together neither holds
pub neither : (a b : Bool) → (a || b) ≡ false → (a ≡ false) × (b ≡ false)
neither true b is = absurd (cc)
neither false b is = (refl, is)

-- where no URL is too long each is within the limit
pub urls_clear : (rows : List (Row Body)) →
    list_any (λ (row : Row Body). nat_lt MAX_URL (length row.url)) rows ≡ false →
    AllByRecursion (λ (row : Row Body). length row.url ≤ MAX_URL) rows
urls_clear [] is = tt
urls_clear (row ∷ rows) is =
    let parts = neither (nat_lt MAX_URL (length row.url))
    (list_any (λ (row : Row Body). nat_lt MAX_URL (length row.url)) rows) is in
    (limit_clear MAX_URL (length row.url) parts.0, urls_clear rows parts.1)

-- what is in a list is in a longer one
pub any_front : {X : Type 0} (p : X → Bool) (xs ys : List X) → list_any p xs ≡ true →
    list_any p (xs ++ ys) ≡ true
any_front p [] ys is = absurd (cc)
any_front p (x ∷ xs) ys is = choice (p x) is (any_front p xs ys)
  where
    choice : (t : Bool) → (t || list_any p xs) ≡ true →
        (list_any p xs ≡ true → list_any p (xs ++ ys) ≡ true) →
        (t || list_any p (xs ++ ys)) ≡ true
    choice true h more = refl
    choice false h more = more h

-- what is in a list is in one that ends with it
pub any_back : {X : Type 0} (p : X → Bool) (xs ys : List X) → list_any p ys ≡ true →
    list_any p (xs ++ ys) ≡ true
any_back p [] ys is = is
any_back p (x ∷ xs) ys is = choice (p x) (any_back p xs ys is)
  where
    choice : (t : Bool) → list_any p (xs ++ ys) ≡ true → (t || list_any p (xs ++ ys)) ≡ true
    choice true more = refl
    choice false more = more

-- a page's own revision stays its own where more are there
pub own_front : (revisions more : List Revision) (page : ℕ) (choice : Option ℕ) →
    is_own revisions page choice ≡ true → is_own (revisions ++ more) page choice ≡ true
own_front revisions more page None is = absurd (cc)
own_front revisions more page (Some id) is = any_front _ revisions more is

-- ids rise with one more after them that is above each
pub rise_append : (before : ℕ) (revisions : List Revision) (last : Revision) →
    before < last.id → AllByRecursion (λ (revision : Revision). revision.id < last.id) revisions →
    IdsRise before revisions → IdsRise before (revisions ++ last ∷ [])
rise_append before [] last lower all rise = (lower, tt)
rise_append before (revision ∷ revisions) last lower all rise =
    (rise.0, rise_append revision.id revisions last all.0 all.1 rise.1)

-- an id that was not given out stands nowhere
pub not_given : {Body : Type 0} (next j : ℕ) (f : Forest Body) → next ≤ j →
    AllPages (λ id slug body. IsGiven next id) f → count j f ≡ 0
not_given next j bare above all = refl
not_given next j (grown i step slug body kids rest) above all =
    let lower : i < next = all.0.1 in
    let differs : nat_eq i j ≡ false = grind (arith, nat_tests) in
    rw (differs, not_given next j kids above all.1, not_given next j rest above all.2)
    (omega arith)
