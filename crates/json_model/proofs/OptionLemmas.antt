-- What is known of an option that was made in steps, where it is there.
use Rattle.std.proofs.Common.{◌≡◌, Bool, true, false, ◌⊎◌, inl, inr, Option, Some, None, option_map, option_and_then, if◌then◌else◌, refl}
use Rattle.std.specs.Bool.{then_some}

-- where two steps give something, the first gave something, and the second gave that of it
pub and_then_gives : {A B : Type 0} (f : A → Option B) (o : Option A) (b : B) →
    option_and_then f o ≡ Some b → (a : A) × (o ≡ Some a) × (f a ≡ Some b)
and_then_gives f None b e = absurd (cc)
and_then_gives f (Some a) b e = (a, refl, e)

-- what was mapped is the map of something
pub map_gives : {A B : Type 0} (f : A → B) (o : Option A) (b : B) →
    option_map f o ≡ Some b → (a : A) × (o ≡ Some a) × (f a ≡ b)
map_gives f None b e = absurd (cc)
map_gives f (Some a) b e = (a, refl, cc)

-- where a test lets something through, it is true, and that came through
pub then_some_gives : {A : Type 0} (test : Bool) (a b : A) →
    then_some test a ≡ Some b → (test ≡ true) × (a ≡ b)
then_some_gives true a b e = (refl, cc)
then_some_gives false a b e = absurd (cc)

-- what a choice gives came from one of its branches
pub choice_gives : {A : Type 0} (test : Bool) (x y : Option A) (a : A) →
    (if test then x else y) ≡ Some a →
    ((test ≡ true) × (x ≡ Some a)) ⊎ ((test ≡ false) × (y ≡ Some a))
choice_gives true x y a e = inl (refl, e)
choice_gives false x y a e = inr (refl, e)
