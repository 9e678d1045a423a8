-- What holds of each element of a list, by recursion along it.
use Rattle.std.proofs.Common.{List, [], ◌∷◌, ◌++◌}
use Rattle.std.specs.List.{AllByRecursion}

-- what holds of each element where something stronger does
pub all_weaker : {X : Type 0} (P Q : X → Type 0) (xs : List X) → ((x : X) → P x → Q x) →
    AllByRecursion P xs → AllByRecursion Q xs
all_weaker P Q [] w all = tt
all_weaker P Q (x ∷ xs) w all = (w x all.0, all_weaker P Q xs w all.1)

-- what two facts of each element give
pub all_both : {X : Type 0} (P Q R : X → Type 0) (xs : List X) → ((x : X) → P x → Q x → R x) →
    AllByRecursion P xs → AllByRecursion Q xs → AllByRecursion R xs
all_both P Q R [] w p q = tt
all_both P Q R (x ∷ xs) w p q = (w x p.0 q.0, all_both P Q R xs w p.1 q.1)

-- what holds of each element of two lists
pub all_append : {X : Type 0} (P : X → Type 0) (xs ys : List X) → AllByRecursion P xs →
    AllByRecursion P ys → AllByRecursion P (xs ++ ys)
all_append P [] ys p q = q
all_append P (x ∷ xs) ys p q = (p.0, all_append P xs ys p.1 q)

-- what holds of each element of two lists together holds of each of either
pub all_parts : {X : Type 0} (P : X → Type 0) (xs ys : List X) → AllByRecursion P (xs ++ ys) →
    AllByRecursion P xs × AllByRecursion P ys
all_parts P [] ys p = (tt, p)
all_parts P (x ∷ xs) ys p = let more = all_parts P xs ys p.1 in ((p.0, more.0), more.1)

-- what always holds, holds of each element
pub all_always : {X : Type 0} (P : X → Type 0) (xs : List X) → ((x : X) → P x) → AllByRecursion P xs
all_always P [] w = tt
all_always P (x ∷ xs) w = (w x, all_always P xs w)
