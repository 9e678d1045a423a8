-- What the store keeps as listed pages get paths or URLs, one after another.
use Rattle.std.proofs.Common.{◌≡◌, ℕ, suc, ◌+◌, ◌<◌, Bool, true, false, cond, nat_eq, List, [], ◌∷◌, ◌++◌, Option, Some, None, map, length, take, get_or, refl, ap, sym, ◌∙◌, subst, arith}
use Prim.Native.Nat.{zero}
use Rattle.std.proofs.lemmas.Bool.Decides.{nat_tests}
use Rattle.std.proofs.lemmas.List.{take_more}
use Rattle.std.specs.List.{AllByRecursion, IsDistinct}
use Rattle.std.specs.Option.{option_map}
use Rattle.std.specs.Map.{lookup}
use Rattle.page_store.specs.declared.stored.StoredRow.{StoredRow}
use Rattle.page_store.specs.Settling.{listed_put}

-- a page and what is listed for it
abbrev pub Listing : Type 0
Listing = ℕ × List ℕ

-- what holds of each page that is listed holds of the one at a place
All-at : (P : ℕ → Type 0) (pairs : List Listing) (i : ℕ) (d : Listing) →
    AllByRecursion P (map (λ (pair : Listing). pair.0) pairs) → i < length pairs →
    P (get_or pairs i d).0
All-at P [] i d all within = absurd (omega arith)
All-at P (pair ∷ pairs) zero d all within = all.0
All-at P (pair ∷ pairs) (suc i) d all within = All-at P pairs i d all.1 (omega arith)

-- where each page is listed once, none in front of a place is the one at the place
others_before : (pairs : List Listing) (i : ℕ) (d : Listing) →
    IsDistinct nat_eq (map (λ (pair : Listing). pair.0) pairs) → i < length pairs →
    AllByRecursion (λ pair. nat_eq pair.0 (get_or pairs i d).0 ≡ false) (take i pairs)
unfolding IsDistinct
others_before [] i d once within = absurd (omega arith)
others_before (pair ∷ pairs) zero d once within = tt
others_before (pair ∷ pairs) (suc i) d once within = (
  All-at (λ id. nat_eq pair.0 id ≡ false) pairs i d once.0 (omega arith),
  others_before pairs i d once.1 (omega arith),
)

-- what is listed last for a page that is not listed before it
lookup-last : (q : ℕ) (pairs : List Listing) (last : Listing) →
    AllByRecursion (λ pair. nat_eq pair.0 last.0 ≡ false) pairs →
    lookup (nat_eq q) (pairs ++ last ∷ []) ≡ cond (nat_eq last.0 q) (Some last.1) (lookup (nat_eq q)
    pairs)
lookup-last q [] last others = by (nat_eq q last.0) (nat_eq last.0 q) refl refl
  where
    by : (t u : Bool) → nat_eq q last.0 ≡ t → nat_eq last.0 q ≡ u →
        cond t (Some last.1) None ≡ cond u (Some last.1) None
    by true true e f = refl
    by true false e f = absurd (grind (arith, nat_tests))
    by false true e f = absurd (grind (arith, nat_tests))
    by false false e f = refl
lookup-last q (pair ∷ pairs) last others =
    by (nat_eq q pair.0) (nat_eq last.0 q) refl refl (lookup-last q pairs last others.1)
  where
    by : (t u : Bool) → nat_eq q pair.0 ≡ t → nat_eq last.0 q ≡ u →
        lookup (nat_eq q) (pairs ++ last ∷ []) ≡ cond (nat_eq last.0 q) (Some last.1) (lookup
        (nat_eq q) pairs) →
        cond t (Some pair.1) (lookup (nat_eq q) (pairs ++ last ∷ [])) ≡ cond u (Some last.1) (cond t
        (Some pair.1) (lookup (nat_eq q) pairs))
    by true true e f more = absurd (let differ = others.0 in grind (arith, nat_tests))
    by true false e f more = refl
    by false true e f more = more ∙ rw f refl
    by false false e f more = more ∙ rw f refl

-- nor is it found before
lookup-before : (q : ℕ) (pairs : List Listing) (last : Listing) →
    AllByRecursion (λ pair. nat_eq pair.0 last.0 ≡ false) pairs → nat_eq last.0 q ≡ true →
    lookup (nat_eq q) pairs ≡ None
lookup-before q [] last others is = refl
lookup-before q (pair ∷ pairs) last others is =
    let differ : nat_eq q pair.0 ≡ false = (let apart = others.0 in grind (arith, nat_tests)) in
    rw differ (lookup-before q pairs last others.1 is)

-- Where what is listed so far is put, and then what is listed next, it is put with the others.
pub listed_next : (put : List ℕ → StoredRow → StoredRow) (pairs : List Listing) (pair : Listing)
    (old mid later : ℕ → Option StoredRow) →
    AllByRecursion (λ other. nat_eq other.0 pair.0 ≡ false) pairs →
    ((q : ℕ) → mid q ≡ option_map (listed_put put (lookup (nat_eq q) pairs)) (old q)) →
    ((q : ℕ) → later q ≡ cond (nat_eq pair.0 q) (option_map (put pair.1) (mid pair.0)) (mid q)) →
    (q : ℕ) → later q ≡ option_map (listed_put put (lookup (nat_eq q) (pairs ++ pair ∷ []))) (old q)
listed_next put pairs pair old mid later others before step q =
    step q ∙ by (nat_eq pair.0 q) refl
    ∙ sym (ap (λ o. option_map (listed_put put o) (old q)) (lookup-last q pairs pair others))
  where
    by : (t : Bool) → nat_eq pair.0 q ≡ t →
        cond t (option_map (put pair.1) (mid pair.0)) (mid q) ≡ option_map (listed_put put (cond t
        (Some pair.1) (lookup (nat_eq q) pairs))) (old q)
    by true e =
        let same : pair.0 ≡ q = grind (arith, nat_tests) in
        let none : lookup (nat_eq q) pairs ≡ None = lookup-before q pairs pair others e in
        let was : mid q ≡ option_map (listed_put put None) (old q) =
        before q ∙ ap (λ o. option_map (listed_put put o) (old q)) none in
        ap (λ n. option_map (put pair.1) (mid n)) same ∙ ap (option_map (put pair.1)) was ∙ once_put (old q)
      where
        once_put : (o : Option StoredRow) →
            option_map (put pair.1) (option_map (listed_put put None) o) ≡ option_map (listed_put put
            (Some pair.1)) o
        once_put None = refl
        once_put (Some stored) = refl
    by false e = before q

-- The same at a place of a list in which each page stands once.
pub listed_more : (put : List ℕ → StoredRow → StoredRow) (pairs : List Listing) (i : ℕ) (pair :
    Listing) (old mid later : ℕ → Option StoredRow) →
    IsDistinct nat_eq (map (λ (pair : Listing). pair.0) pairs) → i < length pairs →
    pair ≡ get_or pairs i pair →
    ((q : ℕ) → mid q ≡ option_map (listed_put put (lookup (nat_eq q) (take i pairs))) (old q)) →
    ((q : ℕ) → later q ≡ cond (nat_eq pair.0 q) (option_map (put pair.1) (mid pair.0)) (mid q)) →
    (q : ℕ) → later q ≡ option_map (listed_put put (lookup (nat_eq q) (take (i + 1) pairs))) (old q)
listed_more put pairs i pair old mid later once within is before step q =
    let others : AllByRecursion (λ other. nat_eq other.0 pair.0 ≡ false) (take i pairs) =
    subst (λ (p : Listing). AllByRecursion (λ other. nat_eq other.0 p.0 ≡ false) (take i pairs)) (sym
    is) (others_before pairs i pair once within) in
    listed_next put (take i pairs) pair old mid later others before step q
    ∙ sym (ap (λ (ps : List Listing). option_map (listed_put put (lookup (nat_eq q) ps)) (old q))
    (take_more pairs i pair within ∙ ap (λ (p : Listing). take i pairs ++ p ∷ []) (sym is)))

-- where each page is listed once, none in front of one is that one
pub others_in_front : (front : List Listing) (pair : Listing) (back pairs : List Listing) →
    IsDistinct nat_eq (map (λ (pair : Listing). pair.0) pairs) → front ++ pair ∷ back ≡ pairs →
    AllByRecursion (λ other. nat_eq other.0 pair.0 ≡ false) front
unfolding IsDistinct
others_in_front front pair back pairs once is =
    by front (subst (λ (ps : List Listing). IsDistinct nat_eq (map (λ (pair : Listing). pair.0) ps))
    (sym is) once)
  where
    apart : (id : ℕ) (front : List Listing) →
        AllByRecursion (λ other. nat_eq id other ≡ false) (map (λ (pair : Listing). pair.0) (front ++
        pair ∷ back)) → nat_eq id pair.0 ≡ false
    apart id [] all = all.0
    apart id (other ∷ front) all = apart id front all.1

    by : (front : List Listing) → IsDistinct nat_eq (map (λ (pair : Listing). pair.0) (front ++ pair ∷
        back)) → AllByRecursion (λ other. nat_eq other.0 pair.0 ≡ false) front
    by [] once = tt
    by (other ∷ front) once = (apart other.0 front once.0, by front once.1)
