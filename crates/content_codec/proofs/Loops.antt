-- Values that are read one after the other, as a loop reads them.
use Rattle.std.proofs.Common.{◌≡◌, ℕ, suc, ◌-◌, ◌+◌, ◌≤◌, ◌<◌, List, [], ◌∷◌, ◌++◌, Option, Some, None, Err, refl, sym, ap, ◌∙◌, append_assoc, arith}
use Rattle.std.proofs.lemmas.List.{append-nil}
use Rattle.content_codec.specs.declared.fault.ReadFault.{ReadFault}
use Rattle.content_codec.specs.declared.fault.ReadFault.TheVariants.{NoForm, Memory}
use Rattle.content_codec.specs.Reading.{◌>>=◌, Reads, each_at}

-- what was read before, and what is still read
abbrev pub with_front : {A : Type 0} → List A → Option (List A × List ℕ) →
    Option (List A × List ℕ)
with_front found there = there >>= λ x. Some (found ++ x.0, x.1)

-- one more that was read stands after what was read before
one_more : {A : Type 0} (found : List A) (a : A) (there : Option (List A × List ℕ)) →
    with_front found (there >>= λ x. Some (a ∷ x.0, x.1)) ≡ with_front (found ++ a ∷ []) there
one_more found a None = refl
one_more {A} found a (Some x) =
    ap (λ (all : List A). Some (all, x.1)) (sym (append_assoc found (a ∷ []) x.0))

-- where the next one is read, the whole is what was read with it and what is read after it
pub goes_on : {A : Type 0} (read : List ℕ → Option (A × List ℕ)) (found : List A) (count i : ℕ)
    (bytes : List ℕ) (a : A) (after : List ℕ) (total : Option (List A × List ℕ)) →
    i < count → read bytes ≡ Some (a, after) →
    with_front found (each_at read (count - i) bytes) ≡ total →
    with_front (found ++ a ∷ []) (each_at read (count - (i + 1)) after) ≡ total
unfolding each_at
goes_on read found count i bytes a after total lt is so_far =
    let left : count - i ≡ suc (count - (i + 1)) = omega arith in
    let one : with_front found (each_at read (count - i) bytes)
    ≡ with_front (found ++ a ∷ []) (each_at read (count - (i + 1)) after) =
    rw (left, is) (one_more found a (each_at read (count - (i + 1)) after)) in
    sym one ∙ so_far

-- where the next one is not read, nothing is
pub ends : {A : Type 0} (read : List ℕ → Option (A × List ℕ))
    (found : List A) (count i : ℕ) (bytes after rest : List ℕ) (fault : ReadFault)
    (total : Option (List A × List ℕ)) →
    i < count → Reads {A = A} (Err fault) (read bytes) after →
    with_front found (each_at read (count - i) bytes) ≡ total →
    Reads {A = List A} (Err fault) total rest
unfolding each_at
ends read found count i bytes after rest NoForm total lt is so_far =
    let left : count - i ≡ suc (count - (i + 1)) = omega arith in
    let none : with_front found (each_at read (count - i) bytes) ≡ None = rw (left, is) refl in
    sym so_far ∙ none
ends read found count i bytes after rest Memory total lt is so_far = tt

-- at the end all are read
pub is_done : {A : Type 0} (read : List ℕ → Option (A × List ℕ)) (found : List A) (count i : ℕ)
    (bytes : List ℕ) (total : Option (List A × List ℕ)) → count ≤ i →
    with_front found (each_at read (count - i) bytes) ≡ total → total ≡ Some (found, bytes)
unfolding each_at
is_done {A} read found count i bytes total le so_far =
    let left : count - i ≡ 0 = omega arith in
    let all : with_front found (each_at read (count - i) bytes) ≡ Some (found, bytes) =
    rw left (ap (λ (xs : List A). Some (xs, bytes)) (append-nil found)) in
    sym so_far ∙ all
