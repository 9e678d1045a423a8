-- Steps of reading and forms: each form is read as its value, and what is read is a value's form.
use Rattle.std.proofs.Common.{◌≡◌, ℕ, zero, suc, ◌+◌, ◌<◌, ◌≤◌, nat_lt, ◌==◌, if◌then◌else◌, Bool, true, false, List, [], ◌∷◌, ◌++◌, length, get_or, take, drop, Option, Some, None, option_and_then, refl, sym, ap, subst, ◌∙◌, append_assoc, arith}
use Rattle.std.specs.List.{AllByRecursion}
use Rattle.std.proofs.lemmas.Bool.{ltb-false, le-ltb, eqb-true}
use Rattle.std.proofs.lemmas.List.{take_at, drop_at, take-append-drop, length-append, length-take, get_or-drop}
use Rattle.byte_forms.specs.Fields.{each_form}
use Rattle.content_codec.specs.Reading.{◌>>=◌, kept, made, both_at, byte_at, bytes_at, each_at}

-- each of them is a byte
abbrev pub AreBytes : List ℕ → Type 0
AreBytes bytes = (i : ℕ) → get_or bytes i 0 < 256

-- the bytes after the first one
pub AreBytes-rest : (b : ℕ) (bytes : List ℕ) → AreBytes (b ∷ bytes) → AreBytes bytes
AreBytes-rest b bytes h i = h (suc i)

-- the bytes after the first ones
pub AreBytes-drop : (n : ℕ) (bytes : List ℕ) → AreBytes bytes → AreBytes (drop n bytes)
AreBytes-drop n bytes h i = rw get_or-drop (h (n + i))

-- a value was read from the front of bytes
pub record Takes {A : Type 0} (form : A → List ℕ) (Is : A → Type 0) (bytes : List ℕ)
    (value : A) (rest : List ℕ) : Type 0 where
  pub is : Is value
  pub parts : bytes ≡ form value ++ rest
  pub rest_are : AreBytes rest

-- a step of reading reads exactly the forms of values
pub record IsReading {A : Type 0} (form : A → List ℕ) (Is : A → Type 0)
    (at : List ℕ → Option (A × List ℕ)) : Type 0 where
  pub again : (value : A) (rest : List ℕ) → Is value → at (form value ++ rest) ≡ Some (value, rest)
  pub takes : (bytes : List ℕ) (value : A) (rest : List ℕ) → AreBytes bytes →
      at bytes ≡ Some (value, rest) → Takes form Is bytes value rest

-- where two steps give something, the first gave something, and the second gave that of it
pub step_gives : {A B : Type 0} (o : Option A) (f : A → Option B) (b : B) →
    option_and_then f o ≡ Some b → (a : A) × (o ≡ Some a) × (f a ≡ Some b)
step_gives None f b e = absurd cc
step_gives (Some a) f b e = (a, refl, e)

-- what is there is one value
pub some_is : {A : Type 0} (a b : A) → Some a ≡ Some b → a ≡ b
some_is a b e = cc

-- what a test lets through passes it
pub test_gives : {A : Type 0} (test : Bool) (a b : A) →
    (if test then Some a else None) ≡ Some b → (test ≡ true) × (a ≡ b)
test_gives true a b e = (refl, cc)
test_gives false a b e = absurd cc

-- one value and another one after it
pub both_reading : {A B : Type 0} {form : A → List ℕ} {Is : A → Type 0}
    {at : List ℕ → Option (A × List ℕ)} {form2 : B → List ℕ} {Is2 : B → Type 0}
    {at2 : List ℕ → Option (B × List ℕ)} → IsReading form Is at → IsReading form2 Is2 at2 →
    IsReading (λ (x : A × B). form x.0 ++ form2 x.1) (λ (x : A × B). Is x.0 × Is2 x.1)
    (both_at at at2)
both_reading {A} {B} {form} {Is} {at} {form2} {Is2} {at2} first second = record {
  again = λ value rest is.
      rw (
        append_assoc (form value.0) (form2 value.1) rest,
        first.again value.0 (form2 value.1 ++ rest) is.0,
        second.again value.1 rest is.1,
      ) refl;
  takes = λ bytes value rest are e.
      let x =
      step_gives (at bytes) (λ x. at2 x.1 >>= λ y. Some ((x.0, y.0), y.1)) (value, rest) e in
      let y = step_gives (at2 x.0.1) (λ y. Some ((x.0.0, y.0), y.1)) (value, rest) x.2 in
      let one = first.takes bytes x.0.0 x.0.1 are x.1 in
      let two = second.takes x.0.1 y.0.0 y.0.1 one.rest_are y.1 in
      let both : (A × B) × List ℕ = ((x.0.0, y.0.0), y.0.1) in
      let parts : bytes ≡ (form x.0.0 ++ form2 y.0.0) ++ y.0.1 =
      one.parts ∙ ap (λ (t : List ℕ). form x.0.0 ++ t) two.parts
      ∙ sym (append_assoc (form x.0.0) (form2 y.0.0) y.0.1) in
      let P : (A × B) × List ℕ → Type 0 =
      λ q. Takes (λ (x : A × B). form x.0 ++ form2 x.1) (λ (x : A × B). Is x.0 × Is2 x.1)
      bytes q.0 q.1 in
      subst P (some_is both (value, rest) y.2)
      (record { is = (one.is, two.is); parts = parts; rest_are = two.rest_are });
}

-- a value that passes a test
pub kept_reading : {A : Type 0} {form : A → List ℕ} {Is : A → Type 0}
    {at : List ℕ → Option (A × List ℕ)} → IsReading form Is at → (test : A → Bool)
    (Is2 : A → Type 0) → ((a : A) → Is2 a → Is a × (test a ≡ true)) →
    ((a : A) → Is a → test a ≡ true → Is2 a) →
    IsReading form Is2 (λ bytes. kept test (at bytes))
kept_reading {A} {form} {Is} {at} reading test Is2 passes stands = record {
  again = λ value rest is.
      let both = passes value is in rw (reading.again value rest both.0, both.1) refl;
  takes = λ bytes value rest are e.
      let x = step_gives (at bytes) (λ x. if test x.0 then Some x else None) (value, rest) e in
      let passed = test_gives (test x.0.0) x.0 (value, rest) x.2 in
      let one = reading.takes bytes x.0.0 x.0.1 are x.1 in
      let P : A × List ℕ → Type 0 = λ q. Takes form Is2 bytes q.0 q.1 in
      subst P passed.1
      (record { is = stands x.0.0 one.is passed.0; parts = one.parts; rest_are = one.rest_are });
}

-- what is made of a value whose form stands after a tag is read again
pub made_again : {A B : Type 0} {form : A → List ℕ} {Is : A → Type 0}
    {at : List ℕ → Option (A × List ℕ)} → IsReading form Is at → (make : A → B) (value : A)
    (rest : List ℕ) → Is value → made make (at (form value ++ rest)) ≡ Some (make value, rest)
made_again reading make value rest is = rw (reading.again value rest is) refl

-- what was made of a value that was read after a tag has the form with that tag
pub made_takes : {A B : Type 0} {form : A → List ℕ} {Is : A → Type 0}
    {at : List ℕ → Option (A × List ℕ)} → IsReading form Is at → (make : A → B)
    (form2 : B → List ℕ) (Is2 : B → Type 0) (tag : ℕ) → ((a : A) → Is a → Is2 (make a)) →
    ((a : A) → form2 (make a) ≡ tag ∷ form a) → (bytes : List ℕ) (value : B) (rest : List ℕ) →
    AreBytes bytes → made make (at bytes) ≡ Some (value, rest) →
    Takes form2 Is2 (tag ∷ bytes) value rest
made_takes {A} {B} {form} {Is} {at} reading make form2 Is2 tag stands forms bytes value rest are e =
    let x = step_gives (at bytes) (λ x. Some (make x.0, x.1)) (value, rest) e in
    let one = reading.takes bytes x.0.0 x.0.1 are x.1 in
    let it : B × List ℕ = (make x.0.0, x.0.1) in
    let parts : tag ∷ bytes ≡ form2 (make x.0.0) ++ x.0.1 =
    ap (λ (t : List ℕ). tag ∷ t) one.parts ∙ ap (λ (t : List ℕ). t ++ x.0.1) (sym (forms x.0.0)) in
    let P : B × List ℕ → Type 0 = λ q. Takes form2 Is2 (tag ∷ bytes) q.0 q.1 in
    subst P (some_is it (value, rest) x.2)
    (record { is = stands x.0.0 one.is; parts = parts; rest_are = one.rest_are })

-- what is made of a value and can be taken apart again
pub made_reading : {A B : Type 0} {form : A → List ℕ} {Is : A → Type 0}
    {at : List ℕ → Option (A × List ℕ)} → IsReading form Is at → (make : A → B) (parts : B → A) →
    ((b : B) → make (parts b) ≡ b) → ((a : A) → parts (make a) ≡ a) →
    IsReading (λ b. form (parts b)) (λ b. Is (parts b)) (λ bytes. made make (at bytes))
made_reading {A} {B} {form} {Is} {at} reading make parts whole apart = record {
  again = λ value rest is. rw (reading.again (parts value) rest is, whole value) refl;
  takes = λ bytes value rest are e.
      let x = step_gives (at bytes) (λ x. Some (make x.0, x.1)) (value, rest) e in
      let one = reading.takes bytes x.0.0 x.0.1 are x.1 in
      let it : B × List ℕ = (make x.0.0, x.0.1) in
      let P : B × List ℕ → Type 0 =
      λ q. Takes (λ b. form (parts b)) (λ b. Is (parts b)) bytes q.0 q.1 in
      let F : A → Type 0 = λ a. Is a × (bytes ≡ form a ++ x.0.1) in
      let facts = subst F (sym (apart x.0.0)) (one.is, one.parts) in
      subst P (some_is it (value, rest) x.2)
      (record { is = facts.0; parts = facts.1; rest_are = one.rest_are });
}

-- the same step of reading for the same form in other words
pub same_reading : {A : Type 0} {form : A → List ℕ} {Is : A → Type 0}
    {at : List ℕ → Option (A × List ℕ)} → IsReading form Is at → (form2 : A → List ℕ) →
    ((a : A) → form2 a ≡ form a) → IsReading form2 Is at
same_reading {A} {form} {Is} {at} reading form2 same = record {
  again = λ value rest is. rw (same value) (reading.again value rest is);
  takes = λ bytes value rest are e.
      let one = reading.takes bytes value rest are e in
      let parts = one.parts ∙ ap (λ (t : List ℕ). t ++ rest) (sym (same value)) in
      record { is = one.is; parts = parts; rest_are = one.rest_are };
}

-- the same values, said in other words
pub same_facts : {A : Type 0} {form : A → List ℕ} {Is : A → Type 0}
    {at : List ℕ → Option (A × List ℕ)} → IsReading form Is at → (Is2 : A → Type 0) →
    ((a : A) → Is a → Is2 a) → ((a : A) → Is2 a → Is a) → IsReading form Is2 at
same_facts {A} {form} {Is} {at} reading Is2 to from = record {
  again = λ value rest is. reading.again value rest (from value is);
  takes = λ bytes value rest are e.
      let one = reading.takes bytes value rest are e in
      record { is = to value one.is; parts = one.parts; rest_are = one.rest_are };
}

-- so many forms are read again
each_again : {A : Type 0} {form : A → List ℕ} {Is : A → Type 0}
    {at : List ℕ → Option (A × List ℕ)} → IsReading form Is at → (values : List A)
    (rest : List ℕ) → AllByRecursion Is values →
    each_at at (length values) (each_form form values ++ rest) ≡ Some (values, rest)
unfolding each_at
each_again reading [] rest all = refl
each_again {A} {form} {Is} {at} reading (value ∷ values) rest all =
    rw (
      append_assoc (form value) (each_form form values) rest,
      reading.again value (each_form form values ++ rest) all.0,
      each_again reading values rest all.1,
    ) refl

-- what is read is so many forms
each_takes : {A : Type 0} {form : A → List ℕ} {Is : A → Type 0}
    {at : List ℕ → Option (A × List ℕ)} → IsReading form Is at → (count : ℕ) (bytes : List ℕ)
    (values : List A) (rest : List ℕ) → AreBytes bytes →
    each_at at count bytes ≡ Some (values, rest) →
    Takes (each_form form) (λ all. (length all ≡ count) × AllByRecursion Is all) bytes values rest
unfolding each_at
each_takes {A} {form} {Is} {at} reading zero bytes values rest are e =
    let it : List A × List ℕ = ([], bytes) in
    let P : List A × List ℕ → Type 0 =
    λ q. Takes (each_form form) (λ all. (length all ≡ 0) × AllByRecursion Is all) bytes q.0 q.1 in
    subst P (some_is it (values, rest) e)
    (record { is = (refl, tt); parts = refl; rest_are = are })
each_takes {A} {form} {Is} {at} reading (suc count) bytes values rest are e =
    let x =
    step_gives (at bytes) (λ x. each_at at count x.1 >>= λ xs. Some (x.0 ∷ xs.0, xs.1))
    (values, rest) e in
    let xs =
    step_gives (each_at at count x.0.1) (λ xs. Some (x.0.0 ∷ xs.0, xs.1)) (values, rest) x.2 in
    let one = reading.takes bytes x.0.0 x.0.1 are x.1 in
    let more = each_takes reading count x.0.1 xs.0.0 xs.0.1 one.rest_are xs.1 in
    let it : List A × List ℕ = (x.0.0 ∷ xs.0.0, xs.0.1) in
    let parts : bytes ≡ each_form form (x.0.0 ∷ xs.0.0) ++ xs.0.1 =
    one.parts ∙ ap (λ (t : List ℕ). form x.0.0 ++ t) more.parts
    ∙ sym (append_assoc (form x.0.0) (each_form form xs.0.0) xs.0.1) in
    let P : List A × List ℕ → Type 0 =
    λ q. Takes (each_form form) (λ all. (length all ≡ suc count) × AllByRecursion Is all) bytes
    q.0 q.1 in
    subst P (some_is it (values, rest) xs.2)
    (record {
      is = (ap suc more.is.0, (one.is, more.is.1));
      parts = parts;
      rest_are = more.rest_are;
    })

-- a number of values, and the values
pub counted_reading : {A : Type 0} {number : ℕ → List ℕ} {limit : ℕ}
    {count : List ℕ → Option (ℕ × List ℕ)} {form : A → List ℕ} {Is : A → Type 0}
    {at : List ℕ → Option (A × List ℕ)} → IsReading number (λ n. n < limit) count →
    IsReading form Is at →
    IsReading (λ values. number (length values) ++ each_form form values)
    (λ values. (length values < limit) × AllByRecursion Is values)
    (λ bytes. count bytes >>= λ n. each_at at n.0 n.1)
counted_reading {A} {number} {limit} {count} {form} {Is} {at} counting reading = record {
  again = λ values rest is.
      rw (
        append_assoc (number (length values)) (each_form form values) rest,
        counting.again (length values) (each_form form values ++ rest) is.0,
        each_again reading values rest is.1,
      ) refl;
  takes = λ bytes values rest are e.
      let n = step_gives (count bytes) (λ n. each_at at n.0 n.1) (values, rest) e in
      let one = counting.takes bytes n.0.0 n.0.1 are n.1 in
      let all = each_takes reading n.0.0 n.0.1 values rest one.rest_are n.2 in
      let size = all.is.0 in
      let parts : bytes ≡ (number (length values) ++ each_form form values) ++ rest =
      one.parts ∙ ap (λ (t : List ℕ). number n.0.0 ++ t) all.parts
      ∙ sym (append_assoc (number n.0.0) (each_form form values) rest)
      ∙ ap (λ (k : ℕ). (number k ++ each_form form values) ++ rest) (sym size) in
      let few : length values < limit = omega (arith, one.is, size) in
      record { is = (few, all.is.1); parts = parts; rest_are = all.rest_are };
}

-- so many bytes are the first ones
pub bytes_take : (count : ℕ) (bytes front rest : List ℕ) →
    bytes_at count bytes ≡ Some (front, rest) →
    (count ≤ length bytes) × (take count bytes ≡ front) × (drop count bytes ≡ rest)
unfolding bytes_at
bytes_take count bytes front rest e = at (nat_lt (length bytes) count) refl e
  where
    both : List ℕ × List ℕ
    both = (take count bytes, drop count bytes)

    at : (short : Bool) → nat_lt (length bytes) count ≡ short →
        (if short then None else Some both) ≡ Some (front, rest) →
        (count ≤ length bytes) × (take count bytes ≡ front) × (drop count bytes ≡ rest)
    at true is e = absurd cc
    at false is e =
        let same = some_is both (front, rest) e in (
          ltb-false _ _ is,
          ap (λ (p : List ℕ × List ℕ). p.0) same,
          ap (λ (p : List ℕ × List ℕ). p.1) same,
        )

-- the first bytes are so many
pub bytes_again : (front rest : List ℕ) (count : ℕ) → length front ≡ count →
    bytes_at count (front ++ rest) ≡ Some (front, rest)
unfolding bytes_at
bytes_again front rest count size =
    let long : nat_lt (length (front ++ rest)) count ≡ false =
    le-ltb _ _ (omega (arith, length-append front rest)) in
    rw (long, take_at front rest count size, drop_at front rest count size) refl

-- so many bytes
pub bytes_reading : (count : ℕ) →
    IsReading (λ front. front) (λ front. length front ≡ count) (bytes_at count)
bytes_reading count = record {
  again = λ front rest is. bytes_again front rest count is;
  takes = λ bytes front rest are e.
      let found = bytes_take count bytes front rest e in
      let size : length front ≡ count = rw (← found.1) (omega (arith, length-take count bytes)) in
      let parts : bytes ≡ front ++ rest =
      rw (← found.1, ← found.2) (sym (take-append-drop count bytes)) in
      let left : AreBytes rest = rw (← found.2) (AreBytes-drop count bytes are) in
      record { is = size; parts = parts; rest_are = left };
}

-- a number of bytes, and the bytes
pub sized_reading : {number : ℕ → List ℕ} {limit : ℕ} {count : List ℕ → Option (ℕ × List ℕ)} →
    IsReading number (λ n. n < limit) count →
    IsReading (λ text. number (length text) ++ text) (λ text. length text < limit)
    (λ bytes. count bytes >>= λ n. bytes_at n.0 n.1)
sized_reading {number} {limit} {count} counting = record {
  again = λ text rest is.
      rw (
        append_assoc (number (length text)) text rest,
        counting.again (length text) (text ++ rest) is,
        bytes_again text rest (length text) refl,
      ) refl;
  takes = λ bytes text rest are e.
      let n = step_gives (count bytes) (λ n. bytes_at n.0 n.1) (text, rest) e in
      let one = counting.takes bytes n.0.0 n.0.1 are n.1 in
      let all = (bytes_reading n.0.0).takes n.0.1 text rest one.rest_are n.2 in
      let size = all.is in
      let parts : bytes ≡ (number (length text) ++ text) ++ rest =
      one.parts ∙ ap (λ (t : List ℕ). number n.0.0 ++ t) all.parts
      ∙ sym (append_assoc (number n.0.0) text rest)
      ∙ ap (λ (k : ℕ). (number k ++ text) ++ rest) (sym size) in
      let few : length text < limit = omega (arith, one.is, size) in
      record { is = few; parts = parts; rest_are = all.rest_are };
}

-- one byte
pub byte_reading : IsReading (λ n. n ∷ []) (λ n. n < 256) byte_at
unfolding byte_at
byte_reading = record {
  again = λ n rest is. refl;
  takes = λ bytes n rest are e. taken bytes n rest are e;
}
  where
    taken : (bytes : List ℕ) (n : ℕ) (rest : List ℕ) → AreBytes bytes →
        byte_at bytes ≡ Some (n, rest) → Takes (λ n. n ∷ []) (λ n. n < 256) bytes n rest
    taken [] n rest are e = absurd cc
    taken (b ∷ bytes) n rest are e =
        let it : ℕ × List ℕ = (b, bytes) in
        let P : ℕ × List ℕ → Type 0 =
        λ q. Takes (λ n. n ∷ []) (λ n. n < 256) (b ∷ bytes) q.0 q.1 in
        subst P (some_is it (n, rest) e)
        (record { is = are 0; parts = refl; rest_are = AreBytes-rest b bytes are })

-- a value whose form is that of a number
pub coded_reading : {A : Type 0} {number : ℕ → List ℕ} {limit : ℕ}
    {at : List ℕ → Option (ℕ × List ℕ)} → IsReading number (λ n. n < limit) at →
    (code : A → ℕ) (of : ℕ → Option A) (Is : A → Type 0) → ((a : A) → Is a → code a < limit) →
    ((a : A) → Is a → of (code a) ≡ Some a) →
    ((n : ℕ) (a : A) → of n ≡ Some a → (code a ≡ n) × Is a) →
    IsReading (λ a. number (code a)) Is
    (λ bytes. at bytes >>= λ n. of n.0 >>= λ a. Some (a, n.1))
coded_reading {A} {number} {limit} {at} reading code of Is small back forth = record {
  again = λ a rest is. rw (reading.again (code a) rest (small a is), back a is) refl;
  takes = λ bytes a rest are e.
      let n = step_gives (at bytes) (λ n. of n.0 >>= λ a. Some (a, n.1)) (a, rest) e in
      let b = step_gives (of n.0.0) (λ a. Some (a, n.0.1)) (a, rest) n.2 in
      let one = reading.takes bytes n.0.0 n.0.1 are n.1 in
      let right = forth n.0.0 b.0 b.1 in
      let it : A × List ℕ = (b.0, n.0.1) in
      let P : A × List ℕ → Type 0 = λ q. Takes (λ a. number (code a)) Is bytes q.0 q.1 in
      let parts : bytes ≡ number (code b.0) ++ n.0.1 =
      one.parts ∙ ap (λ (k : ℕ). number k ++ n.0.1) (sym right.0) in
      subst P (some_is it (a, rest) b.2)
      (record { is = right.1; parts = parts; rest_are = one.rest_are });
}

-- the first code of a chain of choices, or a later one
pub code_is : {A : Type 0} (code : A → ℕ) (n k : ℕ) (a : A) (later : Option A) (b : A) →
    code a ≡ k → (later ≡ Some b → code b ≡ n) → (if n == k then Some a else later) ≡ Some b →
    code b ≡ n
code_is {A} code n k a later b is more e = at (n == k) refl e
  where
    at : (same : Bool) → (n == k) ≡ same → (if same then Some a else later) ≡ Some b → code b ≡ n
    at true same e = ap code (sym (some_is a b e)) ∙ is ∙ sym (eqb-true _ _ same)
    at false same e = more e
