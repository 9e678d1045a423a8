-- The two kinds of patterns: a text, and a text with one part after it.
use Rattle.std.proofs.Common.{◌≡◌, ℕ, zero, suc, ◌≤◌, List, [], ◌∷◌, ◌++◌, length, take, drop, Bool, true, false, ◌==◌, ◌&&◌, ◌||◌, not, cond, refl, sym, ap, ◌∙◌, subst, arith, nat_eq, ltb}
use Rattle.std.specs.Prelude.{bytes_eq}
use Rattle.std.specs.List.{list_all}
use Rattle.std.specs.Str.{IsUtf8, IsAscii}
use Rattle.std.proofs.lemmas.Bool.Decides.{nat_tests}
use Rattle.std.proofs.lemmas.Slice.Eq.{bytes_eq-Decides}
use Rattle.std.proofs.lemmas.Str.{IsUtf8-from_ascii}
use Rattle.std.proofs.lemmas.List.{take-append-drop, length-append}
use Rattle.matchit.specs.Rows.{param_token}
use Rattle.matchit.specs.Seek.{has_slash}
use Rattle.wire_model.specs.Routes.{is_part, begins_with, has_part_after}
use Rattle.api_routes.proofs.Taking.{takes, is_literal, IsSimple}

-- the pattern of one part after a front
abbrev pub part_pattern : List ℕ → List ℕ
part_pattern front = front ++ param_token ∷ []

-- equal bytes are the same
pub same-bytes : (xs ys : List ℕ) → bytes_eq xs ys ≡ true → xs ≡ ys
same-bytes xs ys e = (bytes_eq-Decides xs ys).0 e

-- a text takes itself alone
pub takes-literal : (t path : List ℕ) → is_literal t ≡ true → takes t path ≡ bytes_eq path t
takes-literal [] [] e = refl
takes-literal [] (b ∷ path) e = refl
takes-literal (x ∷ t) [] e = refl
takes-literal (x ∷ t) (b ∷ path) e =
    let below : ltb x param_token ≡ true = grind arith in
    let others : is_literal t ≡ true = grind arith in
    let no_parameter : (x == param_token) ≡ false = grind (arith, nat_tests) in
    let turned : (x == b) ≡ nat_eq b x = grind (arith, nat_tests) in
    rw (no_parameter, takes-literal t path others, turned)
    (by (nat_eq b x) (bytes_eq path t))
  where
    by : (v w : Bool) → ((v && w) || false) ≡ (v && w)
    by true true = refl
    by true false = refl
    by false w = refl

-- a text has no slash where each of its bytes is another
pub no-slash : (path : List ℕ) → not (has_slash path) ≡ list_all (λ b. not (b == 47)) path
no-slash [] = refl
no-slash (b ∷ path) = by (b == 47) (no-slash path)
  where
    by : (v : Bool) → not (has_slash path) ≡ list_all (λ b. not (b == 47)) path →
        not (cond v true (has_slash path)) ≡ (not v && list_all (λ b. not (b == 47)) path)
    by true others = refl
    by false others = others

-- a text and a parameter take a path that has the text at its front and one part after it
pub takes-front : (front path : List ℕ) → is_literal front ≡ true →
    takes (part_pattern front) path ≡ has_part_after front path
takes-front [] [] e = refl
takes-front [] (b ∷ []) e = rw (no-slash (b ∷ [])) (by (param_token == b) refl)
  where
    by : (v : Bool) → (param_token == b) ≡ v →
        ((v && true) || (true && (not (b == 47) && true))) ≡ (not (b == 47) && true)
    by true same = grind (arith, nat_tests)
    by false same = refl
takes-front [] (b ∷ c ∷ path) e =
    let some : (length (b ∷ c ∷ path) == 0) ≡ false = grind (arith, nat_tests) in
    rw (no-slash (b ∷ c ∷ path), some) (by (param_token == b))
  where
    by : (v : Bool) →
        ((v && false) || list_all (λ b. not (b == 47)) (b ∷ c ∷ path))
        ≡ list_all (λ b. not (b == 47)) (b ∷ c ∷ path)
    by true = refl
    by false = refl
takes-front (x ∷ front) [] e = refl
takes-front (x ∷ front) (b ∷ path) e =
    let below : ltb x param_token ≡ true = grind arith in
    let others : is_literal front ≡ true = grind arith in
    let no_parameter : (x == param_token) ≡ false = grind (arith, nat_tests) in
    let turned : (x == b) ≡ nat_eq b x = grind (arith, nat_tests) in
    rw (no_parameter, takes-front front path others, turned)
    (by (nat_eq b x) (begins_with front path) (is_part (drop (length front) path)))
  where
    by : (u v w : Bool) → ((u && (v && w)) || false) ≡ ((u && v) && w)
    by true true true = refl
    by true true false = refl
    by true false w = refl
    by false v w = refl

-- a path that has a part after a front is the front and that part
pub front-joined : (front path : List ℕ) → has_part_after front path ≡ true →
    path ≡ front ++ drop (length front) path
front-joined front path e =
    let begins : bytes_eq (take (length front) path) front ≡ true = grind arith in
    let same : take (length front) path ≡ front =
    same-bytes (take (length front) path) front begins in
    sym (take-append-drop (length front) path)
    ∙ ap (λ xs. xs ++ drop (length front) path) same

-- a literal pattern is simple
pub literal-simple : (t : List ℕ) → is_literal t ≡ true → IsSimple t
literal-simple [] e = tt
literal-simple (x ∷ t) e =
    let below : ltb x param_token ≡ true = grind arith in
    let others : is_literal t ≡ true = grind arith in (
      (λ same. grind (arith, nat_tests)),
      (λ token. absurd (grind (arith, nat_tests))),
      literal-simple t others,
    )

-- so is one with a parameter at its end
pub front-simple : (t : List ℕ) → is_literal t ≡ true → IsSimple (part_pattern t)
front-simple [] e = ((λ same. grind (arith, nat_tests)), (λ token. refl), tt)
front-simple (x ∷ t) e =
    let below : ltb x param_token ≡ true = grind arith in
    let others : is_literal t ≡ true = grind arith in (
      (λ same. grind (arith, nat_tests)),
      (λ token. absurd (grind (arith, nat_tests))),
      front-simple t others,
    )

-- a front with a part after it is no longer than the path
pub front-fits : (front path : List ℕ) → has_part_after front path ≡ true →
    length front ≤ length path
front-fits front path e =
    omega (
      arith,
      ap length (front-joined front path e),
      length-append front (drop (length front)
          path),
    )

-- what stands after the front is a part
pub part-after : (front path : List ℕ) → has_part_after front path ≡ true →
    is_part (drop (length front) path) ≡ true
part-after front path e = grind arith

-- whether each byte is ASCII
abbrev pub all_ascii : List ℕ → Bool
all_ascii bytes = list_all (λ b. ltb b 128) bytes

-- the test of ASCII tells that each byte is
pub all_ascii-tells : (bytes : List ℕ) → all_ascii bytes ≡ true → IsAscii bytes
all_ascii-tells [] e zero = omega arith
all_ascii-tells [] e (suc i) = omega arith
all_ascii-tells (b ∷ bytes) e zero = grind (arith, nat_tests)
all_ascii-tells (b ∷ bytes) e (suc i) =
    let others : all_ascii bytes ≡ true = grind arith in
    all_ascii-tells bytes others i

-- a path that is not UTF-8 is no text in ASCII
pub no-text : (path p : List ℕ) → (IsUtf8 path → ⊥) → all_ascii p ≡ true → bytes_eq path p ≡ false
no-text path p bad e = by (bytes_eq path p) refl
  where
    by : (v : Bool) → bytes_eq path p ≡ v → v ≡ false
    by true same =
        let text : IsUtf8 p = IsUtf8-from_ascii p (all_ascii-tells p e) in
        absurd (bad (subst IsUtf8 (sym (same-bytes path p same)) text))
    by false same = refl
