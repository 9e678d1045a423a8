-- What is final stays with more bytes after it.
use Rattle.std.proofs.Common.{◌≡◌, ◌≤◌, ◌-◌, ℕ, Bool, true, false, List, ◌++◌, length, take, drop, Option, Some, None, cond, nat_lt, inl, inr, refl, sym, ap, ◌∙◌, subst, length-append, arith}
use Rattle.std.proofs.lemmas.Bool.Decides.{nat_tests}
use Rattle.std.proofs.lemmas.List.{take-append-le, drop-append-le}
use Rattle.httparse.specs.Grammar.{RequestHead}
use Rattle.http_model.specs.declared.words.TheConstants.{MAX_HEAD, MAX_LINE_ENDS, MAX_BODY}
use Rattle.http_model.specs.Fields.{is_plain, body_length}
use Rattle.http_model.specs.Requests.{Front, whole, part, refused, head_length, headers_of, request_of, front_of_body, front_of_length, front_of_head, IsReadFront, line_ends, IsLinedFront, IsFrontBy, IsFront}
use Rattle.http_model.proofs.HeadLemmas.{head_length-stays, take-append}
use Rattle.http_model.proofs.FrontLemmas.{head-fits}

-- the front with more bytes after it
abbrev pub grown : Front → List ℕ → Front
grown (whole request rest) more = whole request (rest ++ more)
grown part more = part
grown (refused status) more = refused status

-- a front that more bytes do not change
abbrev pub IsFinal : Front → Type 0
IsFinal (whole request rest) = Unit {0}
IsFinal part = ⊥
IsFinal (refused status) = Unit {0}

-- what a head makes stays
front_of_body_stays : (head : RequestHead) (rest more : List ℕ) (n : ℕ) →
    IsFinal (front_of_body head rest n) →
    grown (front_of_body head rest n) more ≡ front_of_body head (rest ++ more) n
front_of_body_stays head rest more n final =
    by_tests (nat_lt MAX_BODY n) (nat_lt (length rest) n) (nat_lt (length (rest ++ more)) n) final
    (λ enough. let len = length-append rest more in grind (arith, nat_tests))
    (λ enough. take-append-le n rest more (grind (arith, nat_tests)))
    (λ enough. drop-append-le n rest more (grind (arith, nat_tests)))
  where
    -- by the three tests
    by_tests : (large few fewer : Bool) →
        IsFinal (cond large (refused 413)
        (cond few part (whole (request_of head (take n rest)) (drop n rest)))) →
        (few ≡ false → fewer ≡ false) →
        (few ≡ false → take n (rest ++ more) ≡ take n rest) →
        (few ≡ false → drop n (rest ++ more) ≡ drop n rest ++ more) →
        grown (cond large (refused 413)
        (cond few part (whole (request_of head (take n rest)) (drop n rest)))) more
        ≡ cond large (refused 413)
        (cond fewer part
        (whole (request_of head (take n (rest ++ more))) (drop n (rest ++ more))))
    by_tests true few fewer final enough taken left = refl
    by_tests false true fewer final enough taken left = absurd final
    by_tests false false fewer final enough taken left =
        let bodies = taken refl in let rests = left refl in let test = enough refl in
        sym (ap (λ t. cond t part
        (whole (request_of head (take n (rest ++ more))) (drop n (rest ++ more)))) test
        ∙ (ap (λ body. whole (request_of head body) (drop n (rest ++ more))) bodies
        ∙ ap (λ bytes. whole (request_of head (take n rest)) bytes) rests))

-- what a head makes stays with more bytes after it
front_of_head_stays : (head : RequestHead) (rest more : List ℕ) →
    IsFinal (front_of_head head rest) →
    grown (front_of_head head rest) more ≡ front_of_head head (rest ++ more)
unfolding front_of_head
front_of_head_stays head rest more final =
    by_coding (is_plain (headers_of head)) (body_length (headers_of head)) final
  where
    -- by the fields of the body
    by_coding : (plain : Bool) (n : Option ℕ) →
        IsFinal (cond plain (front_of_length head rest n) (refused 400)) →
        grown (cond plain (front_of_length head rest n) (refused 400)) more
        ≡ cond plain (front_of_length head (rest ++ more) n) (refused 400)
    by_coding true (Some n) final = front_of_body_stays head rest more n final
    by_coding true None final = refl
    by_coding false n final = refl

-- what is read stays with more bytes after it
read_front_stays : (bytes rest more : List ℕ) (front : Front) → IsFinal front →
    IsReadFront bytes rest front → IsReadFront bytes (rest ++ more) (grown front more)
read_front_stays bytes rest more front final (inl (head, read, is)) =
    inl (
      head,
      read,
      ap (λ x. grown x more) is
          ∙ front_of_head_stays head rest more (subst IsFinal is final),
    )
read_front_stays bytes rest more front final (inr (none, is)) =
    inr (none, ap (λ x. grown x more) is)

-- what is final stays with more bytes after it
pub final_stays : (bytes more : List ℕ) (front : Front) → IsFinal front → IsFront bytes front →
    IsFront (bytes ++ more) (grown front more)
unfolding IsFront
final_stays bytes more front final is =
    by_length (head_length (take MAX_HEAD bytes)) refl is
  where
    -- by whether there are too many lines
    by_lines : (head rest : List ℕ) (many : Bool) → IsLinedFront head rest front many →
        IsLinedFront head (rest ++ more) (grown front more) many
    by_lines head rest true is = ap (λ x. grown x more) is
    by_lines head rest false is = read_front_stays head rest more front final is

    -- without a head, where the bytes are too many
    by_count : (few : Bool) → nat_lt (length bytes) MAX_HEAD ≡ few →
        head_length (take MAX_HEAD bytes) ≡ None → front ≡ cond few part (refused 431) →
        IsFrontBy (bytes ++ more) (grown front more)
        (head_length (take MAX_HEAD (bytes ++ more)))
    by_count true test none is = absurd (subst IsFinal is final)
    by_count false test none is =
        let enough : MAX_HEAD ≤ length bytes = grind (arith, nat_tests) in
        let len = length-append bytes more in
        let test' : nat_lt (length (bytes ++ more)) MAX_HEAD ≡ false = grind (arith, nat_tests) in
        let none' : head_length (take MAX_HEAD (bytes ++ more)) ≡ None =
        ap head_length (take-append-le MAX_HEAD bytes more enough) ∙ none in
        let P : Option ℕ → Type 0 = IsFrontBy (bytes ++ more) (grown front more) in
        subst P (sym none')
        (ap (λ x. grown x more) is ∙ sym (ap (λ t. cond t part (refused 431)) test'))

    -- by the length of the head
    by_length : (found : Option ℕ) → head_length (take MAX_HEAD bytes) ≡ found →
        IsFrontBy bytes front found →
        IsFrontBy (bytes ++ more) (grown front more)
        (head_length (take MAX_HEAD (bytes ++ more)))
    by_length None none is = by_count (nat_lt (length bytes) MAX_HEAD) refl none is
    by_length (Some n) found is =
        let within : n ≤ length bytes = head-fits bytes n found in
        let found' : head_length (take MAX_HEAD (bytes ++ more)) ≡ Some n =
        ap head_length (take-append MAX_HEAD bytes more)
        ∙ head_length-stays (take MAX_HEAD bytes) (take (MAX_HEAD - length bytes) more) n found in
        let P : Option ℕ → Type 0 = IsFrontBy (bytes ++ more) (grown front more) in
        let Q : List ℕ → List ℕ → Type 0 =
        λ head rest. IsLinedFront head rest (grown front more)
        (nat_lt MAX_LINE_ENDS (line_ends head)) in
        let R : List ℕ → Type 0 = Q (take n (bytes ++ more)) in
        subst P (sym found')
        (subst R (sym (drop-append-le n bytes more within))
        (subst (λ head. Q head (drop n bytes ++ more)) (sym (take-append-le n bytes more within))
        (by_lines (take n bytes) (drop n bytes) (nat_lt MAX_LINE_ENDS (line_ends (take n bytes)))
        is)))
