-- How long a part is, how many bytes a whole request takes, and which statuses refusals have.
use Rattle.std.proofs.Common.{◌≡◌, ◌≤◌, ◌<◌, ◌+◌, ◌-◌, ℕ, Bool, true, false, List, length, take, drop, Option, Some, None, cond, nat_lt, ◌⊎◌, inl, inr, refl, sym, ap, ◌∙◌, length-drop, arith}
use Rattle.std.proofs.lemmas.Bool.Decides.{nat_tests}
use Rattle.httparse.specs.Grammar.{RequestHead}
use Rattle.http_model.specs.declared.words.TheConstants.{MAX_HEAD, MAX_LINE_ENDS, MAX_BODY}
use Rattle.http_model.specs.Fields.{is_plain, body_length}
use Rattle.http_model.specs.Requests.{Request, whole, part, refused, head_length, headers_of, request_of, front_of_body, front_of_length, front_of_head, line_ends, IsLinedFront, IsFrontBy, IsFront}
use Rattle.http_model.proofs.FrontLemmas.{head-fits, head-first}

-- a part that a head makes lacks bytes of a body that is not too long
part_of_body : (head : RequestHead) (rest : List ℕ) (n : ℕ) →
    front_of_body head rest n ≡ part → length rest < MAX_BODY
part_of_body head rest n is =
    by_tests (nat_lt MAX_BODY n) (nat_lt (length rest) n) refl refl is
  where
    -- by the two tests
    by_tests : (large few : Bool) → nat_lt MAX_BODY n ≡ large → nat_lt (length rest) n ≡ few →
        cond large (refused 413)
        (cond few part (whole (request_of head (take n rest)) (drop n rest)))
        ≡ part → length rest < MAX_BODY
    by_tests true few small short is = absurd (cc is)
    by_tests false true small short is = grind (arith, nat_tests)
    by_tests false false small short is = absurd (cc is)

-- a part that a head makes is shorter than the longest body
part_of_head : (head : RequestHead) (rest : List ℕ) → front_of_head head rest ≡ part →
    length rest < MAX_BODY
unfolding front_of_head
part_of_head head rest is =
    by_coding (is_plain (headers_of head)) (body_length (headers_of head)) is
  where
    -- by the fields of the body
    by_coding : (plain : Bool) (n : Option ℕ) →
        cond plain (front_of_length head rest n) (refused 400) ≡ part → length rest < MAX_BODY
    by_coding true (Some n) is = part_of_body head rest n is
    by_coding true None is = absurd (cc is)
    by_coding false n is = absurd (cc is)

-- a part is shorter than the longest head and the longest body
pub part_is_short : (bytes : List ℕ) → IsFront bytes part → length bytes < MAX_HEAD + MAX_BODY
unfolding IsFront
part_is_short bytes is = by_length (head_length (take MAX_HEAD bytes)) refl is
  where
    -- by whether there are too many lines
    by_lines : (head rest : List ℕ) (many : Bool) → IsLinedFront head rest part many →
        length rest < MAX_BODY
    by_lines head rest true is = absurd (cc is)
    by_lines head rest false (inl (h, read, is)) = part_of_head h rest (sym is)
    by_lines head rest false (inr (none, is)) = absurd (cc is)

    -- without a head
    by_count : (few : Bool) → nat_lt (length bytes) MAX_HEAD ≡ few →
        part ≡ cond few part (refused 431) → length bytes < MAX_HEAD + MAX_BODY
    by_count true test is = grind (arith, nat_tests)
    by_count false test is = absurd (cc is)

    -- by the length of the head
    by_length : (found : Option ℕ) → head_length (take MAX_HEAD bytes) ≡ found →
        IsFrontBy bytes part found → length bytes < MAX_HEAD + MAX_BODY
    by_length None none is = by_count (nat_lt (length bytes) MAX_HEAD) refl is
    by_length (Some n) found is =
        let short : length (drop n bytes) < MAX_BODY =
        by_lines (take n bytes) (drop n bytes)
        (nat_lt MAX_LINE_ENDS (line_ends (take n bytes))) is in
        let len = length-drop n bytes in let within = head-first bytes n found in
        omega arith

-- what is left after a whole request that a head makes is no longer than what stood there
whole_of_body : (head : RequestHead) (rest left : List ℕ) (request : Request) (n : ℕ) →
    front_of_body head rest n ≡ whole request left → length left ≤ length rest
whole_of_body head rest left request n is =
    by_tests (nat_lt MAX_BODY n) (nat_lt (length rest) n) is
  where
    -- by the two tests
    by_tests : (large few : Bool) →
        cond large (refused 413)
        (cond few part (whole (request_of head (take n rest)) (drop n rest)))
        ≡ whole request left → length left ≤ length rest
    by_tests true few is = absurd (cc is)
    by_tests false true is = absurd (cc is)
    by_tests false false is =
        let same : drop n rest ≡ left = cc is in
        let len : length left ≡ length rest - n = ap length (sym same) ∙ length-drop n rest in
        omega arith

-- the same by the fields of the head
whole_of_head : (head : RequestHead) (rest left : List ℕ) (request : Request) →
    front_of_head head rest ≡ whole request left → length left ≤ length rest
unfolding front_of_head
whole_of_head head rest left request is =
    by_coding (is_plain (headers_of head)) (body_length (headers_of head)) is
  where
    -- by the fields of the body
    by_coding : (plain : Bool) (n : Option ℕ) →
        cond plain (front_of_length head rest n) (refused 400) ≡ whole request left →
        length left ≤ length rest
    by_coding true (Some n) is = whole_of_body head rest left request n is
    by_coding true None is = absurd (cc is)
    by_coding false n is = absurd (cc is)

-- a whole request takes at least one byte
pub a_whole_takes_bytes : (bytes rest : List ℕ) (request : Request) →
    IsFront bytes (whole request rest) → length rest < length bytes
unfolding IsFront
a_whole_takes_bytes bytes left request is =
    by_length (head_length (take MAX_HEAD bytes)) refl is
  where
    -- by whether there are too many lines
    by_lines : (head rest : List ℕ) (many : Bool) →
        IsLinedFront head rest (whole request left) many → length left ≤ length rest
    by_lines head rest true is = absurd (cc is)
    by_lines head rest false (inl (h, read, is)) = whole_of_head h rest left request (sym is)
    by_lines head rest false (inr (none, is)) = absurd (cc is)

    -- without a head
    by_count : (few : Bool) → whole request left ≡ cond few part (refused 431) →
        length left < length bytes
    by_count true is = absurd (cc is)
    by_count false is = absurd (cc is)

    -- by the length of the head
    by_length : (found : Option ℕ) → head_length (take MAX_HEAD bytes) ≡ found →
        IsFrontBy bytes (whole request left) found → length left < length bytes
    by_length None none is = by_count (nat_lt (length bytes) MAX_HEAD) is
    by_length (Some n) found is =
        let short : length left ≤ length (drop n bytes) =
        by_lines (take n bytes) (drop n bytes)
        (nat_lt MAX_LINE_ENDS (line_ends (take n bytes))) is in
        let len = length-drop n bytes in let within = head-first bytes n found in
        let fits = head-fits bytes n found in
        omega arith

-- the three statuses of refusals
abbrev pub IsRefusal : ℕ → Type 0
IsRefusal status = (status ≡ 400) ⊎ ((status ≡ 413) ⊎ (status ≡ 431))

-- what a head makes is refused with one of the statuses
refused_of_body : (head : RequestHead) (rest : List ℕ) (n status : ℕ) →
    front_of_body head rest n ≡ refused status → IsRefusal status
refused_of_body head rest n status is =
    by_tests (nat_lt MAX_BODY n) (nat_lt (length rest) n) is
  where
    -- by the two tests
    by_tests : (large few : Bool) →
        cond large (refused 413)
        (cond few part (whole (request_of head (take n rest)) (drop n rest)))
        ≡ refused status → IsRefusal status
    by_tests true few is = inr (inl (cc is))
    by_tests false true is = absurd (cc is)
    by_tests false false is = absurd (cc is)

-- the same by the fields of the head
refused_of_head : (head : RequestHead) (rest : List ℕ) (status : ℕ) →
    front_of_head head rest ≡ refused status → IsRefusal status
unfolding front_of_head
refused_of_head head rest status is =
    by_coding (is_plain (headers_of head)) (body_length (headers_of head)) is
  where
    -- by the fields of the body
    by_coding : (plain : Bool) (n : Option ℕ) →
        cond plain (front_of_length head rest n) (refused 400) ≡ refused status → IsRefusal status
    by_coding true (Some n) is = refused_of_body head rest n status is
    by_coding true None is = inl (cc is)
    by_coding false n is = inl (cc is)

-- a refusal has one of the statuses
pub a_refusal_has_its_status : (bytes : List ℕ) (status : ℕ) → IsFront bytes (refused status) →
    IsRefusal status
unfolding IsFront
a_refusal_has_its_status bytes status is = by_length (head_length (take MAX_HEAD bytes)) is
  where
    -- by whether there are too many lines
    by_lines : (head rest : List ℕ) (many : Bool) → IsLinedFront head rest (refused status) many →
        IsRefusal status
    by_lines head rest true is = inr (inr (cc is))
    by_lines head rest false (inl (h, read, is)) = refused_of_head h rest status (sym is)
    by_lines head rest false (inr (none, is)) = inl (cc is)

    -- without a head
    by_count : (few : Bool) → refused status ≡ cond few part (refused 431) → IsRefusal status
    by_count true is = absurd (cc is)
    by_count false is = inr (inr (cc is))

    -- by the length of the head
    by_length : (found : Option ℕ) → IsFrontBy bytes (refused status) found → IsRefusal status
    by_length None is = by_count (nat_lt (length bytes) MAX_HEAD) is
    by_length (Some n) is =
        by_lines (take n bytes) (drop n bytes)
        (nat_lt MAX_LINE_ENDS (line_ends (take n bytes))) is
