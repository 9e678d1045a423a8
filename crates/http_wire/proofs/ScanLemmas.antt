-- The search for the end of a head from a place on.
use Rattle.std.proofs.Common.{◌≡◌, ◌≤◌, ◌<◌, ◌+◌, ◌-◌, ℕ, suc, zero, Bool, true, false, List, [], ◌∷◌, ◌++◌, length, drop, get_or, Option, Some, None, cond, eqb, nat_lt, ◌&&◌, refl, sym, ap, ◌∙◌, arith}
use Rattle.std.proofs.lemmas.List.{drop_more}
use Rattle.std.proofs.lemmas.Bool.Decides.{nat_tests}
use Rattle.httparse.specs.Ascii.{line_feed, carriage_return}
use Rattle.http_model.specs.Requests.{begins_with_lf, line_end_length, or_else, one_more, head_length}
use Rattle.http_model.proofs.HeadLemmas.{line_end_length-append}
use Rattle.http_wire.specs.Scanning.{counted_from}

-- a place that is counted from one byte later
pub counted_from-more : (i : ℕ) (found : Option ℕ) →
    counted_from i (one_more found) ≡ counted_from (i + 1) found
counted_from-more i None = refl
counted_from-more i (Some n) = let same : i + suc n ≡ (i + 1) + n = omega arith in ap Some same

-- after a byte that is no LF the search goes on
pub head_length-other : (bytes : List ℕ) (i : ℕ) → i < length bytes →
    eqb (get_or bytes i 0) line_feed ≡ false →
    counted_from i (head_length (drop i bytes))
    ≡ counted_from (i + 1) (head_length (drop (i + 1) bytes))
head_length-other bytes i inside other =
    ap (λ xs. counted_from i (head_length xs)) (drop_more bytes i 0 inside)
    ∙ (ap (λ t. counted_from i (one_more (cond t
    (or_else (line_end_length (drop (i + 1) bytes)) (head_length (drop (i + 1) bytes)))
    (head_length (drop (i + 1) bytes))))) other
    ∙ counted_from-more i (head_length (drop (i + 1) bytes)))

-- after an LF that no line end follows the search goes on
pub head_length-no_end : (bytes : List ℕ) (i : ℕ) → i < length bytes →
    eqb (get_or bytes i 0) line_feed ≡ true → line_end_length (drop (i + 1) bytes) ≡ None →
    counted_from i (head_length (drop i bytes))
    ≡ counted_from (i + 1) (head_length (drop (i + 1) bytes))
head_length-no_end bytes i inside feed none =
    ap (λ xs. counted_from i (head_length xs)) (drop_more bytes i 0 inside)
    ∙ (ap (λ t. counted_from i (one_more (cond t
    (or_else (line_end_length (drop (i + 1) bytes)) (head_length (drop (i + 1) bytes)))
    (head_length (drop (i + 1) bytes))))) feed
    ∙ (ap (λ e. counted_from i (one_more (or_else e (head_length (drop (i + 1) bytes))))) none
    ∙ counted_from-more i (head_length (drop (i + 1) bytes))))

-- after an LF that a line end follows the head ends
pub head_length-end : (bytes : List ℕ) (i n : ℕ) → i < length bytes →
    eqb (get_or bytes i 0) line_feed ≡ true → line_end_length (drop (i + 1) bytes) ≡ Some n →
    counted_from i (head_length (drop i bytes)) ≡ Some (i + 1 + n)
head_length-end bytes i n inside feed found =
    let same : i + suc n ≡ i + 1 + n = omega arith in
    ap (λ xs. counted_from i (head_length xs)) (drop_more bytes i 0 inside)
    ∙ (ap (λ t. counted_from i (one_more (cond t
    (or_else (line_end_length (drop (i + 1) bytes)) (head_length (drop (i + 1) bytes)))
    (head_length (drop (i + 1) bytes))))) feed
    ∙ (ap (λ e. counted_from i (one_more (or_else e (head_length (drop (i + 1) bytes))))) found
    ∙ ap Some same))

-- a place counted from the front is itself
pub counted_from-front : (found : Option ℕ) → counted_from 0 found ≡ found
counted_from-front None = refl
counted_from-front (Some n) =
    let same : 0 + n ≡ n = omega arith in ap Some same

-- one byte more in front moves the place from which is counted
pub one_more-counted_from : (k : ℕ) (found : Option ℕ) →
    one_more (counted_from k found) ≡ counted_from (suc k) found
one_more-counted_from k None = refl
one_more-counted_from k (Some n) = let same : suc (k + n) ≡ suc k + n = omega arith in ap Some same

-- a line end has at most two bytes
line_end-short : (bytes : List ℕ) (n : ℕ) → line_end_length bytes ≡ Some n → n ≤ 2
line_end-short [] n is = absurd (cc is)
line_end-short (b ∷ bytes) n is =
    by_tests (eqb b line_feed) (eqb b carriage_return && begins_with_lf bytes) is
  where
    -- by the tests of the first two bytes
    by_tests : (lf end : Bool) → cond lf (Some 1) (cond end (Some 2) None) ≡ Some n → n ≤ 2
    by_tests true end is = let same : 1 ≡ n = cc is in omega arith
    by_tests false true is = let same : 2 ≡ n = cc is in omega arith
    by_tests false false is = absurd (cc is)

-- What more bytes can change: where no head ends in the bytes, its end is looked for from the last
-- two of them on.
pub unscanned : (bytes more : List ℕ) → head_length bytes ≡ None →
    head_length (bytes ++ more)
    ≡ counted_from (length bytes - 2) (head_length (drop (length bytes - 2) (bytes ++ more)))
unscanned [] more none =
    let first : length {A = ℕ} [] - 2 ≡ 0 = omega arith in
    sym (ap (λ k. counted_from k (head_length (drop k more))) first
    ∙ counted_from-front (head_length more))
unscanned (b ∷ bytes) more none =
    let none' : (head_length bytes ≡ None)
    × (eqb b line_feed ≡ true → line_end_length bytes ≡ None) =
    by_tests (eqb b line_feed) (line_end_length bytes) (head_length bytes) none in
    by_size (nat_lt 1 (length bytes)) refl none'.1 (unscanned bytes more none'.0)
  where
    -- where no head ends, none ends after the first byte, nor at it
    by_tests : (lf : Bool) (e h : Option ℕ) → one_more (cond lf (or_else e h) h) ≡ None →
        (h ≡ None) × (lf ≡ true → e ≡ None)
    by_tests true (Some n) h is = absurd (cc is)
    by_tests true None (Some n) is = absurd (cc is)
    by_tests true None None is = (refl, λ _. refl)
    by_tests false e (Some n) is = absurd (cc is)
    by_tests false e None is = (refl, λ t. absurd (cc t))

    -- where no line end follows an LF, the head ends after
    goes_on : (lf : Bool) (e h : Option ℕ) → (lf ≡ true → e ≡ None) →
        one_more (cond lf (or_else e h) h) ≡ one_more h
    goes_on true e h none = ap (λ x. one_more (or_else x h)) (none refl)
    goes_on false e h none = refl

    -- by whether two bytes or more follow the first
    by_size : (t : Bool) → nat_lt 1 (length bytes) ≡ t →
        (eqb b line_feed ≡ true → line_end_length bytes ≡ None) →
        head_length (bytes ++ more)
        ≡ counted_from (length bytes - 2) (head_length (drop (length bytes - 2) (bytes ++ more))) →
        head_length (b ∷ (bytes ++ more))
        ≡ counted_from (length (b ∷ bytes) - 2)
        (head_length (drop (length (b ∷ bytes) - 2) (b ∷ (bytes ++ more))))
    by_size true test ends later =
        let two : 2 ≤ length bytes = grind (arith, nat_tests) in
        let next : length (b ∷ bytes) - 2 ≡ suc (length bytes - 2) = omega arith in
        let end = line_end_length-append bytes more two in
        goes_on (eqb b line_feed) (line_end_length (bytes ++ more)) (head_length (bytes ++ more))
        (λ lf. end ∙ ends lf)
        ∙ (ap one_more later
        ∙ (one_more-counted_from (length bytes - 2)
        (head_length (drop (length bytes - 2) (bytes ++ more)))
        ∙ sym (ap (λ k. counted_from k (head_length (drop k (b ∷ (bytes ++ more))))) next)))
    by_size false test ends later =
        let few : length bytes ≤ 1 = grind (arith, nat_tests) in
        let first : length (b ∷ bytes) - 2 ≡ 0 = omega arith in
        sym (ap (λ k. counted_from k (head_length (drop k (b ∷ (bytes ++ more))))) first
        ∙ counted_from-front (head_length (b ∷ (bytes ++ more))))

-- the end of a head is found from any place that is three bytes or more before it
pub found_from : (k : ℕ) (bytes : List ℕ) (n : ℕ) → head_length bytes ≡ Some n → k + 3 ≤ n →
    head_length bytes ≡ counted_from k (head_length (drop k bytes))
found_from zero bytes n is far = sym (counted_from-front (head_length bytes))
found_from (suc k) [] n is far = absurd (cc is)
found_from (suc k) (b ∷ bytes) n is far =
    let far' : 4 ≤ n = omega arith in
    let behind = passes (eqb b line_feed) (line_end_length bytes) (head_length bytes) refl is in
    behind.0
    ∙ (ap one_more (found_from k bytes behind.1 behind.2 (let same = behind.3 in omega arith))
    ∙ one_more-counted_from k (head_length (drop k bytes)))
  where
    -- the end is far enough, so it stands after the first byte
    passes : (lf : Bool) (e h : Option ℕ) → line_end_length bytes ≡ e →
        one_more (cond lf (or_else e h) h) ≡ Some n →
        (one_more (cond lf (or_else e h) h) ≡ one_more h) × (m : ℕ) × (h ≡ Some m) × (suc m ≡ n)
    passes true (Some m) h end is =
        let short = line_end-short bytes m end in let same : suc m ≡ n = cc is in
        absurd (omega arith)
    passes true None (Some m) end is = (refl, m, refl, cc is)
    passes true None None end is = absurd (cc is)
    passes false e (Some m) end is = (refl, m, refl, cc is)
    passes false e None end is = absurd (cc is)
