-- Where a head ends: with more bytes after, and how long it is.
use Rattle.std.proofs.Common.{◌≡◌, ◌≤◌, ◌-◌, ℕ, suc, zero, Bool, true, false, List, [], ◌∷◌, ◌++◌, length, take, Option, Some, None, cond, eqb, ◌&&◌, refl, sym, ap, ◌∙◌, arith}
use Rattle.httparse.specs.Ascii.{line_feed, carriage_return}
use Rattle.http_model.specs.Requests.{begins_with_lf, line_end_length, or_else, one_more, head_length}

-- a line end has one or two bytes, which are there
pub line_end_length-within : (bytes : List ℕ) (n : ℕ) → line_end_length bytes ≡ Some n →
    (1 ≤ n) × (n ≤ length bytes)
line_end_length-within [] n is = absurd (cc is)
line_end_length-within (b ∷ bytes) n is = by_first (eqb b line_feed)
    (eqb b carriage_return) bytes is
  where
    -- by the tests of the first byte
    by_first : (lf cr : Bool) (bytes : List ℕ) →
        cond lf (Some 1) (cond (cr && begins_with_lf bytes) (Some 2) None) ≡ Some n →
        (1 ≤ n) × (n ≤ suc (length bytes))
    by_first true cr bytes is = let same : 1 ≡ n = cc is in (omega arith, omega arith)
    by_first false true [] is = absurd (cc is)
    by_first false true (c ∷ bytes) is = by_second (eqb c line_feed) is
      where
        -- by the test of the second byte
        by_second : (lf : Bool) → cond lf (Some 2) None ≡ Some n →
            (1 ≤ n) × (n ≤ suc (suc (length bytes)))
        by_second true is = let same : 2 ≡ n = cc is in (omega arith, omega arith)
        by_second false is = absurd (cc is)
    by_first false false bytes is = absurd (cc is)

-- after two bytes or more nothing changes the line end at the front
pub line_end_length-append : (bytes more : List ℕ) → 2 ≤ length bytes →
    line_end_length (bytes ++ more) ≡ line_end_length bytes
line_end_length-append [] more two = absurd (omega arith)
line_end_length-append (b ∷ []) more two = absurd (omega arith)
line_end_length-append (b ∷ c ∷ bytes) more two = refl

-- a line end at the front stays
pub line_end_length-stays : (bytes more : List ℕ) (n : ℕ) → line_end_length bytes ≡ Some n →
    line_end_length (bytes ++ more) ≡ Some n
line_end_length-stays [] more n is = absurd (cc is)
line_end_length-stays (b ∷ []) more n is = by_first (eqb b line_feed) (eqb b carriage_return) is
  where
    -- by the tests of the only byte
    by_first : (lf cr : Bool) → cond lf (Some 1) (cond (cr && false) (Some 2) None) ≡ Some n →
        cond lf (Some 1) (cond (cr && begins_with_lf more) (Some 2) None) ≡ Some n
    by_first true cr is = is
    by_first false true is = absurd (cc is)
    by_first false false is = absurd (cc is)
line_end_length-stays (b ∷ c ∷ bytes) more n is = is

-- the end that is found by two ways stays where both stay
one_more_stays : (t : Bool) (e f h g : Option ℕ) (n : ℕ) →
    ((m : ℕ) → e ≡ Some m → f ≡ Some m) → ((m : ℕ) → h ≡ Some m → f ≡ e) →
    ((m : ℕ) → h ≡ Some m → g ≡ Some m) → one_more (cond t (or_else e h) h) ≡ Some n →
    one_more (cond t (or_else f g) g) ≡ Some n
one_more_stays false e f (Some m) g n first same later is = ap one_more (later m refl) ∙ is
one_more_stays false e f None g n first same later is = absurd (cc is)
one_more_stays true (Some m) f h g n first same later is =
    ap (λ x. one_more (or_else x g)) (first m refl) ∙ is
one_more_stays true None f (Some m) g n first same later is =
    ap (λ x. one_more (or_else x g)) (same m refl) ∙ (ap one_more (later m refl) ∙ is)
one_more_stays true None f None g n first same later is = absurd (cc is)

-- the end is within what holds one byte more
one_more_within : (t : Bool) (e h : Option ℕ) (n k : ℕ) →
    ((m : ℕ) → e ≡ Some m → (1 ≤ m) × (m ≤ k)) → ((m : ℕ) → h ≡ Some m → (2 ≤ m) × (m ≤ k)) →
    one_more (cond t (or_else e h) h) ≡ Some n → (2 ≤ n) × (n ≤ suc k)
one_more_within false e (Some m) n k first later is =
    let same : suc m ≡ n = cc is in let found = later m refl in (omega arith, omega arith)
one_more_within false e None n k first later is = absurd (cc is)
one_more_within true (Some m) h n k first later is =
    let same : suc m ≡ n = cc is in let found = first m refl in (omega arith, omega arith)
one_more_within true None (Some m) n k first later is =
    let same : suc m ≡ n = cc is in let found = later m refl in (omega arith, omega arith)
one_more_within true None None n k first later is = absurd (cc is)

-- a head has two bytes or more, and they are there
pub head_length-within : (bytes : List ℕ) (n : ℕ) → head_length bytes ≡ Some n →
    (2 ≤ n) × (n ≤ length bytes)
head_length-within [] n is = absurd (cc is)
head_length-within (b ∷ bytes) n is =
    one_more_within (eqb b line_feed) (line_end_length bytes) (head_length bytes) n (length bytes)
    (line_end_length-within bytes) (head_length-within bytes) is

-- the end of a head stays with more bytes after it
pub head_length-stays : (bytes more : List ℕ) (n : ℕ) → head_length bytes ≡ Some n →
    head_length (bytes ++ more) ≡ Some n
head_length-stays [] more n is = absurd (cc is)
head_length-stays (b ∷ bytes) more n is =
    one_more_stays (eqb b line_feed) (line_end_length bytes) (line_end_length (bytes ++ more))
    (head_length bytes) (head_length (bytes ++ more)) n (line_end_length-stays bytes more)
    (λ m found. line_end_length-append bytes more
    (let within = head_length-within bytes m found in omega arith))
    (head_length-stays bytes more) is

-- the first bytes of more bytes begin with the first bytes
pub take-append : (n : ℕ) (bytes more : List ℕ) →
    take n (bytes ++ more) ≡ take n bytes ++ take (n - length bytes) more
take-append zero bytes more =
    let none : 0 - length bytes ≡ 0 = omega arith in sym (ap (λ k. take k more) none)
take-append (suc n) [] more =
    let all : suc n - 0 ≡ suc n = omega arith in sym (ap (λ k. take k more) all)
take-append (suc n) (b ∷ bytes) more =
    let same : suc n - suc (length bytes) ≡ n - length bytes = omega arith in
    ap (λ x. b ∷ x) (take-append n bytes more ∙ sym (ap (λ k. take n bytes ++ take k more) same))
