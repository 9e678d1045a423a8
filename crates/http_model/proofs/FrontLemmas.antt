-- Fronts: there is one, and which it is by the head.
use Rattle.std.proofs.Common.{◌≡◌, ◌≤◌, ℕ, Bool, true, false, List, [], length, take, drop, Option, Some, None, cond, nat_lt, inl, inr, refl, sym, ap, ◌∙◌, subst, arith}
use Rattle.std.proofs.lemmas.List.{length-take}
use Rattle.httparse.specs.Grammar.{RequestHead}
use Rattle.httparse.proofs.GrammarLemmas.{request_unique}
use Rattle.http_model.specs.declared.words.TheConstants.{MAX_HEAD, MAX_LINE_ENDS}
use Rattle.http_model.specs.Requests.{Front, part, refused, head_length, front_of_head, IsReadAs, IsUnreadable, IsReadFront, line_ends, IsLinedFront, IsFrontBy, IsFront}
use Rattle.http_model.proofs.HeadLemmas.{head_length-within}

-- the bytes of which the front is this one read as one front
one_read_front : (bytes rest : List ℕ) (front other : Front) → IsReadFront bytes rest front →
    IsReadFront bytes rest other → front ≡ other
one_read_front bytes rest front other (inl (head, read, is)) (inl (head', read', is')) =
    let same = request_unique bytes head head' [] [] read.0 read'.0 in
    is ∙ (ap (λ h. front_of_head h rest) same.0 ∙ sym is')
one_read_front bytes rest front other (inl (head, read, is)) (inr (none, is')) =
    absurd (none head read)
one_read_front bytes rest front other (inr (none, is)) (inl (head', read', is')) =
    absurd (none head' read')
one_read_front bytes rest front other (inr (none, is)) (inr (none', is')) = is ∙ sym is'

-- bytes have one front
pub one_front : (bytes : List ℕ) (front other : Front) → IsFront bytes front →
    IsFront bytes other → front ≡ other
unfolding IsFront
one_front bytes front other one two = by_length (head_length (take MAX_HEAD bytes)) one two
  where
    -- by the number of lines
    by_lines : (head rest : List ℕ) (many : Bool) → IsLinedFront head rest front many →
        IsLinedFront head rest other many → front ≡ other
    by_lines head rest true is is' = is ∙ sym is'
    by_lines head rest false is is' = one_read_front head rest front other is is'

    -- by the length of the head
    by_length : (found : Option ℕ) → IsFrontBy bytes front found → IsFrontBy bytes other found →
        front ≡ other
    by_length None is is' = is ∙ sym is'
    by_length (Some n) is is' =
        by_lines (take n bytes) (drop n bytes) (nat_lt MAX_LINE_ENDS (line_ends (take n bytes))) is
        is'

-- a head that is found in the first bytes lies in the bytes
pub head-fits : (bytes : List ℕ) (n : ℕ) → head_length (take MAX_HEAD bytes) ≡ Some n →
    n ≤ length bytes
head-fits bytes n found =
    let within = head_length-within (take MAX_HEAD bytes) n found in
    let len = length-take MAX_HEAD bytes in omega arith

-- a head that is found in the first bytes has two bytes or more, and no more than the longest
pub head-first : (bytes : List ℕ) (n : ℕ) → head_length (take MAX_HEAD bytes) ≡ Some n →
    (2 ≤ n) × (n ≤ MAX_HEAD)
head-first bytes n found =
    let within = head_length-within (take MAX_HEAD bytes) n found in
    let len = length-take MAX_HEAD bytes in (within.0, omega arith)

-- the front of bytes that begin with a head of the grammar
pub front_of_read : (bytes : List ℕ) (n : ℕ) (head : RequestHead) →
    head_length (take MAX_HEAD bytes) ≡ Some n →
    nat_lt MAX_LINE_ENDS (line_ends (take n bytes)) ≡ false → IsReadAs (take n bytes) head →
    IsFront bytes (front_of_head head (drop n bytes))
unfolding IsFront
front_of_read bytes n head found few read =
    let front : Front = front_of_head head (drop n bytes) in
    let P : Option ℕ → Type 0 = IsFrontBy bytes front in
    let Q : Bool → Type 0 = IsLinedFront (take n bytes) (drop n bytes) front in
    subst P (sym found) (subst Q (sym few) (inl (head, read, refl)))

-- the front of bytes that begin with what ends as a head and is none
pub front_of_unreadable : (bytes : List ℕ) (n : ℕ) → head_length (take MAX_HEAD bytes) ≡ Some n →
    nat_lt MAX_LINE_ENDS (line_ends (take n bytes)) ≡ false → IsUnreadable (take n bytes) →
    IsFront bytes (refused 400)
unfolding IsFront
front_of_unreadable bytes n found few none =
    let P : Option ℕ → Type 0 = IsFrontBy bytes (refused 400) in
    let Q : Bool → Type 0 = IsLinedFront (take n bytes) (drop n bytes) (refused 400) in
    subst P (sym found) (subst Q (sym few) (inr (none, refl)))

-- the front of bytes whose head has too many lines
pub front_of_many_lines : (bytes : List ℕ) (n : ℕ) → head_length (take MAX_HEAD bytes) ≡ Some n →
    nat_lt MAX_LINE_ENDS (line_ends (take n bytes)) ≡ true → IsFront bytes (refused 431)
unfolding IsFront
front_of_many_lines bytes n found many =
    let P : Option ℕ → Type 0 = IsFrontBy bytes (refused 431) in
    let Q : Bool → Type 0 = IsLinedFront (take n bytes) (drop n bytes) (refused 431) in
    subst P (sym found) (subst Q (sym many) refl)

-- the front of bytes that end before their head does
pub front_without_head : (bytes : List ℕ) → head_length (take MAX_HEAD bytes) ≡ None →
    IsFront bytes (cond (nat_lt (length bytes) MAX_HEAD) part (refused 431))
unfolding IsFront
front_without_head bytes none =
    let front : Front = cond (nat_lt (length bytes) MAX_HEAD) part (refused 431) in
    let P : Option ℕ → Type 0 = IsFrontBy bytes front in
    subst P (sym none) refl
