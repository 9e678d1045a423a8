-- What a reader remembers, and the front of bytes whose head is read.
use Rattle.std.proofs.Common.{◌≡◌, ◌≤◌, ◌<◌, ◌+◌, ◌-◌, ℕ, Bool, true, false, List, [], ◌++◌, length, take, drop, Option, Some, None, cond, nat_lt, refl, sym, ap, subst, ◌∙◌, append_assoc, length-append, arith}
use Rattle.std.proofs.lemmas.Bool.Decides.{nat_tests}
use Rattle.std.proofs.lemmas.List.{append-nil, take_all, length-take, length-drop, take-append-le}
use Rattle.http_model.specs.declared.words.TheConstants.{MAX_HEAD}
use Rattle.http_model.specs.Requests.{Front, whole, part, refused, head_length, IsHeadFront, IsFrontBy, IsFront}
use Rattle.http_model.proofs.HeadLemmas.{head_length-within, head_length-stays, take-append}
use Rattle.http_model.proofs.FrontLemmas.{head-fits, front_without_head}
use Rattle.http_wire.specs.declared.head.Head.{Head}
use Rattle.http_wire.specs.Scanning.{counted_from}
use Rattle.http_wire.specs.Reading.{Scan, Knows, front_behind, with_body}
use Rattle.http_wire.proofs.ScanLemmas.{counted_from-front, unscanned, found_from}

-- a reader that remembers nothing says nothing false of any bytes
pub knows_nothing : (bytes : List ℕ) → Knows (record { scanned = 0; wanted = 0 }) bytes
knows_nothing bytes = record {
  within = omega arith;
  search = λ more. sym (counted_from-front (head_length (take MAX_HEAD (bytes ++ more))));
  short = λ more few. absurd (omega arith);
}

-- what a reader remembers of bytes it remembers of them with more after
pub knows_more : (scan : Scan) (bytes more : List ℕ) → Knows scan bytes → Knows scan (bytes ++ more)
knows_more scan bytes more knows = record {
  within =
      let first = knows.within in let a = length-take MAX_HEAD bytes in
      let b = length-take MAX_HEAD (bytes ++ more) in let c = length-append bytes more in
      omega arith;
  search = λ others.
      let P : List ℕ → Type 0 =
      λ xs. head_length (take MAX_HEAD xs)
      ≡ counted_from scan.scanned (head_length (drop scan.scanned (take MAX_HEAD xs))) in
      subst P (sym (append_assoc bytes more others)) (knows.search (more ++ others));
  short = λ others.
      let P : List ℕ → Type 0 = λ xs. length xs < scan.wanted → IsFront xs part in
      subst P (sym (append_assoc bytes more others)) (knows.short (more ++ others));
}

-- what a reader remembers of bytes holds of them alone
pub search_here : (scan : Scan) (bytes : List ℕ) → Knows scan bytes →
    head_length (take MAX_HEAD bytes)
    ≡ counted_from scan.scanned (head_length (drop scan.scanned (take MAX_HEAD bytes)))
search_here scan bytes knows =
    let P : List ℕ → Type 0 =
    λ xs. head_length (take MAX_HEAD xs)
    ≡ counted_from scan.scanned (head_length (drop scan.scanned (take MAX_HEAD xs))) in
    subst P (append-nil bytes) (knows.search [])

-- with fewer bytes than the reader waits for they are a part
pub short_here : (scan : Scan) (bytes : List ℕ) → Knows scan bytes → length bytes < scan.wanted →
    IsFront bytes part
short_here scan bytes knows =
    let P : List ℕ → Type 0 = λ xs. length xs < scan.wanted → IsFront xs part in
    subst P (append-nil bytes) (knows.short [])

-- where no head ends in bytes that are few, its end is looked for from their last two on
pub knows_no_head : (bytes : List ℕ) → head_length (take MAX_HEAD bytes) ≡ None →
    length bytes < MAX_HEAD → Knows (record { scanned = length bytes - 2; wanted = 0 }) bytes
knows_no_head bytes none few =
    let all : take MAX_HEAD bytes ≡ bytes = take_all MAX_HEAD bytes (omega arith) in
    let none' : head_length bytes ≡ None = ap head_length (sym all) ∙ none in
    record {
      within = let len = length-take MAX_HEAD bytes in omega arith;
      search = λ more.
          let window : take MAX_HEAD (bytes ++ more)
          ≡ bytes ++ take (MAX_HEAD - length bytes) more =
          take-append MAX_HEAD bytes more
          ∙ ap (λ xs. xs ++ take (MAX_HEAD - length bytes) more) all in
          let P : List ℕ → Type 0 =
          λ xs. head_length xs
          ≡ counted_from (length bytes - 2) (head_length (drop (length bytes - 2) xs)) in
          subst P (sym window) (unscanned bytes (take (MAX_HEAD - length bytes) more) none');
      short = λ more few. absurd (omega arith);
    }

-- where no head ends in bytes that are few they are a part
pub part_without_head : (bytes : List ℕ) → head_length (take MAX_HEAD bytes) ≡ None →
    length bytes < MAX_HEAD → IsFront bytes part
part_without_head bytes none few =
    let test : nat_lt (length bytes) MAX_HEAD ≡ true = grind (arith, nat_tests) in
    subst (IsFront bytes) (ap (λ t. cond t part (refused 431)) test) (front_without_head bytes none)

-- where no head ends in bytes that are many they are refused
pub refused_without_head : (bytes : List ℕ) → head_length (take MAX_HEAD bytes) ≡ None →
    MAX_HEAD ≤ length bytes → IsFront bytes (refused 431)
refused_without_head bytes none many =
    let test : nat_lt (length bytes) MAX_HEAD ≡ false = grind (arith, nat_tests) in
    subst (IsFront bytes) (ap (λ t. cond t part (refused 431)) test) (front_without_head bytes none)

-- the front by the bytes of the head and those after it
pub front_with_head : (bytes : List ℕ) (n : ℕ) (front : Front) →
    head_length (take MAX_HEAD bytes) ≡ Some n →
    IsHeadFront (take n bytes) (drop n bytes) front → IsFront bytes front
unfolding IsFront
front_with_head bytes n front found is =
    let P : Option ℕ → Type 0 = IsFrontBy bytes front in subst P (sym found) is

-- the head in the first bytes stays with more bytes after them
head-stays : (bytes more : List ℕ) (n : ℕ) → head_length (take MAX_HEAD bytes) ≡ Some n →
    head_length (take MAX_HEAD (bytes ++ more)) ≡ Some n
head-stays bytes more n found =
    ap head_length (take-append MAX_HEAD bytes more)
    ∙ head_length-stays (take MAX_HEAD bytes) (take (MAX_HEAD - length bytes) more) n found

-- with fewer bytes than the body has they are a part
pub part_of_body : (bytes : List ℕ) (n : ℕ) (head : Head) →
    head_length (take MAX_HEAD bytes) ≡ Some n →
    ((rest : List ℕ) → IsHeadFront (take n bytes) rest (front_behind head rest)) →
    length bytes < n + head.length → IsFront bytes part
part_of_body bytes n head found fronts few =
    let rest : List ℕ = drop n bytes in
    let len = length-drop n bytes in let fits = head-fits bytes n found in
    let test : nat_lt (length (drop n bytes)) head.length ≡ true = grind (arith, nat_tests) in
    front_with_head bytes n part found
    (subst (IsHeadFront (take n bytes) rest)
    (ap (λ t. cond t part (whole (with_body head (take head.length rest)) (drop head.length rest)))
    test)
    (fronts rest))

-- the same of the bytes with more after them
part_of_body-more : (bytes more : List ℕ) (n : ℕ) (head : Head) →
    head_length (take MAX_HEAD bytes) ≡ Some n →
    ((rest : List ℕ) → IsHeadFront (take n bytes) rest (front_behind head rest)) →
    length (bytes ++ more) < n + head.length → IsFront (bytes ++ more) part
part_of_body-more bytes more n head found fronts few =
    let same : take n (bytes ++ more) ≡ take n bytes =
    take-append-le n bytes more (head-fits bytes n found) in
    part_of_body (bytes ++ more) n head (head-stays bytes more n found)
    (λ rest. subst (λ xs. IsHeadFront xs rest (front_behind head rest)) (sym same) (fronts rest))
    few

-- what a reader remembers while it waits for a body
pub knows_head : (bytes : List ℕ) (n : ℕ) (head : Head) →
    head_length (take MAX_HEAD bytes) ≡ Some n →
    ((rest : List ℕ) → IsHeadFront (take n bytes) rest (front_behind head rest)) →
    Knows (record { scanned = n - 3; wanted = n + head.length }) bytes
knows_head bytes n head found fronts = record {
  within =
      let fits = head_length-within (take MAX_HEAD bytes) n found in omega arith;
  search = λ more. by_size (take MAX_HEAD (bytes ++ more)) (head-stays bytes more n found);
  short = λ more few. part_of_body-more bytes more n head found fronts few;
}
  where
    -- the end of the head is at most three bytes after that place
    by_size : (window : List ℕ) → head_length window ≡ Some n →
        head_length window ≡ counted_from (n - 3) (head_length (drop (n - 3) window))
    by_size window found' = by_test (nat_lt 2 n) refl
      where
        -- by whether the head has three bytes
        by_test : (t : Bool) → nat_lt 2 n ≡ t →
            head_length window ≡ counted_from (n - 3) (head_length (drop (n - 3) window))
        by_test true test =
            let large : 2 < n = grind (arith, nat_tests) in
            found_from (n - 3) window n found' (omega arith)
        by_test false test =
            let small : n ≤ 2 = grind (arith, nat_tests) in
            let first : n - 3 ≡ 0 = omega arith in
            sym (ap (λ k. counted_from k (head_length (drop k window))) first
            ∙ counted_from-front (head_length window))

-- with all bytes of the body they are a whole request
pub whole_of_body : (bytes : List ℕ) (n : ℕ) (head : Head) →
    head_length (take MAX_HEAD bytes) ≡ Some n →
    ((rest : List ℕ) → IsHeadFront (take n bytes) rest (front_behind head rest)) →
    n + head.length ≤ length bytes →
    IsFront bytes
    (whole (with_body head (take head.length (drop n bytes))) (drop head.length (drop n bytes)))
whole_of_body bytes n head found fronts enough =
    let rest : List ℕ = drop n bytes in
    let len = length-drop n bytes in let fits = head-fits bytes n found in
    let test : nat_lt (length (drop n bytes)) head.length ≡ false = grind (arith, nat_tests) in
    front_with_head bytes n
    (whole (with_body head (take head.length rest)) (drop head.length rest)) found
    (subst (IsHeadFront (take n bytes) rest)
    (ap (λ t. cond t part (whole (with_body head (take head.length rest)) (drop head.length rest)))
    test)
    (fronts rest))
