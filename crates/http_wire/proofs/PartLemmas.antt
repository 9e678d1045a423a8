-- The front by the parts of a head, as they are read from its spans.
use Rattle.std.proofs.Common.{◌≡◌, ◌≤◌, ℕ, Bool, true, false, List, [], length, take, Option, Some, None, cond, nat_lt, inl, refl, sym, ap, subst, ◌∙◌, arith}
use Rattle.std.specs.Prelude.{Result, Ok, Err}
use Rattle.std.proofs.lemmas.List.{drop_all, length-map, length-take}
use Rattle.httparse.specs.declared.spans.HeaderSpan.{HeaderSpan}
use Rattle.httparse.specs.declared.spans.RequestSpans.{RequestSpans}
use Rattle.httparse.specs.Grammar.{RequestHead, ReadsRequest}
use Rattle.httparse.specs.Spans.{header_bytes, name_and_value, IsRequestAt}
use Rattle.http_model.specs.declared.words.TheConstants.{MAX_LINE_ENDS}
use Rattle.http_model.specs.Fields.{Header, is_plain, body_length}
use Rattle.http_model.specs.Requests.{Front, refused, headers_of, front_of_length, front_of_head, IsReadAs, line_ends, IsLinedFront}
use Rattle.http_wire.specs.declared.head.Head.{Head}
use Rattle.http_wire.specs.Reading.{front_behind, MakesFront, front_of_size, front_of_parts, HasHeadFront}

-- the front that a head makes is that of its parts
pub front_of_its_parts : (head : RequestHead) (rest : List ℕ) →
    front_of_head head rest
    ≡ front_of_parts head.method head.target head.minor (headers_of head) rest
unfolding front_of_head
front_of_its_parts head rest =
    by_fields (is_plain (headers_of head)) (body_length (headers_of head))
  where
    -- by what the fields say of the body
    by_fields : (plain : Bool) (n : Option ℕ) →
        cond plain (front_of_length head rest n) (refused 400)
        ≡ cond plain
        (front_of_size head.method head.target head.minor (headers_of head) rest n) (refused 400)
    by_fields true (Some n) = refl
    by_fields true None = refl
    by_fields false n = refl

-- the front of parts that are those of a head
pub front_of_same_parts : (head : RequestHead) (name target : List ℕ) (minor : ℕ)
    (headers : List Header) (rest : List ℕ) → name ≡ head.method → target ≡ head.target →
    minor ≡ head.minor → headers ≡ headers_of head →
    front_of_head head rest ≡ front_of_parts name target minor headers rest
front_of_same_parts head name target minor headers rest named aimed versioned fielded =
    front_of_its_parts head rest
    ∙ sym (ap (λ x. front_of_parts x target minor headers rest) named
    ∙ (ap (λ x. front_of_parts head.method x minor headers rest) aimed
    ∙ (ap (λ x. front_of_parts head.method head.target x headers rest) versioned
    ∙ ap (λ x. front_of_parts head.method head.target head.minor x rest) fielded)))

-- what is made of a head that is read, in no more lines than are allowed, has its front
pub has_front : (bytes : List ℕ) (head : RequestHead) (made : Result Head ℕ)
    (front : List ℕ → Front) → nat_lt MAX_LINE_ENDS (line_ends bytes) ≡ false →
    IsReadAs bytes head → ((rest : List ℕ) → front_of_head head rest ≡ front rest) →
    MakesFront made front → HasHeadFront bytes made
has_front bytes head (Ok parts) front few read same makes =
    λ rest. subst (IsLinedFront bytes rest (front_behind parts rest)) (sym few)
    (inl (head, read, sym (same rest ∙ makes rest)))
has_front bytes head (Err status) front few read same makes =
    λ rest. subst (IsLinedFront bytes rest (refused status)) (sym few)
    (inl (head, read, sym (same rest ∙ makes rest)))

-- a head whose spans reach to the end of the bytes is all of them
pub reads_all : (bytes : List ℕ) (fields : List HeaderSpan) (spans : RequestSpans)
    (head : RequestHead) → IsRequestAt bytes fields spans head → length bytes ≤ spans.len →
    ReadsRequest bytes head []
reads_all bytes fields spans head is past =
    subst (ReadsRequest bytes head) (drop_all spans.len bytes past) is.reads

-- a head has as many fields as spans are filled
pub fields_count : (bytes : List ℕ) (fields : List HeaderSpan) (spans : RequestSpans)
    (head : RequestHead) (room : ℕ) → IsRequestAt bytes fields spans head →
    length fields ≤ room → length head.fields ≤ room
fields_count bytes fields spans head room is fits =
    let counted = ap length is.fields in
    let all = length-map head.fields name_and_value in
    let some = length-map (take spans.headers fields) (header_bytes bytes) in
    let taken = length-take spans.headers fields in
    omega arith
