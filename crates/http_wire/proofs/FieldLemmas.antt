-- Fields of a name among the first fields, and what the last of them adds.
use Rattle.std.proofs.Common.{◌≡◌, ◌≤◌, ◌<◌, ◌+◌, ℕ, Bool, true, false, List, [], ◌∷◌, ◌++◌, length, take, drop, map, get_or, cond, refl, ap, ◌∙◌}
use Rattle.std.specs.Prelude.{◌||◌}
use Rattle.std.specs.List.{list_any}
use Rattle.std.proofs.lemmas.List.Folds.{list_any-append}
use Rattle.std.proofs.lemmas.List.{map-append, take_more, at_drop_more, at_drop_all}
use Rattle.std.proofs.lemmas.List.Elements.{filter-append}
use Rattle.httparse.specs.declared.spans.HeaderSpan.{HeaderSpan}
use Rattle.httparse.specs.Spans.{header_bytes}
use Rattle.http_model.specs.declared.words.TheConstants.{CONNECTION_NAME}
use Rattle.http_model.specs.Fields.{Header, is_same_word, values_named, has_close, asks_for_closing}

-- the values of joined fields are joined
pub values_named-append : (name : List ℕ) (headers more : List Header) →
    values_named name (headers ++ more) ≡ values_named name headers ++ values_named name more
unfolding values_named
values_named-append name headers more =
    ap (map (λ header. header.1))
    (filter-append (λ header. is_same_word header.0 name) headers more)
    ∙ map-append (λ header. header.1) _ _

-- the values of one field more
pub values_named-more : (name head : List ℕ) (fields : List HeaderSpan) (i : ℕ) (d : HeaderSpan) →
    i < length fields →
    values_named name (map (header_bytes head) (take (i + 1) fields))
    ≡ values_named name (map (header_bytes head) (take i fields))
    ++ values_named name (header_bytes head (get_or fields i d) ∷ [])
values_named-more name head fields i d inside =
    ap (λ xs. values_named name (map (header_bytes head) xs)) (take_more fields i d inside)
    ∙ (ap (values_named name) (map-append (header_bytes head) (take i fields) _)
    ∙ values_named-append name _ _)

-- a field of the name adds its value
pub values_named-this : (name : List ℕ) (header : Header) → is_same_word header.0 name ≡ true →
    values_named name (header ∷ []) ≡ header.1 ∷ []
unfolding values_named
values_named-this name header same =
    ap (λ t. map (λ h. h.1) (cond t (header ∷ []) [])) same

-- another field adds none
pub values_named-other : (name : List ℕ) (header : Header) → is_same_word header.0 name ≡ false →
    values_named name (header ∷ []) ≡ []
unfolding values_named
values_named-other name header other =
    ap (λ t. map (λ h. h.1) (cond t (header ∷ []) [])) other

-- no fields have no values
pub values_named-none : (name : List ℕ) → values_named name [] ≡ []
unfolding values_named
values_named-none name = refl

-- joined fields ask for closing where one of the two parts does
pub asks-append : (headers more : List Header) →
    asks_for_closing (headers ++ more) ≡ (asks_for_closing headers || asks_for_closing more)
asks-append headers more =
    ap (list_any has_close) (values_named-append CONNECTION_NAME.now headers more)
    ∙ list_any-append has_close _ _

-- no fields ask for closing
pub asks-none : asks_for_closing [] ≡ false
asks-none = ap (list_any has_close) (values_named-none CONNECTION_NAME.now)

-- a field `Connection` asks for closing where its value does
pub asks-this : (header : Header) → is_same_word header.0 CONNECTION_NAME.now ≡ true →
    asks_for_closing (header ∷ []) ≡ has_close header.1
asks-this header same =
    ap (list_any has_close) (values_named-this CONNECTION_NAME.now header same)
    ∙ or_false (has_close header.1)
  where
    -- `or false` changes nothing
    or_false : (b : Bool) → (b || false) ≡ b
    or_false true = refl
    or_false false = refl

-- another field does not ask for closing
pub asks-other : (header : Header) → is_same_word header.0 CONNECTION_NAME.now ≡ false →
    asks_for_closing (header ∷ []) ≡ false
asks-other header other =
    ap (list_any has_close) (values_named-other CONNECTION_NAME.now header other)

-- the fields from a place on ask for closing where the first of them does, or one after it
pub asks-drop : (head : List ℕ) (fields : List HeaderSpan) (i : ℕ) (d : HeaderSpan) →
    i < length fields →
    asks_for_closing (map (header_bytes head) (drop i fields))
    ≡ (asks_for_closing (header_bytes head (get_or fields i d) ∷ [])
    || asks_for_closing (map (header_bytes head) (drop (i + 1) fields)))
asks-drop head fields i d inside =
    at_drop_more (λ xs. asks_for_closing (map (header_bytes head) xs)) fields i d inside
    ∙ asks-append (header_bytes head (get_or fields i d) ∷ [])
    (map (header_bytes head) (drop (i + 1) fields))

-- after the last field nothing asks for closing
pub asks-end : (head : List ℕ) (fields : List HeaderSpan) (i : ℕ) → length fields ≤ i →
    asks_for_closing (map (header_bytes head) (drop i fields)) ≡ false
asks-end head fields i past =
    at_drop_all (λ xs. asks_for_closing (map (header_bytes head) xs)) fields i past ∙ asks-none
