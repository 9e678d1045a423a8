-- What is known of a value whose members, items or kind were tested.
use Rattle.std.proofs.Common.{◌≡◌, ℕ, true, List, [], ◌∷◌, All, map, bytes_eq, Option, Some, refl, ap}
use Rattle.std.specs.Cmp.{first_so, second_so}
use Rattle.std.proofs.lemmas.List.Elements.{All-nil, All-cons, All-head, All-tail}
use Rattle.std.proofs.lemmas.Slice.Eq.{bytes_eq-Decides}
use Rattle.serde_json.specs.Data.{Data, unsigned, number, string, array, object, Items, no_items, item, Members, no_members, member}
use Rattle.serde_json.specs.Find.{as_str, as_array}
use Rattle.serde_json.specs.View.{items_of}
use Rattle.json_model.specs.Members.{are_named, has_exactly, each_of, list_of, whole_of}
use Rattle.json_model.proofs.OptionLemmas.{and_then_gives, map_gives}

-- members of no names are none
no_names_left : (members : Members) → are_named [] members ≡ true → members ≡ no_members
no_names_left no_members e = refl
no_names_left (member _ _ _) e = cc

-- members of names begin with one of the first name
first_member : (wanted : List ℕ) (names : List (List ℕ)) (members : Members) →
    are_named (wanted ∷ names) members ≡ true →
    (value : Data) × (rest : Members) × (members ≡ member wanted value rest)
    × (are_named names rest ≡ true)
first_member wanted names no_members e = absurd (cc)
first_member wanted names (member name value rest) e =
    let same : name ≡ wanted =
    (bytes_eq-Decides name wanted).0 (first_so (bytes_eq name wanted) _ e) in
    (value, rest, ap (λ n. member n value rest) same, second_so (bytes_eq name wanted) _ e)

-- a value with one member
pub one_member : (first : List ℕ) (value : Data) → has_exactly (first ∷ []) value ≡ true →
    (found : Data) × (value ≡ object (member first found no_members))
one_member first (object members) e =
    let front = first_member first [] members e in
    let behind = no_names_left front.1 front.3 in
    (front.0, cc)
one_member first _ e = absurd (cc)

-- a value with two members
pub two_members : (first second : List ℕ) (value : Data) →
    has_exactly (first ∷ second ∷ []) value ≡ true →
    (found : Data) × (other : Data)
    × (value ≡ object (member first found (member second other no_members)))
two_members first second (object members) e =
    let front = first_member first (second ∷ []) members e in
    let later = first_member second [] front.1 front.3 in
    let behind = no_names_left later.1 later.3 in
    (front.0, later.0, cc)
two_members first second _ e = absurd (cc)

-- a value that gives a text is that text
pub text_form : (value : Data) (text : List ℕ) → as_str value ≡ Some text → value ≡ string text
text_form (string s) text e =
    let same : s ≡ text = cc in ap string same
text_form _ text e = absurd (cc)

-- a value that gives items is an array of them
array_form : (value : Data) (items : Items) → as_array value ≡ Some items → value ≡ array items
array_form (array found) items e =
    let same : found ≡ items = cc in ap array same
array_form _ items e = absurd (cc)

-- a value that gives a whole number is that number, written with digits alone
pub whole_form : (value : Data) (n : ℕ) → whole_of value ≡ Some n → value ≡ number (unsigned n)
whole_form (number (unsigned m)) n e =
    let same : m ≡ n = cc in ap (λ k. number (unsigned k)) same
whole_form _ n e = absurd (cc)

-- what is written of each is read as each
pub each_reads_back : {A : Type 0} (read : Data → Option A) (write : A → Data) (P : A → Type 0) →
    ((a : A) → P a → read (write a) ≡ Some a) →
    (list : List A) → All P list → each_of read (items_of (map write list)) ≡ Some list
each_reads_back read write P back [] all = refl
each_reads_back read write P back (a ∷ list) all =
    let first = back a (All-head P a list all) in
    let rest = each_reads_back read write P back list (All-tail P a list all) in
    rw (first, rest)

-- where each is read from what is written of it alone, so are all
pub each_has_one_form : {A : Type 0} (read : Data → Option A) (write : A → Data) →
    ((value : Data) (a : A) → read value ≡ Some a → value ≡ write a) →
    (items : Items) (list : List A) → each_of read items ≡ Some list →
    items ≡ items_of (map write list)
each_has_one_form read write form no_items list e =
    let same : [] ≡ list = cc in ap (λ l. items_of (map write l)) same
each_has_one_form read write form (item value items) list e =
    let found = and_then_gives _ (read value) list e in
    let others = map_gives _ (each_of read items) list found.2 in
    let first = form value found.0 found.1 in
    let rest = each_has_one_form read write form items others.0 others.1 in
    let same : item value items ≡ items_of (map write (found.0 ∷ others.0)) = cc in
    rw (← others.2) same

-- where each that is read has a property, so have all
pub each_has : {A : Type 0} (read : Data → Option A) (P : A → Type 0) →
    ((value : Data) (a : A) → read value ≡ Some a → P a) →
    (items : Items) (list : List A) → each_of read items ≡ Some list → All P list
each_has read P has no_items list e = let same : [] ≡ list = cc in rw (← same) (All-nil P)
each_has read P has (item value items) list e =
    let found = and_then_gives _ (read value) list e in
    let others = map_gives _ (each_of read items) list found.2 in
    let first = has value found.0 found.1 in
    let rest = each_has read P has items others.0 others.1 in
    rw (← others.2) (All-cons P found.0 others.0 first rest)

-- a list has one form where its items have
pub list_has_one_form : {A : Type 0} (read : Data → Option A) (write : A → Data) →
    ((value : Data) (a : A) → read value ≡ Some a → value ≡ write a) →
    (value : Data) (list : List A) → list_of read value ≡ Some list →
    value ≡ array (items_of (map write list))
list_has_one_form read write form value list e =
    let found = and_then_gives (each_of read) _ list e in
    let is = array_form value found.0 found.1 in
    let items = each_has_one_form read write form found.0 list found.2 in
    cc

-- where each item that is read has a property, so has each of a list
pub list_has : {A : Type 0} (read : Data → Option A) (P : A → Type 0) →
    ((value : Data) (a : A) → read value ≡ Some a → P a) →
    (value : Data) (list : List A) → list_of read value ≡ Some list → All P list
list_has read P has value list e =
    let found = and_then_gives (each_of read) _ list e in
    each_has read P has found.0 list found.2
