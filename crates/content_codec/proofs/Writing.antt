-- Forms that are written one after the other, as a loop writes them.
use Rattle.std.proofs.Common.{◌≡◌, ℕ, ◌+◌, ◌*◌, ◌≤◌, ◌<◌, List, [], ◌∷◌, ◌++◌, length, take, drop, get_or, All, ap, sym, subst, ◌∙◌, append_assoc, add-one, drop-cons, length-append, arith}
use Rattle.std.proofs.lemmas.List.{take_more, take_all}
use Rattle.std.proofs.lemmas.List.Elements.{All-push}
use Rattle.site_types.specs.Content.{text_form, texts_form, block_form, blocks_form}
use Rattle.site_types.specs.declared.block.Block.{Block}

-- what is left from an element on is the element and what is left after it
left_from : {A : Type 0} (xs : List A) (k : ℕ) (x : A) → k < length xs → x ≡ get_or xs k x →
    drop k xs ≡ x ∷ drop (k + 1) xs
left_from xs k x lt is =
    let rest = drop-cons xs k x lt in rw add-one (rw (← is) at rest)

-- the form of the texts that are left begins with that of the next one
pub next_text : (texts : List (List ℕ)) (k : ℕ) (text : List ℕ) → k < length texts →
    text ≡ get_or texts k text →
    texts_form (drop k texts) ≡ text_form text ++ texts_form (drop (k + 1) texts)
next_text texts k text lt is = ap texts_form (left_from texts k text lt is)

-- the form of the blocks that are left begins with that of the next one
pub next_block : (blocks : List Block) (k : ℕ) (block : Block) → k < length blocks →
    block ≡ get_or blocks k block →
    blocks_form (drop k blocks) ≡ block_form block ++ blocks_form (drop (k + 1) blocks)
next_block blocks k block lt is = ap blocks_form (left_from blocks k block lt is)

-- the next form was written
pub form_goes_on : (old new item rest left total : List ℕ) → new ≡ old ++ item →
    left ≡ item ++ rest → old ++ left ≡ total → new ++ rest ≡ total
form_goes_on old new item rest left total is next so_far =
    ap (λ (xs : List ℕ). xs ++ rest) is ∙ append_assoc old item rest
    ∙ ap (λ (xs : List ℕ). old ++ xs) (sym next) ∙ so_far

-- the forms that are left after the next one fit as well
pub rest_fits : (item rest left : List ℕ) (most : ℕ) → left ≡ item ++ rest →
    length left ≤ most → length rest ≤ most
rest_fits item rest left most next fits =
    let size : length left ≡ length item + length rest =
    ap (λ (xs : List ℕ). length xs) next ∙ length-append item rest in
    omega arith

-- what holds of the elements so far and of the next one holds of all of them
pub one_more_holds : {A : Type 0} (P : A → Type 0) (xs : List A) (k : ℕ) (x : A) →
    k < length xs → x ≡ get_or xs k x → P x → All P (take k xs) → All P (take (k + 1) xs)
one_more_holds {A} P xs k x lt is holds so_far =
    let more : take (k + 1) xs ≡ take k xs ++ x ∷ [] =
    let m = take_more xs k x lt in rw (← is) at m in
    let Q : List A → Type 0 = λ list. All P list in
    subst Q (sym more) (All-push P (take k xs) x so_far holds)

-- at the end it holds of all
pub all_hold : {A : Type 0} (P : A → Type 0) (xs : List A) (k : ℕ) → length xs ≤ k →
    All P (take k xs) → All P xs
all_hold {A} P xs k le so_far =
    let Q : List A → Type 0 = λ list. All P list in subst Q (take_all k xs le) so_far

-- each text takes four bytes at least
pub texts_take_bytes : (texts : List (List ℕ)) → 4 * length texts ≤ length (texts_form texts)
texts_take_bytes [] = omega arith
texts_take_bytes (text ∷ texts) =
    let rest = texts_take_bytes texts in
    let one = length-append (text_form text) (texts_form texts) in
    omega arith
