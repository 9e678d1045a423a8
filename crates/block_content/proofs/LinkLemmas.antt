-- The pages in the links of blocks are those that some block links to.
use Rattle.std.proofs.Common.{◌≡◌, ℕ, zero, suc, eqb, List, [], ◌∷◌, Contains, IsPermutation, subst, ⊎_elim, arith}
use Rattle.std.proofs.lemmas.List.Elements.{Contains-append_left, Contains-append_right, Contains-append_cases, Contains-push}
use Rattle.std.proofs.lemmas.List.Kept.{Contains-dedup_nat, Contains-from_dedup}
use Rattle.std.proofs.lemmas.List.Sorted.{Contains-permutation, IsPermutation-sym}
use Rattle.std.specs.List.{dedup}
use Rattle.site_types.specs.declared.block.Block.{Block}
use Rattle.site_types.specs.declared.block.Block.TheVariants.{Heading, Paragraph, Items, Page}
use Rattle.site_types.specs.Links.{pages_in}

-- a list of one element has that one
only_one : {X : Type 0} (x y : X) → Contains (x ∷ []) y → x ≡ y
only_one x y (zero, lt, e) = e
only_one x y (suc k, lt, e) = absurd (omega arith)

-- an element of a list is its first or stands after it
first_or_later : {X P : Type 0} (x : X) (xs : List X) (y : X) → Contains (x ∷ xs) y →
    (x ≡ y → P) → (Contains xs y → P) → P
first_or_later x xs y has first later =
    ⊎_elim (λ one. first (only_one x y one)) later (Contains-append_cases (x ∷ []) xs y has)

-- what stands after the first is in the list
behind_first : {X : Type 0} (x : X) (xs : List X) (y : X) → Contains xs y → Contains (x ∷ xs) y
behind_first x xs y has = Contains-append_right (x ∷ []) xs y has

-- the first is in the list
is_first : {X : Type 0} (x : X) (xs : List X) → Contains (x ∷ xs) x
is_first x xs = Contains-append_left (x ∷ []) xs x (Contains-push [] x)

-- nothing is in no list
none_in_none : {X : Type 0} (y : X) → Contains [] y → ⊥
none_in_none y (k, lt, e) = omega arith

-- a page in the links is linked to by a block
pub page_is_linked : (blocks : List Block) (page : ℕ) → Contains (pages_in blocks) page →
    Contains blocks (Page page)
page_is_linked [] page has = absurd (none_in_none page has)
page_is_linked (Page other ∷ blocks) page has =
    first_or_later other (pages_in blocks) page has
    (λ same. let P : ℕ → Type 0 = λ p. Contains (Page other ∷ blocks) (Page p) in
    subst P same (is_first (Page other) blocks))
    (λ later. behind_first (Page other) blocks (Page page) (page_is_linked blocks page later))
page_is_linked (Heading text ∷ blocks) page has =
    behind_first (Heading text) blocks (Page page) (page_is_linked blocks page has)
page_is_linked (Paragraph text ∷ blocks) page has =
    behind_first (Paragraph text) blocks (Page page) (page_is_linked blocks page has)
page_is_linked (Items texts ∷ blocks) page has =
    behind_first (Items texts) blocks (Page page) (page_is_linked blocks page has)

-- a page that a block links to is in the links
pub linked_is_page : (blocks : List Block) (page : ℕ) → Contains blocks (Page page) →
    Contains (pages_in blocks) page
linked_is_page [] page has = absurd (none_in_none (Page page) has)
linked_is_page (Page other ∷ blocks) page has =
    first_or_later (Page other) blocks (Page page) has
    (λ same. let number : other ≡ page = cc in
    let P : ℕ → Type 0 = λ p. Contains (other ∷ pages_in blocks) p in
    subst P number (is_first other (pages_in blocks)))
    (λ later. behind_first other (pages_in blocks) page (linked_is_page blocks page later))
linked_is_page (Heading text ∷ blocks) page has =
    first_or_later (Heading text) blocks (Page page) has (λ same. absurd (cc))
    (linked_is_page blocks page)
linked_is_page (Paragraph text ∷ blocks) page has =
    first_or_later (Paragraph text) blocks (Page page) has (λ same. absurd (cc))
    (linked_is_page blocks page)
linked_is_page (Items texts ∷ blocks) page has =
    first_or_later (Items texts) blocks (Page page) has (λ same. absurd (cc))
    (linked_is_page blocks page)

-- the pages in the links, sorted and each once, are those that some block links to
pub sorted_are_linked : (blocks : List Block) (numbers sorted ids : List ℕ) →
    numbers ≡ pages_in blocks → IsPermutation numbers sorted → ids ≡ dedup eqb sorted →
    (page : ℕ) →
    (Contains ids page → Contains blocks (Page page))
    × (Contains blocks (Page page) → Contains ids page)
sorted_are_linked blocks numbers sorted ids pages moved once page = (
  λ has.
      let in_sorted = Contains-from_dedup eqb sorted page (rw once at has) in
      let back = IsPermutation-sym numbers sorted moved in
      let in_numbers = Contains-permutation sorted numbers page back in_sorted in
      page_is_linked blocks page (rw pages at in_numbers),
  λ has.
      let in_pages = linked_is_page blocks page has in
      let in_numbers : Contains numbers page = rw pages in_pages in
      let in_sorted = Contains-permutation numbers sorted page moved in_numbers in
      rw once (Contains-dedup_nat sorted page in_sorted),
)
