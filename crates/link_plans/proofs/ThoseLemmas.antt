-- Ids that are those that a test passes.
use Rattle.std.proofs.Common.{◌≡◌, ℕ, zero, suc, Bool, true, false, nat_eq, ◌||◌, List, [], ◌∷◌, ◌++◌, Contains, refl, sym, ap, ◌∙◌, arith}
use Rattle.std.proofs.lemmas.Bool.Decides.{nat_tests}
use Rattle.std.proofs.lemmas.List.Folds.{list_any-append}
use Rattle.std.specs.List.{list_any}
use Rattle.site_types.specs.Content.{ContentValue}
use Rattle.site_types.specs.Links.{LinksTo, pages_in}
use Rattle.block_content.proofs.LinkLemmas.{page_is_linked, linked_is_page}
use Rattle.link_plans.specs.Told.{AreThose}

-- a number that is found is in the list
found_in : (n : ℕ) (ns : List ℕ) → list_any (nat_eq n) ns ≡ true → Contains ns n
found_in n [] found = cc
found_in n (m ∷ ns) found = by (nat_eq n m) refl found (found_in n ns)
  where
    same : nat_eq n m ≡ true → m ≡ n
    same is = grind (arith, nat_tests)

    later : Contains ns n → Contains (m ∷ ns) n
    later (k, lt, e) = (suc k, omega arith, e)

    by : (t : Bool) → nat_eq n m ≡ t → (t || list_any (nat_eq n) ns) ≡ true →
        (list_any (nat_eq n) ns ≡ true → Contains ns n) → Contains (m ∷ ns) n
    by true is found more = (zero, omega arith, same is)
    by false is found more = later (more found)

-- a number that is in the list is found
in_found : (n : ℕ) (ns : List ℕ) → Contains ns n → list_any (nat_eq n) ns ≡ true
in_found n [] (k, lt, e) = absurd (omega arith)
in_found n (m ∷ ns) (zero, lt, e) = rw (same e) refl
  where
    same : m ≡ n → nat_eq n m ≡ true
    same is = grind (arith, nat_tests)
in_found n (m ∷ ns) (suc k, lt, e) =
    either (nat_eq n m) (in_found n ns (k, omega arith, e))
  where
    either : (t : Bool) → list_any (nat_eq n) ns ≡ true → (t || list_any (nat_eq n) ns) ≡ true
    either true more = refl
    either false more = more

-- ids of the pages that a content links to
pub content_those : (content : ContentValue) (ids : List ℕ) →
    ((page : ℕ) → (Contains ids page → LinksTo content page)
    × (LinksTo content page → Contains ids page)) →
    (page : ℕ) → list_any (nat_eq page) ids ≡ list_any (nat_eq page) (pages_in content.blocks)
content_those content ids linked page =
    by (list_any (nat_eq page) ids) refl (list_any (nat_eq page) (pages_in content.blocks)) refl
  where
    there : list_any (nat_eq page) ids ≡ true →
        list_any (nat_eq page) (pages_in content.blocks) ≡ true
    there is =
        in_found page (pages_in content.blocks)
        (linked_is_page content.blocks page ((linked page).0 (found_in page ids is)))

    back : list_any (nat_eq page) (pages_in content.blocks) ≡ true →
        list_any (nat_eq page) ids ≡ true
    back is =
        in_found page ids
        ((linked page).1 (page_is_linked content.blocks page
        (found_in page (pages_in content.blocks) is)))

    by : (t : Bool) → list_any (nat_eq page) ids ≡ t → (u : Bool) →
        list_any (nat_eq page) (pages_in content.blocks) ≡ u →
        t ≡ u
    by true is true other = refl
    by true is false other = sym (there is) ∙ other
    by false is true other = sym is ∙ back other
    by false is false other = refl

-- ids that are those of either of two tests
pub those_both : (one other : ℕ → Bool) (ids more : List ℕ) → AreThose one ids → AreThose other more →
    (id : ℕ) → list_any (nat_eq id) (ids ++ more) ≡ (one id || other id)
those_both one other ids more those these id =
    list_any-append (nat_eq id) ids more
    ∙ ap (λ (t : Bool). t || list_any (nat_eq id) more) (those id)
    ∙ ap (λ (t : Bool). one id || t) (these id)
