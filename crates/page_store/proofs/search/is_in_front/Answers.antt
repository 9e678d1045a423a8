-- The page's text is read from its row, and compares as its path.
use Rattle.std.proofs.Common.{◌≡◌, ℕ, nat_eq, List, Some, refl, ◌∙◌}
use Rattle.std.specs.Map.{lookup}
use Rattle.step_path.specs.Path.{steps_of, IsPathText}
use Rattle.page_store.specs.declared.stored.StoredRow.{StoredRow}
use Rattle.page_store.specs.declared.search.Front.{Front}
use Rattle.page_store.specs.declared.search.Front.TheVariants.{Before, Below}
use Rattle.page_store.specs.Search.{front_test, is_front, HaveTexts}
use Rattle.page_store.proofs.PathOrder.{is_lt-path_cmp, begins-from_test}
use Rattle.page_store.proofs.search.is_in_front.Goals as goal

-- a row that is found has the text of a path
kept : (stored : List (ℕ × StoredRow)) (id : ℕ) (page : StoredRow) (text : List ℕ) →
    HaveTexts stored → Some page ≡ lookup (nat_eq id) stored → text ≡ page.row.path →
    IsPathText text
kept stored id page text all is same = rw same (let own = all id in (rw (← is) at own).path_is)

-- the test of the row that is found is the test of the page
tested : (front : Front) (path : List ℕ) (stored : List (ℕ
    × StoredRow)) (id : ℕ) (page : StoredRow) (text : List ℕ) →
    Some page ≡ lookup (nat_eq id) stored → text ≡ page.row.path →
    front_test front path (steps_of text) ≡ is_front front path stored id
tested front path stored id page text is same = rw (← is, same) refl

pub compare_texts-requires-clause-first : goal.compare_texts-requires-clause-first
compare_texts-requires-clause-first c =
    kept _ c.args.id _ _ c.requires.texts c.in-Some.ensures.value c.as_slice-own.ensures.value

pub text_begins-requires-clause-second : goal.text_begins-requires-clause-second
text_begins-requires-clause-second c =
    kept _ c.args.id _ _ c.requires.texts c.in-Some.ensures.value c.as_slice-own.ensures.value

pub returns-in-Before : goal.returns-in-Before
returns-in-Before c =
    let path = steps_of c.args.path.now in
    let own = tested Before path _ c.args.id _ _ c.in-Some.ensures.value c.as_slice-own.ensures.value in
    rw c.in-Before.is (c.is_lt.ensures ∙ is_lt-path_cmp _ path _ c.compare_texts.ensures ∙ own)

pub returns-in-Below : goal.returns-in-Below
returns-in-Below c =
    let path = steps_of c.args.path.now in
    let own = tested Below path _ c.args.id _ _ c.in-Some.ensures.value c.as_slice-own.ensures.value in
    rw c.in-Below.is (begins-from_test path _ _ c.text_begins.ensures ∙ own)
