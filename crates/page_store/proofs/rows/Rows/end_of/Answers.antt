-- The pages below the page at the place stand first behind it.
use Rattle.std.proofs.Common.{◌≡◌, ◌∙◌, ◌+◌, ◌-◌, ◌<◌, ◌≤◌, ℕ, Bool, Some, nat_eq, List, length, take, drop, slice_get, get_or, map, sym, ap, subst, arith}
use Rattle.std.specs.Map.{lookup}
use Rattle.std.proofs.lemmas.List.{length-map}
use Rattle.step_path.specs.Path.{IsPathText}
use Rattle.page_store.specs.declared.stored.StoredRow.{StoredRow}
use Rattle.page_store.specs.PageRows.{RowList}
use Rattle.page_store.specs.Pages.{Page}
use Rattle.page_store.specs.Kept.{seen}
use Rattle.page_store.specs.Search.{HaveTexts, leading, begins}
use Rattle.page_store.proofs.RangeLemmas.{row_at, kept_is_there, slice_first, slice_count, slice_within}
use Rattle.page_store.proofs.rows.Rows.end_of.Goals as goal

-- a row that is found has the text of a path
kept_text : (stored : List (ℕ × StoredRow)) (id : ℕ) (page : StoredRow) (text : List ℕ) →
    HaveTexts stored → Some page ≡ lookup (nat_eq id) stored → text ≡ page.row.path →
    IsPathText text
kept_text stored id page text all is same = rw same (let own = all id in (rw (← is) at own).path_is)

-- a place among the pages is one among their ids
in_order : (pages : List Page) (order : List ℕ) (value : RowList) (place : ℕ) →
    pages ≡ value.pages → map (λ (r : Page). r.id) pages ≡ order → place < length value.pages →
    place < length order
in_order pages order value place seen ids within =
    let same : length order ≡ length value.pages =
    sym (ap length ids) ∙ length-map pages (λ (r : Page). r.id) ∙ ap length seen in omega arith

-- a count that stays within the ids stays within the pages
in_pages : (pages : List Page) (order xs : List ℕ) (value : RowList) (n : ℕ) → pages ≡ value.pages →
    map (λ (r : Page). r.id) pages ≡ order → xs ≡ order → n ≤ length xs → n ≤ length value.pages
in_pages pages order xs value n seen ids is within =
    let same : length xs ≡ length value.pages =
    ap length is ∙ sym (ap length ids) ∙ length-map pages (λ (r : Page). r.id) ∙ ap length seen
    in omega arith

-- what was read of a list is what the same list has
read_order : (xs order : List ℕ) (place id : ℕ) → xs ≡ order → id ≡ get_or xs place id →
    id ≡ get_or order place id
read_order xs order place id is h = subst (λ (ys : List ℕ). id ≡ get_or ys place id) is h

-- two rows at one place are one
one_row : (own row : Page) (pages : List Page) (place n : ℕ) → slice_get pages place ≡ Some own →
    slice_get pages place ≡ Some row →
    n ≡ leading (λ other. begins own.path other.path) (drop (place + 1) pages) →
    place + 1 + n ≡ place + 1 + leading (λ other. begins row.path other.path) (drop (place + 1)
    pages)
one_row own row pages place n mine theirs is =
    let same : own ≡ row = cc in
    ap (λ m. place + 1 + m) (is ∙ ap (λ (r : Page). leading (λ other. begins r.path other.path)
    (drop (place + 1) pages)) same)

pub unreachable-requires : goal.unreachable-requires
unreachable-requires c =
    let within = in_order _ _ c.args.self.now c.args.place (ap (λ (v : RowList). v.pages)
    c.self.view_is) c.self.invariant.ids c.requires in
    kept_is_there _ _ _ _ c.self.invariant c.args.place c.index-order-place.result within
    (read_order _ _ _ _ c.as_slice-order.ensures.value c.index-order-place.is)
    c.in_default.ensures.value

pub count_front-requires-clause-path : goal.count_front-requires-clause-path
count_front-requires-clause-path c =
    kept_text _ c.index-order-place.result _ _ c.self.invariant.texts c.in-Some.ensures.value
    c.as_slice-path.ensures.value

pub count_front-requires-clause-first : goal.count_front-requires-clause-first
count_front-requires-clause-first c =
    let within = in_order _ _ c.args.self.now c.args.place (ap (λ (v : RowList). v.pages)
    c.self.view_is) c.self.invariant.ids c.requires in
    let at = row_at _ _ _ _ c.self.invariant c.args.place c.index-order-place.result
    c.in-Some.page.now within (read_order _ _ _ _ c.as_slice-order.ensures.value
    c.index-order-place.is) c.in-Some.ensures.value in
    slice_first _ _ _ _ c.self.invariant c.args.place c.in-Some.page.now _ _
    c.as_slice-order.ensures.value c.as_slice-path.ensures.value at

-- the place behind the subtree is within the order
stays : (test : ℕ → Bool) (xs : List ℕ) (place n : ℕ) → place < length xs →
    n ≡ leading test (take (length xs - (place + 1)) (drop (place + 1) xs)) →
    place + 1 + n ≤ length xs
stays test xs place n within is = rw is (slice_within test xs place within)

pub returns-clause-within : goal.returns-clause-within
returns-clause-within c =
    let seen = ap (λ (v : RowList). v.pages) c.self.view_is in
    let within = in_order _ _ c.args.self.now c.args.place seen c.self.invariant.ids c.requires in
    let ids = rw (← c.as_slice-order.ensures.value) at within in
    in_pages _ _ _ c.args.self.now _ seen c.self.invariant.ids c.as_slice-order.ensures.value (stays
    _ _ _ _ ids c.count_front.ensures)

pub overflow_add-result-2 : goal.overflow_add-result-2
overflow_add-result-2 c =
    let seen = ap (λ (v : RowList). v.pages) c.self.view_is in
    let within = in_order _ _ c.args.self.now c.args.place seen c.self.invariant.ids c.requires in
    let ids = rw (← c.as_slice-order.ensures.value) at within in
    let end = stays _ _ _ _ ids c.count_front.ensures in
    omega (arith, c.as_slice-order.type_inv)

pub returns-clause-end : goal.returns-clause-end
returns-clause-end c =
    let within = in_order _ _ c.args.self.now c.args.place (ap (λ (v : RowList). v.pages)
    c.self.view_is) c.self.invariant.ids c.requires in
    let at = row_at _ _ _ _ c.self.invariant c.args.place c.index-order-place.result
    c.in-Some.page.now within (read_order _ _ _ _ c.as_slice-order.ensures.value
    c.index-order-place.is) c.in-Some.ensures.value in
    let count = slice_count _ _ _ _ c.self.invariant c.args.place c.in-Some.page.now _ _
    c.as_slice-order.ensures.value c.as_slice-path.ensures.value in
    subst (λ (v : RowList). (row : Page) → slice_get v.pages c.args.place ≡ Some row →
    c.args.place + 1 + c.count_front.result ≡ c.args.place + 1 + leading (λ (other : Page).
    begins row.path other.path) (drop (c.args.place + 1) v.pages)) c.self.view_is
    (λ row there. one_row (seen c.in-Some.page.now) row _ c.args.place c.count_front.result at there
    (c.count_front.ensures ∙ count))
