-- Lists of what changes from some rows to others, looked up page by page.
use Rattle.std.proofs.Common.{◌≡◌, ℕ, Bool, true, false, not, cond, nat_eq, List, [], ◌∷◌, None, map, filter, unwrap_or, refl, sym, arith}
use Rattle.std.specs.List.{AllByRecursion, IsDistinct}
use Rattle.std.specs.Map.{lookup}
use Rattle.std.specs.Str.{bytes_eq}
use Rattle.std.proofs.lemmas.Bool.Decides.{nat_tests}
use Rattle.tree_model.specs.Changes.{url_in, changed_urls, with_url, with_urls}
use Rattle.page_store.specs.Pages.{Page, EachPair, HasOtherId}
use Rattle.page_store.proofs.AllLemmas.{All-both}
use Rattle.page_store.proofs.InsertLemmas.{same_bytes}

-- a row's own id is its id
own_id : (i : ℕ) → nat_eq i i ≡ true
own_id i = grind (arith, nat_tests)

-- ids that differ are told apart
other_key : (i j : ℕ) → (j ≡ i → ⊥) → nat_eq j i ≡ false
other_key i j differ = grind (arith, nat_tests)

module _ (old : ℕ → List ℕ) (new : Page → List ℕ) where
  -- the rows where the new text is another than the old one, each id with the new one
  abbrev pub changes : List Page → List (ℕ × List ℕ)
  changes rows =
      map (λ row. (row.id, new row))
      (filter (λ row. not (bytes_eq (old row.id) (new row))) rows)

  -- a page with no row has no change
  changes-absent : (id : ℕ) (rows : List Page) →
      AllByRecursion (λ (row : Page). row.id ≡ id → ⊥) rows →
      lookup (nat_eq id) (changes rows) ≡ None
  changes-absent id [] absent = refl
  changes-absent id (row ∷ rows) absent =
      by (not (bytes_eq (old row.id) (new row))) (changes-absent id rows absent.1)
    where
      by : (t : Bool) → lookup (nat_eq id) (changes rows) ≡ None →
          lookup (nat_eq id) (map (λ (r : Page). (r.id, new r)) (cond t (row ∷ filter
          (λ r. not (bytes_eq (old r.id) (new r))) rows) (filter
          (λ r. not (bytes_eq (old r.id) (new r))) rows))) ≡ None
      by true more = let differs = other_key row.id id (λ e. absent.0 (sym e)) in rw differs more
      by false more = more

  -- each page has its new text, which is listed for it or is its old one
  pub changes-told : (rows : List Page) → EachPair HasOtherId rows →
      AllByRecursion (λ (row : Page). unwrap_or (lookup (nat_eq row.id) (changes rows)) (old row.id)
      ≡ new row) rows
  changes-told [] own = tt
  changes-told (row ∷ rows) own = (
    head (not (bytes_eq (old row.id) (new row))) refl,
    All-both (HasOtherId row) (λ later. unwrap_or (lookup (nat_eq later.id) (changes rows))
        (old later.id) ≡ new later)
        (λ later. unwrap_or (lookup (nat_eq later.id) (changes (row ∷ rows))) (old later.id)
        ≡ new later)
        (λ later differ more. tail later differ more (not (bytes_eq (old row.id) (new row))))
        rows own.0 (changes-told rows own.1),
  )
    where
      others : List Page
      others = filter (λ r. not (bytes_eq (old r.id) (new r))) rows

      same_text : (t : Bool) → bytes_eq (old row.id) (new row) ≡ t → not t ≡ false →
          old row.id ≡ new row
      same_text true e fails = same_bytes (old row.id) (new row) e
      same_text false e fails = absurd cc

      head : (t : Bool) → not (bytes_eq (old row.id) (new row)) ≡ t →
          unwrap_or (lookup (nat_eq row.id) (map (λ (r : Page). (r.id, new r))
          (cond t (row ∷ filter (λ r. not (bytes_eq (old r.id) (new r))) rows)
          (filter (λ r. not (bytes_eq (old r.id) (new r))) rows)))) (old row.id) ≡ new row
      head true e = rw (own_id row.id) refl
      head false e =
          let none = changes-absent row.id rows own.0 in
          rw none (same_text (bytes_eq (old row.id) (new row)) refl e)

      tail : (later : Page) → HasOtherId row later →
          unwrap_or (lookup (nat_eq later.id) (changes rows)) (old later.id) ≡ new later →
          (t : Bool) →
          unwrap_or (lookup (nat_eq later.id) (map (λ (r : Page). (r.id, new r))
          (cond t (row ∷ filter (λ r. not (bytes_eq (old r.id) (new r))) rows)
          (filter (λ r. not (bytes_eq (old r.id) (new r))) rows)))) (old later.id) ≡ new later
      tail later differ more true =
          let differs = other_key row.id later.id differ in rw differs more
      tail later differ more false = more

-- with the URLs that change, the later rows are as they are
pub urls_complete : (before after : List Page) → EachPair HasOtherId after →
    with_urls (changed_urls before after) before after ≡ after
urls_complete before after own =
    each after (changes-told (λ id. url_in id before) (λ row. row.url) after own)
  where
    each : (rows : List Page) →
        AllByRecursion (λ (row : Page). unwrap_or (lookup (nat_eq row.id)
        (changed_urls before after)) (url_in row.id before) ≡ row.url) rows →
        map (λ row. with_url (unwrap_or (lookup (nat_eq row.id) (changed_urls before after))
        (url_in row.id before)) row) rows ≡ rows
    each [] told = refl
    each (row ∷ rows) told = rw (told.0, each rows told.1) refl

-- distinct ids differ, row by row
ids_differ : (rows : List Page) → IsDistinct nat_eq (map (λ (row : Page). row.id) rows) →
    EachPair HasOtherId rows
unfolding IsDistinct
ids_differ [] distinct = tt
ids_differ (row ∷ rows) distinct = (others rows distinct.0, ids_differ rows distinct.1)
  where
    differ : (later : Page) → nat_eq row.id later.id ≡ false → HasOtherId row later
    differ later apart e = grind (arith, nat_tests)

    others : (rest : List Page) →
        AllByRecursion (λ id. nat_eq row.id id ≡ false) (map (λ (r : Page). r.id) rest) →
        AllByRecursion (HasOtherId row) rest
    others [] all = tt
    others (later ∷ rest) all = (differ later all.0, others rest all.1)

-- so they are where the ids are distinct
pub distinct_complete : (before after : List Page) →
    IsDistinct nat_eq (map (λ (row : Page). row.id) after) →
    with_urls (changed_urls before after) before after ≡ after
distinct_complete before after distinct = urls_complete before after (ids_differ after distinct)
