-- Which paths change from some rows to later ones, and how deep a tree is by its rows.
use Rattle.std.proofs.Common.{◌≡◌, ℕ, ◌+◌, ◌≤◌, Bool, true, false, not, List, [], ◌∷◌, ◌++◌, Option, Some, unwrap_or, map, filter, length, refl, ap, sym, ◌∙◌, arith, length-append}
use Rattle.std.specs.List.{AllByRecursion}
use Rattle.std.specs.Option.{option_map}
use Rattle.std.specs.Str.{bytes_eq}
use Rattle.std.proofs.lemmas.List.{append-nil, map-append, length_push}
use Rattle.std.proofs.lemmas.List.Elements.{filter-append}
use Rattle.page_tree.specs.Tree.{Forest, bare, grown}
use Rattle.page_tree.specs.Rows.{child_url, row_with, rows_below}
use Rattle.step_path.specs.Path.{BeginsWith, relabelled}
use Rattle.step_path.proofs.PathLemmas.{relabelled-append}
use Rattle.site_types.specs.declared.body.Body.{Body}
use Rattle.tree_model.specs.Changes.{path_in, changed_paths}
use Rattle.tree_model.specs.Limits.{height}
use Rattle.page_store.specs.Pages.{Page, EachPair, HasOtherId}
use Rattle.page_store.proofs.AllLemmas.{All-append, All-weaker, All-both, All-map}
use Rattle.page_store.proofs.InsertLemmas.{bytes_eq-self, same_bytes}
use Rattle.page_store.proofs.SeenLemmas.{found_by_own_id}
use Rattle.tree_rows.specs.Cuts.{moved_rows, relabel_row, raise_row, raised_path}
use Rattle.path_moves.specs.Spots.{moved_pair, raised_pair}
use Rattle.tree_rows.proofs.Lists.{all_parts, filter_all, filter_none}
use Rattle.tree_rows.proofs.Paths.{GoesOn}
use Rattle.path_moves.proofs.GraftLemmas.{raised_path-changes}
use Rattle.path_moves.proofs.RelabelLemmas.{pair_of}
use Rattle.path_moves.proofs.Remaining.{same_parts}

-- a row has the path that its page has among these rows
abbrev pub Known : List Page → Page → Type 0
Known before row = path_in row.id before ≡ row.path

-- so has each of them
pub known_all : (pages : List Page) → EachPair HasOtherId pages →
    AllByRecursion (Known pages) pages
known_all pages own =
    All-weaker (λ (row : Page). row_with row.id pages ≡ Some row) (Known pages)
    (λ (row : Page) e. ap (λ (o : Option Page). unwrap_or (option_map (λ (r : Page). r.path) o) [])
    e) pages (found_by_own_id pages own)

-- changes of two lists
pub changed_append : (before xs ys : List Page) →
    changed_paths before (xs ++ ys) ≡ changed_paths before xs ++ changed_paths before ys
changed_append before xs ys =
    ap (map pair_of) (filter-append (λ (row : Page). not (bytes_eq (path_in row.id before) row.path))
    xs ys)
    ∙ map-append pair_of
    (filter (λ (row : Page). not (bytes_eq (path_in row.id before) row.path)) xs)
    (filter (λ (row : Page). not (bytes_eq (path_in row.id before) row.path)) ys)

-- nothing changes where each path is known
pub changed_none : (before xs : List Page) → AllByRecursion (Known before) xs →
    changed_paths before xs ≡ []
changed_none before xs all =
    ap (map pair_of)
    (filter_none (λ (row : Page). not (bytes_eq (path_in row.id before) row.path)) xs
    (All-weaker (Known before)
    (λ (row : Page). not (bytes_eq (path_in row.id before) row.path) ≡ false)
    (λ (row : Page) e. ap (λ p. not (bytes_eq p row.path)) e ∙ ap not (bytes_eq-self row.path)) xs
    all))

-- each changes where none is
pub changed_all : (before xs : List Page) →
    AllByRecursion (λ (row : Page). Known before row → ⊥) xs →
    changed_paths before xs ≡ map pair_of xs
changed_all before xs all =
    ap (map pair_of)
    (filter_all (λ (row : Page). not (bytes_eq (path_in row.id before) row.path)) xs
    (All-weaker (λ (row : Page). Known before row → ⊥)
    (λ (row : Page). not (bytes_eq (path_in row.id before) row.path) ≡ true)
    (λ (row : Page) other. differs row other) xs all))
  where
    differs : (row : Page) → (Known before row → ⊥) →
        not (bytes_eq (path_in row.id before) row.path) ≡ true
    differs row other = by (bytes_eq (path_in row.id before) row.path) refl
      where
        by : (t : Bool) → bytes_eq (path_in row.id before) row.path ≡ t → not t ≡ true
        by true e = absurd (other (same_bytes (path_in row.id before) row.path e))
        by false e = refl

-- the same end can be taken away
append_cancel : (xs ys zs : List ℕ) → xs ++ zs ≡ ys ++ zs → xs ≡ ys
append_cancel xs ys zs same =
    let long = ap length same in
    let long_xs = length-append xs zs in
    let long_ys = length-append ys zs in
    (same_parts xs zs ys zs (omega arith) same).0

-- the old beginning itself is replaced by the new one
pub relabelled-self : (old new : List ℕ) → relabelled old new old ≡ new
relabelled-self old new =
    ap (relabelled old new) (sym (append-nil old)) ∙ (relabelled-append old new [] ∙ append-nil new)

-- a path keeps its replaced beginning only where the two are one
relabelled-changes : (old new path : List ℕ) → BeginsWith old path → (new ≡ old → ⊥) →
    path ≡ relabelled old new path → ⊥
relabelled-changes old new path on other same =
    other (sym (append_cancel old new on.0
    (on.1 ∙ (same ∙ (ap (relabelled old new) (sym on.1) ∙ relabelled-append old new on.0)))))

-- with the same beginning it stays
pub relabelled-same : (old new path : List ℕ) → BeginsWith old path → new ≡ old →
    relabelled old new path ≡ path
relabelled-same old new path on same =
    ap (relabelled old new) (sym on.1) ∙ (relabelled-append old new on.0
    ∙ (ap (λ xs. xs ++ on.0) same ∙ on.1))

-- moved rows as pairs
pub moved_pairs : (parent : ℕ) (path url : List ℕ) (top : Page) (rows : List Page) →
    map pair_of (moved_rows parent path url (top ∷ rows))
    ≡ map (moved_pair top.path path) (top ∷ rows)
moved_pairs parent path url top rows =
    ap (λ p. (top.id, p) ∷ map pair_of (map (relabel_row top.path path top.url url) rows))
    (sym (relabelled-self top.path path))
    ∙ ap (λ ps. moved_pair top.path path top ∷ ps) (later rows)
  where
    later : (rows : List Page) → map pair_of (map (relabel_row top.path path top.url url) rows)
        ≡ map (moved_pair top.path path) rows
    later [] = refl
    later (row ∷ rows) = ap (λ ps. moved_pair top.path path row ∷ ps) (later rows)

-- each of them changes where the page takes another path
pub moved_changed : (before : List Page) (parent : ℕ) (path url : List ℕ) (top : Page)
    (rows : List Page) → (path ≡ top.path → ⊥) →
    AllByRecursion (Known before) (top ∷ rows) →
    AllByRecursion (λ (row : Page). BeginsWith top.path row.path) rows →
    changed_paths before (moved_rows parent path url (top ∷ rows))
    ≡ map (moved_pair top.path path) (top ∷ rows)
moved_changed before parent path url top rows other known on =
    changed_all before (moved_rows parent path url (top ∷ rows)) (
      (λ own. other (sym own ∙ known.0)),
      All-map (λ (row : Page). Known before row → ⊥) (relabel_row top.path path top.url url) rows
          (All-both (Known before) (λ (row : Page). BeginsWith top.path row.path)
          (λ (row : Page). Known before (relabel_row top.path path top.url url row) → ⊥)
          (λ (row : Page) e begins own. relabelled-changes top.path path row.path begins other
          (sym e ∙ own)) rows known.1 on),
    ) ∙ moved_pairs parent path url top rows

-- none changes where it keeps its own
pub moved_same : (before : List Page) (parent : ℕ) (path url : List ℕ) (top : Page)
    (rows : List Page) → path ≡ top.path →
    AllByRecursion (Known before) (top ∷ rows) →
    AllByRecursion (λ (row : Page). BeginsWith top.path row.path) rows →
    changed_paths before (moved_rows parent path url (top ∷ rows)) ≡ []
moved_same before parent path url top rows same known on =
    changed_none before (moved_rows parent path url (top ∷ rows)) (
      known.0 ∙ sym same,
      All-map (Known before) (relabel_row top.path path top.url url) rows
          (All-both (Known before) (λ (row : Page). BeginsWith top.path row.path)
          (λ (row : Page). Known before (relabel_row top.path path top.url url row))
          (λ (row : Page) e begins. e ∙ sym (relabelled-same top.path path row.path begins same))
          rows known.1 on),
    )

module _ (before : List Page) (f : Page → Page) (keeps : (row : Page) →
    ((f row).id ≡ row.id) × ((f row).path ≡ row.path)) where
  -- a row with the id and the path of a known one
  known_map : (row : Page) → Known before row → Known before (f row)
  known_map row e = ap (λ id. path_in id before) (keeps row).0 ∙ (e ∙ sym (keeps row).1)

  -- nothing changes of such rows
  pub changed_kept : (xs : List Page) → AllByRecursion (Known before) xs →
      changed_paths before (map f xs) ≡ []
  changed_kept xs all =
      changed_none before (map f xs) (All-map (Known before) f xs
      (All-weaker (Known before) (λ (row : Page). Known before (f row)) known_map xs all))

  -- each changes where its step is raised
  pub changed_raised : (above : List ℕ) (last : ℕ) (xs : List Page) →
      AllByRecursion (Known before) xs →
      AllByRecursion (λ (row : Page). GoesOn above 0 last row.path) xs →
      changed_paths before (map (raise_row (length above)) (map f xs))
      ≡ map (raised_pair (length above)) xs
  changed_raised above last xs all on =
      changed_all before (map (raise_row (length above)) (map f xs))
      (All-map (λ (row : Page). Known before row → ⊥) (raise_row (length above)) (map f xs)
      (All-map (λ (row : Page). Known before (raise_row (length above) row) → ⊥) f xs
      (All-both (Known before) (λ (row : Page). GoesOn above 0 last row.path)
      (λ (row : Page). Known before (raise_row (length above) (f row)) → ⊥) changes xs all on)))
      ∙ pairs xs
    where
      changes : (row : Page) → Known before row → GoesOn above 0 last row.path →
          Known before (raise_row (length above) (f row)) → ⊥
      changes row e on own =
          raised_path-changes above on.more on.step
          (ap (raised_path (length above)) (sym on.is)
          ∙ (ap (raised_path (length above)) (sym (keeps row).1)
          ∙ (sym own ∙ (ap (λ id. path_in id before) (keeps row).0 ∙ (e ∙ on.is)))))

      pairs : (xs : List Page) → map pair_of (map (raise_row (length above)) (map f xs))
          ≡ map (raised_pair (length above)) xs
      pairs [] = refl
      pairs (row ∷ xs) =
          ap (λ id. (id, raised_path (length above) (f row).path)
          ∷ map pair_of (map (raise_row (length above)) (map f xs))) (keeps row).0
          ∙ (ap (λ path. (row.id, raised_path (length above) path)
          ∷ map pair_of (map (raise_row (length above)) (map f xs))) (keeps row).1
          ∙ ap (λ ps. raised_pair (length above) row ∷ ps) (pairs xs))

-- each row of a tree has at most so many steps where the tree is no deeper
pub short_rows : (most : ℕ) (parent : Option ℕ) (path url : List ℕ) (f : Forest Body) →
    height f + length path ≤ most →
    AllByRecursion (λ (row : Page). length row.path ≤ most) (rows_below parent path url f)
short_rows most parent path url bare high = tt
short_rows most parent path url (grown i s slug body kids rest) high =
    let long = length_push path s in (
      omega arith,
      All-append _ _ _
          (short_rows most (Some i) (path ++ s ∷ []) (child_url url slug) kids (omega arith))
          (short_rows most parent path url rest (omega arith)),
    )

-- and the other way round
pub short_height : (most : ℕ) (parent : Option ℕ) (path url : List ℕ) (f : Forest Body) →
    length path ≤ most →
    AllByRecursion (λ (row : Page). length row.path ≤ most) (rows_below parent path url f) →
    height f + length path ≤ most
short_height most parent path url bare short all = omega arith
short_height most parent path url (grown i s slug body kids rest) short all =
    let long = length_push path s in
    let parts = all_parts (λ (row : Page). length row.path ≤ most) _ _ all.1 in
    let first = all.0 in
    let below = short_height most (Some i) (path ++ s ∷ []) (child_url url slug) kids first parts.0
    in
    let after = short_height most parent path url rest short parts.1 in
    omega arith
