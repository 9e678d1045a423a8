-- Lists of pages with the paths that they get, as far as the rows go.
use Rattle.std.proofs.Common.{◌≡◌, ℕ, suc, ◌+◌, ◌<◌, ◌≤◌, Bool, true, false, not, List, [], ◌∷◌, ◌++◌, Option, Some, None, IsSome, map, length, take, drop, slice_get, refl, ap, sym, ◌∙◌, subst, arith, append_assoc, length-append, add-one, rules}
use Rattle.std.specs.List.{AllByRecursion}
use Rattle.std.specs.Option.{option_map, SomeIff, IfSome}
use Rattle.std.specs.Prelude.{◌↔◌, IsTrue}
use Rattle.std.proofs.lemmas.List.{append-nil, map-append, drop_at}
use Rattle.std.proofs.lemmas.List.Elements.{filter-append}
use Rattle.page_tree.specs.Rows.{row_with}
use Rattle.step_path.specs.declared.path.TheConstants.{MAX_DEPTH}
use Rattle.step_path.specs.declared.step.TheConstants.{LAST_STEP}
use Rattle.step_path.specs.Path.{BeginsWith, relabelled}
use Rattle.page_store.specs.PageRows.{IsRange}
use Rattle.page_store.specs.Pages.{Page, ArePages}
use Rattle.page_store.specs.Search.{begins}
use Rattle.page_store.proofs.AllLemmas.{All-append}
use Rattle.page_store.proofs.PathOrder.{begins-from_test}
use Rattle.page_store.proofs.RangeLemmas.{All-at}
use Rattle.page_store.proofs.WindowLemmas.{there_is}
use Rattle.tree_rows.specs.Cuts.{other_rows, raised_path}
use Rattle.path_moves.specs.Spots.{rows_between, moved_pair, raised_pair, FitBelow, GoesUp}
use Rattle.tree_rows.proofs.Lists.{all_parts, slice_get-drop, slice_get-window, slice_get-append}
use Rattle.path_moves.proofs.GraftLemmas.{raised_path-append}
use Rattle.tree_rows.proofs.SubtreeLemmas.{found_at_place, range_some}
use Rattle.path_moves.proofs.Windows.{between, between_split, between_next, between_last, take_last}

-- a page with its path
abbrev pub pair_of : Page → ℕ × List ℕ
pair_of row = (row.id, row.path)

-- the path of a page at a place, found by its id
pub path_at : (pages : List Page) (place id : ℕ) (path : Option (List ℕ)) → ArePages pages →
    Some id ≡ option_map (λ (row : Page). row.id) (slice_get pages place) →
    path ≡ option_map (λ (row : Page). row.path) (row_with id pages) →
    (row : Page) × (slice_get pages place ≡ Some row) × (id ≡ row.id) × (path ≡ Some row.path)
path_at pages place id path are is found = by (slice_get pages place) refl is
  where
    by : (o : Option Page) → slice_get pages place ≡ o →
        Some id ≡ option_map (λ (row : Page). row.id) o →
        (row : Page) × (slice_get pages place ≡ Some row) × (id ≡ row.id)
        × (path ≡ Some row.path)
    by None at is = absurd cc
    by (Some row) at is =
        let same : id ≡ row.id = cc in
        let own = found_at_place pages place row are at in
        let one : path ≡ Some row.path = found
        ∙ (ap (λ i. option_map (λ (r : Page). r.path) (row_with i pages)) same
        ∙ ap (option_map (λ (r : Page). r.path)) own) in
        (row, at, same, one)

-- the row that was read at a place
pub row_is : (pages : List Page) (place : ℕ) (pair : ℕ × List ℕ) →
    Some pair ≡ option_map pair_of (slice_get pages place) →
    (row : Page) × (slice_get pages place ≡ Some row) × (pair ≡ (row.id, row.path))
row_is pages place pair is = by (slice_get pages place) refl is
  where
    by : (o : Option Page) → slice_get pages place ≡ o →
        Some pair ≡ option_map pair_of o →
        (row : Page) × (slice_get pages place ≡ Some row) × (pair ≡ (row.id, row.path))
    by None at is = absurd cc
    by (Some row) at is = (row, at, (let same : pair ≡ (row.id, row.path) = cc in same))

-- there is a row at each place within the list
pub row_there : (pages : List Page) (place : ℕ) → place < length pages →
    None ≡ option_map pair_of (slice_get pages place) → ⊥
row_there pages place within none =
    let one = there_is pages place within in
    let never = rw one.1 at none in cc

-- what holds of each row of a range holds of the one that was read
pub holds_in_range : (P : Page → Type 0) (pages : List Page) (place count done : ℕ) (row : Page) →
    AllByRecursion P (take count (drop place pages)) → done < count →
    slice_get pages (place + done) ≡ Some row → P row
holds_in_range P pages place count done row all low at =
    All-at P done (take count (drop place pages)) row all
    (slice_get-window pages place count done low ∙ at)

-- the pages so far with one more
pub moved_more : (pages : List Page) (place done : ℕ) (old new : List ℕ)
    (start before items : List (ℕ × List ℕ)) (pair : ℕ × List ℕ) (path : List ℕ) →
    before ≡ start ++ map (moved_pair old new) (take done (drop place pages)) →
    Some pair ≡ option_map pair_of
    (slice_get pages (place + done)) →
    path ≡ relabelled old new pair.1 → items ≡ before ++ (pair.0, path) ∷ [] →
    items ≡ start ++ map (moved_pair old new) (take (done + 1) (drop place pages))
moved_more pages place done old new start before items pair path so_far found path_is is =
    let row = row_is pages (place + done) pair found in
    let here : slice_get (drop place pages) done ≡ Some row.0 =
    slice_get-drop pages place done (place + done) refl ∙ row.1 in
    let one : (pair.0, path) ≡ moved_pair old new row.0 =
    ap (λ p. (pair.0, p)) path_is
    ∙ ap (λ (q : ℕ × List ℕ). (q.0, relabelled old new q.1)) row.2 in
    is ∙ (ap (λ xs. xs ++ (pair.0, path) ∷ []) so_far
    ∙ (ap (λ x. (start ++ map (moved_pair old new) (take done (drop place pages))) ++ x ∷ []) one
    ∙ (append_assoc start (map (moved_pair old new) (take done (drop place pages)))
    (moved_pair old new row.0 ∷ [])
    ∙ ap (λ xs. start ++ xs) (sym (map-append (moved_pair old new) (take done (drop place pages))
    (row.0 ∷ []))
    ∙ ap (map (moved_pair old new)) (sym (take_last done (drop place pages) row.0 here)
    ∙ ap (λ n. take n (drop place pages)) (sym (add-one done)))))))

-- and each has a path
pub fits_more : (pages : List Page) (place done : ℕ) (old new : List ℕ) (pair : ℕ × List ℕ) →
    FitBelow old new (take done (drop place pages)) →
    Some pair ≡ option_map pair_of
    (slice_get pages (place + done)) →
    length (relabelled old new pair.1) ≤ 63 →
    FitBelow old new (take (done + 1) (drop place pages))
fits_more pages place done old new pair so_far found short =
    let row = row_is pages (place + done) pair found in
    let here : slice_get (drop place pages) done ≡ Some row.0 =
    slice_get-drop pages place done (place + done) refl ∙ row.1 in
    let own = subst (λ (q : ℕ × List ℕ). length (relabelled old new q.1) ≤ 63) row.2 short in
    let all = All-append (λ (r : Page). length (relabelled old new r.path) ≤ 63)
    (take done (drop place pages)) (row.0 ∷ []) so_far (own, tt) in
    subst (FitBelow old new) (sym (take_last done (drop place pages) row.0 here)
    ∙ ap (λ n. take n (drop place pages)) (sym (add-one done))) all

-- what holds of each row between two places that does not move holds of one of them
pub holds_between : (P : Page → Type 0) (pages : List Page) (own : List ℕ) (from end place : ℕ)
    (row : Page) → AllByRecursion P (other_rows own (rows_between from end pages)) →
    from ≤ place → place < end → slice_get pages place ≡ Some row →
    begins own row.path ≡ false → P row
holds_between P pages own from end place row all low high at out =
    let test : Page → Bool = λ r. not (begins own r.path) in
    let parts = filter-append (λ (r : Page). not (begins own r.path)) (between from place pages)
    (between place end pages) in
    let late = (all_parts P _ _ (subst (AllByRecursion P)
    (ap (other_rows own) (between_split from place end pages low (omega arith)) ∙ parts) all)).1 in
    let one : other_rows own (row ∷ between (suc place) end pages)
    ≡ row ∷ other_rows own (between (suc place) end pages) = rw out refl in
    (subst (AllByRecursion P) (ap (other_rows own) (between_next place end pages row at high) ∙ one)
    late).0

-- the rows between two places that do not move, with one more that does not
pub raised_more : (pages : List Page) (from place depth : ℕ) (own : List ℕ)
    (start before items : List (ℕ × List ℕ)) (pair : ℕ × List ℕ) (path : List ℕ) →
    before ≡ start ++ map (raised_pair depth) (other_rows own (rows_between from place pages)) →
    from ≤ place →
    Some pair ≡ option_map pair_of (slice_get pages place) →
    begins own pair.1 ≡ false → path ≡ raised_path depth pair.1 →
    items ≡ before ++ (pair.0, path) ∷ [] →
    items ≡ start ++ map (raised_pair depth) (other_rows own (rows_between from (place + 1) pages))
raised_more pages from place depth own start before items pair path so_far low found out path_is
    is =
    let row = row_is pages place pair found in
    let one : (pair.0, path) ≡ raised_pair depth row.0 =
    ap (λ p. (pair.0, p)) path_is
    ∙ ap (λ (q : ℕ × List ℕ). (q.0, raised_path depth q.1)) row.2 in
    let fails : begins own row.0.path ≡ false =
    ap (λ (q : ℕ × List ℕ). begins own q.1) (sym row.2) ∙ out in
    let kept : other_rows own (row.0 ∷ []) ≡ row.0 ∷ [] = rw fails refl in
    let rows = other_rows own (rows_between from place pages) in
    is ∙ (ap (λ xs. xs ++ (pair.0, path) ∷ []) so_far
    ∙ (ap (λ x. (start ++ map (raised_pair depth) rows) ++ x ∷ []) one
    ∙ (append_assoc start (map (raised_pair depth) rows) (raised_pair depth row.0 ∷ [])
    ∙ ap (λ xs. start ++ xs) (sym (map-append (raised_pair depth) rows (row.0 ∷ []))
    ∙ ap (map (raised_pair depth)) (ap (λ xs. rows ++ xs) (sym kept)
    ∙ (sym (filter-append (λ (r : Page). not (begins own r.path)) (rows_between from place pages)
    (row.0 ∷ []))
    ∙ (ap (other_rows own) (sym (between_last from place pages row.0 row.1 low))
    ∙ ap (λ n. other_rows own (rows_between from n pages)) (sym (add-one place)))))))))

-- and with one more that moves
pub raised_same : (pages : List Page) (from place depth : ℕ) (own : List ℕ)
    (start items : List (ℕ × List ℕ)) (pair : ℕ × List ℕ) →
    items ≡ start ++ map (raised_pair depth) (other_rows own (rows_between from place pages)) →
    from ≤ place →
    Some pair ≡ option_map pair_of (slice_get pages place) →
    begins own pair.1 ≡ true →
    items ≡ start ++ map (raised_pair depth) (other_rows own (rows_between from (place + 1) pages))
raised_same pages from place depth own start items pair so_far low found on =
    let row = row_is pages place pair found in
    let passes : begins own row.0.path ≡ true =
    ap (λ (q : ℕ × List ℕ). begins own q.1) (sym row.2) ∙ on in
    let none : other_rows own (row.0 ∷ []) ≡ [] = rw passes refl in
    let rows = other_rows own (rows_between from place pages) in
    so_far ∙ ap (λ xs. start ++ map (raised_pair depth) xs)
    (sym (append-nil rows) ∙ (ap (λ xs. rows ++ xs) (sym none)
    ∙ (sym (filter-append (λ (r : Page). not (begins own r.path)) (rows_between from place pages)
    (row.0 ∷ []))
    ∙ (ap (other_rows own) (sym (between_last from place pages row.0 row.1 low))
    ∙ ap (λ n. other_rows own (rows_between from n pages)) (sym (add-one place))))))

-- a path that begins with another and goes on by a step begins with both together
pub begins_more : (above path : List ℕ) (step : ℕ) → BeginsWith above path →
    Some step ≡ slice_get path (length above) → BeginsWith (above ++ step ∷ []) path
begins_more above path step (rest, is) at =
    by rest is (ap (λ p. slice_get p (length above)) is ∙ sym at)
  where
    by : (rest : List ℕ) → above ++ rest ≡ path →
        slice_get (above ++ rest) (length above) ≡ Some step → BeginsWith (above ++ step ∷ []) path
    by [] is at =
        let none = rw (append-nil above) at at in absurd (past above none)
      where
        past : (xs : List ℕ) → slice_get xs (length xs) ≡ Some step → ⊥
        past [] at = cc
        past (x ∷ xs) at = past xs at
    by (s ∷ rest) is at =
        let found = slice_get-append above rest s in
        let same : s ≡ step = cc in (
          rest,
          append_assoc above (step ∷ []) rest
              ∙ (ap (λ t. above ++ t ∷ rest) (sym same) ∙ is),
        )

-- the next step in place of a step is that step raised
pub relabelled-raised : (above path more : List ℕ) (step : ℕ) → path ≡ above ++ step ∷ more →
    relabelled (above ++ step ∷ []) (above ++ (step + 1) ∷ []) path
    ≡ raised_path (length above) path
relabelled-raised above path more step is =
    let split : path ≡ (above ++ step ∷ []) ++ more = is ∙ sym (append_assoc above (step ∷ []) more)
    in
    ap (λ p. (above ++ (step + 1) ∷ []) ++ drop (length (above ++ step ∷ [])) p) split
    ∙ (ap (λ xs. (above ++ (step + 1) ∷ []) ++ xs)
    (drop_at (above ++ step ∷ []) more (length (above ++ step ∷ [])) refl)
    ∙ (append_assoc above ((step + 1) ∷ []) more
    ∙ (sym (raised_path-append above more step) ∙ ap (raised_path (length above)) (sym is))))

-- the step that was read is that of the path
pub step_read : (above path more : List ℕ) (step read : ℕ) → path ≡ above ++ step ∷ more →
    Some read ≡ slice_get path (length above) → read ≡ step
step_read above path more step read is at =
    let found = ap (λ p. slice_get p (length above)) is ∙ slice_get-append above more step in cc

-- the path with its step raised is what the replaced beginning gives
pub raised_value : (above path old new : List ℕ) (read next : ℕ) (result : Option (List ℕ)) →
    BeginsWith old path → next ≡ read + 1 → old ≡ above ++ read ∷ [] → new ≡ above ++ next ∷ [] →
    SomeIff result (length (relabelled old new path) ≤ MAX_DEPTH) (relabelled old new path) →
    IfSome result (λ higher. higher ≡ raised_path (length above) path)
raised_value above path old new read next None on next_is old_is new_is made = tt
raised_value above path old new read next (Some higher) on next_is old_is new_is made =
    let split : path ≡ above ++ read ∷ on.0 =
    sym on.1 ∙ (ap (λ xs. xs ++ on.0) old_is ∙ append_assoc above (read ∷ []) on.0) in
    let moved : relabelled old new path ≡ raised_path (length above) path =
    rw (old_is, new_is, next_is) (relabelled-raised above path on.0 read split) in
    made.1 ∙ moved

-- and it is as long
pub raised_there : (above path old new : List ℕ) (read next : ℕ) (result : Option (List ℕ)) →
    length path ≤ MAX_DEPTH → BeginsWith old path → next ≡ read + 1 → old ≡ above ++ read ∷ [] →
    new ≡ above ++ next ∷ [] →
    SomeIff result (length (relabelled old new path) ≤ MAX_DEPTH) (relabelled old new path) →
    IsSome result
raised_there above path old new read next None short on next_is old_is new_is made =
    let split : path ≡ above ++ read ∷ on.0 =
    sym on.1 ∙ (ap (λ xs. xs ++ on.0) old_is ∙ append_assoc above (read ∷ []) on.0) in
    let moved : relabelled old new path ≡ raised_path (length above) path =
    rw (old_is, new_is, next_is) (relabelled-raised above path on.0 read split) in
    let raised : raised_path (length above) path ≡ above ++ (read + 1) ∷ on.0 =
    ap (raised_path (length above)) split ∙ raised_path-append above on.0 read in
    let long = length-append above (read ∷ on.0) in
    let long_raised = length-append above ((read + 1) ∷ on.0) in
    let own = ap length split in
    let fits : length (relabelled old new path) ≤ MAX_DEPTH = rw (moved, raised) (omega arith) in
    absurd (made fits)
raised_there above path old new read next (Some higher) short on next_is old_is new_is made =
    refl

-- there is a step to raise
pub step_there : (above path : List ℕ) → GoesUp above path →
    None ≡ slice_get path (length above) → ⊥
step_there above path up none =
    let found = ap (λ p. slice_get p (length above)) up.is
    ∙ slice_get-append above up.more up.step in
    let never : None ≡ Some up.step = none ∙ found in cc

-- and it is below the greatest
pub step_below : (above path : List ℕ) (read : ℕ) → GoesUp above path →
    Some read ≡ slice_get path (length above) → read < LAST_STEP
step_below above path read up at =
    let same = step_read above path up.more up.step read up.is at in
    let early = up.early in omega arith

-- the path above has room for a step
pub room_above : (above path : List ℕ) → GoesUp above path → length path ≤ MAX_DEPTH →
    length above < MAX_DEPTH
room_above above path up short =
    let long = length-append above (up.step ∷ up.more) in
    let own = ap length up.is in omega arith

-- the path goes on from the one with its step
pub begins_step : (above path : List ℕ) (read : ℕ) → GoesUp above path →
    Some read ≡ slice_get path (length above) → BeginsWith (above ++ read ∷ []) path
begins_step above path read up at =
    begins_more above path read (up.step ∷ up.more, sym up.is) at

-- a test of a beginning, as the definition has it
pub test_is : (path whole : List ℕ) (r t : Bool) → (IsTrue r ↔ BeginsWith path whole) → r ≡ t →
    begins path whole ≡ t
test_is path whole r t test is = sym (begins-from_test path whole r test) ∙ is

-- the page at a place with its path
pub pair_at : (pages : List Page) (place id : ℕ) (path : List ℕ) → ArePages pages →
    Some id ≡ option_map (λ (row : Page). row.id) (slice_get pages place) →
    Some path ≡ option_map (λ (row : Page). row.path) (row_with id pages) →
    Some (id, path) ≡ option_map pair_of (slice_get pages place)
pair_at pages place id path are is found =
    let row = path_at pages place id (Some path) are is found in
    let same : path ≡ row.0.path = (let both = row.3 in cc) in
    let pair : (id, path) ≡ (row.0.id, row.0.path) =
    ap (λ i. (i, path)) row.2 ∙ ap (λ p. (row.0.id, p)) same in
    ap Some pair ∙ ap (option_map pair_of) (sym row.1)

-- a row that was read between two places goes up, where each that does not move does
pub goes_up_at : (pages : List Page) (own above : List ℕ) (from end place : ℕ)
    (pair : ℕ × List ℕ) →
    AllByRecursion (λ (row : Page). GoesUp above row.path)
    (other_rows own (rows_between from end pages)) → from ≤ place → place < end →
    Some pair ≡ option_map pair_of (slice_get pages place) →
    begins own pair.1 ≡ false → GoesUp above pair.1
goes_up_at pages own above from end place pair all low high found out =
    let row = row_is pages place pair found in
    let fails : begins own row.0.path ≡ false =
    ap (λ (q : ℕ × List ℕ). begins own q.1) (sym row.2) ∙ out in
    subst (λ (q : ℕ × List ℕ). GoesUp above q.1) (sym row.2)
    (holds_between (λ (r : Page). GoesUp above r.path) pages own from end place row.0 all low high
    row.1 fails)

-- a page that is there has a row in its range
pub some_rows : (pages : List Page) (id place n : ℕ) → IsSome (row_with id pages) →
    IfSome (row_with id pages) (λ row. IsRange pages row place n) → 0 < n
some_rows pages id place n there range = by (row_with id pages) there range
  where
    by : (o : Option Page) → IsSome o → IfSome o (λ row. IsRange pages row place n) → 0 < n
    by None there range = absurd (search rules)
    by (Some row) there range = range_some pages row place n range

-- and its rows begin with its path
pub rows_begin_with : (pages : List Page) (id place n : ℕ) (path : List ℕ) →
    Some path ≡ option_map (λ (row : Page). row.path) (row_with id pages) →
    IfSome (row_with id pages) (λ row. IsRange pages row place n) →
    AllByRecursion (λ (row : Page). BeginsWith path row.path) (take n (drop place pages))
rows_begin_with pages id place n path found range = by (row_with id pages) found range
  where
    by : (o : Option Page) → Some path ≡ option_map (λ (row : Page). row.path) o →
        IfSome o (λ row. IsRange pages row place n) →
        AllByRecursion (λ (row : Page). BeginsWith path row.path) (take n (drop place pages))
    by None found range = absurd cc
    by (Some row) found range =
        let same : path ≡ row.path = cc in
        subst (λ own. AllByRecursion (λ (r : Page). BeginsWith own r.path)
        (take n (drop place pages))) (sym same) range.inside
