-- The place of a page among desks that rise by page: what a search finds there, and what putting in,
-- writing and taking out there come to.
use Rattle.std.proofs.Common.{◌≡◌, ℕ, zero, suc, ◌<◌, ◌≤◌, Bool, true, false, cond, not, ◌&&◌, nat_eq, nat_lt, List, [], ◌∷◌, Option, Some, None, find, length, get_or, set, insert, remove, refl, ap, sym, ◌∙◌, arith}
use Rattle.std.proofs.lemmas.Bool.Decides.{nat_tests}
use Rattle.std.specs.List.{AllByRecursion, slice_get}
use Rattle.std.specs.List.Sorted.{IsPartitionPoint, IsPartitionedBy}
use Rattle.std.specs.Option.{option_map, is_some}
use Rattle.site_types.specs.Content.{ContentValue}
use Rattle.site_types.specs.declared.world_rows.DeskRow.{DeskRow}
use Rattle.desks.specs.Desks.{PagesRise, is_own, desk_in, text_in, with_desk, with_text, without, place_in}
use Rattle.desks.proofs.DeskLemmas.{none_after, none_found, none_goes, none_own, none_own_found, texts_stay_after, own_there}

-- what holds of all holds of each
all_at : (P : DeskRow → Type 0) (desks : List DeskRow) (k : ℕ) (d : DeskRow) → AllByRecursion P desks →
    k < length desks → P (get_or desks k d)
all_at P [] k d all lt = absurd (omega arith)
all_at P (desk ∷ desks) zero d all lt = all.0
all_at P (desk ∷ desks) (suc k) d all lt = all_at P desks k d all.1 (omega arith)

-- desks on lower pages stand before the others
pub parted : (page : ℕ) (desks : List DeskRow) → PagesRise desks →
    IsPartitionedBy (λ (desk : DeskRow). nat_lt desk.page page) desks
parted page [] rise i j d le lt h = absurd (omega arith)
parted page (desk ∷ desks) rise zero zero d le lt h = h
parted page (desk ∷ desks) rise zero (suc j) d le lt h =
    lower desk.page (get_or desks j d).page page
    (all_at (λ (later : DeskRow). desk.page < later.page) desks j d rise.0 (omega arith)) h
  where
    lower : (a b page : ℕ) → a < b → nat_lt b page ≡ true → nat_lt a page ≡ true
    lower a b page lt e = grind (arith, nat_tests)
parted page (desk ∷ desks) rise (suc i) zero d le lt h = absurd (omega arith)
parted page (desk ∷ desks) rise (suc i) (suc j) d le lt h =
    parted page desks rise.1 i j d (omega arith) (omega arith) h

-- where all before are on lower pages, and none behind is, is the page's place
pub place_found : (page : ℕ) (desks : List DeskRow) (i : ℕ) → i ≤ length desks →
    IsPartitionPoint (λ (desk : DeskRow). nat_lt desk.page page ≡ true)
    (λ (desk : DeskRow). nat_lt desk.page page ≡ false) desks i → i ≡ place_in page desks
place_found page [] zero le point = refl
place_found page [] (suc i) le point = absurd (omega arith)
place_found page (desk ∷ desks) zero le point =
    let behind = point.1 zero desk (omega arith) (omega arith) in
    rw behind refl
place_found page (desk ∷ desks) (suc i) le point =
    let before = point.0 zero desk (omega arith) (omega arith) in
    rw before (ap suc (place_found page desks i (omega arith) (
      λ k d low high. point.0 (suc k) d (omega arith) (omega arith),
      λ k d low high. point.1 (suc k) d (omega arith) (omega arith),
    )))

-- a place is at most at the end
pub place_within : (page : ℕ) (desks : List DeskRow) → place_in page desks ≤ length desks
place_within page [] = omega arith
place_within page (desk ∷ desks) = by (nat_lt desk.page page) (place_within page desks)
  where
    by : (t : Bool) → place_in page desks ≤ length desks →
        cond t (suc (place_in page desks)) 0 ≤ length (desk ∷ desks)
    by true more = omega arith
    by false more = omega arith

-- a desk, where it is on the page
abbrev pub where_on : ℕ → Option DeskRow → Option DeskRow
where_on page None = None
where_on page (Some desk) = cond (nat_eq desk.page page) (Some desk) None

-- the desk on a page stands at the page's place
pub found_at_place : (page : ℕ) (desks : List DeskRow) → PagesRise desks →
    where_on page (slice_get desks (place_in page desks)) ≡ desk_in page desks
found_at_place page [] rise = refl
found_at_place page (desk ∷ desks) rise =
    by (nat_lt desk.page page) refl (nat_eq desk.page page) refl (found_at_place page desks rise.1)
  where
    by : (t : Bool) → nat_lt desk.page page ≡ t → (u : Bool) → nat_eq desk.page page ≡ u →
        where_on page (slice_get desks (place_in page desks)) ≡ desk_in page desks →
        where_on page (slice_get (desk ∷ desks) (cond t (suc (place_in page desks)) 0))
        ≡ cond u (Some desk) (desk_in page desks)
    by true e true f more = absurd (grind (arith, nat_tests))
    by true e false f more = more
    by false e true f more = rw f refl
    by false e false f more =
        let le : page ≤ desk.page = grind (arith, nat_tests) in
        rw f (sym (none_found page desks (none_after page desk desks le rise)))

-- what stands at a place stands before the end
stands_within : (page : ℕ) (desks : List DeskRow) (place : ℕ) →
    is_some (where_on page (slice_get desks place)) ≡ true → place < length desks
stands_within page [] place there = cc
stands_within page (desk ∷ desks) zero there = omega arith
stands_within page (desk ∷ desks) (suc place) there =
    let more = stands_within page desks place there in omega arith

-- a desk on the page stands before the end
pub there_within : (page : ℕ) (desks : List DeskRow) → PagesRise desks →
    is_some (desk_in page desks) ≡ true → place_in page desks < length desks
there_within page desks rise there =
    stands_within page desks (place_in page desks) (ap is_some (found_at_place page desks rise) ∙ there)

-- taking the desk on the page out is removing the one at its place
pub taken_at_place : (page : ℕ) (desks : List DeskRow) → PagesRise desks →
    is_some (desk_in page desks) ≡ true → remove desks (place_in page desks) ≡ without page desks
taken_at_place page [] rise there = cc
taken_at_place page (desk ∷ desks) rise there =
    by (nat_lt desk.page page) refl (nat_eq desk.page page) refl there (taken_at_place page desks rise.1)
  where
    by : (t : Bool) → nat_lt desk.page page ≡ t → (u : Bool) → nat_eq desk.page page ≡ u →
        is_some (cond u (Some desk) (desk_in page desks)) ≡ true →
        (is_some (desk_in page desks) ≡ true →
        remove desks (place_in page desks) ≡ without page desks) →
        remove (desk ∷ desks) (cond t (suc (place_in page desks)) 0)
        ≡ cond (not u) (desk ∷ without page desks) (without page desks)
    by true e true f there more = absurd (grind (arith, nat_tests))
    by true e false f there more = ap (λ rest. desk ∷ rest) (more there)
    by false e true f there more =
        let le : page ≤ desk.page = grind (arith, nat_tests) in
        sym (none_goes page desks (none_after page desk desks le rise))
    by false e false f there more =
        let le : page ≤ desk.page = grind (arith, nat_tests) in
        let none = none_found page desks (none_after page desk desks le rise) in
        let gone : is_some (desk_in page desks) ≡ false = rw none refl in cc

-- where the page has no desk, a desk in its place is one inserted at the page's place
pub put_at_place : (new : DeskRow) (desks : List DeskRow) → desk_in new.page desks ≡ None →
    insert desks (place_in new.page desks) new ≡ with_desk new desks
put_at_place new [] free = refl
put_at_place new (desk ∷ desks) free =
    by (nat_lt desk.page new.page) refl (nat_eq desk.page new.page) refl (nat_lt new.page desk.page) refl
    free (put_at_place new desks)
  where
    by : (t : Bool) → nat_lt desk.page new.page ≡ t → (u : Bool) → nat_eq desk.page new.page ≡ u →
        (v : Bool) → nat_lt new.page desk.page ≡ v →
        cond u (Some desk) (desk_in new.page desks) ≡ None →
        (desk_in new.page desks ≡ None →
        insert desks (place_in new.page desks) new ≡ with_desk new desks) →
        insert (desk ∷ desks) (cond t (suc (place_in new.page desks)) 0) new
        ≡ cond v (new ∷ desk ∷ desks) (desk ∷ with_desk new desks)
    by t e true f v g free more = cc
    by true e false f true g free more = absurd (grind (arith, nat_tests))
    by true e false f false g free more = ap (λ rest. desk ∷ rest) (more free)
    by false e false f true g free more = refl
    by false e false f false g free more = absurd (grind (arith, nat_tests))

-- writing a text at the place of the user's desk is rewriting that desk
pub written_at_place : (page user : ℕ) (text : ContentValue) (desks : List DeskRow) (own : DeskRow) →
    PagesRise desks → is_some (text_in page user desks) ≡ true →
    own ≡ get_or desks (place_in page desks) own →
    set desks (place_in page desks) (record own { content = text }) ≡ with_text page user text desks
written_at_place page user text [] own rise there is = cc
written_at_place page user text (desk ∷ desks) own rise there is =
    by (nat_lt desk.page page) refl (nat_eq desk.page page) refl (nat_eq desk.user user) there is
    (written_at_place page user text desks own rise.1)
  where
    apart : page ≤ desk.page → is_some (text_in page user desks) ≡ true → ⊥
    apart le there =
        let none = none_own_found page user desks
        (none_own page user desks (none_after page desk desks le rise)) in
        let gone : is_some (text_in page user desks) ≡ false = rw none refl in cc

    by : (t : Bool) → nat_lt desk.page page ≡ t → (u : Bool) → nat_eq desk.page page ≡ u → (v : Bool) →
        is_some (option_map (λ (desk : DeskRow). desk.content)
        (cond (u && v) (Some desk) (find (is_own page user) desks))) ≡ true →
        own ≡ get_or (desk ∷ desks) (cond t (suc (place_in page desks)) 0) own →
        (is_some (text_in page user desks) ≡ true →
        own ≡ get_or desks (place_in page desks) own →
        set desks (place_in page desks) (record own { content = text })
        ≡ with_text page user text desks) →
        set (desk ∷ desks) (cond t (suc (place_in page desks)) 0) (record own { content = text })
        ≡ cond (u && v) (record desk { content = text }) desk ∷ with_text page user text desks
    by true e true f v there is more = absurd (grind (arith, nat_tests))
    by true e false f v there is more = ap (λ rest. desk ∷ rest) (more there is)
    by false e true f true there is more =
        let le : page ≤ desk.page = grind (arith, nat_tests) in
        let rest = texts_stay_after page user text desks (none_after page desk desks le rise) in
        rw (is, rest) refl
    by false e true f false there is more =
        let le : page ≤ desk.page = grind (arith, nat_tests) in absurd (apart le there)
    by false e false f v there is more =
        let le : page ≤ desk.page = grind (arith, nat_tests) in absurd (apart le there)

module _ (page : ℕ) (desks : List DeskRow) (place : ℕ) (rise : PagesRise desks)
    (at : place ≡ place_in page desks) where
  -- what stands at the page's place is found, where it is on the page
  found_by : (stands : Option DeskRow) → stands ≡ slice_get desks place →
      where_on page stands ≡ desk_in page desks
  found_by stands told =
      ap (where_on page) told ∙ ap (λ n. where_on page (slice_get desks n)) at
      ∙ found_at_place page desks rise

  -- a desk on the page at its place is the one on the page
  pub stands_there : (row : DeskRow) → Some row ≡ slice_get desks place →
      nat_eq row.page page ≡ true → Some row ≡ desk_in page desks
  stands_there row told own =
      let here : where_on page (Some row) ≡ Some row = rw own refl in
      sym here ∙ found_by (Some row) told

  -- where a desk on another page stands there, the page has none
  pub other_there : (row : DeskRow) → Some row ≡ slice_get desks place →
      nat_eq row.page page ≡ false → None ≡ desk_in page desks
  other_there row told other =
      let off : where_on page (Some row) ≡ None = rw other refl in
      sym off ∙ found_by (Some row) told

  -- where none stands there, the page has none
  pub nothing_there : None ≡ slice_get desks place → None ≡ desk_in page desks
  nothing_there told = found_by None told

  -- a place that was told is within the desks, and removing it takes the page's desk out
  pub taken_where_told : is_some (desk_in page desks) ≡ true →
      (place < length desks) × (remove desks place ≡ without page desks)
  taken_where_told there =
      let within = there_within page desks rise there in
      (omega arith, rw at (taken_at_place page desks rise there))

  -- the place is within the desks where the user has one there, and writing there rewrites it
  pub written_where_told : (user : ℕ) → is_some (text_in page user desks) ≡ true →
      (place < length desks) × ((text : ContentValue) (own : DeskRow) → own ≡ get_or desks place own →
      set desks place (record own { content = text }) ≡ with_text page user text desks)
  written_where_told user there =
      let within = there_within page desks rise (own_there page user desks rise there) in (
        omega arith,
        λ text own is. rw at
            (written_at_place page user text desks own rise there (rw (← at) is)),
      )
