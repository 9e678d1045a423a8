-- A page appended below the root: its row comes last, and the walk to it is the root and that page.
use Rattle.std.proofs.Common.{◌≡◌, ◌<◌, ◌≤◌, ◌+◌, ℕ, true, false, List, [], ◌∷◌, ◌++◌, Option, Some, nat_eq, nat_lt, refl, ap, arith, append_assoc}
use Rattle.std.specs.List.{AllByRecursion}
use Rattle.std.proofs.lemmas.Bool.Decides.{nat_tests}
use Rattle.std.proofs.lemmas.List.{append-nil}
use Rattle.page_tree.specs.Tree.{Forest, bare, grown, End, AllIds, AreRising, last_step, put_last, graft}
use Rattle.page_tree.specs.Walk.{SLASH, kid_count}
use Rattle.page_tree.specs.Rows.{Row, rows_below, rows_of, child_url, comes_before, insert_in_order, with_row}
use Rattle.page_tree.proofs.RowLemmas.{raise_count-others}

-- a path does not come before one with an earlier step at the same depth
pub not_before_earlier : (path more : List ℕ) (late early : ℕ) → early < late →
    comes_before (path ++ late ∷ []) ((path ++ early ∷ []) ++ more) ≡ false
not_before_earlier [] more late early h =
    let differs : nat_eq late early ≡ false = grind (arith, nat_tests) in
    let after : nat_lt late early ≡ false = grind (arith, nat_tests) in
    rw (differs, after) refl
not_before_earlier (x ∷ path) more late early h =
    let same : nat_eq x x ≡ true = grind (arith, nat_tests) in
    rw same (not_before_earlier path more late early h)

module _ {Body : Type 0} where
  -- the new path comes before none of these rows
  abbrev NoneAfter : List ℕ → List (Row Body) → Type 0
  NoneAfter new rows = AllByRecursion (λ row. comes_before new row.path ≡ false) rows

  -- where a path comes before none of two lists, it comes before none of both together
  NoneAfter-append : (new : List ℕ) (xs ys : List (Row Body)) → NoneAfter new xs →
      NoneAfter new ys → NoneAfter new (xs ++ ys)
  NoneAfter-append new [] ys hx hy = hy
  NoneAfter-append new (x ∷ xs) ys hx hy = (hx.0, NoneAfter-append new xs ys hx.1 hy)

  -- a later step comes before no row below an earlier one
  none_after_below :
      (parent : Option ℕ) (path more url : List ℕ) (late early : ℕ) (f : Forest Body) →
      early < late →
      NoneAfter (path ++ late ∷ []) (rows_below parent ((path ++ early ∷ []) ++ more) url f)
  none_after_below parent path more url late early bare h = tt
  none_after_below parent path more url late early (grown i s slug body kids rest) h =
      let here =
      rw (← append_assoc (path ++ early ∷ []) more (s ∷ [])) at
      (not_before_earlier path (more ++ s ∷ []) late early h) in
      let below =
      none_after_below (Some i) path (more ++ s ∷ []) (child_url url slug) late early kids h in (
        here,
        NoneAfter-append _ _ _ (rw (← append_assoc (path ++ early ∷ []) more (s ∷ [])) at below)
            (none_after_below parent path more url late early rest h),
      )

  -- steps that rise from above one number rise to no less than that number
  pub le-last_step : (before : ℕ) (f : Forest Body) → AreRising before f →
      before ≤ last_step before f
  le-last_step before bare h = omega arith
  le-last_step before (grown i s slug body kids rest) h =
      let more = le-last_step s rest h.2 in omega (arith, h.0)

  -- a step past the last comes before no row of siblings and of what is below them
  pub none_after_last :
      (parent : Option ℕ) (path url : List ℕ) (before late : ℕ) (f : Forest Body) →
      AreRising before f → last_step before f < late →
      NoneAfter (path ++ late ∷ []) (rows_below parent path url f)
  none_after_last parent path url before late bare rising h = tt
  none_after_last parent path url before late (grown i s slug body kids rest) rising h =
      let reaches = le-last_step s rest rising.2 in
      let early : s < late = omega arith in
      let here = rw append-nil at (not_before_earlier path [] late s early) in
      let below =
      rw append-nil at
      (none_after_below (Some i) path [] (child_url url slug) late s kids early) in
      (here, NoneAfter-append _ _ _ below (none_after_last parent path url s late rest rising.2 h))

  -- a row that comes before none of the others goes to the end
  pub insert_at_end : (new : Row Body) (rows : List (Row Body)) → NoneAfter new.path rows →
      insert_in_order new rows ≡ rows ++ new ∷ []
  insert_at_end new [] none = refl
  insert_at_end new (row ∷ rows) none =
      rw none.0 (ap (λ xs. row ∷ xs) (insert_at_end new rows none.1))

  -- the row of a page without children
  abbrev pub leaf_row : ℕ → Option ℕ → List ℕ → List ℕ → List ℕ → Body → Row Body
  leaf_row id parent path url slug body =
      record {
        id = id;
        parent = parent;
        path = path;
        url = url;
        slug = slug;
        numchild = 0;
        body = body;
      }

  -- a page put last among siblings has the last row
  pub rows_below-put_last :
      (parent : Option ℕ) (path url : List ℕ) (before id step : ℕ) (slug : List ℕ) (body : Body)
      (f : Forest Body) →
      rows_below parent path url (put_last before (grown id step slug body bare bare) f)
      ≡ rows_below parent path url f
      ++ leaf_row id parent (path ++ (last_step before f + 1) ∷ []) (child_url url slug) slug body
      ∷ []
  rows_below-put_last parent path url before id step slug body bare = refl
  rows_below-put_last parent path url before id step slug body (grown i s own b kids rest) =
      let new =
      leaf_row id parent (path ++ (last_step s rest + 1) ∷ []) (child_url url slug) slug body in
      rw (
        rows_below-put_last parent path url s id step slug body rest,
        append_assoc (rows_below (Some i) (path ++ s ∷ []) (child_url url own) kids)
            (rows_below parent path url rest) (new ∷ []),
      ) refl

  -- one page more among siblings
  pub kid_count-put_last : (before id step : ℕ) (slug : List ℕ) (body : Body) (f : Forest Body) →
      kid_count (put_last before (grown id step slug body bare bare) f) ≡ kid_count f + 1
  kid_count-put_last before id step slug body bare = refl
  kid_count-put_last before id step slug body (grown i s own b kids rest) =
      ap (λ n. n + 1) (kid_count-put_last s id step slug body rest)

  -- the last step is the new page's
  pub last_step-put_last : (before id step : ℕ) (slug : List ℕ) (body : Body) (f : Forest Body) →
      last_step before (put_last before (grown id step slug body bare bare) f)
      ≡ last_step before f + 1
  last_step-put_last before id step slug body bare = refl
  last_step-put_last before id step slug body (grown i s own b kids rest) =
      last_step-put_last s id step slug body rest

  -- steps go on rising
  pub AreRising-put_last : (before id step : ℕ) (slug : List ℕ) (body : Body) (f : Forest Body) →
      AreRising before f → AreRising before (put_last before (grown id step slug body bare bare) f)
  AreRising-put_last before id step slug body bare h = (omega arith, tt, tt)
  AreRising-put_last before id step slug body (grown i s own b kids rest) h =
      (h.0, h.1, AreRising-put_last s id step slug body rest h.2)

  -- what holds of each id, the new one included, holds of each id afterwards
  pub AllIds-put_last :
      (P : ℕ → Type 0) (before id step : ℕ) (slug : List ℕ) (body : Body) (f : Forest Body) → P id →
      AllIds P f → AllIds P (put_last before (grown id step slug body bare bare) f)
  AllIds-put_last P before id step slug body bare new all = (new, tt, tt)
  AllIds-put_last P before id step slug body (grown i s own b kids rest) new all =
      (all.0, all.1, AllIds-put_last P s id step slug body rest new all.2)

  -- a tree that has the root alone at its top
  abbrev pub rooted : Body → Forest Body → Forest Body
  rooted body kids = grown 1 1 [] body kids bare

  -- the rows of a tree with one page more, appended below the root, are the rows with the new one
  -- in its place
  pub rows_of-append : (id step : ℕ) (slug : List ℕ) (body own : Body) (kids : Forest Body) →
      AllIds (λ i. i ≡ 1 → ⊥) kids → AreRising 0 kids →
      rows_of (graft 1 End (grown id step slug body bare bare) (rooted own kids))
      ≡ with_row
      (leaf_row id (Some 1) (1 ∷ (last_step 0 kids + 1) ∷ [])
      (child_url (SLASH ∷ []) slug) slug body) (rows_of (rooted own kids))
  rows_of-append id step slug body own kids apart rising =
      let kept = raise_count-others 1 (Some 1) (1 ∷ []) (SLASH ∷ []) kids apart in
      let more = rows_below-put_last (Some 1) (1 ∷ []) (SLASH ∷ []) 0 id step slug body kids in
      let last =
      none_after_last (Some 1) (1 ∷ []) (SLASH ∷ []) 0 (last_step 0 kids + 1) kids rising
      (omega arith) in
      let new =
      leaf_row id (Some 1) (1 ∷ (last_step 0 kids + 1) ∷ [])
      (child_url (SLASH ∷ []) slug) slug body in
      let placed = insert_at_end new (rows_below (Some 1) (1 ∷ []) (SLASH ∷ []) kids) last in
      rw (
        append-nil (rows_below (Some 1) (1 ∷ []) (SLASH ∷ []) kids),
        kept,
        placed,
        append-nil,
        more,
        kid_count-put_last 0 id step slug body kids,
      ) refl
