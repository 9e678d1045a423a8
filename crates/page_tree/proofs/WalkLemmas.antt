-- The walk to a page that was appended below the root, and the last row of a tree.
use Rattle.std.proofs.Common.{◌≡◌, ◌+◌, ◌⊎◌, inl, inr, true, false, ℕ, List, [], ◌∷◌, ◌++◌, Option, Some, nat_eq, refl, sym, ap, ◌∙◌, arith, append_assoc}
use Rattle.std.proofs.lemmas.Bool.Decides.{nat_tests}
use Rattle.std.proofs.lemmas.List.{append-nil}
use Rattle.page_tree.specs.Tree.{Forest, bare, grown, End, AllIds, last_step, put_last, graft}
use Rattle.page_tree.specs.Walk.{Visit, SLASH, kid_count, walk, path_of, url_of}
use Rattle.page_tree.specs.Rows.{Row, rows_below, child_url}
use Rattle.page_tree.proofs.RootLemmas.{rooted}

module _ {Body : Type 0} where
  -- no walk leads to an id that no page has
  pub walk-absent : (id : ℕ) (f : Forest Body) → AllIds (λ i. i ≡ id → ⊥) f → walk id f ≡ []
  walk-absent id bare apart = refl
  walk-absent id (grown i s slug body kids rest) apart =
      let differs : nat_eq i id ≡ false = grind (arith, nat_tests) in
      rw (differs, walk-absent id kids apart.1, walk-absent id rest apart.2) refl

  -- the visit of a page without children
  abbrev pub leaf_visit : ℕ → ℕ → List ℕ → Body → Visit Body
  leaf_visit id step slug body =
      record { id = id; step = step; slug = slug; body = body; numchild = 0 }

  -- the walk to a page that was put last among siblings
  pub walk-put_last : (before id step : ℕ) (slug : List ℕ) (body : Body) (f : Forest Body) →
      AllIds (λ i. i ≡ id → ⊥) f →
      walk id (put_last before (grown id step slug body bare bare) f)
      ≡ leaf_visit id (last_step before f + 1) slug body ∷ []
  walk-put_last before id step slug body bare apart =
      let same : nat_eq id id ≡ true = grind (arith, nat_tests) in rw same refl
  walk-put_last before id step slug body (grown i s own b kids rest) apart =
      let differs : nat_eq i id ≡ false = grind (arith, nat_tests) in
      rw (differs, walk-absent id kids apart.1, walk-put_last s id step slug body rest apart.2) refl

  -- the path of a page that was appended below the root
  pub path_of-append : (id step : ℕ) (slug : List ℕ) (body own : Body) (kids : Forest Body) →
      (id ≡ 1 → ⊥) → AllIds (λ i. i ≡ id → ⊥) kids →
      path_of id (graft 1 End (grown id step slug body bare bare) (rooted own kids)) ≡ 1
      ∷ (last_step 0 kids + 1) ∷ []
  path_of-append id step slug body own kids new apart =
      let differs : nat_eq 1 id ≡ false = grind (arith, nat_tests) in
      rw (differs, walk-put_last 0 id step slug body kids apart) refl

  -- its URL
  pub url_of-append : (id step : ℕ) (slug : List ℕ) (body own : Body) (kids : Forest Body) →
      (id ≡ 1 → ⊥) → AllIds (λ i. i ≡ id → ⊥) kids →
      url_of id (graft 1 End (grown id step slug body bare bare) (rooted own kids))
      ≡ child_url (SLASH ∷ []) slug
  url_of-append id step slug body own kids new apart =
      let differs : nat_eq 1 id ≡ false = grind (arith, nat_tests) in
      rw (differs, walk-put_last 0 id step slug body kids apart)
      (ap (λ text. SLASH ∷ text) (append-nil (slug ++ SLASH ∷ [])))

  -- The last of the rows of siblings and of all below them: it is the last sibling's, or a row
  -- below that one.
  pub record LastRow (path : List ℕ) (step : ℕ) (rows : List (Row Body)) : Type 0 where
    pub front : List (Row Body)
    pub row : Row Body
    pub more : List ℕ
    pub is : rows ≡ front ++ row ∷ []
    pub path_is : row.path ≡ (path ++ step ∷ []) ++ more

  -- rows before others put the last one no elsewhere
  last_behind : (path : List ℕ) (step : ℕ) (others rows : List (Row Body)) →
      LastRow path step rows → LastRow path step (others ++ rows)
  last_behind path step others rows last = record {
    front = others ++ last.front;
    row = last.row;
    more = last.more;
    is = ap (λ xs. others ++ xs) last.is ∙ sym (append_assoc others last.front (last.row ∷ []));
    path_is = last.path_is;
  }

  -- the last row below a page is the last of that page and of what is below it
  last_above : (path : List ℕ) (step below : ℕ) (rows : List (Row Body)) →
      LastRow (path ++ step ∷ []) below rows → LastRow path step rows
  last_above path step below rows last = record {
    front = last.front;
    row = last.row;
    more = below ∷ last.more;
    is = last.is;
    path_is = last.path_is ∙ append_assoc (path ++ step ∷ []) (below ∷ []) last.more;
  }

  -- where there are siblings there is a last row
  pub last_row : (parent : Option ℕ) (path url : List ℕ) (before : ℕ) (f : Forest Body) →
      ((rows_below parent path url f ≡ []) × (last_step before f ≡ before))
      ⊎ LastRow path (last_step before f) (rows_below parent path url f)
  last_row parent path url before bare = inl (refl, refl)
  last_row parent path url before (grown i s slug body kids rest) =
      let here : Row Body =
      record {
        id = i;
        parent = parent;
        path = path ++ s ∷ [];
        url = child_url url slug;
        slug = slug;
        numchild = kid_count kids;
        body = body;
      } in
      let below = rows_below (Some i) (path ++ s ∷ []) (child_url url slug) kids in
      let after = rows_below parent path url rest in
      elim (last_row parent path url s rest) [
        | inr last ↦ inr (last_behind path (last_step s rest) (here ∷ below) after last)
        | inl none ↦ inr (rw (none.0, none.1, append-nil {A = Row Body} below)
            (elim (last_row (Some i) (path ++ s ∷ []) (child_url url slug) 0 kids) [
              | inr last ↦ last_behind path s (here ∷ []) below
                  (last_above path s (last_step 0 kids) below last)
              | inl bare_below ↦ rw bare_below.0
                  (record {
                    front = [];
                    row = here;
                    more = [];
                    is = refl;
                    path_is =
                        sym (append-nil (path ++ s ∷ []));
                  })
            ]))
      ]
