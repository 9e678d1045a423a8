-- A page with all below it, put among siblings: its rows with their beginnings replaced, and the
-- rows
-- of each later sibling with its step one higher.
use Rattle.std.proofs.Common.{◌≡◌, ◌+◌, ℕ, Bool, true, false, cond, List, [], ◌∷◌, ◌++◌, map, length, Option, Some, nat_eq, refl, ap, ◌∙◌, arith, append_assoc}
use Rattle.std.proofs.lemmas.Bool.Decides.{nat_tests}
use Rattle.std.proofs.lemmas.List.{append-nil, map-append}
use Rattle.page_tree.specs.Tree.{Forest, bare, grown, placed, raised, put_last, put_before, last_step}
use Rattle.page_tree.specs.Walk.{SLASH, kid_count}
use Rattle.page_tree.specs.Rows.{Row, rows_below, child_url}
use Rattle.step_path.proofs.PathLemmas.{relabelled-append}
use Rattle.tree_rows.specs.Cuts.{is_sibling, relabel_row, raise_row, raised_path}

-- a raised step behind other steps
pub raised_path-append : (path more : List ℕ) (s : ℕ) →
    raised_path (length path) (path ++ s ∷ more) ≡ path ++ (s + 1) ∷ more
raised_path-append [] more s = refl
raised_path-append (x ∷ path) more s = ap (λ p. x ∷ p) (raised_path-append path more s)

-- the URL of a page below one whose URL has another beginning
child_url-append : (url text slug : List ℕ) →
    child_url (url ++ text) slug ≡ url ++ ((text ++ slug) ++ SLASH ∷ [])
child_url-append url text slug =
    rw (append_assoc url text slug, append_assoc url (text ++ slug) (SLASH ∷ [])) refl

-- a step one higher makes another path
pub raised_path-changes : (path more : List ℕ) (s : ℕ) →
    raised_path (length path) (path ++ s ∷ more) ≡ path ++ s ∷ more → ⊥
raised_path-changes [] more s same = let step : s + 1 ≡ s = cc in omega arith
raised_path-changes (x ∷ path) more s same =
    raised_path-changes path more s (let rest : raised_path (length path) (path ++ s ∷ more) ≡ path
    ++ s ∷ more = cc in rest)

module _ {Body : Type 0} where
  -- a page that stands alone has its rows before those of the siblings after it
  pub rows_below-placed : (parent : Option ℕ) (path url : List ℕ) (node : Forest Body) (at : ℕ)
      (rest : Forest Body) →
      rows_below parent path url (placed node at rest)
      ≡ rows_below parent path url (placed node at bare) ++ rows_below parent path url rest
  rows_below-placed parent path url bare at rest = refl
  rows_below-placed parent path url (grown i s slug body kids others) at rest =
      rw (append-nil (rows_below (Some i) (path ++ at ∷ []) (child_url url slug) kids)) refl

  -- a page put last among siblings has its rows behind theirs
  pub rows_below-put_last : (parent : Option ℕ) (path url : List ℕ) (before : ℕ)
      (node f : Forest Body) →
      rows_below parent path url (put_last before node f)
      ≡ rows_below parent path url f
      ++ rows_below parent path url (placed node (last_step before f + 1) bare)
  rows_below-put_last parent path url before node bare = refl
  rows_below-put_last parent path url before node (grown i s slug body kids rest) =
      rw (
        rows_below-put_last parent path url s node rest,
        append_assoc (rows_below (Some i) (path ++ s ∷ []) (child_url url slug) kids)
            (rows_below parent path url rest)
            (rows_below parent path url (placed node (last_step s rest + 1) bare)),
      ) refl

  -- a raised step above rows raises it in each of their paths
  pub rows_below-raised_above : (parent : Option ℕ) (path more url : List ℕ) (s : ℕ)
      (f : Forest Body) →
      rows_below parent (path ++ (s + 1) ∷ more) url f
      ≡ map (raise_row (length path)) (rows_below parent (path ++ s ∷ more) url f)
  rows_below-raised_above parent path more url s bare = refl
  rows_below-raised_above parent path more url s (grown i t slug body kids rest) =
      rw (
        append_assoc path ((s + 1) ∷ more) (t ∷ []),
        append_assoc path (s ∷ more) (t ∷ []),
        rows_below-raised_above (Some i) path (more ++ t ∷ []) (child_url url slug) s kids,
        rows_below-raised_above parent path more url s rest,
        map-append (raise_row (length path))
            (rows_below (Some i) (path ++ s ∷ (more ++ t ∷ [])) (child_url url slug) kids)
            (rows_below parent (path ++ s ∷ more) url rest),
        raised_path-append path (more ++ t ∷ []) s,
      ) refl

  -- siblings each one step later: in each of their rows, and of those below, that step is one
  -- higher
  pub rows_below-raised : (parent : Option ℕ) (path url : List ℕ) (f : Forest Body) →
      rows_below parent path url (raised f)
      ≡ map (raise_row (length path)) (rows_below parent path url f)
  rows_below-raised parent path url bare = refl
  rows_below-raised parent path url (grown i s slug body kids rest) =
      rw (
        rows_below-raised_above (Some i) path [] (child_url url slug) s kids,
        rows_below-raised parent path url rest,
        map-append (raise_row (length path))
            (rows_below (Some i) (path ++ s ∷ []) (child_url url slug) kids)
            (rows_below parent path url rest),
        raised_path-append path [] s,
      ) refl

  -- raised siblings are as many
  pub kid_count-raised : (f : Forest Body) → kid_count (raised f) ≡ kid_count f
  kid_count-raised bare = refl
  kid_count-raised (grown i s slug body kids rest) = ap (λ n. n + 1) (kid_count-raised rest)

  -- A sibling among pages side by side: those before it, and it with those after it.
  pub record Siblings (sibling : ℕ) (f : Forest Body) : Type 0 where
    pub step : ℕ
    pub slug : List ℕ
    pub body : Body
    pub kids : Forest Body
    pub rest : Forest Body
    pub later : Forest Body
    pub later_is : later ≡ grown sibling step slug body kids rest
    pub earlier_rows : Option ℕ → List ℕ → List ℕ → List (Row Body)
    pub rows_are : (parent : Option ℕ) (path url : List ℕ) →
        rows_below parent path url f ≡ earlier_rows parent path url
        ++ rows_below parent path url later
    pub count_is : (id at : ℕ) (own : List ℕ) (b : Body) (k : Forest Body) →
        kid_count (put_before sibling (grown id at own b k bare) f) ≡ kid_count f + 1
    pub put_is : (parent : Option ℕ) (path url : List ℕ) (node : Forest Body) →
        rows_below parent path url (put_before sibling node f)
        ≡ earlier_rows parent path url ++ (rows_below parent path url (placed node step bare)
        ++ map (raise_row (length path)) (rows_below parent path url later))

  -- a page put before a sibling has its rows before the raised ones of that sibling and each
  -- later one
  pub siblings_of : (sibling : ℕ) (f : Forest Body) → is_sibling sibling f ≡ true →
      Siblings sibling f
  siblings_of sibling bare there = absurd cc
  siblings_of sibling (grown i s slug body kids rest) there =
      by (nat_eq i sibling) refl there (siblings_of sibling rest)
    where
      by : (t : Bool) → nat_eq i sibling ≡ t → cond t true (is_sibling sibling rest) ≡ true →
          (is_sibling sibling rest ≡ true → Siblings sibling rest) →
          Siblings sibling (grown i s slug body kids rest)
      by true e there more = record {
        step = s;
        slug = slug;
        body = body;
        kids = kids;
        rest = rest;
        later = grown i s slug body kids rest;
        later_is = (let same : i ≡ sibling = grind (arith, nat_tests) in
            ap (λ n. grown n s slug body kids rest) same);
        count_is = λ id at own b k. rw (e, kid_count-raised rest) refl;
        earlier_rows = λ parent path url. [];
        rows_are = λ parent path url. refl;
        put_is = λ parent path url node. rw e
            (rows_below-placed parent path url node s (raised (grown i s slug body kids rest))
            ∙ ap (λ rows. rows_below parent path url (placed node s bare) ++ rows)
            (rows_below-raised parent path url (grown i s slug body kids rest)));
      }
      by false e there more = let found = more there in record {
        step = found.step;
        slug = found.slug;
        body = found.body;
        kids = found.kids;
        rest = found.rest;
        later = found.later;
        later_is = found.later_is;
        count_is = λ id at own b k. rw (e, found.count_is id at own b k) refl;
        earlier_rows = λ parent path url. record {
          id = i;
          parent = parent;
          path = path ++ s ∷ [];
          url = child_url url slug;
          slug = slug;
          numchild = kid_count kids;
          body = body;
        }
            ∷ (rows_below (Some i) (path ++ s ∷ []) (child_url url slug) kids
            ++ found.earlier_rows parent path url);
        rows_are = λ parent path url. rw (
          found.rows_are parent path url,
          append_assoc (rows_below (Some i) (path ++ s ∷ []) (child_url url slug) kids)
              (found.earlier_rows parent path url)
              (rows_below parent path url found.later),
        ) refl;
        put_is = λ parent path url node. rw (
          e,
          found.put_is parent path url node,
          append_assoc (rows_below (Some i) (path ++ s ∷ []) (child_url url slug) kids)
              (found.earlier_rows parent path url)
              (rows_below parent path url (placed node found.step bare)
              ++ map (raise_row (length path)) (rows_below parent path url found.later)),
        ) refl;
      }

  -- rows below a page whose path and URL have another beginning: each has that beginning replaced
  pub rows_below-relabelled : (parent : Option ℕ) (old new more old_url new_url text : List ℕ)
      (f : Forest Body) →
      rows_below parent (new ++ more) (new_url ++ text) f
      ≡ map (relabel_row old new old_url new_url)
      (rows_below parent (old ++ more) (old_url ++ text) f)
  rows_below-relabelled parent old new more old_url new_url text bare = refl
  rows_below-relabelled parent old new more old_url new_url text (grown i s slug body kids rest) =
      rw (
        append_assoc new more (s ∷ []),
        append_assoc old more (s ∷ []),
        child_url-append new_url text slug,
        child_url-append old_url text slug,
        rows_below-relabelled (Some i) old new (more ++ s ∷ []) old_url new_url ((text ++ slug)
            ++ SLASH ∷ []) kids,
        rows_below-relabelled parent old new more old_url new_url text rest,
        map-append (relabel_row old new old_url new_url)
            (rows_below (Some i) (old ++ (more ++ s ∷ [])) (old_url ++ ((text ++ slug) ++ SLASH ∷ []))
            kids)
            (rows_below parent (old ++ more) (old_url ++ text) rest),
        relabelled-append old new (more ++ s ∷ []),
        relabelled-append old_url new_url ((text ++ slug) ++ SLASH ∷ []),
      ) refl
