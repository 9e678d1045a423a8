-- Which URLs differ after a cut, a graft or another slug: those of the page and of all below it.
use Rattle.std.proofs.Common.{◌≡◌, ◌+◌, ◌≤◌, inl, inr, ℕ, Bool, true, false, cond, ◌||◌, List, [], ◌∷◌, ◌++◌, Option, Some, is_some, filter, nat_eq, refl, sym, ap, ◌∙◌, subst, arith}
use Rattle.std.specs.List.{AllByRecursion}
use Rattle.std.specs.Option.{option_map}
use Rattle.std.proofs.lemmas.List.{append-nil}
use Rattle.std.proofs.lemmas.List.Elements.{filter-append}
use Rattle.page_tree.specs.Tree.{Forest, bare, grown, Place, First, Before, End, graft, kids_of, or_else, placed, put, put_before, put_last, raised, without}
use Rattle.page_tree.specs.Walk.{kid_count}
use Rattle.page_tree.specs.Rows.{Row, child_url, rows_below, row_with}
use Rattle.page_tree.proofs.RowLemmas.{find-append, has_page-rows}
use Rattle.page_store.proofs.AllLemmas.{All-append}
use Rattle.tree_rows.proofs.Apart.{kids_of-lacks}
use Rattle.tree_rows.proofs.Lists.{all_parts}
use Rattle.tree_model.proofs.CountLemmas.{one, count, none_or_some, counts_has, none_has, or_bare}
use Rattle.tree_model.proofs.PlaceLemmas.{has_kid, IsAmong, graft_absent}
use Rattle.slug_urls.proofs.Counts.{lacks_from_count}
use Rattle.slug_urls.proofs.Pairs.{differs, HasOwn, pairs_below, none_differ}
pub use Rattle.tree_model.proofs.ParentLemmas.{no_row, some_row}

module _ {Body : Type 0} where
  -- what a cut leaves has what all pages have
  pub All-without : (P : ℕ × List ℕ → Type 0) (j : ℕ) (url : List ℕ) (f : Forest Body) →
      AllByRecursion P (pairs_below url f) → AllByRecursion P (pairs_below url (without j f))
  All-without P j url bare all = tt
  All-without P j url (grown i s own body kids rest) all =
      let parts = all_parts P (pairs_below (child_url url own) kids) (pairs_below url rest) all.1 in
      by (nat_eq i j) parts.1 (All-append P (pairs_below (child_url url own) (without j kids))
      (pairs_below url (without j rest)) (All-without P j (child_url url own) kids parts.0)
      (All-without P j url rest parts.1))
    where
      by : (t : Bool) → AllByRecursion P (pairs_below url rest) →
          AllByRecursion P (pairs_below (child_url url own) (without j kids)
          ++ pairs_below url (without j rest)) →
          AllByRecursion P (pairs_below url
          (cond t rest (grown i s own body (without j kids) (without j rest))))
      by true behind both = behind
      by false behind both = (all.0, both)

  module _ (before : List (Row Body)) where
    -- those that stay in front of others are passed over
    pub skip_front : (xs ys : List (ℕ × List ℕ)) → AllByRecursion (HasOwn before) xs →
        filter (differs before) (xs ++ ys) ≡ filter (differs before) ys
    skip_front xs ys own =
        filter-append (differs before) xs ys
        ∙ ap (λ zs. zs ++ filter (differs before) ys) (none_differ before xs own)

    -- and so are those behind others
    pub skip_behind : (xs ys : List (ℕ × List ℕ)) → AllByRecursion (HasOwn before) ys →
        filter (differs before) (xs ++ ys) ≡ filter (differs before) xs
    skip_behind xs ys own =
        filter-append (differs before) xs ys
        ∙ (ap (λ zs. filter (differs before) xs ++ zs) (none_differ before ys own)
        ∙ append-nil (filter (differs before) xs))

    -- a page in front of lists of which the same differ
    pub same_behind : (pair : ℕ × List ℕ) (xs ys : List (ℕ × List ℕ)) →
        filter (differs before) xs ≡ filter (differs before) ys →
        filter (differs before) (pair ∷ xs) ≡ filter (differs before) (pair ∷ ys)
    same_behind pair xs ys same =
        ap (λ zs. cond (differs before pair) (pair ∷ zs) zs) same

    module _ (n step : ℕ) (slug : List ℕ) (body : Body) (below : Forest Body) where
      -- the page that is put in
      abbrev node : Forest Body
      node = grown n step slug body below bare

      -- of a page before its siblings and those siblings, only the page and those below it differ
      placed_differ : (url : List ℕ) (at : ℕ) (rest : Forest Body) →
          AllByRecursion (HasOwn before) (pairs_below url rest) →
          filter (differs before) (pairs_below url (placed node at rest))
          ≡ filter (differs before) (pairs_below url node)
      placed_differ url at rest own =
          same_behind (n, child_url url slug)
          (pairs_below (child_url url slug) below ++ pairs_below url rest)
          (pairs_below (child_url url slug) below ++ [])
          (skip_behind (pairs_below (child_url url slug) below) (pairs_below url rest) own
          ∙ ap (filter (differs before)) (sym (append-nil (pairs_below (child_url url slug)
          below))))

      -- siblings one step later have the same URLs
      pairs-raised : (url : List ℕ) (f : Forest Body) →
          pairs_below url (raised f) ≡ pairs_below url f
      pairs-raised url bare = refl
      pairs-raised url (grown i s own b kids rest) =
          ap (λ pairs. (i, child_url url own) ∷ (pairs_below (child_url url own) kids ++ pairs))
          (pairs-raised url rest)

      -- and so has a page before them
      raised_differ : (url : List ℕ) (at : ℕ) (f : Forest Body) →
          AllByRecursion (HasOwn before) (pairs_below url f) →
          filter (differs before) (pairs_below url (placed node at (raised f)))
          ≡ filter (differs before) (pairs_below url node)
      raised_differ url at f own =
          placed_differ url at (raised f)
          (subst (λ pairs. AllByRecursion (HasOwn before) pairs) (sym (pairs-raised url f)) own)

      -- a page at the end
      last_differ : (url : List ℕ) (last : ℕ) (f : Forest Body) →
          AllByRecursion (HasOwn before) (pairs_below url f) →
          filter (differs before) (pairs_below url (put_last last node f))
          ≡ filter (differs before) (pairs_below url node)
      last_differ url last bare own = placed_differ url (last + 1) bare tt
      last_differ url last (grown i s o b kids rest) own =
          let parts = all_parts (HasOwn before) (pairs_below (child_url url o) kids) (pairs_below
          url rest)
          own.1 in
          skip_front ((i, child_url url o) ∷ pairs_below (child_url url o) kids)
          (pairs_below url (put_last s node rest)) (own.0, parts.0)
          ∙ last_differ url s rest parts.1

      -- a page before a sibling
      before_differ : (url : List ℕ) (sibling : ℕ) (f : Forest Body) → has_kid sibling f ≡ true →
          AllByRecursion (HasOwn before) (pairs_below url f) →
          filter (differs before) (pairs_below url (put_before sibling node f))
          ≡ filter (differs before) (pairs_below url node)
      before_differ url sibling bare among own = absurd cc
      before_differ url sibling (grown i s o b kids rest) among own =
          let parts = all_parts (HasOwn before) (pairs_below (child_url url o) kids) (pairs_below
          url rest)
          own.1 in
          by (nat_eq i sibling) among
          (skip_front ((i, child_url url o) ∷ pairs_below (child_url url o) kids)
          (pairs_below url (put_before sibling node rest)) (own.0, parts.0))
          (λ later. before_differ url sibling rest later parts.1)
        where
          by : (t : Bool) → (t || has_kid sibling rest) ≡ true →
              filter (differs before) ((i, child_url url o)
              ∷ (pairs_below (child_url url o) kids ++ pairs_below url (put_before sibling node
              rest)))
              ≡ filter (differs before) (pairs_below url (put_before sibling node rest)) →
              (has_kid sibling rest ≡ true →
              filter (differs before) (pairs_below url (put_before sibling node rest))
              ≡ filter (differs before) (pairs_below url node)) →
              filter (differs before) (pairs_below url (cond t
              (placed node s (raised (grown i s o b kids rest)))
              (grown i s o b kids (put_before sibling node rest))))
              ≡ filter (differs before) (pairs_below url node)
          by true there skipped more = raised_differ url s (grown i s o b kids rest) own
          by false there skipped more = skipped ∙ more there

      -- a page at its place
      put_differ : (url : List ℕ) (place : Place) (f : Forest Body) → IsAmong place f →
          AllByRecursion (HasOwn before) (pairs_below url f) →
          filter (differs before) (pairs_below url (put place node f))
          ≡ filter (differs before) (pairs_below url node)
      put_differ url First f among own = raised_differ url 1 f own
      put_differ url (Before sibling) f among own = before_differ url sibling f among own
      put_differ url End f among own = last_differ url 0 f own

      -- Of a tree with one page more, only that page and those below it differ, where all pages of
      -- the tree have their own URLs.
      pub graft_differs : (p : ℕ) (place : Place) (q : Option ℕ) (path url : List ℕ)
          (f : Forest Body) (top : Row Body) → count p f ≤ 1 →
          row_with p (rows_below q path url f) ≡ Some top → IsAmong place (kids_of p f) →
          AllByRecursion (HasOwn before) (pairs_below url f) →
          filter (differs before) (pairs_below url (graft p place node f))
          ≡ filter (differs before) (pairs_below top.url node)
      graft_differs p place q path url bare top once found among own = absurd cc
      graft_differs p place q path url (grown i s o b kids rest) top once found among own =
          let parts = all_parts (HasOwn before) (pairs_below (child_url url o) kids) (pairs_below
          url rest)
          own.1 in
          let both = find-append (λ (row : Row Body). nat_eq row.id p)
          (rows_below (Some i) (path ++ s ∷ []) (child_url url o) kids) (rows_below q path url
          rest) in
          choice (nat_eq i p) refl once parts.0 parts.1 (rw both at found) among
          (λ few is place_is. graft_differs p place (Some i) (path
          ++ s ∷ []) (child_url url o) kids top
          few is place_is parts.0)
          (λ few is place_is. graft_differs p place q path url rest top few is place_is parts.1)
        where
          choice : (t : Bool) → nat_eq i p ≡ t → one t + (count p kids + count p rest) ≤ 1 →
              AllByRecursion (HasOwn before) (pairs_below (child_url url o) kids) →
              AllByRecursion (HasOwn before) (pairs_below url rest) →
              cond t (Some (record {
                id = i;
                parent = q;
                path = path ++ s ∷ [];
                url = child_url url o;
                slug = o;
                numchild = kid_count kids;
                body = b;
              }))
              (cond (is_some (row_with p (rows_below (Some i) (path
              ++ s ∷ []) (child_url url o) kids)))
              (row_with p (rows_below (Some i) (path ++ s ∷ []) (child_url url o) kids))
              (row_with p (rows_below q path url rest))) ≡ Some top →
              IsAmong place (cond t kids (or_else (kids_of p kids) (kids_of p rest))) →
              (count p kids ≤ 1 →
              row_with p (rows_below (Some i) (path ++ s ∷ []) (child_url url o) kids) ≡ Some top →
              IsAmong place (kids_of p kids) →
              filter (differs before) (pairs_below (child_url url o) (graft p place node kids))
              ≡ filter (differs before) (pairs_below top.url node)) →
              (count p rest ≤ 1 → row_with p (rows_below q path url rest) ≡ Some top →
              IsAmong place (kids_of p rest) →
              filter (differs before) (pairs_below url (graft p place node rest))
              ≡ filter (differs before) (pairs_below top.url node)) →
              filter (differs before) (pairs_below url (cond t
              (grown i s o b (put place node kids) rest)
              (grown i s o b (graft p place node kids) (graft p place node rest))))
              ≡ filter (differs before) (pairs_below top.url node)
          choice true at few kids_own rest_own is place_is in_kids in_rest =
              let url_is : Some (child_url url o) ≡ Some top.url =
              ap (λ (r : Option (Row Body)). option_map (λ (row : Row Body). row.url) r) is in
              let same : child_url url o ≡ top.url = cc in
              skip_front ((i, child_url url o) ∷ []) (pairs_below (child_url url o) (put place node
              kids)
              ++ pairs_below url rest) (own.0, tt)
              ∙ (skip_behind (pairs_below (child_url url o) (put place node kids)) (pairs_below url
              rest)
              rest_own
              ∙ (put_differ (child_url url o) place kids place_is kids_own
              ∙ ap (λ u. filter (differs before) (pairs_below u node)) same))
          choice false at few kids_own rest_own is place_is in_kids in_rest =
              elim (none_or_some (count p kids)) [
                | inl none ↦
                    let missing = no_row p (Some i) (path ++ s ∷ []) (child_url url o) kids none in
                    let gone = kids_of-lacks p kids (lacks_from_count p kids none) in
                    ap (λ f. filter (differs before) ((i, child_url url o)
                    ∷ (pairs_below (child_url url o) f ++ pairs_below url (graft p place node
                    rest))))
                    (graft_absent p place node kids none)
                    ∙ (skip_front ((i, child_url url o) ∷ pairs_below (child_url url o) kids)
                    (pairs_below url (graft p place node rest)) (own.0, kids_own)
                    ∙ in_rest (omega arith) (rw missing at is) (rw gone at place_is))
                | inr some ↦
                    let there = some_row p (Some i) (path ++ s ∷ []) (child_url url o) kids some in
                    let none : count p rest ≡ 0 = omega arith in
                    let gone = kids_of-lacks p rest (lacks_from_count p rest none) in
                    ap (λ f. filter (differs before) ((i, child_url url o)
                    ∷ (pairs_below (child_url url o) (graft p place node kids)
                    ++ pairs_below url f)))
                    (graft_absent p place node rest none)
                    ∙ (skip_front ((i, child_url url o) ∷ [])
                    (pairs_below (child_url url o) (graft p place node kids)
                    ++ pairs_below url rest)
                    (own.0, tt)
                    ∙ (skip_behind (pairs_below (child_url url o) (graft p place node kids))
                    (pairs_below url rest) rest_own
                    ∙ in_kids (omega arith) (rw there at is)
                    (rw (gone, or_bare (kids_of p kids)) at place_is)))
              ]
