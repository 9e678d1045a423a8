-- The pages of a tree with their URLs, in the order of its rows, and those whose URL is another
-- one.
use Rattle.std.proofs.Common.{◌≡◌, ℕ, Bool, true, false, cond, not, List, [], ◌∷◌, ◌++◌, Option, Some, map, filter, length, drop, refl, sym, ap, ◌∙◌, subst, append_assoc}
use Rattle.std.specs.List.{AllByRecursion}
use Rattle.std.specs.Str.{bytes_eq}
use Rattle.std.proofs.lemmas.List.{append-nil, append_cancel_right, map-append}
use Rattle.page_tree.specs.Tree.{Forest, bare, grown}
use Rattle.page_tree.specs.Walk.{SLASH}
use Rattle.page_tree.specs.Rows.{Row, child_url, rows_below}
use Rattle.page_store.proofs.AllLemmas.{All-append}
use Rattle.page_store.proofs.InsertLemmas.{same_bytes, bytes_eq-self}
use Rattle.tree_rows.proofs.Lists.{all_parts, filter_all}
use Rattle.tree_model.specs.Changes.{url_in, changed_urls}

-- the same bytes behind two texts do not change whether they are equal
equal_before : (a b behind : List ℕ) → bytes_eq (a ++ behind) (b ++ behind) ≡ bytes_eq a b
equal_before a b behind = by (bytes_eq a b) refl (bytes_eq (a ++ behind) (b ++ behind)) refl
  where
    by : (t : Bool) → bytes_eq a b ≡ t → (u : Bool) →
        bytes_eq (a ++ behind) (b ++ behind) ≡ u → bytes_eq (a ++ behind) (b ++ behind) ≡ t
    by true e u f =
        let same = same_bytes a b e in
        ap (λ x. bytes_eq (x ++ behind) (b ++ behind)) same ∙ bytes_eq-self (b ++ behind)
    by false e false f = f
    by false e true f =
        let whole = same_bytes (a ++ behind) (b ++ behind) f in
        let same = append_cancel_right a b behind whole in
        let equal : bytes_eq a b ≡ true = ap (λ x. bytes_eq x b) same ∙ bytes_eq-self b in
        absurd cc

-- what stands behind a text
drop_front : (front behind : List ℕ) → drop (length front) (front ++ behind) ≡ behind
drop_front [] behind = refl
drop_front (x ∷ front) behind = drop_front front behind

-- the URL of a page below another goes on where that one's goes on
child_url-append : (front behind slug : List ℕ) →
    child_url (front ++ behind) slug ≡ front ++ child_url behind slug
child_url-append front behind slug =
    ap (λ u. u ++ SLASH ∷ []) (append_assoc front behind slug)
    ∙ append_assoc front (behind ++ slug) (SLASH ∷ [])

-- a page with its URL, of which another beginning takes the place of the first bytes
abbrev pub moved_pair : ℕ → List ℕ → ℕ × List ℕ → ℕ × List ℕ
moved_pair old new pair = (pair.0, new ++ drop old pair.1)

module _ {Body : Type 0} where
  -- a row's page with its URL
  abbrev pub pair_of : Row Body → ℕ × List ℕ
  pair_of row = (row.id, row.url)

  -- whether the page has another URL among the rows
  abbrev pub differs : List (Row Body) → ℕ × List ℕ → Bool
  differs before pair = not (bytes_eq (url_in pair.0 before) pair.1)

  -- the page has this URL among the rows
  abbrev pub HasOwn : List (Row Body) → ℕ × List ℕ → Type 0
  HasOwn before pair = url_in pair.0 before ≡ pair.1

  -- the pages below a URL, depth first, each with its own
  abbrev pub pairs_below : List ℕ → Forest Body → List (ℕ × List ℕ)
  pairs_below url bare = []
  pairs_below url (grown i s slug body kids rest) =
      (i, child_url url slug) ∷ (pairs_below (child_url url slug) kids ++ pairs_below url rest)

  -- they are read off the rows
  pub pairs_of_rows : (q : Option ℕ) (path url : List ℕ) (f : Forest Body) →
      map pair_of (rows_below q path url f) ≡ pairs_below url f
  pairs_of_rows q path url bare = refl
  pairs_of_rows q path url (grown i s slug body kids rest) =
      let below = pairs_of_rows (Some i) (path ++ s ∷ []) (child_url url slug) kids in
      let behind = pairs_of_rows q path url rest in
      ap (λ pairs. (i, child_url url slug) ∷ pairs) (map-append pair_of
      (rows_below (Some i) (path ++ s ∷ []) (child_url url slug) kids) (rows_below q path url rest)
      ∙ (ap (λ pairs. pairs ++ map pair_of (rows_below q path url rest)) below
      ∙ ap (λ pairs. pairs_below (child_url url slug) kids ++ pairs) behind))

  -- the changes of some rows are those of their pairs that differ
  changes_are : (before after : List (Row Body)) →
      changed_urls before after ≡ filter (differs before) (map pair_of after)
  changes_are before [] = refl
  changes_are before (row ∷ after) =
      by (not (bytes_eq (url_in row.id before) row.url)) (changes_are before after)
    where
      by : (t : Bool) → changed_urls before after ≡ filter (differs before) (map pair_of after) →
          map pair_of (cond t
          (row ∷ filter (λ (r : Row Body). not (bytes_eq (url_in r.id before) r.url)) after)
          (filter (λ (r : Row Body). not (bytes_eq (url_in r.id before) r.url)) after))
          ≡ cond t (pair_of row ∷ filter (differs before) (map pair_of after))
          (filter (differs before) (map pair_of after))
      by true more = ap (λ pairs. pair_of row ∷ pairs) more
      by false more = more

  -- the changes of the rows below a URL
  pub changes_below : (before : List (Row Body)) (q : Option ℕ) (path url : List ℕ)
      (f : Forest Body) →
      changed_urls before (rows_below q path url f) ≡ filter (differs before) (pairs_below url f)
  changes_below before q path url f =
      changes_are before (rows_below q path url f)
      ∙ ap (filter (differs before)) (pairs_of_rows q path url f)

  -- a page that has its own URL does not differ
  pub own_stays : (before : List (Row Body)) (pair : ℕ × List ℕ) → HasOwn before pair →
      differs before pair ≡ false
  own_stays before pair own =
      ap (λ u. not (bytes_eq u pair.1)) own ∙ ap not (bytes_eq-self pair.1)

  -- where all pages have their own URLs, none differs
  pub none_differ : (before : List (Row Body)) (pairs : List (ℕ × List ℕ)) →
      AllByRecursion (HasOwn before) pairs → filter (differs before) pairs ≡ []
  none_differ before [] own = refl
  none_differ before (pair ∷ pairs) own =
      rw (own_stays before pair own.0) (none_differ before pairs own.1)

  -- the pages below another beginning are the same, with their URLs moved
  pairs_moved : (old new more : List ℕ) (f : Forest Body) →
      pairs_below (new ++ more) f
      ≡ map (moved_pair (length old) new) (pairs_below (old ++ more) f)
  pairs_moved old new more bare = refl
  pairs_moved old new more (grown i s slug body kids rest) =
      let own : child_url (new ++ more) slug
      ≡ new ++ drop (length old) (child_url (old ++ more) slug) =
      child_url-append new more slug ∙ ap (λ u. new ++ u)
      (sym (ap (drop (length old)) (child_url-append old more slug)
      ∙ drop_front old (child_url more slug))) in
      let below : pairs_below (child_url (new ++ more) slug) kids
      ≡ map (moved_pair (length old) new) (pairs_below (child_url (old ++ more) slug) kids) =
      ap (λ u. pairs_below u kids) (child_url-append new more slug)
      ∙ (pairs_moved old new (child_url more slug) kids
      ∙ ap (λ u. map (moved_pair (length old) new) (pairs_below u kids))
      (sym (child_url-append old more slug))) in
      let behind = pairs_moved old new more rest in
      ap (λ u. (i, u) ∷ (pairs_below (child_url (new ++ more) slug) kids
      ++ pairs_below (new ++ more) rest)) own
      ∙ ap (λ pairs. (i, new ++ drop (length old) (child_url (old ++ more) slug)) ∷ pairs)
      (ap (λ pairs. pairs ++ pairs_below (new ++ more) rest) below
      ∙ (ap (λ pairs. map (moved_pair (length old) new)
      (pairs_below (child_url (old ++ more) slug) kids) ++ pairs) behind
      ∙ sym (map-append (moved_pair (length old) new)
      (pairs_below (child_url (old ++ more) slug) kids) (pairs_below (old ++ more) rest))))

  -- all of them differ, where the beginning is another one
  all_differ : (before : List (Row Body)) (old new more : List ℕ) (f : Forest Body) →
      bytes_eq old new ≡ false →
      AllByRecursion (HasOwn before) (pairs_below (old ++ more) f) →
      AllByRecursion (λ pair. differs before pair ≡ true) (pairs_below (new ++ more) f)
  all_differ before old new more bare other own = tt
  all_differ before old new more (grown i s slug body kids rest) other own =
      let parts = all_parts (HasOwn before) (pairs_below (child_url (old ++ more) slug) kids)
      (pairs_below (old ++ more) rest) own.1 in
      let kids_own = subst (λ u. AllByRecursion (HasOwn before) (pairs_below u kids))
      (child_url-append old more slug) parts.0 in
      let below = subst (λ u. AllByRecursion (λ pair. differs before pair
      ≡ true) (pairs_below u kids))
      (sym (child_url-append new more slug))
      (all_differ before old new (child_url more slug) kids other kids_own) in
      let here : differs before (i, child_url (new ++ more) slug) ≡ true =
      ap (λ u. not (bytes_eq u (child_url (new ++ more) slug)))
      (own.0 ∙ child_url-append old more slug)
      ∙ (ap (λ u. not (bytes_eq (old ++ child_url more slug) u)) (child_url-append new more slug)
      ∙ ap not (equal_before old new (child_url more slug) ∙ other)) in (
        here,
        All-append (λ pair. differs before pair ≡ true)
            (pairs_below (child_url (new ++ more) slug) kids) (pairs_below (new ++ more) rest) below
            (all_differ before old new more rest other parts.1),
      )

  -- Where a beginning of the URLs is replaced by another one, all of them change, or none.
  pub beginning_replaced : (before : List (Row Body)) (old new : List ℕ) (f : Forest Body) →
      AllByRecursion (HasOwn before) (pairs_below old f) →
      filter (differs before) (pairs_below new f)
      ≡ cond (bytes_eq old new) [] (map (moved_pair (length old) new) (pairs_below old f))
  beginning_replaced before old new f own = by (bytes_eq old new) refl
    where
      by : (t : Bool) → bytes_eq old new ≡ t →
          filter (differs before) (pairs_below new f)
          ≡ cond t [] (map (moved_pair (length old) new) (pairs_below old f))
      by true e = ap (λ u. filter (differs before) (pairs_below u f)) (sym (same_bytes old new e))
          ∙ none_differ before (pairs_below old f) own
      by false e =
          let whole = subst (λ u. AllByRecursion (HasOwn before) (pairs_below u f)) (sym
          (append-nil old)) own in
          let all = subst (λ u. AllByRecursion (λ pair. differs before pair
          ≡ true) (pairs_below u f))
          (append-nil new) (all_differ before old new [] f e whole) in
          let moved : pairs_below new f ≡ map (moved_pair (length old) new) (pairs_below old f) =
          ap (λ u. pairs_below u f) (sym (append-nil new)) ∙ (pairs_moved old new [] f
          ∙ ap (λ u. map (moved_pair (length old) new) (pairs_below u f)) (append-nil old)) in
          filter_all (differs before) (pairs_below new f) all ∙ moved
