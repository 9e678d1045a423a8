-- What another slug of a page keeps of a tree.
use Rattle.std.proofs.Common.{◌≡◌, ℕ, Bool, true, false, cond, ◌||◌, List, None, nat_eq, max, suc, refl, arith}
use Rattle.std.specs.Str.{bytes_eq}
use Rattle.page_tree.specs.Tree.{Forest, bare, grown, AreRising, kid_with_slug, without}
use Rattle.tree_model.specs.Limits.{height}
use Rattle.tree_model.specs.Renames.{renamed}
use Rattle.tree_model.specs.Shape.{AllPages, AreWithin, SlugsDiffer}
use Rattle.tree_model.proofs.CountLemmas.{count, either, same_id}
use Rattle.tree_model.proofs.PlaceLemmas.{has_kid, AtParent}
use Rattle.tree_model.proofs.SiblingLemmas.{later_free, other_text}
use Rattle.tree_model.proofs.ParentLemmas.{ParentIs, kid_parent}

module _ {Kept : Type 0} where
  -- what holds of each page, and of its new slug, holds of each page afterwards
  pub AllPages-renamed : (P : ℕ → List ℕ → Kept → Type 0) (id : ℕ) (new : List ℕ) (f : Forest Kept) →
      ((i : ℕ) (slug : List ℕ) (body : Kept) → P i slug body → P i new body) → AllPages P f →
      AllPages P (renamed id new f)
  AllPages-renamed P id new bare fits all = tt
  AllPages-renamed P id new (grown i s slug body kids rest) fits all =
      either (AllPages P) (nat_eq i id) (grown i s new body kids rest)
      (grown i s slug body (renamed id new kids) (renamed id new rest))
      (fits i slug body all.0, all.1, all.2) (
        all.0,
        AllPages-renamed P id new kids fits all.1,
        AllPages-renamed P id new rest fits all.2,
      )

  -- the same pages stand there
  pub count-renamed : (j id : ℕ) (new : List ℕ) (f : Forest Kept) → count j (renamed id new f) ≡ count j f
  count-renamed j id new bare = refl
  count-renamed j id new (grown i s slug body kids rest) =
      let below = count-renamed j id new kids in
      let after = count-renamed j id new rest in
      either (λ g. count j g ≡ count j (grown i s slug body kids rest)) (nat_eq i id)
      (grown i s new body kids rest)
      (grown i s slug body (renamed id new kids) (renamed id new rest)) refl
      (omega (arith, below, after))

  -- the same steps rise
  pub AreRising-renamed : (id before : ℕ) (new : List ℕ) (f : Forest Kept) → AreRising before f →
      AreRising before (renamed id new f)
  AreRising-renamed id before new bare rising = tt
  AreRising-renamed id before new (grown i s slug body kids rest) rising =
      either (AreRising before) (nat_eq i id) (grown i s new body kids rest)
      (grown i s slug body (renamed id new kids) (renamed id new rest)) rising (
        rising.0,
        AreRising-renamed id 0 new kids rising.1,
        AreRising-renamed id s new rest rising.2,
      )

  -- no step is above the last
  pub AreWithin-renamed : (last id : ℕ) (new : List ℕ) (f : Forest Kept) → AreWithin last f →
      AreWithin last (renamed id new f)
  AreWithin-renamed last id new bare all = tt
  AreWithin-renamed last id new (grown i s slug body kids rest) all =
      either (AreWithin last) (nat_eq i id) (grown i s new body kids rest)
      (grown i s slug body (renamed id new kids) (renamed id new rest)) all
      (all.0, AreWithin-renamed last id new kids all.1, AreWithin-renamed last id new rest all.2)

  -- the tree is as deep as it was
  pub height-renamed : (id : ℕ) (new : List ℕ) (f : Forest Kept) → height (renamed id new f) ≡ height f
  height-renamed id new bare = refl
  height-renamed id new (grown i s slug body kids rest) =
      let below = height-renamed id new kids in
      let after = height-renamed id new rest in
      either (λ g. height g ≡ max (suc (height kids)) (height rest)) (nat_eq i id)
      (grown i s new body kids rest)
      (grown i s slug body (renamed id new kids) (renamed id new rest)) refl
      (rw (below, after) refl)

  -- a slug that is free stays free, where it is not the new one of one of the top
  pub free-renamed : (slug new : List ℕ) (id : ℕ) (f : Forest Kept) → kid_with_slug slug f ≡ None →
      (has_kid id f ≡ true → bytes_eq new slug ≡ false) →
      kid_with_slug slug (renamed id new f) ≡ None
  free-renamed slug new id bare free differ = refl
  free-renamed slug new id (grown i s own body kids rest) free differ =
      let none = later_free (bytes_eq own slug) i (kid_with_slug slug rest) free in
      choice (nat_eq i id) none.0 none.1 differ (free-renamed slug new id rest none.1)
    where
      choice : (a : Bool) → bytes_eq own slug ≡ false → kid_with_slug slug rest ≡ None →
          ((a || has_kid id rest) ≡ true → bytes_eq new slug ≡ false) →
          ((has_kid id rest ≡ true → bytes_eq new slug ≡ false) →
          kid_with_slug slug (renamed id new rest) ≡ None) →
          kid_with_slug slug (cond a (grown i s new body kids rest)
          (grown i s own body (renamed id new kids) (renamed id new rest))) ≡ None
      choice true here later apart more = rw (apart refl) later
      choice false here later apart more = rw here (more apart)

  -- The slugs of siblings differ where the new one is free among the page's siblings.
  pub SlugsDiffer-renamed : (id p q : ℕ) (new : List ℕ) (f : Forest Kept) → ParentIs id p q f →
      AtParent p (λ kids. kid_with_slug new kids ≡ None) (without id f) →
      (q ≡ p → kid_with_slug new (without id f) ≡ None) → SlugsDiffer f →
      SlugsDiffer (renamed id new f)
  SlugsDiffer-renamed id p q new bare under free top differ = tt
  SlugsDiffer-renamed id p q new (grown i s own body kids rest) under free top differ =
      choice (nat_eq i id) under.0 free top
      (λ below here. SlugsDiffer-renamed id p i new kids under.1 below here differ.1)
      (λ after here. SlugsDiffer-renamed id p q new rest under.2 after here differ.2)
    where
      choice : (a : Bool) → (a ≡ true → q ≡ p) →
          AtParent p (λ kids. kid_with_slug new kids ≡ None)
          (cond a rest (grown i s own body (without id kids) (without id rest))) →
          (q ≡ p → kid_with_slug new
          (cond a rest (grown i s own body (without id kids) (without id rest))) ≡ None) →
          (AtParent p (λ kids. kid_with_slug new kids ≡ None) (without id kids) →
          (i ≡ p → kid_with_slug new (without id kids) ≡ None) →
          SlugsDiffer (renamed id new kids)) →
          (AtParent p (λ kids. kid_with_slug new kids ≡ None) (without id rest) →
          (q ≡ p → kid_with_slug new (without id rest) ≡ None) →
          SlugsDiffer (renamed id new rest)) →
          SlugsDiffer (cond a (grown i s new body kids rest)
          (grown i s own body (renamed id new kids) (renamed id new rest)))
      choice true here apart above in_kids in_rest = (above (here refl), differ.1, differ.2)
      choice false here apart above in_kids in_rest = (
        free-renamed own new id rest differ.0
            (λ found. other_text own new
            (later_free (bytes_eq own new) i (kid_with_slug new (without id rest))
            (above (kid_parent id p q rest under.2 found))).0),
        in_kids apart.1 (λ same. apart.0 (rw same (same_id p))),
        in_rest apart.2 (λ same.
            (later_free (bytes_eq own new) i (kid_with_slug new (without id rest)) (above same)).1),
      )
