-- What stays as it was where some pages become regular ones, one after another.
use Rattle.std.proofs.Common.{◌≡◌, ◌≤◌, ℕ, Bool, true, false, cond, nat_eq, List, [], ◌∷◌, Option, Some, None, refl, ap, ◌∙◌, arith}
use Rattle.page_tree.specs.Tree.{Forest, bare, grown, HasDistinctIds, has_page, node_of, or_else}
use Rattle.site_types.specs.declared.body.Body.{Body}
use Rattle.tree_model.proofs.CountLemmas.{count, once, distinct_ids, same_id, none_counts, none_has, has_counts, counts_has}
use Rattle.site_model.specs.World.{DeskPair, TreePart, time_at}
use Rattle.site_model.specs.Bodies.{rebodied}
use Rattle.site_model.specs.Aliases.{detached_body, with_detached}
use Rattle.site_model.specs.Delete.{each_detached}
use Rattle.site_model.specs.Desks.{stays}
use Rattle.site_model.proofs.BodyLemmas.{count-rebodied}
use Rattle.site_model.proofs.DetachSound.{detaching_keeps_regular}
use Rattle.site_model.proofs.LosingBodies.{body_stays}
use Rattle.site_model.proofs.LosingTrees.{way_to, ids_on, way_changed, way-rebodied}
use Rattle.site_model.proofs.RegularLemmas.{KeepRegular}

module _ {Kept : Type 0} where
  -- the first of two forests has the same pages where both have
  count-or_else : (a b c d : Forest Kept) → ((j : ℕ) → count j b ≡ count j a) →
      ((j : ℕ) → count j d ≡ count j c) → (j : ℕ) →
      count j (or_else b d) ≡ count j (or_else a c)
  count-or_else bare bare c d first other j = other j
  count-or_else bare (grown i step slug body kids rest) c d first other j =
      let same = rw (same_id i) at (first i) in
      let no : ⊥ = omega (arith, same) in absurd no
  count-or_else (grown i step slug body kids rest) bare c d first other j =
      let same = rw (same_id i) at (first i) in
      let no : ⊥ = omega (arith, same) in absurd no
  count-or_else (grown i step slug body kids rest) (grown k steps slugs own more last) c d first
      other j =
      first j

  -- another body of a page changes no page's subtree
  pub count-node : (page id : ℕ) (change : Kept → Kept) (f : Forest Kept) (j : ℕ) →
      count j (node_of page (rebodied id change f)) ≡ count j (node_of page f)
  count-node page id change bare j = refl
  count-node page id change (grown i step slug body kids rest) j =
      choice (nat_eq i id) (count-rebodied id change j kids)
      (count-or_else (node_of page kids) (node_of page (rebodied id change kids))
      (node_of page rest) (node_of page (rebodied id change rest))
      (count-node page id change kids) (count-node page id change rest) j)
    where
      other : Forest Kept
      other = or_else (node_of page kids) (node_of page rest)

      changed : Forest Kept
      changed = or_else (node_of page (rebodied id change kids))
          (node_of page (rebodied id change rest))

      first : (here : Bool) →
          count j (cond here (grown i step slug (change body) kids bare) other)
          ≡ count j (cond here (grown i step slug body kids bare) other)
      first true = refl
      first false = refl

      second : (here : Bool) → count j (rebodied id change kids) ≡ count j kids →
          count j changed ≡ count j other →
          count j (cond here (grown i step slug body (rebodied id change kids) bare) changed)
          ≡ count j (cond here (grown i step slug body kids bare) other)
      second true below after = omega (arith, below)
      second false below after = after

      choice : (own : Bool) → count j (rebodied id change kids) ≡ count j kids →
          count j changed ≡ count j other →
          count j (node_of page (cond own (grown i step slug (change body) kids rest)
          (grown i step slug body (rebodied id change kids) (rebodied id change rest))))
          ≡ count j (cond (nat_eq i page) (grown i step slug body kids bare) other)
      choice true below after = first (nat_eq i page)
      choice false below after = second (nat_eq i page) below after

-- what each page that becomes a regular one keeps, all together keep
pub kept_by_each : (P : TreePart → Type 0) (now caller : ℕ) →
    ((part : TreePart) (alias : ℕ) → P part → P (with_detached part now caller alias)) →
    (aliases : List ℕ) (part : TreePart) → P part → P (each_detached now caller aliases part)
kept_by_each P now caller keeps [] part is = is
kept_by_each P now caller keeps (alias ∷ aliases) part is =
    kept_by_each P now caller keeps aliases (with_detached part now caller alias)
    (keeps part alias is)

-- the change of what is kept of an alias that becomes a regular page
abbrev change_of : TreePart → ℕ → Body → Body
change_of part now = detached_body part.tree (time_at part now) part.next_revision

module _ (now caller : ℕ) (aliases : List ℕ) (part : TreePart) where
  -- the part with each of the aliases made a regular page
  abbrev after : TreePart
  after = each_detached now caller aliases part

  -- the same pages are there
  pub each_counts : (j : ℕ) → count j after.tree ≡ count j part.tree
  each_counts j =
      kept_by_each (λ made. count j made.tree ≡ count j part.tree) now caller
      (λ made alias is. count-rebodied alias (change_of made now) j made.tree ∙ is) aliases part
      refl

  -- no two have one id
  pub each_distinct : HasDistinctIds part.tree → HasDistinctIds after.tree
  each_distinct distinct =
      distinct_ids after.tree
      (λ j. let same = each_counts j in
      let most = once part.tree distinct j in omega (arith, same, most))

  -- the same pages are below each
  each_below : (page j : ℕ) → count j (node_of page after.tree) ≡ count j (node_of page part.tree)
  each_below page j =
      kept_by_each (λ made. count j (node_of page made.tree) ≡ count j (node_of page part.tree)) now
      caller (λ made alias is. count-node page alias (change_of made now) made.tree j ∙ is) aliases
      part refl

  -- a page that is not below another is not then either
  pub each_outside : (page j : ℕ) → has_page j (node_of page after.tree) ≡ false →
      has_page j (node_of page part.tree) ≡ false
  each_outside page j none =
      let same = each_below page j in
      let absent = none_counts j (node_of page after.tree) none in
      none_has j (node_of page part.tree) (omega (arith, same, absent))

  -- a page that is below another is so then
  pub each_inside : (page j : ℕ) → has_page j (node_of page after.tree) ≡ true →
      has_page j (node_of page part.tree) ≡ true
  each_inside page j some =
      let same = each_below page j in
      let there = has_counts j (node_of page after.tree) some in
      counts_has j (node_of page part.tree) (omega (arith, same, there))

  -- the regular pages are regular then
  pub each_regular : KeepRegular part.tree after.tree
  each_regular page is =
      kept_by_each (λ made. KeepRegular part.tree made.tree) now caller
      (λ made alias keep one regular. detaching_keeps_regular made now caller alias one
      (keep one regular)) aliases part (λ one regular. regular) page is

  -- ids of revisions do not fall
  pub each_next : part.next_revision ≤ after.next_revision
  each_next =
      kept_by_each (λ made. part.next_revision ≤ made.next_revision) now caller
      (λ made alias is. omega (arith, is)) aliases part (omega arith)

  -- the users are the same
  pub each_users : part.next_user ≡ after.next_user
  each_users =
      kept_by_each (λ made. part.next_user ≡ made.next_user) now caller (λ made alias is. is)
      aliases part refl

  -- the open desks are the same
  pub each_desks : after.desk_pairs ≡ part.desk_pairs
  each_desks =
      kept_by_each (λ made. made.desk_pairs ≡ part.desk_pairs) now caller (λ made alias is. is)
      aliases part refl

  -- a desk stays as before
  pub each_stays : (pair : DeskPair) → stays after pair ≡ stays part pair
  each_stays pair =
      kept_by_each (λ made. stays made pair ≡ stays part pair) now caller
      (λ made alias is. body_stays made alias (change_of made now) pair
      (λ body. record { owner = refl; locked_by = refl; moderation = refl }) ∙ is) aliases part refl

  -- the way to a page leads over the same pages
  pub each_way : (page : ℕ) → ids_on (way_to page after.tree) ≡ ids_on (way_to page part.tree)
  each_way page =
      kept_by_each (λ made. ids_on (way_to page made.tree) ≡ ids_on (way_to page part.tree)) now
      caller
      (λ made alias is. ap (λ (way : Option (List ℕ × Body)). ids_on way)
      (way-rebodied page alias (change_of made now) made.tree)
      ∙ same_ids (nat_eq page alias) (change_of made now) (way_to page made.tree) ∙ is) aliases part
      refl
    where
      same_ids : (own : Bool) (change : Body → Body) (way : Option (List ℕ × Body)) →
          ids_on (way_changed own change way) ≡ ids_on way
      same_ids own change None = refl
      same_ids own change (Some way) = refl
