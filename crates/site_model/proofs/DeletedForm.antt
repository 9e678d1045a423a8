-- What a deletion makes of a sound world is told at once by the world before.
use Rattle.std.proofs.Common.{◌≡◌, ◌+◌, ◌≤◌, ℕ, Bool, true, false, cond, not, ◌&&◌, nat_eq, List, [], ◌∷◌, ◌++◌, length, filter, max, refl, sym, ap, ◌∙◌, append_assoc, arith}
use Rattle.std.specs.List.{AllByRecursion}
use Rattle.std.proofs.lemmas.List.{append-nil}
use Rattle.std.proofs.lemmas.List.Elements.{filter-append}
use Rattle.page_tree.specs.Tree.{Forest, bare, grown, has_page, node_of, without}
use Rattle.page_tree.specs.Rows.{Row, rows_of}
use Rattle.site_types.specs.declared.body.Body.{Body}
use Rattle.site_types.specs.declared.revision.Revision.{Revision}
use Rattle.site_types.specs.declared.world_rows.Grant.{Grant}
use Rattle.tree_model.proofs.CountLemmas.{one, count, once, cut_counts, none_counts}
use Rattle.tree_model.proofs.PageLemmas.{all_weaker}
use Rattle.site_model.specs.World.{TreePart, time_at}
use Rattle.site_model.specs.Bodies.{rebodied}
use Rattle.site_model.specs.Aliases.{detached_body, with_detached}
use Rattle.site_model.specs.Delete.{is_source_gone, loses_source, aliases_left, each_detached, with_deleted, each_rebodied, detached_revisions, deleted_at_once}
use Rattle.site_model.specs.Sound.{IsSoundPart}
use Rattle.site_model.proofs.AliasesLeft.{losing_all}
use Rattle.site_model.proofs.BodyLemmas.{count-rebodied}
use Rattle.site_model.proofs.DetachedForm.{detached_as, each_as, detached_as_before}
use Rattle.site_model.proofs.EachDetached.{kept_by_each, each_outside, each_inside}
use Rattle.site_model.proofs.Groups.{groups_of}
use Rattle.site_model.proofs.LooseGroups.{loosened}

module _ {Kept : Type 0} where
  -- a cut leaves no page more often
  left_counts : (id page : ℕ) (f : Forest Kept) → count id (without page f) ≤ count id f
  left_counts id page bare = omega arith
  left_counts id page (grown i step slug body kids rest) =
      choice (nat_eq i page) (left_counts id page kids) (left_counts id page rest)
    where
      choice : (t : Bool) → count id (without page kids) ≤ count id kids →
          count id (without page rest) ≤ count id rest →
          count id (cond t rest (grown i step slug body (without page kids) (without page rest)))
          ≤ count id (grown i step slug body kids rest)
      choice true below after = omega arith
      choice false below after = omega (arith, below, after)

  -- another body of a page that a cut leaves is the same before the cut and after it
  pub without-rebodied : (id page : ℕ) (change : Kept → Kept) (f : Forest Kept) →
      count id f ≤ count id (without page f) →
      without page (rebodied id change f) ≡ rebodied id change (without page f)
  without-rebodied id page change bare left = refl
  without-rebodied id page change (grown i step slug body kids rest) left =
      choice (nat_eq i id) (nat_eq i page) refl refl left (left_counts id page kids)
      (left_counts id page rest) (without-rebodied id page change kids)
      (without-rebodied id page change rest)
    where
      After : Bool → Bool → Type 0
      After own gone =
          without page (cond own (grown i step slug (change body) kids rest)
          (grown i step slug body (rebodied id change kids) (rebodied id change rest)))
          ≡ rebodied id change
          (cond gone rest (grown i step slug body (without page kids) (without page rest)))

      choice : (own gone : Bool) → nat_eq i id ≡ own → nat_eq i page ≡ gone →
          one own + (count id kids + count id rest)
          ≤ count id (cond gone rest
          (grown i step slug body (without page kids) (without page rest))) →
          count id (without page kids) ≤ count id kids →
          count id (without page rest) ≤ count id rest →
          (count id kids ≤ count id (without page kids) →
          without page (rebodied id change kids) ≡ rebodied id change (without page kids)) →
          (count id rest ≤ count id (without page rest) →
          without page (rebodied id change rest) ≡ rebodied id change (without page rest)) →
          After own gone
      choice true true own gone few below after in_kids in_rest =
          let no : ⊥ = omega (arith, few) in absurd no
      choice true false own gone few below after in_kids in_rest = rw (gone, own) refl
      choice false true own gone few below after in_kids in_rest = rw gone refl
      choice false false own gone few below after in_kids in_rest =
          let same = rw own at few in
          let kids_left : count id kids ≤ count id (without page kids) =
          omega (arith, same, below, after) in
          let rest_left : count id rest ≤ count id (without page rest) =
          omega (arith, same, below, after) in
          rw (gone, own, in_kids kids_left, in_rest rest_left) refl

-- pages that a cut leaves get the same bodies before the cut and after it
cut_rebodied : (part : TreePart) (moment first page : ℕ) (aliases : List ℕ) (tree : Forest Body) →
    AllByRecursion (λ (id : ℕ). count id tree ≤ count id (without page tree)) aliases →
    without page (each_rebodied part moment first aliases tree)
    ≡ each_rebodied part moment first aliases (without page tree)
cut_rebodied part moment first page [] tree left = refl
cut_rebodied part moment first page (alias ∷ aliases) tree left =
    let change = detached_body part.tree moment first in
    let same = without-rebodied alias page change tree left.0 in
    cut_rebodied part moment (first + 1) page aliases (rebodied alias change tree)
    (still_left change same aliases left.1)
    ∙ ap (λ (f : Forest Body). each_rebodied part moment (first + 1) aliases f) same
  where
    still_left : (change : Body → Body) →
        without page (rebodied alias change tree) ≡ rebodied alias change (without page tree) →
        (ids : List ℕ) →
        AllByRecursion (λ (id : ℕ). count id tree ≤ count id (without page tree)) ids →
        AllByRecursion (λ (id : ℕ). count id (rebodied alias change tree)
        ≤ count id (without page (rebodied alias change tree))) ids
    still_left change same [] all = tt
    still_left change same (id ∷ ids) all = (
      let before = count-rebodied alias change id tree in
          let after = count-rebodied alias change id (without page tree) in
          let cut = ap (λ (f : Forest Body). count id f) same in
          let old = all.0 in
          omega (arith, before, after, cut, old),
      still_left change same ids all.1,
    )

module _ (from : TreePart) (moment caller : ℕ) where
  -- the tree that is made
  as_tree : (aliases : List ℕ) (part : TreePart) →
      (each_as from moment caller aliases part).tree
      ≡ each_rebodied from moment part.next_revision aliases part.tree
  as_tree [] part = refl
  as_tree (alias ∷ aliases) part = as_tree aliases (detached_as from moment caller alias part)

  -- the revisions that are made
  as_revisions : (aliases : List ℕ) (part : TreePart) →
      (each_as from moment caller aliases part).revisions
      ≡ part.revisions ++ detached_revisions from moment caller part.next_revision aliases
  as_revisions [] part = sym (append-nil part.revisions)
  as_revisions (alias ∷ aliases) part =
      as_revisions aliases (detached_as from moment caller alias part)
      ∙ append_assoc part.revisions _
      (detached_revisions from moment caller (part.next_revision + 1) aliases)

  -- the next id
  as_next : (aliases : List ℕ) (part : TreePart) →
      (each_as from moment caller aliases part).next_revision ≡ part.next_revision + length aliases
  as_next [] part = omega arith
  as_next (alias ∷ aliases) part =
      let more = as_next aliases (detached_as from moment caller alias part) in
      omega (arith, more)

-- what no alias that becomes a regular page changes
only_these : (now caller : ℕ) (aliases : List ℕ) (part : TreePart) →
    each_detached now caller aliases part
    ≡ record part {
      time = (each_detached now caller aliases part).time;
      next_revision = (each_detached now caller aliases part).next_revision;
      tree = (each_detached now caller aliases part).tree;
      revisions = (each_detached now caller aliases part).revisions;
    }
only_these now caller aliases part =
    kept_by_each
    (λ made. made ≡ record part {
      time = made.time;
      next_revision = made.next_revision;
      tree = made.tree;
      revisions = made.revisions;
    }) now caller
    (λ made alias is. ap
    (λ (one : TreePart). record one {
      time = (with_detached made now caller alias).time;
      next_revision = (with_detached made now caller alias).next_revision;
      tree = (with_detached made now caller alias).tree;
      revisions = (with_detached made now caller alias).revisions;
    }) is) aliases part refl

-- the time of a deletion
each_time : (now caller : ℕ) (aliases : List ℕ) (part : TreePart) →
    time_at (each_detached now caller aliases part) now ≡ time_at part now
each_time now caller aliases part =
    kept_by_each (λ made. time_at made now ≡ time_at part now) now caller
    (λ made alias is. later made.time now ∙ is) aliases part refl
  where
    later : (before now : ℕ) → max (max before now) now ≡ max before now
    later before now = omega arith

-- two tests that agree on each keep the same
filter_same : {X : Type 0} (p q : X → Bool) (xs : List X) → ((x : X) → p x ≡ q x) →
    filter p xs ≡ filter q xs
filter_same p q [] same = refl
filter_same p q (x ∷ xs) same = rw (same x, filter_same p q xs same) refl

-- the revisions of aliases that stay are kept
new_kept : (part : TreePart) (gone : Forest Body) (moment caller first : ℕ) (aliases : List ℕ) →
    AllByRecursion (λ (id : ℕ). has_page id gone ≡ false) aliases →
    filter (λ (revision : Revision). not (has_page revision.page gone))
    (detached_revisions part moment caller first aliases)
    ≡ detached_revisions part moment caller first aliases
new_kept part gone moment caller first [] out = refl
new_kept part gone moment caller first (alias ∷ aliases) out =
    rw (out.0, new_kept part gone moment caller (first + 1) aliases out.1) refl

-- no alias that is left goes
aliases_stay : (part : TreePart) (page : ℕ) →
    AllByRecursion (λ (id : ℕ). has_page id (node_of page part.tree) ≡ false)
    (aliases_left part page)
aliases_stay part page =
    losing_all (λ id. has_page id gone ≡ false) gone (rows_of part.tree) (each (rows_of part.tree))
  where
    gone : Forest Body
    gone = node_of page part.tree

    outside : (t u : Bool) → (not t && u) ≡ true → t ≡ false
    outside true u is = absurd (cc)
    outside false u is = refl

    each : (rows : List (Row Body)) →
        AllByRecursion (λ (row : Row Body). loses_source gone row ≡ true →
        has_page row.id gone ≡ false) rows
    each [] = tt
    each (row ∷ rows) = (
      (λ loses. outside (has_page row.id gone) (is_source_gone gone row.body.source) loses),
      each rows,
    )

-- What a deletion makes of a sound world is told at once by the world before.
pub deletion_at_once : (part : TreePart) (now caller page : ℕ) → IsSoundPart part →
    with_deleted part now caller page ≡ deleted_at_once part now caller page
deletion_at_once part now caller page sound =
    ap
    (λ (one : TreePart). record one {
      time = time_at made now;
      tree = without page made.tree;
      revisions = filter (λ revision. not (has_page revision.page (node_of page made.tree)))
          made.revisions;
      grants = filter (λ grant. not (has_page grant.page (node_of page made.tree))) one.grants;
    }) (only_these now caller aliases part)
    ∙ rw (time, next, tree, revisions, grants) refl
  where
    aliases : List ℕ
    aliases = aliases_left part page

    moment : ℕ
    moment = time_at part now

    gone : Forest Body
    gone = node_of page part.tree

    made : TreePart
    made = each_detached now caller aliases part

    all_as : made ≡ each_as part moment caller aliases part
    all_as = detached_as_before part now caller page (loosened part (groups_of part sound))

    time : time_at made now ≡ moment
    time = each_time now caller aliases part

    next : made.next_revision ≡ part.next_revision + length aliases
    next = ap (λ (one : TreePart). one.next_revision) all_as
        ∙ as_next part moment caller aliases part

    left : AllByRecursion (λ (id : ℕ). count id part.tree ≤ count id (without page part.tree))
        aliases
    left = all_weaker (λ (id : ℕ). has_page id gone ≡ false) _ aliases
        (λ id out.
        let none = none_counts id gone out in
        let cut = cut_counts page id part.tree (once part.tree sound.pages.distinct page) in
        omega (arith, none, cut)) (aliases_stay part page)

    tree : without page made.tree
        ≡ each_rebodied part moment part.next_revision aliases (without page part.tree)
    tree = ap (λ (one : TreePart). without page one.tree) all_as
        ∙ ap (λ (f : Forest Body). without page f) (as_tree part moment caller aliases part)
        ∙ cut_rebodied part moment part.next_revision page aliases part.tree left

    same_gone : (id : ℕ) → has_page id (node_of page made.tree) ≡ has_page id gone
    same_gone id = choice (has_page id (node_of page made.tree)) refl
      where
        choice : (t : Bool) → has_page id (node_of page made.tree) ≡ t →
            has_page id (node_of page made.tree) ≡ has_page id gone
        choice true is = is ∙ sym (each_inside now caller aliases part page id is)
        choice false is = is ∙ sym (each_outside now caller aliases part page id is)

    revisions : filter
        (λ (revision : Revision). not (has_page revision.page (node_of page made.tree)))
        made.revisions
        ≡ filter (λ (revision : Revision). not (has_page revision.page gone)) part.revisions
        ++ detached_revisions part moment caller part.next_revision aliases
    revisions =
        filter_same _ (λ (revision : Revision). not (has_page revision.page gone)) made.revisions
        (λ revision. ap not (same_gone revision.page))
        ∙ ap (λ (list : List Revision).
        filter (λ (revision : Revision). not (has_page revision.page gone)) list)
        (ap (λ (one : TreePart). one.revisions) all_as
        ∙ as_revisions part moment caller aliases part)
        ∙ filter-append (λ (revision : Revision). not (has_page revision.page gone))
        part.revisions (detached_revisions part moment caller part.next_revision aliases)
        ∙ ap (λ (list : List Revision).
        filter (λ (revision : Revision). not (has_page revision.page gone)) part.revisions ++ list)
        (new_kept part gone moment caller part.next_revision aliases (aliases_stay part page))

    grants : filter (λ (grant : Grant). not (has_page grant.page (node_of page made.tree)))
        part.grants
        ≡ filter (λ (grant : Grant). not (has_page grant.page gone)) part.grants
    grants = filter_same _ _ part.grants (λ grant. ap not (same_gone grant.page))
