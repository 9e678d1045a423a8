-- The rules of a deletion, as the plan finds them: by the number of the aliases that are left, and by
-- what their contents take.
use Rattle.std.proofs.Common.{◌≡◌, ◌+◌, ◌≤◌, ◌<◌, ℕ, Bool, true, false, not, List, [], ◌∷◌, ◌++◌, length, Option, Some, None, filter, nat_lt, refl, sym, ap, subst, ◌∙◌, arith}
use Rattle.std.proofs.lemmas.Bool.Decides.{nat_tests}
use Rattle.page_tree.specs.Tree.{has_page, node_of}
use Rattle.site_ids.specs.declared.ids.TheConstants.{LAST_REVISION_ID}
use Rattle.site_types.specs.declared.refusal.Refusal.TheVariants.{IdsFull, ContentFull}
use Rattle.site_types.specs.declared.revision.Revision.{Revision}
use Rattle.site_model.specs.World as worlds
use Rattle.site_model.specs.Delete.{aliases_left, with_deleted, deleted_at_once, delete_rules, detached_revisions}
use Rattle.site_model.specs.Limits.{MAX_CONTENTS, contents_length}
use Rattle.site_model.specs.Rules.{first_of, content_full}
use Rattle.site_model.specs.Sound.{IsSoundPart}
use Rattle.site_model.proofs.ContentLemmas.{contents_length-append, within_room, past_room, within, past}
use Rattle.site_model.proofs.DeletedForm.{deletion_at_once}
use Rattle.tree_edits.specs.Leaving.{AreDetached}
use Rattle.tree_edits.specs.declared.leaving.LeftAliases.{LeftAliases}

-- as many revisions as aliases
pub revisions_count : (part : worlds.TreePart) (moment caller first : ℕ) (aliases : List ℕ) →
    length (detached_revisions part moment caller first aliases) ≡ length aliases
revisions_count part moment caller first [] = refl
revisions_count part moment caller first (alias ∷ aliases) =
    let more = revisions_count part moment caller (first + 1) aliases in omega (arith, more)

-- what holds of a world that is the same
same_next : (one other : worlds.TreePart) → one ≡ other → one.next_revision ≡ other.next_revision
same_next one other is = ap (λ (p : worlds.TreePart). p.next_revision) is

-- the same part has the same revisions
same_revisions : (one other : worlds.TreePart) → one ≡ other → one.revisions ≡ other.revisions
same_revisions one other is = ap (λ (p : worlds.TreePart). p.revisions) is

module _ (part : worlds.TreePart) (now caller page : ℕ) (sound : IsSoundPart part) where
  -- the world after it, and the aliases that it leaves
  abbrev after : worlds.TreePart
  after = with_deleted part now caller page

  abbrev aliases : List ℕ
  aliases = aliases_left part page

  -- the revisions that stay, and those that come
  abbrev pub kept : List Revision
  kept = filter (λ (revision : Revision). not (has_page revision.page (node_of page part.tree)))
      part.revisions

  abbrev new : List Revision
  new = detached_revisions part (worlds.time_at part now) caller part.next_revision aliases

  -- the world after it has them
  next_is : after.next_revision ≡ part.next_revision + length aliases
  next_is = same_next after (deleted_at_once part now caller page)
      (deletion_at_once part now caller page sound)

  revisions_are : after.revisions ≡ kept ++ new
  revisions_are = same_revisions after (deleted_at_once part now caller page)
      (deletion_at_once part now caller page sound)

  -- too few ids are left
  pub deletion_ids : LAST_REVISION_ID + 1 < part.next_revision + length aliases →
      delete_rules part now caller page ≡ Some IdsFull
  deletion_ids over =
      let past_last : LAST_REVISION_ID + 1 < after.next_revision = omega (arith, over, next_is) in
      rw (past (LAST_REVISION_ID + 1) after.next_revision IdsFull past_last) refl

  module _ (fits : part.next_revision + length aliases ≤ LAST_REVISION_ID + 1) where
    -- there are enough
    rest_is : delete_rules part now caller page ≡ first_of (content_full after.revisions ∷ [])
    rest_is =
        let most : after.next_revision ≤ LAST_REVISION_ID + 1 = omega (arith, fits, next_is) in
        rw (within (LAST_REVISION_ID + 1) after.next_revision IdsFull most) refl

    -- how much the contents take
    sum_is : contents_length after.revisions ≡ contents_length kept + contents_length new
    sum_is = ap contents_length revisions_are ∙ contents_length-append kept new

    -- no room is left
    pub deletion_full : nat_lt MAX_CONTENTS (contents_length kept + contents_length new) ≡ true →
        delete_rules part now caller page ≡ Some ContentFull
    deletion_full over =
        let more : MAX_CONTENTS < contents_length kept + contents_length new =
        grind (arith, nat_tests) in
        let past_all : MAX_CONTENTS < contents_length after.revisions =
        omega (arith, more, sum_is) in
        rest_is ∙ rw (past_room after.revisions past_all) refl

    -- nothing is in the way
    pub deletion_clear : nat_lt MAX_CONTENTS (contents_length kept + contents_length new) ≡ false →
        delete_rules part now caller page ≡ None
    deletion_clear under =
        let less : contents_length kept + contents_length new ≤ MAX_CONTENTS =
        grind (arith, nat_tests) in
        let all_fit : contents_length after.revisions ≤ MAX_CONTENTS =
        omega (arith, less, sum_is) in
        rest_is ∙ rw (within_room after.revisions all_fit) refl

  -- a deletion that no rule refuses has enough ids
  pub deletion_fits_ids : delete_rules part now caller page ≡ None →
      part.next_revision + length aliases ≤ LAST_REVISION_ID + 1
  deletion_fits_ids clear = by (nat_lt (LAST_REVISION_ID + 1) (part.next_revision + length aliases))
      refl
    where
      by : (t : Bool) →
          nat_lt (LAST_REVISION_ID + 1) (part.next_revision + length aliases) ≡ t →
          part.next_revision + length aliases ≤ LAST_REVISION_ID + 1
      by false e = grind (arith, nat_tests)
      by true e =
          let over : LAST_REVISION_ID + 1 < part.next_revision + length aliases =
          grind (arith, nat_tests) in
          let full = deletion_ids over in
          let no : ◌≡◌ {A = Option _} None (Some IdsFull) = sym clear ∙ full in
          absurd (cc)

-- as many revisions come as aliases are left
pub left_count : (part : worlds.TreePart) (moment caller : ℕ) (aliases : List ℕ)
    (left : LeftAliases) → AreDetached part moment caller aliases left →
    length left.revisions ≡ length aliases
left_count part moment caller aliases left detached =
    ap (λ (ones : List Revision). length ones) detached.revisions
    ∙ revisions_count part moment caller part.next_revision aliases

-- they have ids
pub left_fit : (part : worlds.TreePart) (now caller page : ℕ) (left : LeftAliases) →
    IsSoundPart part → delete_rules part now caller page ≡ None →
    AreDetached part (worlds.time_at part now) caller (aliases_left part page) left →
    part.next_revision + length left.revisions ≤ LAST_REVISION_ID + 1
left_fit part now caller page left sound clear detached =
    let fits = deletion_fits_ids part now caller page sound clear in
    let same = left_count part (worlds.time_at part now) caller (aliases_left part page) left
    detached in
    omega (arith, fits, same)

-- what was made at this moment of these aliases
pub made_of : (part : worlds.TreePart) (moment time caller : ℕ) (aliases ids : List ℕ)
    (made : LeftAliases) → time ≡ moment → ids ≡ aliases → AreDetached part time caller ids made →
    AreDetached part moment caller aliases made
made_of part moment time caller aliases ids made time_is ids_are detached =
    subst (λ t. AreDetached part t caller aliases made) time_is
    (subst (λ xs. AreDetached part time caller xs made) ids_are detached)
