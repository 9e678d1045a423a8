-- Aliases that become regular pages once a page has gone: their bodies in the rows, and their
-- revisions.
use Rattle.std.proofs.Common.{◌≡◌, ◌+◌, ◌≤◌, ◌<◌, ℕ, Bool, true, false, not, ◌&&◌, nat_eq, List, [], ◌∷◌, ◌++◌, None, refl, sym, ap, subst, ◌∙◌, arith}
use Rattle.std.specs.List.{AllByRecursion}
use Rattle.page_tree.specs.Tree.{Forest, HasDistinctIds, has_page, node_of, without}
use Rattle.page_tree.specs.Rows.{Row, rows_of}
use Rattle.page_tree.proofs.RowLemmas.{has_page-rows}
use Rattle.site_types.specs.declared.body.Body.{Body}
use Rattle.site_types.specs.declared.revision.Revision.{Revision}
use Rattle.page_store.proofs.AllLemmas.{All-weaker, All-append}
use Rattle.tree_model.specs.Shape.{AllPages}
use Rattle.tree_model.proofs.CountLemmas.{one, count, once, same_id, id_found, has_counts, none_counts, cut_counts}
use Rattle.tree_model.proofs.PageLemmas.{AllPages-weaker, AllPages-without}
use Rattle.site_model.specs.World as worlds
use Rattle.site_model.specs.Aliases.{detached_body, shown_content}
use Rattle.site_model.specs.Bodies.{rebodied}
use Rattle.site_model.specs.Create.{plain_revision}
use Rattle.site_model.specs.Delete.{is_source_gone, loses_source, aliases_left, each_rebodied, detached_revisions}
use Rattle.site_model.proofs.AliasesLeft.{times, losing_all, listed_once, none_listed, all_aliases}
use Rattle.site_model.proofs.BodyLemmas.{AllPages-rebodied, count-rebodied, there-rebodied}
use Rattle.site_model.proofs.DetachSound.{IsAliasPage}
use Rattle.site_model.proofs.SourceLemmas.{found_is_there, found_alone}
use Rattle.flat_model.specs.Fits.{BodiesFit, RevisionsFit}
use Rattle.flat_model.specs.Made.{with_bodies}
use Rattle.page_store.specs.Changes.{with_body}
use Rattle.flat_model.proofs.BodyRows.{rows_become}
use Rattle.tree_edits.specs.Leaving.{body_at, IsAliasHere, detached_pairs}

-- each of these ids stands once
abbrev pub AreOnce : List ℕ → Type 0
AreOnce [] = Unit {0}
AreOnce (id ∷ ids) =
    AllByRecursion (λ (other : ℕ). other ≡ id → ⊥) ids × AreOnce ids

-- ids of which none is listed twice
once_each : (ids : List ℕ) → ((id : ℕ) → times id ids ≤ 1) → AreOnce ids
once_each [] few = tt
once_each (id ∷ ids) few =
    let own : one (nat_eq id id) + times id ids ≤ 1 = few id in
    let self : 1 + times id ids ≤ 1 = rw (same_id id) at own in
    (none_listed id ids (omega (arith, self)), once_each ids (later few))
  where
    later : ((j : ℕ) → times j (id ∷ ids) ≤ 1) → (j : ℕ) → times j ids ≤ 1
    later few j = let most : one (nat_eq id j) + times j ids ≤ 1 = few j in omega (arith, most)

-- a page that is counted is there
counted_there : (id : ℕ) (tree : Forest Body) → 1 ≤ count id tree → has_page id tree ≡ true
counted_there id tree some = by (has_page id tree) refl
  where
    by : (t : Bool) → has_page id tree ≡ t → has_page id tree ≡ true
    by true is = is
    by false is =
        let none = none_counts id tree is in
        let no : ⊥ = omega (arith, some, none) in absurd no

module _ (part : worlds.TreePart) (moment : ℕ) where
  -- a page of a tree that has what the world keeps of it
  abbrev Keeps : Forest Body → ℕ → Type 0
  Keeps tree id =
      AllPages (λ i slug own. i ≡ id → own ≡ body_at part.tree id) tree
      × (has_page id tree ≡ true)

  -- others keep it where one page gets another body
  still : (alias : ℕ) (change : Body → Body) (tree : Forest Body) (ids : List ℕ) →
      AllByRecursion (λ (other : ℕ). other ≡ alias → ⊥) ids → AllByRecursion (Keeps tree) ids →
      AllByRecursion (Keeps (rebodied alias change tree)) ids
  still alias change tree [] others keep = tt
  still alias change tree (id ∷ ids) others keep = (
    (
      AllPages-rebodied alias change (λ i slug own. i ≡ id → own ≡ body_at part.tree id) tree
          (λ slug own old here. absurd (others.0 (sym here))) keep.0.0,
      there-rebodied alias id change tree keep.0.1,
    ),
    still alias change tree ids others.1 keep.1,
  )

  -- the bodies fit one after another, and make the rows of the tree with them
  pub bodies_made : (aliases : List ℕ) (first : ℕ) (tree : Forest Body) →
      ((j : ℕ) → count j tree ≤ 1) → AreOnce aliases → AllByRecursion (Keeps tree) aliases →
      BodiesFit (detached_pairs part moment first aliases) (rows_of tree)
      × (with_bodies (detached_pairs part moment first aliases) (rows_of tree)
      ≡ rows_of (each_rebodied part moment first aliases tree))
  bodies_made [] first tree most each keep = (tt, refl)
  bodies_made (alias ∷ aliases) first tree most each keep =
      let change : Body → Body = detached_body part.tree moment first in
      let new : Body = change (body_at part.tree alias) in
      let pairs = detached_pairs part moment (first + 1) aliases in
      let same : rows_of (rebodied alias change tree) ≡ with_body alias new (rows_of tree) =
      rows_become alias change new tree (most alias)
      (AllPages-weaker (λ i slug own. i ≡ alias → own ≡ body_at part.tree alias)
      (λ i slug own. nat_eq i alias ≡ true → change own ≡ new) tree
      (λ i slug own keeps test. ap change (keeps (id_found i alias test))) keep.0.0) in
      let later = bodies_made aliases (first + 1) (rebodied alias change tree)
      (λ j. subst (λ n. n ≤ 1) (sym (count-rebodied alias change j tree)) (most j)) each.1
      (still alias change tree aliases each.0 keep.1) in (
        (
          sym (has_page-rows alias None [] [] tree) ∙ keep.0.1,
          subst (BodiesFit pairs) same later.0,
        ),
        ap (with_bodies pairs) (sym same) ∙ later.1,
      )

-- revisions of aliases may come behind revisions with lower ids
pub new_fit : (part : worlds.TreePart) (moment caller : ℕ) (aliases : List ℕ) (first : ℕ)
    (revisions : List Revision) →
    AllByRecursion (λ (older : Revision). older.id < first) revisions →
    RevisionsFit (detached_revisions part moment caller first aliases) revisions
new_fit part moment caller [] first revisions below = tt
new_fit part moment caller (alias ∷ aliases) first revisions below =
    let new : Revision = plain_revision first alias caller moment (shown_content part alias) in
    let next : first < first + 1 = omega arith in (
      below,
      new_fit part moment caller aliases (first + 1) (revisions ++ new ∷ [])
          (All-append (λ (older : Revision). older.id < first + 1) revisions (new ∷ [])
          (All-weaker (λ (older : Revision). older.id < first)
          (λ (older : Revision). older.id < first + 1)
          (λ older low. omega (arith, low)) revisions below) (next, tt)),
    )

module _ (part : worlds.TreePart) (page : ℕ) (distinct : HasDistinctIds part.tree) where
  -- the pages that go
  abbrev gone : Forest Body
  gone = node_of page part.tree

  -- the aliases that are left
  abbrev aliases : List ℕ
  aliases = aliases_left part page

  -- each is an alias
  pub aliases_here : AllByRecursion (IsAliasHere part.tree) aliases
  aliases_here =
      All-weaker (IsAliasPage part.tree) (IsAliasHere part.tree)
      (λ id alias. record {
        body = alias.body;
        found = alias.found;
        source = alias.source;
        is = alias.is;
      }) aliases (all_aliases gone part.tree distinct)

  -- none goes
  stay : AllByRecursion (λ (id : ℕ). has_page id gone ≡ false) aliases
  stay =
      losing_all (λ id. has_page id gone ≡ false) gone (rows_of part.tree)
      (each (rows_of part.tree))
    where
      outside : (t u : Bool) → (not t && u) ≡ true → t ≡ false
      outside true u is = absurd (cc)
      outside false u is = refl

      each : (rows : List (Row Body)) →
          AllByRecursion (λ (row : Row Body). loses_source gone row ≡ true →
          has_page row.id gone ≡ false) rows
      each [] = tt
      each (row ∷ rows) = (
        (λ loses. outside (has_page row.id gone) (is_source_gone gone row.body.source) loses),
        each rows,
      )

  -- each stands once
  pub aliases_once : AreOnce aliases
  aliases_once = once_each aliases (λ id. listed_once gone part.tree id distinct)

  -- the tree that is left has no page twice
  pub left_once : (j : ℕ) → count j (without page part.tree) ≤ 1
  left_once j =
      let sum = cut_counts page j part.tree (once part.tree distinct page) in
      let most = once part.tree distinct j in
      omega (arith, sum, most)

  -- and keeps what the world has of the aliases
  pub aliases_keep : (moment : ℕ) → AllByRecursion (Keeps part moment (without page part.tree)) aliases
  aliases_keep moment = both aliases aliases_here stay
    where
      both : (ids : List ℕ) → AllByRecursion (IsAliasHere part.tree) ids →
          AllByRecursion (λ (id : ℕ). has_page id gone ≡ false) ids →
          AllByRecursion (Keeps part moment (without page part.tree)) ids
      both [] here out = tt
      both (id ∷ ids) here out =
          let is : body_at part.tree id ≡ here.0.body = rw (here.0.found) refl in
          let all = AllPages-weaker (λ i slug one. i ≡ id → one ≡ here.0.body)
          (λ i slug one. i ≡ id → one ≡ body_at part.tree id) part.tree
          (λ i slug one same at. same at ∙ sym is)
          (found_alone part.tree id here.0.body distinct here.0.found) in
          let none = none_counts id gone out.0 in
          let sum = cut_counts page id part.tree (once part.tree distinct page) in
          let some = has_counts id part.tree
          (found_is_there part.tree id here.0.body here.0.found) in
          let left : 1 ≤ count id (without page part.tree) = omega (arith, none, sum, some) in (
            (
              AllPages-without (λ i slug one. i ≡ id → one ≡ body_at part.tree id) page part.tree
                  all,
              counted_there id (without page part.tree) left,
            ),
            both ids here.1 out.1,
          )
