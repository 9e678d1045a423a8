-- What a page shows, and what its copy gets, is there.
use Rattle.std.proofs.Common.{◌≡◌, ℕ, true, Option, Some, None, refl, sym, subst, ◌∙◌}
use Rattle.std.specs.Option.{option_map, IfSome}
use Rattle.page_tree.specs.Tree.{has_page}
use Rattle.site_types.specs.declared.body.Body.{Body}
use Rattle.site_types.specs.declared.revision.Revision.{Revision}
use Rattle.site_model.specs.World.{TreePart}
use Rattle.site_model.specs.Aliases.{content_with, shown_by}
use Rattle.site_model.specs.Bodies.{revision_with}
use Rattle.site_model.specs.Sound.{IsBody, AreBodies, HasOwn, IsRegular, is_own}
use Rattle.site_model.specs.Views.{body_of}
use Rattle.site_model.proofs.RegularLemmas.{kept_there, found_has}
use Rattle.flat_model.proofs.KeptPages.{own_found}
use Rattle.page_copies.specs.Contents.{copied_by}

-- nothing is left of nothing alone
left_of_none : (found : Option Revision) →
    option_map (λ (one : Revision). one.content) found ≡ None → found ≡ None
left_of_none None none = refl
left_of_none (Some revision) none = absurd (cc)

-- the content of a page's own revision is there
pub own_content : (part : TreePart) (page : ℕ) (id : Option ℕ) →
    is_own part.revisions page id ≡ true → content_with part id ≡ None → ⊥
own_content part page None own none = absurd (cc)
own_content part page (Some id) own none =
    own_found part.revisions page id own
    (left_of_none (revision_with id part.revisions) none)

-- an alias shows what its source has
pub shows_source : (part : TreePart) (body one : Body) (source : ℕ) → body.source ≡ Some source →
    body_of part.tree source ≡ Some one → shown_by part body ≡ content_with part one.shown
shows_source part body one source is found = rw (is, found) refl

-- and nothing where that is not there
pub shows_none : (part : TreePart) (body : Body) (source : ℕ) → body.source ≡ Some source →
    body_of part.tree source ≡ None → shown_by part body ≡ None
shows_none part body source is missing = rw (is, missing) refl

-- a copy of an alias gets what that shows
copies_shown : (part : TreePart) (body : Body) (source : ℕ) → body.source ≡ Some source →
    copied_by part body ≡ shown_by part body
copies_shown part body source is = rw is refl

-- a copy of a regular page gets its latest content
copies_latest : (part : TreePart) (body : Body) → body.source ≡ None →
    copied_by part body ≡ content_with part body.latest
copies_latest part body is = rw is refl

module _ (part : TreePart)
    (bodies : AreBodies part.tree part.revisions part.next_user part.next_workflow part.workflows)
  where
    -- a regular page has revisions of its own
    pub has_own : (page : ℕ) (body : Body) → (page ≡ 1 → ⊥) → has_page page part.tree ≡ true →
        body_of part.tree page ≡ Some body → body.source ≡ None → HasOwn part.revisions page body
    has_own page body below there found regular =
        (found_has (IsBody part.revisions part.next_user part.next_workflow part.workflows) page
        part.tree body bodies.bodies there found).regular below regular

    -- what an alias shows is there
    pub shown_there : (page : ℕ) (body : Body) → has_page page part.tree ≡ true →
        body_of part.tree page ≡ Some body → (source : ℕ) → body.source ≡ Some source →
        shown_by part body ≡ None → ⊥
    shown_there page body there found source is none =
        let regular : IsRegular part.tree source =
        subst (λ (o : Option ℕ). IfSome o (IsRegular part.tree)) is
        (found_has (λ id own. IfSome own.source (IsRegular part.tree)) page part.tree body
        bodies.sources there found) in
        let kept = kept_there source part.tree regular.1 in
        let own = has_own source kept.0 regular.0 regular.1 kept.1
        (found_has (λ id one. id ≡ source → one.source ≡ None) source part.tree kept.0 regular.2
        regular.1 kept.1 refl) in
        own_content part source kept.0.shown own.shown
        (sym (shows_source part body kept.0 source is kept.1) ∙ none)

    -- what a copy of a page below the root gets is there
    pub copied_there : (page : ℕ) (body : Body) → (page ≡ 1 → ⊥) → has_page page part.tree ≡ true →
        body_of part.tree page ≡ Some body → copied_by part body ≡ None → ⊥
    copied_there page body below there found none = by body.source refl
      where
        by : (o : Option ℕ) → body.source ≡ o → ⊥
        by None is =
            let own = has_own page body below there found is in
            own_content part page body.latest own.latest (sym (copies_latest part body is) ∙ none)
        by (Some source) is =
            shown_there page body there found source is
            (sym (copies_shown part body source is) ∙ none)
