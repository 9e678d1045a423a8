-- What is found of one page: what holds of each page holds of it, whether it is regular, and that
-- what it shows is within the limits of a content.
use Rattle.std.proofs.Common.{◌≡◌, ℕ, Bool, true, false, cond, ◌||◌, ◌&&◌, nat_eq, List, [], ◌∷◌, Option, None, Some, refl, sym, ap, ◌∙◌}
use Rattle.std.specs.Prelude.{IfSome}
use Rattle.std.specs.List.{AllByRecursion}
use Rattle.std.specs.Option.{option_map, unwrap_or}
use Rattle.page_tree.specs.Tree.{Forest, HasDistinctIds, has_page, node_of}
use Rattle.site_types.specs.Content.{FitsLimits}
use Rattle.site_types.specs.declared.body.Body.{Body}
use Rattle.site_types.specs.declared.revision.Revision.{Revision}
use Rattle.tree_model.specs.Shape.{AllPages}
use Rattle.tree_model.proofs.CountLemmas.{once, has_counts, node_found, none_counts, node_absent}
use Rattle.tree_model.proofs.PageLemmas.{AllPages-weaker}
use Rattle.site_model.specs.World.{TreePart}
use Rattle.site_model.specs.Views.{first_body, body_of}
use Rattle.site_model.specs.Bodies.{revision_with}
use Rattle.site_model.specs.Aliases.{content_with, shown_by, no_content}
use Rattle.site_model.specs.Copies.{copied_content}
use Rattle.site_model.specs.Sound.{IsRegular, is_own}
use Rattle.site_model.proofs.BodyLemmas.{AllPages-found}
use Rattle.site_model.proofs.BodySound.{IsKept}
use Rattle.site_model.proofs.LooseGroups.{AreLoose}
use Rattle.site_model.proofs.RegularLemmas.{found_has, regular_source}

-- What is found of a page.
pub record IsFound (tree : Forest Body) (page : ℕ) : Type 0 where
  pub body : Body
  pub is : body_of tree page ≡ Some body

-- what is in two options that are the same
pub same_body : (a b : Body) → ◌≡◌ {A = Option Body} (Some a) (Some b) → a ≡ b
same_body a b h = cc

-- of a page that is there something is found
pub body_there : (tree : Forest Body) (page : ℕ) → has_page page tree ≡ true → IsFound tree page
body_there tree page there =
    let node = node_found page tree (has_counts page tree there) in
    record { body = node.body; is = ap (λ (f : Forest Body). first_body f) node.is }

-- a page of which something is found is there
pub found_is_there : (tree : Forest Body) (page : ℕ) (body : Body) →
    body_of tree page ≡ Some body → has_page page tree ≡ true
found_is_there tree page body is = choice (has_page page tree) refl
  where
    choice : (t : Bool) → has_page page tree ≡ t → has_page page tree ≡ true
    choice true e = e
    choice false e =
        let gone = ap (λ (f : Forest Body). first_body f)
        (node_absent page tree (none_counts page tree e)) in absurd (cc)

-- what holds of each page holds of what is found of one
pub body_holds : (P : ℕ → Body → Type 0) (tree : Forest Body) (page : ℕ) (body : Body) →
    AllPages (λ id slug own. P id own) tree → body_of tree page ≡ Some body → P page body
body_holds P tree page body all is =
    found_has P page tree body all (found_is_there tree page body is) is

-- where no two pages have one id, each page with an id is what is found of it
pub found_alone : (tree : Forest Body) (page : ℕ) (body : Body) → HasDistinctIds tree →
    body_of tree page ≡ Some body → AllPages (λ id slug own. id ≡ page → own ≡ body) tree
found_alone tree page body distinct is =
    AllPages-weaker (λ id slug own. id ≡ page → first_body (node_of page tree) ≡ Some own)
    (λ id slug own. id ≡ page → own ≡ body) tree
    (λ id slug own found same. same_body own body (sym (found same) ∙ is))
    (AllPages-found page tree (once tree distinct page))

-- a revision that is found by an id has a content within its limits, where there is one
revision_fits : (id page : ℕ) (revisions : List Revision) →
    AllByRecursion (λ (revision : Revision). FitsLimits revision.content) revisions →
    is_own revisions page (Some id) ≡ true →
    FitsLimits
    (unwrap_or (option_map (λ (revision : Revision). revision.content) (revision_with id revisions))
    no_content)
revision_fits id page [] all own = absurd (cc)
revision_fits id page (revision ∷ revisions) all own =
    choice (nat_eq revision.id id) own (revision_fits id page revisions all.1)
  where
    Fits : Option Revision → Type 0
    Fits found = FitsLimits
        (unwrap_or (option_map (λ (one : Revision). one.content) found) no_content)

    choice : (t : Bool) →
        ((t && nat_eq revision.page page) || is_own revisions page (Some id)) ≡ true →
        (is_own revisions page (Some id) ≡ true → Fits (revision_with id revisions)) →
        Fits (cond t (Some revision) (revision_with id revisions))
    choice true h more = all.0
    choice false h more = more h

-- a page's own revision has a content within its limits
pub own_fits : (part : TreePart) (page : ℕ) (id : Option ℕ) → AreLoose part →
    is_own part.revisions page id ≡ true → FitsLimits (unwrap_or (content_with part id) no_content)
own_fits part page None sound own = absurd (cc)
own_fits part page (Some id) sound own =
    revision_fits id page part.revisions sound.revisions.contents own

-- what a page other than the root shows is within the limits of a content
pub shown_fits : (part : TreePart) (page : ℕ) (body : Body) → AreLoose part → (page ≡ 1 → ⊥) →
    IsKept part page body → IfSome body.source (IsRegular part.tree) →
    FitsLimits (unwrap_or (shown_by part body) no_content)
shown_fits part page body sound below kept is = by body.source refl is
  where
    by : (source : Option ℕ) → body.source ≡ source → IfSome source (IsRegular part.tree) →
        FitsLimits (unwrap_or (shown_by part body) no_content)
    by None at regular =
        rw at (own_fits part page body.shown sound (kept.regular below at).shown)
    by (Some source) at regular =
        let found = body_there part.tree source regular.1 in
        let other = body_holds (λ id own. IsKept part id own) part.tree source found.body
        sound.bodies.bodies found.is in
        let none = regular_source part.tree source regular found.body found.is in
        rw (at, found.is)
        (own_fits part source found.body.shown sound (other.regular regular.0 none).shown)

-- what a copy of a page other than the root has is within the limits of a content
pub copied_fits : (part : TreePart) (page : ℕ) (body : Body) → AreLoose part →
    (page ≡ 1 → ⊥) → IsKept part page body → IfSome body.source (IsRegular part.tree) →
    FitsLimits (copied_content part body)
copied_fits part page body sound below kept is = by body.source refl
  where
    by : (source : Option ℕ) → body.source ≡ source → FitsLimits (copied_content part body)
    by None same =
        rw same (own_fits part page body.latest sound (kept.regular below same).latest)
    by (Some source) same =
        rw same (rw same at (shown_fits part page body sound below kept is))
