-- What a change tells of pages and contents, where their rows name revisions that are there.
use Rattle.std.proofs.Common.{◌≡◌, ℕ, Bool, true, false, cond, nat_eq, List, [], ◌∷◌, ◌++◌, ◌||◌, Option, Some, None, IsSome, map, refl, sym, ap, subst, ◌∙◌, arith, rules}
use Rattle.std.proofs.lemmas.Bool.Decides.{nat_tests}
use Rattle.std.proofs.lemmas.List.Folds.{find-append}
use Rattle.std.specs.List.{list_any}
use Rattle.std.specs.Option.{IfSome, option_map, option_or}
use Rattle.site_types.specs.declared.body.Body.{Body}
use Rattle.site_types.specs.declared.page_row.PageRow.{PageRow}
use Rattle.site_types.specs.declared.revision.Revision.{Revision}
use Rattle.step_path.specs.Path.{steps_of}
use Rattle.page_store.specs.PageRows.{seen_row, parent_id}
use Rattle.page_tree.specs.Rows.{row_with}
use Rattle.page_store.specs.Pages.{Page}
use Rattle.page_store.specs.Changes.{with_body}
use Rattle.publishing.specs.Times.{body_in}
use Rattle.publishing.proofs.BodyLemmas.{body_in-with_body, body_in-with_row}
use Rattle.revision_shelf.specs.Shelf.{revision_with}
use Rattle.flat_model.specs.Fits.{BodiesFit, PagesFit}
use Rattle.flat_model.specs.Made.{with_bodies, with_page, with_pages}
use Rattle.link_plans.specs.PageLinks.{content_in}
use Rattle.link_plans.specs.Told.{SameContents, NamesThere, body_told, content_told, fate}
use Rattle.link_plans.specs.declared.fates.Fate.{Fate}

-- what two lists tell one after the other
pub told_append : (one other : List Fate) (page : ℕ) (was : Option Body) →
    body_told (one ++ other) page was ≡ body_told other page (body_told one page was)
told_append [] other page was = refl
told_append (first ∷ one) other page was =
    told_append one other page (cond (nat_eq page first.page) first.body was)

-- what is kept of a page after pages that are there got these fields
pub told_bodies : (bodies : List (ℕ × Body)) (pages : List Page) (page : ℕ) →
    BodiesFit bodies pages →
    body_in page (with_bodies bodies pages)
    ≡ body_told (map (λ (one : ℕ × Body). fate one.0 (Some one.1)) bodies) page (body_in page pages)
told_bodies [] pages page fits = refl
told_bodies (one ∷ bodies) pages page fits =
    told_bodies bodies (with_body one.0 one.1 pages) page fits.1
    ∙ ap (λ (was : Option Body).
    body_told (map (λ (one : ℕ × Body). fate one.0 (Some one.1)) bodies) page was)
    (body_in-with_body one.0 page one.1 pages ∙ by (row_with one.0 pages) fits.0)
  where
    turned : nat_eq one.0 page ≡ nat_eq page one.0
    turned = choice (nat_eq one.0 page) refl
      where
        choice : (t : Bool) → nat_eq one.0 page ≡ t → t ≡ nat_eq page one.0
        choice true h = grind (arith, nat_tests)
        choice false h = grind (arith, nat_tests)

    by : (found : Option Page) → IsSome found →
        cond (nat_eq one.0 page)
        (option_map (λ (old : Body). one.1) (option_map (λ (row : Page). row.body) found))
        (body_in page pages)
        ≡ cond (nat_eq page one.0) (Some one.1) (body_in page pages)
    by None there = absurd (search (rules, there))
    by (Some row) there = rw turned refl

-- no revision that comes has the id of one that is named
abbrev pub AreOthers : List Revision → List Revision → Type 0
AreOthers new revisions =
    (id : ℕ) → IsSome (revision_with id revisions) → revision_with id new ≡ None

-- what is named before a change is told as it was
named_before : (new revisions : List Revision) (name : Option ℕ) → AreOthers new revisions →
    IfSome name (λ id. IsSome (revision_with id revisions)) →
    content_told new revisions name ≡ content_in revisions name
named_before new revisions None others there = refl
named_before new revisions (Some id) others there = rw (others id there) refl

-- what is named after a change is told as it is then
named_after : (new revisions left : List Revision) (name : Option ℕ) → AreOthers new revisions →
    ((id : ℕ) → IsSome (revision_with id left) →
    revision_with id left ≡ revision_with id revisions) →
    IfSome name (λ id. IsSome (revision_with id (left ++ new))) →
    content_told new revisions name ≡ content_in (left ++ new) name
named_after new revisions left None others stay there = refl
named_after new revisions left (Some id) others stay there =
    ap (option_map (λ (revision : Revision). revision.content))
    (by (revision_with id left) refl
    ∙ sym (find-append (λ (revision : Revision). nat_eq revision.id id) left new))
  where
    all : (found : Option Revision) → revision_with id left ≡ found → IsSome found →
        revision_with id revisions ≡ found
    all found is some = sym (stay id (rw is some)) ∙ is

    either : (o : Option Revision) → revision_with id new ≡ o → IsSome (option_or None o) →
        option_or o (revision_with id revisions) ≡ o
    either None is some = absurd (search (rules, some))
    either (Some one) is some = refl

    by : (found : Option Revision) → revision_with id left ≡ found →
        option_or (revision_with id new) (revision_with id revisions)
        ≡ option_or found (revision_with id new)
    by None is =
        let some : IsSome (option_or None (revision_with id new)) =
        subst (λ (o : Option Revision). IsSome (option_or o (revision_with id new))) is
        (rw (find-append (λ (revision : Revision). nat_eq revision.id id) left new) at there) in
        either (revision_with id new) refl some
    by (Some one) is =
        let was = all (Some one) is (search rules) in
        rw (others id (rw was (search rules)), was) refl

-- a page before a change has the contents that it tells
pub same_before : (new revisions : List Revision) (body : Body) → AreOthers new revisions →
    NamesThere revisions body →
    SameContents (content_told new revisions) (content_in revisions) body
same_before new revisions body others there =
    record {
      latest = named_before new revisions body.latest others there.latest;
      shown = named_before new revisions body.shown others there.shown;
    }

-- so has a page after it
pub same_after : (new revisions left : List Revision) (body : Body) → AreOthers new revisions →
    ((id : ℕ) → IsSome (revision_with id left) →
    revision_with id left ≡ revision_with id revisions) →
    NamesThere (left ++ new) body →
    SameContents (content_told new revisions) (content_in (left ++ new)) body
same_after new revisions left body others stay there =
    record {
      latest = named_after new revisions left body.latest others stay there.latest;
      shown = named_after new revisions left body.shown others stay there.shown;
    }

-- what is told of pages that go
pub told_gone : (gone : List ℕ) (page : ℕ) (was : Option Body) →
    body_told (map (λ (id : ℕ). fate id None) gone) page was
    ≡ cond (list_any (λ (id : ℕ). nat_eq id page) gone) None was
told_gone [] page was = refl
told_gone (id ∷ gone) page was =
    told_gone gone page (cond (nat_eq page id) None was)
    ∙ rw (turned (nat_eq page id) refl)
    (by (nat_eq id page) (list_any (λ (other : ℕ). nat_eq other page) gone))
  where
    turned : (t : Bool) → nat_eq page id ≡ t → nat_eq page id ≡ nat_eq id page
    turned true h = grind (arith, nat_tests)
    turned false h = grind (arith, nat_tests)

    by : (t u : Bool) → cond u None (cond t None was) ≡ cond (t || u) None was
    by true true = refl
    by true false = refl
    by false u = refl

-- rows that come one after another are told
pub told_rows : (new : List (PageRow × List ℕ)) (pages : List Page) → PagesFit new pages →
    (page : ℕ) →
    body_in page (with_pages new pages)
    ≡ body_told (map (λ (row : PageRow × List ℕ). fate row.0.id (Some row.0.body)) new) page
    (body_in page pages)
told_rows [] pages fits page = refl
told_rows (new ∷ more) pages fits page =
    told_rows more (with_page new pages) fits.2 page
    ∙ ap (λ (was : Option Body).
    body_told (map (λ (row : PageRow × List ℕ). fate row.0.id (Some row.0.body)) more) page was)
    (body_in-with_row (seen_row new.0 (parent_id (steps_of new.0.path) pages) new.1) page pages
    fits.0.new_id
    ∙ rw (turned (nat_eq new.0.id page) refl) refl)
  where
    turned : (t : Bool) → nat_eq new.0.id page ≡ t → nat_eq new.0.id page ≡ nat_eq page new.0.id
    turned true h = grind (arith, nat_tests)
    turned false h = grind (arith, nat_tests)
