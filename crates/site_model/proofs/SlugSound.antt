-- Another slug keeps a world sound.
use Rattle.std.proofs.Common.{◌≡◌, ◌≤◌, ℕ, true, List, [], ◌∷◌, length, None, refl, sym, subst, arith}
use Rattle.std.specs.Prelude.{IfSome}
use Rattle.std.specs.List.{AllByRecursion}
use Rattle.std.specs.Str.{bytes_eq}
use Rattle.page_tree.specs.Tree.{Forest, bare, grown, has_page, kids_of, kid_with_slug, without}
use Rattle.page_tree.specs.Rows.{Row, rows_of}
use Rattle.step_path.specs.declared.step.TheConstants.{LAST_STEP}
use Rattle.site_ids.specs.Moment.{IsMoment}
use Rattle.site_ids.specs.Slug.{IsSlug}
use Rattle.site_types.specs.declared.body.Body.{Body}
use Rattle.site_types.specs.declared.revision.Revision.{Revision}
use Rattle.site_types.specs.declared.refusal.Refusal.TheVariants.{NothingNew, UrlTooLong}
use Rattle.site_types.specs.declared.world_rows.Grant.{Grant}
use Rattle.tree_model.specs.Limits.{MAX_URL}
use Rattle.tree_model.specs.Places.{parent_in, slug_in}
use Rattle.tree_model.specs.Renames.{renamed}
use Rattle.tree_model.specs.Shape.{IsWhole}
use Rattle.tree_model.proofs.CountLemmas.{count, once, distinct_ids, has_counts, counts_has, cut_counts}
use Rattle.tree_model.proofs.PageLemmas.{all_weaker}
use Rattle.tree_model.proofs.ParentLemmas.{parent_found}
use Rattle.tree_model.proofs.PlaceLemmas.{AtParent-kids}
use Rattle.tree_model.proofs.RenameLemmas.{AllPages-renamed, count-renamed, AreRising-renamed, AreWithin-renamed, height-renamed, SlugsDiffer-renamed}
use Rattle.tree_model.proofs.SiblingLemmas.{free-without}
use Rattle.tree_model.proofs.WholeLemmas.{whole-renamed}
use Rattle.site_model.specs.World.{TreePart}
use Rattle.site_model.specs.Rules.{slug_taken, url_too_long}
use Rattle.site_model.specs.Slugs.{effect_refusal, slug_rules, with_slug}
use Rattle.site_model.specs.Sound.{IsTree, IsBody, IsRegular, IsGiven}
use Rattle.site_model.proofs.ClearLemmas.{first_clear, else_clear, test_clear, slug_clear, urls_clear}
use Rattle.site_model.proofs.Groups.{AreGroups}
use Rattle.site_model.proofs.RegularLemmas.{KeepRegular, sources_stay}

-- no slug is empty, as the root's is
root_free : (new : List ℕ) (f : Forest Body) → IsSlug new → IsWhole f → kid_with_slug new f ≡ None
root_free new f fits whole =
    subst (λ g. kid_with_slug new g ≡ None) (sym whole.is)
    (choice new fits.not_empty)
  where
    choice : (text : List ℕ) → 1 ≤ length text →
        kid_with_slug text (grown 1 1 [] whole.own whole.kids bare) ≡ None
    choice [] some = let no : ⊥ = omega arith in absurd no
    choice (x ∷ xs) some = refl

-- What no rule refused says of another slug.
record IsClear (tree : Forest Body) (id : ℕ) (new : List ℕ) : Type 0 where
  pub free : kid_with_slug new (kids_of (parent_in tree id) (without id tree)) ≡ None
  pub urls :
      AllByRecursion (λ (row : Row Body). length row.url ≤ MAX_URL) (rows_of (renamed id new tree))

-- the rules, one by one
clear : (tree : Forest Body) (page : ℕ) (new : List ℕ) → slug_rules tree page new ≡ None →
    IsClear tree page new
clear tree page new none =
    let effect = else_clear (bytes_eq (slug_in tree page) new) NothingNew
    (effect_refusal tree page new) none in
    let taken = first_clear (slug_taken (without page tree) (parent_in tree page) new) _ effect in
    let long = first_clear (url_too_long (rows_of (renamed page new tree))) [] taken.1 in
    record {
      free = slug_clear (kid_with_slug new (kids_of (parent_in tree page) (without page tree)))
          taken.0;
      urls = urls_clear (rows_of (renamed page new tree)) (test_clear _ UrlTooLong long.0);
    }

-- the tree with another slug
tree_renamed : (tree : Forest Body) (next page : ℕ) (new : List ℕ) → IsTree tree next →
    IsSlug new → (1 ≡ page → ⊥) → slug_rules tree page new ≡ None →
    IsTree (renamed page new tree) next
tree_renamed tree next page new sound fits other none =
    let clear = clear tree page new none in
    let p = parent_in tree page in
    let each = once tree sound.distinct in
    let sum = cut_counts page p tree (each page) in
    let most = each p in
    let left_once : count p (without page tree) ≤ 1 = omega (arith, sum, most) in
    let under = parent_found page p None [] [] tree (each page) refl in
    record {
      whole = whole-renamed page new tree other sound.whole;
      distinct = distinct_ids (renamed page new tree) (λ j.
          let same = count-renamed j page new tree in
          let most = each j in omega (arith, same, most));
      next_page = sound.next_page;
      page_ids = AllPages-renamed (λ id slug body. IsGiven next id) page new tree
          (λ id slug body given. given) sound.page_ids;
      rising = AreRising-renamed page 0 new tree sound.rising;
      steps = AreWithin-renamed LAST_STEP page new tree sound.steps;
      depth = let same = height-renamed page new tree in omega (arith, same, sound.depth);
      urls = clear.urls;
      slugs = AllPages-renamed (λ id slug body. (id ≡ 1 → ⊥) → IsSlug slug) page new tree
          (λ id slug body old below. fits) sound.slugs;
      siblings = SlugsDiffer-renamed page p 0 new tree under
          (AtParent-kids p (λ kids. kid_with_slug new kids ≡ None) (without page tree) left_once
          clear.free)
          (λ same. free-without new page tree (root_free new tree fits sound.whole))
          sound.siblings;
    }

-- the regular pages are kept by another slug for one
pub slug_keeps_regular : (tree : Forest Body) (page : ℕ) (new : List ℕ) →
    KeepRegular tree (renamed page new tree)
slug_keeps_regular tree page new one regular =
    let some = has_counts one tree regular.1 in
    let same = count-renamed one page new tree in (
      regular.0,
      counts_has one (renamed page new tree) (omega (arith, some, same)),
      AllPages-renamed (λ id slug body. id ≡ one → body.source ≡ None) page new tree
          (λ id slug body is. is) regular.2,
    )

-- the world with a new slug that no rule refuses is sound
pub slug_keeps_sound : (part : TreePart) (now page : ℕ) (new : List ℕ) → AreGroups part →
    IsMoment now → IsSlug new →
    (1 ≡ page → ⊥) → slug_rules part.tree page new ≡ None →
    AreGroups (with_slug part now page new)
slug_keeps_sound part now page new sound moment fits other none =
    let tree = part.tree in
    let after = renamed page new tree in
    let stays = λ (id : ℕ) (old : has_page id tree ≡ true).
    let some = has_counts id tree old in
    let same = count-renamed id page new tree in
    counts_has id after (omega (arith, some, same)) in
    record {
      time = omega (arith, sound.time, moment);
      pages = tree_renamed tree part.next_page page new sound.pages fits other none;
      revisions = record {
        next_revision = sound.revisions.next_revision;
        revision_ids = sound.revisions.revision_ids;
        revisions_rise = sound.revisions.revisions_rise;
        revisions_have_pages = all_weaker
            (λ (revision : Revision). has_page revision.page tree ≡ true)
            (λ (revision : Revision). has_page revision.page after ≡ true) part.revisions
            (λ revision old. stays revision.page old) sound.revisions.revisions_have_pages;
        revisions_below_root = sound.revisions.revisions_below_root;
        authors = sound.revisions.authors;
        moments = sound.revisions.moments;
        contents = sound.revisions.contents;
        contents_fit = sound.revisions.contents_fit;
      };
      bodies = record {
        bodies = AllPages-renamed
            (λ id slug body. IsBody part.revisions part.next_user part.next_workflow
            part.workflows id body) page new tree (λ id slug body is. is) sound.bodies.bodies;
        sources = sources_stay tree after after (slug_keeps_regular tree page new)
            (AllPages-renamed (λ id slug body. IfSome body.source (IsRegular tree)) page new tree
            (λ id slug body is. is) sound.bodies.sources);
      };
      people = sound.people;
      tasks = sound.tasks;
      grants = record {
        grants_name = sound.grants.grants_name;
        grants_have_pages = all_weaker (λ (grant : Grant). has_page grant.page tree ≡ true)
            (λ (grant : Grant). has_page grant.page after ≡ true) part.grants
            (λ grant old. stays grant.page old) sound.grants.grants_have_pages;
        grants_rise = sound.grants.grants_rise;
        grants_fit = sound.grants.grants_fit;
      };
    }
