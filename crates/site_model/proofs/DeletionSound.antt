-- To take a page away with all below it keeps a world sound where no alias elsewhere shows one of
-- the pages that go, whatever the contents take together.
use Rattle.std.proofs.Common.{◌≡◌, ◌<◌, ◌≤◌, ℕ, Bool, true, false, cond, not, List, [], ◌∷◌, length, filter, Option, Some, None, nat_eq, max, suc, refl, arith}
use Rattle.std.specs.Prelude.{IfSome}
use Rattle.std.specs.List.{AllByRecursion}
use Rattle.page_tree.specs.Tree.{Forest, bare, grown, has_page, node_of, without}
use Rattle.step_path.specs.declared.step.TheConstants.{LAST_STEP}
use Rattle.site_ids.specs.Moment.{IsMoment}
use Rattle.site_ids.specs.Slug.{IsSlug}
use Rattle.site_types.specs.Content.{FitsLimits}
use Rattle.site_types.specs.declared.body.Body.{Body}
use Rattle.site_types.specs.declared.revision.Revision.{Revision}
use Rattle.site_types.specs.declared.world_rows.Grant.{Grant}
use Rattle.tree_model.specs.Limits.{MAX_URL, height}
use Rattle.tree_model.specs.Shape.{AllPages}
use Rattle.tree_model.proofs.CountLemmas.{once, distinct_ids, has_counts, counts_has, none_has, none_counts, either, cut_counts}
use Rattle.tree_model.proofs.PageLemmas.{AllPages-without, AllPages-both, AllPages-counted}
use Rattle.tree_model.proofs.SiblingLemmas.{AreRising-without, AreWithin-without, SlugsDiffer-without, urls-without}
use Rattle.tree_model.proofs.WholeLemmas.{whole-without}
use Rattle.site_model.specs.World.{TreePart}
use Rattle.site_model.specs.Delete.{is_source_gone, without_page}
use Rattle.site_model.specs.Users.{grant_key}
use Rattle.site_model.specs.Sound.{IsTree, IsBody, HasMoments, IsRegular, AreBodies, AreGrants, IsGiven, IdsRise}
use Rattle.site_model.proofs.KeptLemmas.{body_kept}
use Rattle.site_model.proofs.LooseGroups.{LooseRevisions, AreLoose}
use Rattle.site_model.proofs.OrderLemmas.{all_filter}
use Rattle.site_model.proofs.OrderLemmas as orders
use Rattle.site_model.proofs.RegularLemmas.{StayRegular}

-- what a cut leaves is no deeper
height-without : (id : ℕ) (f : Forest Body) → height (without id f) ≤ height f
height-without id bare = omega arith
height-without id (grown i step slug body kids rest) =
    let below = height-without id kids in
    let after = height-without id rest in
    either (λ f. height f ≤ max (suc (height kids)) (height rest)) (nat_eq i id) rest
    (grown i step slug body (without id kids) (without id rest)) (omega arith)
    (omega (arith, below, after))

-- what follows for each element that a test keeps holds of each of these
pub all_kept : {X : Type 0} (P Q : X → Type 0) (keep : X → Bool) (xs : List X) →
    ((x : X) → P x → keep x ≡ true → Q x) → AllByRecursion P xs →
    AllByRecursion Q (filter keep xs)
all_kept P Q keep [] follows all = tt
all_kept P Q keep (x ∷ xs) follows all =
    choice (keep x) refl (all_kept P Q keep xs follows all.1)
  where
    choice : (t : Bool) → keep x ≡ t → AllByRecursion Q (filter keep xs) →
        AllByRecursion Q (cond t (x ∷ filter keep xs) (filter keep xs))
    choice true is more = (follows x all.0 is, more)
    choice false is more = more

-- ids that rise from above a number rise from above a lower one
rise_lower : (lower before : ℕ) (revisions : List Revision) → lower ≤ before →
    IdsRise before revisions → IdsRise lower revisions
rise_lower lower before [] below rise = tt
rise_lower lower before (revision ∷ revisions) below rise = (omega (arith, rise.0), rise.1)

-- the ids of revisions that a test keeps rise
pub rise_filter : (before : ℕ) (keep : Revision → Bool) (revisions : List Revision) →
    IdsRise before revisions → IdsRise before (filter keep revisions)
rise_filter before keep [] rise = tt
rise_filter before keep (revision ∷ revisions) rise =
    choice (keep revision) (rise_filter revision.id keep revisions rise.1)
  where
    choice : (t : Bool) → IdsRise revision.id (filter keep revisions) →
        IdsRise before (cond t (revision ∷ filter keep revisions) (filter keep revisions))
    choice true more = (rise.0, more)
    choice false more = rise_lower before revision.id _ (omega (arith, rise.0)) more

-- the kept revisions are those of pages that stay
abbrev is_kept : Forest Body → Revision → Bool
is_kept gone revision = not (has_page revision.page gone)

-- what is kept of a page that stays
page_stays : (gone : Forest Body) (revisions : List Revision) (users next : ℕ)
    (workflows : List (List ℕ)) (id : ℕ) (body : Body) → has_page id gone ≡ false →
    IsBody revisions users next workflows id body →
    IsBody (filter (is_kept gone) revisions) users next workflows id body
page_stays gone revisions users next workflows id body there is =
    body_kept (is_kept gone) revisions users next workflows id body
    (λ revision same needed. rw (same, there) refl) is

-- the tree that is left
tree_left : (pages : Forest Body) (next page : ℕ) → IsTree pages next → (1 ≡ page → ⊥) →
    IsTree (without page pages) next
tree_left pages next page sound other =
    let left = without page pages in
    let each = once pages sound.distinct in
    record {
      whole = whole-without page pages other sound.whole;
      distinct = distinct_ids left (λ j.
          let sum = cut_counts page j pages (each page) in
          let most = each j in omega (arith, sum, most));
      next_page = sound.next_page;
      page_ids = AllPages-without (λ id slug body. IsGiven next id) page pages sound.page_ids;
      rising = AreRising-without page 0 pages sound.rising;
      steps = AreWithin-without LAST_STEP page pages sound.steps;
      depth = let no_deeper = height-without page pages in omega (arith, no_deeper, sound.depth);
      urls = urls-without (λ url. length url ≤ MAX_URL) page None [] [] pages sound.urls;
      slugs = AllPages-without (λ id slug body. (id ≡ 1 → ⊥) → IsSlug slug) page pages sound.slugs;
      siblings = SlugsDiffer-without page pages sound.siblings;
    }

-- a page that was there, and is not among those that go, is left
is_left : (pages : Forest Body) (next page id : ℕ) → IsTree pages next →
    has_page id pages ≡ true → not (has_page id (node_of page pages)) ≡ true →
    has_page id (without page pages) ≡ true
is_left pages next page id sound there kept =
    let gone = node_of page pages in
    let none = none_counts id gone (kept_off (has_page id gone) kept) in
    let sum = cut_counts page id pages (once pages sound.distinct page) in
    let some = has_counts id pages there in
    counts_has id (without page pages) (omega (arith, none, sum, some))
  where
    kept_off : (t : Bool) → not t ≡ true → t ≡ false
    kept_off true is = absurd (cc)
    kept_off false is = refl

-- the revisions that are left
revisions_left : (part : TreePart) (page : ℕ) → AreLoose part →
    LooseRevisions (without page part.tree)
    (filter (is_kept (node_of page part.tree)) part.revisions) part.next_revision part.next_user
revisions_left part page sound =
    let old = sound.revisions in
    let gone = node_of page part.tree in
    record {
      next_revision = old.next_revision;
      revision_ids = all_filter (λ (revision : Revision). revision.id < part.next_revision)
          (is_kept gone) part.revisions old.revision_ids;
      revisions_rise = rise_filter 0 (is_kept gone) part.revisions old.revisions_rise;
      revisions_have_pages = all_kept
          (λ (revision : Revision). has_page revision.page part.tree ≡ true)
          (λ (revision : Revision). has_page revision.page (without page part.tree) ≡ true)
          (is_kept gone) part.revisions
          (λ revision there kept. is_left part.tree part.next_page page revision.page sound.pages
          there kept) old.revisions_have_pages;
      revisions_below_root = all_filter (λ (revision : Revision). revision.page ≡ 1 → ⊥)
          (is_kept gone) part.revisions old.revisions_below_root;
      authors = all_filter (λ (revision : Revision). revision.by < part.next_user) (is_kept gone)
          part.revisions old.authors;
      moments = all_filter HasMoments (is_kept gone) part.revisions old.moments;
      contents = all_filter (λ (revision : Revision). FitsLimits revision.content) (is_kept gone)
          part.revisions old.contents;
    }

-- no alias that stays shows a page that goes
abbrev pub LosesNone : TreePart → ℕ → Type 0
LosesNone part page =
    AllPages (λ id slug body. is_source_gone (node_of page part.tree) body.source ≡ false)
    (without page part.tree)

-- the regular pages that are left are regular
pub left_stay_regular : (tree : Forest Body) (page : ℕ) → StayRegular tree (without page tree)
left_stay_regular tree page one regular there = (
  regular.0,
  there,
  AllPages-without (λ id slug body. id ≡ one → body.source ≡ None) page tree regular.2,
)

-- a source that does not go is a regular page that is left
source_left : (pages : Forest Body) (next page : ℕ) (source : Option ℕ) → IsTree pages next →
    IfSome source (IsRegular pages) → is_source_gone (node_of page pages) source ≡ false →
    IfSome source (IsRegular (without page pages))
source_left pages next page None sound regular stays = tt
source_left pages next page (Some source) sound regular stays =
    left_stay_regular pages page source regular
    (is_left pages next page source sound regular.1 (rw stays refl))

-- what is kept of the pages that are left
bodies_left : (part : TreePart) (page : ℕ) → AreLoose part → LosesNone part page →
    AreBodies (without page part.tree)
    (filter (is_kept (node_of page part.tree)) part.revisions) part.next_user part.next_workflow
    part.workflows
bodies_left part page sound none =
    let tree = part.tree in
    let left = without page tree in
    let gone = node_of page tree in
    let each = once tree sound.pages.distinct in
    record {
      bodies = AllPages-both
          (λ id slug body. IsBody part.revisions part.next_user part.next_workflow part.workflows
          id body) (λ id slug body. has_page id gone ≡ false) _ left
          (λ id slug body is there. page_stays gone part.revisions part.next_user
          part.next_workflow part.workflows id body there is)
          (AllPages-without _ page tree sound.bodies.bodies)
          (AllPages-counted (λ id. has_page id gone ≡ false) left (λ j some.
          let sum = cut_counts page j tree (each page) in
          let most = each j in
          none_has j gone (omega (arith, sum, most))));
      sources = AllPages-both (λ id slug body. IfSome body.source (IsRegular tree))
          (λ id slug body. is_source_gone gone body.source ≡ false) _ left
          (λ id slug body regular stays. source_left tree part.next_page page body.source
          sound.pages regular stays)
          (AllPages-without _ page tree sound.bodies.sources) none;
    }

-- a test keeps no more than there is
pub shorter : {X : Type 0} (keep : X → Bool) (xs : List X) → length (filter keep xs) ≤ length xs
shorter keep [] = omega arith
shorter keep (x ∷ xs) = choice (keep x) (shorter keep xs)
  where
    choice : (t : Bool) → length (filter keep xs) ≤ length xs →
        length (cond t (x ∷ filter keep xs) (filter keep xs)) ≤ length (x ∷ xs)
    choice true more = omega (arith, more)
    choice false more = omega (arith, more)

-- the grants that are left
grants_left : (part : TreePart) (page : ℕ) → AreLoose part →
    AreGrants (filter (λ grant. not (has_page grant.page (node_of page part.tree))) part.grants)
    (without page part.tree) part.next_group
grants_left part page sound =
    let old = sound.grants in
    let keep = λ (grant : Grant). not (has_page grant.page (node_of page part.tree)) in
    record {
      grants_name = all_filter _ keep part.grants old.grants_name;
      grants_have_pages = all_kept (λ (grant : Grant). has_page grant.page part.tree ≡ true)
          (λ (grant : Grant). has_page grant.page (without page part.tree) ≡ true) keep part.grants
          (λ grant there kept. is_left part.tree part.next_page page grant.page sound.pages there
          kept) old.grants_have_pages;
      grants_rise = orders.rise_filter grant_key keep part.grants old.grants_rise;
      grants_fit = let fewer = shorter keep part.grants in omega (arith, fewer, old.grants_fit);
    }

-- the world that is left is sound, whatever its contents take together
pub cut_keeps_sound : (part : TreePart) (now page : ℕ) → AreLoose part → LosesNone part page →
    IsMoment now → (1 ≡ page → ⊥) → AreLoose (without_page part now page)
cut_keeps_sound part now page sound none moment other = record {
  time = omega (arith, sound.time, moment);
  pages = tree_left part.tree part.next_page page sound.pages other;
  revisions = revisions_left part page sound;
  bodies = bodies_left part page sound none;
  people = sound.people;
  tasks = sound.tasks;
  grants = grants_left part page sound;
}
