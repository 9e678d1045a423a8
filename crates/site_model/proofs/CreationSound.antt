-- A creation keeps a world sound.
use Rattle.std.proofs.Common.{◌≡◌, ◌+◌, ◌<◌, ◌≤◌, ℕ, Bool, true, false, List, [], ◌∷◌, ◌++◌, length, Option, Some, None, nat_eq, refl, sym, subst, ◌∙◌, arith}
use Rattle.std.specs.Prelude.{IfSome}
use Rattle.std.specs.List.{AllByRecursion}
use Rattle.page_tree.specs.Tree.{Forest, bare, End, has_page, kids_of, kid_with_slug, graft}
use Rattle.page_tree.specs.Rows.{Row, rows_of}
use Rattle.step_path.specs.declared.step.TheConstants.{LAST_STEP}
use Rattle.step_path.specs.declared.path.TheConstants.{MAX_DEPTH}
use Rattle.site_ids.specs.declared.ids.TheConstants.{LAST_PAGE_ID, LAST_REVISION_ID}
use Rattle.site_ids.specs.Moment.{IsMoment}
use Rattle.site_ids.specs.Slug.{IsSlug}
use Rattle.site_types.specs.Content.{ContentValue, FitsLimits}
use Rattle.site_types.specs.declared.body.Body.{Body}
use Rattle.site_types.specs.declared.moderation.Moderation.{Moderation}
use Rattle.site_types.specs.declared.revision.Revision.{Revision}
use Rattle.site_types.specs.declared.refusal.Refusal.TheVariants.{StepsFull, TooDeep, UrlTooLong, IdsFull, ContentFull}
use Rattle.site_types.specs.declared.world_rows.Grant.{Grant}
use Rattle.tree_model.specs.Limits.{MAX_URL, height}
use Rattle.tree_model.specs.Shape.{AllPages, AreWithin}
use Rattle.tree_model.proofs.CountLemmas.{one, count, once, distinct_ids, has_counts, counts_has, same_id, id_found}
use Rattle.tree_model.proofs.PageLemmas.{AllPages-graft, AllPages-weaker, AllPages-both, all_weaker}
use Rattle.tree_model.proofs.PlaceLemmas.{IsAmong, AtParent-kids, graft_counts}
use Rattle.tree_model.proofs.SiblingLemmas.{AreRising-graft, SlugsDiffer-graft, all_append}
use Rattle.tree_model.proofs.WholeLemmas.{whole-graft}
use Rattle.site_model.specs.World.{TreePart, time_at}
use Rattle.site_model.specs.Limits.{MAX_CONTENTS, contents_length}
use Rattle.site_model.specs.Rules.{slug_taken, steps_full, too_deep, url_too_long, ids_full, content_full}
use Rattle.site_model.specs.Create.{created, creation_rules, create_rules, fresh_body, new_page, plain_revision}
use Rattle.site_model.specs.Sound.{IsTree, AreRevisions, IsBody, IsRegular, AreBodies, IsAliasBody, FitsModeration, HasMoments, IsAtMost, IsLatest, IsGiven, is_own, may_wait}
use Rattle.site_model.proofs.ClearLemmas.{first_clear, test_clear, slug_clear, limit_clear, urls_clear, any_front, any_back, own_front, rise_append, not_given}
use Rattle.site_model.proofs.RowLemmas.{rows_within, rows_too_deep}
use Rattle.site_model.proofs.Groups.{AreGroups}
use Rattle.site_model.proofs.RegularLemmas.{KeepRegular, sources_stay}

-- What no rule refused says of a creation.
record IsClear (part after : TreePart) (parent : ℕ) (slug : List ℕ) : Type 0 where
  pub free : kid_with_slug slug (kids_of parent part.tree) ≡ None
  pub steps : AreWithin LAST_STEP after.tree
  pub depth : height after.tree ≤ MAX_DEPTH
  pub urls : AllByRecursion (λ (row : Row Body). length row.url ≤ MAX_URL) (rows_of after.tree)
  pub page_left : part.next_page ≤ LAST_PAGE_ID
  pub revision_left : part.next_revision ≤ LAST_REVISION_ID
  pub contents : contents_length after.revisions ≤ MAX_CONTENTS

-- the rules, one by one
clear : (part after : TreePart) (parent : ℕ) (slug : List ℕ) →
    creation_rules part after parent slug ≡ None → IsClear part after parent slug
clear part after parent slug none =
    let rows = rows_of after.tree in
    let taken = first_clear (slug_taken part.tree parent slug) _ none in
    let full = first_clear (steps_full rows) _ taken.1 in
    let deep = first_clear (too_deep rows) _ full.1 in
    let long = first_clear (url_too_long rows) _ deep.1 in
    let pages = first_clear (ids_full LAST_PAGE_ID part.next_page) _ long.1 in
    let revisions = first_clear (ids_full LAST_REVISION_ID part.next_revision) _ pages.1 in
    let contents = first_clear (content_full after.revisions) [] revisions.1 in
    record {
      free = slug_clear (kid_with_slug slug (kids_of parent part.tree)) taken.0;
      steps = rows_within after.tree (test_clear _ StepsFull full.0);
      depth = limit_clear MAX_DEPTH (height after.tree)
          (sym (rows_too_deep after.tree) ∙ test_clear _ TooDeep deep.0);
      urls = urls_clear rows (test_clear _ UrlTooLong long.0);
      page_left = limit_clear _ _ (test_clear _ IdsFull pages.0);
      revision_left = limit_clear _ _ (test_clear _ IdsFull revisions.0);
      contents = limit_clear _ _ (test_clear _ ContentFull contents.0);
    }

-- a page that stands once at most, and whose id is that of none of the others
fresh_once : (next j n : ℕ) → n ≤ 1 → (next ≤ j → n ≡ 0) → one (nat_eq next j) + (0 + 0) + n ≤ 1
fresh_once next j n once fresh = choice (nat_eq next j) refl
  where
    choice : (t : Bool) → nat_eq next j ≡ t → one t + (0 + 0) + n ≤ 1
    choice false is = omega arith
    choice true is =
        let same = id_found next j is in
        let none = fresh (omega (arith, same)) in omega (arith, none)

-- a page that was there is not the new one
not_new : (next id : ℕ) → id < next → next ≡ id → ⊥
not_new next id lower same = omega (arith, lower, same)

-- the new page's revision is its own
pub own_back : (revisions : List Revision) (revision : Revision) →
    is_own (revisions ++ revision ∷ []) revision.page (Some revision.id) ≡ true
own_back revisions revision =
    any_back _ revisions (revision ∷ []) (rw (same_id revision.id, same_id revision.page) refl)

-- the new page's id is not the root's
pub not_root : (pages : Forest Body) (next : ℕ) → IsTree pages next → next ≡ 1 → ⊥
not_root pages next sound same =
    let all = subst (λ f. AllPages (λ id slug body. IsGiven next id) f) sound.whole.is
    sound.page_ids in
    let above : 1 < next = all.0.1 in
    omega (arith, above, same)

-- what is kept of the new page
fresh_is : (part : TreePart) (caller : ℕ) (revisions : List Revision) →
    (part.next_page ≡ 1 → ⊥) → caller < part.next_user →
    is_own revisions part.next_page (Some part.next_revision) ≡ true →
    IsLatest revisions part.next_page (Some part.next_revision) →
    IsBody revisions part.next_user part.next_workflow part.workflows part.next_page
    (fresh_body caller part.next_revision)
fresh_is part caller revisions other user own last = record {
  root = λ is. absurd (other is);
  regular = λ below regular. record { shown = own; latest = own; last = last; scheduled = tt };
  alias = tt;
  owner = user;
  lock = tt;
  assigned = tt;
  moderation = tt;
  first_published = tt;
  last_published = tt;
}

-- a scheduled revision stays one where more are there
pub waits_front : (revisions more : List Revision) (page : ℕ) (scheduled : Option ℕ) →
    IfSome scheduled (λ id. may_wait revisions page id ≡ true) →
    IfSome scheduled (λ id. may_wait (revisions ++ more) page id ≡ true)
waits_front revisions more page None is = tt
waits_front revisions more page (Some id) is = any_front _ revisions more is

-- a moderation is one of a longer list
pub moderation_front : (revisions more : List Revision) (users next : ℕ) (workflows : List (List ℕ))
    (page : ℕ) (moderation : Option Moderation) →
    IfSome moderation (FitsModeration revisions users next workflows page) →
    IfSome moderation (FitsModeration (revisions ++ more) users next workflows page)
moderation_front revisions more users next workflows page None is = tt
moderation_front revisions more users next workflows page (Some moderation) is = record {
  workflow = is.workflow;
  task_counted = is.task_counted;
  task_within = is.task_within;
  revision = own_front revisions more page (Some moderation.revision) is.revision;
  by = is.by;
}

-- an alias has no revision where one comes that is another page's
alias_front : (revisions : List Revision) (new : Revision) (page : ℕ) (body : Body)
    (source : Option ℕ) → (new.page ≡ page → ⊥) →
    IfSome source (λ one. IsAliasBody revisions page body) →
    IfSome source (λ one. IsAliasBody (revisions ++ new ∷ []) page body)
alias_front revisions new page body None other is = tt
alias_front revisions new page body (Some source) other is = record {
  no_revision = all_append (λ (revision : Revision). revision.page ≡ page → ⊥) revisions
      (new ∷ []) is.no_revision (other, tt);
  live = is.live;
  expired = is.expired;
  shown = is.shown;
  latest = is.latest;
  scheduled = is.scheduled;
  first_published = is.first_published;
  last_published = is.last_published;
  locked_by = is.locked_by;
  moderation = is.moderation;
}

-- what is kept of another page, where a revision comes that is not its own
pub body_front : (revisions : List Revision) (new : Revision) (users next : ℕ)
    (workflows : List (List ℕ)) (id : ℕ) (body : Body) → (new.page ≡ id → ⊥) →
    IsBody revisions users next workflows id body →
    IsBody (revisions ++ new ∷ []) users next workflows id body
body_front revisions new users next workflows id body other is = record {
  root = is.root;
  regular = λ below regular.
      let own = is.regular below regular in
      record {
        shown = own_front revisions (new ∷ []) id body.shown own.shown;
        latest = own_front revisions (new ∷ []) id body.latest own.latest;
        last = all_append
            (λ (revision : Revision). revision.page ≡ id → IsAtMost revision.id body.latest)
            revisions (new ∷ []) own.last ((λ same. absurd (other same)), tt);
        scheduled = waits_front revisions (new ∷ []) id body.scheduled own.scheduled;
      };
  alias = alias_front revisions new id body body.source other is.alias;
  owner = is.owner;
  lock = is.lock;
  assigned = is.assigned;
  moderation = moderation_front revisions (new ∷ []) users next workflows id body.moderation
      is.moderation;
  first_published = is.first_published;
  last_published = is.last_published;
}

-- how often an id stands in the tree with the new page
counted : (part : TreePart) (caller parent : ℕ) (slug : List ℕ) →
    IsTree part.tree part.next_page → has_page parent part.tree ≡ true → (j : ℕ) →
    count j (graft parent End (new_page part caller slug) part.tree)
    ≡ count j (new_page part caller slug) + count j part.tree
counted part caller parent slug sound found j =
    let tree = part.tree in
    let body = fresh_body caller part.next_revision in
    let most = once tree sound.distinct parent in
    let some = has_counts parent tree found in
    let one_parent : count parent tree ≡ 1 = omega (arith, some, most) in
    graft_counts j parent End part.next_page 1 slug body bare tree one_parent
    (AtParent-kids parent (IsAmong End) tree most tt)

-- a page that was there is there with the new one
stays_there : (part : TreePart) (caller parent : ℕ) (slug : List ℕ) →
    IsTree part.tree part.next_page → has_page parent part.tree ≡ true → (id : ℕ) →
    has_page id part.tree ≡ true →
    has_page id (graft parent End (new_page part caller slug) part.tree) ≡ true
stays_there part caller parent slug sound found id there =
    let sum = counted part caller parent slug sound found id in
    let old = has_counts id part.tree there in
    counts_has id (graft parent End (new_page part caller slug) part.tree) (omega (arith, sum, old))

-- the tree with the new page
tree_sound : (part after : TreePart) (caller parent : ℕ) (slug : List ℕ) →
    IsTree part.tree part.next_page → has_page parent part.tree ≡ true → IsSlug slug →
    after.tree ≡ graft parent End (new_page part caller slug) part.tree →
    IsClear part after parent slug →
    IsTree (graft parent End (new_page part caller slug) part.tree) (part.next_page + 1)
tree_sound part after caller parent slug sound found fits is clear =
    let tree = part.tree in
    let body = fresh_body caller part.next_revision in
    let node = new_page part caller slug in
    let each = once tree sound.distinct in
    let some = has_counts parent tree found in
    let most = each parent in
    let one_parent : count parent tree ≡ 1 = omega (arith, some, most) in
    let counts = counted part caller parent slug sound found in
    record {
      whole = whole-graft parent End node tree sound.whole;
      distinct = distinct_ids (graft parent End node tree) (λ j.
          let sum = counts j in
          let all = fresh_once part.next_page j (count j tree) (each j)
          (λ above. not_given part.next_page j tree above sound.page_ids) in
          omega (arith, sum, all));
      next_page = (omega arith, omega (arith, clear.page_left));
      page_ids = AllPages-graft (λ id slug body. IsGiven (part.next_page + 1) id) parent End node
          tree ((sound.next_page.0, omega arith), tt, tt)
          (AllPages-weaker (λ id slug body. IsGiven part.next_page id)
          (λ id slug body. IsGiven (part.next_page + 1) id) tree
          (λ id slug body given. (given.0, omega (arith, given.1))) sound.page_ids);
      rising = AreRising-graft part.next_page 1 slug body bare parent 0 End tree tt sound.rising;
      steps = subst (λ f. AreWithin LAST_STEP f) is clear.steps;
      depth = subst (λ f. height f ≤ MAX_DEPTH) is clear.depth;
      urls = subst (λ f. AllByRecursion (λ (row : Row Body). length row.url ≤ MAX_URL) (rows_of f))
          is clear.urls;
      slugs = AllPages-graft (λ id slug body. (id ≡ 1 → ⊥) → IsSlug slug) parent End node tree
          ((λ other. fits), tt, tt) sound.slugs;
      siblings = SlugsDiffer-graft part.next_page 1 slug body bare parent End tree tt
          (AtParent-kids parent (λ kids. kid_with_slug slug kids ≡ None) tree most clear.free)
          sound.siblings;
    }

-- the revisions with that of the new page
revisions_sound : (part : TreePart) (now caller parent : ℕ) (slug : List ℕ)
    (content : ContentValue) → AreGroups part → has_page parent part.tree ≡ true →
    FitsLimits content → IsMoment now → caller < part.next_user →
    IsClear part (created part now caller parent slug content) parent slug →
    AreRevisions (created part now caller parent slug content).tree
    (created part now caller parent slug content).revisions (part.next_revision + 1) part.next_user
revisions_sound part now caller parent slug content sound found fits moment user clear =
    let tree = part.tree in
    let node = new_page part caller slug in
    let revision = plain_revision part.next_revision part.next_page caller (time_at part now)
    content in
    let old = sound.revisions in
    let counts = counted part caller parent slug sound.pages found in
    record {
      next_revision = (omega arith, omega (arith, clear.revision_left));
      revision_ids = all_append
          (λ (revision : Revision). revision.id < part.next_revision + 1) part.revisions
          (revision ∷ [])
          (all_weaker (λ (revision : Revision). revision.id < part.next_revision) _ part.revisions
          (λ revision lower. omega (arith, lower)) old.revision_ids)
          (omega arith, tt);
      revisions_rise = rise_append 0 part.revisions revision old.next_revision.0
          old.revision_ids old.revisions_rise;
      revisions_have_pages = all_append
          (λ (revision : Revision). has_page revision.page (graft parent End node tree) ≡ true)
          part.revisions (revision ∷ [])
          (all_weaker (λ (revision : Revision). has_page revision.page tree ≡ true) _
          part.revisions
          (λ revision there. stays_there part caller parent slug sound.pages found revision.page
          there) old.revisions_have_pages) (
            (let sum = rw (same_id part.next_page) at (counts part.next_page) in
                counts_has part.next_page (graft parent End node tree) (omega (arith, sum))),
            tt,
          );
      revisions_below_root = all_append (λ (revision : Revision). revision.page ≡ 1 → ⊥)
          part.revisions (revision ∷ []) old.revisions_below_root
          (not_root part.tree part.next_page sound.pages, tt);
      authors = all_append (λ (revision : Revision). revision.by < part.next_user) part.revisions
          (revision ∷ []) old.authors (user, tt);
      moments = all_append HasMoments part.revisions (revision ∷ []) old.moments
          (record { made = omega (arith, sound.time, moment); go_live = tt; expire = tt }, tt);
      contents = all_append (λ (revision : Revision). FitsLimits revision.content) part.revisions
          (revision ∷ []) old.contents (fits, tt);
      contents_fit = clear.contents;
    }

-- the regular pages are kept where a page comes that is no alias
pub creation_keeps_regular : (part : TreePart) (caller parent : ℕ) (slug : List ℕ) →
    IsTree part.tree part.next_page → has_page parent part.tree ≡ true →
    KeepRegular part.tree (graft parent End (new_page part caller slug) part.tree)
creation_keeps_regular part caller parent slug sound found page regular = (
  regular.0,
  stays_there part caller parent slug sound found page regular.1,
  AllPages-graft (λ id slug body. id ≡ page → body.source ≡ None) parent End
      (new_page part caller slug) part.tree ((λ same. refl), tt, tt) regular.2,
)

-- what is kept of the pages with the new one
bodies_sound : (part : TreePart) (now caller parent : ℕ) (slug : List ℕ)
    (content : ContentValue) → AreGroups part → has_page parent part.tree ≡ true →
    caller < part.next_user →
    AreBodies (created part now caller parent slug content).tree
    (created part now caller parent slug content).revisions part.next_user part.next_workflow
    part.workflows
bodies_sound part now caller parent slug content sound found user =
    let tree = part.tree in
    let node = new_page part caller slug in
    let revision = plain_revision part.next_revision part.next_page caller (time_at part now)
    content in
    let revisions = part.revisions ++ revision ∷ [] in
    let after = graft parent End node tree in
    record {
      bodies = AllPages-graft
          (λ id slug body. IsBody revisions part.next_user part.next_workflow part.workflows id
          body) parent End node tree (
            fresh_is part caller revisions (not_root tree part.next_page sound.pages) user
                (own_back part.revisions revision)
                (all_append
                (λ (older : Revision). older.page ≡ part.next_page →
                IsAtMost older.id (Some part.next_revision)) part.revisions (revision ∷ [])
                (all_weaker (λ (older : Revision). older.id < part.next_revision) _
                part.revisions (λ older lower same. omega (arith, lower))
                sound.revisions.revision_ids)
                ((λ same. omega arith), tt)),
            tt,
            tt,
          )
          (AllPages-both
          (λ id slug body. IsBody part.revisions part.next_user part.next_workflow part.workflows
          id body) (λ id slug body. IsGiven part.next_page id) _ tree
          (λ id slug body is given. body_front part.revisions revision part.next_user
          part.next_workflow part.workflows id body (not_new part.next_page id given.1) is)
          sound.bodies.bodies sound.pages.page_ids);
      sources = AllPages-graft (λ id slug body. IfSome body.source (IsRegular after)) parent End
          node tree (tt, tt, tt)
          (sources_stay tree after tree
          (creation_keeps_regular part caller parent slug sound.pages found) sound.bodies.sources);
    }

-- the world after a creation that no rule refuses is sound
pub creation_keeps_sound : (part : TreePart) (now caller parent : ℕ) (slug : List ℕ)
    (content : ContentValue) → AreGroups part → has_page parent part.tree ≡ true →
    IsSlug slug → FitsLimits content → IsMoment now → caller < part.next_user →
    create_rules part now caller parent slug content ≡ None →
    AreGroups (created part now caller parent slug content)
creation_keeps_sound part now caller parent slug content sound found slugged fits moment user
    none =
    let after = created part now caller parent slug content in
    let clear = clear part after parent slug none in
    record {
      time = omega (arith, sound.time, moment);
      pages = tree_sound part after caller parent slug sound.pages found slugged refl clear;
      revisions = revisions_sound part now caller parent slug content sound found fits moment user
          clear;
      bodies = bodies_sound part now caller parent slug content sound found user;
      people = sound.people;
      tasks = sound.tasks;
      grants = record {
        grants_name = sound.grants.grants_name;
        grants_have_pages = all_weaker
            (λ (grant : Grant). has_page grant.page part.tree ≡ true)
            (λ (grant : Grant). has_page grant.page after.tree ≡ true) part.grants
            (λ grant there. stays_there part caller parent slug sound.pages found grant.page there)
            sound.grants.grants_have_pages;
        grants_rise = sound.grants.grants_rise;
        grants_fit = sound.grants.grants_fit;
      };
    }
