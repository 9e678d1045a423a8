-- A copy keeps a world sound.
use Rattle.std.proofs.Common.{◌≡◌, ◌+◌, ◌<◌, ◌≤◌, ℕ, true, List, ◌++◌, Some, sym, subst, arith}
use Rattle.std.specs.Prelude.{IfSome}
use Rattle.std.specs.List.{AllByRecursion}
use Rattle.page_tree.specs.Tree.{Forest, bare, grown, End, AreRising, has_page, graft}
use Rattle.site_ids.specs.declared.ids.TheConstants.{LAST_PAGE_ID, LAST_REVISION_ID}
use Rattle.site_ids.specs.Moment.{IsMoment}
use Rattle.site_ids.specs.Slug.{IsSlug}
use Rattle.site_types.specs.Content.{FitsLimits}
use Rattle.site_types.specs.declared.body.Body.{Body}
use Rattle.site_types.specs.declared.revision.Revision.{Revision}
use Rattle.site_types.specs.declared.world_rows.Grant.{Grant}
use Rattle.tree_model.specs.Shape.{AllPages, SlugsDiffer}
use Rattle.tree_model.proofs.CountLemmas.{count}
use Rattle.tree_model.proofs.PageLemmas.{AllPages-graft, AllPages-weaker, AllPages-both, all_weaker}
use Rattle.tree_model.proofs.SiblingLemmas.{all_append}
use Rattle.site_model.specs.World.{TreePart, time_at}
use Rattle.site_model.specs.Limits.{MAX_CONTENTS, contents_length}
use Rattle.site_model.specs.Create.{fresh_body}
use Rattle.site_model.specs.Copies.{copied_content, size_of, copies, copy_revisions, with_first_slug}
use Rattle.site_model.specs.Sound.{IsTree, AreRevisions, IsBody, AreBodies, IsRegular, HasMoments, IsAtMost, IsLatest, IsGiven, is_own}
use Rattle.site_model.proofs.BodySound.{IsKept}
use Rattle.site_model.proofs.ClearLemmas.{any_back}
use Rattle.site_model.proofs.CopyLemmas.{IsWithin, IsCopied, IsCopyRevision, copies_within, copies_once, copies_rise, copies_slugs, copies_differ, copies_bodies, revisions_copied, revisions_placed, revisions_rise}
use Rattle.site_model.proofs.CreationSound.{not_root}
use Rattle.site_model.proofs.GraftSound.{IsRoomy, MayGraft, there_given, grafted_stays, grafted_comes, tree_grafted, regular_grafted}
use Rattle.site_model.proofs.Groups.{AreGroups}
use Rattle.site_model.proofs.RegularLemmas.{KeepRegular, sources_stay}
use Rattle.site_model.proofs.RiseLemmas.{rise_both, body_more}

-- the world with copies of these pages below a parent
abbrev pub with_copies : TreePart → ℕ → ℕ → ℕ → List ℕ → Forest Body → TreePart
with_copies part now caller parent slug copied =
    record part {
      time = time_at part now;
      next_page = part.next_page + size_of copied;
      next_revision = part.next_revision + size_of copied;
      tree = graft parent End (with_first_slug slug (copies part caller 0 copied)) part.tree;
      revisions = part.revisions ++ copy_revisions part caller (time_at part now) 0 copied;
    }

-- What a page has to be, with all below it, so that it may be copied.
pub record IsCopyable (part : TreePart) (f : Forest Body) : Type 0 where
  pub slugs : AllPages (λ id slug body. IsSlug slug) f
  pub fits : AllPages (λ id slug body. FitsLimits (copied_content part body)) f
  pub rising : AreRising 0 f
  pub siblings : SlugsDiffer f

-- What a copy asks for beside that.
pub record MayCopy (part : TreePart) (now caller parent : ℕ) (slug : List ℕ)
    (copied : Forest Body) : Type 0 where
  pub moment : IsMoment now
  pub user : caller < part.next_user
  pub there : has_page parent part.tree ≡ true
  pub fits : IsSlug slug
  pub pages_left : part.next_page + size_of copied ≤ LAST_PAGE_ID + 1
  pub revisions_left : part.next_revision + size_of copied ≤ LAST_REVISION_ID + 1
  pub room :
      IsRoomy part.tree (with_copies part now caller parent slug copied).tree parent slug
  pub contents :
      contents_length (with_copies part now caller parent slug copied).revisions ≤ MAX_CONTENTS

-- what is kept of a copy
copy_kept : (part : TreePart) (caller : ℕ) (more : List Revision) (id : ℕ) (body : Body) →
    AreGroups part → caller < part.next_user → part.next_page ≤ id →
    AllByRecursion
    (λ (revision : Revision). revision.id + part.next_page ≡ revision.page + part.next_revision)
    more → IsCopied part caller more id body →
    IsBody (part.revisions ++ more) part.next_user part.next_workflow part.workflows id body
copy_kept part caller more id body sound user new pairs copy =
    subst (λ (own : Body). IsBody (part.revisions ++ more) part.next_user part.next_workflow
    part.workflows id own) (sym copy.is) (record {
      root = λ root. absurd (not_first root);
      regular = λ below regular.
          record { shown = own; latest = own; last = latest; scheduled = tt };
      alias = tt;
      owner = user;
      lock = tt;
      assigned = tt;
      moderation = tt;
      first_published = tt;
      last_published = tt;
    })
  where
    not_first : id ≡ 1 → ⊥
    not_first same =
        let above = root_given part.tree part.next_page sound.pages in
        omega (arith, above, same, new)
      where
        root_given : (pages : Forest Body) (next : ℕ) → IsTree pages next → 1 < next
        root_given pages next tree =
            let all = subst (λ f. AllPages (λ one slug body. IsGiven next one) f) tree.whole.is
            tree.page_ids in all.0.1

    own : is_own (part.revisions ++ more) id (Some copy.revision) ≡ true
    own = any_back _ part.revisions more copy.own

    latest : IsLatest (part.revisions ++ more) id (Some copy.revision)
    latest = all_append
        (λ (revision : Revision). revision.page ≡ id → IsAtMost revision.id (Some copy.revision))
        part.revisions more
        (all_weaker (λ (revision : Revision). has_page revision.page part.tree ≡ true) _
        part.revisions (λ revision there same.
        absurd (not_old revision.page same
        (there_given part.tree part.next_page revision.page sound.pages there)))
        sound.revisions.revisions_have_pages)
        (all_weaker (λ (revision : Revision).
        revision.id + part.next_page ≡ revision.page + part.next_revision) _ more
        (λ revision pair same. omega (arith, pair, same, copy.pair)) pairs)
      where
        not_old : (page : ℕ) → page ≡ id → page < part.next_page → ⊥
        not_old page same lower = omega (arith, same, lower, new)

module _ (part : TreePart) (now caller parent page step : ℕ) (text slug : List ℕ)
    (body : Body) (below : Forest Body) (sound : AreGroups part)
    (may : MayCopy part now caller parent slug (grown page step text body below bare))
    (source : IsCopyable part (grown page step text body below bare)) where
  -- what is copied
  abbrev copied : Forest Body
  copied = grown page step text body below bare

  -- the copies
  abbrev made : Forest Body
  made = copies part caller 0 copied

  -- their revisions
  abbrev more : List Revision
  more = copy_revisions part caller (time_at part now) 0 copied

  -- the world with the copies
  abbrev after : TreePart
  after = with_copies part now caller parent slug copied

  -- the copies may be put in
  may_graft : MayGraft part.tree part.next_page (part.next_page + size_of copied) parent
      (part.next_page + 0) step slug (fresh_body caller (part.next_revision + 0))
      (copies part caller (0 + 1) below)
  may_graft =
      let first = sound.pages.next_page.0 in
      let left = may.pages_left in
      let inner = copies_slugs part caller (0 + 1) below source.slugs.1 in
      record {
        there = may.there;
        next_page = (omega (arith, first), left);
        later = omega arith;
        new_ids = AllPages-weaker (λ id other own. IsWithin (part.next_page + 0)
            (part.next_page + 0 + size_of copied) id) _
            (grown (part.next_page + 0) step slug (fresh_body caller (part.next_revision + 0))
            (copies part caller (0 + 1) below) bare)
            (λ id other own is. (omega (arith, is.from), omega (arith, is.to)))
            (copies_within part caller 0 copied);
        distinct = λ j. copies_once part caller 0 j copied;
        rising = copies_rise part caller (0 + 1) 0 below source.rising.1;
        slugs = (
          (λ other. may.fits),
          AllPages-weaker (λ id other own. IsSlug other)
              (λ id other own. (id ≡ 1 → ⊥) → IsSlug other) (copies part caller (0 + 1) below)
              (λ id other own is differs. is) inner,
          tt,
        );
        siblings = copies_differ part caller (0 + 1) below source.siblings.1;
        room = may.room;
      }

  -- a page that was there is there
  stays : (id : ℕ) → has_page id part.tree ≡ true → has_page id after.tree ≡ true
  stays id there =
      grafted_stays part.tree part.next_page (part.next_page + size_of copied) parent
      (part.next_page + 0) step slug (fresh_body caller (part.next_revision + 0))
      (copies part caller (0 + 1) below) sound.pages may_graft id there

  -- and so is a copy
  comes : (id : ℕ) → 1 ≤ count id made → has_page id after.tree ≡ true
  comes id some =
      grafted_comes part.tree part.next_page (part.next_page + size_of copied) parent
      (part.next_page + 0) step slug (fresh_body caller (part.next_revision + 0))
      (copies part caller (0 + 1) below) sound.pages may_graft id some

  -- the regular pages are regular
  pub copies_keep_regular : KeepRegular part.tree after.tree
  copies_keep_regular =
      regular_grafted part.tree part.next_page (part.next_page + size_of copied) parent
      (part.next_page + 0) step slug (fresh_body caller (part.next_revision + 0))
      (copies part caller (0 + 1) below) sound.pages may_graft

  -- what is known of the revisions of the copies
  known : AllByRecursion (IsCopyRevision part caller (time_at part now) 0 (size_of copied)) more
  known = revisions_copied part caller (time_at part now) 0 copied source.fits

  -- the revisions with those of the copies
  revisions_sound : AreRevisions after.tree after.revisions (part.next_revision + size_of copied)
      part.next_user
  revisions_sound =
      let old = sound.revisions in
      let first = old.next_revision.0 in
      let given = sound.pages.next_page.0 in
      let left = may.revisions_left in
      let moment = may.moment in
      let user = may.user in
      let one = sound.time in
      let Known = IsCopyRevision part caller (time_at part now) 0 (size_of copied) in
      record {
        next_revision = (omega (arith, first), left);
        revision_ids = all_append
            (λ (revision : Revision). revision.id < part.next_revision + size_of copied)
            part.revisions more
            (all_weaker (λ (revision : Revision). revision.id < part.next_revision) _
            part.revisions (λ revision lower. omega (arith, lower)) old.revision_ids)
            (all_weaker Known _ more (λ revision is. omega (arith, is.id.to)) known);
        revisions_rise = rise_both 0 part.next_revision part.revisions more (omega (arith, first))
            old.revision_ids old.revisions_rise
            (λ from lower. revisions_rise part caller (time_at part now) 0 from copied source.fits
            (omega (arith, lower)));
        revisions_have_pages = all_append
            (λ (revision : Revision). has_page revision.page after.tree ≡ true) part.revisions more
            (all_weaker (λ (revision : Revision). has_page revision.page part.tree ≡ true) _
            part.revisions (λ revision there. stays revision.page there) old.revisions_have_pages)
            (all_weaker (λ (revision : Revision). 1 ≤ count revision.page made) _ more
            (λ revision some. comes revision.page some)
            (revisions_placed part caller (time_at part now) 0 copied));
        revisions_below_root = all_append (λ (revision : Revision). revision.page ≡ 1 → ⊥)
            part.revisions more old.revisions_below_root
            (all_weaker Known _ more (λ revision is same. not_root part.tree part.next_page
            sound.pages (no_root revision is same)) known);
        authors = all_append (λ (revision : Revision). revision.by < part.next_user)
            part.revisions more old.authors
            (all_weaker Known _ more (λ revision is. omega (arith, is.by, user)) known);
        moments = all_append HasMoments part.revisions more old.moments
            (all_weaker Known _ more (λ revision is. record {
              made = omega (arith, is.made, one, moment);
              go_live = rw (is.go_live) tt;
              expire = rw (is.expire) tt;
            }) known);
        contents = all_append (λ (revision : Revision). FitsLimits revision.content)
            part.revisions more old.contents
            (all_weaker Known _ more (λ revision is. is.fits) known);
        contents_fit = may.contents;
      }
    where
      no_root : (revision : Revision) →
          IsCopyRevision part caller (time_at part now) 0 (size_of copied) revision →
          revision.page ≡ 1 → part.next_page ≡ 1
      no_root revision is same =
          let first = sound.pages.next_page.0 in
          let from = is.id.from in
          let pair = is.pair in
          omega (arith, first, from, pair, same)

  -- what is kept of the pages with the copies
  bodies_sound : AreBodies after.tree after.revisions part.next_user part.next_workflow
      part.workflows
  bodies_sound =
      let node = with_first_slug slug made in
      record {
        bodies = AllPages-graft (λ id other own. IsBody after.revisions part.next_user
            part.next_workflow part.workflows id own) parent End node part.tree
            (AllPages-both (λ id other own. IsCopied part caller more id own)
            (λ id other own. IsWithin (part.next_page + 0)
            (part.next_page + 0 + size_of copied) id) _ node
            (λ id other own copy within. copy_kept part caller more id own sound may.user
            (omega (arith, within.from))
            (all_weaker (IsCopyRevision part caller (time_at part now) 0 (size_of copied)) _ more
            (λ revision is. is.pair) known) copy)
            (copies_bodies part caller (time_at part now) 0 copied)
            (copies_within part caller 0 copied))
            (AllPages-both (λ id other own. IsKept part id own)
            (λ id other own. IsGiven part.next_page id) _ part.tree
            (λ id other own is given. body_more part.revisions more part.next_user
            part.next_workflow part.workflows id own
            (all_weaker (IsCopyRevision part caller (time_at part now) 0 (size_of copied)) _ more
            (λ revision new same. not_old revision id new same given.1) known) is)
            sound.bodies.bodies sound.pages.page_ids);
        sources = AllPages-graft (λ id other own. IfSome own.source (IsRegular after.tree)) parent
            End node part.tree
            (AllPages-weaker (λ id other own. IsCopied part caller more id own) _ node
            (λ id other own copy.
            subst (λ (one : Body). IfSome one.source (IsRegular after.tree)) (sym copy.is) tt)
            (copies_bodies part caller (time_at part now) 0 copied))
            (sources_stay part.tree after.tree part.tree copies_keep_regular
            sound.bodies.sources);
      }
    where
      not_old : (revision : Revision) (id : ℕ) →
          IsCopyRevision part caller (time_at part now) 0 (size_of copied) revision →
          revision.page ≡ id → id < part.next_page → ⊥
      not_old revision id is same lower =
          let from = is.id.from in
          let pair = is.pair in
          omega (arith, from, pair, same, lower)

  -- the world with the copies is sound
  pub copies_are_sound : AreGroups after
  copies_are_sound =
      let moment = may.moment in
      record {
        time = omega (arith, sound.time, moment);
        pages = tree_grafted part.tree part.next_page (part.next_page + size_of copied) parent
            (part.next_page + 0) step slug (fresh_body caller (part.next_revision + 0))
            (copies part caller (0 + 1) below) sound.pages may_graft;
        revisions = revisions_sound;
        bodies = bodies_sound;
        people = sound.people;
        tasks = sound.tasks;
        grants = record {
          grants_name = sound.grants.grants_name;
          grants_have_pages = all_weaker
              (λ (grant : Grant). has_page grant.page part.tree ≡ true)
              (λ (grant : Grant). has_page grant.page after.tree ≡ true) part.grants
              (λ grant there. stays grant.page there) sound.grants.grants_have_pages;
          grants_rise = sound.grants.grants_rise;
          grants_fit = sound.grants.grants_fit;
        };
      }
