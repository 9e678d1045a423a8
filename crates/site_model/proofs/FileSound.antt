-- To file the text of a desk keeps a world sound.
use Rattle.std.proofs.Common.{◌≡◌, ◌+◌, ◌<◌, ◌≤◌, ℕ, true, List, [], ◌∷◌, ◌++◌, Option, Some, None, refl, sym, arith}
use Rattle.std.specs.Prelude.{IfSome}
use Rattle.std.specs.List.{AllByRecursion}
use Rattle.std.specs.Option.{option_or}
use Rattle.page_tree.specs.Tree.{has_page}
use Rattle.site_ids.specs.declared.ids.TheConstants.{LAST_REVISION_ID}
use Rattle.site_ids.specs.Moment.{IsMoment}
use Rattle.site_types.specs.Content.{ContentValue, FitsLimits}
use Rattle.site_types.specs.declared.body.Body.{Body}
use Rattle.site_types.specs.declared.moderation.Moderation.{Moderation}
use Rattle.site_types.specs.declared.moderation.ModerationStatus.{ModerationStatus}
use Rattle.site_types.specs.declared.moderation.ModerationStatus.TheVariants.{InProgress, Approved, NeedsChanges, Cancelled}
use Rattle.site_types.specs.declared.refusal.Refusal.TheVariants.{NothingNew, IdsFull, ContentFull}
use Rattle.site_types.specs.declared.revision.Revision.{Revision}
use Rattle.site_types.specs.declared.world_rows.Grant.{Grant}
use Rattle.tree_model.proofs.CountLemmas.{once}
use Rattle.tree_model.proofs.PageLemmas.{AllPages-both, all_weaker}
use Rattle.tree_model.proofs.SiblingLemmas.{all_append}
use Rattle.site_model.specs.World.{TreePart}
use Rattle.site_model.specs.Limits.{MAX_CONTENTS, contents_length}
use Rattle.site_model.specs.Rules.{refused_if, ids_full, content_full}
use Rattle.site_model.specs.Bodies.{latest_of}
use Rattle.site_model.specs.Moderations.{WasFiled, moved_on, after_filing}
use Rattle.site_model.specs.Desks.{filed_revision, with_filed, is_filed, file_rules}
use Rattle.site_model.specs.Sound.{AreRevisions, IsBody, IsRegular, AreBodies, FitsModeration, HasMoments, IsAtMost}
use Rattle.site_model.proofs.BodyLemmas.{AllPages-changed, tree_rebodied, there-rebodied}
use Rattle.site_model.proofs.BodySound.{IsKept, no_alias, body_keeps_regular}
use Rattle.site_model.proofs.ClearLemmas.{first_clear, test_clear, limit_clear, own_front, rise_append}
use Rattle.site_model.proofs.CreationSound.{own_back, waits_front, moderation_front, body_front}
use Rattle.site_model.proofs.Groups.{AreGroups}
use Rattle.site_model.proofs.RegularLemmas.{sources_stay, sources_rebodied}

-- What to file asks of the caller, the page, the text and the two moments.
pub record MayFile (part : TreePart) (caller page : ℕ) (text : ContentValue)
    (go_live expire : Option ℕ) : Type 0 where
  pub user : caller < part.next_user
  pub regular : IsRegular part.tree page
  pub fits : FitsLimits text
  pub live_at : IfSome go_live IsMoment
  pub ends_at : IfSome expire IsMoment

-- What no rule refused says of filing.
record HasRoom (part : TreePart) (revision : Revision) : Type 0 where
  ids : part.next_revision ≤ LAST_REVISION_ID
  contents : contents_length (part.revisions ++ revision ∷ []) ≤ MAX_CONTENTS

-- the rules, one by one
room : (part : TreePart) (now caller page : ℕ) (text : ContentValue) (go_live expire : Option ℕ) →
    file_rules part now caller page go_live expire (Some text) ≡ None →
    HasRoom part (filed_revision part now caller page text go_live expire)
room part now caller page text go_live expire none =
    let revision = filed_revision part now caller page text go_live expire in
    let new = first_clear
    (refused_if (is_filed text go_live expire (latest_of part page)) NothingNew) _ none in
    let ids = first_clear (ids_full LAST_REVISION_ID part.next_revision) _ new.1 in
    let contents = first_clear (content_full (part.revisions ++ revision ∷ [])) [] ids.1 in
    record {
      ids = limit_clear _ _ (test_clear _ IdsFull ids.0);
      contents = limit_clear _ _ (test_clear _ ContentFull contents.0);
    }

-- a moderation names a revision of its page after one was filed
moderation_filed : (revisions : List Revision) (new : Revision) (users next : ℕ)
    (workflows : List (List ℕ)) (moderation : Option Moderation) →
    IfSome moderation (FitsModeration revisions users next workflows new.page) →
    IfSome (after_filing new.id moderation)
    (FitsModeration (revisions ++ new ∷ []) users next workflows new.page)
moderation_filed revisions new users next workflows None is = tt
moderation_filed revisions new users next workflows (Some moderation) is =
    choice moderation.status
  where
    same : FitsModeration (revisions ++ new ∷ []) users next workflows new.page moderation
    same = moderation_front revisions (new ∷ []) users next workflows new.page (Some moderation) is

    choice : (status : ModerationStatus) →
        IfSome (option_or (moved_on 0 (WasFiled new.id) status moderation) (Some moderation))
        (FitsModeration (revisions ++ new ∷ []) users next workflows new.page)
    choice InProgress = record {
      workflow = is.workflow;
      task_counted = is.task_counted;
      task_within = is.task_within;
      revision = own_back revisions new;
      by = is.by;
    }
    choice Approved = same
    choice NeedsChanges = same
    choice Cancelled = same

-- what is kept of a page after a revision of it was filed, whose id is above all
body_filed : (part : TreePart) (new : Revision) (body : Body) → (new.page ≡ 1 → ⊥) →
    AllByRecursion (λ (revision : Revision). revision.id < new.id) part.revisions →
    IsKept part new.page body → body.source ≡ None →
    IsBody (part.revisions ++ new ∷ []) part.next_user part.next_workflow part.workflows new.page
    (record body { latest = Some new.id; moderation = after_filing new.id body.moderation })
body_filed part new body below lower kept none = record {
  root = λ root. absurd (below root);
  regular = λ other regular.
      let own = kept.regular other regular in
      record {
        shown = own_front part.revisions (new ∷ []) new.page body.shown own.shown;
        latest = own_back part.revisions new;
        last = all_append
            (λ (older : Revision). older.page ≡ new.page → IsAtMost older.id (Some new.id))
            part.revisions (new ∷ [])
            (all_weaker (λ (older : Revision). older.id < new.id) _ part.revisions
            (λ older less same. omega (arith, less)) lower)
            ((λ same. omega arith), tt);
        scheduled = waits_front part.revisions (new ∷ []) new.page body.scheduled own.scheduled;
      };
  alias = no_alias (part.revisions ++ new ∷ []) new.page _ body.source none;
  owner = kept.owner;
  lock = kept.lock;
  assigned = kept.assigned;
  moderation = moderation_filed part.revisions new part.next_user part.next_workflow
      part.workflows body.moderation kept.moderation;
  first_published = kept.first_published;
  last_published = kept.last_published;
}

-- the change that filing makes of what is kept of a page
abbrev filed_body : ℕ → Body → Body
filed_body id body =
    record body { latest = Some id; moderation = after_filing id body.moderation }

-- the revisions with the one that is filed
revisions_filed : (part : TreePart) (now caller page : ℕ) (text : ContentValue)
    (go_live expire : Option ℕ) → AreGroups part → IsMoment now →
    MayFile part caller page text go_live expire →
    HasRoom part (filed_revision part now caller page text go_live expire) →
    AreRevisions (with_filed part now caller page text go_live expire).tree
    (with_filed part now caller page text go_live expire).revisions (part.next_revision + 1)
    part.next_user
revisions_filed part now caller page text go_live expire sound moment may left =
    let tree = part.tree in
    let change = filed_body part.next_revision in
    let after = (with_filed part now caller page text go_live expire).tree in
    let revision = filed_revision part now caller page text go_live expire in
    let old = sound.revisions in
    record {
      next_revision = (omega arith, omega (arith, left.ids));
      revision_ids = all_append
          (λ (revision : Revision). revision.id < part.next_revision + 1) part.revisions
          (revision ∷ [])
          (all_weaker (λ (revision : Revision). revision.id < part.next_revision) _ part.revisions
          (λ revision lower. omega (arith, lower)) old.revision_ids)
          (omega arith, tt);
      revisions_rise = rise_append 0 part.revisions revision old.next_revision.0 old.revision_ids
          old.revisions_rise;
      revisions_have_pages = all_append
          (λ (revision : Revision). has_page revision.page after ≡ true) part.revisions
          (revision ∷ [])
          (all_weaker (λ (revision : Revision). has_page revision.page tree ≡ true) _
          part.revisions
          (λ revision there. there-rebodied page revision.page change tree there)
          old.revisions_have_pages)
          (there-rebodied page page change tree may.regular.1, tt);
      revisions_below_root = all_append (λ (revision : Revision). revision.page ≡ 1 → ⊥)
          part.revisions (revision ∷ []) old.revisions_below_root (may.regular.0, tt);
      authors = all_append (λ (revision : Revision). revision.by < part.next_user) part.revisions
          (revision ∷ []) old.authors (may.user, tt);
      moments = all_append HasMoments part.revisions (revision ∷ []) old.moments (
        record {
          made = omega (arith, sound.time, moment);
          go_live = may.live_at;
          expire = may.ends_at;
        },
        tt,
      );
      contents = all_append (λ (revision : Revision). FitsLimits revision.content) part.revisions
          (revision ∷ []) old.contents (may.fits, tt);
      contents_fit = left.contents;
    }

-- what is kept of the pages, beside the revisions with the one that is filed
bodies_filed : (part : TreePart) (now caller page : ℕ) (text : ContentValue)
    (go_live expire : Option ℕ) → AreGroups part → IsRegular part.tree page →
    AreBodies (with_filed part now caller page text go_live expire).tree
    (with_filed part now caller page text go_live expire).revisions part.next_user
    part.next_workflow part.workflows
bodies_filed part now caller page text go_live expire sound regular =
    let tree = part.tree in
    let after = (with_filed part now caller page text go_live expire).tree in
    let new = filed_revision part now caller page text go_live expire in
    record {
      bodies = AllPages-changed page (filed_body part.next_revision)
          (λ id slug body. IsKept part id body × (id ≡ page → body.source ≡ None))
          (λ id slug body. IsBody (part.revisions ++ new ∷ []) part.next_user part.next_workflow
          part.workflows id body) tree (once tree sound.pages.distinct page)
          (λ slug body both. body_filed part new body regular.0 sound.revisions.revision_ids both.0
          (both.1 refl))
          (λ id slug body other both. body_front part.revisions new part.next_user
          part.next_workflow part.workflows id body (λ same. other (sym same)) both.0)
          (AllPages-both (λ id slug body. IsKept part id body)
          (λ id slug body. id ≡ page → body.source ≡ None) _ tree
          (λ id slug body kept none. (kept, none)) sound.bodies.bodies regular.2);
      sources = sources_stay tree after after
          (body_keeps_regular tree page (filed_body part.next_revision) (λ body. refl))
          (sources_rebodied page (filed_body part.next_revision) tree tree (λ body is. is)
          sound.bodies.sources);
    }

-- to file a text that no rule refuses keeps a world sound
pub filing_keeps_sound : (part : TreePart) (now caller page : ℕ) (text : ContentValue)
    (go_live expire : Option ℕ) → AreGroups part → IsMoment now →
    MayFile part caller page text go_live expire →
    file_rules part now caller page go_live expire (Some text) ≡ None →
    AreGroups (with_filed part now caller page text go_live expire)
filing_keeps_sound part now caller page text go_live expire sound moment may none =
    let tree = part.tree in
    let change = filed_body part.next_revision in
    let after = (with_filed part now caller page text go_live expire).tree in
    let left = room part now caller page text go_live expire none in
    record {
      time = omega (arith, sound.time, moment);
      pages = tree_rebodied tree part.next_page page change sound.pages;
      revisions = revisions_filed part now caller page text go_live expire sound moment may left;
      bodies = bodies_filed part now caller page text go_live expire sound may.regular;
      people = sound.people;
      tasks = sound.tasks;
      grants = record {
        grants_name = sound.grants.grants_name;
        grants_have_pages = all_weaker (λ (grant : Grant). has_page grant.page tree ≡ true)
            (λ (grant : Grant). has_page grant.page after ≡ true) part.grants
            (λ grant there. there-rebodied page grant.page change tree there)
            sound.grants.grants_have_pages;
        grants_rise = sound.grants.grants_rise;
        grants_fit = sound.grants.grants_fit;
      };
    }
