-- A purge keeps a world sound: it takes away no revision that a page needs.
use Rattle.std.proofs.Common.{◌≡◌, ◌<◌, ℕ, Bool, true, false, not, ◌&&◌, filter, Some, nat_eq, refl, sym, ◌∙◌, arith}
use Rattle.page_tree.specs.Tree.{has_page}
use Rattle.site_ids.specs.Moment.{IsMoment}
use Rattle.site_types.specs.Content.{FitsLimits}
use Rattle.site_types.specs.declared.body.Body.{Body}
use Rattle.site_types.specs.declared.revision.Revision.{Revision}
use Rattle.tree_model.proofs.CountLemmas.{once, id_found}
use Rattle.tree_model.proofs.PageLemmas.{AllPages-both}
use Rattle.site_model.specs.World.{TreePart}
use Rattle.site_model.specs.Views.{body_of}
use Rattle.site_model.specs.Bodies.{has_body}
use Rattle.site_model.specs.Publishing.{needs_revision, is_purged, purge}
use Rattle.site_model.specs.Sound.{AreRevisions, IsBody, AreBodies, HasMoments}
use Rattle.site_model.proofs.BodyLemmas.{AllPages-found}
use Rattle.site_model.proofs.ContentLemmas.{contents_length-filter}
use Rattle.site_model.proofs.DeletionSound.{rise_filter}
use Rattle.site_model.proofs.Groups.{AreGroups}
use Rattle.site_model.proofs.KeptLemmas.{KeepsNeeded, body_kept}
use Rattle.site_model.proofs.OrderLemmas.{all_filter}

-- whether a purge of the page leaves a revision
abbrev is_left : TreePart → ℕ → Revision → Bool
is_left part page revision = not (is_purged part page revision)

-- each revision that a page needs is left
leaves_needed : (part : TreePart) (page id : ℕ) (body : Body) →
    (id ≡ page → body_of part.tree page ≡ Some body) → KeepsNeeded (is_left part page) id body
leaves_needed part page id body found revision same needed =
    choice (nat_eq revision.page page) refl
  where
    choice : (t : Bool) → nat_eq revision.page page ≡ t →
        not (t && not (has_body (needs_revision revision.id) (body_of part.tree page))) ≡ true
    choice true is = rw (found (sym same ∙ id_found revision.page page is), needed) refl
    choice false is = refl

-- the revisions that are left
revisions_left : (part : TreePart) (page : ℕ) → AreGroups part →
    AreRevisions part.tree (filter (is_left part page) part.revisions) part.next_revision
    part.next_user
revisions_left part page sound =
    let old = sound.revisions in
    let keep = is_left part page in
    record {
      next_revision = old.next_revision;
      revision_ids = all_filter (λ (revision : Revision). revision.id < part.next_revision)
          keep part.revisions old.revision_ids;
      revisions_rise = rise_filter 0 keep part.revisions old.revisions_rise;
      revisions_have_pages = all_filter
          (λ (revision : Revision). has_page revision.page part.tree ≡ true) keep part.revisions
          old.revisions_have_pages;
      revisions_below_root = all_filter (λ (revision : Revision). revision.page ≡ 1 → ⊥) keep
          part.revisions old.revisions_below_root;
      authors = all_filter (λ (revision : Revision). revision.by < part.next_user) keep
          part.revisions old.authors;
      moments = all_filter HasMoments keep part.revisions old.moments;
      contents = all_filter (λ (revision : Revision). FitsLimits revision.content) keep
          part.revisions old.contents;
      contents_fit =
          let fewer = contents_length-filter keep part.revisions in
          omega (arith, fewer, old.contents_fit);
    }

-- what is kept of the pages, beside the revisions that are left
bodies_left : (part : TreePart) (page : ℕ) → AreGroups part →
    AreBodies part.tree (filter (is_left part page) part.revisions) part.next_user
    part.next_workflow part.workflows
bodies_left part page sound = record {
  bodies = AllPages-both
      (λ id slug body. IsBody part.revisions part.next_user part.next_workflow part.workflows id
      body) (λ id slug body. id ≡ page → body_of part.tree page ≡ Some body) _ part.tree
      (λ id slug body is found. body_kept (is_left part page) part.revisions part.next_user
      part.next_workflow part.workflows id body (leaves_needed part page id body found) is)
      sound.bodies.bodies
      (AllPages-found page part.tree (once part.tree sound.pages.distinct page));
  sources = sound.bodies.sources;
}

-- a purge keeps a world sound
pub purge_keeps_sound : (part : TreePart) (now page : ℕ) → AreGroups part → IsMoment now →
    AreGroups (purge part now page).part
purge_keeps_sound part now page sound moment = record {
  time = omega (arith, sound.time, moment);
  pages = sound.pages;
  revisions = revisions_left part page sound;
  bodies = bodies_left part page sound;
  people = sound.people;
  tasks = sound.tasks;
  grants = sound.grants;
}
