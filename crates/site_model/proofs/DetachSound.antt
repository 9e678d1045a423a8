-- To make an alias a regular page keeps a world sound, as part of a deletion and by command.
use Rattle.std.proofs.Common.{◌≡◌, ◌+◌, ◌<◌, ◌≤◌, ℕ, Bool, true, false, cond, [], ◌∷◌, ◌++◌, Option, Some, None, refl, sym, subst, arith}
use Rattle.std.specs.Prelude.{IfSome}
use Rattle.page_tree.specs.Tree.{Forest, has_page}
use Rattle.site_ids.specs.declared.ids.TheConstants.{LAST_REVISION_ID}
use Rattle.site_ids.specs.Moment.{IsMoment}
use Rattle.site_types.specs.Content.{ContentValue, FitsLimits}
use Rattle.site_types.specs.declared.body.Body.{Body}
use Rattle.site_types.specs.declared.command.Command.TheVariants as commands
use Rattle.site_types.specs.declared.refusal.Refusal.TheVariants.{NothingNew, IdsFull, ContentFull}
use Rattle.site_types.specs.declared.reply.Reply.TheVariants.{Done}
use Rattle.site_types.specs.declared.revision.Revision.{Revision}
use Rattle.site_types.specs.declared.world_rows.Grant.{Grant}
use Rattle.tree_model.proofs.CountLemmas.{once}
use Rattle.tree_model.proofs.PageLemmas.{AllPages-both, all_weaker}
use Rattle.tree_model.proofs.SiblingLemmas.{all_append}
use Rattle.site_model.specs.World.{TreePart, time_at}
use Rattle.site_model.specs.Rules.{refused_if, ids_full, content_full}
use Rattle.site_model.specs.Views.{body_of, is_live}
use Rattle.site_model.specs.Needs.{needs_of, detach_needs}
use Rattle.site_model.specs.Front.{row_of, naming, front_rules}
use Rattle.site_model.specs.Create.{plain_revision}
use Rattle.site_model.specs.Bodies.{rebodied}
use Rattle.site_model.specs.Aliases.{shown_content, detached_body, with_detached, is_regular}
use Rattle.site_model.specs.Desks.{desk_page}
use Rattle.site_model.specs.Step.{rules}
use Rattle.site_model.specs.Step as steps
use Rattle.site_model.specs.Sound.{IsBody, IsAliasBody, AreBodies, HasMoments, IsAtMost, IsRegular}
use Rattle.site_model.proofs.BodyLemmas.{AllPages-changed, tree_rebodied, there-rebodied}
use Rattle.site_model.proofs.BodySound.{IsKept}
use Rattle.site_model.proofs.AcceptLemmas.{front_parts, page_found}
use Rattle.site_model.proofs.ClearLemmas.{first_clear, test_clear, limit_clear, rise_append}
use Rattle.site_model.proofs.CreationSound.{own_back, moderation_front, body_front}
use Rattle.site_model.proofs.Deeds.{plain_keeps, KeepsSound}
use Rattle.site_model.proofs.Groups.{AreGroups}
use Rattle.site_model.proofs.LooseGroups.{LooseRevisions, AreLoose, loosened, tightened}
use Rattle.site_model.proofs.NeedLemmas.{first_need}
use Rattle.site_model.proofs.RegularLemmas.{KeepRegular, kept_stay, sources_stay, regular_rebodied, sources_rebodied}
use Rattle.site_model.proofs.SourceLemmas.{body_holds, body_there, found_is_there, found_alone, shown_fits}
use Rattle.site_model.proofs.StrangerLemmas.{editor_is_user}

-- A page that is an alias.
pub record IsAliasPage (tree : Forest Body) (page : ℕ) : Type 0 where
  pub body : Body
  pub found : body_of tree page ≡ Some body
  pub source : ℕ
  pub is : body.source ≡ Some source

-- What to make an alias a regular page asks for.
pub record MayDetach (part : TreePart) (now caller page : ℕ) : Type 0 where
  pub alias : IsAliasPage part.tree page
  pub moment : IsMoment now
  pub user : caller < part.next_user
  pub ids : part.next_revision ≤ LAST_REVISION_ID

-- what is kept of an alias in a sound part
alias_kept : (part : TreePart) (page : ℕ) (body : Body) (source : Option ℕ) (one : ℕ) →
    IfSome source (λ id. IsAliasBody part.revisions page body) → source ≡ Some one →
    IsAliasBody part.revisions page body
alias_kept part page body None one is at = absurd (cc)
alias_kept part page body (Some source) one is at = is

-- a source that is there is what holds of it
source_is : (P : ℕ → Type 0) (source : Option ℕ) (one : ℕ) → IfSome source P →
    source ≡ Some one → P one
source_is P None one is at = absurd (cc)
source_is P (Some source) one is at = subst P (same source one at) is
  where
    same : (a b : ℕ) → ◌≡◌ {A = Option ℕ} (Some a) (Some b) → a ≡ b
    same a b h = cc

-- the root is no alias
pub alias_below_root : (part : TreePart) (page : ℕ) → AreLoose part →
    IsAliasPage part.tree page → page ≡ 1 → ⊥
alias_below_root part page sound alias same =
    let kept = body_holds (λ id own. IsKept part id own) part.tree page alias.body
    sound.bodies.bodies alias.found in
    let root = kept.root same in
    let none : alias.body.source ≡ None =
    subst (λ (body : Body). body.source ≡ None) (sym root) refl in
    differs alias.body.source none alias.is
  where
    differs : (source : Option ℕ) → source ≡ None → source ≡ Some alias.source → ⊥
    differs source a b = cc

-- what an alias shows is within the limits of a content
alias_shows : (part : TreePart) (page : ℕ) → AreLoose part → IsAliasPage part.tree page →
    FitsLimits (shown_content part page)
alias_shows part page sound alias =
    let kept = body_holds (λ id own. IsKept part id own) part.tree page alias.body
    sound.bodies.bodies alias.found in
    let source = body_holds (λ id own. IfSome own.source (IsRegular part.tree)) part.tree page
    alias.body sound.bodies.sources alias.found in
    rw alias.found
    (shown_fits part page alias.body sound (alias_below_root part page sound alias) kept source)

-- the moments of a page that is live, or is not
moment_where : (live : Bool) (moment : ℕ) → IsMoment moment →
    IfSome (cond live (Some moment) None) IsMoment
moment_where true moment is = is
moment_where false moment is = tt

-- what is kept of an alias that becomes a regular page
detached_fits : (part : TreePart) (new : Revision) (moment : ℕ) (body : Body) →
    (new.page ≡ 1 → ⊥) → IsMoment moment → IsKept part new.page body →
    IsAliasBody part.revisions new.page body →
    IsBody (part.revisions ++ new ∷ []) part.next_user part.next_workflow part.workflows new.page
    (detached_body part.tree moment new.id body)
detached_fits part new moment body below is kept alias = record {
  root = λ root. absurd (below root);
  regular = λ other none. record {
    shown = own_back part.revisions new;
    latest = own_back part.revisions new;
    last = all_append
        (λ (older : Revision). older.page ≡ new.page → IsAtMost older.id (Some new.id))
        part.revisions (new ∷ [])
        (all_weaker (λ (older : Revision). older.page ≡ new.page → ⊥) _ part.revisions
        (λ older differs same. absurd (differs same)) alias.no_revision)
        ((λ same. omega arith), tt);
    scheduled = no_schedule _ body.scheduled alias.scheduled;
  };
  alias = tt;
  owner = kept.owner;
  lock = kept.lock;
  assigned = kept.assigned;
  moderation = moderation_front part.revisions (new ∷ []) part.next_user part.next_workflow
      part.workflows new.page body.moderation kept.moderation;
  first_published = moment_where (is_live part.tree body) moment is;
  last_published = moment_where (is_live part.tree body) moment is;
}
  where
    no_schedule : (P : ℕ → Type 0) (scheduled : Option ℕ) → scheduled ≡ None → IfSome scheduled P
    no_schedule P None at = tt
    no_schedule P (Some id) at = absurd (cc)

-- the revision of an alias that becomes a regular page
abbrev pub detached_revision : TreePart → ℕ → ℕ → ℕ → Revision
detached_revision part now caller page =
    plain_revision part.next_revision page caller (time_at part now) (shown_content part page)

-- the revisions with that of the page
revisions_detached : (part : TreePart) (now caller page : ℕ) → AreLoose part →
    MayDetach part now caller page →
    LooseRevisions (with_detached part now caller page).tree
    (with_detached part now caller page).revisions (part.next_revision + 1) part.next_user
revisions_detached part now caller page sound may =
    let tree = part.tree in
    let change = detached_body tree (time_at part now) part.next_revision in
    let after = rebodied page change tree in
    let new = detached_revision part now caller page in
    let old = sound.revisions in
    let moment = may.moment in
    record {
      next_revision = (omega arith, omega (arith, may.ids));
      revision_ids = all_append
          (λ (revision : Revision). revision.id < part.next_revision + 1) part.revisions (new ∷ [])
          (all_weaker (λ (revision : Revision). revision.id < part.next_revision) _ part.revisions
          (λ revision lower. omega (arith, lower)) old.revision_ids)
          (omega arith, tt);
      revisions_rise = rise_append 0 part.revisions new old.next_revision.0 old.revision_ids
          old.revisions_rise;
      revisions_have_pages = all_append
          (λ (revision : Revision). has_page revision.page after ≡ true) part.revisions (new ∷ [])
          (all_weaker (λ (revision : Revision). has_page revision.page tree ≡ true) _
          part.revisions
          (λ revision there. there-rebodied page revision.page change tree there)
          old.revisions_have_pages) (
            there-rebodied page page change tree
                (found_is_there tree page may.alias.body may.alias.found),
            tt,
          );
      revisions_below_root = all_append (λ (revision : Revision). revision.page ≡ 1 → ⊥)
          part.revisions (new ∷ []) old.revisions_below_root
          (alias_below_root part page sound may.alias, tt);
      authors = all_append (λ (revision : Revision). revision.by < part.next_user) part.revisions
          (new ∷ []) old.authors (may.user, tt);
      moments = all_append HasMoments part.revisions (new ∷ []) old.moments
          (record { made = omega (arith, sound.time, moment); go_live = tt; expire = tt }, tt);
      contents = all_append (λ (revision : Revision). FitsLimits revision.content) part.revisions
          (new ∷ []) old.contents (alias_shows part page sound may.alias, tt);
    }

-- what is kept of the pages, beside the revisions with that of the page
bodies_detached : (part : TreePart) (now caller page : ℕ) → AreLoose part →
    MayDetach part now caller page →
    AreBodies (with_detached part now caller page).tree
    (with_detached part now caller page).revisions part.next_user part.next_workflow
    part.workflows
bodies_detached part now caller page sound may =
    let tree = part.tree in
    let alias = may.alias in
    let change = detached_body tree (time_at part now) part.next_revision in
    let after = rebodied page change tree in
    let new = detached_revision part now caller page in
    let below = alias_below_root part page sound alias in
    let first = may.moment in
    let moment : IsMoment (time_at part now) = omega (arith, sound.time, first) in
    record {
      bodies = AllPages-changed page change
          (λ id slug body. IsKept part id body × (id ≡ page → body ≡ alias.body))
          (λ id slug body. IsBody (part.revisions ++ new ∷ []) part.next_user part.next_workflow
          part.workflows id body) tree (once tree sound.pages.distinct page)
          (λ slug body both. detached_fits part new (time_at part now) body below moment both.0
          (alias_kept part page body body.source alias.source both.0.alias
          (subst (λ (one : Body). one.source ≡ Some alias.source) (sym (both.1 refl)) alias.is)))
          (λ id slug body other both. body_front part.revisions new part.next_user
          part.next_workflow part.workflows id body (λ same. other (sym same)) both.0)
          (AllPages-both (λ id slug body. IsKept part id body)
          (λ id slug body. id ≡ page → body ≡ alias.body)
          (λ id slug body. IsKept part id body × (id ≡ page → body ≡ alias.body)) tree
          (λ id slug body kept one. (kept, one)) sound.bodies.bodies
          (found_alone tree page alias.body sound.pages.distinct alias.found));
      sources = sources_stay tree after after
          (regular_rebodied page change tree (λ own none. refl))
          (sources_rebodied page change tree tree (λ own is. tt) sound.bodies.sources);
    }

-- to make an alias a regular page keeps a world sound, whatever its contents take together
pub detaching_keeps_sound : (part : TreePart) (now caller page : ℕ) → AreLoose part →
    MayDetach part now caller page → AreLoose (with_detached part now caller page)
detaching_keeps_sound part now caller page sound may =
    let tree = part.tree in
    let change = detached_body tree (time_at part now) part.next_revision in
    let after = rebodied page change tree in
    let moment = may.moment in
    record {
      time = omega (arith, sound.time, moment);
      pages = tree_rebodied tree part.next_page page change sound.pages;
      revisions = revisions_detached part now caller page sound may;
      bodies = bodies_detached part now caller page sound may;
      people = sound.people;
      tasks = sound.tasks;
      grants = record {
        grants_name = sound.grants.grants_name;
        grants_have_pages = all_weaker (λ (grant : Grant). has_page grant.page tree ≡ true)
            (λ (grant : Grant). has_page grant.page after ≡ true) part.grants
            (λ grant there. there-rebodied page grant.page change tree there)
            sound.grants.grants_have_pages;
        grants_rise = sound.grants.grants_rise;
        grants_fit = sound.grants.grants_fit;
      };
    }

-- the regular pages are regular afterwards
pub detaching_keeps_regular : (part : TreePart) (now caller page : ℕ) →
    KeepRegular part.tree (with_detached part now caller page).tree
detaching_keeps_regular part now caller page =
    regular_rebodied page (detached_body part.tree (time_at part now) part.next_revision) part.tree
    (λ body none. refl)

-- a page that is there, and is not regular, is an alias
alias_page : (tree : Forest Body) (page : ℕ) → has_page page tree ≡ true →
    is_regular (body_of tree page) ≡ false → IsAliasPage tree page
alias_page tree page there none =
    let found = body_there tree page there in
    by found.body found.is found.body.source refl (rw found.is at none)
  where
    by : (body : Body) → body_of tree page ≡ Some body → (source : Option ℕ) →
        body.source ≡ source → is_regular (Some (record body { source = source })) ≡ false →
        IsAliasPage tree page
    by body found None is h = absurd (cc)
    by body found (Some source) is h =
        record { body = body; found = found; source = source; is = is }

-- an alias is made a regular page by command
pub detach_sound : (part : TreePart) (desk : Option ContentValue) (now caller page : ℕ) →
    AreGroups part → IsMoment now → front_rules part caller (commands.Detach page) ≡ None →
    rules part desk now caller (commands.Detach page) ≡ None →
    KeepsSound part caller (desk_page (commands.Detach page))
    (steps.effect part desk now caller (commands.Detach page))
unfolding front_rules row_of needs_of rules steps.effect desk_page
detach_sound part desk now caller page sound moment front own =
    let parts = front_parts part caller (naming (page ∷ []) (page ∷ []))
    (detach_needs part caller page) front in
    let found = page_found part.tree page [] parts.pages in
    let kind = first_clear (refused_if (is_regular (body_of part.tree page)) NothingNew) _ own in
    let ids = first_clear (ids_full LAST_REVISION_ID part.next_revision) _ kind.1 in
    let after = with_detached part now caller page in
    let contents = first_clear (content_full after.revisions) [] ids.1 in
    plain_keeps part after caller None Done
    (tightened after (detaching_keeps_sound part now caller page (loosened part sound) (record {
      alias = alias_page part.tree page found.0 (test_clear _ NothingNew kind.0);
      moment = moment;
      user = editor_is_user part caller page sound.people (first_need part caller _ _ parts.may);
      ids = limit_clear _ _ (test_clear _ IdsFull ids.0);
    })) (limit_clear _ _ (test_clear _ ContentFull contents.0)))
    (kept_stay part.tree after.tree (detaching_keeps_regular part now caller page)) refl
    (omega arith)
