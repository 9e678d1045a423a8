-- Commands on what is kept of one page keep a world sound: locks, schedules, and
-- taking a page out of the public.
use Rattle.std.proofs.Common.{◌≡◌, ◌<◌, ◌≤◌, ℕ, Bool, true, false, nat_eq, List, Option, None, Some, refl, sym, subst, ◌∙◌, arith}
use Rattle.std.specs.Prelude.{IfSome}
use Rattle.std.proofs.lemmas.Bool.Decides.{nat_tests}
use Rattle.page_tree.specs.Tree.{Forest, has_page}
use Rattle.site_ids.specs.Moment.{IsMoment}
use Rattle.site_types.specs.declared.body.Body.{Body}
use Rattle.site_types.specs.declared.refusal.Refusal.TheVariants.{NothingNew}
use Rattle.site_types.specs.declared.revision.Revision.{Revision}
use Rattle.site_types.specs.declared.world_rows.Grant.{Grant}
use Rattle.tree_model.proofs.CountLemmas.{once}
use Rattle.tree_model.proofs.PageLemmas.{AllPages-both, all_weaker}
use Rattle.site_model.specs.World.{TreePart, time_at}
use Rattle.site_model.specs.Views.{body_of}
use Rattle.site_model.specs.Bodies.{rebodied}
use Rattle.site_model.specs.Publishing.{lock_rules, lock, unlock, unpublish, unschedule}
use Rattle.site_model.specs.Sound.{IsBody, IsAliasBody, IsRegular, AreBodies}
use Rattle.site_model.proofs.BodyLemmas.{AllPages-changed, AllPages-found, tree_rebodied, there-rebodied}
use Rattle.site_model.proofs.ClearLemmas.{test_clear}
use Rattle.site_model.proofs.Groups.{AreGroups}
use Rattle.site_model.proofs.RegularLemmas.{KeepRegular, HasNoSource, sources_stay, regular_rebodied, sources_rebodied}

-- What is kept of a page of this part.
abbrev pub IsKept : TreePart → ℕ → Body → Type 0
IsKept part id body =
    IsBody part.revisions part.next_user part.next_workflow part.workflows id body

-- Another body for a page of this part that is as it should be, with the same source.
pub record FitsAfter (part : TreePart) (page : ℕ) (change : Body → Body) : Type 0 where
  pub source : (body : Body) → (change body).source ≡ body.source
  pub kept :
      (body : Body) → body_of part.tree page ≡ Some body → IsKept part page body →
      IsKept part page (change body)

-- the regular pages are kept by another body for one of them with the same source
pub body_keeps_regular : (tree : Forest Body) (page : ℕ) (change : Body → Body) →
    ((body : Body) → (change body).source ≡ body.source) →
    KeepRegular tree (rebodied page change tree)
body_keeps_regular tree page change same =
    regular_rebodied page change tree (λ body none. same body ∙ none)

-- what is kept of all pages, where one has another body that is as it should be
bodies_changed : (part : TreePart) (page : ℕ) (change : Body → Body) → AreGroups part →
    FitsAfter part page change →
    AreBodies (rebodied page change part.tree) part.revisions part.next_user part.next_workflow
    part.workflows
bodies_changed part page change sound fits =
    let tree = part.tree in
    let most = once tree sound.pages.distinct page in
    record {
      bodies = AllPages-changed page change
          (λ id slug body. IsKept part id body × (id ≡ page → body_of tree page ≡ Some body))
          (λ id slug body. IsKept part id body) tree most
          (λ slug body both. fits.kept body (both.1 refl) both.0)
          (λ id slug body other both. both.0)
          (AllPages-both (λ id slug body. IsKept part id body)
          (λ id slug body. id ≡ page → body_of tree page ≡ Some body) _ tree
          (λ id slug body kept found. (kept, found)) sound.bodies.bodies
          (AllPages-found page tree most));
      sources = sources_stay tree (rebodied page change tree) (rebodied page change tree)
          (body_keeps_regular tree page change fits.source)
          (sources_rebodied page change tree tree
          (λ body is. subst (λ (source : Option ℕ). IfSome source (IsRegular tree))
          (sym (fits.source body)) is) sound.bodies.sources);
    }

-- another body for a page, that is as it should be, keeps a world sound
pub body_keeps_sound : (part : TreePart) (now page : ℕ) (change : Body → Body) →
    AreGroups part → IsMoment now → FitsAfter part page change →
    AreGroups (record part { time = time_at part now; tree = rebodied page change part.tree })
body_keeps_sound part now page change sound moment fits =
    let tree = part.tree in
    let after = rebodied page change tree in
    record {
      time = omega (arith, sound.time, moment);
      pages = tree_rebodied tree part.next_page page change sound.pages;
      revisions = record {
        next_revision = sound.revisions.next_revision;
        revision_ids = sound.revisions.revision_ids;
        revisions_rise = sound.revisions.revisions_rise;
        revisions_have_pages = all_weaker
            (λ (revision : Revision). has_page revision.page tree ≡ true)
            (λ (revision : Revision). has_page revision.page after ≡ true) part.revisions
            (λ revision there. there-rebodied page revision.page change tree there)
            sound.revisions.revisions_have_pages;
        revisions_below_root = sound.revisions.revisions_below_root;
        authors = sound.revisions.authors;
        moments = sound.revisions.moments;
        contents = sound.revisions.contents;
        contents_fit = sound.revisions.contents_fit;
      };
      bodies = bodies_changed part page change sound fits;
      people = sound.people;
      tasks = sound.tasks;
      grants = record {
        grants_name = sound.grants.grants_name;
        grants_have_pages = all_weaker (λ (grant : Grant). has_page grant.page tree ≡ true)
            (λ (grant : Grant). has_page grant.page after ≡ true) part.grants
            (λ grant there. there-rebodied page grant.page change tree there)
            sound.grants.grants_have_pages;
        grants_rise = sound.grants.grants_rise;
        grants_fit = sound.grants.grants_fit;
      };
    }

-- a page without a source is no alias
pub no_alias : (revisions : List Revision) (page : ℕ) (body : Body) (source : Option ℕ) →
    source ≡ None → IfSome source (λ one. IsAliasBody revisions page body)
no_alias revisions page body None is = tt
no_alias revisions page body (Some source) is = absurd (cc)

-- a page that a user has locked
locked_body : (part : TreePart) (page by : ℕ) (body : Body) → (page ≡ 1 → ⊥) →
    (1 ≤ by) × (by < part.next_user) → IsKept part page body → body.source ≡ None →
    IsKept part page (record body { locked_by = Some by })
locked_body part page by body below user kept none = record {
  root = λ is. absurd (below is);
  regular = λ other regular.
      let own = kept.regular other regular in
      record {
        shown = own.shown;
        latest = own.latest;
        last = own.last;
        scheduled = own.scheduled;
      };
  alias = no_alias part.revisions page (record body { locked_by = Some by }) body.source none;
  owner = kept.owner;
  lock = user;
  assigned = kept.assigned;
  moderation = kept.moderation;
  first_published = kept.first_published;
  last_published = kept.last_published;
}

-- an empty schedule, of a page that is live or not
unscheduled_body : (part : TreePart) (page : ℕ) (live : Bool) (body : Body) → (page ≡ 1 → ⊥) →
    IsKept part page body → body.source ≡ None →
    IsKept part page (record body { live = live; scheduled = None })
unscheduled_body part page live body below kept none = record {
  root = λ is. absurd (below is);
  regular = λ other regular.
      let own = kept.regular other regular in
      record { shown = own.shown; latest = own.latest; last = own.last; scheduled = tt };
  alias = no_alias part.revisions page (record body { live = live; scheduled = None }) body.source
      none;
  owner = kept.owner;
  lock = kept.lock;
  assigned = kept.assigned;
  moderation = kept.moderation;
  first_published = kept.first_published;
  last_published = kept.last_published;
}

-- an alias that is not locked is one as before
unlocked_alias : (revisions : List Revision) (page : ℕ) (body : Body) (source : Option ℕ) →
    IfSome source (λ one. IsAliasBody revisions page body) →
    IfSome source (λ one. IsAliasBody revisions page (record body { locked_by = None }))
unlocked_alias revisions page body None is = tt
unlocked_alias revisions page body (Some source) is = record {
  no_revision = is.no_revision;
  live = is.live;
  expired = is.expired;
  shown = is.shown;
  latest = is.latest;
  scheduled = is.scheduled;
  first_published = is.first_published;
  last_published = is.last_published;
  locked_by = refl;
  moderation = is.moderation;
}

-- a page without its lock, whether it is an alias or not
unlocked_body : (part : TreePart) (page : ℕ) (body : Body) → (page ≡ 1 → ⊥) →
    IsKept part page body → IsKept part page (record body { locked_by = None })
unlocked_body part page body below kept = record {
  root = λ is. absurd (below is);
  regular = λ other regular.
      let own = kept.regular other regular in
      record {
        shown = own.shown;
        latest = own.latest;
        last = own.last;
        scheduled = own.scheduled;
      };
  alias = unlocked_alias part.revisions page body body.source kept.alias;
  owner = kept.owner;
  lock = tt;
  assigned = kept.assigned;
  moderation = kept.moderation;
  first_published = kept.first_published;
  last_published = kept.last_published;
}

-- a lock by a user keeps a world sound
pub lock_keeps_sound : (part : TreePart) (now caller page : ℕ) → AreGroups part →
    HasNoSource part.tree page → IsMoment now → (page ≡ 1 → ⊥) → caller < part.next_user →
    lock_rules caller ≡ None → AreGroups (lock part now caller page).part
lock_keeps_sound part now caller page sound regular moment below user none =
    let some = test_clear (nat_eq caller 0) NothingNew none in
    let positive : 1 ≤ caller = grind (arith, nat_tests, some) in
    body_keeps_sound part now page (λ body. record body { locked_by = Some caller }) sound moment
    (record {
      source = λ body. refl;
      kept = λ body is kept. locked_body part page caller body below (positive, user) kept
          (regular body is);
    })

-- to unlock a page keeps a world sound
pub unlock_keeps_sound : (part : TreePart) (now page : ℕ) → AreGroups part → IsMoment now →
    (page ≡ 1 → ⊥) → AreGroups (unlock part now page).part
unlock_keeps_sound part now page sound moment below =
    body_keeps_sound part now page (λ body. record body { locked_by = None }) sound moment
    (record {
      source = λ body. refl;
      kept = λ body is kept. unlocked_body part page body below kept;
    })

-- to take a page out of the public keeps a world sound
pub unpublish_keeps_sound : (part : TreePart) (now page : ℕ) → AreGroups part →
    HasNoSource part.tree page → IsMoment now → (page ≡ 1 → ⊥) →
    AreGroups (unpublish part now page).part
unpublish_keeps_sound part now page sound regular moment below =
    body_keeps_sound part now page (λ body. record body { live = false; scheduled = None }) sound
    moment
    (record {
      source = λ body. refl;
      kept = λ body is kept. unscheduled_body part page false body below kept (regular body is);
    })

-- to empty a schedule keeps a world sound
pub unschedule_keeps_sound : (part : TreePart) (now page : ℕ) → AreGroups part →
    HasNoSource part.tree page → IsMoment now → (page ≡ 1 → ⊥) →
    AreGroups (unschedule part now page).part
unschedule_keeps_sound part now page sound regular moment below =
    body_keeps_sound part now page (λ body. record body { scheduled = None }) sound moment
    (record {
      source = λ body. refl;
      kept = λ body is kept. unscheduled_body part page body.live body below kept
          (regular body is);
    })
