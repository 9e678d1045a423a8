-- To publish a page's latest revision, now or later, keeps a world sound.
use Rattle.std.proofs.Common.{◌≡◌, ◌≤◌, ℕ, Bool, true, false, cond, ◌||◌, ◌&&◌, nat_eq, List, [], ◌∷◌, find, Option, None, Some, refl, sym, ap, subst, ◌∙◌, arith}
use Rattle.std.specs.Prelude.{IfSome}
use Rattle.std.specs.List.{list_any}
use Rattle.std.specs.Option.{option_and_then, option_or}
use Rattle.std.proofs.lemmas.Bool.Decides.{nat_tests}
use Rattle.page_tree.specs.Tree.{Forest, has_page}
use Rattle.site_ids.specs.Moment.{IsMoment}
use Rattle.site_types.specs.declared.body.Body.{Body}
use Rattle.site_types.specs.declared.moderation.Moderation.{Moderation}
use Rattle.site_types.specs.declared.moderation.ModerationStatus.{ModerationStatus}
use Rattle.site_types.specs.declared.moderation.ModerationStatus.TheVariants.{InProgress, Approved, NeedsChanges, Cancelled}
use Rattle.site_types.specs.declared.revision.Revision.{Revision}
use Rattle.tree_model.proofs.CountLemmas.{none_counts, node_absent, id_found}
use Rattle.site_model.specs.World.{TreePart, time_at}
use Rattle.site_model.specs.Views.{first_body, body_of}
use Rattle.site_model.specs.Bodies.{revision_with, latest_of, is_after}
use Rattle.site_model.specs.Moderations.{WasPublished, moved_on, at_status, after_publishing}
use Rattle.site_model.specs.Publishing.{published_body, publish}
use Rattle.site_model.specs.Sound.{IdsRise, HasOwn, FitsModeration, is_own, may_wait}
use Rattle.site_model.proofs.BodySound.{IsKept, no_alias, body_keeps_sound}
use Rattle.site_model.proofs.Groups.{AreGroups}
use Rattle.site_model.proofs.RegularLemmas.{HasNoSource, found_has}

module _ {X : Type 0} where
  -- what is found passes the test
  found_passes : (q : X → Bool) (xs : List X) (x : X) → find q xs ≡ Some x → q x ≡ true
  found_passes q [] x is = absurd (cc)
  found_passes q (y ∷ xs) x is = choice (q y) refl (found_passes q xs x) is
    where
      choice : (t : Bool) → q y ≡ t → (find q xs ≡ Some x → q x ≡ true) →
          cond t (Some y) (find q xs) ≡ Some x → q x ≡ true
      choice true here more e = rw (← same y x e) here
        where
          same : (a b : X) → ◌≡◌ {A = Option X} (Some a) (Some b) → a ≡ b
          same a b h = cc
      choice false here more e = more e

  -- what is found is in the list
  found_in : (q p : X → Bool) (xs : List X) (x : X) → find q xs ≡ Some x → p x ≡ true →
      list_any p xs ≡ true
  found_in q p [] x is passes = absurd (cc)
  found_in q p (y ∷ xs) x is passes =
      choice (q y) (p y) refl (λ e. found_in q p xs x e passes) is
    where
      same : (a b : X) → ◌≡◌ {A = Option X} (Some a) (Some b) → a ≡ b
      same a b h = cc

      both_values : true ≡ false → ⊥
      both_values e = cc

      choice : (t u : Bool) → p y ≡ u → (find q xs ≡ Some x → list_any p xs ≡ true) →
          cond t (Some y) (find q xs) ≡ Some x → (u || list_any p xs) ≡ true
      choice t true at more e = refl
      choice true false at more e =
          absurd (both_values (sym passes ∙ ap p (sym (same y x e)) ∙ at))
      choice false false at more e = more e

-- among ids that rise from above a number, none is it
none_below : (id before page : ℕ) (revisions : List Revision) → id ≤ before →
    IdsRise before revisions → is_own revisions page (Some id) ≡ false
none_below id before page [] lower rise = refl
none_below id before page (revision ∷ revisions) lower rise =
    let differs : nat_eq revision.id id ≡ false = grind (arith, nat_tests, lower, rise.0) in
    rw differs (none_below id revision.id page revisions (omega (arith, lower, rise.0)) rise.1)

-- the revision that is found by an id is the page's, where one with that id is
found_own : (id before page : ℕ) (revisions : List Revision) (found : Revision) →
    IdsRise before revisions → revision_with id revisions ≡ Some found →
    is_own revisions page (Some id) ≡ true → nat_eq found.page page ≡ true
found_own id before page [] found rise is own = absurd (cc)
found_own id before page (revision ∷ revisions) found rise is own =
    choice (nat_eq revision.id id) refl (nat_eq revision.page page) refl is own
    (found_own id revision.id page revisions found rise.1)
  where
    same : (a b : Revision) → ◌≡◌ {A = Option Revision} (Some a) (Some b) → a ≡ b
    same a b h = cc

    both_values : false ≡ true → ⊥
    both_values e = cc

    choice : (t : Bool) → nat_eq revision.id id ≡ t → (u : Bool) →
        nat_eq revision.page page ≡ u →
        cond t (Some revision) (revision_with id revisions) ≡ Some found →
        ((t && u) || is_own revisions page (Some id)) ≡ true →
        (revision_with id revisions ≡ Some found → is_own revisions page (Some id) ≡ true →
        nat_eq found.page page ≡ true) → nat_eq found.page page ≡ true
    choice true here true at e h more = rw (← same revision found e) at
    choice true here false at e h more =
        let lower = id_found revision.id id here in
        absurd (both_values (sym (none_below id revision.id page revisions
        (omega (arith, lower)) rise.1) ∙ h))
    choice false here u at e h more = more e h

-- What a revision of a page is that may be published: the page's own, and one that may wait where
-- it has a moment to go live.
pub record MayPublish (part : TreePart) (page : ℕ) (revision : Revision) : Type 0 where
  own : is_own part.revisions page (Some revision.id) ≡ true
  waits : (moment : ℕ) → is_after moment revision.go_live ≡ true →
      may_wait part.revisions page revision.id ≡ true

-- a page's own revision, by the id under which it was found
pub found_by_id : (part : TreePart) (page id : ℕ) (revision : Revision) → AreGroups part →
    revision_with id part.revisions ≡ Some revision →
    is_own part.revisions page (Some id) ≡ true → MayPublish part page revision
found_by_id part page id revision sound is own =
    let by_id = found_passes (λ (one : Revision). nat_eq one.id id) part.revisions revision is in
    let same = id_found revision.id id by_id in
    let paged = found_own id 0 page part.revisions revision sound.revisions.revisions_rise is own in
    record {
      own = subst (λ (one : ℕ). is_own part.revisions page (Some one) ≡ true) (sym same) own;
      waits = λ moment after. waits_by paged moment revision.go_live refl after;
    }
  where
    same_number : (n : ℕ) → nat_eq n n ≡ true
    same_number n = grind (arith, nat_tests)

    waits_by : nat_eq revision.page page ≡ true → (moment : ℕ) (go_live : Option ℕ) →
        revision.go_live ≡ go_live → is_after moment go_live ≡ true →
        may_wait part.revisions page revision.id ≡ true
    waits_by paged moment None at after = absurd (cc)
    waits_by paged moment (Some go_live) at after =
        found_in (λ (one : Revision). nat_eq one.id id) _ part.revisions revision is
        (rw (same_number revision.id, paged, at) refl)

-- a page of which something is kept is there
kept_is_there : (tree : Forest Body) (page : ℕ) (body : Body) → body_of tree page ≡ Some body →
    has_page page tree ≡ true
kept_is_there tree page body is = choice (has_page page tree) refl
  where
    choice : (t : Bool) → has_page page tree ≡ t → has_page page tree ≡ true
    choice true e = e
    choice false e =
        let gone = ap (λ (f : Forest Body). first_body f)
        (node_absent page tree (none_counts page tree e)) in absurd (cc)

-- what is kept of a page of a sound part
pub kept_body : (part : TreePart) (page : ℕ) (body : Body) → AreGroups part →
    body_of part.tree page ≡ Some body → IsKept part page body
kept_body part page body sound is =
    found_has (λ id own. IsKept part id own) page part.tree body sound.bodies.bodies
    (kept_is_there part.tree page body is) is

-- the latest revision of a page may be published
latest_is : (part : TreePart) (page : ℕ) (revision : Revision) → AreGroups part →
    HasNoSource part.tree page → (page ≡ 1 → ⊥) → latest_of part page ≡ Some revision →
    MayPublish part page revision
latest_is part page revision sound regular below is =
    by_body (body_of part.tree page) refl is
  where
    by_id : (body : Body) → HasOwn part.revisions page body → (latest : Option ℕ) →
        body.latest ≡ latest →
        option_and_then (λ id. revision_with id part.revisions) latest ≡ Some revision →
        MayPublish part page revision
    by_id body own None at h = absurd (cc)
    by_id body own (Some id) at h =
        found_by_id part page id revision sound h (rw at at own.latest)

    by_body : (found : Option Body) → body_of part.tree page ≡ found →
        option_and_then (λ id. revision_with id part.revisions)
        (option_and_then (λ body. body.latest) found) ≡ Some revision →
        MayPublish part page revision
    by_body None at h = absurd (cc)
    by_body (Some body) at h =
        by_id body
        ((kept_body part page body sound at).regular below (regular body at)) body.latest refl h

-- a moderation that is given up still names what it named
cancelled_fits : (part : TreePart) (page : ℕ) (moderation : Option Moderation) →
    IfSome moderation (FitsModeration part.revisions part.next_user part.next_workflow
    part.workflows page) →
    IfSome (after_publishing moderation) (FitsModeration part.revisions part.next_user
    part.next_workflow part.workflows page)
cancelled_fits part page None is = tt
cancelled_fits part page (Some moderation) is = choice moderation.status
  where
    fits : (status : ModerationStatus) → FitsModeration part.revisions part.next_user
        part.next_workflow part.workflows page (at_status status moderation)
    fits status = record {
      workflow = is.workflow;
      task_counted = is.task_counted;
      task_within = is.task_within;
      revision = is.revision;
      by = is.by;
    }

    choice : (status : ModerationStatus) →
        IfSome (option_or (moved_on 0 WasPublished status moderation) (Some moderation))
        (FitsModeration part.revisions part.next_user part.next_workflow part.workflows page)
    choice InProgress = fits Cancelled
    choice Approved = is
    choice NeedsChanges = fits Cancelled
    choice Cancelled = is

-- the first moment of publishing stays, and else is this one
first_moment : (moment : ℕ) (first : Option ℕ) → IsMoment moment → IfSome first IsMoment →
    IfSome (option_or first (Some moment)) IsMoment
first_moment moment None is old = is
first_moment moment (Some first) is old = old

-- what is kept of a page of which a revision is published, or scheduled, with this moderation then
pub published_fits : (part : TreePart) (page moment : ℕ) (revision : Revision)
    (moderation : Option Moderation) (body : Body) → (page ≡ 1 → ⊥) → IsMoment moment →
    MayPublish part page revision →
    IfSome moderation (FitsModeration part.revisions part.next_user part.next_workflow
    part.workflows page) →
    IsKept part page body → body.source ≡ None →
    IsKept part page (record (published_body moment revision body) { moderation = moderation })
published_fits part page moment revision moderation body below is may fits kept none =
    choice (is_after moment revision.go_live) refl
  where
    regular : HasOwn part.revisions page body
    regular = kept.regular below none

    choice : (t : Bool) → is_after moment revision.go_live ≡ t →
        IsKept part page (record (cond t (record body { scheduled = Some revision.id })
        (record body {
          live = true;
          expired = false;
          shown = Some revision.id;
          scheduled = None;
          first_published = option_or body.first_published (Some moment);
          last_published = Some moment;
        })) { moderation = moderation })
    choice true after = record {
      root = λ root. absurd (below root);
      regular = λ other no_one. record {
        shown = regular.shown;
        latest = regular.latest;
        last = regular.last;
        scheduled = may.waits moment after;
      };
      alias = no_alias part.revisions page _ body.source none;
      owner = kept.owner;
      lock = kept.lock;
      assigned = kept.assigned;
      moderation = fits;
      first_published = kept.first_published;
      last_published = kept.last_published;
    }
    choice false after = record {
      root = λ root. absurd (below root);
      regular = λ other no_one. record {
        shown = may.own;
        latest = regular.latest;
        last = regular.last;
        scheduled = tt;
      };
      alias = no_alias part.revisions page _ body.source none;
      owner = kept.owner;
      lock = kept.lock;
      assigned = kept.assigned;
      moderation = fits;
      first_published = first_moment moment body.first_published is kept.first_published;
      last_published = is;
    }

-- to publish or to schedule changes neither a page's source nor its workflow
pub same_kind : (moment : ℕ) (revision : Revision) (body : Body) →
    ((published_body moment revision body).source ≡ body.source)
    × ((published_body moment revision body).workflow ≡ body.workflow)
same_kind moment revision body = choice (is_after moment revision.go_live)
  where
    after : Bool → Body
    after t = cond t (record body { scheduled = Some revision.id }) (record body {
      live = true;
      expired = false;
      shown = Some revision.id;
      scheduled = None;
      first_published = option_or body.first_published (Some moment);
      last_published = Some moment;
    })

    choice : (t : Bool) →
        ((after t).source ≡ body.source) × ((after t).workflow ≡ body.workflow)
    choice true = (refl, refl)
    choice false = (refl, refl)

-- to publish the latest revision of a page, or to schedule it, keeps a world sound
pub publish_keeps_sound : (part : TreePart) (now page : ℕ) (revision : Revision) →
    AreGroups part → HasNoSource part.tree page → IsMoment now → (page ≡ 1 → ⊥) →
    latest_of part page ≡ Some revision → AreGroups (publish part now page (Some revision)).part
publish_keeps_sound part now page revision sound regular moment below is =
    let latest = latest_is part page revision sound regular below is in
    let at : IsMoment (time_at part now) = omega (arith, sound.time, moment) in
    body_keeps_sound part now page
    (λ body. record (published_body (time_at part now) revision body) {
      moderation = after_publishing body.moderation;
    }) sound moment
    (record {
      source = λ body. (same_kind (time_at part now) revision body).0;
      kept = λ body found kept. published_fits part page (time_at part now) revision
          (after_publishing body.moderation) body below at latest
          (cancelled_fits part page body.moderation kept.moderation) kept (regular body found);
    })
