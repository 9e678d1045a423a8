-- What is kept of a page that expires, and of one whose waiting revision is published, scheduled or
-- dropped.
use Rattle.std.proofs.Common.{◌≡◌, ℕ, Bool, true, false, cond, ◌||◌, ◌&&◌, nat_eq, List, [], ◌∷◌, Option, None, Some, refl, sym, subst}
use Rattle.std.specs.Prelude.{IfSome}
use Rattle.std.specs.List.{list_any}
use Rattle.std.specs.Option.{option_or}
use Rattle.site_ids.specs.Moment.{IsMoment}
use Rattle.site_types.specs.declared.body.Body.{Body}
use Rattle.site_types.specs.declared.revision.Revision.{Revision}
use Rattle.tree_model.proofs.CountLemmas.{id_found}
use Rattle.site_model.specs.World.{TreePart}
use Rattle.site_model.specs.Bodies.{revision_with, is_after}
use Rattle.site_model.specs.Publishing.{published_body, has_expired}
use Rattle.site_model.specs.Ticks.{DuePage, gone_live}
use Rattle.site_model.specs.Sound.{HasOwn, is_own, may_wait}
use Rattle.site_model.proofs.BodySound.{IsKept, no_alias}
use Rattle.site_model.proofs.KeptLemmas.{both_hold}

-- the revision that is found by an id has it
found_by_id : (id : ℕ) (revisions : List Revision) (found : Revision) →
    revision_with id revisions ≡ Some found → nat_eq found.id id ≡ true
found_by_id id [] found is = absurd (cc)
found_by_id id (revision ∷ revisions) found is =
    choice (nat_eq revision.id id) refl (found_by_id id revisions found) is
  where
    same : (a b : Revision) → ◌≡◌ {A = Option Revision} (Some a) (Some b) → a ≡ b
    same a b h = cc

    choice : (t : Bool) → nat_eq revision.id id ≡ t →
        (revision_with id revisions ≡ Some found → nat_eq found.id id ≡ true) →
        cond t (Some revision) (revision_with id revisions) ≡ Some found →
        nat_eq found.id id ≡ true
    choice true here more e = rw (← same revision found e) here
    choice false here more e = more e

-- what passes one test passes a weaker one
any_weaker : {X : Type 0} (p q : X → Bool) (xs : List X) → ((x : X) → p x ≡ true → q x ≡ true) →
    list_any p xs ≡ true → list_any q xs ≡ true
any_weaker p q [] weaker is = absurd (cc)
any_weaker p q (x ∷ xs) weaker is =
    choice (p x) (q x) (weaker x) is (any_weaker p q xs weaker)
  where
    choice : (t u : Bool) → (t ≡ true → u ≡ true) → (t || list_any p xs) ≡ true →
        (list_any p xs ≡ true → list_any q xs ≡ true) → (u || list_any q xs) ≡ true
    choice t true stays h more = refl
    choice true false stays h more = let no = stays refl in absurd (cc)
    choice false false stays h more = more h

-- a revision that waits for its moment is its page's own
waiting_is_own : (revisions : List Revision) (page id : ℕ) → may_wait revisions page id ≡ true →
    is_own revisions page (Some id) ≡ true
waiting_is_own revisions page id is =
    any_weaker _ (λ (revision : Revision). nat_eq revision.id id && nat_eq revision.page page)
    revisions
    (λ revision all.
    let both = both_hold (nat_eq revision.id id) _ all in
    let own = both_hold (nat_eq revision.page page) _ both.1 in
    rw (both.0, own.0) refl) is

-- A revision of a page that has a moment to go live.
pub record IsWaiting (part : TreePart) (page : ℕ) (revision : Revision) : Type 0 where
  pub own : is_own part.revisions page (Some revision.id) ≡ true
  pub waits : may_wait part.revisions page revision.id ≡ true

-- the scheduled revision of a page is one
pub waiting_found : (part : TreePart) (page id : ℕ) (revision : Revision) →
    may_wait part.revisions page id ≡ true → revision_with id part.revisions ≡ Some revision →
    IsWaiting part page revision
waiting_found part page id revision waits is =
    let same = id_found revision.id id
    (found_by_id id part.revisions revision is) in
    let here = subst (λ (one : ℕ). may_wait part.revisions page one ≡ true) (sym same) waits in
    record { own = waiting_is_own part.revisions page revision.id here; waits = here }

-- what is kept of a live page that expires
pub expired_fits : (part : TreePart) (page : ℕ) (body : Body) → (page ≡ 1 → ⊥) →
    IsKept part page body → body.source ≡ None →
    IsKept part page (record body { live = false; expired = true })
expired_fits part page body below kept none = record {
  root = λ root. absurd (below root);
  regular = λ other regular.
      let own = kept.regular other regular in
      record {
        shown = own.shown;
        latest = own.latest;
        last = own.last;
        scheduled = own.scheduled;
      };
  alias = no_alias part.revisions page _ body.source none;
  owner = kept.owner;
  lock = kept.lock;
  assigned = kept.assigned;
  moderation = kept.moderation;
  first_published = kept.first_published;
  last_published = kept.last_published;
}

-- what is kept of a page whose schedule is dropped
dropped_fits : (part : TreePart) (page : ℕ) (body : Body) → (page ≡ 1 → ⊥) →
    IsKept part page body → body.source ≡ None →
    IsKept part page (record body { scheduled = None })
dropped_fits part page body below kept none = record {
  root = λ root. absurd (below root);
  regular = λ other regular.
      let own = kept.regular other regular in
      record { shown = own.shown; latest = own.latest; last = own.last; scheduled = tt };
  alias = no_alias part.revisions page _ body.source none;
  owner = kept.owner;
  lock = kept.lock;
  assigned = kept.assigned;
  moderation = kept.moderation;
  first_published = kept.first_published;
  last_published = kept.last_published;
}

-- the first moment of publishing stays, and else is this one
first_moment : (moment : ℕ) (first : Option ℕ) → IsMoment moment → IfSome first IsMoment →
    IfSome (option_or first (Some moment)) IsMoment
first_moment moment None is old = is
first_moment moment (Some first) is old = old

-- what is kept of a page whose waiting revision is published, or scheduled
waiting_fits : (part : TreePart) (page moment : ℕ) (revision : Revision) (body : Body) →
    (page ≡ 1 → ⊥) → IsMoment moment → IsWaiting part page revision → IsKept part page body →
    body.source ≡ None → IsKept part page (published_body moment revision body)
waiting_fits part page moment revision body below is waiting kept none =
    choice (is_after moment revision.go_live)
  where
    regular : HasOwn part.revisions page body
    regular = kept.regular below none

    choice : (t : Bool) →
        IsKept part page (cond t (record body { scheduled = Some revision.id }) (record body {
          live = true;
          expired = false;
          shown = Some revision.id;
          scheduled = None;
          first_published = option_or body.first_published (Some moment);
          last_published = Some moment;
        }))
    choice true = record {
      root = λ root. absurd (below root);
      regular = λ other no_one. record {
        shown = regular.shown;
        latest = regular.latest;
        last = regular.last;
        scheduled = waiting.waits;
      };
      alias = no_alias part.revisions page _ body.source none;
      owner = kept.owner;
      lock = kept.lock;
      assigned = kept.assigned;
      moderation = kept.moderation;
      first_published = kept.first_published;
      last_published = kept.last_published;
    }
    choice false = record {
      root = λ root. absurd (below root);
      regular = λ other no_one. record {
        shown = waiting.own;
        latest = regular.latest;
        last = regular.last;
        scheduled = tt;
      };
      alias = no_alias part.revisions page _ body.source none;
      owner = kept.owner;
      lock = kept.lock;
      assigned = kept.assigned;
      moderation = kept.moderation;
      first_published = first_moment moment body.first_published is kept.first_published;
      last_published = is;
    }

-- what becomes of a page whose moment to go live has come leaves it a page of its kind
pub live_kind : (moment : ℕ) (due : DuePage) (body : Body) →
    (gone_live moment due body).source ≡ body.source
live_kind moment due body =
    choice (has_expired moment due.revision) (is_after moment due.revision.go_live)
  where
    choice : (over later : Bool) →
        (cond over (record body { scheduled = None }) (cond later
        (record body { scheduled = Some due.revision.id }) (record body {
          live = true;
          expired = false;
          shown = Some due.revision.id;
          scheduled = None;
          first_published = option_or body.first_published (Some moment);
          last_published = Some moment;
        }))).source ≡ body.source
    choice true later = refl
    choice false true = refl
    choice false false = refl

-- what is kept of a page whose moment to go live has come
pub live_fits : (part : TreePart) (moment : ℕ) (due : DuePage) (body : Body) →
    (due.page ≡ 1 → ⊥) → IsMoment moment → IsWaiting part due.page due.revision →
    IsKept part due.page body → body.source ≡ None →
    IsKept part due.page (gone_live moment due body)
live_fits part moment due body below is waiting kept none =
    choice (has_expired moment due.revision)
    (waiting_fits part due.page moment due.revision body below is waiting kept none)
  where
    choice : (t : Bool) → IsKept part due.page (published_body moment due.revision body) →
        IsKept part due.page
        (cond t (record body { scheduled = None }) (published_body moment due.revision body))
    choice true published = dropped_fits part due.page body below kept none
    choice false published = published
