-- What is kept of a page stays as it should be where a test keeps the revisions that it needs.
use Rattle.std.proofs.Common.{◌≡◌, ℕ, Bool, true, false, cond, ◌||◌, ◌&&◌, List, [], ◌∷◌, filter, Option, Some, None, nat_eq, refl}
use Rattle.std.specs.Prelude.{IfSome}
use Rattle.std.specs.List.{list_any}
use Rattle.site_types.specs.declared.body.Body.{Body}
use Rattle.site_types.specs.declared.moderation.Moderation.{Moderation}
use Rattle.site_types.specs.declared.revision.Revision.{Revision}
use Rattle.tree_model.proofs.CountLemmas.{same_id, id_found}
use Rattle.site_model.specs.Bodies.{same_number}
use Rattle.site_model.specs.Publishing.{moderated_revision, needs_revision}
use Rattle.site_model.specs.Sound.{IsBody, IsAliasBody, FitsModeration, IsAtMost, is_own, may_wait}
use Rattle.site_model.proofs.OrderLemmas.{all_filter}

-- what is in a list, and what a test keeps, is in what the test keeps
any_kept : {X : Type 0} (p keep : X → Bool) (xs : List X) →
    ((x : X) → p x ≡ true → keep x ≡ true) → list_any p xs ≡ true →
    list_any p (filter keep xs) ≡ true
any_kept p keep [] follows is = absurd (cc)
any_kept p keep (x ∷ xs) follows is =
    choice (p x) (keep x) refl (follows x) is (any_kept p keep xs follows)
  where
    choice : (here kept : Bool) → p x ≡ here → (here ≡ true → kept ≡ true) →
        (here || list_any p xs) ≡ true →
        (list_any p xs ≡ true → list_any p (filter keep xs) ≡ true) →
        list_any p (cond kept (x ∷ filter keep xs) (filter keep xs)) ≡ true
    choice true true at both h more = rw at refl
    choice true false at both h more = let no = both refl in absurd (cc)
    choice false true at both h more = rw at (more h)
    choice false false at both h more = more h

-- both of two tests hold
pub both_hold : (a b : Bool) → (a && b) ≡ true → (a ≡ true) × (b ≡ true)
both_hold true b is = (refl, is)
both_hold false b is = absurd (cc)

-- the later of two tests is enough
later_holds : (a b : Bool) → b ≡ true → (a || b) ≡ true
later_holds true b is = refl
later_holds false b is = is

-- the test keeps the page's revision that this names
abbrev KeepsNamed : (Revision → Bool) → ℕ → Option ℕ → Type 0
KeepsNamed keep page named =
    (revision : Revision) → revision.page ≡ page →
    same_number named (Some revision.id) ≡ true → keep revision ≡ true

-- the test keeps each revision that the page needs
abbrev pub KeepsNeeded : (Revision → Bool) → ℕ → Body → Type 0
KeepsNeeded keep page body =
    (revision : Revision) → revision.page ≡ page → needs_revision revision.id body ≡ true →
    keep revision ≡ true

-- a revision that is named is the one with its id
named_is : (id other : ℕ) → nat_eq other id ≡ true → nat_eq id other ≡ true
named_is id other is = let same = id_found other id is in rw same (same_id id)

-- a page's own revision stays its own
own_kept : (keep : Revision → Bool) (revisions : List Revision) (page : ℕ) (named : Option ℕ) →
    KeepsNamed keep page named → is_own revisions page named ≡ true →
    is_own (filter keep revisions) page named ≡ true
own_kept keep revisions page None keeps is = absurd (cc)
own_kept keep revisions page (Some id) keeps is =
    any_kept (λ (revision : Revision). nat_eq revision.id id && nat_eq revision.page page)
    keep revisions
    (λ revision both.
    let parts = both_hold (nat_eq revision.id id) (nat_eq revision.page page) both in
    keeps revision (id_found revision.page page parts.1) (named_is id revision.id parts.0)) is

-- so does the scheduled one
waits_kept : (keep : Revision → Bool) (revisions : List Revision) (page : ℕ)
    (scheduled : Option ℕ) → KeepsNamed keep page scheduled →
    IfSome scheduled (λ id. may_wait revisions page id ≡ true) →
    IfSome scheduled (λ id. may_wait (filter keep revisions) page id ≡ true)
waits_kept keep revisions page None keeps is = tt
waits_kept keep revisions page (Some id) keeps is =
    any_kept _ keep revisions
    (λ revision all.
    let both = both_hold (nat_eq revision.id id) _ all in
    let own = both_hold (nat_eq revision.page page) _ both.1 in
    keeps revision (id_found revision.page page own.0) (named_is id revision.id both.0)) is

-- and the moderated one
moderation_kept : (keep : Revision → Bool) (revisions : List Revision) (users next : ℕ)
    (workflows : List (List ℕ)) (page : ℕ) (moderation : Option Moderation) →
    KeepsNamed keep page (moderated_revision moderation) →
    IfSome moderation (FitsModeration revisions users next workflows page) →
    IfSome moderation (FitsModeration (filter keep revisions) users next workflows page)
moderation_kept keep revisions users next workflows page None keeps is = tt
moderation_kept keep revisions users next workflows page (Some moderation) keeps is = record {
  workflow = is.workflow;
  task_counted = is.task_counted;
  task_within = is.task_within;
  revision = own_kept keep revisions page (Some moderation.revision) keeps is.revision;
  by = is.by;
}

-- an alias has no revision among fewer
alias_kept : (keep : Revision → Bool) (revisions : List Revision) (page : ℕ) (body : Body)
    (source : Option ℕ) → IfSome source (λ one. IsAliasBody revisions page body) →
    IfSome source (λ one. IsAliasBody (filter keep revisions) page body)
alias_kept keep revisions page body None is = tt
alias_kept keep revisions page body (Some source) is = record {
  no_revision = all_filter (λ (revision : Revision). revision.page ≡ page → ⊥) keep revisions
      is.no_revision;
  live = is.live;
  expired = is.expired;
  shown = is.shown;
  latest = is.latest;
  scheduled = is.scheduled;
  first_published = is.first_published;
  last_published = is.last_published;
  locked_by = is.locked_by;
  moderation = is.moderation;
}

-- what is kept of a page whose revisions the test keeps that it needs
pub body_kept : (keep : Revision → Bool) (revisions : List Revision) (users next : ℕ)
    (workflows : List (List ℕ)) (id : ℕ) (body : Body) → KeepsNeeded keep id body →
    IsBody revisions users next workflows id body →
    IsBody (filter keep revisions) users next workflows id body
body_kept keep revisions users next workflows id body keeps is = record {
  root = is.root;
  regular = λ below regular.
      let own = is.regular below regular in
      record {
        shown = own_kept keep revisions id body.shown
            (λ revision same named. keeps revision same (rw named refl)) own.shown;
        latest = own_kept keep revisions id body.latest
            (λ revision same named. keeps revision same
            (later_holds (same_number body.shown (Some revision.id)) _ (rw named refl)))
            own.latest;
        last = all_filter
            (λ (revision : Revision). revision.page ≡ id → IsAtMost revision.id body.latest)
            keep revisions own.last;
        scheduled = waits_kept keep revisions id body.scheduled
            (λ revision same named. keeps revision same
            (later_holds (same_number body.shown (Some revision.id)) _
            (later_holds (same_number body.latest (Some revision.id)) _ (rw named refl))))
            own.scheduled;
      };
  alias = alias_kept keep revisions id body body.source is.alias;
  owner = is.owner;
  lock = is.lock;
  assigned = is.assigned;
  moderation = moderation_kept keep revisions users next workflows id body.moderation
      (λ revision same named. keeps revision same
      (later_holds (same_number body.shown (Some revision.id)) _
      (later_holds (same_number body.latest (Some revision.id)) _
      (later_holds (same_number body.scheduled (Some revision.id)) _ named))))
      is.moderation;
  first_published = is.first_published;
  last_published = is.last_published;
}
