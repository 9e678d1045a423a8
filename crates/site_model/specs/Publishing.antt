-- Publishing: what makes a page live, schedules it or takes it out of the public; the commands on
-- this, and on a page's lock and its old revisions. Each changes what is kept of one page.
use Rattle.std.specs.Prelude.{ℕ, Bool, true, false, not, nat_le, ◌==◌, ◌&&◌, ◌||◌, List, length, filter, Option, Some, None, if◌then◌else◌}
use Rattle.std.specs.Option.{option_map, option_or, is_none}
use Rattle.site_types.specs.declared.body.Body.{Body}
use Rattle.site_types.specs.declared.moderation.Moderation.{Moderation}
use Rattle.site_types.specs.declared.refusal.Refusal.{Refusal}
use Rattle.site_types.specs.declared.refusal.Refusal.TheVariants.{NothingNew, NotLive, AlreadyExpired}
use Rattle.site_types.specs.declared.reply.Reply.TheVariants.{Done, Published, Removed}
use Rattle.site_types.specs.declared.revision.Revision.{Revision}
use Rattle.site_model.specs.World.{TreePart, Deed, time_at}
use Rattle.site_model.specs.Rules.{refused_if}
use Rattle.site_model.specs.Views.{body_of}
use Rattle.site_model.specs.Create.{plain_deed}
use Rattle.site_model.specs.Bodies.{body_deed, has_body, same_number, is_after}
use Rattle.site_model.specs.Moderations.{after_publishing}

-- the body of a page after a revision of it was published at a moment: scheduled where its go-live
-- is after that, and else live
abbrev pub published_body : ℕ → Revision → Body → Body
published_body moment revision body =
    if is_after moment revision.go_live
    then record body { scheduled = Some revision.id }
    else record body {
      live = true;
      expired = false;
      shown = Some revision.id;
      scheduled = None;
      first_published = option_or body.first_published (Some moment);
      last_published = Some moment;
    }

-- whether a revision has an expiry that is not after this moment
abbrev pub has_expired : ℕ → Revision → Bool
has_expired moment revision = is_over revision.expire
  where
    is_over : Option ℕ → Bool
    is_over None = false
    is_over (Some expire) = nat_le expire moment

-- whether a revision would expire before it goes live, or as it does
abbrev pub expires_first : Revision → Bool
expires_first revision = is_first revision.go_live
  where
    is_first : Option ℕ → Bool
    is_first None = false
    is_first (Some go_live) = has_expired go_live revision

-- whether to publish the latest revision changes nothing: the page is live and shows it, or it is
-- scheduled and waits for its go-live
abbrev pub is_out : ℕ → Revision → Body → Bool
is_out moment revision body =
    (body.live && same_number body.shown body.latest)
    || (same_number body.scheduled body.latest && is_after moment revision.go_live)

-- the rules of publishing this latest revision of a page
abbrev pub publish_rules : TreePart → ℕ → ℕ → Option Revision → Option Refusal
publish_rules part now page None = None
publish_rules part now page (Some revision) =
    let moment = time_at part now in
    if has_body (is_out moment revision) (body_of part.tree page)
    then Some NothingNew
    else refused_if (has_expired moment revision || expires_first revision) AlreadyExpired

-- what publishing this latest revision of a page does
abbrev pub publish : TreePart → ℕ → ℕ → Option Revision → Deed
publish part now page None = plain_deed part Done
publish part now page (Some revision) =
    let moment = time_at part now in
    body_deed part now page
    (λ body. record (published_body moment revision body) {
      moderation = after_publishing body.moderation;
    })
    (Published (is_after moment revision.go_live))

-- the rule of unpublishing
abbrev pub unpublish_rules : TreePart → ℕ → Option Refusal
unpublish_rules part page =
    refused_if (not (has_body (λ body. body.live) (body_of part.tree page))) NotLive

-- what unpublishing does
abbrev pub unpublish : TreePart → ℕ → ℕ → Deed
unpublish part now page =
    body_deed part now page (λ body. record body { live = false; scheduled = None }) Done

-- the rule of emptying a schedule
abbrev pub unschedule_rules : TreePart → ℕ → Option Refusal
unschedule_rules part page =
    refused_if (has_body (λ body. is_none body.scheduled) (body_of part.tree page)) NothingNew

-- what emptying a schedule does
abbrev pub unschedule : TreePart → ℕ → ℕ → Deed
unschedule part now page =
    body_deed part now page (λ body. record body { scheduled = None }) Done

-- the rule of locking: the scheduler has nothing to lock a page for
abbrev pub lock_rules : ℕ → Option Refusal
lock_rules caller = refused_if (caller == 0) NothingNew

-- what locking does
abbrev pub lock : TreePart → ℕ → ℕ → ℕ → Deed
lock part now caller page =
    body_deed part now page (λ body. record body { locked_by = Some caller }) Done

-- the rule of unlocking
abbrev pub unlock_rules : TreePart → ℕ → Option Refusal
unlock_rules part page =
    refused_if (has_body (λ body. is_none body.locked_by) (body_of part.tree page)) NothingNew

-- what unlocking does
abbrev pub unlock : TreePart → ℕ → ℕ → Deed
unlock part now page = body_deed part now page (λ body. record body { locked_by = None }) Done

-- the revision of a moderation
abbrev pub moderated_revision : Option Moderation → Option ℕ
moderated_revision moderation = option_map (λ one. one.revision) moderation

-- whether a page of which this is kept needs a revision: it shows it, or it is the latest, the
-- scheduled or the moderated one
abbrev pub needs_revision : ℕ → Body → Bool
needs_revision id body =
    same_number body.shown (Some id)
    || (same_number body.latest (Some id)
    || (same_number body.scheduled (Some id)
    || same_number (moderated_revision body.moderation) (Some id)))

-- whether a purge of the page takes the revision away
abbrev pub is_purged : TreePart → ℕ → Revision → Bool
is_purged part page revision =
    (revision.page == page)
    && not (has_body (needs_revision revision.id) (body_of part.tree page))

-- the revisions that a purge of the page takes away
abbrev pub purged : TreePart → ℕ → List Revision
purged part page = filter (is_purged part page) part.revisions

-- the rule of a purge
abbrev pub purge_rules : TreePart → ℕ → Option Refusal
purge_rules part page = refused_if (length (purged part page) == 0) NothingNew

-- what a purge does: it tells how many revisions went
abbrev pub purge : TreePart → ℕ → ℕ → Deed
purge part now page =
    plain_deed
    (record part {
      time = time_at part now;
      revisions = filter (λ revision. not (is_purged part page revision)) part.revisions;
    })
    (Removed (length (purged part page)))
