-- The answers to requests as responses with bodies of JSON (RFC 8259), the members of each object
-- in the byte order of their names.
use Rattle.std.specs.Prelude.{ℕ, Bool, true, false, not, ◌==◌, ◌||◌, List, map, codes, Option, Some, None, if◌then◌else◌}
use Rattle.serde_json.specs.Data.{Data, null, boolean, unsigned, number, string, array, object, Members, no_members, member}
use Rattle.serde_json.specs.View.{items_of}
use Rattle.serde_json.specs.Written.{compact_text}
use Rattle.http_model.specs.declared.status.StatusCode.{StatusCode}
use Rattle.http_model.specs.declared.status.StatusCode.TheVariants as statuses
use Rattle.http_model.specs.Responses.{Response, status_number}
use Rattle.civil_time.specs.TimeText.{time_text}
use Rattle.json_model.specs.Content.{block_data, content_data}
use Rattle.public_view.specs.declared.card.Card.{Card}
use Rattle.public_view.specs.declared.kid.LiveKid.{LiveKid}
use Rattle.site_types.specs.Refusal.{refusal_number, refusal_name, refusal_carried}
use Rattle.site_types.specs.declared.body.Body.{Body}
use Rattle.site_types.specs.declared.moderation.Moderation.{Moderation}
use Rattle.site_types.specs.declared.moderation.ModerationStatus.{ModerationStatus}
use Rattle.site_types.specs.declared.moderation.ModerationStatus.TheVariants.{InProgress, Approved, NeedsChanges, Cancelled}
use Rattle.site_types.specs.declared.refusal.Refusal.{Refusal}
use Rattle.site_types.specs.declared.refusal.Refusal.TheVariants.{NoPage, Denied}
use Rattle.site_types.specs.declared.reply.Reply.{Reply}
use Rattle.site_types.specs.declared.reply.Reply.TheVariants as replies
use Rattle.wire_model.specs.declared.answer.Answer.{Answer}
use Rattle.wire_model.specs.declared.answer.Answer.TheVariants.{Accepted, Public, Page, Refs, Desk, Refused, NotFound, NotBuilt, Method, Form, NoUser, Head, Disk, Memory}

-- a whole number
abbrev pub whole : ℕ → Data
whole n = number (unsigned n)

-- a list of whole numbers
abbrev pub wholes : List ℕ → Data
wholes ids = array (items_of (map whole ids))

-- the number of what there is, or 0
abbrev pub or_zero : Option ℕ → Data
or_zero (Some n) = whole n
or_zero None = whole 0

-- the text of a moment, or null
abbrev pub time_or_null : Option ℕ → Data
time_or_null (Some moment) = string (time_text moment)
time_or_null None = null

-- the text of a moderation's status
abbrev pub status_text : ModerationStatus → List ℕ
status_text InProgress = codes "in_progress"
status_text Approved = codes "approved"
status_text NeedsChanges = codes "needs_changes"
status_text Cancelled = codes "cancelled"

-- the status of a page's moderation, which may be none
abbrev pub moderation_status : Option Moderation → Data
moderation_status (Some moderation) = string (status_text moderation.status)
moderation_status None = string (codes "none")

-- the place of the task of a page's moderation, from 1 on, or 0
abbrev pub moderation_task : Option Moderation → Data
moderation_task (Some moderation) = whole moderation.task
moderation_task None = whole 0

-- two of the ids that may be absent are the same
abbrev pub same_id : Option ℕ → Option ℕ → Bool
same_id (Some a) (Some b) = a == b
same_id None None = true
same_id a b = false

-- Whether a page has changes that are not public: it has revisions, as the root and aliases have
-- none, and is not live or shows another than the latest.
abbrev pub has_unpublished_changes : Body → Option ℕ → Bool
has_unpublished_changes body None = false
has_unpublished_changes body (Some latest) =
    not body.live || not (same_id body.shown (Some latest))

-- the body of an accepted command with this number
abbrev pub reply_data : ℕ → Reply → Data
reply_data entry (replies.Page id path url) =
    object (member (codes "entry") (whole entry) (member (codes "id") (whole id)
    (member (codes "path") (string path) (member (codes "url") (string url) no_members))))
reply_data entry replies.Done = object (member (codes "entry") (whole entry) no_members)
reply_data entry (replies.Id id) =
    object (member (codes "entry") (whole entry) (member (codes "id") (whole id) no_members))
reply_data entry (replies.Ticked unpublished published dropped) =
    object (member (codes "dropped") (wholes dropped) (member (codes "entry") (whole entry)
    (member (codes "published") (wholes published)
    (member (codes "unpublished") (wholes unpublished) no_members))))
reply_data entry (replies.Moderated status task) =
    object (member (codes "entry") (whole entry)
    (member (codes "status") (string (status_text status))
    (member (codes "task") (whole task) no_members)))
reply_data entry (replies.Published scheduled) =
    object (member (codes "entry") (whole entry)
    (member (codes "scheduled") (boolean scheduled) no_members))
reply_data entry (replies.Removed count) =
    object (member (codes "count") (whole count) (member (codes "entry") (whole entry) no_members))

-- the body of a card
abbrev pub card_data : Card → Data
card_data card =
    let body = card.body in
    object (member (codes "alias_of") (or_zero body.source)
    (member (codes "depth") (whole card.depth)
    (member (codes "expire_at") (time_or_null card.expire_at)
    (member (codes "expired") (boolean body.expired)
    (member (codes "first_published_at") (time_or_null body.first_published)
    (member (codes "id") (whole card.id)
    (member (codes "last_published_at") (time_or_null body.last_published)
    (member (codes "latest") (or_zero body.latest)
    (member (codes "live") (boolean body.live)
    (member (codes "locked_by") (or_zero body.locked_by)
    (member (codes "moderation") (moderation_status body.moderation)
    (member (codes "numchild") (whole card.numchild)
    (member (codes "owner") (whole body.owner)
    (member (codes "path") (string card.path)
    (member (codes "scheduled") (or_zero body.scheduled)
    (member (codes "shown") (or_zero body.shown)
    (member (codes "slug") (string card.slug)
    (member (codes "task") (moderation_task body.moderation)
    (member (codes "title") (string card.title)
    (member (codes "unpublished_changes") (boolean (has_unpublished_changes body body.latest))
    (member (codes "url") (string card.url) no_members)))))))))))))))))))))

-- the body that tells which pages link to a page
abbrev pub refs_data : List ℕ → Data
refs_data refs = object (member (codes "refs") (wholes refs) no_members)

-- what a public page tells of a live kid
abbrev pub kid_data : LiveKid → Data
kid_data kid =
    object (member (codes "id") (whole kid.id) (member (codes "title") (string kid.title)
    (member (codes "url") (string kid.url) no_members)))

-- the body of a public page
abbrev pub public_data : Card → Data
public_data card =
    object (member (codes "blocks") (array (items_of (map block_data card.blocks)))
    (member (codes "children") (array (items_of (map kid_data card.kids)))
    (member (codes "id") (whole card.id)
    (member (codes "title") (string card.title)
    (member (codes "url") (string card.url) no_members)))))

-- the member with the value that a refusal carries, where it carries one
abbrev pub carried_member : Option ℕ → Members
carried_member None = no_members
carried_member (Some value) = member (codes "with") (whole value) no_members

-- the body of a refusal
abbrev pub refusal_data : Refusal → Data
refusal_data refusal =
    object (member (codes "name") (string (refusal_name refusal))
    (member (codes "refused") (whole (refusal_number refusal))
    (carried_member (refusal_carried refusal))))

-- the status of a refusal: 404 where a page is not there, 403 where a need is not met, else 409
abbrev pub refusal_status : Refusal → StatusCode
refusal_status (NoPage id) = statuses.NotFound
refusal_status (Denied need) = statuses.Forbidden
refusal_status _ = statuses.Conflict

-- the body that names an error
abbrev pub error_data : List ℕ → Data
error_data name = object (member (codes "error") (string name) no_members)

-- the status with which a head is refused
abbrev pub head_status : ℕ → StatusCode
head_status status =
    if status == status_number statuses.ContentTooLarge
    then statuses.ContentTooLarge
    else if status == status_number statuses.HeaderFieldsTooLarge
    then statuses.HeaderFieldsTooLarge
    else statuses.BadRequest

-- the name of the error of a head that is refused with this status
abbrev pub refused_head : StatusCode → List ℕ
refused_head statuses.BadRequest = codes "Head"
refused_head _ = codes "TooLarge"

-- the name of the error of a head that is refused
abbrev pub head_error : ℕ → List ℕ
head_error status = refused_head (head_status status)

-- a response with this status and this body
abbrev pub plain_response : StatusCode → Data → Response
plain_response status body = record { status = status; body = compact_text body; allow = None }

-- the body that tells of a disk that failed, with its counts of faults before the call and after it
abbrev pub disk_data : ℕ → ℕ → Data
disk_data before after =
    object
    (member (codes "after") (whole after)
    (member (codes "before") (whole before)
    (member (codes "error") (string (codes "Disk")) no_members)))

-- the response to an answer
unfoldable pub response_of : Answer → Response
response_of (Accepted entry reply) = plain_response statuses.Ok (reply_data entry reply)
response_of (Public card) = plain_response statuses.Ok (public_data card)
response_of (Page card) = plain_response statuses.Ok (card_data card)
response_of (Refs refs) = plain_response statuses.Ok (refs_data refs)
response_of (Desk text) = plain_response statuses.Ok (content_data text)
response_of (Refused refusal) = plain_response (refusal_status refusal) (refusal_data refusal)
response_of NotFound = plain_response statuses.NotFound (error_data (codes "NotFound"))
response_of NotBuilt = plain_response statuses.NotImplemented (error_data (codes "NotBuilt"))
response_of (Method allow) =
    record {
      status = statuses.MethodNotAllowed;
      body = compact_text (error_data (codes "Method"));
      allow = Some allow;
    }
response_of Form = plain_response statuses.BadRequest (error_data (codes "Form"))
response_of NoUser = plain_response statuses.Unauthorized (error_data (codes "NoUser"))
response_of (Disk before after) =
    plain_response statuses.ServerError (disk_data before after)
response_of Memory = plain_response statuses.Unavailable (error_data (codes "Memory"))
response_of (Head status) = plain_response (head_status status) (error_data (head_error status))
