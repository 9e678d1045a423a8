-- The members of a card in four groups, each put among other members.
use Rattle.std.specs.Prelude.{codes}
use Rattle.serde_json.specs.Data.{Members, string, boolean, put}
use Rattle.public_view.specs.declared.card.Card.{Card}
use Rattle.wire_model.specs.Answers.{whole, or_zero, time_or_null, moderation_status, moderation_task, has_unpublished_changes}

-- with the members that tell the page's place in the tree
abbrev pub with_place : Card → Members → Members
with_place card members =
    put (codes "url") (string card.url)
    (put (codes "slug") (string card.slug)
    (put (codes "path") (string card.path)
    (put (codes "numchild") (whole card.numchild)
    (put (codes "id") (whole card.id)
    (put (codes "depth") (whole card.depth) members)))))

-- with the members that tell whose page it is, what it is an alias of, and its moderation
abbrev pub with_owner : Card → Members → Members
with_owner card members =
    put (codes "task") (moderation_task card.body.moderation)
    (put (codes "owner") (whole card.body.owner)
    (put (codes "moderation") (moderation_status card.body.moderation)
    (put (codes "locked_by") (or_zero card.body.locked_by)
    (put (codes "alias_of") (or_zero card.body.source) members))))

-- with the members that tell its revisions, and whether it is live
abbrev pub with_revisions : Card → Members → Members
with_revisions card members =
    put (codes "unpublished_changes")
    (boolean (has_unpublished_changes card.body card.body.latest))
    (put (codes "shown") (or_zero card.body.shown)
    (put (codes "scheduled") (or_zero card.body.scheduled)
    (put (codes "live") (boolean card.body.live)
    (put (codes "latest") (or_zero card.body.latest)
    (put (codes "expired") (boolean card.body.expired) members)))))

-- with its title and its moments
abbrev pub with_moments : Card → Members → Members
with_moments card members =
    put (codes "title") (string card.title)
    (put (codes "last_published_at") (time_or_null card.body.last_published)
    (put (codes "first_published_at") (time_or_null card.body.first_published)
    (put (codes "expire_at") (time_or_null card.expire_at) members)))
