-- No number in a body is a float, so its text is determined.
use Rattle.std.proofs.Common.{◌≡◌, ◌||◌, ℕ, Bool, true, false, List, [], ◌∷◌, map, Option, Some, None, refl}
use Rattle.serde_json.specs.View.{items_of}
use Rattle.serde_json.specs.Written.{has_float, items_have_float}
use Rattle.json_model.specs.Content.{block_data}
use Rattle.json_model.proofs.TextLemmas.{content_plain}
use Rattle.public_view.specs.declared.card.Card.{Card}
use Rattle.public_view.specs.declared.kid.LiveKid.{LiveKid}
use Rattle.site_types.specs.declared.block.Block.{Block}
use Rattle.site_types.specs.declared.moderation.Moderation.{Moderation}
use Rattle.site_types.specs.declared.reply.Reply.{Reply}
use Rattle.site_types.specs.declared.reply.Reply.TheVariants as replies
use Rattle.wire_model.specs.Answers.{wholes, or_zero, time_or_null, moderation_status, moderation_task, reply_data, card_data, kid_data, public_data, refs_data}

-- a list of whole numbers has no float
pub wholes_have_no_float : (ids : List ℕ) → has_float (wholes ids) ≡ false
wholes_have_no_float [] = refl
wholes_have_no_float (id ∷ ids) = wholes_have_no_float ids

-- a number or 0 is no float
pub or_zero_has_no_float : (number : Option ℕ) → has_float (or_zero number) ≡ false
or_zero_has_no_float (Some n) = refl
or_zero_has_no_float None = refl

-- the text of a moment or null has no float
pub time_has_no_float : (moment : Option ℕ) → has_float (time_or_null moment) ≡ false
time_has_no_float (Some moment) = refl
time_has_no_float None = refl

-- the status of a moderation has no float
pub status_has_no_float : (moderation : Option Moderation) →
    has_float (moderation_status moderation) ≡ false
status_has_no_float (Some moderation) = refl
status_has_no_float None = refl

-- the task of a moderation has no float
pub task_has_no_float : (moderation : Option Moderation) →
    has_float (moderation_task moderation) ≡ false
task_has_no_float (Some moderation) = refl
task_has_no_float None = refl

-- the body of a reply has no float
pub reply_has_no_float : (entry : ℕ) (reply : Reply) → has_float (reply_data entry reply) ≡ false
reply_has_no_float entry (replies.Page id path url) = refl
reply_has_no_float entry replies.Done = refl
reply_has_no_float entry (replies.Id id) = refl
reply_has_no_float entry (replies.Ticked unpublished published dropped) =
    rw (
      wholes_have_no_float dropped,
      wholes_have_no_float published,
      wholes_have_no_float unpublished,
    )
reply_has_no_float entry (replies.Moderated status task) = refl
reply_has_no_float entry (replies.Published scheduled) = refl
reply_has_no_float entry (replies.Removed count) = refl

-- the body of a card has no float
pub card_has_no_float : (card : Card) → has_float (card_data card) ≡ false
card_has_no_float card =
    rw (
      or_zero_has_no_float card.body.source,
      time_has_no_float card.expire_at,
      time_has_no_float card.body.first_published,
      time_has_no_float card.body.last_published,
      or_zero_has_no_float card.body.latest,
      or_zero_has_no_float card.body.locked_by,
      status_has_no_float card.body.moderation,
      or_zero_has_no_float card.body.scheduled,
      or_zero_has_no_float card.body.shown,
      task_has_no_float card.body.moderation,
    )

-- what is false with another test beside it is false alone
false_alone : (test : Bool) → test || false ≡ false → test ≡ false
false_alone true is = absurd (cc)
false_alone false is = refl

-- blocks have no float, since a content of them has none
blocks_have_no_float : (blocks : List Block) →
    items_have_float (items_of (map block_data blocks)) ≡ false
blocks_have_no_float blocks =
    false_alone _ (content_plain (record { title = []; blocks = blocks }))

-- kids have no float
kids_have_no_float : (kids : List LiveKid) →
    items_have_float (items_of (map kid_data kids)) ≡ false
kids_have_no_float [] = refl
kids_have_no_float (kid ∷ kids) = kids_have_no_float kids

-- the body of a public page has no float
pub public_has_no_float : (card : Card) → has_float (public_data card) ≡ false
public_has_no_float card = rw (blocks_have_no_float card.blocks, kids_have_no_float card.kids) refl

-- what is told of references has no float
pub refs_have_no_float : (refs : List ℕ) → has_float (refs_data refs) ≡ false
refs_have_no_float refs = rw (wholes_have_no_float refs)
