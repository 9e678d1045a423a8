-- The bodies of replies, cards, public pages and desks have no float.
use Rattle.std.proofs.Common.{◌∙◌, ap}
use Rattle.serde_json.specs.Written.{has_float}
use Rattle.json_model.proofs.TextLemmas.{content_plain}
use Rattle.answer_texts.proofs.FloatLemmas.{reply_has_no_float, card_has_no_float, public_has_no_float, refs_have_no_float}
use Rattle.answer_texts.proofs.response.to_response.Goals as goal

pub plain-requires : goal.plain-requires
plain-requires c =
    ap has_float c.in_ok-value-in-Accepted.ensures
    ∙ reply_has_no_float c.in-Accepted.entry c.in-Accepted.reply

pub plain-requires-in-Page : goal.plain-requires-in-Page
plain-requires-in-Page c =
    ap has_float c.in_ok-value-in-Page.ensures ∙ card_has_no_float c.in-Page.card

pub plain-requires-in-Public : goal.plain-requires-in-Public
plain-requires-in-Public c =
    ap has_float c.in_ok-value-in-Public.ensures ∙ public_has_no_float c.in-Public.card

pub plain-requires-in-Refs : goal.plain-requires-in-Refs
plain-requires-in-Refs c =
    ap has_float c.in_ok-value-in-Refs.ensures ∙ refs_have_no_float c.in-Refs.refs

pub plain-requires-in-Desk : goal.plain-requires-in-Desk
plain-requires-in-Desk c =
    ap has_float c.in_ok-value-in-Desk.ensures.form ∙ content_plain c.in-Desk.text
