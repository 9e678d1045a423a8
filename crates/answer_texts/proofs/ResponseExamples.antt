-- The definitions at worked values: the texts of bodies, and the statuses of answers.
use Rattle.std.proofs.Common.{◌≡◌, [], ◌∷◌, ◌++◌, Some, None, true, false, refl, codes}
use Rattle.std.specs.Fmt.{digits}
use Rattle.serde_json.specs.Written.{compact_text}
use Rattle.serde_json.proofs.OnLiterals.{serde_json_on_literals}
use Rattle.http_model.specs.declared.method.Allow.TheVariants as allows
use Rattle.http_model.specs.declared.status.StatusCode.TheVariants as statuses
use Rattle.public_view.specs.declared.card.Card.{Card}
use Rattle.site_types.specs.declared.body.Body.{Body}
use Rattle.site_types.specs.declared.moderation.ModerationStatus.TheVariants.{NeedsChanges}
use Rattle.site_types.specs.declared.refusal.Refusal.TheVariants.{SlugTaken, NothingNew, NoPage, NoDesk, Denied, InModeration, NoWorkflow, NotModerated, NoName}
use Rattle.site_types.specs.declared.refusal.NameKind.TheVariants.{Workflow}
use Rattle.site_types.specs.declared.reply.Reply.TheVariants as replies
use Rattle.site_types.specs.RootBody.{root_body}
use Rattle.wire_model.specs.declared.answer.Answer.TheVariants.{Method, Head, Refused}
use Rattle.wire_model.specs.Answers.{reply_data, card_data, public_data, refusal_data, response_of, has_unpublished_changes}

-- a page was made
a_page_is_told : compact_text (reply_data 1 (replies.Page 2 (codes "00010001") (codes "/home/"))) ≡
    codes "{\"entry\":1,\"id\":2,\"path\":\"00010001\",\"url\":\"/home/\"}"
unfolding digits serde_json_on_literals
a_page_is_told = refl

-- nothing is to tell
an_entry_is_told : compact_text (reply_data 18446744073709551615 replies.Done) ≡
    codes "{\"entry\":18446744073709551615}"
unfolding digits serde_json_on_literals
an_entry_is_told = refl

-- a tick with pages in two of its three cases
a_tick_is_told :
    compact_text (reply_data 4 (replies.Ticked (2 ∷ 5 ∷ []) [] (7 ∷ []))) ≡
    codes "{\"dropped\":[7],\"entry\":4,\"published\":[],\"unpublished\":[2,5]}"
unfolding digits serde_json_on_literals
a_tick_is_told = refl

-- a moderation went on
a_moderation_is_told : compact_text (reply_data 9 (replies.Moderated NeedsChanges 2)) ≡
    codes "{\"entry\":9,\"status\":\"needs_changes\",\"task\":2}"
unfolding digits serde_json_on_literals
a_moderation_is_told = refl

-- a refusal with a value, and one without
a_taken_slug_is_told : compact_text (refusal_data (SlugTaken 2)) ≡
    codes "{\"name\":\"SlugTaken\",\"refused\":8,\"with\":2}"
unfolding digits serde_json_on_literals
a_taken_slug_is_told = refl

-- nothing new
nothing_new_is_told : compact_text (refusal_data NothingNew) ≡
    codes "{\"name\":\"NothingNew\",\"refused\":15}"
unfolding digits serde_json_on_literals
nothing_new_is_told = refl

-- the task of a moderation
a_moderation_stops : compact_text (refusal_data (InModeration 65535)) ≡
    codes "{\"name\":\"InModeration\",\"refused\":6,\"with\":65535}"
unfolding digits serde_json_on_literals
a_moderation_stops = refl

-- no workflow
no_workflow_is_told : compact_text (refusal_data NoWorkflow) ≡
    codes "{\"name\":\"NoWorkflow\",\"refused\":17}"
unfolding digits serde_json_on_literals
no_workflow_is_told = refl

-- no moderation that allows the event
no_moderation_is_told : compact_text (refusal_data NotModerated) ≡
    codes "{\"name\":\"NotModerated\",\"refused\":18}"
unfolding digits serde_json_on_literals
no_moderation_is_told = refl

-- a name that is none, by its kind
no_name_is_told : compact_text (refusal_data (NoName Workflow)) ≡
    codes "{\"name\":\"NoName\",\"refused\":19,\"with\":4}"
unfolding digits serde_json_on_literals
no_name_is_told = refl

-- what is kept of a page that was just made: it shows its first revision, and is not live
abbrev made_body : Body
made_body = record root_body { owner = 1; shown = Some 1; latest = Some 1 }

-- the card of the first page below the root, with a live kid
abbrev home_card : Card
home_card =
    record {
      id = 2;
      path = codes "00010001";
      depth = 2;
      numchild = 0;
      slug = codes "home";
      body = made_body;
      url = codes "/home/";
      title = codes "Home";
      blocks = [];
      expire_at = None;
      kids = record { id = 3; title = codes "News"; url = codes "/home/news/" } ∷ [];
    }

-- its text
the_card_is_told : compact_text (card_data home_card) ≡
    codes "{\"alias_of\":0,\"depth\":2,\"expire_at\":null,\"expired\":false,"
    ++ codes "\"first_published_at\":null,\"id\":2,\"last_published_at\":null,\"latest\":1,"
    ++ codes "\"live\":false,\"locked_by\":0,\"moderation\":\"none\",\"numchild\":0,"
    ++ codes "\"owner\":1,\"path\":\"00010001\",\"scheduled\":0,\"shown\":1,"
    ++ codes "\"slug\":\"home\",\"task\":0,\"title\":\"Home\","
    ++ codes "\"unpublished_changes\":true,\"url\":\"/home/\"}"
unfolding digits serde_json_on_literals
the_card_is_told = refl

-- the page for everybody
the_page_is_told : compact_text (public_data home_card) ≡
    codes "{\"blocks\":[],\"children\":[{\"id\":3,\"title\":\"News\",\"url\":\"/home/news/\"}],"
    ++ codes "\"id\":2,\"title\":\"Home\",\"url\":\"/home/\"}"
unfolding digits serde_json_on_literals
the_page_is_told = refl

-- the root has no changes that are not public, nor has a live page that shows its latest revision
the_root_has_no_changes : has_unpublished_changes root_body None ≡ false
the_root_has_no_changes = refl

-- shown changes are public
shown_changes_are_public :
    has_unpublished_changes (record made_body { live = true }) (Some 1) ≡ false
shown_changes_are_public = refl

-- a later revision is not public
a_later_revision_is_not_public :
    has_unpublished_changes (record made_body { live = true }) (Some 2) ≡ true
a_later_revision_is_not_public = refl

-- the statuses of refusals
no_page_is_404 : (response_of (Refused (NoPage 9))).status ≡ statuses.NotFound
unfolding response_of
no_page_is_404 = refl

-- denied is 403
denied_is_403 : (response_of (Refused (Denied 1))).status ≡ statuses.Forbidden
unfolding response_of
denied_is_403 = refl

-- no desk is 409
no_desk_is_409 : (response_of (Refused NoDesk)).status ≡ statuses.Conflict
unfolding response_of
no_desk_is_409 = refl

-- another is 409
another_is_409 : (response_of (Refused NothingNew)).status ≡ statuses.Conflict
unfolding response_of
another_is_409 = refl

-- a 405 names the method that the route takes
the_method_is_told : (response_of (Method allows.Post)).allow ≡ Some allows.Post
unfolding response_of
the_method_is_told = refl

-- a head that is too large, and one that is no head
too_large_is_told : (response_of (Head 413)).body ≡ codes "{\"error\":\"TooLarge\"}"
unfolding response_of serde_json_on_literals
too_large_is_told = refl

-- a front that is no head
no_head_is_told : (response_of (Head 400)).body ≡ codes "{\"error\":\"Head\"}"
unfolding response_of serde_json_on_literals
no_head_is_told = refl
