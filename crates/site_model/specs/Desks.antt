-- Open desks: which command looks at the caller's own, the commands on them, and which desks stay
-- open after a command.
use Rattle.std.specs.Prelude.{ℕ, Bool, true, false, not, nat_le, ◌+◌, ◌==◌, ◌&&◌, ◌||◌, List, [], ◌∷◌, ◌++◌, length, filter, find, Option, Some, None}
use Rattle.std.specs.List.{list_any}
use Rattle.std.specs.Option.{option_map, is_some}
use Rattle.site_ids.specs.declared.ids.TheConstants.{LAST_REVISION_ID}
use Rattle.site_types.specs.Content.{ContentValue}
use Rattle.site_types.specs.Equal.{content_eq}
use Rattle.site_types.specs.declared.command.Command.{Command}
use Rattle.site_types.specs.declared.command.Command.TheVariants as commands
use Rattle.site_types.specs.declared.refusal.Refusal.{Refusal}
use Rattle.site_types.specs.declared.refusal.Refusal.TheVariants.{NoDesk, DeskTaken, NothingNew, ContentFull}
use Rattle.site_types.specs.declared.reply.Reply.TheVariants.{Done, Id}
use Rattle.site_types.specs.declared.revision.Revision.{Revision}
use Rattle.site_model.specs.World.{DeskPair, Desk, TreePart, Deed, Effect, pair_of, time_at}
use Rattle.site_model.specs.Limits.{MAX_DESKS}
use Rattle.site_model.specs.Rules.{refused_if, first_of, ids_full, content_full}
use Rattle.site_model.specs.Rights.{Rights, rights_of}
use Rattle.site_model.specs.Views.{View, view_of, may_edit}
use Rattle.site_model.specs.Front.{StopsOthers, locked, in_moderation}
use Rattle.site_model.specs.Users.{put_in}
use Rattle.site_model.specs.Bodies.{rebodied, latest_of, latest_content, same_number}
use Rattle.site_model.specs.Moderations.{after_filing}

-- desks rise by page
abbrev pub desk_key : DeskPair → List ℕ
desk_key pair = pair.page ∷ []

-- whether two desks are the same, their texts aside
abbrev pub is_same_desk : DeskPair → DeskPair → Bool
is_same_desk pair other = (pair.page == other.page) && (pair.user == other.user)

-- the page whose desk, the caller's own, a command looks at
unfoldable pub desk_page : Command → Option ℕ
desk_page (commands.Create parent slug content) = None
desk_page (commands.Move page target position) = None
desk_page (commands.Delete page) = None
desk_page (commands.SetSlug page slug) = None
desk_page (commands.Alias source parent slug) = None
desk_page (commands.Detach page) = None
desk_page (commands.Copy page parent slug deep) = None
desk_page (commands.OpenDesk page) = Some page
desk_page (commands.SaveDesk page content) = Some page
desk_page (commands.ShutDesk page) = Some page
desk_page (commands.File page go_live expire) = Some page
desk_page (commands.Publish page) = None
desk_page (commands.Unpublish page) = None
desk_page (commands.Unschedule page) = None
desk_page (commands.Lock page) = None
desk_page (commands.Unlock page) = None
desk_page (commands.Purge page) = None
desk_page (commands.DefineTask groups) = None
desk_page (commands.DefineWorkflow tasks) = None
desk_page (commands.Assign page workflow) = None
desk_page (commands.Submit page) = None
desk_page (commands.Approve page) = None
desk_page (commands.Reject page) = None
desk_page (commands.Cancel page) = None
desk_page (commands.DefineUser superuser digest) = None
desk_page commands.DefineGroup = None
desk_page (commands.Member member group on) = None
desk_page (commands.Grant group page permission on) = None
desk_page commands.Tick = None

-- what a user has written at the desk on a page, where that desk is the user's
abbrev pub text_at : List Desk → ℕ → ℕ → Option ContentValue
text_at desks page user =
    option_map (λ desk. desk.text)
    (find (λ desk. (desk.page == page) && (desk.user == user)) desks)

-- the caller's own text that a command looks at
abbrev pub own_text : List Desk → ℕ → Option ℕ → Option ContentValue
own_text desks caller None = None
own_text desks caller (Some page) = text_at desks page caller

-- the caller has no desk there
abbrev pub no_desk : Option ContentValue → Option Refusal
no_desk desk = refused_if (not (is_some desk)) NoDesk

-- the user whose desk on the page is open
abbrev pub desk_user : List DeskPair → ℕ → Option ℕ
desk_user pairs page = option_map (λ pair. pair.user) (find (λ pair. pair.page == page) pairs)

-- the rules of opening a desk
abbrev pub open_rules : TreePart → ℕ → Option Refusal
open_rules part page =
    first_of
    (option_map DeskTaken (desk_user part.desk_pairs page)
    ∷ refused_if (nat_le MAX_DESKS (length part.desk_pairs)) ContentFull
    ∷ [])

-- what opening a desk does: it has the latest content
abbrev pub open_desk : TreePart → ℕ → ℕ → Deed
open_desk part now page =
    record {
      part = record part { time = time_at part now };
      reply = Done;
      opened = latest_content part page;
      shut = false;
    }

-- what shutting the caller's desk does
abbrev pub shut_desk : TreePart → ℕ → Deed
shut_desk part now =
    record {
      part = record part { time = time_at part now };
      reply = Done;
      opened = None;
      shut = true;
    }

-- the revision that is filed
abbrev pub filed_revision : TreePart → ℕ → ℕ → ℕ → ContentValue → Option ℕ → Option ℕ → Revision
filed_revision part now caller page text go_live expire =
    record {
      id = part.next_revision;
      page = page;
      by = caller;
      made = time_at part now;
      content = text;
      go_live = go_live;
      expire = expire;
    }

-- the world with the text filed: it is the page's latest revision, and the moderated one where the
-- page's moderation is in progress
abbrev pub with_filed : TreePart → ℕ → ℕ → ℕ → ContentValue → Option ℕ → Option ℕ → TreePart
with_filed part now caller page text go_live expire =
    record part {
      time = time_at part now;
      next_revision = part.next_revision + 1;
      revisions = part.revisions
          ++ filed_revision part now caller page text go_live expire ∷ [];
      tree = rebodied page
          (λ body. record body {
            latest = Some part.next_revision;
            moderation = after_filing part.next_revision body.moderation;
          })
          part.tree;
    }

-- whether a revision has this text and these moments
abbrev pub is_filed : ContentValue → Option ℕ → Option ℕ → Option Revision → Bool
is_filed text go_live expire None = false
is_filed text go_live expire (Some revision) =
    content_eq text revision.content
    && (same_number go_live revision.go_live && same_number expire revision.expire)

-- the rules of filing the caller's text
abbrev pub file_rules : TreePart → ℕ → ℕ → ℕ → Option ℕ → Option ℕ → Option ContentValue →
    Option Refusal
file_rules part now caller page go_live expire None = Some NoDesk
file_rules part now caller page go_live expire (Some text) =
    first_of
    (refused_if (is_filed text go_live expire (latest_of part page)) NothingNew
    ∷ ids_full LAST_REVISION_ID part.next_revision
    ∷ content_full (with_filed part now caller page text go_live expire).revisions
    ∷ [])

-- what filing the caller's text does; the desk goes
abbrev pub file_text : TreePart → ℕ → ℕ → ℕ → Option ℕ → Option ℕ → Option ContentValue → Deed
file_text part now caller page go_live expire None =
    record { part = part; reply = Done; opened = None; shut = false }
file_text part now caller page go_live expire (Some text) =
    record {
      part = with_filed part now caller page text go_live expire;
      reply = Id part.next_revision;
      opened = None;
      shut = true;
    }

-- Whether one may keep a desk on a page: the page is there, one may edit it, and neither its lock
-- nor its moderation stops one.
abbrev pub keeps_desk : Rights → Option View → Bool
keeps_desk rights None = false
keeps_desk rights (Some view) =
    may_edit rights view
    && (not (is_some (locked StopsOthers rights.user view.locked_by))
    && not (is_some (in_moderation StopsOthers rights view.stage)))

-- whether an open desk stays open in this world
abbrev pub stays : TreePart → DeskPair → Bool
stays part pair = keeps_desk (rights_of part pair.user) (view_of part pair.page)

-- the desk that a command opens for its caller
abbrev pub desk_opened : ℕ → Option ℕ → Option ContentValue → Option Desk
desk_opened caller None text = None
desk_opened caller (Some page) None = None
desk_opened caller (Some page) (Some text) =
    Some (record { page = page; user = caller; text = text })

-- whether this is the caller's desk on the page, and a command shuts that
abbrev pub is_shut : Bool → ℕ → Option ℕ → DeskPair → Bool
is_shut shut caller None pair = false
is_shut shut caller (Some page) pair =
    shut && ((pair.page == page) && (pair.user == caller))

-- the open desks with one more, where one is opened
abbrev pub with_pair : Option Desk → List DeskPair → List DeskPair
with_pair None pairs = pairs
with_pair (Some desk) pairs = put_in desk_key (pair_of desk) pairs

-- the same with their texts
abbrev pub with_desk : Option Desk → List Desk → List Desk
with_desk None desks = desks
with_desk (Some desk) desks = put_in (λ one. desk_key (pair_of one)) desk desks

-- whether a desk is one of those that end
abbrev pub is_ended : List DeskPair → DeskPair → Bool
is_ended ended pair = list_any (is_same_desk pair) ended

-- The tree part and the effect of a command that no rule refuses. No command says itself which
-- desks end: it is those that it shuts, and those that are lost in the world after it.
abbrev pub settled : ℕ → Option ℕ → Deed → TreePart × Effect
settled caller page deed =
    let opened = desk_opened caller page deed.opened in
    let open_pairs = with_pair opened deed.part.desk_pairs in
    let ended = filter
    (λ pair. is_shut deed.shut caller page pair || not (stays deed.part pair)) open_pairs in (
      record deed.part { desk_pairs = filter (λ pair. not (is_ended ended pair)) open_pairs },
      record { reply = deed.reply; opened = opened; ended = ended },
    )

-- the open desks with their texts after an effect
abbrev pub desks_after : Effect → List Desk → List Desk
desks_after effect desks =
    filter (λ desk. not (is_ended effect.ended (pair_of desk))) (with_desk effect.opened desks)
