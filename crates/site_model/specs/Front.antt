-- The first six rules of every command, which ask for its pages and its caller alone: one row a
-- command says what they look at.
use Rattle.std.specs.Prelude.{ℕ, Bool, true, false, not, ◌==◌, ◌||◌, List, [], ◌∷◌, Option, Some, None, if◌then◌else◌}
use Rattle.std.specs.Option.{option_and_then}
use Rattle.site_types.specs.declared.body.Body.{Body}
use Rattle.site_types.specs.declared.command.Command.{Command}
use Rattle.site_types.specs.declared.command.Command.TheVariants as commands
use Rattle.site_types.specs.declared.position.Position.{Position}
use Rattle.site_types.specs.declared.refusal.Refusal.{Refusal}
use Rattle.site_types.specs.declared.refusal.Refusal.TheVariants as refusals
use Rattle.tree_model.specs.Places.{is_beside}
use Rattle.site_model.specs.World.{TreePart}
use Rattle.site_model.specs.Rights.{Rights, rights_of}
use Rattle.site_model.specs.Views.{View, Stage, body_of, view_of, is_asked}
use Rattle.site_model.specs.Needs.{needs_of, denied}
use Rattle.site_model.specs.Rules.{refused_if, first_of, no_pages, are_root}

-- Whom a lock or a moderation of the page keeps from a command.
pub data Stops : Type 0 where
  StopsNobody : Stops
  StopsOthers : Stops
  StopsEveryone : Stops

-- What the first rules of a command look at: the pages that it names, in order; those of them that
-- may not be the root; its page, whose lock, kind and moderation are asked for; whom the lock
-- stops, whether the page may not be an alias, and whom the moderation stops.
pub record CommandRow : Type 0 where
  pub named : List ℕ
  pub below_root : List ℕ
  pub page : Option ℕ
  pub lock : Stops
  pub alias : Bool
  pub moderation : Stops

-- a command that names pages, of which no lock, kind or moderation is asked
abbrev pub naming : List ℕ → List ℕ → CommandRow
naming pages below_root =
    record {
      named = pages;
      below_root = below_root;
      page = None;
      lock = StopsNobody;
      alias = false;
      moderation = StopsNobody;
    }

-- a command on one page below the root
abbrev pub on_page : ℕ → Stops → Bool → Stops → CommandRow
on_page page lock alias moderation =
    record {
      named = page ∷ [];
      below_root = page ∷ [];
      page = Some page;
      lock = lock;
      alias = alias;
      moderation = moderation;
    }

-- a move of a page by a target, which may be the root where it is to be the parent
abbrev pub on_move : ℕ → ℕ → Position → CommandRow
on_move page target position =
    record {
      named = page ∷ target ∷ [];
      below_root = if is_beside position then page ∷ target ∷ [] else page ∷ [];
      page = Some page;
      lock = StopsOthers;
      alias = false;
      moderation = StopsNobody;
    }

-- the row of a command
unfoldable pub row_of : Command → CommandRow
row_of (commands.Create parent slug content) = naming (parent ∷ []) []
row_of (commands.Move page target position) = on_move page target position
row_of (commands.Delete page) = on_page page StopsOthers false StopsNobody
row_of (commands.SetSlug page slug) = on_page page StopsOthers false StopsOthers
row_of (commands.Alias source parent slug) = naming (source ∷ parent ∷ []) (source ∷ [])
row_of (commands.Detach page) = naming (page ∷ []) (page ∷ [])
row_of (commands.Copy page parent slug deep) = naming (page ∷ parent ∷ []) (page ∷ [])
row_of (commands.OpenDesk page) = on_page page StopsOthers true StopsOthers
row_of (commands.SaveDesk page content) = naming [] []
row_of (commands.ShutDesk page) = naming [] []
row_of (commands.File page go_live expire) = naming [] []
row_of (commands.Publish page) = on_page page StopsOthers true StopsOthers
row_of (commands.Unpublish page) = on_page page StopsOthers true StopsNobody
row_of (commands.Unschedule page) = on_page page StopsOthers true StopsNobody
row_of (commands.Lock page) = on_page page StopsEveryone true StopsNobody
row_of (commands.Unlock page) = on_page page StopsNobody false StopsNobody
row_of (commands.Purge page) = on_page page StopsOthers true StopsNobody
row_of (commands.DefineTask groups) = naming [] []
row_of (commands.DefineWorkflow tasks) = naming [] []
row_of (commands.Assign page workflow) = naming (page ∷ []) []
row_of (commands.Submit page) = on_page page StopsOthers true StopsEveryone
row_of (commands.Approve page) = on_page page StopsNobody false StopsNobody
row_of (commands.Reject page) = on_page page StopsNobody false StopsNobody
row_of (commands.Cancel page) = on_page page StopsNobody false StopsNobody
row_of (commands.DefineUser superuser digest) = naming [] []
row_of commands.DefineGroup = naming [] []
row_of (commands.Member member group on) = naming [] []
row_of (commands.Grant group page permission on) = naming (page ∷ []) []
row_of commands.Tick = naming [] []

-- a lock of the page stops the caller
abbrev pub locked : Stops → ℕ → Option ℕ → Option Refusal
locked StopsNobody caller by = None
locked StopsOthers caller None = None
locked StopsOthers caller (Some user) = refused_if (not (user == caller)) (refusals.Locked user)
locked StopsEveryone caller None = None
locked StopsEveryone caller (Some user) = Some (refusals.Locked user)

-- whether a page of which this is kept is an alias
abbrev pub is_alias : Option Body → Bool
is_alias None = false
is_alias (Some body) = has_source body.source
  where
    has_source : Option ℕ → Bool
    has_source None = false
    has_source (Some source) = true

-- the page may not be an alias, and is one
abbrev pub aliased : Bool → Option Body → Option Refusal
aliased false body = None
aliased true body = refused_if (is_alias body) refusals.IsAlias

-- a moderation of the page stops one with these rights
abbrev pub in_moderation : Stops → Rights → Option Stage → Option Refusal
in_moderation StopsNobody rights stage = None
in_moderation StopsOthers rights None = None
in_moderation StopsOthers rights (Some stage) =
    refused_if (not (rights.super || is_asked rights stage)) (refusals.InModeration stage.task)
in_moderation StopsEveryone rights None = None
in_moderation StopsEveryone rights (Some stage) = Some (refusals.InModeration stage.task)

-- who has locked the page that is seen
abbrev pub locked_by : Option View → Option ℕ
locked_by None = None
locked_by (Some view) = view.locked_by

-- where the moderation of the page that is seen stands
abbrev pub stage_in : Option View → Option Stage
stage_in None = None
stage_in (Some view) = view.stage

-- the first six rules by a command's row and needs
abbrev pub front_by : TreePart → ℕ → CommandRow → List (Option ℕ) → Option Refusal
front_by part caller row needs =
    let view = option_and_then (view_of part) row.page in
    first_of
    (no_pages part.tree row.named
    ∷ are_root row.below_root
    ∷ denied part caller needs
    ∷ locked row.lock caller (locked_by view)
    ∷ aliased row.alias (option_and_then (body_of part.tree) row.page)
    ∷ in_moderation row.moderation (rights_of part caller) (stage_in view)
    ∷ [])

-- the first six rules of a command
unfoldable pub front_rules : TreePart → ℕ → Command → Option Refusal
front_rules part caller command =
    front_by part caller (row_of command) (needs_of part caller command)
