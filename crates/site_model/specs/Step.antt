-- The step: what one entry does to the world. Rules are tried in their order; a command that none
-- of them refuses has its effect, and then the desks go that are lost in the world after it.
use Rattle.std.specs.Prelude.{ℕ, ◌==◌, ◌&&◌, List, [], ◌∷◌, map, Option, Some, None, Result, Ok, Err, if◌then◌else◌}
use Rattle.site_types.specs.Content.{ContentValue}
use Rattle.site_types.specs.declared.command.Command.{Command}
use Rattle.site_types.specs.declared.command.Command.TheVariants as commands
use Rattle.site_types.specs.declared.entry.Entry.{Entry}
use Rattle.site_types.specs.declared.refusal.Refusal.{Refusal}
use Rattle.site_types.specs.declared.reply.Reply.{Reply}
use Rattle.site_types.specs.declared.reply.Reply.TheVariants.{Done}
use Rattle.site_model.specs.World.{World, TreePart, Desk, Deed, Effect}
use Rattle.site_model.specs.Rules.{first_of}
use Rattle.site_model.specs.Front.{front_rules}
use Rattle.site_model.specs.Create.{create_rules, create, plain_deed}
use Rattle.site_model.specs.Moves.{move_rules, move}
use Rattle.site_model.specs.Delete.{delete_rules, delete}
use Rattle.site_model.specs.Slugs.{slug_rules, set_slug}
use Rattle.site_model.specs.Users.{user_rules, define_user, group_rules, define_group, member_rules, set_member, grant_rules, set_grant}
use Rattle.site_model.specs.Bodies.{latest_of}
use Rattle.site_model.specs.Desks.{desk_page, own_text, no_desk, open_rules, open_desk, shut_desk, file_rules, file_text, settled, desks_after}
use Rattle.site_model.specs.Aliases.{alias_rules, make_alias, detach_rules, detach}
use Rattle.site_model.specs.Copies.{copy_rules, copy}
use Rattle.site_model.specs.Moderations.{WasApproved, WasRejected, WasCancelled}
use Rattle.site_model.specs.Moderating.{submit_rules, submit, not_moderated, approve_rules, answer}
use Rattle.site_model.specs.Tasks.{task_rules, define_task, workflow_rules, define_workflow, assign_rules, assign}
use Rattle.site_model.specs.Ticks.{tick_rules, tick}
use Rattle.site_model.specs.Publishing.{publish_rules, publish, unpublish_rules, unpublish, unschedule_rules, unschedule, lock_rules, lock, unlock_rules, unlock, purge_rules, purge}

-- The command's own rules, from the seventh on, in the world before it; `desk` is the caller's own
-- text of the page, where the caller has a desk there.
unfoldable pub rules : TreePart → Option ContentValue → ℕ → ℕ → Command → Option Refusal
rules part desk now caller (commands.Create parent slug content) =
    create_rules part now caller parent slug content
rules part desk now caller (commands.Move page target position) =
    move_rules part.tree page target position
rules part desk now caller (commands.Delete page) = delete_rules part now caller page
rules part desk now caller (commands.SetSlug page slug) = slug_rules part.tree page slug
rules part desk now caller (commands.Alias source parent slug) =
    alias_rules part now caller source parent slug
rules part desk now caller (commands.Detach page) = detach_rules part now caller page
rules part desk now caller (commands.Copy page parent slug deep) =
    copy_rules part now caller page parent slug deep
rules part desk now caller (commands.OpenDesk page) = open_rules part page
rules part desk now caller (commands.SaveDesk page content) = no_desk desk
rules part desk now caller (commands.ShutDesk page) = no_desk desk
rules part desk now caller (commands.File page go_live expire) =
    file_rules part now caller page go_live expire desk
rules part desk now caller (commands.Publish page) =
    publish_rules part now page (latest_of part page)
rules part desk now caller (commands.Unpublish page) = unpublish_rules part page
rules part desk now caller (commands.Unschedule page) = unschedule_rules part page
rules part desk now caller (commands.Lock page) = lock_rules caller
rules part desk now caller (commands.Unlock page) = unlock_rules part page
rules part desk now caller (commands.Purge page) = purge_rules part page
rules part desk now caller (commands.DefineTask groups) = task_rules part groups
rules part desk now caller (commands.DefineWorkflow tasks) = workflow_rules part tasks
rules part desk now caller (commands.Assign page workflow) = assign_rules part page workflow
rules part desk now caller (commands.Submit page) = submit_rules part page
rules part desk now caller (commands.Approve page) = approve_rules part now page
rules part desk now caller (commands.Reject page) = not_moderated part WasRejected page
rules part desk now caller (commands.Cancel page) = not_moderated part WasCancelled page
rules part desk now caller (commands.DefineUser superuser digest) = user_rules part digest
rules part desk now caller commands.DefineGroup = group_rules part
rules part desk now caller (commands.Member user group on) = member_rules part user group on
rules part desk now caller (commands.Grant group page permission on) =
    grant_rules part group page permission on
rules part desk now caller commands.Tick = tick_rules part now

-- What a command does that no rule refuses. Saving does not change the tree part.
unfoldable pub effect : TreePart → Option ContentValue → ℕ → ℕ → Command → Deed
effect part desk now caller (commands.Create parent slug content) =
    create part now caller parent slug content
effect part desk now caller (commands.Move page target position) =
    move part now page target position
effect part desk now caller (commands.Delete page) = delete part now caller page
effect part desk now caller (commands.SetSlug page slug) = set_slug part now page slug
effect part desk now caller (commands.Alias source parent slug) =
    make_alias part now caller source parent slug
effect part desk now caller (commands.Detach page) = detach part now caller page
effect part desk now caller (commands.Copy page parent slug deep) =
    copy part now caller page parent slug deep
effect part desk now caller (commands.OpenDesk page) = open_desk part now page
effect part desk now caller (commands.SaveDesk page content) = plain_deed part Done
effect part desk now caller (commands.ShutDesk page) = shut_desk part now
effect part desk now caller (commands.File page go_live expire) =
    file_text part now caller page go_live expire desk
effect part desk now caller (commands.Publish page) =
    publish part now page (latest_of part page)
effect part desk now caller (commands.Unpublish page) = unpublish part now page
effect part desk now caller (commands.Unschedule page) = unschedule part now page
effect part desk now caller (commands.Lock page) = lock part now caller page
effect part desk now caller (commands.Unlock page) = unlock part now page
effect part desk now caller (commands.Purge page) = purge part now page
effect part desk now caller (commands.DefineTask groups) = define_task part now groups
effect part desk now caller (commands.DefineWorkflow tasks) = define_workflow part now tasks
effect part desk now caller (commands.Assign page workflow) = assign part now page workflow
effect part desk now caller (commands.Submit page) = submit part now caller page
effect part desk now caller (commands.Approve page) = answer part now WasApproved page
effect part desk now caller (commands.Reject page) = answer part now WasRejected page
effect part desk now caller (commands.Cancel page) = answer part now WasCancelled page
effect part desk now caller (commands.DefineUser superuser digest) =
    define_user part now superuser digest
effect part desk now caller commands.DefineGroup = define_group part now
effect part desk now caller (commands.Member user group on) = set_member part now user group on
effect part desk now caller (commands.Grant group page permission on) =
    set_grant part now group page permission on
effect part desk now caller commands.Tick = tick part now

-- why a command is refused: by the first six rules, or by a rule of its own
abbrev pub refusal_of : TreePart → Option ContentValue → ℕ → ℕ → Command → Option Refusal
refusal_of part desk now caller command =
    first_of (front_rules part caller command ∷ rules part desk now caller command ∷ [])

-- what a command comes to that no rule refuses, or the refusal
abbrev pub unless_refused : {Made : Type 0} → Option Refusal → Made → Result Made Refusal
unless_refused (Some refusal) made = Err refusal
unless_refused None made = Ok made

-- The step of the tree part by a command of a caller at a moment, where the caller has this text at
-- a desk of the command's page.
unfoldable pub step_by : TreePart → Option ContentValue → ℕ → ℕ → Command →
    Result (TreePart × Effect) Refusal
step_by part desk now caller command =
    unless_refused (refusal_of part desk now caller command)
    (settled caller (desk_page command) (effect part desk now caller command))

-- the page and the text of a command that saves a desk
unfoldable pub saving : Command → Option (ℕ × ContentValue)
saving (commands.Create parent slug content) = None
saving (commands.Move page target position) = None
saving (commands.Delete page) = None
saving (commands.SetSlug page slug) = None
saving (commands.Alias source parent slug) = None
saving (commands.Detach page) = None
saving (commands.Copy page parent slug deep) = None
saving (commands.OpenDesk page) = None
saving (commands.SaveDesk page content) = Some (page, content)
saving (commands.ShutDesk page) = None
saving (commands.File page go_live expire) = None
saving (commands.Publish page) = None
saving (commands.Unpublish page) = None
saving (commands.Unschedule page) = None
saving (commands.Lock page) = None
saving (commands.Unlock page) = None
saving (commands.Purge page) = None
saving (commands.DefineTask groups) = None
saving (commands.DefineWorkflow tasks) = None
saving (commands.Assign page workflow) = None
saving (commands.Submit page) = None
saving (commands.Approve page) = None
saving (commands.Reject page) = None
saving (commands.Cancel page) = None
saving (commands.DefineUser superuser digest) = None
saving commands.DefineGroup = None
saving (commands.Member user group on) = None
saving (commands.Grant group page permission on) = None
saving commands.Tick = None

-- a desk with this text, where it is the desk of this user on this page
abbrev pub with_text : ℕ → ℕ → ContentValue → Desk → Desk
with_text page user text desk =
    if (desk.page == page) && (desk.user == user) then record desk { text = text } else desk

-- the desks with another text at the one of this user on this page
abbrev pub saved : ℕ → ℕ → ContentValue → List Desk → List Desk
saved page user text desks = map (with_text page user text) desks

-- Saving a desk: it changes the text of the caller's own desk and nothing else, not the time
-- either.
abbrev pub save : World → ℕ → ℕ → ContentValue → Result (World × Reply) Refusal
save world caller page text =
    unless_refused (no_desk (own_text world.desks caller (Some page)))
    (record world { desks = saved page caller text world.desks }, Done)

-- a step of the tree part, with what it does to the desks
abbrev pub with_desks : List Desk → Result (TreePart × Effect) Refusal →
    Result (World × Reply) Refusal
with_desks desks (Err refusal) = Err refusal
with_desks desks (Ok done) = Ok (
  record { part = done.0; desks = desks_after done.1 desks },
  done.1.reply,
)

-- the step of the world by a command that saves this text, where it saves one, and else by its
-- rules
abbrev pub step_with : World → ℕ → ℕ → Command → Option (ℕ × ContentValue) →
    Result (World × Reply) Refusal
step_with world now caller command (Some pair) = save world caller pair.0 pair.1
step_with world now caller command None =
    with_desks world.desks
    (step_by world.part (own_text world.desks caller (desk_page command)) now caller command)

-- the step of the world by a command of a caller at a moment
unfoldable pub step_at : World → ℕ → ℕ → Command → Result (World × Reply) Refusal
step_at world now caller command = step_with world now caller command (saving command)

-- the step of the world by an entry, whatever its number
abbrev pub step : World → Entry → Result (World × Reply) Refusal
step world entry = step_at world entry.moment entry.caller entry.command
