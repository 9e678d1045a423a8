-- The forms of commands: which command a body asks for by each.
use Rattle.std.specs.Prelude.{ℕ, Bool, ◌+◌, ◌-◌, ◌*◌, ◌==◌, nat_lt, List, [], ◌∷◌, map, length, codes, Option, Some, None, option_map, option_and_then, if◌then◌else◌}
use Rattle.std.specs.Bool.{then_some}
use Rattle.std.specs.Str.{is_utf8}
use Rattle.serde_json.specs.Data.{Data}
use Rattle.serde_json.specs.Find.{get, as_str}
use Rattle.serde_json.specs.Read.{read}
use Rattle.json_model.specs.Members.{has_exactly, text_at, id_of, slug_of, truth_of, whole_within, is_within, list_of}
use Rattle.json_model.specs.Content.{content_of}
use Rattle.site_types.specs.Content.{ContentValue}
use Rattle.site_types.specs.declared.command.Command.{Command}
use Rattle.site_ids.specs.declared.digest.TheConstants.{DIGEST_BYTES}
use Rattle.site_ids.specs.declared.ids.TheConstants.{LAST_USER_ID, LAST_GROUP_ID, LAST_TASK_ID, LAST_WORKFLOW_ID}
use Rattle.site_types.specs.declared.command.Command.TheVariants.{Create, Move, Delete, SetSlug, Alias, Detach, Copy, OpenDesk, SaveDesk, ShutDesk, File, Publish, Unpublish, Unschedule, Lock, Unlock, Purge, DefineTask, DefineWorkflow, Assign, Submit, Approve, Reject, Cancel, DefineUser, DefineGroup, Member, Grant, Tick}
use Rattle.site_types.specs.declared.permission.Permission.{Permission}
use Rattle.site_types.specs.declared.position.Position.{Position}
use Rattle.wire_model.specs.declared.form.CommandForm.{CommandForm}
use Rattle.wire_model.specs.declared.form.CommandForm.TheVariants as forms
use Rattle.wire_model.specs.declared.form.PageVerb.{PageVerb}
use Rattle.wire_model.specs.declared.form.PageVerb.TheVariants as verbs
use Rattle.wire_model.specs.declared.names.TheConstants.{POSITIONS, PERMISSIONS}
use Rattle.wire_model.specs.declared.words.TheConstants.{MAX_NAMED_IDS}
use Rattle.wire_model.specs.Tables.{named}
use Rattle.wire_model.specs.Times.{time_at}

-- the text of a body: no bytes are read as an empty object
abbrev pub text_of_body : List ℕ → List ℕ
text_of_body body = if length body == 0 then codes "{}" else body

-- the JSON of a body, if it is any
abbrev pub data_of : List ℕ → Option Data
data_of body = if is_utf8 body then read (text_of_body body) else None

-- the positions by their texts
abbrev pub positions : List (List ℕ × Position)
positions = map (λ row. (row.0.now, row.1)) POSITIONS

-- a position: a text that names one
abbrev pub position_of : Data → Option Position
position_of value = option_and_then (named positions) (as_str value)

-- the id of a page at a member
abbrev pub id_at : List ℕ → Data → Option ℕ
id_at name value = option_and_then id_of (get name value)

-- the slug at the member slug
abbrev pub slug_at : Data → Option (List ℕ)
slug_at value = option_and_then slug_of (get (codes "slug") value)

-- the content at the member content
abbrev pub content_at : Data → Option ContentValue
content_at value = option_and_then content_of (get (codes "content") value)

-- the position at the member position
abbrev pub position_at : Data → Option Position
position_at value = option_and_then position_of (get (codes "position") value)

-- the permissions by their texts
abbrev pub permissions : List (List ℕ × Permission)
permissions = map (λ row. (row.0.now, row.1)) PERMISSIONS

-- the permission at the member permission: a text that names one
abbrev pub permission_at : Data → Option Permission
permission_at value = option_and_then (named permissions) (text_at (codes "permission") value)

-- the truth value at a member
abbrev pub truth_at : List ℕ → Data → Option Bool
truth_at name value = option_and_then truth_of (get name value)

-- the id of a user at the member user: a whole number from 1 to 65,535
abbrev pub user_at : Data → Option ℕ
user_at value = option_and_then (whole_within 1 LAST_USER_ID) (get (codes "user") value)

-- the id of a group at the member group: a whole number from 1 to 65,535
abbrev pub group_at : Data → Option ℕ
group_at value = option_and_then (whole_within 1 LAST_GROUP_ID) (get (codes "group") value)

-- the number that a lower-case hexadecimal digit writes
abbrev pub hex_digit : ℕ → Option ℕ
hex_digit b =
    if is_within 48 57 b
    then Some (b - 48)
    else if is_within 97 102 b then Some (b - 87) else None

-- the bytes that pairs of lower-case hexadecimal digits write, the higher digit first
abbrev pub hex_bytes : List ℕ → Option (List ℕ)
hex_bytes [] = Some []
hex_bytes (high ∷ []) = None
hex_bytes (high ∷ low ∷ text) =
    option_and_then (λ h. option_and_then (λ l. option_map (λ bytes. (h * 16 + l) ∷ bytes)
    (hex_bytes text)) (hex_digit low)) (hex_digit high)

-- the digest that 64 lower-case hexadecimal digits write
abbrev pub digest_of : List ℕ → Option (List ℕ)
digest_of text = if length text == 2 * DIGEST_BYTES then hex_bytes text else None

-- the digest at the member digest
abbrev pub digest_at : Data → Option (List ℕ)
digest_at value = option_and_then digest_of (text_at (codes "digest") value)

-- the creation of a page with this slug and content below this parent
abbrev pub creation_of : Option ℕ → Option (List ℕ) → Option ContentValue → Option Command
creation_of (Some parent) (Some slug) (Some content) = Some (Create parent slug content)
creation_of parent slug content = None

-- the creation that an object asks for: it has exactly the members content, parent and slug
abbrev pub creation_in : Data → Option Command
creation_in value =
    if has_exactly (codes "content" ∷ codes "parent" ∷ codes "slug" ∷ []) value
    then creation_of (id_at (codes "parent") value) (slug_at value) (content_at value)
    else None

-- the move of this page to this position by this target
abbrev pub move_of : Option ℕ → Option ℕ → Option Position → Option Command
move_of (Some page) (Some target) (Some position) = Some (Move page target position)
move_of page target position = None

-- the move that an object asks for: it has exactly the members page, position and target
abbrev pub move_in : Data → Option Command
move_in value =
    if has_exactly (codes "page" ∷ codes "position" ∷ codes "target" ∷ []) value
    then move_of (id_at (codes "page") value) (id_at (codes "target") value) (position_at value)
    else None

-- the command of a verb on a page
abbrev pub command_on : PageVerb → ℕ → Command
command_on verbs.Delete page = Delete page
command_on verbs.Detach page = Detach page
command_on verbs.OpenDesk page = OpenDesk page
command_on verbs.ShutDesk page = ShutDesk page
command_on verbs.Publish page = Publish page
command_on verbs.Unpublish page = Unpublish page
command_on verbs.Unschedule page = Unschedule page
command_on verbs.Lock page = Lock page
command_on verbs.Unlock page = Unlock page
command_on verbs.Purge page = Purge page
command_on verbs.Submit page = Submit page
command_on verbs.Approve page = Approve page
command_on verbs.Reject page = Reject page
command_on verbs.Cancel page = Cancel page

-- the command of a verb that an object asks for: it has exactly the member page
abbrev pub page_command_in : PageVerb → Data → Option Command
page_command_in verb value =
    if has_exactly (codes "page" ∷ []) value
    then option_map (command_on verb) (id_at (codes "page") value)
    else None

-- the saving of this text at the caller's desk on this page
abbrev pub saving_of : Option ℕ → Option ContentValue → Option Command
saving_of (Some page) (Some content) = Some (SaveDesk page content)
saving_of page content = None

-- the saving that an object asks for: it has exactly the members content and page
abbrev pub saving_in : Data → Option Command
saving_in value =
    if has_exactly (codes "content" ∷ codes "page" ∷ []) value
    then saving_of (id_at (codes "page") value) (content_at value)
    else None

-- the filing of the text at the caller's desk on this page with these moments, which may be absent
abbrev pub filing_of : Option ℕ → Option (Option ℕ) → Option (Option ℕ) → Option Command
filing_of (Some page) (Some go_live) (Some expire) = Some (File page go_live expire)
filing_of page go_live expire = None

-- the filing that an object asks for: it has exactly the members expire_at, go_live_at and page
abbrev pub filing_in : Data → Option Command
filing_in value =
    if has_exactly (codes "expire_at" ∷ codes "go_live_at" ∷ codes "page" ∷ []) value
    then filing_of (id_at (codes "page") value) (time_at (codes "go_live_at") value)
    (time_at (codes "expire_at") value)
    else None

-- the change of this page's slug to this one
abbrev pub slug_change_of : Option ℕ → Option (List ℕ) → Option Command
slug_change_of (Some page) (Some slug) = Some (SetSlug page slug)
slug_change_of page slug = None

-- the change of a slug that an object asks for: it has exactly the members page and slug
abbrev pub slug_change_in : Data → Option Command
slug_change_in value =
    if has_exactly (codes "page" ∷ codes "slug" ∷ []) value
    then slug_change_of (id_at (codes "page") value) (slug_at value)
    else None

-- the alias of this page below this parent with this slug
abbrev pub alias_of : Option ℕ → Option ℕ → Option (List ℕ) → Option Command
alias_of (Some source) (Some parent) (Some slug) = Some (Alias source parent slug)
alias_of source parent slug = None

-- the alias that an object asks for: it has exactly the members parent, slug and source
abbrev pub alias_in : Data → Option Command
alias_in value =
    if has_exactly (codes "parent" ∷ codes "slug" ∷ codes "source" ∷ []) value
    then alias_of (id_at (codes "source") value) (id_at (codes "parent") value) (slug_at value)
    else None

-- the copy of this page below this parent with this slug, with its descendants or without
abbrev pub copy_of : Option ℕ → Option ℕ → Option (List ℕ) → Option Bool → Option Command
copy_of (Some page) (Some parent) (Some slug) (Some deep) = Some (Copy page parent slug deep)
copy_of page parent slug deep = None

-- the copy that an object asks for: it has exactly the members deep, page, parent and slug
abbrev pub copy_in : Data → Option Command
copy_in value =
    if has_exactly (codes "deep" ∷ codes "page" ∷ codes "parent" ∷ codes "slug" ∷ []) value
    then copy_of (id_at (codes "page") value) (id_at (codes "parent") value) (slug_at value)
    (truth_at (codes "deep") value)
    else None

-- the definition of a user with this digest
abbrev pub user_definition_of : Option (List ℕ) → Option Bool → Option Command
user_definition_of (Some digest) (Some superuser) = Some (DefineUser superuser digest)
user_definition_of digest superuser = None

-- the definition of a user that an object asks for: it has exactly the members digest and superuser
abbrev pub user_definition_in : Data → Option Command
user_definition_in value =
    if has_exactly (codes "digest" ∷ codes "superuser" ∷ []) value
    then user_definition_of (digest_at value) (truth_at (codes "superuser") value)
    else None

-- the definition of a group that an object asks for: it has no members
abbrev pub group_definition_in : Data → Option Command
group_definition_in value = if has_exactly [] value then Some DefineGroup else None

-- the membership of this user in this group, or its end
abbrev pub membership_of : Option ℕ → Option ℕ → Option Bool → Option Command
membership_of (Some user) (Some group) (Some on) = Some (Member user group on)
membership_of user group on = None

-- the membership that an object asks for: it has exactly the members group, on and user
abbrev pub membership_in : Data → Option Command
membership_in value =
    if has_exactly (codes "group" ∷ codes "on" ∷ codes "user" ∷ []) value
    then membership_of (user_at value) (group_at value) (truth_at (codes "on") value)
    else None

-- the grant of this permission at this page to this group, or its end
abbrev pub grant_asked_of : Option ℕ → Option ℕ → Option Permission → Option Bool → Option Command
grant_asked_of (Some group) (Some page) (Some permission) (Some on) =
    Some (Grant group page permission on)
grant_asked_of group page permission on = None

-- the grant that an object asks for: it has exactly the members group, on, page and permission
abbrev pub grant_in : Data → Option Command
grant_in value =
    if has_exactly (codes "group" ∷ codes "on" ∷ codes "page" ∷ codes "permission" ∷ []) value
    then grant_asked_of (group_at value) (id_at (codes "page") value) (permission_at value)
    (truth_at (codes "on") value)
    else None

-- the tick that an object asks for: it has no members
abbrev pub tick_in : Data → Option Command
tick_in value = if has_exactly [] value then Some Tick else None

-- the ids that a list has, each from 1 to the last one of its kind, if it has 1 to 16
abbrev pub ids_of : ℕ → Data → Option (List ℕ)
ids_of last value =
    option_and_then (λ ids. then_some (is_within 1 MAX_NAMED_IDS (length ids)) ids)
    (list_of (whole_within 1 last) value)

-- the ids at a member
abbrev pub ids_at : List ℕ → ℕ → Data → Option (List ℕ)
ids_at name last value = option_and_then (ids_of last) (get name value)

-- ids that rise, with one more at its place; nothing if it is one of them
abbrev pub placed : ℕ → List ℕ → Option (List ℕ)
placed id [] = Some (id ∷ [])
placed id (first ∷ ids) =
    if nat_lt id first
    then Some (id ∷ first ∷ ids)
    else if id == first then None else option_map (λ more. first ∷ more) (placed id ids)

-- ids that rise, with others put in one by one; nothing if one of them is there already
abbrev pub gathered : List ℕ → List ℕ → Option (List ℕ)
gathered kept [] = Some kept
gathered kept (id ∷ ids) = option_and_then (λ more. gathered more ids) (placed id kept)

-- the groups at the member groups, in any order there: rising, each once
abbrev pub groups_at : Data → Option (List ℕ)
groups_at value = option_and_then (gathered []) (ids_at (codes "groups") LAST_GROUP_ID value)

-- the definition of a task that an object asks for: it has exactly the member groups
abbrev pub task_definition_in : Data → Option Command
task_definition_in value =
    if has_exactly (codes "groups" ∷ []) value
    then option_map DefineTask (groups_at value)
    else None

-- the definition of a workflow that an object asks for: it has exactly the member tasks
abbrev pub workflow_definition_in : Data → Option Command
workflow_definition_in value =
    if has_exactly (codes "tasks" ∷ []) value
    then option_map DefineWorkflow (ids_at (codes "tasks") LAST_TASK_ID value)
    else None

-- the workflow with a number, or none for 0
abbrev pub workflow_numbered : ℕ → Option ℕ
workflow_numbered number = if number == 0 then None else Some number

-- the workflow at the member workflow: a whole number from 0 to 65,535
abbrev pub workflow_at : Data → Option (Option ℕ)
workflow_at value =
    option_map workflow_numbered
    (option_and_then (whole_within 0 LAST_WORKFLOW_ID) (get (codes "workflow") value))

-- the assignment of this workflow to this page, or the end of the page's own
abbrev pub assignment_of : Option ℕ → Option (Option ℕ) → Option Command
assignment_of (Some page) (Some workflow) = Some (Assign page workflow)
assignment_of page workflow = None

-- the assignment that an object asks for: it has exactly the members page and workflow
abbrev pub assignment_in : Data → Option Command
assignment_in value =
    if has_exactly (codes "page" ∷ codes "workflow" ∷ []) value
    then assignment_of (id_at (codes "page") value) (workflow_at value)
    else None

-- the command of a form that an object asks for
abbrev pub command_in : CommandForm → Data → Option Command
command_in forms.Create value = creation_in value
command_in forms.Move value = move_in value
command_in forms.SetSlug value = slug_change_in value
command_in forms.Alias value = alias_in value
command_in forms.Copy value = copy_in value
command_in (forms.OnPage verb) value = page_command_in verb value
command_in forms.Save value = saving_in value
command_in forms.File value = filing_in value
command_in forms.DefineUser value = user_definition_in value
command_in forms.DefineGroup value = group_definition_in value
command_in forms.Member value = membership_in value
command_in forms.Grant value = grant_in value
command_in forms.Tick value = tick_in value
command_in forms.DefineTask value = task_definition_in value
command_in forms.DefineWorkflow value = workflow_definition_in value
command_in forms.Assign value = assignment_in value

-- the command that a body asks for on the route of commands of a form
unfoldable pub command_asked : CommandForm → List ℕ → Option Command
command_asked form body = option_and_then (command_in form) (data_of body)
