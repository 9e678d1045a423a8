-- What holds of each command that a body can ask for by some form holds of each command that a
-- request can ask for.
use Rattle.std.proofs.Common.{◌≡◌, ℕ, Bool, true, false, cond, List, [], ◌∷◌, length, codes, Option, Some, None, Result, Ok, subst}
use Rattle.std.specs.Prelude.{IfSome, option_map, option_and_then}
use Rattle.std.specs.List.{AllByRecursion}
use Rattle.serde_json.specs.Data.{Data}
use Rattle.serde_json.specs.Find.{get}
use Rattle.site_ids.specs.Moment.{IsMoment}
use Rattle.site_ids.specs.Slug.{IsSlug}
use Rattle.site_ids.specs.declared.digest.TheConstants.{DIGEST_BYTES}
use Rattle.site_ids.specs.declared.ids.TheConstants.{LAST_GROUP_ID, LAST_TASK_ID}
use Rattle.site_model.specs.Laws.{FitsList}
use Rattle.site_model.specs.Sound.{NumbersRise}
use Rattle.site_types.specs.Content.{ContentValue, FitsLimits}
use Rattle.site_types.specs.declared.command.Command.{Command}
use Rattle.site_types.specs.declared.command.Command.TheVariants.{Create, Move, SetSlug, Alias, Copy, SaveDesk, File, DefineUser, DefineGroup, Member, Grant, Tick, DefineTask, DefineWorkflow, Assign}
use Rattle.site_types.specs.declared.permission.Permission.{Permission}
use Rattle.site_types.specs.declared.position.Position.{Position}
use Rattle.http_model.specs.declared.method.Method.{Method}
use Rattle.http_model.specs.declared.method.Method.TheVariants as methods
use Rattle.http_model.specs.Requests.{Request}
use Rattle.json_model.specs.Members.{has_exactly, text_at}
use Rattle.wire_model.specs.declared.call.Call.{Call}
use Rattle.wire_model.specs.declared.call.Call.TheVariants.{Run, Public}
use Rattle.wire_model.specs.declared.call.RouteFault.{RouteFault}
use Rattle.wire_model.specs.declared.call.RouteFault.TheVariants.{Form}
use Rattle.wire_model.specs.declared.form.CommandForm.{CommandForm}
use Rattle.wire_model.specs.declared.form.CommandForm.TheVariants as forms
use Rattle.wire_model.specs.declared.form.PageVerb.{PageVerb}
use Rattle.wire_model.specs.declared.form.ReadForm.{ReadForm}
use Rattle.wire_model.specs.declared.form.ReadForm.TheVariants as reads
use Rattle.wire_model.specs.Forms.{id_at, slug_at, content_at, position_at, permission_at, truth_at, user_at, group_at, digest_at, creation_of, move_of, slug_change_of, alias_of, copy_of, saving_of, filing_of, command_on, user_definition_of, membership_of, grant_asked_of, groups_at, ids_at, workflow_at, assignment_of, command_in, command_asked, data_of}
use Rattle.wire_model.specs.Times.{time_at}
use Rattle.wire_model.specs.Routes.{Route, command_routes, read_routes, command_route, read_route, has_part_after, after_front, read_at, command_at, is_api, beside, id_written, closed_path, or_fault, by_post, by_get, read_call, call_on, route_of, call_of}
use Rattle.wire_model.specs.Routes as routes
use Rattle.wire_model.proofs.TimeLemmas.{AreTimes, member_time}
use Rattle.wire_model.proofs.ReadLemmas.{AreSlugs, AreDigests, IsUpTo, AreIds, AreGroups, member_slug, member_content, read_digest, member_ids, read_groups}

-- a command, if there is one, is one of these
abbrev pub AreSuch : (Command → Type 0) → Option Command → Type 0
AreSuch Such asked = IfSome asked Such

-- the command of a call, if it has one, is one of these
abbrev AsksSuch : (Command → Type 0) → Result Call RouteFault → Type 0
AsksSuch Such (Ok (Run command)) = Such command
AsksSuch Such _ = Unit {0}

-- What is to be shown of a fact of commands: that it holds of each kind of command that a body can
-- ask for. Its slug, its content, its moments and its digest fit, its groups rise, and of groups and
-- tasks it has 1 to 16, with ids in their range.
pub record HoldsOfForms (Such : Command → Type 0) : Type 0 where
  pub creation : (parent : ℕ) (slug : List ℕ) (content : ContentValue) → IsSlug slug →
      FitsLimits content → Such (Create parent slug content)
  pub moving : (page target : ℕ) (position : Position) → Such (Move page target position)
  pub naming : (page : ℕ) (slug : List ℕ) → IsSlug slug → Such (SetSlug page slug)
  pub shadowing : (source parent : ℕ) (slug : List ℕ) → IsSlug slug →
      Such (Alias source parent slug)
  pub copying : (page parent : ℕ) (slug : List ℕ) (deep : Bool) → IsSlug slug →
      Such (Copy page parent slug deep)
  pub saving : (page : ℕ) (content : ContentValue) → FitsLimits content →
      Such (SaveDesk page content)
  pub filing : (page : ℕ) (go_live expire : Option ℕ) → IfSome go_live IsMoment →
      IfSome expire IsMoment → Such (File page go_live expire)
  pub on_page : (verb : PageVerb) (page : ℕ) → Such (command_on verb page)
  pub user : (digest : List ℕ) (superuser : Bool) → length digest ≡ DIGEST_BYTES →
      Such (DefineUser superuser digest)
  pub group : Such DefineGroup
  pub membership : (user group : ℕ) (on : Bool) → Such (Member user group on)
  pub granting : (group page : ℕ) (permission : Permission) (on : Bool) →
      Such (Grant group page permission on)
  pub ticking : Such Tick
  pub task : (groups : List ℕ) → FitsList groups → NumbersRise 0 groups →
      AllByRecursion (IsUpTo LAST_GROUP_ID) groups → Such (DefineTask groups)
  pub workflow : (tasks : List ℕ) → FitsList tasks → AllByRecursion (IsUpTo LAST_TASK_ID) tasks →
      Such (DefineWorkflow tasks)
  pub assigning : (page : ℕ) (workflow : Option ℕ) → Such (Assign page workflow)

-- what is asked for only where a test holds is one of these
such_if : (Such : Command → Type 0) (holds : Bool) (asked : Option Command) →
    AreSuch Such asked → AreSuch Such (cond holds asked None)
such_if Such true asked is = is
such_if Such false asked is = tt

module _ (Such : Command → Type 0) (hold : HoldsOfForms Such) where
  -- a creation is one of these
  creation_is : (parent : Option ℕ) (slug : Option (List ℕ)) (content : Option ContentValue) →
      AreSlugs slug → IfSome content FitsLimits → AreSuch Such (creation_of parent slug content)
  creation_is (Some parent) (Some slug) (Some content) is fits =
      hold.creation parent slug content is fits
  creation_is (Some parent) (Some slug) None is fits = tt
  creation_is (Some parent) None content is fits = tt
  creation_is None slug content is fits = tt

  -- so is a move
  move_is : (page target : Option ℕ) (position : Option Position) →
      AreSuch Such (move_of page target position)
  move_is (Some page) (Some target) (Some position) = hold.moving page target position
  move_is (Some page) (Some target) None = tt
  move_is (Some page) None position = tt
  move_is None target position = tt

  -- so is a change of a slug
  slug_is : (page : Option ℕ) (slug : Option (List ℕ)) → AreSlugs slug →
      AreSuch Such (slug_change_of page slug)
  slug_is (Some page) (Some slug) is = hold.naming page slug is
  slug_is (Some page) None is = tt
  slug_is None slug is = tt

  -- so is an alias
  alias_is : (source parent : Option ℕ) (slug : Option (List ℕ)) → AreSlugs slug →
      AreSuch Such (alias_of source parent slug)
  alias_is (Some source) (Some parent) (Some slug) is = hold.shadowing source parent slug is
  alias_is (Some source) (Some parent) None is = tt
  alias_is (Some source) None slug is = tt
  alias_is None parent slug is = tt

  -- so is a copy
  copy_is : (page parent : Option ℕ) (slug : Option (List ℕ)) (deep : Option Bool) →
      AreSlugs slug → AreSuch Such (copy_of page parent slug deep)
  copy_is (Some page) (Some parent) (Some slug) (Some deep) is =
      hold.copying page parent slug deep is
  copy_is (Some page) (Some parent) (Some slug) None is = tt
  copy_is (Some page) (Some parent) None deep is = tt
  copy_is (Some page) None slug deep is = tt
  copy_is None parent slug deep is = tt

  -- so is the saving of a text
  saving_is : (page : Option ℕ) (content : Option ContentValue) → IfSome content FitsLimits →
      AreSuch Such (saving_of page content)
  saving_is (Some page) (Some content) fits = hold.saving page content fits
  saving_is (Some page) None fits = tt
  saving_is None content fits = tt

  -- so is the filing of a text
  filing_is : (page : Option ℕ) (go_live expire : Option (Option ℕ)) → AreTimes go_live →
      AreTimes expire → AreSuch Such (filing_of page go_live expire)
  filing_is (Some page) (Some go_live) (Some expire) live ends =
      hold.filing page go_live expire live ends
  filing_is (Some page) (Some go_live) None live ends = tt
  filing_is (Some page) None expire live ends = tt
  filing_is None go_live expire live ends = tt

  -- so is a command on a page
  page_is : (verb : PageVerb) (page : Option ℕ) →
      AreSuch Such (option_map (command_on verb) page)
  page_is verb (Some page) = hold.on_page verb page
  page_is verb None = tt

  -- so is the definition of a user
  user_is : (digest : Option (List ℕ)) (superuser : Option Bool) → AreDigests digest →
      AreSuch Such (user_definition_of digest superuser)
  user_is (Some digest) (Some superuser) is = hold.user digest superuser is
  user_is (Some digest) None is = tt
  user_is None superuser is = tt

  -- so is a membership
  member_is : (user group : Option ℕ) (on : Option Bool) →
      AreSuch Such (membership_of user group on)
  member_is (Some user) (Some group) (Some on) = hold.membership user group on
  member_is (Some user) (Some group) None = tt
  member_is (Some user) None on = tt
  member_is None group on = tt

  -- so is a grant
  grant_is : (group page : Option ℕ) (permission : Option Permission) (on : Option Bool) →
      AreSuch Such (grant_asked_of group page permission on)
  grant_is (Some group) (Some page) (Some permission) (Some on) =
      hold.granting group page permission on
  grant_is (Some group) (Some page) (Some permission) None = tt
  grant_is (Some group) (Some page) None on = tt
  grant_is (Some group) None permission on = tt
  grant_is None page permission on = tt

  -- so is the definition of a task
  task_is : (groups : Option (List ℕ)) → AreGroups groups →
      AreSuch Such (option_map DefineTask groups)
  task_is (Some groups) are = hold.task groups are.0 are.1 are.2
  task_is None are = tt

  -- so is the definition of a workflow
  workflow_is : (tasks : Option (List ℕ)) → AreIds LAST_TASK_ID tasks →
      AreSuch Such (option_map DefineWorkflow tasks)
  workflow_is (Some tasks) are = hold.workflow tasks are.0 are.1
  workflow_is None are = tt

  -- so is an assignment
  assignment_is : (page : Option ℕ) (workflow : Option (Option ℕ)) →
      AreSuch Such (assignment_of page workflow)
  assignment_is (Some page) (Some workflow) = hold.assigning page workflow
  assignment_is (Some page) None = tt
  assignment_is None workflow = tt

  -- what an object asks for by a form is one of these
  form_is : (form : CommandForm) (value : Data) → AreSuch Such (command_in form value)
  form_is forms.Create value =
      such_if Such (has_exactly (codes "content" ∷ codes "parent" ∷ codes "slug" ∷ []) value)
      (creation_of (id_at (codes "parent") value) (slug_at value) (content_at value))
      (creation_is (id_at (codes "parent") value) (slug_at value) (content_at value)
      (member_slug (get (codes "slug") value)) (member_content (get (codes "content") value)))
  form_is forms.Move value =
      such_if Such (has_exactly (codes "page" ∷ codes "position" ∷ codes "target" ∷ []) value)
      (move_of (id_at (codes "page") value) (id_at (codes "target") value) (position_at value))
      (move_is (id_at (codes "page") value) (id_at (codes "target") value) (position_at value))
  form_is forms.SetSlug value =
      such_if Such (has_exactly (codes "page" ∷ codes "slug" ∷ []) value)
      (slug_change_of (id_at (codes "page") value) (slug_at value))
      (slug_is (id_at (codes "page") value) (slug_at value)
      (member_slug (get (codes "slug") value)))
  form_is forms.Alias value =
      such_if Such (has_exactly (codes "parent" ∷ codes "slug" ∷ codes "source" ∷ []) value)
      (alias_of (id_at (codes "source") value) (id_at (codes "parent") value) (slug_at value))
      (alias_is (id_at (codes "source") value) (id_at (codes "parent") value) (slug_at value)
      (member_slug (get (codes "slug") value)))
  form_is forms.Copy value =
      such_if Such
      (has_exactly (codes "deep" ∷ codes "page" ∷ codes "parent" ∷ codes "slug" ∷ []) value)
      (copy_of (id_at (codes "page") value) (id_at (codes "parent") value) (slug_at value)
      (truth_at (codes "deep") value))
      (copy_is (id_at (codes "page") value) (id_at (codes "parent") value) (slug_at value)
      (truth_at (codes "deep") value) (member_slug (get (codes "slug") value)))
  form_is (forms.OnPage verb) value =
      such_if Such (has_exactly (codes "page" ∷ []) value)
      (option_map (command_on verb) (id_at (codes "page") value))
      (page_is verb (id_at (codes "page") value))
  form_is forms.Save value =
      such_if Such (has_exactly (codes "content" ∷ codes "page" ∷ []) value)
      (saving_of (id_at (codes "page") value) (content_at value))
      (saving_is (id_at (codes "page") value) (content_at value)
      (member_content (get (codes "content") value)))
  form_is forms.File value =
      such_if Such
      (has_exactly (codes "expire_at" ∷ codes "go_live_at" ∷ codes "page" ∷ []) value)
      (filing_of (id_at (codes "page") value) (time_at (codes "go_live_at") value)
      (time_at (codes "expire_at") value))
      (filing_is (id_at (codes "page") value) (time_at (codes "go_live_at") value)
      (time_at (codes "expire_at") value) (member_time (get (codes "go_live_at") value))
      (member_time (get (codes "expire_at") value)))
  form_is forms.DefineUser value =
      such_if Such (has_exactly (codes "digest" ∷ codes "superuser" ∷ []) value)
      (user_definition_of (digest_at value) (truth_at (codes "superuser") value))
      (user_is (digest_at value) (truth_at (codes "superuser") value)
      (read_digest (text_at (codes "digest") value)))
  form_is forms.DefineGroup value =
      such_if Such (has_exactly [] value) (Some DefineGroup) hold.group
  form_is forms.Member value =
      such_if Such (has_exactly (codes "group" ∷ codes "on" ∷ codes "user" ∷ []) value)
      (membership_of (user_at value) (group_at value) (truth_at (codes "on") value))
      (member_is (user_at value) (group_at value) (truth_at (codes "on") value))
  form_is forms.Grant value =
      such_if Such
      (has_exactly (codes "group" ∷ codes "on" ∷ codes "page" ∷ codes "permission" ∷ []) value)
      (grant_asked_of (group_at value) (id_at (codes "page") value) (permission_at value)
      (truth_at (codes "on") value))
      (grant_is (group_at value) (id_at (codes "page") value) (permission_at value)
      (truth_at (codes "on") value))
  form_is forms.Tick value =
      such_if Such (has_exactly [] value) (Some Tick) hold.ticking
  form_is forms.DefineTask value =
      such_if Such (has_exactly (codes "groups" ∷ []) value)
      (option_map DefineTask (groups_at value))
      (task_is (groups_at value) (read_groups (get (codes "groups") value)))
  form_is forms.DefineWorkflow value =
      such_if Such (has_exactly (codes "tasks" ∷ []) value)
      (option_map DefineWorkflow (ids_at (codes "tasks") LAST_TASK_ID value))
      (workflow_is (ids_at (codes "tasks") LAST_TASK_ID value)
      (member_ids LAST_TASK_ID (get (codes "tasks") value)))
  form_is forms.Assign value =
      such_if Such (has_exactly (codes "page" ∷ codes "workflow" ∷ []) value)
      (assignment_of (id_at (codes "page") value) (workflow_at value))
      (assignment_is (id_at (codes "page") value) (workflow_at value))

  -- what a body asks for by a form is one of these
  body_is : (form : CommandForm) (found : Option Data) →
      AreSuch Such (option_and_then (command_in form) found)
  body_is form (Some value) = form_is form value
  body_is form None = tt

  -- the command of a call is one of these, if what is asked for is
  call_is : (asked : Option Command) → AreSuch Such asked →
      AsksSuch Such (or_fault (option_map Run asked) Form)
  call_is (Some asked) is = is
  call_is None is = tt

  -- so it is by the method that the route takes
  post_is : (method : Method) (call : Result Call RouteFault) → AsksSuch Such call →
      AsksSuch Such (by_post method call)
  post_is methods.Get call is = tt
  post_is methods.Post call is = is
  post_is methods.Other call is = tt

  -- a read asks for no command
  read_is : (form : ReadForm) (id : Option ℕ) →
      AsksSuch Such (or_fault (option_map (read_call form) id) Form)
  read_is reads.Card (Some id) = tt
  read_is reads.Card None = tt
  read_is reads.Refs (Some id) = tt
  read_is reads.Refs None = tt
  read_is reads.Desk (Some id) = tt
  read_is reads.Desk None = tt

  -- nor does it by any method
  get_is : (method : Method) (call : Result Call RouteFault) → AsksSuch Such call →
      AsksSuch Such (by_get method call)
  get_is methods.Get call is = is
  get_is methods.Post call is = tt
  get_is methods.Other call is = tt

  -- the command that a request asks for on a route is one of these
  route_is : (route : Route) (request : Request) → AsksSuch Such (call_on route request)
  unfolding command_asked
  route_is (routes.command form) request =
      post_is request.method
      (or_fault (option_map Run (option_and_then (command_in form) (data_of request.body))) Form)
      (call_is (option_and_then (command_in form) (data_of request.body))
      (body_is form (data_of request.body)))
  route_is (routes.read_named form text) request =
      get_is request.method (or_fault (option_map (read_call form) (id_written text)) Form)
      (read_is form (id_written text))
  route_is routes.unbuilt request = tt
  route_is routes.nowhere request = tt
  route_is routes.public_page request =
      get_is request.method (Ok (Public (closed_path request.path))) tt

  -- each command that a request can ask for is one of these
  pub asked_is : (request : Request) (command : Command) → call_of request ≡ Ok (Run command) →
      Such command
  unfolding call_of
  asked_is request command is =
      subst (AsksSuch Such) is (route_is (route_of request.path) request)
