-- Commands of each form are posted to a route.
use Rattle.std.proofs.Common.{◌≡◌, ℕ, List, Some, refl, codes}
use Rattle.wire_model.specs.declared.form.CommandForm.{CommandForm}
use Rattle.wire_model.specs.declared.form.CommandForm.TheVariants as forms
use Rattle.wire_model.specs.declared.form.PageVerb.{PageVerb}
use Rattle.wire_model.specs.declared.form.PageVerb.TheVariants as verbs
use Rattle.wire_model.specs.Tables.{named}
use Rattle.wire_model.specs.Routes.{command_routes}

-- a route to which commands of a form are posted
abbrev HasRoute : CommandForm → Type 0
HasRoute form = (path : List ℕ) × (named command_routes path ≡ Some (Some form))

-- commands that name a page alone are posted to a route
verb_routed : (verb : PageVerb) → HasRoute (forms.OnPage verb)
verb_routed verbs.Delete = (codes "/api/delete", refl)
verb_routed verbs.Detach = (codes "/api/detach", refl)
verb_routed verbs.OpenDesk = (codes "/api/open", refl)
verb_routed verbs.ShutDesk = (codes "/api/shut", refl)
verb_routed verbs.Publish = (codes "/api/publish", refl)
verb_routed verbs.Unpublish = (codes "/api/unpublish", refl)
verb_routed verbs.Unschedule = (codes "/api/unschedule", refl)
verb_routed verbs.Lock = (codes "/api/lock", refl)
verb_routed verbs.Unlock = (codes "/api/unlock", refl)
verb_routed verbs.Purge = (codes "/api/purge", refl)
verb_routed verbs.Submit = (codes "/api/submit", refl)
verb_routed verbs.Approve = (codes "/api/approve", refl)
verb_routed verbs.Reject = (codes "/api/reject", refl)
verb_routed verbs.Cancel = (codes "/api/cancel", refl)

-- commands of each form are posted to a route
pub form_routed : (form : CommandForm) → HasRoute form
form_routed forms.Create = (codes "/api/pages", refl)
form_routed forms.Move = (codes "/api/move", refl)
form_routed forms.SetSlug = (codes "/api/slug", refl)
form_routed forms.Alias = (codes "/api/alias", refl)
form_routed forms.Copy = (codes "/api/copy", refl)
form_routed forms.Save = (codes "/api/save", refl)
form_routed forms.File = (codes "/api/file", refl)
form_routed forms.DefineUser = (codes "/api/users", refl)
form_routed forms.DefineGroup = (codes "/api/groups", refl)
form_routed forms.Member = (codes "/api/members", refl)
form_routed forms.Grant = (codes "/api/grants", refl)
form_routed forms.Tick = (codes "/api/tick", refl)
form_routed forms.DefineTask = (codes "/api/tasks", refl)
form_routed forms.DefineWorkflow = (codes "/api/workflows", refl)
form_routed forms.Assign = (codes "/api/assign", refl)
form_routed (forms.OnPage verb) = verb_routed verb
