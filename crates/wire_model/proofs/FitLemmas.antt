-- A command that a request can ask for fits: its slug is by the rule of slugs, its content within
-- its limits, its moments are moments, its digest has its bytes, its groups rise, and of groups and
-- tasks it has 1 to 16.
use Rattle.std.proofs.Common.{◌≡◌, ℕ, Ok}
use Rattle.site_types.specs.declared.command.Command.{Command}
use Rattle.site_model.specs.Laws.{FitsCommand}
use Rattle.http_model.specs.Requests.{Request}
use Rattle.wire_model.specs.declared.call.Call.TheVariants.{Run}
use Rattle.wire_model.specs.declared.form.PageVerb.{PageVerb}
use Rattle.wire_model.specs.declared.form.PageVerb.TheVariants as verbs
use Rattle.wire_model.specs.Forms.{command_on}
use Rattle.wire_model.specs.Routes.{call_of}
use Rattle.wire_model.proofs.AskedLemmas.{HoldsOfForms, asked_is}

-- a command on a page has none of these
verb_fits : (verb : PageVerb) (page : ℕ) → FitsCommand (command_on verb page)
verb_fits verbs.Delete page = tt
verb_fits verbs.Detach page = tt
verb_fits verbs.OpenDesk page = tt
verb_fits verbs.ShutDesk page = tt
verb_fits verbs.Publish page = tt
verb_fits verbs.Unpublish page = tt
verb_fits verbs.Unschedule page = tt
verb_fits verbs.Lock page = tt
verb_fits verbs.Unlock page = tt
verb_fits verbs.Purge page = tt
verb_fits verbs.Submit page = tt
verb_fits verbs.Approve page = tt
verb_fits verbs.Reject page = tt
verb_fits verbs.Cancel page = tt

-- each kind of command fits
all_fit : HoldsOfForms FitsCommand
all_fit = record {
  creation = λ parent slug content is fits. (is, fits);
  moving = λ page target position. tt;
  naming = λ page slug is. is;
  shadowing = λ source parent slug is. is;
  copying = λ page parent slug deep is. is;
  saving = λ page content fits. fits;
  filing = λ page go_live expire live ends. (live, ends);
  on_page = verb_fits;
  user = λ digest superuser is. is;
  group = tt;
  membership = λ user group on. tt;
  granting = λ group page permission on. tt;
  ticking = tt;
  task = λ groups fits rise ids. (fits, rise);
  workflow = λ tasks fits ids. fits;
  assigning = λ page workflow. tt;
}

-- each command that a request can ask for fits
pub routes_fit : (request : Request) (command : Command) →
    call_of request ≡ Ok (Run command) → FitsCommand command
routes_fit = asked_is FitsCommand all_fit
