-- A command that a request can ask for keeps its form: its slug is not empty, and its groups or tasks
-- are a list of them.
use Rattle.std.proofs.Common.{◌≡◌, ℕ, List, [], ◌∷◌, Ok}
use Rattle.std.proofs.lemmas.List.Elements.{All-from_recursion}
use Rattle.site_types.specs.Ids.{IsGroupId, IsTaskId}
use Rattle.site_types.specs.declared.command.Command.{Command}
use Rattle.site_model.specs.Sound.{NumbersRise}
use Rattle.byte_forms.specs.Fields.{RisesAbove}
use Rattle.byte_forms.specs.Commands.{KeepsForm}
use Rattle.http_model.specs.Requests.{Request}
use Rattle.wire_model.specs.declared.call.Call.TheVariants.{Run}
use Rattle.wire_model.specs.declared.form.PageVerb.{PageVerb}
use Rattle.wire_model.specs.declared.form.PageVerb.TheVariants as verbs
use Rattle.wire_model.specs.Forms.{command_on}
use Rattle.wire_model.specs.Routes.{call_of}
use Rattle.wire_model.proofs.AskedLemmas.{HoldsOfForms, asked_is}

-- numbers that rise after another rise above it
rise_above : (low : ℕ) (ids : List ℕ) → NumbersRise low ids → RisesAbove low ids
rise_above low [] rise = tt
rise_above low (id ∷ ids) rise = (rise.0, rise_above id ids rise.1)

-- a command on a page has neither
verb_keeps : (verb : PageVerb) (page : ℕ) → KeepsForm (command_on verb page)
verb_keeps verbs.Delete page = tt
verb_keeps verbs.Detach page = tt
verb_keeps verbs.OpenDesk page = tt
verb_keeps verbs.ShutDesk page = tt
verb_keeps verbs.Publish page = tt
verb_keeps verbs.Unpublish page = tt
verb_keeps verbs.Unschedule page = tt
verb_keeps verbs.Lock page = tt
verb_keeps verbs.Unlock page = tt
verb_keeps verbs.Purge page = tt
verb_keeps verbs.Submit page = tt
verb_keeps verbs.Approve page = tt
verb_keeps verbs.Reject page = tt
verb_keeps verbs.Cancel page = tt

-- each kind of command keeps its form
all_keep : HoldsOfForms KeepsForm
all_keep = record {
  creation = λ parent slug content is fits. is.not_empty;
  moving = λ page target position. tt;
  naming = λ page slug is. is.not_empty;
  shadowing = λ source parent slug is. is.not_empty;
  copying = λ page parent slug deep is. is.not_empty;
  saving = λ page content fits. tt;
  filing = λ page go_live expire live ends. tt;
  on_page = verb_keeps;
  user = λ digest superuser is. tt;
  group = tt;
  membership = λ user group on. tt;
  granting = λ group page permission on. tt;
  ticking = tt;
  task = λ groups fits rise ids. record {
    not_empty = fits.not_empty;
    few = fits.fits;
    are_ids = All-from_recursion IsGroupId groups ids;
    rise = rise_above 0 groups rise;
  };
  workflow = λ tasks fits ids. record {
    not_empty = fits.not_empty;
    few = fits.fits;
    are_ids = All-from_recursion IsTaskId tasks ids;
  };
  assigning = λ page workflow. tt;
}

-- each command that a request can ask for keeps its form
pub routes_keep_form : (request : Request) (command : Command) →
    call_of request ≡ Ok (Run command) → KeepsForm command
routes_keep_form = asked_is KeepsForm all_keep
