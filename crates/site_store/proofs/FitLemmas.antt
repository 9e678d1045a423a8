-- A command that has a form fits the world's limits.
use Rattle.std.proofs.Common.{ℕ, List, [], ◌∷◌, Option, Some, None, IfSome}
use Rattle.site_ids.specs.Moment.{IsMoment}
use Rattle.site_types.specs.declared.command.Command.{Command}
use Rattle.site_types.specs.declared.command.Command.TheVariants.{Create, Move, Delete, SetSlug, Alias, Detach, Copy, OpenDesk, SaveDesk, ShutDesk, File, Publish, Unpublish, Unschedule, Lock, Unlock, Purge, DefineTask, DefineWorkflow, Assign, Submit, Approve, Reject, Cancel, DefineUser, DefineGroup, Member, Grant, Tick}
use Rattle.site_model.specs.Laws.{FitsCommand}
use Rattle.site_model.specs.Sound.{NumbersRise}
use Rattle.byte_forms.specs.Fields.{RisesAbove, IfThere}
use Rattle.byte_forms.specs.Commands.{IsCommand}

-- numbers that rise above another rise after it
rises : (low : ℕ) (ids : List ℕ) → RisesAbove low ids → NumbersRise low ids
rises low [] rise = tt
rises low (id ∷ ids) rise = (rise.0, rises id ids rise.1)

-- an optional moment
if_there : (moment : Option ℕ) → IfThere IsMoment moment → IfSome moment IsMoment
if_there None is = tt
if_there (Some moment) is = is

-- a command that has a form fits
pub fits_command : (command : Command) → IsCommand command → FitsCommand command
unfolding IsCommand
fits_command (Create parent slug content) (page, is_slug, is_content) = (is_slug, is_content.fits)
fits_command (Move page target position) is = tt
fits_command (Delete page) is = tt
fits_command (SetSlug page slug) is = is.1
fits_command (Alias source parent slug) (one, other, is_slug) = is_slug
fits_command (Detach page) is = tt
fits_command (Copy page parent slug deep) (one, other, is_slug) = is_slug
fits_command (OpenDesk page) is = tt
fits_command (SaveDesk page content) is = is.1.fits
fits_command (ShutDesk page) is = tt
fits_command (File page go_live expire) (one, first, second) =
    (if_there go_live first, if_there expire second)
fits_command (Publish page) is = tt
fits_command (Unpublish page) is = tt
fits_command (Unschedule page) is = tt
fits_command (Lock page) is = tt
fits_command (Unlock page) is = tt
fits_command (Purge page) is = tt
fits_command (DefineTask groups) is =
    (record { not_empty = is.not_empty; fits = is.few }, rises 0 groups is.rise)
fits_command (DefineWorkflow tasks) is = record { not_empty = is.not_empty; fits = is.few }
fits_command (Assign page workflow) is = tt
fits_command (Submit page) is = tt
fits_command (Approve page) is = tt
fits_command (Reject page) is = tt
fits_command (Cancel page) is = tt
fits_command (DefineUser superuser digest) is = is
fits_command DefineGroup is = tt
fits_command (Member user group on) is = tt
fits_command (Grant group page permission on) is = tt
fits_command Tick is = tt
