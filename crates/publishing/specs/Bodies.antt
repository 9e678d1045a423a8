-- What unpublishing, an expiry, an empty schedule, locking and unlocking make of what is kept of a page.
use Rattle.std.specs.Prelude.{ℕ, true, false, Some, None}
use Rattle.site_types.specs.declared.body.Body.{Body}

-- a page that is not live any more, and has no schedule
abbrev pub unpublished_body : Body → Body
unpublished_body body = record body { live = false; scheduled = None }

-- a page that is not live any more, since its revision has expired; its schedule stays
abbrev pub expired_body : Body → Body
expired_body body = record body { live = false; expired = true }

-- a page that has no schedule any more
abbrev pub unscheduled_body : Body → Body
unscheduled_body body = record body { scheduled = None }

-- a page that this user has locked
abbrev pub locked_body : ℕ → Body → Body
locked_body user body = record body { locked_by = Some user }

-- a page that nobody has locked
abbrev pub unlocked_body : Body → Body
unlocked_body body = record body { locked_by = None }
