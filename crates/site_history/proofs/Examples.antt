-- The room of a log at worked values.
use Rattle.std.proofs.Common.{◌≡◌, true, false, refl}
use Rattle.site_history.specs.Log.{log_room}

-- the last entry of a log has room
last_entry : log_room 2097151 0 17 42 ≡ true
last_entry = refl

-- one more has none
one_more : log_room 2097152 0 17 42 ≡ false
one_more = refl

-- an entry's form is counted without its frame
last_bytes : log_room 0 1073741787 17 42 ≡ true
last_bytes = refl

-- one byte more has no room
past_bytes : log_room 0 1073741788 17 42 ≡ false
past_bytes = refl

-- a record is counted with its frame
last_journal : log_room 0 0 1099511627734 42 ≡ true
last_journal = refl

-- one byte more has no room
past_journal : log_room 0 0 1099511627735 42 ≡ false
past_journal = refl
