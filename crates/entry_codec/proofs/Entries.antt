-- Entries are read as they are written.
use Rattle.std.proofs.Common.{ℕ, ◌^◌, ◌<◌, ◌≤◌, nat_le, refl}
use Rattle.site_types.specs.declared.command.Command.{Command}
use Rattle.site_types.specs.declared.entry.Entry.{Entry}
use Rattle.byte_forms.specs.Fields.{u64_form}
use Rattle.byte_forms.specs.Entries.{entry_form, IsEntry}
use Rattle.content_codec.proofs.Readings.{IsReading, both_reading, kept_reading, made_reading, same_facts}
use Rattle.content_codec.proofs.Numbers.{u64_reading}
use Rattle.content_codec.proofs.Fields.{moment_reading, user_reading}
use Rattle.content_codec.proofs.Limits.{nat_le_decides}
use Rattle.entry_codec.specs.Entries.{entry_number_at, entry_of, entry_at}
use Rattle.entry_codec.proofs.Commands.{command_reading}

-- the number of an entry
abbrev IsNumber : ℕ → Type 0
IsNumber n = (1 ≤ n) × (n < 2 ^ 64)

-- numbers of entries
number_reading : IsReading u64_form IsNumber entry_number_at
unfolding entry_number_at
number_reading =
    kept_reading u64_reading (λ n. nat_le 1 n) IsNumber
    (λ n is. (is.1, (nat_le_decides 1 n).1 is.0))
    (λ n few e. ((nat_le_decides 1 n).0 e, few))

-- the fields of an entry
abbrev parts_of : Entry → ((ℕ × ℕ) × ℕ) × Command
parts_of entry = (((entry.number, entry.moment), entry.caller), entry.command)

-- entries are read as they are written
pub entry_reading : IsReading entry_form IsEntry entry_at
unfolding entry_at entry_form
entry_reading =
    same_facts
    (made_reading
    (both_reading (both_reading (both_reading number_reading moment_reading) user_reading)
    command_reading)
    (λ x. entry_of x.0.0.0 x.0.0.1 x.0.1 x.1) parts_of (λ _. refl) (λ _. refl))
    IsEntry
    (λ entry is.
    record {
      not_zero = is.0.0.0.0;
      fits = is.0.0.0.1;
      moment = is.0.0.1;
      caller = is.0.1;
      command = is.1;
    })
    (λ entry is. ((((is.not_zero, is.fits), is.moment), is.caller), is.command))
