-- What is read after tags at the ends of the ranges that the code tests.
use Rattle.std.proofs.Common.{◌≡◌, ℕ, zero, suc, ◌<◌, List, Some, None, Err, refl, arith}
use Rattle.std.proofs.lemmas.Option.{slice_get_past}
use Rattle.site_types.specs.declared.command.Command.{Command}
use Rattle.site_types.specs.declared.command.Command.TheVariants.{Cancel}
use Rattle.content_codec.specs.declared.fault.ReadFault.{ReadFault}
use Rattle.content_codec.specs.declared.fault.ReadFault.TheVariants.{NoForm, Memory}
use Rattle.content_codec.specs.Reading.{Reads}
use Rattle.content_codec.specs.Fields.{page_at}
use Rattle.entry_codec.specs.Commands.{readers, fields_at}

-- past the last tag there is no command
pub none_past : (tag : ℕ) (bytes : List ℕ) → 29 < tag → fields_at tag bytes ≡ None
unfolding fields_at
none_past zero bytes above = absurd (omega arith)
none_past (suc n) bytes above =
    let none = slice_get_past readers n (omega arith) in rw none refl

-- a page after the tag of Cancel
pub cancel_gives : (tag : ℕ) (bytes rest : List ℕ) (page : ℕ) → tag ≡ 24 →
    page_at bytes ≡ Some (page, rest) → fields_at tag bytes ≡ Some (Cancel page, rest)
unfolding fields_at
cancel_gives tag bytes rest page is found = rw (is, found) refl

-- no page after the tag of Cancel
pub cancel_fails : (tag : ℕ) (bytes after rest : List ℕ) (fault : ReadFault) → tag ≡ 24 →
    Reads {A = ℕ} (Err fault) (page_at bytes) after →
    Reads {A = Command} (Err fault) (fields_at tag bytes) rest
unfolding fields_at
cancel_fails tag bytes after rest NoForm is none = rw (is, none) refl
cancel_fails tag bytes after rest Memory is none = tt
