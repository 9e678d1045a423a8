use Rattle.std.proofs.Common.{◌≡◌, ◌+◌, true, take, min}
use Rattle.std.specs.List.{list_all}
use Rattle.std.specs.Char.{is_ascii_digit}
use Rattle.std.specs.Str.Parse.{digits_value}
use Rattle.http_model.specs.declared.words.TheConstants.{MAX_BODY}
use Rattle.http_wire.proofs.fields.read_number.Given as goal

-- the digits so far are digits, and the number is theirs, or one more than the longest body has
abbrev pub invariant-loop-b : goal.invariant-loop-b
invariant-loop-b l = record {
  number : l.n ≡ min (digits_value 10 (take l.b-index l.value)) (MAX_BODY + 1);
  digits : list_all is_ascii_digit (take l.b-index l.value) ≡ true;
}
