-- The digits so far are digits, and the number is theirs.
use Rattle.std.proofs.Common.{◌≡◌, true, take, min}
use Rattle.std.specs.List.{list_all}
use Rattle.std.specs.Char.{is_ascii_digit}
use Rattle.std.specs.Str.Parse.{digits_value}
use Rattle.pagetree_session.proofs.words.number_in.Given as goal

abbrev pub invariant-loop-b : goal.invariant-loop-b
invariant-loop-b l = record {
  number : l.n ≡ min (digits_value 10 (take l.b-index l.word)) 999999999999;
  digits : list_all is_ascii_digit (take l.b-index l.word) ≡ true;
}
