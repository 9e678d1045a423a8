use Rattle.std.proofs.Common.{◌≡◌, ◌+◌, true, take, min}
use Rattle.std.specs.List.{list_all}
use Rattle.std.specs.Char.{is_ascii_digit}
use Rattle.std.specs.Str.Parse.{digits_value}
use Rattle.site_ids.specs.declared.ids.TheConstants.{LAST_PAGE_ID}
use Rattle.api_routes.proofs.id.written_number.Given as goal

-- the bytes so far are digits, and the number is theirs, or one above the last id
abbrev pub invariant-loop-b : goal.invariant-loop-b
invariant-loop-b l = record {
  capped : l.number ≡ min (digits_value 10 (take l.b-index l.text)) (LAST_PAGE_ID + 1);
  digits : list_all is_ascii_digit (take l.b-index l.text) ≡ true;
}
