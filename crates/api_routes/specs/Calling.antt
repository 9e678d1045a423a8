-- What the code's answers say of the calls that requests ask for.
use Rattle.std.specs.Prelude.{◌≡◌, ℕ, ◌+◌, ◌==◌, min, Bool, false, List, [], ◌∷◌, Option, Result, Ok, Err}
use Rattle.std.specs.Bool.{then_some}
use Rattle.std.specs.Char.{is_ascii_digit}
use Rattle.std.specs.List.{list_all}
use Rattle.std.specs.Str.Parse.{digits_value}
use Rattle.site_ids.specs.declared.ids.TheConstants.{LAST_PAGE_ID}
use Rattle.wire_model.specs.declared.call.Call.{Call}
use Rattle.wire_model.specs.declared.call.Call.TheVariants.{Run, Page, Refs, Desk, Public}
use Rattle.wire_model.specs.declared.call.RouteFault.{RouteFault}
use Rattle.wire_model.specs.declared.call.RouteFault.TheVariants.{NotFound, NotBuilt, Method, Form, Memory}

-- what may run out of memory: only a request with the right route and method, for a command, a
-- public page, or what is not of the form
abbrev pub MayWant : Result Call RouteFault → Type 0
MayWant (Ok (Run command)) = Unit {0}
MayWant (Ok (Page page)) = ⊥
MayWant (Ok (Refs page)) = ⊥
MayWant (Ok (Desk page)) = ⊥
MayWant (Ok (Public url)) = Unit {0}
MayWant (Err NotFound) = ⊥
MayWant (Err NotBuilt) = ⊥
MayWant (Err (Method allow)) = ⊥
MayWant (Err Form) = Unit {0}
MayWant (Err Memory) = ⊥

-- the answer is the call that is asked for, or why none is; running out of memory says little
abbrev pub Answers : Result Call RouteFault → Result Call RouteFault → Type 0
Answers (Ok call) asked = asked ≡ Ok call
Answers (Err NotFound) asked = asked ≡ Err NotFound
Answers (Err NotBuilt) asked = asked ≡ Err NotBuilt
Answers (Err (Method allow)) asked = asked ≡ Err (Method allow)
Answers (Err Form) asked = asked ≡ Err Form
Answers (Err Memory) asked = MayWant asked

-- the number that a text of digits writes, or one above the last id if it is greater
abbrev pub capped_number : List ℕ → Option ℕ
capped_number text =
    then_some (list_all is_ascii_digit text) (min (digits_value 10 text) (LAST_PAGE_ID + 1))

-- whether the last byte is `/`
abbrev pub ends_with_slash : List ℕ → Bool
ends_with_slash [] = false
ends_with_slash (b ∷ []) = b == 47
ends_with_slash (b ∷ c ∷ path) = ends_with_slash (c ∷ path)
