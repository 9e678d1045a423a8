-- What is told of rights: the first need that is not met, and what the first rules say.
use Rattle.std.specs.Prelude.{ℕ, Bool, true, false, ◌==◌, Option, Some, None, Result, Ok, Err}
use Rattle.site_types.specs.declared.refusal.Refusal.{Refusal}
use Rattle.site_model.specs.Rights as rights
use Rattle.site_model.specs.Views.{Stage, is_asked}
use Rattle.site_part.specs.declared.need.Need.{Need}

-- a need by its number
abbrev pub need_with : ℕ → Need
need_with number = record { number = number }

-- what is answered if this is the first need that is not met, or if there is none
abbrev pub need_told : Option ℕ → Result (Unit {0}) Need
need_told None = Ok tt
need_told (Some number) = Err (need_with number)

-- what is answered if this is the first rule that refuses, or if there is none
abbrev pub rule_told : Option Refusal → Result (Unit {0}) Refusal
rule_told None = Ok tt
rule_told (Some refusal) = Err refusal

-- whether a user is this one, if there is one
abbrev pub is_by : Option ℕ → ℕ → Bool
is_by None user = false
is_by (Some other) user = other == user

-- whether one with these rights may answer a moderation that stands here: if it is in progress, only
-- members of a group of its current task may
abbrev pub answers : rights.Rights → Option Stage → Bool
answers asked None = true
answers asked (Some stage) = is_asked asked stage
