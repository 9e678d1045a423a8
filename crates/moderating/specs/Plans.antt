-- Plans that end desks, and what is told of a plan.
use Rattle.std.specs.Prelude.{◌≡◌, ℕ, List, Option, Some, None, Result, Ok, Err}
use Rattle.site_types.specs.declared.refusal.Refusal.{Refusal}
use Rattle.site_types.specs.declared.reply.Reply.{Reply}
use Rattle.flat_model.specs.declared.change.Change.{Change}
use Rattle.site_part.specs.Plans.{quiet_plan}
use Rattle.site_part.specs.declared.fault.Fault.{Fault}
use Rattle.site_part.specs.declared.fault.Fault.TheVariants.{Refused, Memory}
use Rattle.site_part.specs.declared.plan.Plan.{Plan}

-- a plan that opens no desk, and ends those on these pages
abbrev pub ending_plan : Reply → List ℕ → Change → Plan
ending_plan reply shut change = record (quiet_plan reply change) { shut = shut }

-- this plan, unless memory ran out
abbrev pub Plans : Plan → Result Plan Fault → Type 0
Plans plan (Ok made) = made ≡ plan
Plans plan (Err fault) = fault ≡ Memory

-- What is told by what rules refuse: something right only where none refuses, and a refusal exactly
-- as the rules say. Out of memory tells nothing.
abbrev pub Tells : {Told : Type 0} → Option Refusal → (Told → Type 0) → Result Told Fault → Type 0
Tells refused IsRight (Ok told) = (refused ≡ None) × IsRight told
Tells refused IsRight (Err (Refused refusal)) = refused ≡ Some refusal
Tells refused IsRight (Err Memory) = Unit {0}
