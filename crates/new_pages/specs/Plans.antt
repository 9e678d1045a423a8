-- What is known of a command before it is planned: what its first rules say, and what later rules tell.
use Rattle.std.specs.Prelude.{◌≡◌, ℕ, true, Option, Some, None, Result, Ok, Err}
use Rattle.page_tree.specs.Tree.{Forest, has_page}
use Rattle.site_types.specs.declared.body.Body.{Body}
use Rattle.site_types.specs.declared.command.Command.{Command}
use Rattle.site_types.specs.declared.position.Position.{Position}
use Rattle.site_types.specs.declared.refusal.Refusal.{Refusal}
use Rattle.tree_model.specs.Places.{is_beside}
use Rattle.site_model.specs.World as worlds
use Rattle.site_model.specs.Front.{front_rules}
use Rattle.site_model.specs.Laws.{FitsCommand}
use Rattle.site_model.specs.Sound.{IsTree}
use Rattle.site_part.specs.declared.fault.Fault.{Fault}
use Rattle.site_part.specs.declared.fault.Fault.TheVariants.{Refused, Memory}
use Rattle.site_part.specs.declared.part.TreePart.{TreePart}
use Rattle.site_part.specs.Standing.{IsReady}

-- What is told by what rules refuse: something right only where none refuses, and a refusal exactly
-- as the rules say. Out of memory tells nothing.
abbrev pub PlansBy : {X : Type 0} → Option Refusal → (X → Type 0) → Result X Fault → Type 0
PlansBy refused IsRight (Ok plan) = (refused ≡ None) × IsRight plan
PlansBy refused IsRight (Err (Refused refusal)) = refused ≡ Some refusal
PlansBy refused IsRight (Err Memory) = Unit {0}

-- the tree of a sound part
abbrev pub IsSoundTree : worlds.TreePart → Type 0
IsSoundTree part = IsTree part.tree part.next_page

-- a page that is there, and is not the root
abbrev pub IsBelowRoot : Forest Body → ℕ → Type 0
IsBelowRoot tree page = (has_page page tree ≡ true) × (page ≡ 1 → ⊥)

-- both pages of a move are there, the root stays, and nothing goes beside it
abbrev pub NamesMove : Forest Body → ℕ → ℕ → Position → Type 0
NamesMove tree page target position =
    (has_page page tree ≡ true) × (has_page target tree ≡ true) × (page ≡ 1 → ⊥)
    × (is_beside position ≡ true → target ≡ 1 → ⊥)

-- A command is asked for that none of its first six rules refuses.
pub record IsAsked (kept : TreePart) (part : worlds.TreePart) (caller : ℕ) (command : Command) :
    Type 0 where
  pub ready : IsReady kept part
  pub fits : FitsCommand command
  pub front : front_rules part caller command ≡ None
