-- What an accepted command tells: no rule refused it, and this is what it did.
use Rattle.std.proofs.Common.{◌≡◌, ℕ, true, List, [], ◌∷◌, Option, Some, None, Result, Ok, refl}
use Rattle.std.specs.Option.{option_and_then}
use Rattle.site_types.specs.Content.{ContentValue}
use Rattle.site_types.specs.declared.command.Command.{Command}
use Rattle.site_types.specs.declared.refusal.Refusal.{Refusal}
use Rattle.site_types.specs.declared.refusal.Refusal.TheVariants.{NoPage}
use Rattle.page_tree.specs.Tree.{Forest, has_page}
use Rattle.site_types.specs.declared.body.Body.{Body}
use Rattle.site_model.specs.World.{TreePart, Effect}
use Rattle.site_model.specs.Rights.{rights_of}
use Rattle.site_model.specs.Rules.{no_page, no_pages, are_root}
use Rattle.site_model.specs.Needs.{denied}
use Rattle.site_model.specs.Views.{body_of, view_of}
use Rattle.site_model.specs.Front.{CommandRow, locked, aliased, in_moderation, locked_by, stage_in, front_by, front_rules}
use Rattle.site_model.specs.Desks.{desk_page, settled}
use Rattle.site_model.specs.Step.{rules, refusal_of, unless_refused, step_by}
use Rattle.site_model.specs.Step as steps
use Rattle.site_model.proofs.ClearLemmas.{first_clear, test_clear, not_false}

-- What an accepted command tells.
pub record IsAccepted (before after : TreePart) (told : Effect) (desk : Option ContentValue)
    (now caller : ℕ) (command : Command) : Type 0 where
  pub front : front_rules before caller command ≡ None
  pub own : rules before desk now caller command ≡ None
  pub done :
      settled caller (desk_page command) (steps.effect before desk now caller command)
      ≡ (after, told)

-- what is in two results that are the same
pub same_ok : {X E : Type 0} (x y : X) → ◌≡◌ {A = Result X E} (Ok x) (Ok y) → x ≡ y
same_ok x y is = cc

-- nothing refused what was accepted
pub not_refused : {Made : Type 0} (refusal : Option Refusal) (made other : Made) →
    unless_refused refusal made ≡ Ok other → (refusal ≡ None) × (made ≡ other)
not_refused (Some refusal) made other is = absurd (cc)
not_refused None made other is = (refl, same_ok {E = Refusal} made other is)

-- an accepted step tells
pub accepted : (before after : TreePart) (told : Effect) (desk : Option ContentValue)
    (now caller : ℕ) (command : Command) →
    step_by before desk now caller command ≡ Ok (after, told) →
    IsAccepted before after told desk now caller command
unfolding step_by
accepted before after told desk now caller command is =
    let both = not_refused (refusal_of before desk now caller command)
    (settled caller (desk_page command) (steps.effect before desk now caller command))
    (after, told) is in
    let front = first_clear (front_rules before caller command) _ both.0 in
    let own = first_clear (rules before desk now caller command) [] front.1 in
    record { front = front.0; own = own.0; done = both.1 }

-- What the first six rules tell that do not refuse, the lock aside.
pub record IsFrontClear (part : TreePart) (caller : ℕ) (row : CommandRow)
    (needs : List (Option ℕ)) : Type 0 where
  pub pages : no_pages part.tree row.named ≡ None
  pub below : are_root row.below_root ≡ None
  pub may : denied part caller needs ≡ None
  pub kind : aliased row.alias (option_and_then (body_of part.tree) row.page) ≡ None
  pub stage :
      in_moderation row.moderation (rights_of part caller)
      (stage_in (option_and_then (view_of part) row.page))
      ≡ None

-- the first rules, one by one
pub front_parts : (part : TreePart) (caller : ℕ) (row : CommandRow) (needs : List (Option ℕ)) →
    front_by part caller row needs ≡ None → IsFrontClear part caller row needs
front_parts part caller row needs none =
    let pages = first_clear (no_pages part.tree row.named) _ none in
    let below = first_clear (are_root row.below_root) _ pages.1 in
    let may = first_clear (denied part caller needs) _ below.1 in
    let view = option_and_then (view_of part) row.page in
    let free = first_clear (locked row.lock caller (locked_by view)) _ may.1 in
    let kind = first_clear (aliased row.alias (option_and_then (body_of part.tree) row.page)) _
    free.1 in
    let stage = first_clear
    (in_moderation row.moderation (rights_of part caller) (stage_in view)) [] kind.1 in
    record {
      pages = pages.0;
      below = below.0;
      may = may.0;
      kind = kind.0;
      stage = stage.0;
    }

-- the first page of those that are named is there, and so are the others
pub page_found : (tree : Forest Body) (page : ℕ) (pages : List ℕ) →
    no_pages tree (page ∷ pages) ≡ None →
    (has_page page tree ≡ true) × (no_pages tree pages ≡ None)
page_found tree page pages none =
    let first = first_clear (no_page tree page) (no_pages tree pages ∷ []) none in
    let later = first_clear (no_pages tree pages) [] first.1 in
    (not_false (has_page page tree) (test_clear _ (NoPage page) first.0), later.0)
