-- The needs of each command are those of its kind, and the pages that they look at are there.
use Rattle.std.proofs.Common.{◌≡◌, ℕ, Bool, true, false, not, ◌||◌, nat_eq, List, [], ◌∷◌, Option, Some, None, refl, arith}
use Rattle.std.proofs.lemmas.Bool.Decides.{nat_tests}
use Rattle.page_tree.specs.Tree.{Forest, has_page}
use Rattle.site_types.specs.declared.body.Body.{Body}
use Rattle.site_types.specs.declared.command.Command.{Command}
use Rattle.site_types.specs.declared.command.Command.TheVariants as commands
use Rattle.site_types.specs.declared.position.Position.{Position}
use Rattle.site_types.specs.declared.refusal.Refusal.{Refusal}
use Rattle.site_types.specs.declared.refusal.Refusal.TheVariants.{IsRoot, NoPage}
use Rattle.tree_model.specs.Places.{is_beside}
use Rattle.site_model.specs.World.{TreePart}
use Rattle.site_model.specs.Needs.{needs_of}
use Rattle.site_model.specs.Rules.{refused_if, first_of, no_page, no_pages, are_root}
use Rattle.site_model.specs.Front.{row_of}
use Rattle.command_rows.specs.declared.needing.NeedRow.{NeedRow}
use Rattle.command_rows.specs.declared.needing.NeedRow.TheVariants as rows
use Rattle.command_rows.specs.Needs.{need_row_of, seen_needs, AreNamed}
use Rattle.command_rows.specs.Naming.{NamesPages}

-- the needs of a command are those of its kind
pub needs_seen : (part : TreePart) (user : ℕ) (command : Command) →
    seen_needs part user (need_row_of command) ≡ needs_of part user command
unfolding needs_of
needs_seen part user (commands.Create parent slug content) = refl
needs_seen part user (commands.Move page target position) = refl
needs_seen part user (commands.Delete page) = refl
needs_seen part user (commands.SetSlug page slug) = refl
needs_seen part user (commands.Alias source parent slug) = refl
needs_seen part user (commands.Detach page) = refl
needs_seen part user (commands.Copy page parent slug deep) = refl
needs_seen part user (commands.OpenDesk page) = refl
needs_seen part user (commands.SaveDesk page content) = refl
needs_seen part user (commands.ShutDesk page) = refl
needs_seen part user (commands.File page go_live expire) = refl
needs_seen part user (commands.Publish page) = refl
needs_seen part user (commands.Unpublish page) = refl
needs_seen part user (commands.Unschedule page) = refl
needs_seen part user (commands.Lock page) = refl
needs_seen part user (commands.Unlock page) = refl
needs_seen part user (commands.Purge page) = refl
needs_seen part user (commands.DefineTask groups) = refl
needs_seen part user (commands.DefineWorkflow tasks) = refl
needs_seen part user (commands.Assign page workflow) = refl
needs_seen part user (commands.Submit page) = refl
needs_seen part user (commands.Approve page) = refl
needs_seen part user (commands.Reject page) = refl
needs_seen part user (commands.Cancel page) = refl
needs_seen part user (commands.DefineUser superuser digest) = refl
needs_seen part user commands.DefineGroup = refl
needs_seen part user (commands.Member member group on) = refl
needs_seen part user (commands.Grant group page permission on) = refl
needs_seen part user commands.Tick = refl

-- a rule that does not refuse is not broken
not_broken : (t : Bool) (refusal : Refusal) (others : List (Option Refusal)) →
    first_of (refused_if (not t) refusal ∷ others) ≡ None → t ≡ true
not_broken true refusal others none = refl
not_broken false refusal others none = absurd cc

-- nor are those that come after it
others_hold : (t : Bool) (refusal : Refusal) (others : List (Option Refusal)) →
    first_of (refused_if (not t) refusal ∷ others) ≡ None → first_of others ≡ None
others_hold true refusal others none = none
others_hold false refusal others none = absurd cc

-- the last of some rules
alone : (rule : Option Refusal) → first_of (rule ∷ []) ≡ None → rule ≡ None
alone None none = refl
alone (Some refusal) none = absurd cc

-- the first page that is named is there
first_there : (tree : Forest Body) (page : ℕ) (others : List ℕ) →
    no_pages tree (page ∷ others) ≡ None → has_page page tree ≡ true
first_there tree page others none =
    not_broken (has_page page tree) (NoPage page) (no_pages tree others ∷ []) none

-- and so is the second
second_there : (tree : Forest Body) (page other : ℕ) →
    no_pages tree (page ∷ other ∷ []) ≡ None → has_page other tree ≡ true
second_there tree page other none =
    first_there tree other []
    (alone (no_pages tree (other ∷ []))
    (others_hold (has_page page tree) (NoPage page) (no_pages tree (other ∷ []) ∷ []) none))

-- the second of two pages that may not be the root is not
not_root : (page target : ℕ) → are_root (page ∷ target ∷ []) ≡ None → target ≡ 1 → ⊥
not_root page target none root = by (nat_eq page 1) (nat_eq target 1) same none
  where
    same : nat_eq target 1 ≡ true
    same = grind (arith, nat_tests, root)

    by : (a b : Bool) → b ≡ true → refused_if (a || (b || false)) IsRoot ≡ None → ⊥
    by true b is none = cc
    by false true is none = cc
    by false false is none = cc

-- a target beside which a page is to stand is not the root
below_both : (page target : ℕ) (position : Position) →
    are_root (row_of (commands.Move page target position)).below_root ≡ None →
    is_beside position ≡ true → target ≡ 1 → ⊥
unfolding row_of
below_both page target position none beside root =
    not_root page target (rw beside at none) root

-- the pages that the needs of a command look at are there
pub needs_named : (tree : Forest Body) (command : Command) → NamesPages tree command →
    AreNamed (λ page. has_page page tree ≡ true) (need_row_of command)
unfolding row_of
needs_named tree (commands.Create parent slug content) named = first_there tree parent [] named.there
needs_named tree (commands.Move page target position) named = (
  first_there tree page (target ∷ []) named.there,
  second_there tree page target named.there,
  below_both page target position named.below_root,
)
needs_named tree (commands.Delete page) named = first_there tree page [] named.there
needs_named tree (commands.SetSlug page slug) named = first_there tree page [] named.there
needs_named tree (commands.Alias source parent slug) named =
    (first_there tree source (parent ∷ []) named.there, second_there tree source parent named.there)
needs_named tree (commands.Detach page) named = first_there tree page [] named.there
needs_named tree (commands.Copy page parent slug deep) named = second_there tree page parent named.there
needs_named tree (commands.OpenDesk page) named = first_there tree page [] named.there
needs_named tree (commands.SaveDesk page content) named = tt
needs_named tree (commands.ShutDesk page) named = tt
needs_named tree (commands.File page go_live expire) named = tt
needs_named tree (commands.Publish page) named = first_there tree page [] named.there
needs_named tree (commands.Unpublish page) named = first_there tree page [] named.there
needs_named tree (commands.Unschedule page) named = first_there tree page [] named.there
needs_named tree (commands.Lock page) named = first_there tree page [] named.there
needs_named tree (commands.Unlock page) named = first_there tree page [] named.there
needs_named tree (commands.Purge page) named = first_there tree page [] named.there
needs_named tree (commands.DefineTask groups) named = tt
needs_named tree (commands.DefineWorkflow tasks) named = tt
needs_named tree (commands.Assign page workflow) named = tt
needs_named tree (commands.Submit page) named = first_there tree page [] named.there
needs_named tree (commands.Approve page) named = first_there tree page [] named.there
needs_named tree (commands.Reject page) named = first_there tree page [] named.there
needs_named tree (commands.Cancel page) named = first_there tree page [] named.there
needs_named tree (commands.DefineUser superuser digest) named = tt
needs_named tree commands.DefineGroup named = tt
needs_named tree (commands.Member member group on) named = tt
needs_named tree (commands.Grant group page permission on) named = tt
needs_named tree commands.Tick named = tt

-- pages that pass a test pass a weaker one
pub AreNamed-weaker : (Passes Holds : ℕ → Type 0) (row : NeedRow) →
    ((page : ℕ) → Passes page → Holds page) → AreNamed Passes row → AreNamed Holds row
AreNamed-weaker Passes Holds rows.Nothing weaker named = tt
AreNamed-weaker Passes Holds rows.Superuser weaker named = tt
AreNamed-weaker Passes Holds (rows.Add parent) weaker named = weaker parent named
AreNamed-weaker Passes Holds (rows.Move page target position) weaker named =
    (weaker page named.0, weaker target named.1, named.2)
AreNamed-weaker Passes Holds (rows.Delete page) weaker named = weaker page named
AreNamed-weaker Passes Holds (rows.Rename page) weaker named = weaker page named
AreNamed-weaker Passes Holds (rows.Alias source parent) weaker named =
    (weaker source named.0, weaker parent named.1)
AreNamed-weaker Passes Holds (rows.Detach page) weaker named = weaker page named
AreNamed-weaker Passes Holds (rows.Edit page) weaker named = weaker page named
AreNamed-weaker Passes Holds (rows.Hold permission page) weaker named = weaker page named
AreNamed-weaker Passes Holds (rows.Unlock page) weaker named = weaker page named
AreNamed-weaker Passes Holds (rows.Answer page) weaker named = weaker page named
AreNamed-weaker Passes Holds (rows.Cancel page) weaker named = weaker page named
