-- What a command does to a sound part, before its desks are looked at.
use Rattle.std.proofs.Common.{◌≡◌, ◌<◌, ◌≤◌, ℕ, false, nat_eq, [], ◌∷◌, length, Option, Some, None, sym}
use Rattle.std.specs.Prelude.{IfSome}
use Rattle.std.specs.List.{AllByRecursion}
use Rattle.site_types.specs.Content.{FitsLimits}
use Rattle.site_types.specs.declared.refusal.Refusal.TheVariants.{IsRoot}
use Rattle.site_types.specs.declared.reply.Reply.{Reply}
use Rattle.tree_model.proofs.CountLemmas.{apart_by_test}
use Rattle.site_model.specs.World.{DeskPair, Desk, TreePart, Deed}
use Rattle.site_model.specs.Limits.{MAX_DESKS}
use Rattle.site_model.specs.Desks.{desk_opened}
use Rattle.site_model.specs.Rules.{are_root}
use Rattle.site_model.specs.Create.{plain_deed}
use Rattle.site_model.specs.Sound.{IsRegular}
use Rattle.site_model.proofs.ClearLemmas.{test_clear, neither}
use Rattle.site_model.proofs.Groups.{AreGroups}
use Rattle.site_model.proofs.RegularLemmas.{StayRegular}

-- What a desk is that may be opened.
pub record MayOpen (part : TreePart) (desk : Desk) : Type 0 where
  pub user : desk.user < part.next_user
  pub regular : IsRegular part.tree desk.page
  pub fits : FitsLimits desk.text
  -- no desk is open on the page, and there is room for one
  pub free : AllByRecursion (λ (pair : DeskPair). pair.page ≡ desk.page → ⊥) part.desk_pairs
  pub room : length part.desk_pairs < MAX_DESKS

-- What a command of a caller, which looks at the desk on this page, does of itself.
pub record KeepsSound (part : TreePart) (caller : ℕ) (page : Option ℕ) (deed : Deed) : Type 0 where
  pub sound : AreGroups deed.part
  pub regular : StayRegular part.tree deed.part.tree
  pub opened : IfSome (desk_opened caller page deed.opened) (MayOpen part)
  pub pairs : deed.part.desk_pairs ≡ part.desk_pairs
  pub users : part.next_user ≤ deed.part.next_user

-- a page that may not be the root is not
pub below_root : (page : ℕ) → are_root (page ∷ []) ≡ None → 1 ≡ page → ⊥
below_root page none same =
    let tests = neither (nat_eq page 1) false (test_clear _ IsRoot none) in
    apart_by_test page 1 tests.0 (sym same)

-- a command that opens no desk opens none that may not be opened
pub opens_none : (part : TreePart) (caller : ℕ) (page : Option ℕ) →
    IfSome (desk_opened caller page None) (MayOpen part)
opens_none part caller None = tt
opens_none part caller (Some page) = tt

-- what a change of the tree part alone leaves
pub plain_keeps : (part after : TreePart) (caller : ℕ) (page : Option ℕ) (reply : Reply) →
    AreGroups after → StayRegular part.tree after.tree → after.desk_pairs ≡ part.desk_pairs →
    part.next_user ≤ after.next_user → KeepsSound part caller page (plain_deed after reply)
plain_keeps part after caller page reply sound regular pairs users = record {
  sound = sound;
  regular = regular;
  opened = opens_none part caller page;
  pairs = pairs;
  users = users;
}
