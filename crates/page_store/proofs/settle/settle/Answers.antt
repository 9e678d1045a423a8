-- The page at the top goes below its new parent, if that is another.
use Rattle.std.proofs.Common.{◌≡◌, ◌∙◌, ℕ, List, Bool, true, false, Option, eqb, sym, subst, arith}
use Rattle.std.proofs.lemmas.Bool.Decides.{nat_tests}
use Rattle.page_store.specs.declared.kid_index.KidKey.{KidKey}
use Rattle.page_store.specs.Pages.{Page}
use Rattle.page_store.specs.Settling.{CanSettle}
use Rattle.page_store.proofs.SettledLemmas.{settle_none, settle_root, settle_there, settle_stays, settle_room, settle_kept}
use Rattle.page_store.specs.KidIndex.{keys_of, without_key}
use Rattle.page_store.proofs.KidIndexLemmas.{without_key-self}
use Rattle.page_store.proofs.settle.settle.Goals as goal

-- what may be settled, where it is known which page is at the top
can_with : (rows : List Page) (top other : Option ℕ) → top ≡ other → CanSettle top rows →
    CanSettle other rows
can_with rows top other is can = subst (λ (o : Option ℕ). CanSettle o rows) is can

-- what the comparison says
same_number : (a b : ℕ) (t : Bool) → t ≡ eqb a b → t ≡ true → a ≡ b
same_number a b t is h = let test : eqb a b ≡ true = sym is ∙ h in grind (arith, nat_tests)

-- what it says where it fails
other_number : (a b : ℕ) (t : Bool) → t ≡ eqb a b → t ≡ false → b ≡ a → ⊥
other_number a b t is h same =
    let test : eqb a b ≡ false = sym is ∙ h in absurd (grind (arith, nat_tests))

pub returns-in_default-clause-kept : goal.returns-in_default-clause-kept
returns-in_default-clause-kept c =
    settle_none _ _ _ c.requires.listed c.args.kids.now c.requires.indexed (can_with _ _ _
    c.in_default.is c.requires.can)

pub returns-in_default-find_key-clause-kept : goal.returns-in_default-find_key-clause-kept
returns-in_default-find_key-clause-kept c =
    settle_root _ _ _ c.requires.listed c.args.kids.now c.requires.indexed _ (can_with _ _ _ c.in-Some.is
    c.requires.can) (sym c.find_key.ensures ∙ c.in_default-find_key.is)

pub page_above-parent-requires-clause-there : goal.page_above-parent-requires-clause-there
page_above-parent-requires-clause-there c =
    settle_there _ _ _ c.requires.listed c.args.kids.now c.requires.indexed _ (can_with _ _ _ c.in-Some.is
    c.requires.can) c.in-Some-find_key.old (sym c.find_key.ensures ∙ c.in-Some-find_key.is)

pub returns-then-eq-clause-kept : goal.returns-then-eq-clause-kept
returns-then-eq-clause-kept c =
    settle_stays _ _ _ c.requires.listed c.args.kids.now c.requires.indexed _ (can_with _ _ _ c.in-Some.is
    c.requires.can) c.in-Some-find_key.old (sym c.find_key.ensures ∙ c.in-Some-find_key.is)
    c.page_above-parent.result c.page_above-parent.ensures (same_number _ _ _
    c.eq.ensures c.if-eq.true)

pub add_kid-requires : goal.add_kid-requires
add_kid-requires c =
    settle_room _ _ _ c.requires.listed c.args.kids.now c.requires.indexed _ (can_with _ _ _ c.in-Some.is
    c.requires.can) c.in-Some-find_key.old (sym c.find_key.ensures ∙ c.in-Some-find_key.is)
    c.page_above-parent.result c.page_above-parent.ensures _ _ c.put_parent.ensures.others
    c.take_kid.ensures.others (other_number _ _ _ c.eq.ensures c.if-eq.false)

pub returns-clause-kept : goal.returns-clause-kept
returns-clause-kept c =
    let top = c.in-Some.top in
    let keys : ℕ → Option KidKey = keys_of c.args.stored.now.entries in
    let out = c.take.ensures.taken keys c.requires.indexed (sym c.find_key.ensures ∙ c.in-Some-find_key.is) in
    settle_kept _ _ _ c.requires.listed c.args.kids.now c.requires.indexed _ (can_with _ _ _ c.in-Some.is
    c.requires.can) c.in-Some-find_key.old (sym c.find_key.ensures ∙ c.in-Some-find_key.is)
    c.page_above-parent.result c.page_above-parent.ensures _ _ c.put_parent.ensures.others
    c.take_kid.ensures.others (other_number _ _ _ c.eq.ensures c.if-eq.false) _ c.add.new.self
    c.add_kid.ensures.others (c.add.ensures.added (without_key top keys) out (without_key-self top keys))
