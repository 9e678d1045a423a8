-- What a change of one part makes of the desk that is kept on a page.
use Rattle.std.proofs.Common.{◌≡◌, ◌<◌, ℕ, Bool, true, false, cond, not, nat_eq, nat_lt, List, [], ◌∷◌, length, get_or, set, Option, Some, None, refl, sym, ap, ◌∙◌, arith}
use Rattle.std.specs.Option.{option_map}
use Rattle.std.proofs.lemmas.List.{get_or-set_same, get_or-set_other}
use Rattle.std.proofs.lemmas.Bool.Decides.{nat_tests}
use Rattle.site_types.specs.Content.{ContentValue}
use Rattle.site_types.specs.declared.world_rows.DeskRow.{DeskRow}
use Rattle.site_model.specs.Parts.{stripe_of}
use Rattle.desks.specs.Desks.{desk_of, desk_in, is_own, rewritten, with_desk, with_text, without}
use Rattle.site_core.specs.Texts.{list_of, kept_on}

-- the desk on a page after one more is opened
pub in_opened : (new : DeskRow) (desks : List DeskRow) (page : ℕ) → desk_in new.page desks ≡ None →
    desk_in page (with_desk new desks) ≡ cond (nat_eq new.page page) (Some new) (desk_in page desks)
in_opened new [] page free = refl
in_opened new (desk ∷ desks) page free =
    by (nat_lt new.page desk.page) (nat_eq desk.page new.page) refl free
    (λ none. in_opened new desks page none)
  where
    differ : nat_eq desk.page new.page ≡ false → nat_eq new.page page ≡ true →
        nat_eq desk.page page ≡ false
    differ other same = grind (arith, nat_tests)

    inner : nat_eq desk.page new.page ≡ false → (t : Bool) → nat_eq new.page page ≡ t →
        cond (nat_eq desk.page page) (Some desk) (cond t (Some new) (desk_in page desks))
        ≡ cond t (Some new) (cond (nat_eq desk.page page) (Some desk) (desk_in page desks))
    inner other true same = rw (differ other same) refl
    inner other false same = refl

    by : (before same : Bool) → nat_eq desk.page new.page ≡ same →
        cond same (Some desk) (desk_in new.page desks) ≡ None →
        (desk_in new.page desks ≡ None → desk_in page (with_desk new desks)
        ≡ cond (nat_eq new.page page) (Some new) (desk_in page desks)) →
        desk_in page (cond before (new ∷ desk ∷ desks) (desk ∷ with_desk new desks))
        ≡ cond (nat_eq new.page page) (Some new) (desk_in page (desk ∷ desks))
    by before true same none more = absurd (cc)
    by true false other none more = refl
    by false false other none more =
        rw (more none) (inner other (nat_eq new.page page) refl)

-- the desk on a page after a text is saved
pub in_saved : (at user : ℕ) (text : ContentValue) (desks : List DeskRow) (page : ℕ) →
    desk_in page (with_text at user text desks)
    ≡ option_map (rewritten at user text) (desk_in page desks)
in_saved at user text [] page = refl
in_saved at user text (desk ∷ desks) page =
    by (is_own at user desk) refl (in_saved at user text desks page)
  where
    inner : (one : DeskRow) (t : Bool) → rewritten at user text desk ≡ one →
        desk_in page (with_text at user text desks)
        ≡ option_map (rewritten at user text) (desk_in page desks) →
        cond t (Some one) (desk_in page (with_text at user text desks))
        ≡ option_map (rewritten at user text) (cond t (Some desk) (desk_in page desks))
    inner one true is more = ap Some (sym is)
    inner one false is more = more

    by : (t : Bool) → is_own at user desk ≡ t →
        desk_in page (with_text at user text desks)
        ≡ option_map (rewritten at user text) (desk_in page desks) →
        desk_in page (cond t (record desk { content = text }) desk ∷ with_text at user text desks)
        ≡ option_map (rewritten at user text) (desk_in page (desk ∷ desks))
    by true is more =
        inner (record desk { content = text }) (nat_eq desk.page page) (rw is refl) more
    by false is more = inner desk (nat_eq desk.page page) (rw is refl) more

-- the desk on a page after the one on a page is shut
pub in_shut : (gone : ℕ) (desks : List DeskRow) (page : ℕ) →
    desk_in page (without gone desks) ≡ cond (nat_eq gone page) None (desk_in page desks)
in_shut gone [] page = by (nat_eq gone page)
  where
    by : (t : Bool) → ◌≡◌ {A = Option DeskRow} None (cond t None None)
    by true = refl
    by false = refl
in_shut gone (desk ∷ desks) page =
    by (nat_eq desk.page gone) refl (nat_eq gone page) refl (in_shut gone desks page)
  where
    here : nat_eq desk.page gone ≡ true → nat_eq gone page ≡ false → nat_eq desk.page page ≡ false
    here same other = grind (arith, nat_tests)

    there : nat_eq desk.page gone ≡ false → nat_eq gone page ≡ true → nat_eq desk.page page ≡ false
    there other same = grind (arith, nat_tests)

    by : (s : Bool) → nat_eq desk.page gone ≡ s → (t : Bool) → nat_eq gone page ≡ t →
        desk_in page (without gone desks) ≡ cond t None (desk_in page desks) →
        desk_in page (cond (not s) (desk ∷ without gone desks) (without gone desks))
        ≡ cond t None (cond (nat_eq desk.page page) (Some desk) (desk_in page desks))
    by true is true same more = more
    by true is false same more = rw (here is same) more
    by false is true same more = rw (there is same) more
    by false is false same more = ap (cond (nat_eq desk.page page) (Some desk)) more

module _ (lists : List (List DeskRow)) (at : ℕ) (list : List DeskRow) (page : ℕ)
    (within : stripe_of at < length lists) where
  -- a page of another stripe keeps its desk
  pub kept_apart : nat_eq (stripe_of page) (stripe_of at) ≡ false →
      kept_on page (set lists (stripe_of at) list) ≡ kept_on page lists
  kept_apart other =
      ap (desk_in page)
      (get_or-set_other lists (stripe_of at) (stripe_of page) list []
      (λ same. absurd (grind (arith, nat_tests))))

  -- a page of the same stripe has what is in the new list
  pub kept_beside : nat_eq (stripe_of page) (stripe_of at) ≡ true →
      kept_on page (set lists (stripe_of at) list) ≡ desk_in page list
  kept_beside same =
      let is : stripe_of page ≡ stripe_of at = grind (arith, nat_tests) in
      ap (λ n. desk_in page (get_or (set lists (stripe_of at) list) n [])) is
      ∙ ap (desk_in page) (get_or-set_same lists (stripe_of at) list [] within)

-- pages of two stripes are two
apart : (at page : ℕ) → nat_eq (stripe_of page) (stripe_of at) ≡ false → nat_eq at page ≡ false
apart at page other = by (nat_eq at page) refl
  where
    by : (t : Bool) → nat_eq at page ≡ t → nat_eq at page ≡ false
    by false is = is
    by true same =
        let is : at ≡ page = grind (arith, nat_tests) in
        let stripes : stripe_of page ≡ stripe_of at = ap stripe_of (sym is) in
        absurd (grind (arith, nat_tests))

-- the desk on another page has no other text
rewritten_apart : (at user : ℕ) (text : ContentValue) (desks : List DeskRow) (page : ℕ) →
    nat_eq at page ≡ false →
    desk_in page desks ≡ option_map (rewritten at user text) (desk_in page desks)
rewritten_apart at user text [] page other = refl
rewritten_apart at user text (desk ∷ desks) page other =
    by (nat_eq desk.page page) refl (rewritten_apart at user text desks page other)
  where
    here : nat_eq desk.page page ≡ true → nat_eq desk.page at ≡ false
    here same = grind (arith, nat_tests)

    by : (t : Bool) → nat_eq desk.page page ≡ t →
        desk_in page desks ≡ option_map (rewritten at user text) (desk_in page desks) →
        cond t (Some desk) (desk_in page desks)
        ≡ option_map (rewritten at user text) (cond t (Some desk) (desk_in page desks))
    by true same more = rw (here same) refl
    by false is more = more

module _ (lists : List (List DeskRow)) (at : ℕ) (within : stripe_of at < length lists) where
  -- the part of the page of a change
  abbrev part : List DeskRow
  part = list_of (stripe_of at) lists

  -- what is there on a page of the same stripe
  there : (page : ℕ) → nat_eq (stripe_of page) (stripe_of at) ≡ true →
      desk_in page part ≡ kept_on page lists
  there page same =
      let is : stripe_of at ≡ stripe_of page = grind (arith, nat_tests) in
      ap (λ n. desk_in page (list_of n lists)) is

  -- the desk that is kept on a page after one more is opened
  pub kept_opened : (user : ℕ) (text : ContentValue) → kept_on at lists ≡ None → (page : ℕ) →
      kept_on page (set lists (stripe_of at) (with_desk (desk_of at user text) part))
      ≡ cond (nat_eq at page) (Some (desk_of at user text)) (kept_on page lists)
  kept_opened user text free page = by (nat_eq (stripe_of page) (stripe_of at)) refl
    where
      by : (t : Bool) → nat_eq (stripe_of page) (stripe_of at) ≡ t →
          kept_on page (set lists (stripe_of at) (with_desk (desk_of at user text) part))
          ≡ cond (nat_eq at page) (Some (desk_of at user text)) (kept_on page lists)
      by true same =
          kept_beside lists at _ page within same
          ∙ (in_opened (desk_of at user text) part page free
          ∙ ap (cond (nat_eq at page) (Some (desk_of at user text))) (there page same))
      by false other = rw (apart at page other) (kept_apart lists at _ page within other)

  -- the desk that is kept on a page after a text is saved
  pub kept_saved : (user : ℕ) (text : ContentValue) (page : ℕ) →
      kept_on page (set lists (stripe_of at) (with_text at user text part))
      ≡ option_map (rewritten at user text) (kept_on page lists)
  kept_saved user text page = by (nat_eq (stripe_of page) (stripe_of at)) refl
    where
      by : (t : Bool) → nat_eq (stripe_of page) (stripe_of at) ≡ t →
          kept_on page (set lists (stripe_of at) (with_text at user text part))
          ≡ option_map (rewritten at user text) (kept_on page lists)
      by true same =
          kept_beside lists at _ page within same
          ∙ (in_saved at user text part page
          ∙ ap (option_map (rewritten at user text)) (there page same))
      by false other =
          kept_apart lists at _ page within other
          ∙ rewritten_apart at user text (list_of (stripe_of page) lists) page (apart at page other)

  -- the desk that is kept on a page after one is shut
  pub kept_shut : (page : ℕ) →
      kept_on page (set lists (stripe_of at) (without at part))
      ≡ cond (nat_eq at page) None (kept_on page lists)
  kept_shut page = by (nat_eq (stripe_of page) (stripe_of at)) refl
    where
      by : (t : Bool) → nat_eq (stripe_of page) (stripe_of at) ≡ t →
          kept_on page (set lists (stripe_of at) (without at part))
          ≡ cond (nat_eq at page) None (kept_on page lists)
      by true same =
          kept_beside lists at _ page within same
          ∙ (in_shut at part page ∙ ap (cond (nat_eq at page) None) (there page same))
      by false other = rw (apart at page other) (kept_apart lists at _ page within other)

-- no desk is kept on any page of empty lists
pub none_kept : (lists : List (List DeskRow)) → ((number : ℕ) → list_of number lists ≡ []) →
    (page : ℕ) → kept_on page lists ≡ None
none_kept lists empty page = ap (desk_in page) (empty (stripe_of page))
