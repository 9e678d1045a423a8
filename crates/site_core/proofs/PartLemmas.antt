-- Sixteen parts of the open desks: what a change of one of them makes of the lists that they are seen
-- as, and that each desk still stands in the part of its page's stripe.
use Rattle.std.proofs.Common.{◌≡◌, ◌<◌, ℕ, zero, suc, Bool, true, false, cond, not, nat_eq, nat_lt, List, [], ◌∷◌, length, map, get_or, set, refl, sym, ap, subst, ◌∙◌, arith}
use Rattle.std.specs.List.{AllByRecursion}
use Rattle.std.proofs.lemmas.List.{map-set, get_or-set_same, get_or-set_other}
use Rattle.std.proofs.lemmas.List as lists
use Rattle.std.proofs.lemmas.Bool.Decides.{nat_tests}
use Rattle.site_types.specs.Content.{ContentValue}
use Rattle.site_types.specs.declared.world_rows.DeskRow.{DeskRow}
use Rattle.site_model.specs.Parts.{stripe_of}
use Rattle.desks.specs.Desks.{is_own, with_desk, with_text, without}
use Rattle.site_core.specs.Texts.{list_of, room_for, InStripes}

-- each desk of a list is in this stripe
abbrev pub AllIn : ℕ → List DeskRow → Type 0
AllIn number desks = AllByRecursion (λ (desk : DeskRow). stripe_of desk.page ≡ number) desks

-- there are sixteen stripes
pub stripe_below : (page : ℕ) → stripe_of page < 16
stripe_below page = omega arith

-- a desk more, of this stripe
pub in_with_desk : (number : ℕ) (new : DeskRow) (desks : List DeskRow) →
    stripe_of new.page ≡ number → AllIn number desks → AllIn number (with_desk new desks)
in_with_desk number new [] here all = (here, tt)
in_with_desk number new (desk ∷ desks) here all =
    by (nat_lt new.page desk.page) (in_with_desk number new desks here all.1)
  where
    by : (t : Bool) → AllIn number (with_desk new desks) →
        AllIn number (cond t (new ∷ desk ∷ desks) (desk ∷ with_desk new desks))
    by true more = (here, all)
    by false more = (all.0, more)

-- another text
pub in_with_text : (number page user : ℕ) (text : ContentValue) (desks : List DeskRow) →
    AllIn number desks → AllIn number (with_text page user text desks)
in_with_text number page user text [] all = tt
in_with_text number page user text (desk ∷ desks) all = (
  by (is_own page user desk),
  in_with_text number page user text desks all.1,
)
  where
    by : (t : Bool) → stripe_of (cond t (record desk { content = text }) desk).page ≡ number
    by true = all.0
    by false = all.0

-- fewer desks
pub in_without : (number page : ℕ) (desks : List DeskRow) → AllIn number desks →
    AllIn number (without page desks)
in_without number page [] all = tt
in_without number page (desk ∷ desks) all =
    by (nat_eq desk.page page) (in_without number page desks all.1)
  where
    by : (t : Bool) → AllIn number (without page desks) →
        AllIn number (cond (not t) (desk ∷ without page desks) (without page desks))
    by true more = more
    by false more = (all.0, more)

-- one list is replaced by one of the same stripe
pub in_stripes_set : (lists : List (List DeskRow)) (at : ℕ) (list : List DeskRow) →
    InStripes lists → at < length lists → AllIn at list → InStripes (set lists at list)
in_stripes_set lists at list are within all number = by (nat_eq number at) refl
  where
    by : (t : Bool) → nat_eq number at ≡ t → AllIn number (list_of number (set lists at list))
    by true same =
        let is : number ≡ at = grind (arith, nat_tests) in
        subst (λ n. AllIn n (list_of n (set lists at list))) (sym is)
        (subst (AllIn at) (sym (get_or-set_same lists at list [] within)) all)
    by false other =
        subst (AllIn number)
        (sym (get_or-set_other lists at number list [] (λ same. absurd (grind (arith, nat_tests)))))
        (are number)

module _ {X : Type 0} (desks : X → List DeskRow) (f : List DeskRow → List DeskRow)
    (parts : List X) (seen : List (List DeskRow)) (page : ℕ) (at : ℕ) (before new d : X)
    (stripe : at ≡ stripe_of page) (count : length parts ≡ 16) (are : seen ≡ map desks parts)
    (was : before ≡ get_or parts at d) (made : desks new ≡ f (desks before)) where
  -- the place is one of the parts
  within : at < length parts
  within =
      let below = stripe_below page in
      omega (arith, stripe, count, below)

  -- what the part was
  part_was : list_of at seen ≡ desks before
  part_was =
      ap (list_of at) are
      ∙ (lists.get_or-map desks parts at d [] within ∙ ap desks (sym was))

  -- the lists after a change of one part
  pub lists_set : map desks (set parts at new) ≡ set seen (stripe_of page) (f (list_of (stripe_of page) seen))
  lists_set =
      subst (λ n. map desks (set parts at new) ≡ set seen n (f (list_of n seen))) stripe
      (map-set desks parts at new
      ∙ (ap (set (map desks parts) at) (made ∙ ap f (sym part_was))
      ∙ ap (λ list. set list at (f (list_of at seen))) (sym are)))

  -- each desk still stands in the part of its page's stripe
  pub stripes_set : InStripes (map desks parts) →
      ((list : List DeskRow) → AllIn at list → AllIn at (f list)) →
      InStripes (map desks (set parts at new))
  stripes_set in_stripes keeps =
      subst InStripes (sym (map-set desks parts at new))
      (in_stripes_set (map desks parts) at (desks new) in_stripes
      (let same = lists.length-map parts desks in omega (arith, within, same))
      (subst (AllIn at) (sym (made ∙ ap f (sym part_was)))
      (keeps (list_of at seen)
      (subst (λ list. AllIn at (list_of at list)) (sym are) (in_stripes at)))))

-- empty lists stand in stripes
pub empty_lists : (lists : List (List DeskRow)) (number : ℕ) →
    AllByRecursion (λ (list : List DeskRow). list ≡ []) lists → list_of number lists ≡ []
empty_lists [] number all = refl
empty_lists (list ∷ lists) zero all = all.0
empty_lists (list ∷ lists) (suc number) all = empty_lists lists number all.1

-- lists without desks stand in stripes
pub empty_stripes : (lists : List (List DeskRow)) →
    AllByRecursion (λ (list : List DeskRow). list ≡ []) lists → InStripes lists
empty_stripes lists all number = subst (AllIn number) (sym (empty_lists lists number all)) tt

module _ {X : Type 0} where
  -- lists that are empty one by one
  pub all_empty : (desks : X → List DeskRow) (parts : List X) →
      AllByRecursion (λ (part : X). desks part ≡ []) parts →
      AllByRecursion (λ (list : List DeskRow). list ≡ []) (map desks parts)
  all_empty desks [] all = tt
  all_empty desks (part ∷ parts) all = (all.0, all_empty desks parts all.1)

  -- there is a list for each stripe
  pub seen_within : (desks : X → List DeskRow) (parts : List X) (seen : List (List DeskRow))
      (page : ℕ) → length parts ≡ 16 → seen ≡ map desks parts → stripe_of page < length seen
  seen_within desks parts seen page count are =
      let below = stripe_below page in
      let same = ap length are in
      let mapped = lists.length-map parts desks in
      omega (arith, below, same, mapped, count)

  -- the room of a part that is made
  pub room_set : (spare : X → ℕ) (parts : List X) (page at : ℕ) (new : X) → at ≡ stripe_of page →
      length parts ≡ 16 → room_for page (map spare (set parts at new)) ≡ spare new
  room_set spare parts page at new stripe count =
      let below = stripe_below page in
      let within : stripe_of page < length (map spare parts) =
      let mapped = lists.length-map parts spare in omega (arith, below, mapped, count) in
      ap (λ n. room_for page (map spare (set parts n new))) stripe
      ∙ (ap (room_for page) (map-set spare parts (stripe_of page) new)
      ∙ get_or-set_same (map spare parts) (stripe_of page) (spare new) 0 within)

  -- the list of a page's part
  pub list_seen : (desks : X → List DeskRow) (parts : List X) (seen : List (List DeskRow))
      (page at : ℕ) (before d : X) → at ≡ stripe_of page → length parts ≡ 16 →
      seen ≡ map desks parts → before ≡ get_or parts at d →
      list_of (stripe_of page) seen ≡ desks before
  list_seen desks parts seen page at before d stripe count are was =
      let below = stripe_below page in
      let within : at < length parts = omega (arith, stripe, count, below) in
      ap (λ n. list_of n seen) (sym stripe)
      ∙ (ap (list_of at) are
      ∙ (lists.get_or-map desks parts at d [] within ∙ ap desks (sym was)))
