-- The pages of the desks still rise after each change.
use Rattle.std.proofs.Common.{◌≡◌, ℕ, ◌<◌, ◌≤◌, Bool, true, false, cond, nat_eq, nat_lt, List, [], ◌∷◌, Some, None, filter, refl, arith}
use Rattle.std.proofs.lemmas.Bool.Decides.{nat_tests}
use Rattle.std.specs.List.{AllByRecursion}
use Rattle.site_types.specs.Content.{ContentValue}
use Rattle.site_types.specs.declared.world_rows.DeskRow.{DeskRow}
use Rattle.desks.specs.Desks.{PagesRise, is_own, desk_in, with_desk, with_text}

-- what is above a number is above all lower ones
all_higher : (low high : ℕ) (desks : List DeskRow) → low ≤ high →
    AllByRecursion (λ (later : DeskRow). high < later.page) desks →
    AllByRecursion (λ (later : DeskRow). low < later.page) desks
all_higher low high [] le above = tt
all_higher low high (desk ∷ desks) le above =
    let first : high < desk.page = above.0 in
    (omega arith, all_higher low high desks le above.1)

-- those that stay of what is above a number are above it
some_above : (low : ℕ) (stays : DeskRow → Bool) (desks : List DeskRow) →
    AllByRecursion (λ (later : DeskRow). low < later.page) desks →
    AllByRecursion (λ (later : DeskRow). low < later.page) (filter stays desks)
some_above low stays [] above = tt
some_above low stays (desk ∷ desks) above =
    by (stays desk) (some_above low stays desks above.1)
  where
    by : (t : Bool) → AllByRecursion (λ (later : DeskRow). low < later.page) (filter stays desks) →
        AllByRecursion (λ (later : DeskRow). low < later.page)
        (cond t (desk ∷ filter stays desks) (filter stays desks))
    by true more = (above.0, more)
    by false more = more

-- the pages rise where some desks are taken out
pub some_rise : (stays : DeskRow → Bool) (desks : List DeskRow) → PagesRise desks →
    PagesRise (filter stays desks)
some_rise stays [] rise = tt
some_rise stays (desk ∷ desks) rise = by (stays desk) (some_rise stays desks rise.1)
  where
    by : (t : Bool) → PagesRise (filter stays desks) →
        PagesRise (cond t (desk ∷ filter stays desks) (filter stays desks))
    by true more = (some_above desk.page stays desks rise.0, more)
    by false more = more

-- a desk with another text is on the same page
same_page : (t : Bool) (text : ContentValue) (desk : DeskRow) (low : ℕ) → low < desk.page →
    low < (cond t (record desk { content = text }) desk).page
same_page true text desk low lt = lt
same_page false text desk low lt = lt

-- desks with other texts are above what they were above
texts_above : (page user low : ℕ) (text : ContentValue) (desks : List DeskRow) →
    AllByRecursion (λ (later : DeskRow). low < later.page) desks →
    AllByRecursion (λ (later : DeskRow). low < later.page) (with_text page user text desks)
texts_above page user low text [] above = tt
texts_above page user low text (desk ∷ desks) above = (
  same_page (is_own page user desk) text desk low above.0,
  texts_above page user low text desks above.1,
)

-- the pages rise where a text is saved
pub texts_rise : (page user : ℕ) (text : ContentValue) (desks : List DeskRow) → PagesRise desks →
    PagesRise (with_text page user text desks)
texts_rise page user text [] rise = tt
texts_rise page user text (desk ∷ desks) rise = (
  by (is_own page user desk) (texts_above page user desk.page text desks rise.0),
  texts_rise page user text desks rise.1,
)
  where
    by : (t : Bool) →
        AllByRecursion (λ (later : DeskRow). desk.page < later.page) (with_text page user text desks) →
        AllByRecursion (λ (later : DeskRow). (cond t (record desk { content = text }) desk).page
        < later.page) (with_text page user text desks)
    by true above = above
    by false above = above

-- with one more above a number all are above it
one_more_above : (low : ℕ) (new : DeskRow) (desks : List DeskRow) → low < new.page →
    AllByRecursion (λ (later : DeskRow). low < later.page) desks →
    AllByRecursion (λ (later : DeskRow). low < later.page) (with_desk new desks)
one_more_above low new [] lt above = (lt, tt)
one_more_above low new (desk ∷ desks) lt above =
    by (nat_lt new.page desk.page) (one_more_above low new desks lt above.1)
  where
    by : (t : Bool) → AllByRecursion (λ (later : DeskRow). low < later.page) (with_desk new desks) →
        AllByRecursion (λ (later : DeskRow). low < later.page)
        (cond t (new ∷ desk ∷ desks) (desk ∷ with_desk new desks))
    by true more = (lt, above)
    by false more = (above.0, more)

-- the pages rise where a desk is opened on a page that has none
pub one_more_rises : (new : DeskRow) (desks : List DeskRow) → desk_in new.page desks ≡ None →
    PagesRise desks → PagesRise (with_desk new desks)
one_more_rises new [] free rise = (tt, tt)
one_more_rises new (desk ∷ desks) free rise =
    by (nat_lt new.page desk.page) refl (nat_eq desk.page new.page) refl free
    (λ free. one_more_rises new desks free rise.1)
  where
    by : (t : Bool) → nat_lt new.page desk.page ≡ t → (u : Bool) → nat_eq desk.page new.page ≡ u →
        cond u (Some desk) (desk_in new.page desks) ≡ None →
        (desk_in new.page desks ≡ None → PagesRise (with_desk new desks)) →
        PagesRise (cond t (new ∷ desk ∷ desks) (desk ∷ with_desk new desks))
    by t e true f free more = cc
    by true e false f free more =
        let lt : new.page < desk.page = grind (arith, nat_tests) in
        let le : new.page ≤ desk.page = omega arith in
        ((lt, all_higher new.page desk.page desks le rise.0), rise)
    by false e false f free more =
        let lt : desk.page < new.page = grind (arith, nat_tests) in
        (one_more_above desk.page new desks lt rise.0, more free)
