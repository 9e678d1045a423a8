-- Desks whose pages rise: what is found on a page, and what is not.
use Rattle.std.proofs.Common.{◌≡◌, ℕ, ◌<◌, ◌≤◌, Bool, true, false, cond, not, ◌&&◌, nat_eq, List, [], ◌∷◌, Option, Some, None, find, filter, refl, ap, sym, ◌∙◌, arith}
use Rattle.std.proofs.lemmas.Bool.Decides.{nat_tests}
use Rattle.std.specs.List.{AllByRecursion}
use Rattle.std.specs.Option.{option_map, option_to_list, is_some}
use Rattle.site_types.specs.Content.{ContentValue}
use Rattle.site_types.specs.declared.world_rows.DeskRow.{DeskRow}
use Rattle.desks.specs.Desks.{PagesRise, is_own, desk_in, user_in, text_in, with_text, without}
use Rattle.desks.specs.Laws.{own_text}

-- none of these desks is on the page
abbrev pub NoneOn : ℕ → List DeskRow → Type 0
NoneOn page desks = AllByRecursion (λ (desk : DeskRow). nat_eq desk.page page ≡ false) desks

-- desks on greater pages are on no page up to theirs
pub none_above : (low page : ℕ) (desks : List DeskRow) → page ≤ low →
    AllByRecursion (λ (later : DeskRow). low < later.page) desks → NoneOn page desks
none_above low page [] le above = tt
none_above low page (desk ∷ desks) le above =
    (differ low page desk.page le above.0, none_above low page desks le above.1)
  where
    differ : (low page other : ℕ) → page ≤ low → low < other → nat_eq other page ≡ false
    differ low page other le lt = grind (arith, nat_tests)

-- where the first desk is on the page or a greater one, none after it is on the page
pub none_after : (page : ℕ) (desk : DeskRow) (desks : List DeskRow) → page ≤ desk.page →
    PagesRise (desk ∷ desks) → NoneOn page desks
none_after page desk desks le rise = none_above desk.page page desks le rise.0

-- then none is found
pub none_found : (page : ℕ) (desks : List DeskRow) → NoneOn page desks → desk_in page desks ≡ None
none_found page [] none = refl
none_found page (desk ∷ desks) none = rw (none.0) (none_found page desks none.1)

-- and taking out those on the page leaves all
pub none_goes : (page : ℕ) (desks : List DeskRow) → NoneOn page desks → without page desks ≡ desks
none_goes page [] none = refl
none_goes page (desk ∷ desks) none =
    rw (none.0) (ap (λ rest. desk ∷ rest) (none_goes page desks none.1))

-- none of them is the user's on the page
pub none_own : (page user : ℕ) (desks : List DeskRow) → NoneOn page desks →
    AllByRecursion (λ (desk : DeskRow). is_own page user desk ≡ false) desks
none_own page user [] none = tt
none_own page user (desk ∷ desks) none = (rw (none.0) refl, none_own page user desks none.1)

-- so that none is found as the user's
pub none_own_found : (page user : ℕ) (desks : List DeskRow) →
    AllByRecursion (λ (desk : DeskRow). is_own page user desk ≡ false) desks →
    text_in page user desks ≡ None
none_own_found page user [] none = refl
none_own_found page user (desk ∷ desks) none = rw (none.0) (none_own_found page user desks none.1)

-- none goes as the user's
none_own_goes : (page user : ℕ) (desks : List DeskRow) →
    AllByRecursion (λ (desk : DeskRow). is_own page user desk ≡ false) desks →
    filter (λ desk. not (is_own page user desk)) desks ≡ desks
none_own_goes page user [] none = refl
none_own_goes page user (desk ∷ desks) none =
    rw (none.0) (ap (λ rest. desk ∷ rest) (none_own_goes page user desks none.1))

-- and none is rewritten
none_own_rewritten : (page user : ℕ) (text : ContentValue) (desks : List DeskRow) →
    AllByRecursion (λ (desk : DeskRow). is_own page user desk ≡ false) desks →
    with_text page user text desks ≡ desks
none_own_rewritten page user text [] none = refl
none_own_rewritten page user text (desk ∷ desks) none =
    rw (none.0) (ap (λ rest. desk ∷ rest) (none_own_rewritten page user text desks none.1))

-- desks after one on the page or a greater one keep their texts
pub texts_stay_after : (page user : ℕ) (text : ContentValue) (desks : List DeskRow) →
    NoneOn page desks → with_text page user text desks ≡ desks
texts_stay_after page user text desks none =
    none_own_rewritten page user text desks (none_own page user desks none)

-- where the user has no desk on the page, no text changes
pub texts_stay : (page user : ℕ) (text : ContentValue) (desks : List DeskRow) →
    text_in page user desks ≡ None → with_text page user text desks ≡ desks
texts_stay page user text [] none = refl
texts_stay page user text (desk ∷ desks) none =
    by (is_own page user desk) none (texts_stay page user text desks)
  where
    by : (t : Bool) →
        option_map (λ (desk : DeskRow). desk.content) (cond t (Some desk) (find (is_own page user) desks))
        ≡ None →
        (text_in page user desks ≡ None → with_text page user text desks ≡ desks) →
        cond t (record desk { content = text }) desk ∷ with_text page user text desks ≡ desk ∷ desks
    by true none more = cc
    by false none more = ap (λ rest. desk ∷ rest) (more none)

-- where none is found on the page, none is there
pub none_there : (page : ℕ) (desks : List DeskRow) → desk_in page desks ≡ None → NoneOn page desks
none_there page [] none = tt
none_there page (desk ∷ desks) none =
    by (nat_eq desk.page page) refl none (none_there page desks)
  where
    by : (t : Bool) → nat_eq desk.page page ≡ t → cond t (Some desk) (desk_in page desks) ≡ None →
        (desk_in page desks ≡ None → NoneOn page desks) → NoneOn page (desk ∷ desks)
    by true e none more = cc
    by false e none more = (e, more none)

-- the desk that is found on a page is all that stand there
pub one_desk : (page : ℕ) (desks : List DeskRow) → PagesRise desks →
    filter (λ desk. nat_eq desk.page page) desks ≡ option_to_list (desk_in page desks)
one_desk page [] rise = refl
one_desk page (desk ∷ desks) rise =
    by (nat_eq desk.page page) refl (one_desk page desks rise.1)
  where
    none_pass : (desks : List DeskRow) → NoneOn page desks →
        filter (λ (desk : DeskRow). nat_eq desk.page page) desks ≡ []
    none_pass [] none = refl
    none_pass (desk ∷ desks) none = rw (none.0) (none_pass desks none.1)

    by : (t : Bool) → nat_eq desk.page page ≡ t →
        filter (λ desk. nat_eq desk.page page) desks ≡ option_to_list (desk_in page desks) →
        cond t (desk ∷ filter (λ desk. nat_eq desk.page page) desks)
        (filter (λ desk. nat_eq desk.page page) desks)
        ≡ option_to_list (cond t (Some desk) (desk_in page desks))
    by true e more =
        let le : page ≤ desk.page = grind (arith, nat_tests) in
        ap (λ rest. desk ∷ rest) (none_pass desks (none_after page desk desks le rise))
    by false e more = more

-- a user's desk on a page is the one on the page
pub own_is : (page user : ℕ) (desks : List DeskRow) → PagesRise desks →
    text_in page user desks ≡ own_text user (desk_in page desks)
own_is page user [] rise = refl
own_is page user (desk ∷ desks) rise =
    by (nat_eq desk.page page) refl (nat_eq desk.user user) refl (own_is page user desks rise.1)
  where
    by : (t : Bool) → nat_eq desk.page page ≡ t → (u : Bool) → nat_eq desk.user user ≡ u →
        text_in page user desks ≡ own_text user (desk_in page desks) →
        option_map (λ (desk : DeskRow). desk.content)
        (cond (t && u) (Some desk) (find (is_own page user) desks))
        ≡ own_text user (cond t (Some desk) (desk_in page desks))
    by true e true f more = rw f refl
    by true e false f more =
        let le : page ≤ desk.page = grind (arith, nat_tests) in
        rw f (none_own_found page user desks (none_own page user desks (none_after page desk desks le rise)))
    by false e u f more = more

-- the desks without a user's on a page are those on other pages, if the one there is the user's
pub own_goes : (page user : ℕ) (desks : List DeskRow) → PagesRise desks →
    user_in page desks ≡ Some user →
    filter (λ desk. not (is_own page user desk)) desks ≡ without page desks
own_goes page user [] rise is = refl
own_goes page user (desk ∷ desks) rise is =
    by (nat_eq desk.page page) refl (nat_eq desk.user user) refl is (own_goes page user desks rise.1)
  where
    by : (t : Bool) → nat_eq desk.page page ≡ t → (u : Bool) → nat_eq desk.user user ≡ u →
        option_map (λ (desk : DeskRow). desk.user) (cond t (Some desk) (desk_in page desks)) ≡ Some user →
        (user_in page desks ≡ Some user →
        filter (λ desk. not (is_own page user desk)) desks ≡ without page desks) →
        cond (not (t && u)) (desk ∷ filter (λ desk. not (is_own page user desk)) desks)
        (filter (λ desk. not (is_own page user desk)) desks)
        ≡ cond (not t) (desk ∷ without page desks) (without page desks)
    by true e true f is more =
        let le : page ≤ desk.page = grind (arith, nat_tests) in
        let none = none_after page desk desks le rise in
        none_own_goes page user desks (none_own page user desks none) ∙ sym (none_goes page desks none)
    by true e false f is more =
        let same : desk.user ≡ user = cc in absurd (grind (arith, nat_tests))
    by false e u f is more = ap (λ rest. desk ∷ rest) (more is)

-- a user with a desk on a page has the one that is found there
pub own_there : (page user : ℕ) (desks : List DeskRow) → PagesRise desks →
    is_some (text_in page user desks) ≡ true → is_some (desk_in page desks) ≡ true
own_there page user desks rise there =
    by (desk_in page desks) (ap is_some (sym (own_is page user desks rise)) ∙ there)
  where
    by : (found : Option DeskRow) → is_some (own_text user found) ≡ true → is_some found ≡ true
    by None there = cc
    by (Some desk) there = refl

-- whether the user has a desk on the page, where this one stands there
pub own_told : (page user : ℕ) (desks : List DeskRow) (desk : DeskRow) (t : Bool) → PagesRise desks →
    Some desk ≡ desk_in page desks → t ≡ nat_eq desk.user user → t ≡ is_some (text_in page user desks)
own_told page user desks desk t rise there is =
    is ∙ by (nat_eq desk.user user) ∙ sym (ap is_some (own_is page user desks rise
    ∙ ap (own_text user) (sym there)))
  where
    by : (t : Bool) → t ≡ is_some (cond t (Some desk.content) None)
    by true = refl
    by false = refl

-- where the page has no desk, the user has none there
pub none_told : (page user : ℕ) (desks : List DeskRow) → PagesRise desks →
    None ≡ desk_in page desks → false ≡ is_some (text_in page user desks)
none_told page user desks rise none =
    sym (ap is_some (own_is page user desks rise ∙ ap (own_text user) (sym none)))
