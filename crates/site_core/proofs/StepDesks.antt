-- The desks of a world after a step, page by page: the one that is opened comes, and those on the pages
-- of the desks that end go.
use Rattle.std.proofs.Common.{◌≡◌, ℕ, Bool, true, false, cond, not, nat_eq, ◌&&◌, ◌||◌, List, [], ◌∷◌, map, filter, Option, Some, None, refl, sym, ap, subst, ◌∙◌, arith}
use Rattle.std.specs.Prelude.{IfSome}
use Rattle.std.specs.List.{AllByRecursion, list_any}
use Rattle.std.specs.Option.{option_map}
use Rattle.std.proofs.lemmas.Bool.Decides.{nat_tests}
use Rattle.page_tree.specs.Rows.{comes_before}
use Rattle.site_types.specs.Content.{ContentValue}
use Rattle.site_types.specs.declared.world_rows.DeskRow.{DeskRow}
use Rattle.site_model.specs.World.{DeskPair, Desk, Effect, pair_of}
use Rattle.site_model.specs.Users.{put_in}
use Rattle.site_model.specs.Desks.{desk_key, is_same_desk, is_ended, with_desk, desks_after}
use Rattle.site_model.specs.Step.{saved}
use Rattle.site_model.specs.Sound.{KeysRise}
use Rattle.desks.specs.Desks.{rewritten}
use Rattle.site_core.specs.Texts.{row_of, desk_on, opened_on, desk_left}
use Rattle.page_tree.proofs.ListLemmas.{all_weaker}

-- whether one of these pages is this one
abbrev pub is_among : List ℕ → ℕ → Bool
is_among pages page = list_any (λ id. nat_eq id page) pages

-- the pages of desks
abbrev pub pages_of : List DeskPair → List ℕ
pages_of pairs = map (λ (pair : DeskPair). pair.page) pairs

-- a number is itself
eq_self : (n : ℕ) → nat_eq n n ≡ true
eq_self n = grind (arith, nat_tests)

-- the test of two numbers is one from both sides
turned : (a b : ℕ) → nat_eq a b ≡ nat_eq b a
turned a b = by (nat_eq a b) (nat_eq b a) refl refl
  where
    by : (s t : Bool) → nat_eq a b ≡ s → nat_eq b a ≡ t → s ≡ t
    by true true x y = refl
    by false false x y = refl
    by true false x y = absurd (grind (arith, nat_tests))
    by false true x y = absurd (grind (arith, nat_tests))

-- a desk is among those that end exactly by its page, where no other of them is on its page
ended_by_page : (pair : DeskPair) (ended : List DeskPair) →
    AllByRecursion (λ (one : DeskPair). one.page ≡ pair.page → one ≡ pair) ended →
    is_ended ended pair ≡ is_among (pages_of ended) pair.page
ended_by_page pair [] all = refl
ended_by_page pair (one ∷ ended) all =
    by (nat_eq one.page pair.page) refl (ended_by_page pair ended all.1)
  where
    by : (t : Bool) → nat_eq one.page pair.page ≡ t →
        is_ended ended pair ≡ is_among (pages_of ended) pair.page →
        (is_same_desk pair one || is_ended ended pair)
        ≡ (t || is_among (pages_of ended) pair.page)
    by true is more =
        let same : one ≡ pair = all.0 (grind (arith, nat_tests)) in
        let own : is_same_desk pair one ≡ true =
        ap (is_same_desk pair) same ∙ rw (eq_self pair.page, eq_self pair.user) refl in
        rw own refl
    by false is more =
        let other : nat_eq pair.page one.page ≡ false = turned pair.page one.page ∙ is in
        rw other more

-- the pages of two desks in order differ
in_order : (x y : DeskPair) → comes_before (desk_key x) (desk_key y) ≡ true → y.page ≡ x.page → ⊥
in_order x y before same =
    let here : comes_before (desk_key x) (desk_key y) ≡ false =
    rw same (rw (eq_self x.page) refl) in
    apart (sym here ∙ before)
  where
    apart : false ≡ true → ⊥
    apart e = cc

-- what holds of each holds of those that a test keeps
kept_all : {X : Type 0} (P : X → Type 0) (test : X → Bool) (xs : List X) → AllByRecursion P xs →
    AllByRecursion P (filter test xs)
kept_all P test [] all = tt
kept_all P test (x ∷ xs) all = by (test x) (kept_all P test xs all.1)
  where
    by : (t : Bool) → AllByRecursion P (filter test xs) →
        AllByRecursion P (cond t (x ∷ filter test xs) (filter test xs))
    by true more = (all.0, more)
    by false more = more

-- the desks behind one are on other pages
pub apart_in : (x : DeskPair) (pairs : List DeskPair) →
    AllByRecursion (λ (later : DeskPair). comes_before (desk_key x) (desk_key later) ≡ true) pairs →
    AllByRecursion (λ (later : DeskPair). later.page ≡ x.page → ⊥) pairs
apart_in x pairs before =
    all_weaker (λ (later : DeskPair). comes_before (desk_key x) (desk_key later) ≡ true)
    (λ (later : DeskPair). later.page ≡ x.page → ⊥) pairs
    (λ later first same. in_order x later first same) before

-- where the pages rise, a page has one desk
one_a_page : (pairs : List DeskPair) → KeysRise desk_key pairs →
    AllByRecursion (λ (pair : DeskPair).
    AllByRecursion (λ (one : DeskPair). one.page ≡ pair.page → one ≡ pair) pairs) pairs
one_a_page [] rise = tt
one_a_page (x ∷ pairs) rise = (
  (
    (λ same. refl),
    all_weaker (λ (later : DeskPair). comes_before (desk_key x) (desk_key later) ≡ true)
        (λ (later : DeskPair). later.page ≡ x.page → later ≡ x) pairs
        (λ later before same. absurd (in_order x later before same)) rise.0,
  ),
  both pairs rise.0 (one_a_page pairs rise.1),
)
  where
    both : (rest : List DeskPair) →
        AllByRecursion (λ (later : DeskPair). comes_before (desk_key x) (desk_key later) ≡ true) rest →
        AllByRecursion (λ (pair : DeskPair).
        AllByRecursion (λ (one : DeskPair). one.page ≡ pair.page → one ≡ pair) pairs) rest →
        AllByRecursion (λ (pair : DeskPair).
        AllByRecursion (λ (one : DeskPair). one.page ≡ pair.page → one ≡ pair) (x ∷ pairs)) rest
    both [] before more = tt
    both (pair ∷ rest) before more = (
      ((λ same. absurd (in_order x pair before.0 (sym same))), more.0),
      both rest before.1 more.1,
    )

-- no desk is on a page on which none is found
none_there : (page : ℕ) (pairs : List DeskPair) →
    list_any (λ (pair : DeskPair). nat_eq pair.page page) pairs ≡ false →
    AllByRecursion (λ (pair : DeskPair). pair.page ≡ page → ⊥) pairs
none_there page [] none = tt
none_there page (pair ∷ pairs) none =
    by (nat_eq pair.page page) refl none (λ more. none_there page pairs more)
  where
    by : (t : Bool) → nat_eq pair.page page ≡ t →
        (t || list_any (λ (pair : DeskPair). nat_eq pair.page page) pairs) ≡ false →
        (list_any (λ (pair : DeskPair). nat_eq pair.page page) pairs ≡ false →
        AllByRecursion (λ (pair : DeskPair). pair.page ≡ page → ⊥) pairs) →
        AllByRecursion (λ (pair : DeskPair). pair.page ≡ page → ⊥) (pair ∷ pairs)
    by true is none more = absurd (cc)
    by false is none more = ((λ same. absurd (grind (arith, nat_tests))), more none)

-- nor among the desks with their texts
pub none_on : (page : ℕ) (desks : List Desk) →
    list_any (λ (pair : DeskPair). nat_eq pair.page page) (map pair_of desks) ≡ false →
    desk_on page desks ≡ None
none_on page [] none = refl
none_on page (desk ∷ desks) none =
    by (nat_eq desk.page page) none (λ more. none_on page desks more)
  where
    by : (t : Bool) →
        (t || list_any (λ (pair : DeskPair). nat_eq pair.page page) (map pair_of desks)) ≡ false →
        (list_any (λ (pair : DeskPair). nat_eq pair.page page) (map pair_of desks) ≡ false →
        desk_on page desks ≡ None) →
        cond t (Some desk) (desk_on page desks) ≡ None
    by true none more = absurd (cc)
    by false none more = more none

-- the desk on a page after one more is opened
abbrev opened_desk : Option Desk → ℕ → Option Desk → Option Desk
opened_desk None page there = there
opened_desk (Some desk) page there = cond (nat_eq desk.page page) (Some desk) there

-- a desk more, in its place
put_on : (new : Desk) (desks : List Desk) (page : ℕ) → desk_on new.page desks ≡ None →
    desk_on page (put_in (λ (one : Desk). desk_key (pair_of one)) new desks)
    ≡ cond (nat_eq new.page page) (Some new) (desk_on page desks)
put_on new [] page free = refl
put_on new (desk ∷ desks) page free =
    by (comes_before (new.page ∷ []) (desk.page ∷ [])) (nat_eq desk.page new.page) refl free
    (λ none. put_on new desks page none)
  where
    differ : nat_eq desk.page new.page ≡ false → nat_eq new.page page ≡ true →
        nat_eq desk.page page ≡ false
    differ other same = grind (arith, nat_tests)

    inner : nat_eq desk.page new.page ≡ false → (t : Bool) → nat_eq new.page page ≡ t →
        cond (nat_eq desk.page page) (Some desk) (cond t (Some new) (desk_on page desks))
        ≡ cond t (Some new) (cond (nat_eq desk.page page) (Some desk) (desk_on page desks))
    inner other true same = rw (differ other same) refl
    inner other false same = refl

    by : (before same : Bool) → nat_eq desk.page new.page ≡ same →
        cond same (Some desk) (desk_on new.page desks) ≡ None →
        (desk_on new.page desks ≡ None →
        desk_on page (put_in (λ (one : Desk). desk_key (pair_of one)) new desks)
        ≡ cond (nat_eq new.page page) (Some new) (desk_on page desks)) →
        desk_on page (cond before (new ∷ desk ∷ desks)
        (desk ∷ put_in (λ (one : Desk). desk_key (pair_of one)) new desks))
        ≡ cond (nat_eq new.page page) (Some new) (desk_on page (desk ∷ desks))
    by before true same none more = absurd (cc)
    by true false other none more = refl
    by false false other none more = rw (more none) (inner other (nat_eq new.page page) refl)

-- what holds of each and of one more
put_all : (P : Desk → Type 0) (new : Desk) (desks : List Desk) → P new → AllByRecursion P desks →
    AllByRecursion P (put_in (λ (one : Desk). desk_key (pair_of one)) new desks)
put_all P new [] here all = (here, tt)
put_all P new (desk ∷ desks) here all =
    by (comes_before (new.page ∷ []) (desk.page ∷ [])) (put_all P new desks here all.1)
  where
    by : (t : Bool) →
        AllByRecursion P (put_in (λ (one : Desk). desk_key (pair_of one)) new desks) →
        AllByRecursion P (cond t (new ∷ desk ∷ desks)
        (desk ∷ put_in (λ (one : Desk). desk_key (pair_of one)) new desks))
    by true more = (here, all)
    by false more = (all.0, more)

-- what holds of each pair holds of each desk
unmapped : (P : DeskPair → Type 0) (desks : List Desk) → AllByRecursion P (map pair_of desks) →
    AllByRecursion (λ (desk : Desk). P (pair_of desk)) desks
unmapped P [] all = tt
unmapped P (desk ∷ desks) all = (all.0, unmapped P desks all.1)

-- a desk ends exactly by its page
abbrev EndsByPage : List DeskPair → DeskPair → Type 0
EndsByPage ended pair = is_ended ended pair ≡ is_among (pages_of ended) pair.page

-- the desk on a page, where those that end are taken out
left_on : (ended : List DeskPair) (desks : List Desk) (page : ℕ) →
    AllByRecursion (λ (desk : Desk). EndsByPage ended (pair_of desk)) desks →
    desk_on page (filter (λ (desk : Desk). not (is_ended ended (pair_of desk))) desks)
    ≡ cond (is_among (pages_of ended) page) None (desk_on page desks)
left_on ended [] page all = by (is_among (pages_of ended) page)
  where
    by : (t : Bool) → ◌≡◌ {A = Option Desk} None (cond t None None)
    by true = refl
    by false = refl
left_on ended (desk ∷ desks) page all =
    by (nat_eq desk.page page) refl (is_ended ended (pair_of desk)) refl
    (left_on ended desks page all.1)
  where
    by : (here : Bool) → nat_eq desk.page page ≡ here →
        (ends : Bool) → is_ended ended (pair_of desk) ≡ ends →
        desk_on page (filter (λ (desk : Desk). not (is_ended ended (pair_of desk))) desks)
        ≡ cond (is_among (pages_of ended) page) None (desk_on page desks) →
        desk_on page (cond (not ends)
        (desk ∷ filter (λ (desk : Desk). not (is_ended ended (pair_of desk))) desks)
        (filter (λ (desk : Desk). not (is_ended ended (pair_of desk))) desks))
        ≡ cond (is_among (pages_of ended) page) None (cond here (Some desk) (desk_on page desks))
    by true is true ends more =
        let same : desk.page ≡ page = grind (arith, nat_tests) in
        let gone : is_among (pages_of ended) page ≡ true =
        ap (is_among (pages_of ended)) (sym same) ∙ (sym all.0 ∙ ends) in
        more ∙ rw gone refl
    by true is false ends more =
        let same : desk.page ≡ page = grind (arith, nat_tests) in
        let stays : is_among (pages_of ended) page ≡ false =
        ap (is_among (pages_of ended)) (sym same) ∙ (sym all.0 ∙ ends) in
        rw (stays, is) refl
    by false is true ends more = more
    by false is false ends more = rw is more

-- What is known of a step's effect on the desks of a world: those that end are some of those before it,
-- and the one that is opened is on a page without a desk.
pub record TellsDesks (effect : Effect) (desks : List Desk) : Type 0 where
  pub test : DeskPair → Bool
  pub rise : KeysRise desk_key (map pair_of desks)
  pub ended : effect.ended ≡ filter test (map pair_of desks)
  pub free :
      IfSome effect.opened (λ (desk : Desk).
      list_any (λ (pair : DeskPair). nat_eq pair.page desk.page) (map pair_of desks) ≡ false)

module _ (effect : Effect) (desks : List Desk) (tells : TellsDesks effect desks) where
  -- the desks before the step end exactly by their pages
  each_by_page : AllByRecursion (λ (desk : Desk). EndsByPage effect.ended (pair_of desk)) desks
  each_by_page =
      unmapped (EndsByPage effect.ended) desks
      (subst (λ ended. AllByRecursion (EndsByPage ended) (map pair_of desks)) (sym tells.ended)
      (all_weaker (λ (pair : DeskPair). AllByRecursion
      (λ (one : DeskPair). one.page ≡ pair.page → one ≡ pair) (map pair_of desks))
      (EndsByPage (filter tells.test (map pair_of desks))) (map pair_of desks)
      (λ pair all. ended_by_page pair (filter tells.test (map pair_of desks))
      (kept_all (λ (one : DeskPair). one.page ≡ pair.page → one ≡ pair) tells.test
      (map pair_of desks) all)) (one_a_page (map pair_of desks) tells.rise)))

  -- so does one that is opened
  opened_by_page : (desk : Desk) →
      list_any (λ (pair : DeskPair). nat_eq pair.page desk.page) (map pair_of desks) ≡ false →
      EndsByPage effect.ended (pair_of desk)
  opened_by_page desk free =
      subst (λ ended. EndsByPage ended (pair_of desk)) (sym tells.ended)
      (ended_by_page (pair_of desk) (filter tells.test (map pair_of desks))
      (kept_all (λ (one : DeskPair). one.page ≡ desk.page → one ≡ pair_of desk) tells.test
      (map pair_of desks)
      (all_weaker (λ (one : DeskPair). one.page ≡ desk.page → ⊥)
      (λ (one : DeskPair). one.page ≡ desk.page → one ≡ pair_of desk) (map pair_of desks)
      (λ one none same. absurd (none same)) (none_there desk.page (map pair_of desks) free))))

  -- the desk on a page after the step
  pub after_on : (page : ℕ) →
      desk_on page (desks_after effect desks)
      ≡ cond (is_among (pages_of effect.ended) page) None
      (opened_desk effect.opened page (desk_on page desks))
  after_on page = by effect.opened tells.free
    where
      by : (opened : Option Desk) →
          IfSome opened (λ (desk : Desk).
          list_any (λ (pair : DeskPair). nat_eq pair.page desk.page) (map pair_of desks) ≡ false) →
          desk_on page (filter (λ (desk : Desk). not (is_ended effect.ended (pair_of desk)))
          (with_desk opened desks))
          ≡ cond (is_among (pages_of effect.ended) page) None
          (opened_desk opened page (desk_on page desks))
      by None free = left_on effect.ended desks page each_by_page
      by (Some desk) free =
          left_on effect.ended (with_desk (Some desk) desks) page
          (put_all (λ (one : Desk). EndsByPage effect.ended (pair_of one)) desk desks
          (opened_by_page desk free) each_by_page)
          ∙ ap (cond (is_among (pages_of effect.ended) page) None)
          (put_on desk desks page (none_on desk.page desks free))

  -- what a plan that tells the effect leaves is kept of the desks after the step
  pub left_is : (page : ℕ) (kept : Option DeskRow) →
      kept ≡ option_map row_of (desk_on page desks) →
      desk_left (option_map (λ (desk : Desk). (desk.page, desk.user, desk.text)) effect.opened) None
      (pages_of effect.ended) page kept
      ≡ option_map row_of (desk_on page (desks_after effect desks))
  left_is page kept is =
      by (is_among (pages_of effect.ended) page) effect.opened
      ∙ ap (option_map row_of) (sym (after_on page))
    where
      inner : (desk : Desk) (t : Bool) →
          cond t (Some (row_of desk)) (option_map row_of (desk_on page desks))
          ≡ option_map row_of (cond t (Some desk) (desk_on page desks))
      inner desk true = refl
      inner desk false = refl

      by : (gone : Bool) (opened : Option Desk) →
          cond gone None
          (opened_on (option_map (λ (desk : Desk). (desk.page, desk.user, desk.text)) opened) page kept)
          ≡ option_map row_of (cond gone None (opened_desk opened page (desk_on page desks)))
      by true opened = refl
      by false None = is
      by false (Some desk) = rw is (inner desk (nat_eq desk.page page))

-- what a plan leaves that saves a text is kept of the desks with that text
pub saved_is : (at user : ℕ) (text : ContentValue) (desks : List Desk) (page : ℕ) →
    option_map (rewritten at user text) (option_map row_of (desk_on page desks))
    ≡ option_map row_of (desk_on page (saved at user text desks))
saved_is at user text [] page = refl
saved_is at user text (desk ∷ desks) page =
    by (nat_eq desk.page at && nat_eq desk.user user) refl (nat_eq desk.page page) refl
    (saved_is at user text desks page)
  where
    by : (own : Bool) → (nat_eq desk.page at && nat_eq desk.user user) ≡ own →
        (here : Bool) → nat_eq desk.page page ≡ here →
        option_map (rewritten at user text) (option_map row_of (desk_on page desks))
        ≡ option_map row_of (desk_on page (saved at user text desks)) →
        option_map (rewritten at user text)
        (option_map row_of (cond here (Some desk) (desk_on page desks)))
        ≡ option_map row_of (desk_on page (cond own (record desk { text = text }) desk
        ∷ saved at user text desks))
    by true own true here more = rw (here, own) refl
    by false own true here more = rw (here, own) refl
    by true own false here more = rw here more
    by false own false here more = rw here more
