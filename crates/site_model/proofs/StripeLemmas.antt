-- Stripes of the open desks: what one desk more, one less or another text makes of a stripe.
use Rattle.std.proofs.Common.{◌≡◌, ℕ, Bool, true, false, cond, not, ◌||◌, ◌&&◌, nat_eq, List, [], ◌∷◌, filter, find, Option, Some, None, refl, sym, ap, if◌then◌else◌, ◌∙◌}
use Rattle.std.specs.Prelude.{IfSome}
use Rattle.std.specs.List.{AllByRecursion, list_any}
use Rattle.std.specs.Option.{option_map}
use Rattle.page_tree.specs.Rows.{comes_before}
use Rattle.site_types.specs.Content.{ContentValue}
use Rattle.tree_model.proofs.CountLemmas.{same_id, id_found}
use Rattle.tree_model.proofs.PageLemmas.{all_weaker}
use Rattle.site_model.specs.World.{DeskPair, Desk, Effect, pair_of}
use Rattle.site_model.specs.Users.{put_in}
use Rattle.site_model.specs.Desks.{desk_key, is_ended, text_at, with_desk, desks_after}
use Rattle.site_model.specs.Step.{saved}
use Rattle.site_model.specs.Parts.{stripe_of, stripe}
use Rattle.site_model.specs.Sound.{KeysRise}
use Rattle.page_tree.proofs.OrderLemmas.{comes_before-trans}

module _ {Item : Type 0} where
  -- two tests keep the same in either order
  filter_both : (p q : Item → Bool) (xs : List Item) →
      filter p (filter q xs) ≡ filter q (filter p xs)
  filter_both p q [] = refl
  filter_both p q (x ∷ xs) = choice (p x) (q x) refl refl (filter_both p q xs)
    where
      choice : (a b : Bool) → p x ≡ a → q x ≡ b → filter p (filter q xs) ≡ filter q (filter p xs) →
          filter p (cond b (x ∷ filter q xs) (filter q xs))
          ≡ filter q (cond a (x ∷ filter p xs) (filter p xs))
      choice true true e f more = rw (e, f, more) refl
      choice true false e f more = rw (f, more) refl
      choice false true e f more = rw (e, more) refl
      choice false false e f more = more

  -- an item that a test does not keep, in its place
  put_lost : (key : Item → List ℕ) (keep : Item → Bool) (new : Item) (xs : List Item) →
      keep new ≡ false → filter keep (put_in key new xs) ≡ filter keep xs
  put_lost key keep new [] lost = rw lost refl
  put_lost key keep new (x ∷ xs) lost =
      choice (comes_before (key new) (key x)) (put_lost key keep new xs lost)
    where
      choice : (t : Bool) → filter keep (put_in key new xs) ≡ filter keep xs →
          filter keep (cond t (new ∷ x ∷ xs) (x ∷ put_in key new xs)) ≡ filter keep (x ∷ xs)
      choice true more = rw lost refl
      choice false more = rw more refl

  -- an item before all of a list is its first
  put_first : (key : Item → List ℕ) (keep : Item → Bool) (new : Item) (xs : List Item) →
      AllByRecursion (λ (later : Item). comes_before (key new) (key later) ≡ true) xs →
      put_in key new (filter keep xs) ≡ new ∷ filter keep xs
  put_first key keep new [] all = refl
  put_first key keep new (x ∷ xs) all = choice (keep x) (put_first key keep new xs all.1)
    where
      choice : (t : Bool) → put_in key new (filter keep xs) ≡ new ∷ filter keep xs →
          put_in key new (cond t (x ∷ filter keep xs) (filter keep xs))
          ≡ new ∷ cond t (x ∷ filter keep xs) (filter keep xs)
      choice true more = rw (all.0) refl
      choice false more = more

  -- an item that a test keeps, in its place among keys that rise
  put_kept : (key : Item → List ℕ) (keep : Item → Bool) (new : Item) (xs : List Item) →
      keep new ≡ true → KeysRise key xs →
      filter keep (put_in key new xs) ≡ put_in key new (filter keep xs)
  put_kept key keep new [] kept rise = rw kept refl
  put_kept key keep new (x ∷ xs) kept rise =
      choice (comes_before (key new) (key x)) refl (keep x) refl
      (put_kept key keep new xs kept rise.1)
    where
      after : comes_before (key new) (key x) ≡ true →
          AllByRecursion (λ (later : Item). comes_before (key new) (key later) ≡ true) xs
      after is = all_weaker (λ (later : Item). comes_before (key x) (key later) ≡ true)
          (λ (later : Item). comes_before (key new) (key later) ≡ true) xs
          (λ later behind. comes_before-trans (key new) (key x) (key later) is behind) rise.0

      choice : (t : Bool) → comes_before (key new) (key x) ≡ t → (k : Bool) → keep x ≡ k →
          filter keep (put_in key new xs) ≡ put_in key new (filter keep xs) →
          filter keep (cond t (new ∷ x ∷ xs) (x ∷ put_in key new xs))
          ≡ put_in key new (cond k (x ∷ filter keep xs) (filter keep xs))
      choice true is true here more = rw (kept, here, is) refl
      choice true is false here more =
          rw (kept, here, put_first key keep new xs (after is)) refl
      choice false is true here more = rw (here, is, more) refl
      choice false is false here more = rw here more

-- whether a desk is in a stripe
abbrev pub in_stripe : ℕ → Desk → Bool
in_stripe number desk = nat_eq (stripe_of desk.page) number

-- a desk that ends is in the stripe of one that does
ended_stripe : (number : ℕ) (ended : List DeskPair) (pair : DeskPair) →
    is_ended ended pair ≡ true → nat_eq (stripe_of pair.page) number ≡ true →
    list_any (λ (one : DeskPair). nat_eq (stripe_of one.page) number) ended ≡ true
ended_stripe number [] pair is here = absurd (cc)
ended_stripe number (one ∷ ended) pair is here =
    choice (nat_eq pair.page one.page) refl (nat_eq pair.user one.user)
    (is_ended ended pair) is (λ more. ended_stripe number ended pair more here)
  where
    same : nat_eq pair.page one.page ≡ true → nat_eq (stripe_of one.page) number ≡ true
    same e = let pages = id_found pair.page one.page e in rw (← pages) here

    second : (a b : Bool) → b ≡ true → (a || b) ≡ true
    second true b e = refl
    second false b e = e

    choice : (page : Bool) → nat_eq pair.page one.page ≡ page → (user more : Bool) →
        ((page && user) || more) ≡ true →
        (more ≡ true →
        list_any (λ (two : DeskPair). nat_eq (stripe_of two.page) number) ended ≡ true) →
        (nat_eq (stripe_of one.page) number
        || list_any (λ (two : DeskPair). nat_eq (stripe_of two.page) number) ended) ≡ true
    choice true e user more h later = rw (same e) refl
    choice false e user more h later =
        second (nat_eq (stripe_of one.page) number) _ (later h)

-- where no desk of a stripe ends, the stripe stays
pub none_ended : (number : ℕ) (ended : List DeskPair) (desks : List Desk) →
    list_any (λ (one : DeskPair). nat_eq (stripe_of one.page) number) ended ≡ false →
    stripe number (filter (λ (desk : Desk). not (is_ended ended (pair_of desk))) desks)
    ≡ stripe number desks
none_ended number ended [] none = refl
none_ended number ended (desk ∷ desks) none =
    choice (is_ended ended (pair_of desk)) refl (in_stripe number desk) refl
    (none_ended number ended desks none)
  where
    both_values : true ≡ false → ⊥
    both_values e = cc

    choice : (gone : Bool) → is_ended ended (pair_of desk) ≡ gone → (here : Bool) →
        in_stripe number desk ≡ here →
        stripe number (filter (λ (one : Desk). not (is_ended ended (pair_of one))) desks)
        ≡ stripe number desks →
        stripe number (cond (not gone)
        (desk ∷ filter (λ (one : Desk). not (is_ended ended (pair_of one))) desks)
        (filter (λ (one : Desk). not (is_ended ended (pair_of one))) desks))
        ≡ cond here (desk ∷ stripe number desks) (stripe number desks)
    choice true is true at more =
        let found = ended_stripe number ended (pair_of desk) is at in
        absurd (both_values (sym found ∙ none))
    choice true is false at more = more
    choice false is true at more = rw (at, more) refl
    choice false is false at more = rw at more

-- the desk that is opened, where it is in the stripe
abbrev pub opened_in : ℕ → Option Desk → Option Desk
opened_in number None = None
opened_in number (Some desk) = if in_stripe number desk then Some desk else None

-- a stripe with the desk that is opened
stripe_opened : (number : ℕ) (opened : Option Desk) (desks : List Desk) →
    KeysRise (λ (one : Desk). desk_key (pair_of one)) desks →
    stripe number (with_desk opened desks)
    ≡ with_desk (opened_in number opened) (stripe number desks)
stripe_opened number None desks rise = refl
stripe_opened number (Some desk) desks rise = choice (in_stripe number desk) refl
  where
    choice : (t : Bool) → in_stripe number desk ≡ t →
        stripe number (with_desk (Some desk) desks)
        ≡ with_desk (cond t (Some desk) None) (stripe number desks)
    choice true is =
        put_kept (λ (one : Desk). desk_key (pair_of one)) (in_stripe number) desk desks is rise
    choice false is =
        put_lost (λ (one : Desk). desk_key (pair_of one)) (in_stripe number) desk desks is

-- a stripe after an effect is made of that stripe before it
pub stripe_after : (number : ℕ) (told : Effect) (desks : List Desk) →
    KeysRise (λ (one : Desk). desk_key (pair_of one)) desks →
    stripe number (desks_after told desks)
    ≡ filter (λ (desk : Desk). not (is_ended told.ended (pair_of desk)))
    (with_desk (opened_in number told.opened) (stripe number desks))
stripe_after number told desks rise =
    filter_both (in_stripe number)
    (λ (desk : Desk). not (is_ended told.ended (pair_of desk))) (with_desk told.opened desks)
    ∙ ap (λ (list : List Desk).
    filter (λ (desk : Desk). not (is_ended told.ended (pair_of desk))) list)
    (stripe_opened number told.opened desks rise)

-- a desk that is opened elsewhere changes no stripe
pub opened_elsewhere : (number : ℕ) (opened : Option Desk) (desks : List Desk) →
    IfSome opened (λ desk. in_stripe number desk ≡ false) →
    stripe number (with_desk opened desks) ≡ stripe number desks
opened_elsewhere number None desks away = refl
opened_elsewhere number (Some desk) desks away =
    put_lost (λ (one : Desk). desk_key (pair_of one)) (in_stripe number) desk desks away

-- the text at a desk is found in its stripe
pub text_in_stripe : (desks : List Desk) (page user : ℕ) →
    text_at desks page user ≡ text_at (stripe (stripe_of page) desks) page user
text_in_stripe desks page user =
    ap (λ (found : Option Desk). option_map (λ desk. desk.text) found) (found desks)
  where
    found : (list : List Desk) →
        find (λ (desk : Desk). nat_eq desk.page page && nat_eq desk.user user) list
        ≡ find (λ (desk : Desk). nat_eq desk.page page && nat_eq desk.user user)
        (stripe (stripe_of page) list)
    found [] = refl
    found (desk ∷ list) =
        choice (nat_eq desk.page page) refl (nat_eq desk.user user) refl
        (in_stripe (stripe_of page) desk) refl (found list)
      where
        here : nat_eq desk.page page ≡ true → in_stripe (stripe_of page) desk ≡ true
        here is = rw (id_found desk.page page is) (same_id (stripe_of page))

        both_values : true ≡ false → ⊥
        both_values e = cc

        choice : (p : Bool) → nat_eq desk.page page ≡ p → (u : Bool) →
            nat_eq desk.user user ≡ u → (s : Bool) → in_stripe (stripe_of page) desk ≡ s →
            find (λ (one : Desk). nat_eq one.page page && nat_eq one.user user) list
            ≡ find (λ (one : Desk). nat_eq one.page page && nat_eq one.user user)
            (stripe (stripe_of page) list) →
            cond (p && u) (Some desk)
            (find (λ (one : Desk). nat_eq one.page page && nat_eq one.user user) list)
            ≡ find (λ (one : Desk). nat_eq one.page page && nat_eq one.user user)
            (cond s (desk ∷ stripe (stripe_of page) list) (stripe (stripe_of page) list))
        choice true p user_is u true at more = rw (p, u, more) refl
        choice true p user_is u false at more = absurd (both_values (sym (here p) ∙ at))
        choice false p user_is u true at more = rw (p, more) refl
        choice false p user_is u false at more = more

-- another text changes each stripe by itself
pub stripe_saved : (number page user : ℕ) (text : ContentValue) (desks : List Desk) →
    stripe number (saved page user text desks) ≡ saved page user text (stripe number desks)
stripe_saved number page user text [] = refl
stripe_saved number page user text (desk ∷ desks) =
    choice (nat_eq desk.page page && nat_eq desk.user user) refl (in_stripe number desk) refl
    (stripe_saved number page user text desks)
  where
    choice : (own : Bool) → (nat_eq desk.page page && nat_eq desk.user user) ≡ own →
        (here : Bool) → in_stripe number desk ≡ here →
        stripe number (saved page user text desks) ≡ saved page user text (stripe number desks) →
        stripe number (cond own (record desk { text = text }) desk ∷ saved page user text desks)
        ≡ saved page user text (cond here (desk ∷ stripe number desks) (stripe number desks))
    choice true own true here more = rw (here, own, more) refl
    choice true own false here more = rw here more
    choice false own true here more = rw (here, own, more) refl
    choice false own false here more = rw here more

-- another text changes no other stripe
pub saved_elsewhere : (number page user : ℕ) (text : ContentValue) (desks : List Desk) →
    nat_eq (stripe_of page) number ≡ false →
    stripe number (saved page user text desks) ≡ stripe number desks
saved_elsewhere number page user text [] away = refl
saved_elsewhere number page user text (desk ∷ desks) away =
    choice (nat_eq desk.page page) refl (nat_eq desk.user user)
    (saved_elsewhere number page user text desks away)
  where
    lost : nat_eq desk.page page ≡ true → in_stripe number desk ≡ false
    lost is = rw (id_found desk.page page is) away

    choice : (p : Bool) → nat_eq desk.page page ≡ p → (u : Bool) →
        stripe number (saved page user text desks) ≡ stripe number desks →
        stripe number (cond (p && u) (record desk { text = text }) desk
        ∷ saved page user text desks) ≡ stripe number (desk ∷ desks)
    choice true is true more = rw (lost is, more) refl
    choice true is false more = rw (lost is, more) refl
    choice false is u more = rw more refl
