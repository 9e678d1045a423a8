-- The reply to an entry, and the parts that it touches, depend on the touched parts alone.
use Rattle.std.proofs.Common.{◌≡◌, ℕ, zero, suc, Bool, true, false, not, ◌||◌, List, [], ◌∷◌, map, filter, Option, Some, None, Result, Ok, Err, refl, sym, ap, subst, ◌∙◌}
use Rattle.std.specs.Prelude.{IfSome}
use Rattle.std.specs.List.{AllByRecursion}
use Rattle.page_tree.specs.Rows.{comes_before}
use Rattle.site_types.specs.Content.{ContentValue}
use Rattle.site_types.specs.declared.entry.Entry.{Entry}
use Rattle.site_types.specs.declared.refusal.Refusal.{Refusal}
use Rattle.site_types.specs.declared.reply.Reply.{Reply}
use Rattle.site_types.specs.declared.reply.Reply.TheVariants.{Done}
use Rattle.tree_model.proofs.CountLemmas.{same_id}
use Rattle.site_model.specs.World.{DeskPair, Desk, World, TreePart, Effect, pair_of}
use Rattle.site_model.specs.Desks.{desk_key, desk_page, own_text, no_desk, is_ended, with_desk, desks_after}
use Rattle.site_model.specs.Step.{saving, saved, save, unless_refused, step_by, with_desks, step_with, step_at, step}
use Rattle.site_model.specs.Parts.{stripe_of, stripe, TreeValue, StripeValue, part_of, is_in_stripe, touches}
use Rattle.site_model.specs.Sound.{KeysRise, IsSound}
use Rattle.site_model.proofs.AcceptLemmas.{not_refused, same_ok}
use Rattle.site_model.proofs.PartLemmas.{saving_page}
use Rattle.site_model.proofs.StripeLemmas.{stripe_after, opened_in, text_in_stripe, stripe_saved}

-- what holds of the pages and users of desks holds of the desks
all_map : (P : DeskPair → Type 0) (desks : List Desk) → AllByRecursion P (map pair_of desks) →
    AllByRecursion (λ (desk : Desk). P (pair_of desk)) desks
all_map P [] all = tt
all_map P (desk ∷ desks) all = (all.0, all_map P desks all.1)

-- desks rise as their pages do
rise_map : (desks : List Desk) → KeysRise desk_key (map pair_of desks) →
    KeysRise (λ (desk : Desk). desk_key (pair_of desk)) desks
rise_map [] rise = tt
rise_map (desk ∷ desks) rise = (
  all_map (λ (later : DeskPair). comes_before (desk_key (pair_of desk)) (desk_key later) ≡ true)
      desks rise.0,
  rise_map desks rise.1,
)

-- the desks of a sound world rise
desks_rise : (world : World) → IsSound world →
    KeysRise (λ (desk : Desk). desk_key (pair_of desk)) world.desks
desks_rise world sound =
    rise_map world.desks
    (subst (λ (pairs : List DeskPair). KeysRise desk_key pairs) (sym sound.desks_match)
    sound.part.desks.desks_rise)

-- the same stripes give the same own text
same_text : (one other : List Desk) (caller : ℕ) (page : Option ℕ) →
    ((number : ℕ) → is_in_stripe number page ≡ true →
    stripe number other ≡ stripe number one) →
    own_text other caller page ≡ own_text one caller page
same_text one other caller None same = refl
same_text one other caller (Some page) same =
    text_in_stripe other page caller
    ∙ rw (same (stripe_of page) (same_id (stripe_of page))) (sym (text_in_stripe one page caller))

-- the same stripe gives the same one after the same effect
same_stripe : (number : ℕ) (told : Effect) (one other : World) → IsSound one → IsSound other →
    stripe number other.desks ≡ stripe number one.desks →
    stripe number (desks_after told other.desks) ≡ stripe number (desks_after told one.desks)
same_stripe number told one other sound sound_other same =
    stripe_after number told other.desks (desks_rise other sound_other)
    ∙ ap (λ (list : List Desk). filter (λ (desk : Desk). not (is_ended told.ended (pair_of desk)))
    (with_desk (opened_in number told.opened) list)) same
    ∙ sym (stripe_after number told one.desks (desks_rise one sound))

-- what two stripe values hold that are the same
same_stripes : (one other : List Desk) → StripeValue one ≡ StripeValue other → one ≡ other
same_stripes one other is = cc

-- what two tree values hold that are the same
same_parts : (one other : TreePart) → TreeValue one ≡ TreeValue other → one ≡ other
same_parts one other is = cc

-- a first test of two that holds
first_holds : (a b : Bool) → a ≡ true → (a || b) ≡ true
first_holds true b is = refl
first_holds false b is = absurd (cc)

-- what a step of the tree part makes of two worlds with one tree part
part_does : (before other after : World) (reply : Reply) (entry : Entry)
    (result : Result (TreePart × Effect) Refusal) → IsSound before → IsSound other →
    ((number : ℕ) → touches before entry number ≡ true →
    part_of other number ≡ part_of before number) →
    with_desks before.desks result ≡ Ok (after, reply) →
    (made : World) × (with_desks other.desks result ≡ Ok (made, reply))
    × ((number : ℕ) → touches before entry number ≡ true →
    part_of made number ≡ part_of after number)
part_does before other after reply entry (Err refusal) sound sound_other same is = absurd (cc)
part_does before other after reply entry (Ok done) sound sound_other same is =
    let pair = same_ok {E = Refusal}
    (record { part = done.0; desks = desks_after done.1 before.desks }, done.1.reply)
    (after, reply) is in (
      record { part = done.0; desks = desks_after done.1 other.desks },
      ap (λ (r : Reply). Ok (record { part = done.0; desks = desks_after done.1 other.desks }, r))
          (ap (λ (p : World × Reply). p.1) pair),
      part_by pair,
    )
  where
    part_by : ◌≡◌ {A = World × Reply}
        (record { part = done.0; desks = desks_after done.1 before.desks }, done.1.reply)
        (after, reply) →
        (number : ℕ) → touches before entry number ≡ true →
        part_of (record { part = done.0; desks = desks_after done.1 other.desks }) number
        ≡ part_of after number
    part_by pair zero here = ap (λ (p : World × Reply). TreeValue p.0.part) pair
    part_by pair (suc number) here =
        ap StripeValue (same_stripe number done.1 before other sound sound_other
        (same_stripes (stripe number other.desks) (stripe number before.desks)
        (same (suc number) here)))
        ∙ ap (λ (p : World × Reply). StripeValue (stripe number p.0.desks)) pair

-- the same of a command that saves no desk
step_does : (before other after : World) (reply : Reply) (entry : Entry) → IsSound before →
    IsSound other →
    ((number : ℕ) → touches before entry number ≡ true →
    part_of other number ≡ part_of before number) →
    saving entry.command ≡ None →
    step_with before entry.moment entry.caller entry.command None ≡ Ok (after, reply) →
    (made : World)
    × (step_with other entry.moment entry.caller entry.command None ≡ Ok (made, reply))
    × ((number : ℕ) → touches other entry number ≡ touches before entry number)
    × ((number : ℕ) → touches before entry number ≡ true →
    part_of made number ≡ part_of after number)
step_does before other after reply entry sound sound_other same none is =
    let one_part = same_parts other.part before.part (same 0 (rw none refl)) in
    let texts = same_text before.desks other.desks entry.caller (desk_page entry.command)
    (λ number here. same_stripes (stripe number other.desks) (stripe number before.desks)
    (same (suc number) (first_holds (is_in_stripe number (desk_page entry.command)) _ here))) in
    let one_step : step_by other.part
    (own_text other.desks entry.caller (desk_page entry.command)) entry.moment entry.caller
    entry.command
    ≡ step_by before.part (own_text before.desks entry.caller (desk_page entry.command))
    entry.moment entry.caller entry.command = rw (one_part, texts) refl in
    let does = part_does before other after reply entry
    (step_by before.part (own_text before.desks entry.caller (desk_page entry.command))
    entry.moment entry.caller entry.command) sound sound_other same is in (
      does.0,
      ap (λ (result : Result (TreePart × Effect) Refusal). with_desks other.desks result) one_step
          ∙ does.1,
      touched one_step,
      does.2,
    )
  where
    touched : step_by other.part
        (own_text other.desks entry.caller (desk_page entry.command)) entry.moment entry.caller
        entry.command
        ≡ step_by before.part (own_text before.desks entry.caller (desk_page entry.command))
        entry.moment entry.caller entry.command →
        (number : ℕ) → touches other entry number ≡ touches before entry number
    touched one_step zero = refl
    touched one_step (suc number) = rw (none, one_step) refl

-- the same of a command that saves one
save_does : (before other after : World) (reply : Reply) (entry : Entry) (page : ℕ)
    (text : ContentValue) →
    ((number : ℕ) → touches before entry number ≡ true →
    part_of other number ≡ part_of before number) →
    saving entry.command ≡ Some (page, text) → desk_page entry.command ≡ Some page →
    save before entry.caller page text ≡ Ok (after, reply) →
    (made : World) × (save other entry.caller page text ≡ Ok (made, reply))
    × ((number : ℕ) → touches other entry number ≡ touches before entry number)
    × ((number : ℕ) → touches before entry number ≡ true →
    part_of made number ≡ part_of after number)
save_does before other after reply entry page text same some at is =
    let texts = same_text before.desks other.desks entry.caller (Some page)
    (λ number here. same_stripes (stripe number other.desks) (stripe number before.desks)
    (same (suc number)
    (first_holds (is_in_stripe number (desk_page entry.command)) _ (rw at here))))
    in
    let both = not_refused (no_desk (own_text before.desks entry.caller (Some page)))
    (record before { desks = saved page entry.caller text before.desks }, Done) (after, reply) is in
    let clear : no_desk (own_text other.desks entry.caller (Some page)) ≡ None =
    ap (λ (text : Option ContentValue). no_desk text) texts ∙ both.0 in (
      record other { desks = saved page entry.caller text other.desks },
      allowed (no_desk (own_text other.desks entry.caller (Some page))) clear
          ∙ ap (λ (r : Reply). Ok
          (record other { desks = saved page entry.caller text other.desks }, r))
          (ap (λ (p : World × Reply). p.1) both.1),
      touched,
      part_by both.1,
    )
  where
    allowed : (refusal : Option Refusal) → refusal ≡ None →
        unless_refused {Made = World × Reply} refusal
        (record other { desks = saved page entry.caller text other.desks }, Done)
        ≡ Ok (record other { desks = saved page entry.caller text other.desks }, Done)
    allowed None e = refl
    allowed (Some refusal) e = absurd (cc)

    touched : (number : ℕ) → touches other entry number ≡ touches before entry number
    touched zero = refl
    touched (suc number) = rw some refl

    part_by : ◌≡◌ {A = World × Reply}
        (record before { desks = saved page entry.caller text before.desks }, Done)
        (after, reply) →
        (number : ℕ) → touches before entry number ≡ true →
        part_of (record other { desks = saved page entry.caller text other.desks }) number
        ≡ part_of after number
    part_by pair zero here = let no = rw some at here in absurd (cc)
    part_by pair (suc number) here =
        ap StripeValue
        (stripe_saved number page entry.caller text other.desks
        ∙ ap (λ (list : List Desk). saved page entry.caller text list)
        (same_stripes (stripe number other.desks) (stripe number before.desks)
        (same (suc number) here))
        ∙ sym (stripe_saved number page entry.caller text before.desks))
        ∙ ap (λ (p : World × Reply). StripeValue (stripe number p.0.desks)) pair

-- The reply to an accepted entry, and the parts that it touches, depend on the touched parts alone.
pub touched_alone : (before other after : World) (reply : Reply) (entry : Entry) →
    IsSound before → IsSound other →
    ((number : ℕ) → touches before entry number ≡ true →
    part_of other number ≡ part_of before number) →
    step before entry ≡ Ok (after, reply) →
    (made : World) × (step other entry ≡ Ok (made, reply))
    × ((number : ℕ) → touches other entry number ≡ touches before entry number)
    × ((number : ℕ) → touches before entry number ≡ true →
    part_of made number ≡ part_of after number)
unfolding step_at
touched_alone before other after reply entry sound sound_other same is =
    choice (saving entry.command) refl (saving_page entry.command) is
  where
    choice : (found : Option (ℕ × ContentValue)) → saving entry.command ≡ found →
        IfSome found (λ pair. desk_page entry.command ≡ Some pair.0) →
        step_with before entry.moment entry.caller entry.command found ≡ Ok (after, reply) →
        (made : World)
        × (step_with other entry.moment entry.caller entry.command found ≡ Ok (made, reply))
        × ((number : ℕ) → touches other entry number ≡ touches before entry number)
        × ((number : ℕ) → touches before entry number ≡ true →
        part_of made number ≡ part_of after number)
    choice None e page h =
        step_does before other after reply entry sound sound_other same e h
    choice (Some pair) e page h =
        save_does before other after reply entry pair.0 pair.1 same e page h
