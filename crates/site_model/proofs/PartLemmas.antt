-- The two laws of parts: what an entry does not touch stays, and what it touches depends on that
-- alone.
use Rattle.std.proofs.Common.{◌≡◌, ℕ, zero, suc, false, nat_eq, List, Option, Some, None, Result, Ok, Err, refl, sym, ap, subst, ◌∙◌}
use Rattle.std.specs.Prelude.{IfSome}
use Rattle.std.specs.List.{list_any}
use Rattle.site_types.specs.Content.{ContentValue}
use Rattle.site_types.specs.declared.command.Command.{Command}
use Rattle.site_types.specs.declared.command.Command.TheVariants.{SaveDesk}
use Rattle.site_types.specs.declared.entry.Entry.{Entry}
use Rattle.site_types.specs.declared.refusal.Refusal.{Refusal}
use Rattle.site_types.specs.declared.reply.Reply.{Reply}
use Rattle.site_types.specs.declared.reply.Reply.TheVariants.{Done}
use Rattle.site_model.specs.World.{Desk, World, TreePart, Effect}
use Rattle.site_model.specs.Desks.{desk_page, own_text, no_desk, desk_opened, with_desk, desks_after}
use Rattle.site_model.specs.Step.{saving, saved, save, unless_refused, step_by, with_desks, step_with, step_at, step}
use Rattle.site_model.specs.Step as steps
use Rattle.site_model.specs.Parts.{stripe_of, stripe, TreeValue, StripeValue, part_of, ended_in, ended_by, is_in_stripe, touches}
use Rattle.site_model.proofs.AcceptLemmas.{accepted, not_refused, same_ok}
use Rattle.site_model.proofs.ClearLemmas.{neither}
use Rattle.site_model.proofs.StripeLemmas.{in_stripe, none_ended, opened_elsewhere, saved_elsewhere}

-- a desk that a command opens is at its page
opened_at : (caller : ℕ) (page : Option ℕ) (text : Option ContentValue) →
    IfSome (desk_opened caller page text) (λ desk. page ≡ Some desk.page)
opened_at caller None text = tt
opened_at caller (Some page) None = tt
opened_at caller (Some page) (Some text) = refl

-- so is that of an accepted step
step_opens_at : (before after : TreePart) (told : Effect) (desk : Option ContentValue)
    (now caller : ℕ) (command : Command) →
    step_by before desk now caller command ≡ Ok (after, told) →
    IfSome told.opened (λ one. desk_page command ≡ Some one.page)
step_opens_at before after told desk now caller command is =
    let one = accepted before after told desk now caller command is in
    subst (λ (made : TreePart × Effect).
    IfSome made.1.opened (λ opened. desk_page command ≡ Some opened.page)) one.done
    (opened_at caller (desk_page command)
    (steps.effect before desk now caller command).opened)

-- a desk at a page that is not in a stripe is not in it
opened_away : (number : ℕ) (page : Option ℕ) (opened : Option Desk) →
    IfSome opened (λ desk. page ≡ Some desk.page) → is_in_stripe number page ≡ false →
    IfSome opened (λ desk. in_stripe number desk ≡ false)
opened_away number page None at away = tt
opened_away number page (Some desk) at away = rw at at away

-- a stripe in which no desk is opened and none ends stays
stripe_stays : (number : ℕ) (page : Option ℕ) (desks : List Desk)
    (result : Result (TreePart × Effect) Refusal) (after : World) (reply : Reply) →
    with_desks desks result ≡ Ok (after, reply) →
    ((part : TreePart) (told : Effect) → result ≡ Ok (part, told) →
    IfSome told.opened (λ desk. page ≡ Some desk.page)) →
    is_in_stripe number page ≡ false →
    list_any (λ pair. nat_eq (stripe_of pair.page) number) (ended_in result) ≡ false →
    stripe number after.desks ≡ stripe number desks
stripe_stays number page desks (Err refusal) after reply is opens away none = absurd (cc)
stripe_stays number page desks (Ok done) after reply is opens away none =
    let made : World = record { part = done.0; desks = desks_after done.1 desks } in
    let pair = same_ok {E = Refusal} (made, done.1.reply) (after, reply) is in
    let same = ap (λ (one : World × Reply). stripe number one.0.desks) pair in
    sym same
    ∙ none_ended number done.1.ended (with_desk done.1.opened desks) none
    ∙ opened_elsewhere number done.1.opened desks
    (opened_away number page done.1.opened (opens done.0 done.1 refl) away)

-- a command that saves a desk does so on its page
pub saving_page : (command : Command) →
    IfSome (saving command) (λ pair. desk_page command ≡ Some pair.0)
unfolding saving desk_page
saving_page (SaveDesk page content) = refl
saving_page _ = tt

-- what is saved elsewhere
saved_stays : (number : ℕ) (page : Option ℕ) (before after : World) (reply : Reply)
    (caller at : ℕ) (text : ContentValue) → page ≡ Some at →
    save before caller at text ≡ Ok (after, reply) → is_in_stripe number page ≡ false →
    (after.part ≡ before.part) × (stripe number after.desks ≡ stripe number before.desks)
saved_stays number page before after reply caller at text is done away =
    let both = not_refused (no_desk (own_text before.desks caller (Some at)))
    (record before { desks = saved at caller text before.desks }, Done) (after, reply) done in (
      ap (λ (one : World × Reply). one.0.part) (sym both.1),
      ap (λ (one : World × Reply). stripe number one.0.desks) (sym both.1)
          ∙ saved_elsewhere number at caller text before.desks (rw is at away),
    )

-- the part that saving leaves is the one before it
pub saved_part : (before after : World) (reply : Reply) (caller at : ℕ) (text : ContentValue) →
    save before caller at text ≡ Ok (after, reply) → after.part ≡ before.part
saved_part before after reply caller at text done =
    let both = not_refused (no_desk (own_text before.desks caller (Some at)))
    (record before { desks = saved at caller text before.desks }, Done) (after, reply) done in
    ap (λ (one : World × Reply). one.0.part) (sym both.1)

-- A part that an accepted entry does not touch stays.
pub untouched_stays : (before after : World) (reply : Reply) (entry : Entry) (number : ℕ) →
    step before entry ≡ Ok (after, reply) → touches before entry number ≡ false →
    part_of after number ≡ part_of before number
unfolding step_at
untouched_stays before after reply entry zero is free =
    choice (saving entry.command) refl is
  where
    choice : (found : Option (ℕ × ContentValue)) → saving entry.command ≡ found →
        step_with before entry.moment entry.caller entry.command found ≡ Ok (after, reply) →
        part_of after 0 ≡ part_of before 0
    choice None same h = let no = rw same at free in absurd (cc)
    choice (Some pair) same h =
        ap TreeValue (saved_part before after reply entry.caller pair.0 pair.1 h)
untouched_stays before after reply entry (suc number) is free =
    choice (saving entry.command) refl (saving_page entry.command) is
  where
    parts : (is_in_stripe number (desk_page entry.command) ≡ false)
        × (list_any (λ pair. nat_eq (stripe_of pair.page) number) (ended_by before entry) ≡ false)
    parts = neither (is_in_stripe number (desk_page entry.command)) _ free

    choice : (found : Option (ℕ × ContentValue)) → saving entry.command ≡ found →
        IfSome found (λ pair. desk_page entry.command ≡ Some pair.0) →
        step_with before entry.moment entry.caller entry.command found ≡ Ok (after, reply) →
        part_of after (suc number) ≡ part_of before (suc number)
    choice None same page h =
        ap StripeValue (stripe_stays number (desk_page entry.command) before.desks
        (step_by before.part (own_text before.desks entry.caller (desk_page entry.command))
        entry.moment entry.caller entry.command) after reply h
        (λ made told one. step_opens_at before.part made told _ entry.moment entry.caller
        entry.command one) parts.0 (rw same at parts.1))
    choice (Some pair) same page h =
        ap StripeValue (saved_stays number (desk_page entry.command) before after reply entry.caller
        pair.0 pair.1 page h parts.0).1
