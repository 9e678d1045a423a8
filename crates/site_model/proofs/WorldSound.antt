-- A step that is accepted keeps a world sound, whatever desks are open.
use Rattle.std.proofs.Common.{◌≡◌, ℕ, Bool, true, false, cond, not, ◌&&◌, nat_eq, List, [], ◌∷◌, map, filter, Option, Some, None, Result, Ok, Err, refl, sym, ap, subst, ◌∙◌}
use Rattle.std.specs.Prelude.{IfSome}
use Rattle.std.specs.List.{AllByRecursion}
use Rattle.site_ids.specs.Moment.{IsMoment}
use Rattle.site_types.specs.Content.{ContentValue, FitsLimits}
use Rattle.site_types.specs.declared.command.Command.{Command}
use Rattle.site_types.specs.declared.command.Command.TheVariants.{SaveDesk}
use Rattle.site_types.specs.declared.entry.Entry.{Entry}
use Rattle.site_types.specs.declared.refusal.Refusal.{Refusal}
use Rattle.site_types.specs.declared.reply.Reply.{Reply}
use Rattle.site_types.specs.declared.reply.Reply.TheVariants.{Done}
use Rattle.site_model.specs.World.{DeskPair, Desk, World, TreePart, Deed, Effect, pair_of}
use Rattle.site_model.specs.Desks.{desk_page, own_text, no_desk, desk_opened, with_pair, with_desk, is_ended, settled, desks_after}
use Rattle.site_model.specs.Step.{saving, with_text, saved, save, step_by, with_desks, step_with, step_at, step}
use Rattle.site_model.specs.Step as steps
use Rattle.site_model.specs.Sound.{IsSoundPart, IsSound}
use Rattle.site_model.specs.Laws.{FitsCommand, FitsDesk}
use Rattle.site_model.proofs.AcceptLemmas.{accepted, not_refused, same_ok}
use Rattle.site_model.proofs.Deeds.{KeepsSound}
use Rattle.site_model.proofs.DeskSound.{map_filter, ended_pairs, settled_sound, pairs_opened, texts_opened}
use Rattle.site_model.proofs.Groups.{groups_of}
use Rattle.site_model.proofs.OrderLemmas.{all_filter}
use Rattle.site_model.proofs.OwnText.{own_text_fits}
use Rattle.site_model.proofs.StepSound.{command_sound}

-- What an accepted step of the tree part leaves, beside these desks of the part before it.
record LeavesSound (after : TreePart) (told : Effect) (desks : List Desk) : Type 0 where
  sound : IsSoundPart after
  desks_match : map pair_of (desks_after told desks) ≡ after.desk_pairs
  texts : AllByRecursion (λ (desk : Desk). FitsLimits desk.text) (desks_after told desks)

-- the desks that are open after a command
settled_leaves : (part : TreePart) (caller : ℕ) (page : Option ℕ) (deed : Deed)
    (desks : List Desk) → IsSoundPart part → KeepsSound part caller page deed →
    map pair_of desks ≡ part.desk_pairs →
    AllByRecursion (λ (desk : Desk). FitsLimits desk.text) desks →
    LeavesSound (settled caller page deed).0 (settled caller page deed).1 desks
settled_leaves part caller page deed desks sound kept match texts =
    let opened = desk_opened caller page deed.opened in
    let keep = λ (pair : DeskPair). not (is_ended (ended_pairs caller page deed) pair) in
    record {
      sound = settled_sound part caller page deed sound kept;
      desks_match = map_filter keep (with_desk opened desks)
          ∙ ap (λ (list : List DeskPair). filter keep list)
          (pairs_opened opened desks
          ∙ ap (λ (list : List DeskPair). with_pair opened list) (match ∙ sym kept.pairs));
      texts = all_filter (λ (desk : Desk). FitsLimits desk.text)
          (λ (desk : Desk). keep (pair_of desk)) (with_desk opened desks)
          (texts_opened part opened desks kept.opened texts);
    }

-- an accepted step of the tree part leaves a sound one
step_by_leaves : (before after : TreePart) (told : Effect) (desk : Option ContentValue)
    (now caller : ℕ) (command : Command) (desks : List Desk) → IsSoundPart before →
    IsMoment now → FitsCommand command →
    FitsDesk before caller (desk_page command) desk →
    map pair_of desks ≡ before.desk_pairs →
    AllByRecursion (λ (one : Desk). FitsLimits one.text) desks →
    step_by before desk now caller command ≡ Ok (after, told) → LeavesSound after told desks
step_by_leaves before after told desk now caller command desks sound moment fits at match texts
    is =
    let one = accepted before after told desk now caller command is in
    let deed = steps.effect before desk now caller command in
    let kept = command_sound before desk now caller command (groups_of before sound) sound.desks
    moment fits at one.front one.own in
    subst (λ (made : TreePart × Effect). LeavesSound made.0 made.1 desks) one.done
    (settled_leaves before caller (desk_page command) deed desks sound kept match texts)

-- another text changes no desk's page and user
same_pairs : (page user : ℕ) (text : ContentValue) (desks : List Desk) →
    map pair_of (saved page user text desks) ≡ map pair_of desks
same_pairs page user text [] = refl
same_pairs page user text (desk ∷ desks) =
    choice (nat_eq desk.page page && nat_eq desk.user user) (same_pairs page user text desks)
  where
    choice : (t : Bool) → map pair_of (saved page user text desks) ≡ map pair_of desks →
        pair_of (cond t (record desk { text = text }) desk)
        ∷ map pair_of (saved page user text desks) ≡ pair_of desk ∷ map pair_of desks
    choice true more = ap (λ (pairs : List DeskPair). pair_of desk ∷ pairs) more
    choice false more = ap (λ (pairs : List DeskPair). pair_of desk ∷ pairs) more

-- texts within their limits stay so with one that is
texts_saved : (page user : ℕ) (text : ContentValue) (desks : List Desk) → FitsLimits text →
    AllByRecursion (λ (desk : Desk). FitsLimits desk.text) desks →
    AllByRecursion (λ (desk : Desk). FitsLimits desk.text) (saved page user text desks)
texts_saved page user text [] fits all = tt
texts_saved page user text (desk ∷ desks) fits all = (
  choice (nat_eq desk.page page && nat_eq desk.user user),
  texts_saved page user text desks fits all.1,
)
  where
    choice : (t : Bool) → FitsLimits (cond t (record desk { text = text }) desk).text
    choice true = fits
    choice false = all.0

-- what a command saves is within its limits
saved_fits : (command : Command) → FitsCommand command →
    IfSome (saving command) (λ pair. FitsLimits pair.1)
unfolding saving
saved_fits (SaveDesk page content) fits = fits
saved_fits _ fits = tt

-- saving a desk keeps a world sound
save_keeps_sound : (before after : World) (reply : Reply) (caller page : ℕ)
    (text : ContentValue) → IsSound before → FitsLimits text →
    save before caller page text ≡ Ok (after, reply) → IsSound after
save_keeps_sound before after reply caller page text sound fits is =
    let both = not_refused (no_desk (own_text before.desks caller (Some page)))
    (record before { desks = saved page caller text before.desks }, Done) (after, reply) is in
    subst (λ (made : World × Reply). IsSound made.0) both.1 (record {
      part = sound.part;
      desks_match = same_pairs page caller text before.desks ∙ sound.desks_match;
      texts = texts_saved page caller text before.desks fits sound.texts;
    })

-- a step of the tree part, with its desks
part_keeps_sound : (desks : List Desk) (result : Result (TreePart × Effect) Refusal)
    (after : World) (reply : Reply) →
    ((part : TreePart) (told : Effect) → result ≡ Ok (part, told) → LeavesSound part told desks) →
    with_desks desks result ≡ Ok (after, reply) → IsSound after
part_keeps_sound desks (Err refusal) after reply follows is = absurd (cc)
part_keeps_sound desks (Ok done) after reply follows is =
    let left = follows done.0 done.1 refl in
    let made : World = record { part = done.0; desks = desks_after done.1 desks } in
    let pair = same_ok {E = Refusal} (made, done.1.reply) (after, reply) is in
    subst (λ (one : World × Reply). IsSound one.0) pair
    (record { part = left.sound; desks_match = left.desks_match; texts = left.texts })

-- A step that is accepted keeps a world sound, whoever calls and whatever desks are open.
pub step_keeps_sound : (before after : World) (reply : Reply) (entry : Entry) → IsSound before →
    IsMoment entry.moment → FitsCommand entry.command →
    step before entry ≡ Ok (after, reply) → IsSound after
unfolding step_at
step_keeps_sound before after reply entry sound moment fits is =
    choice (saving entry.command) (saved_fits entry.command fits) is
  where
    choice : (found : Option (ℕ × ContentValue)) → IfSome found (λ pair. FitsLimits pair.1) →
        step_with before entry.moment entry.caller entry.command found ≡ Ok (after, reply) →
        IsSound after
    choice None within h =
        part_keeps_sound before.desks _ after reply
        (λ made told one. step_by_leaves before.part made told
        (own_text before.desks entry.caller (desk_page entry.command)) entry.moment entry.caller
        entry.command before.desks sound.part moment fits
        (own_text_fits before entry.caller (desk_page entry.command) sound) sound.desks_match
        sound.texts one) h
    choice (Some pair) within h =
        save_keeps_sound before after reply entry.caller pair.0 pair.1 sound within h
