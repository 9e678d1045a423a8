-- A draft from its desk to the public, step by step, at worked values.
use Rattle.std.proofs.Common.{◌≡◌, ℕ, false, [], ◌∷◌, refl, codes, None, Result, Ok, Err}
use Rattle.site_types.specs.Content.{ContentValue}
use Rattle.site_types.specs.declared.command.Command.{Command}
use Rattle.site_types.specs.declared.command.Command.TheVariants as commands
use Rattle.site_types.specs.declared.refusal.Refusal.{Refusal}
use Rattle.site_types.specs.declared.refusal.Refusal.TheVariants.{NoDesk, DeskTaken, NoWorkflow, Locked}
use Rattle.site_types.specs.declared.reply.Reply.{Reply}
use Rattle.site_types.specs.declared.reply.Reply.TheVariants.{Done, Id, Published, Removed}
use Rattle.site_model.specs.World.{Desk, World}
use Rattle.site_model.specs.Needs.{needs_of}
use Rattle.site_model.specs.Front.{row_of, front_rules}
use Rattle.site_model.specs.Desks.{desk_page}
use Rattle.site_model.specs.Step.{rules, effect, step_by, saving, step_at}
use Rattle.site_model.proofs.Sites.{titled, with_pages}

-- the world after a step that is accepted
abbrev world_of : Result (World × Reply) Refusal → World → World
world_of (Ok made) before = made.0
world_of (Err refusal) before = before

-- the answer to a step
abbrev answer_of : Result (World × Reply) Refusal → Result Reply Refusal
answer_of (Ok made) = Ok (made.1)
answer_of (Err refusal) = Err refusal

-- the world after a command of a caller
abbrev then : World → ℕ → Command → World
then world caller command = world_of (step_at world 100 caller command) world

-- what a command of a caller is answered
abbrev said : World → ℕ → Command → Result Reply Refusal
said world caller command = answer_of (step_at world 100 caller command)

-- a desk of user 2 on page 2
abbrev desk : ContentValue → Desk
desk text = record { page = 2; user = 2; text = text }

-- three pages, and no desk is open
abbrev start : World
start = record { part = with_pages; desks = [] }

-- user 2 opens a desk on page 2,
abbrev opened : World
opened = then start 2 (commands.OpenDesk 2)

-- writes the title z,
abbrev written : World
written = then opened 2 (commands.SaveDesk 2 (titled (codes "z")))

-- files it,
abbrev filed : World
filed = then written 2 (commands.File 2 None None)

-- user 1 publishes it,
abbrev published : World
published = then filed 1 (commands.Publish 2)

-- and locks the page
abbrev locked : World
locked = then published 1 (commands.Lock 2)

-- an opened desk has the latest content
opened_desk : opened.desks ≡ desk (titled (codes "a")) ∷ []
unfolding needs_of front_rules row_of rules effect step_by desk_page saving step_at
opened_desk = refl

-- a second one is not opened there
taken_desk : said opened 1 (commands.OpenDesk 2) ≡ Err (DeskTaken 2)
unfolding needs_of front_rules row_of rules effect step_by desk_page saving step_at
taken_desk = refl

-- what is saved is at the desk
written_desk : written.desks ≡ desk (titled (codes "z")) ∷ []
unfolding needs_of front_rules row_of rules effect step_by desk_page saving step_at
written_desk = refl

-- nobody saves at another's desk
not_own_desk : said opened 1 (commands.SaveDesk 2 (titled (codes "z"))) ≡ Err NoDesk
unfolding needs_of front_rules row_of rules effect step_by desk_page saving step_at
not_own_desk = refl

-- filing tells the revision, and ends the desk
filed_text : said written 2 (commands.File 2 None None) ≡ Ok (Id 4)
unfolding needs_of front_rules row_of rules effect step_by desk_page saving step_at
filed_text = refl

-- which is gone then
filed_desk : filed.desks ≡ []
unfolding needs_of front_rules row_of rules effect step_by desk_page saving step_at
filed_desk = refl

-- publishing makes the page live at once
published_page : said filed 1 (commands.Publish 2) ≡ Ok (Published false)
unfolding needs_of front_rules row_of rules effect step_by desk_page saving step_at
published_page = refl

-- a purge takes the first revision away, which nothing needs then
purged_page : said published 1 (commands.Purge 2) ≡ Ok (Removed 1)
unfolding needs_of front_rules row_of rules effect step_by desk_page saving step_at
purged_page = refl

-- the lock stops others
locked_page : said locked 2 (commands.OpenDesk 2) ≡ Err (Locked 1)
unfolding needs_of front_rules row_of rules effect step_by desk_page saving step_at
locked_page = refl

-- until the page is unlocked
unlocked_page : said (then locked 1 (commands.Unlock 2)) 2 (commands.OpenDesk 2) ≡ Ok Done
unfolding needs_of front_rules row_of rules effect step_by desk_page saving step_at
unlocked_page = refl

-- a live page is taken out of the public
unpublished_page : said published 1 (commands.Unpublish 2) ≡ Ok Done
unfolding needs_of front_rules row_of rules effect step_by desk_page saving step_at
unpublished_page = refl

-- a page is not submitted where neither it nor a page above it has a workflow
not_submitted : said start 1 (commands.Submit 2) ≡ Err NoWorkflow
unfolding needs_of front_rules row_of rules effect step_by desk_page saving step_at
not_submitted = refl
