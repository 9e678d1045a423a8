-- Deletions of pages that aliases show, at worked values.
use Rattle.std.proofs.Common.{◌≡◌, ◌+◌, true, [], ◌∷◌, refl, codes, Some, None}
use Rattle.std.specs.Option.{option_map}
use Rattle.site_ids.specs.declared.ids.TheConstants.{LAST_REVISION_ID}
use Rattle.site_types.specs.declared.command.Command.TheVariants as commands
use Rattle.site_types.specs.declared.refusal.Refusal.TheVariants.{IdsFull}
use Rattle.site_types.specs.declared.reply.Reply.TheVariants.{Removed}
use Rattle.site_types.specs.declared.revision.Revision.{Revision}
use Rattle.site_model.specs.World.{TreePart}
use Rattle.site_model.specs.Views.{body_of, is_live_page}
use Rattle.site_model.specs.Needs.{needs_of}
use Rattle.site_model.specs.Front.{row_of, front_rules}
use Rattle.site_model.specs.Bodies.{latest_of}
use Rattle.site_model.specs.Desks.{desk_page}
use Rattle.site_model.specs.Aliases.{shown_content, is_regular}
use Rattle.site_model.specs.Delete.{aliases_left}
use Rattle.site_model.specs.Step.{rules, effect, step_by}
use Rattle.site_model.proofs.LaterExamples.{then, reply, refused, make, with_p}
use Rattle.site_model.proofs.Sites.{titled}

-- page 2, p, that is published, and its alias beside it, page 3, q
abbrev shown_twice : TreePart
shown_twice = then 2 (commands.Alias 2 1 (codes "q")) (then 1 (commands.Publish 2) with_p)

-- the same without page 2
abbrev without_p : TreePart
without_p = then 5 (commands.Delete 2) shown_twice

-- one page goes
one_page_goes : reply 5 (commands.Delete 2) shown_twice ≡ Removed 1
unfolding needs_of front_rules row_of rules effect step_by desk_page
one_page_goes = refl

-- its alias is a regular page then
alias_is_regular : is_regular (body_of without_p.tree 3) ≡ true
unfolding needs_of front_rules row_of rules effect step_by desk_page
alias_is_regular = refl

-- it is live, as page 2 was
alias_stays_live : is_live_page without_p.tree 3 ≡ true
unfolding needs_of front_rules row_of rules effect step_by desk_page
alias_stays_live = refl

-- it shows what that showed
alias_still_shows : shown_content without_p 3 ≡ titled (codes "p")
unfolding needs_of front_rules row_of rules effect step_by desk_page
alias_still_shows = refl

-- by a revision of its own, the next one
alias_has_revision :
    option_map (λ (revision : Revision). revision.id) (latest_of without_p 3) ≡ Some 2
unfolding needs_of front_rules row_of rules effect step_by desk_page
alias_has_revision = refl

-- the same with page 4 below page 2, page 5 beside that, an alias of page 2, and page 6 below the
-- root, an alias of page 4
abbrev shown_thrice : TreePart
shown_thrice =
    then 6 (commands.Alias 4 1 (codes "s")) (then 5 (commands.Alias 2 2 (codes "r"))
    (make 2 (codes "p") shown_twice))

-- the aliases outside are left, and that below page 2 goes with it
outside_are_left : aliases_left shown_thrice 2 ≡ 3 ∷ 6 ∷ []
unfolding needs_of front_rules row_of rules effect step_by desk_page
outside_are_left = refl

-- three pages go
three_pages_go : reply 7 (commands.Delete 2) shown_thrice ≡ Removed 3
unfolding needs_of front_rules row_of rules effect step_by desk_page
three_pages_go = refl

-- where no revision id is left
abbrev no_id_left : TreePart
no_id_left = record shown_twice { next_revision = LAST_REVISION_ID + 1 }

-- page 2 does not go, as its alias needs one
no_id_for_alias : refused 5 (commands.Delete 2) no_id_left ≡ Some IdsFull
unfolding needs_of front_rules row_of rules effect step_by desk_page
no_id_for_alias = refl

-- its alias may go
alias_may_go : refused 5 (commands.Delete 3) no_id_left ≡ None
unfolding needs_of front_rules row_of rules effect step_by desk_page
alias_may_go = refl
