-- What is planned of a move.
use Rattle.std.specs.Prelude.{◌≡◌, ℕ, false, List, [], ◌∷◌, filter, nat_eq, Option, Some, None, unwrap_or, Result, Ok, Err, if◌then◌else◌}
use Rattle.std.specs.Map.{lookup}
use Rattle.page_tree.specs.Tree.{Forest}
use Rattle.page_tree.specs.Rows.{Row, rows_of}
use Rattle.step_path.specs.Path.{path_text}
use Rattle.site_types.specs.declared.body.Body.{Body}
use Rattle.site_types.specs.declared.position.Position.{Position}
use Rattle.site_types.specs.declared.refusal.Refusal.{Refusal}
use Rattle.site_types.specs.declared.refusal.Refusal.TheVariants.{NothingNew}
use Rattle.site_types.specs.declared.reply.Reply.{Reply}
use Rattle.site_types.specs.declared.reply.Reply.TheVariants.{Page}
use Rattle.tree_model.specs.Changes.{path_in, url_in, changed_urls}
use Rattle.tree_model.specs.Places.{stays_put, moved_to, leads_into_itself}
use Rattle.page_store.specs.declared.plan.MovePlan.{MovePlan}
use Rattle.path_moves.specs.Plans.{planned_move}
use Rattle.slug_urls.specs.declared.fault.UrlFault.{UrlFault}
use Rattle.slug_urls.specs.declared.fault.UrlFault.TheVariants.{Taken, TooLong, Memory}
use Rattle.site_model.specs.LosingLaws.{is_lost_below}
use Rattle.site_model.specs.Moves.{into_itself, effect_refusal}
use Rattle.site_part.specs.Plans.{pages_of}
use Rattle.new_pages.specs.Plans.{IsSoundTree, NamesMove}
use Rattle.site_model.specs.World as worlds

-- The rules that may refuse a move that names pages which are there, and that its caller may give.
abbrev pub there_rules : Forest Body → ℕ → ℕ → Position → List (Option Refusal)
there_rules tree page target position =
    into_itself tree page target position
    ∷ (if stays_put page target position
    then Some NothingNew
    else effect_refusal tree page target position)
    ∷ []

-- the page that has the slug, if that is why there are no URLs
abbrev pub taken_by : {X : Type 0} → Result X UrlFault → Option ℕ
taken_by (Ok urls) = None
taken_by (Err (Taken other)) = Some other
taken_by (Err TooLong) = None
taken_by (Err Memory) = None

-- A move is to be planned in the rows of a sound world, and names pages which are there.
pub record IsNamed (pages : List (Row Body)) (part : worlds.TreePart) (page target : ℕ)
    (position : Position) : Type 0 where
  pub stands : pages ≡ rows_of part.tree
  pub sound : IsSoundTree part
  pub named : NamesMove part.tree page target position

-- It goes to another place, and does not lead into the page itself.
pub record IsAway (pages : List (Row Body)) (part : worlds.TreePart) (page target : ℕ)
    (position : Position) : Type 0 where
  pub named : IsNamed pages part page target position
  pub moves : stays_put page target position ≡ false
  pub outside : leads_into_itself part.tree page target position ≡ false

-- A plan of a move with the URLs that change: they are those of the tree.
pub record IsMovePlan (tree : Forest Body) (page target : ℕ) (position : Position)
    (made : MovePlan × List (ℕ × List ℕ)) : Type 0 where
  pub plan : planned_move tree page target position ≡ Ok made.0
  pub urls : made.1 ≡ changed_urls (rows_of tree) (rows_of (moved_to tree page target position))

-- the pages, rising, whose desks end where a page goes below a parent: those on it and below it
-- whose users may not edit there then
abbrev pub AreLostBelow : worlds.TreePart → ℕ → ℕ → List ℕ → Type 0
AreLostBelow part page parent ids =
    ids ≡ pages_of (filter (is_lost_below part page parent) part.desk_pairs)

-- what is told of a page by its row, where these pages get other paths and these get other URLs
abbrev pub told_reply : List (Row Body) → ℕ → List (ℕ × List ℕ) → List (ℕ × List ℕ) → Reply
told_reply pages page paths urls =
    Page page (path_text (unwrap_or (lookup (nat_eq page) paths) (path_in page pages)))
    (unwrap_or (lookup (nat_eq page) urls) (url_in page pages))
