-- Plans that open no desk: what one has to have, and what is told of it.
use Rattle.std.proofs.Common.{◌≡◌, ◌≤◌, ℕ, List, length, Option, Some, None, Result, Ok, Err, IsSome, refl, sym, ap, subst, ◌∙◌, arith}
use Rattle.std.specs.Option.{option_map}
use Rattle.page_tree.specs.Tree.{Forest}
use Rattle.page_tree.specs.Rows.{row_with, rows_of}
use Rattle.site_types.specs.Content.{ContentValue}
use Rattle.site_types.specs.declared.body.Body.{Body}
use Rattle.site_types.specs.declared.command.Command.{Command}
use Rattle.site_types.specs.declared.reply.Reply.{Reply}
use Rattle.page_store.specs.Pages.{Page}
use Rattle.site_model.specs.World as worlds
use Rattle.site_model.specs.Bodies.{rebodied}
use Rattle.site_model.specs.Step.{step_by}
use Rattle.site_model.specs.Views.{body_of}
use Rattle.flat_model.specs.Fits.{Fits}
use Rattle.flat_model.specs.Flat.{people_of, lists_of}
use Rattle.flat_model.specs.Single.{body_change}
use Rattle.flat_model.specs.declared.change.Change.{Change}
use Rattle.flat_model.proofs.ListLemmas.{lists_are, quiet_revisions, quiet_people}
use Rattle.site_part.specs.Plans.{Prepares, HasPlan, rows_needed, people_needed, flows_needed, left_by, pages_of}
use Rattle.site_part.specs.Standing.{IsReady}
use Rattle.site_part.specs.declared.fault.Fault.{Fault}
use Rattle.site_part.specs.declared.part.TreePart.{TreePart}
use Rattle.site_part.specs.declared.plan.Plan.{Plan}
use Rattle.site_part.proofs.LiveLemmas.{body_in}
use Rattle.moderating.specs.Plans.{ending_plan, Plans}
use Rattle.flat_model.proofs.BodyRows.{rebodied_rows}
use Rattle.moderating.proofs.Steps.{part_left, ending}

-- a plan that ends these desks, where its change fits and leads where the step does
pub planned : (command : Command) (room : TreePart) (part after : worlds.TreePart)
    (desk : Option ContentValue) (now caller : ℕ) (reply : Reply) (ended : List worlds.DeskPair)
    (change : Change) → IsReady room part →
    step_by part desk now caller command
    ≡ Ok (part_left after part.desk_pairs ended, ending reply ended) →
    Fits (lists_of part) change →
    left_by (ending_plan reply (pages_of ended) change) (lists_of part)
    ≡ lists_of (part_left after part.desk_pairs ended) →
    rows_needed change.tree ≤ room.rows.spare → length change.revisions ≤ room.shelf.spare →
    people_needed change.people ≤ room.grants.spare →
    flows_needed change.flows ≤ room.flows.spare →
    HasPlan room part desk now caller command (ending_plan reply (pages_of ended) change)
planned command room part after desk now caller reply ended change ready step fits leads rows
    revisions people flows = record {
      after = part_left after part.desk_pairs ended;
      effect = ending reply ended;
      can = record {
        ready = ready;
        right = record {
          step = step;
          reply = refl;
          opened = refl;
          shut = refl;
          no_text = refl;
          fits = record { change = fits; opened = tt };
          leads = leads;
        };
        room = record {
          rows = rows;
          revisions = revisions;
          people = people;
          flows = flows;
          desks = omega arith;
        };
      };
    }

-- what is told of a plan, or of want of memory
pub prepared : (command : Command) (room : TreePart) (part : worlds.TreePart)
    (desk : Option ContentValue) (now caller : ℕ) (plan meant : Plan) (result : Result Plan Fault) →
    plan ≡ meant → HasPlan room part desk now caller command meant → Plans plan result →
    Prepares part desk now caller command room result
prepared command room part desk now caller plan meant (Ok made) same has is =
    subst (λ (p : Plan). HasPlan room part desk now caller command p) (sym (is ∙ same)) has
prepared command room part desk now caller plan meant (Err fault) same has is =
    subst (λ (f : Fault). Prepares part desk now caller command room (Err f)) (sym is) tt

-- a page that is kept has a row
pub row_there : (page : ℕ) (body : Body) (tree : Forest Body) → body_of tree page ≡ Some body →
    IsSome (row_with page (rows_of tree))
row_there page body tree found =
    by (row_with page (rows_of tree)) (body_in (rows_of tree) tree refl page)
  where
    by : (o : Option Page) → body_of tree page ≡ option_map (λ (row : Page). row.body) o →
        IsSome o
    by None is = absurd (cc)
    by (Some row) is = refl

-- a plan that gives a page other fields
pub body_planned : (command : Command) (room : TreePart) (part : worlds.TreePart)
    (desk : Option ContentValue) (now caller page : ℕ) (reply : Reply)
    (ended : List worlds.DeskPair) (change : Body → Body) (body new : Body)
    (time next_page next_revision : ℕ) → IsReady room part → body_of part.tree page ≡ Some body →
    change body ≡ new → time ≡ worlds.time_at part now → next_page ≡ part.next_page →
    next_revision ≡ part.next_revision →
    step_by part desk now caller command
    ≡ Ok (
      part_left (record part {
        time = worlds.time_at part now;
        tree = rebodied page change part.tree;
      }) part.desk_pairs ended,
      ending reply ended,
    ) →
    HasPlan room part desk now caller command
    (ending_plan reply (pages_of ended) (body_change page new time next_page next_revision))
body_planned command room part desk now caller page reply ended change body new time next_page
    next_revision ready found is time_is page_is revision_is step =
    let after : worlds.TreePart = record part {
      time = worlds.time_at part now;
      tree = rebodied page change part.tree;
    } in
    planned command room part after desk now caller reply ended
    (body_change page new time next_page next_revision) ready step (record {
      tree = tt;
      bodies = (row_there page body part.tree found, tt);
      gone = tt;
      revisions = tt;
      people = tt;
      flows = tt;
    })
    (lists_are
    (left_by (ending_plan reply (pages_of ended)
    (body_change page new time next_page next_revision)) (lists_of part))
    (lists_of (part_left after part.desk_pairs ended))
    (sym (rebodied_rows page change body new part.tree ready.reached.sound.pages.distinct found is))
    (quiet_revisions part.revisions) (quiet_people (people_of part)) refl refl refl time_is page_is
    revision_is) (omega arith) (omega arith) (omega arith) (omega arith)

-- a plan of other fields, by what it is made of
pub fields_same : (reply told : Reply) (shut pages : List ℕ) (page : ℕ) (new body : Body)
    (time next_page next_revision : ℕ) → reply ≡ told → shut ≡ pages → new ≡ body →
    ending_plan reply shut (body_change page new time next_page next_revision)
    ≡ ending_plan told pages (body_change page body time next_page next_revision)
fields_same reply told shut pages page new body time next_page next_revision a b c =
    ap (λ (r : Reply). ending_plan r shut (body_change page new time next_page next_revision)) a
    ∙ (ap (λ (s : List ℕ). ending_plan told s (body_change page new time next_page next_revision)) b
    ∙ ap (λ (n : Body). ending_plan told pages (body_change page n time next_page next_revision)) c)
