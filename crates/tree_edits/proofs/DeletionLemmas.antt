-- The plan of a deletion that no rule refuses.
use Rattle.std.proofs.Common.{◌≡◌, ◌<◌, ◌≤◌, ◌+◌, ℕ, Bool, true, false, ◌||◌, List, [], ◌∷◌, length, filter, max, Option, None, nat_eq, refl, ap, ◌∙◌, arith}
use Rattle.std.specs.List.{AllByRecursion, list_any}
use Rattle.std.proofs.lemmas.Bool.Decides.{nat_tests}
use Rattle.std.proofs.lemmas.Map.Steps.{length-le_from_distinct_below}
use Rattle.page_tree.specs.Tree.{Forest, bare, grown, node_of, ids_of}
use Rattle.site_ids.specs.declared.ids.TheConstants.{LAST_PAGE_ID}
use Rattle.site_types.specs.Content.{ContentValue}
use Rattle.site_types.specs.declared.body.Body.{Body}
use Rattle.site_types.specs.declared.command.Command.TheVariants.{Delete}
use Rattle.site_types.specs.declared.reply.Reply.TheVariants.{Removed}
use Rattle.tree_model.specs.Shape.{AllPages}
use Rattle.tree_model.proofs.CountLemmas.{once, distinct_ids, cut_counts}
use Rattle.tree_model.proofs.PageLemmas.{AllPages-node_of}
use Rattle.tree_model.proofs.SiblingLemmas.{all_append}
use Rattle.site_model.specs.World.{TreePart, time_at}
use Rattle.site_model.specs.Create.{plain_deed}
use Rattle.site_model.specs.Delete.{aliases_left, delete_rules, deleted_at_once, count_gone}
use Rattle.site_model.specs.Losing.{DesksIn, is_suspect}
use Rattle.site_model.specs.LosingLaws.{desks_within}
use Rattle.site_model.specs.Sound.{IsGiven}
use Rattle.site_model.proofs.DeletedForm.{deletion_at_once}
use Rattle.site_model.proofs.LosingFacts.{deletion_ends_all}
use Rattle.site_part.specs.Plans.{HasPlan, pages_of}
use Rattle.site_part.specs.Standing.{IsSame}
use Rattle.site_part.specs.declared.part.TreePart.{TreePart as KeptPart}
use Rattle.site_part.proofs.StandingLemmas.{same_ready}
use Rattle.tree_edits.specs.Leaving.{AreDetached}
use Rattle.tree_edits.specs.declared.leaving.LeftAliases.{LeftAliases}
use Rattle.new_pages.specs.Plans.{IsAsked, IsSoundTree}
use Rattle.tree_edits.proofs.DeletionChange.{deletion_plan, deletion_fits, deletion_leads}
use Rattle.new_pages.proofs.CommandLemmas.{delete_names, delete_own, delete_done, delete_desk}
use Rattle.new_pages.proofs.EndingSteps.{ending, left_open, ends_step}

-- each id of some pages is below what each page's id is below
ids_below : (n : ℕ) (f : Forest Body) → AllPages (λ id slug body. IsGiven n id) f →
    AllByRecursion (λ id. id < n) (ids_of f)
ids_below n bare all = tt
ids_below n (grown i s slug body kids rest) all = (
  all.0.1,
  all_append (λ id. id < n) (ids_of kids) (ids_of rest) (ids_below n kids all.1)
      (ids_below n rest all.2),
)

-- a number that is in a list is below what each of the list is below
member_below : (n : ℕ) (xs : List ℕ) → AllByRecursion (λ id. id < n) xs → (q : ℕ) →
    list_any (nat_eq q) xs ≡ true → q < n
member_below n [] all q is = absurd (cc)
member_below n (x ∷ xs) all q is =
    choice (nat_eq q x) refl (λ any. member_below n xs all.1 q any) is
  where
    choice : (t : Bool) → nat_eq q x ≡ t → (list_any (nat_eq q) xs ≡ true → q < n) →
        (t || list_any (nat_eq q) xs) ≡ true → q < n
    choice true e later any =
        let same : q ≡ x = grind (arith, nat_tests) in
        omega (arith, same, all.0)
    choice false e later any = later any

-- pages have ids of their own below the next one, so that they are as many at most
pub count_fits : (part : TreePart) (page : ℕ) → IsSoundTree part →
    length (ids_of (node_of page part.tree)) ≤ LAST_PAGE_ID + 1
count_fits part page sound =
    let tree = part.tree in
    let node = node_of page tree in
    let own = distinct_ids node (λ j.
    let sum = cut_counts page j tree (once tree sound.distinct page) in
    let most = once tree sound.distinct j in omega (arith, sum, most)) in
    let below = ids_below part.next_page node
    (AllPages-node_of (λ id slug body. IsGiven part.next_page id) page tree sound.page_ids) in
    let fits = length-le_from_distinct_below (ids_of node) part.next_page own
    (member_below part.next_page (ids_of node) below) in
    let next = sound.next_page.1 in
    omega (arith, fits, next)

-- the plan of a deletion can be committed where room was made: the desks on the page and below it
-- end
pub deletion_planned : (kept room : KeptPart) (part : TreePart) (desk : Option ContentValue)
    (now caller page removed : ℕ) (gone shut : List ℕ) (left : LeftAliases)
    (time next_page next_revision : ℕ) → IsAsked kept part caller (Delete page) →
    IsSame kept room → length left.revisions ≤ room.shelf.spare →
    delete_rules part now caller page ≡ None →
    AreDetached part (time_at part now) caller (aliases_left part page) left →
    gone ≡ ids_of (node_of page part.tree) →
    shut ≡ pages_of (filter (is_suspect part (DesksIn page)) part.desk_pairs) →
    removed ≡ length gone → time ≡ max kept.time now → next_page ≡ kept.next_page →
    next_revision ≡ part.next_revision + length (aliases_left part page) →
    HasPlan room part desk now caller (Delete page)
    (deletion_plan (Removed removed) page gone left shut time next_page next_revision)
deletion_planned kept room part desk now caller page removed gone shut left time next_page
    next_revision asked same spare clear detached gone_is shut_is removed_is time_is page_is
    revision_is =
    let named = delete_names part caller page asked.front in
    let after = deleted_at_once part now caller page in
    let reply = Removed (count_gone part page) in
    let ended = desks_within part page in
    let sound = asked.ready.reached.sound in
    record {
      after = left_open after ended part.desk_pairs;
      effect = ending reply ended;
      can = record {
        ready = same_ready kept room part same asked.ready;
        right = record {
          step = ends_step part desk now caller (Delete page) after reply sound asked.front
              (delete_own part desk now caller page ∙ clear) (delete_desk page)
              (delete_done part desk now caller page
              ∙ ap (λ (one : TreePart). plain_deed one reply)
              (deletion_at_once part now caller page sound)) refl ended
              (λ left_world told is.
              (deletion_ends_all part left_world told desk now caller page sound is).1);
          reply = ap Removed (removed_is ∙ ap length gone_is);
          opened = refl;
          shut = shut_is;
          no_text = refl;
          fits = record {
            change = deletion_fits part now caller page sound named.0 named.1 left detached gone time
                next_page next_revision gone_is;
            opened = tt;
          };
          leads = deletion_leads part now caller page sound named.0 named.1 left detached ended
              (Removed removed) gone shut time next_page next_revision gone_is shut_is
              (time_is ∙ ap (λ t. max t now) asked.ready.stands.time)
              (page_is ∙ asked.ready.stands.next_page) revision_is;
        };
        room = record {
          rows = omega arith;
          revisions = spare;
          people = omega arith;
          flows = omega arith;
          desks = omega arith;
        };
      };
    }
