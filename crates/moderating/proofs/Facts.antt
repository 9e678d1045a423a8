-- What is known of the page of a command that its first rules let pass.
use Rattle.std.proofs.Common.{◌≡◌, ℕ, Bool, true, false, List, [], ◌∷◌, Option, Some, None, refl, sym, ap, ◌∙◌}
use Rattle.std.specs.Option.{option_and_then}
use Rattle.page_tree.specs.Tree.{Forest, has_page}
use Rattle.site_types.specs.declared.body.Body.{Body}
use Rattle.site_types.specs.declared.command.Command.TheVariants as commands
use Rattle.site_types.specs.declared.refusal.Refusal.TheVariants.{IsAlias}
use Rattle.site_types.specs.declared.revision.Revision.{Revision}
use Rattle.site_model.specs.World as worlds
use Rattle.site_model.specs.Bodies.{revision_with, latest_of}
use Rattle.site_model.specs.Front.{Stops, StopsNobody, StopsOthers, StopsEveryone, naming, on_page, row_of, is_alias, locked, locked_by, aliased, front_by, front_rules}
use Rattle.site_model.specs.Needs.{needs_of, denied}
use Rattle.site_model.specs.Reached.{IsReachedPart}
use Rattle.site_model.specs.Rules.{no_pages, are_root}
use Rattle.site_model.specs.Sound.{IsBody, is_own}
use Rattle.site_model.specs.Views.{body_of, view_of}
use Rattle.site_model.proofs.AcceptLemmas.{front_parts, page_found}
use Rattle.site_model.proofs.ClearLemmas.{first_clear, test_clear}
use Rattle.site_model.proofs.Deeds.{below_root}
use Rattle.site_model.proofs.RegularLemmas.{kept_there, found_has}
use Rattle.flat_model.proofs.KeptPages.{own_found}

-- A page that is there, and is not the root.
pub record IsBelow (tree : Forest Body) (page : ℕ) : Type 0 where
  pub there : has_page page tree ≡ true
  pub below : page ≡ 1 → ⊥

-- a page whose kind is asked for is no alias where the first rules let it pass
pub not_alias : (part : worlds.TreePart) (caller page : ℕ) (lock moderation : Stops)
    (needs : List (Option ℕ)) →
    front_by part caller (on_page page lock true moderation) needs ≡ None →
    is_alias (body_of part.tree page) ≡ false
not_alias part caller page lock moderation needs none =
    let pages = first_clear (no_pages part.tree (page ∷ [])) _ none in
    let below = first_clear (are_root (page ∷ [])) _ pages.1 in
    let may = first_clear (denied part caller needs) _ below.1 in
    let free = first_clear (locked lock caller (locked_by (view_of part page))) _ may.1 in
    let alias = first_clear (aliased true (body_of part.tree page)) _ free.1 in
    test_clear (is_alias (body_of part.tree page)) IsAlias alias.0

module _ (part : worlds.TreePart) (caller page : ℕ) where
  -- the page of a command on a page below the root
  pub on_page_names : (lock : Stops) (alias : Bool) (moderation : Stops) (needs : List (Option ℕ)) →
      front_by part caller (on_page page lock alias moderation) needs ≡ None →
      IsBelow part.tree page
  on_page_names lock alias moderation needs none =
      let parts = front_parts part caller (on_page page lock alias moderation) needs none in
      record {
        there = (page_found part.tree page [] parts.pages).0;
        below = λ same. below_root page parts.below (sym same);
      }

  -- the page of a command that names it alone
  pub named_there : (below : List ℕ) (needs : List (Option ℕ)) →
      front_by part caller (naming (page ∷ []) below) needs ≡ None →
      has_page page part.tree ≡ true
  named_there below needs none =
      (page_found part.tree page []
      (front_parts part caller (naming (page ∷ []) below) needs none).pages).0

  -- so it is of the commands of moderation
  pub assign_there : (workflow : Option ℕ) →
      front_rules part caller (commands.Assign page workflow) ≡ None → has_page page part.tree ≡ true
  unfolding front_rules row_of
  assign_there workflow =
      named_there [] (needs_of part caller (commands.Assign page workflow))

  pub submit_names : front_rules part caller (commands.Submit page) ≡ None → IsBelow part.tree page
  unfolding front_rules row_of
  submit_names =
      on_page_names StopsOthers true StopsEveryone (needs_of part caller (commands.Submit page))

  pub approve_names : front_rules part caller (commands.Approve page) ≡ None →
      IsBelow part.tree page
  unfolding front_rules row_of
  approve_names =
      on_page_names StopsNobody false StopsNobody (needs_of part caller (commands.Approve page))

  pub reject_names : front_rules part caller (commands.Reject page) ≡ None → IsBelow part.tree page
  unfolding front_rules row_of
  reject_names =
      on_page_names StopsNobody false StopsNobody (needs_of part caller (commands.Reject page))

  pub cancel_names : front_rules part caller (commands.Cancel page) ≡ None → IsBelow part.tree page
  unfolding front_rules row_of
  cancel_names =
      on_page_names StopsNobody false StopsNobody (needs_of part caller (commands.Cancel page))

  -- and a submission asks for its kind
  pub submit_regular : front_rules part caller (commands.Submit page) ≡ None →
      is_alias (body_of part.tree page) ≡ false
  unfolding front_rules row_of
  submit_regular =
      not_alias part caller page StopsOthers StopsEveryone (needs_of part caller (commands.Submit page))

-- a page that is there is not missing
pub not_missing : (page : ℕ) (tree : Forest Body) → has_page page tree ≡ true →
    None ≡ body_of tree page → ⊥
not_missing page tree there none =
    let kept = kept_there page tree there in
    let no : ◌≡◌ {A = Option Body} None (Some kept.0) = none ∙ kept.1 in
    cc

-- a revision of a page that is named is not missing
named_found : (revisions : List Revision) (page : ℕ) (latest : Option ℕ) →
    is_own revisions page latest ≡ true →
    option_and_then (λ (id : ℕ). revision_with id revisions) latest ≡ None → ⊥
named_found revisions page None own none = cc
named_found revisions page (Some id) own none = own_found revisions page id own none

-- a page that is no alias has no source
no_source : (body : Body) → is_alias (Some body) ≡ false → body.source ≡ None
no_source body is = by body.source refl
  where
    by : (source : Option ℕ) → body.source ≡ source → body.source ≡ None
    by None same = same
    by (Some other) same = absurd (cc (ap (λ (one : Option ℕ). is_alias (Some (record body {
      source = one;
    }))) same))

-- a page below the root that is no alias has a latest revision
pub latest_there : (part : worlds.TreePart) (page : ℕ) → IsReachedPart part →
    IsBelow part.tree page → is_alias (body_of part.tree page) ≡ false →
    None ≡ latest_of part page → ⊥
latest_there part page reached below regular none =
    let there = kept_there page part.tree below.there in
    let body = there.0 in
    let found = there.1 in
    let kept = found_has (IsBody part.revisions part.next_user part.next_workflow part.workflows)
    page part.tree body reached.sound.bodies.bodies below.there found in
    let own = kept.regular below.below (no_source body (rw found at regular)) in
    let at : latest_of part page
    ≡ option_and_then (λ (id : ℕ). revision_with id part.revisions) body.latest = rw found refl in
    named_found part.revisions page body.latest own.latest (sym at ∙ sym none)

-- what is kept of such a page names a latest revision
pub latest_kept : (part : worlds.TreePart) (page : ℕ) (body : Body) → IsReachedPart part →
    IsBelow part.tree page → body_of part.tree page ≡ Some body →
    is_alias (body_of part.tree page) ≡ false → body.latest ≡ None → ⊥
latest_kept part page body reached below found regular none =
    let is : ◌≡◌ {A = Option Revision} None (latest_of part page) = rw (found, none) refl in
    latest_there part page reached below regular is
