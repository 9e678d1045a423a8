-- A desk that is opened stays: who opens it may work there.
use Rattle.std.proofs.Common.{◌≡◌, ℕ, Bool, true, false, cond, not, ◌||◌, List, [], ◌∷◌, Option, Some, None, is_some, refl, sym, ◌∙◌, arith}
use Rattle.std.specs.Prelude.{IfSome}
use Rattle.std.specs.Option.{option_map}
use Rattle.site_types.specs.Content.{ContentValue}
use Rattle.site_types.specs.declared.body.Body.{Body}
use Rattle.site_types.specs.declared.command.Command.TheVariants.{OpenDesk}
use Rattle.site_types.specs.declared.permission.Permission.TheVariants.{Change}
use Rattle.site_types.specs.declared.refusal.Refusal.TheVariants.{Denied}
use Rattle.tree_model.proofs.CountLemmas.{has_counts}
use Rattle.site_model.specs.World.{TreePart, pair_of}
use Rattle.site_model.specs.Rights.{Rights, permission_number, is_superuser, rights_of}
use Rattle.site_model.specs.Rules.{no_pages, are_root}
use Rattle.site_model.specs.Views.{View, body_of, view_of, meets, may_edit}
use Rattle.site_model.specs.Needs.{needs_of, unless_met, first_unmet, edit_needs, denied}
use Rattle.site_model.specs.Front.{StopsOthers, locked, in_moderation, aliased, locked_by, stage_in, row_of, front_rules}
use Rattle.site_model.specs.Bodies.{latest_content}
use Rattle.site_model.specs.Desks.{desk_page, keeps_desk, stays, desk_opened}
use Rattle.site_model.specs.Step as steps
use Rattle.site_model.specs.Losing.{suspects_of, shuts}
use Rattle.site_model.proofs.AcceptLemmas.{page_found}
use Rattle.site_model.proofs.ClearLemmas.{first_clear}
use Rattle.site_model.proofs.LosingTrees.{way_to, way-missing}
use Rattle.site_model.proofs.LosingRights.{viewed_at, view_at, hold_both}
use Rattle.site_model.proofs.LosingLemmas.{EndsFew}

-- one who is not denied is a superuser or meets the need
met : (super meets : Bool) (number : ℕ) →
    option_map Denied (cond super None (first_unmet (unless_met meets number ∷ []))) ≡ None →
    (super || meets) ≡ true
met true meets number is = refl
met false true number is = refl
met false false number is = absurd (cc)

-- a superuser may edit each page, and who may edit it may
edits : (rights : Rights) (view : View) → (rights.super || may_edit rights view) ≡ true →
    may_edit rights view ≡ true
edits rights view is = choice rights.super refl is
  where
    choice : (t : Bool) → rights.super ≡ t → (t || may_edit rights view) ≡ true →
        may_edit rights view ≡ true
    choice true at h = rw at refl
    choice false at h = h

-- who may edit a page and is not stopped keeps a desk there
keeps_open : (rights : Rights) (view : Option View) → (view ≡ None → ⊥) →
    (rights.super || meets (may_edit rights) view) ≡ true →
    locked StopsOthers rights.user (locked_by view) ≡ None →
    in_moderation StopsOthers rights (stage_in view) ≡ None → keeps_desk rights view ≡ true
keeps_open rights None there may lock stage = absurd (there refl)
keeps_open rights (Some view) there may lock stage =
    hold_both (may_edit rights view) _ (edits rights view may)
    (hold_both (not (is_some (locked StopsOthers rights.user view.locked_by))) _ (rw lock refl)
    (rw stage refl))

-- something is seen of a page that is there
some_view : (part : TreePart) (way : Option (List ℕ × Body)) → (way ≡ None → ⊥) →
    viewed_at part way ≡ None → ⊥
some_view part None there is = there refl
some_view part (Some way) there is = cc

-- who opens a desk keeps it
open_keeps : (part : TreePart) (caller page : ℕ) →
    front_rules part caller (OpenDesk page) ≡ None →
    keeps_desk (rights_of part caller) (view_of part page) ≡ true
unfolding front_rules row_of needs_of
open_keeps part caller page front =
    let view = view_of part page in
    let pages = first_clear (no_pages part.tree (page ∷ [])) _ front in
    let below = first_clear (are_root (page ∷ [])) _ pages.1 in
    let may = first_clear (denied part caller (edit_needs part caller page)) _ below.1 in
    let lock = first_clear (locked StopsOthers caller (locked_by view)) _ may.1 in
    let kind = first_clear (aliased true (body_of part.tree page)) _ lock.1 in
    let stage =
    first_clear (in_moderation StopsOthers (rights_of part caller) (stage_in view)) [] kind.1 in
    let found = page_found part.tree page [] pages.0 in
    let some = has_counts page part.tree found.0 in
    keeps_open (rights_of part caller) view
    (λ none. some_view part (way_to page part.tree)
    (λ missing. let never = way-missing page part.tree missing in
    let wrong : ⊥ = omega (arith, some, never) in wrong) (sym (view_at part page) ∙ none))
    (met (is_superuser part.users caller) (meets (may_edit (rights_of part caller)) view)
    (permission_number Change) may.0)
    lock.0 stage.0

-- opening a desk ends none
pub open_few : (part : TreePart) (desk : Option ContentValue) (now caller page : ℕ) →
    front_rules part caller (OpenDesk page) ≡ None →
    EndsFew part caller (OpenDesk page) (steps.effect part desk now caller (OpenDesk page))
unfolding steps.effect desk_page suspects_of shuts
open_few part desk now caller page front = record {
  shut = refl;
  pairs = refl;
  opened = own (latest_content part page);
  others = λ pair user stay free. stay;
}
  where
    own : (text : Option ContentValue) →
        IfSome (desk_opened caller (Some page) text)
        (λ one. (false ≡ false) × (stays part (pair_of one) ≡ true))
    own None = tt
    own (Some text) = (refl, open_keeps part caller page front)
