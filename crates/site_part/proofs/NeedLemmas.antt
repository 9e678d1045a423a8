-- The first need that is not met, by what is held and what is kept of a page.
use Rattle.std.proofs.Common.{◌≡◌, ℕ, Bool, true, false, ◌&&◌, ◌||◌, cond, nat_eq, List, [], ◌∷◌, ◌++◌, Option, Some, None, IsSome, is_some, unwrap_or, refl, sym, ap, ◌∙◌, rules}
use Rattle.std.specs.Prelude.{option_and_then}
use Rattle.std.specs.Option.{option_map}
use Rattle.page_tree.specs.Tree.{Forest, has_page}
use Rattle.page_tree.specs.Rows.{row_with, rows_of}
use Rattle.page_tree.proofs.RowLemmas.{has_page-rows}
use Rattle.site_types.specs.declared.body.Body.{Body}
use Rattle.site_types.specs.declared.permission.Permission.{Permission}
use Rattle.site_types.specs.declared.permission.Permission.TheVariants.{Add, Change, Publish, BulkDelete, Lock, Unlock}
use Rattle.site_types.specs.declared.position.Position.{Position}
use Rattle.site_types.specs.declared.world_rows.UserRow.{UserRow}
use Rattle.tree_model.specs.Places.{is_beside, parent_at}
use Rattle.page_store.specs.Pages.{Page}
use Rattle.site_model.specs.World.{TreePart}
use Rattle.site_model.specs.Rights as rights
use Rattle.site_model.specs.Rights.{rights_of, above_of, has, permission_number, is_superuser}
use Rattle.site_model.specs.Views.{Stage, body_of, view_of, stage_of, meets, moderates, may_edit}
use Rattle.site_model.specs.Needs as needs
use Rattle.site_model.specs.Needs.{first_unmet, unless_met, need_at, need_where, edit_need, unmet}
use Rattle.site_model.proofs.ViewLemmas.{seen, view_is}
use Rattle.grants.specs.declared.right.Held.{Held}
use Rattle.grants.specs.Granted.{seen_held, is_held}
use Rattle.site_part.specs.Needs.{is_by, answers}

-- a page that is there has a row
pub has_row : (page : ℕ) (tree : Forest Body) (pages : List Page) → pages ≡ rows_of tree →
    has_page page tree ≡ true → IsSome (row_with page pages)
has_row page tree pages stands there =
    by (row_with page pages)
    (ap (λ rows. is_some (row_with page rows)) stands
    ∙ (sym (has_page-rows page None [] [] tree) ∙ there))
  where
    by : (o : Option Page) → is_some o ≡ true → IsSome o
    by None is = absurd cc
    by (Some row) is = search rules

-- a page that has a row is kept
pub row_kept : (page : ℕ) (tree : Forest Body) (pages : List Page) → pages ≡ rows_of tree →
    IsSome (row_with page pages) →
    body_of tree page ≡ option_map (λ (row : Page). row.body) (row_with page pages) →
    (body : Body) × (body_of tree page ≡ Some body)
row_kept page tree pages stands there is = by (row_with page pages) there is
  where
    by : (o : Option Page) → IsSome o →
        body_of tree page ≡ option_map (λ (row : Page). row.body) o →
        (body : Body) × (body_of tree page ≡ Some body)
    by None some e = absurd (search rules)
    by (Some row) some e = (row.body, e)

-- the first of several needs
pub first_is : (one : Option ℕ) (more : List (Option ℕ)) (number : ℕ) → Some number ≡ one →
    Some number ≡ first_unmet (one ∷ more)
first_is None more number is = absurd cc
first_is (Some other) more number is = is

-- the needs after one that is met
pub later_is : (one result : Option ℕ) (more : List (Option ℕ)) → None ≡ one →
    result ≡ first_unmet more → result ≡ first_unmet (one ∷ more)
later_is None result more met is = is
later_is (Some other) result more met is = absurd cc

-- the only need
pub only_is : (one result : Option ℕ) → result ≡ one → result ≡ first_unmet (one ∷ [])
only_is None result is = is
only_is (Some number) result is = is

-- the first need of some, before others
pub some_of : (one more : List (Option ℕ)) (number : ℕ) → Some number ≡ first_unmet one →
    Some number ≡ first_unmet (one ++ more)
some_of [] more number is = absurd cc
some_of (None ∷ one) more number is = some_of one more number is
some_of (Some other ∷ one) more number is = is

-- the needs after some that are met
pub rest_of : (one more : List (Option ℕ)) (result : Option ℕ) → None ≡ first_unmet one →
    result ≡ first_unmet more → result ≡ first_unmet (one ++ more)
rest_of [] more result met is = is
rest_of (None ∷ one) more result met is = rest_of one more result met is
rest_of (Some other ∷ one) more result met is = absurd cc

-- a need that is met
met : (test : Bool) (number : ℕ) → test ≡ true → None ≡ unless_met test number
met true number is = refl
met false number is = absurd cc

-- and one that is not
not_met : (test : Bool) (number : ℕ) → test ≡ false → Some number ≡ unless_met test number
not_met true number is = absurd cc
not_met false number is = refl

-- a permission is held where it is among those that are held
held_has : (part : TreePart) (user page : ℕ) (permission : Permission) (held : Held) →
    seen_held held ≡ rights.held part user page →
    is_held held permission ≡ has part user permission page
held_has part user page Add held is = ap (λ (h : rights.Held). h.add) is
held_has part user page Change held is = ap (λ (h : rights.Held). h.change) is
held_has part user page Publish held is = ap (λ (h : rights.Held). h.publish) is
held_has part user page BulkDelete held is = ap (λ (h : rights.Held). h.bulk_delete) is
held_has part user page Lock held is = ap (λ (h : rights.Held). h.lock) is
held_has part user page Unlock held is = ap (λ (h : rights.Held). h.unlock) is

module _ (part : TreePart) (user page : ℕ) (permission : Permission) (held : Held)
    (is_held_there : seen_held held ≡ rights.held part user page) (result : Bool)
    (is : result ≡ is_held held permission) where
  -- the need of a permission that is held
  pub hold_met : result ≡ true → None ≡ need_at part user permission page
  hold_met holds =
      met (has part user permission page) (permission_number permission)
      (sym (held_has part user page permission held is_held_there) ∙ (sym is ∙ holds))

  -- and of one that is not
  pub hold_unmet : (number : ℕ) → number ≡ permission_number permission → result ≡ false →
      Some number ≡ need_at part user permission page
  hold_unmet number same holds =
      ap Some same
      ∙ not_met (has part user permission page) (permission_number permission)
      (sym (held_has part user page permission held is_held_there) ∙ (sym is ∙ holds))

module _ (part : TreePart) (user at : ℕ) (permission : Permission) (test : Bool) where
  -- a need that is met, where a test holds or not
  pub where_met : None ≡ need_at part user permission at →
      None ≡ need_where test part user permission at
  where_met is = by test
    where
      by : (t : Bool) → None ≡ need_where t part user permission at
      by true = is
      by false = refl

  -- a need where the test holds
  pub where_true : (result : Option ℕ) (told : Bool) → told ≡ test → told ≡ true →
      result ≡ need_at part user permission at →
      result ≡ need_where test part user permission at
  where_true result told is holds need = need ∙ rw (← is, holds) refl

  -- and where it does not
  pub where_false : (told : Bool) → told ≡ test → told ≡ false →
      None ≡ need_where test part user permission at
  where_false told is fails = rw (← is, fails) refl

  -- a need that is not met, where the test holds
  pub where_told : (result : Option ℕ) (told : Bool) (number : ℕ) → told ≡ test →
      result ≡ cond told (Some number) None → Some number ≡ need_at part user permission at →
      result ≡ need_where test part user permission at
  where_told result told number is same need = by told is same
    where
      by : (t : Bool) → t ≡ test → result ≡ cond t (Some number) None →
          result ≡ need_where test part user permission at
      by true e s = s ∙ (need ∙ rw (← e) refl)
      by false e s = s ∙ rw (← e) refl

-- the parent to which a position leads, by the rows
pub parent_is : (tree : Forest Body) (pages : List Page) (target parent : ℕ) (position : Position) →
    pages ≡ rows_of tree →
    parent ≡ cond (is_beside position)
    (unwrap_or (option_and_then (λ (row : Page). row.parent) (row_with target pages)) 0) target →
    parent ≡ parent_at tree target position
parent_is tree pages target parent position stands is =
    is
    ∙ ap (λ rows. cond (is_beside position)
    (unwrap_or (option_and_then (λ (row : Page). row.parent) (row_with target rows)) 0) target)
    stands

module _ (part : TreePart) (user page : ℕ) (body : Body)
    (kept : body_of part.tree page ≡ Some body) where
  -- what is seen of a page
  view_kept : view_of part page ≡ Some (seen part (above_of part.tree page) body)
  view_kept = view_is part page ∙ rw kept refl

  module _ (held : Held) (is_held_there : seen_held held ≡ rights.held part user page)
      (result : Bool)
      (is : result ≡ held.change || ((held.add && nat_eq body.owner user)
      || moderates (rights_of part user) (stage_of part body.moderation))) where
    -- one may edit a page by these three rights
    edits : result ≡ meets (may_edit (rights_of part user)) (view_of part page)
    edits =
        is
        ∙ (rw (
          held_has part user page Change held is_held_there,
          held_has part user page Add held is_held_there,
        ) refl
        ∙ ap (meets (may_edit (rights_of part user))) (sym view_kept))

    -- so the need to edit it is met
    pub edit_met : result ≡ true → None ≡ edit_need part user page
    edit_met holds =
        met (meets (may_edit (rights_of part user)) (view_of part page)) (permission_number Change)
        (sym edits ∙ holds)

    -- or not
    pub edit_unmet : result ≡ false → Some 2 ≡ edit_need part user page
    edit_unmet fails =
        not_met (meets (may_edit (rights_of part user)) (view_of part page))
        (permission_number Change) (sym edits ∙ fails)

  -- whoever has locked a page is who its row names
  locks : meets (needs.has_locked user) (view_of part page) ≡ is_by body.locked_by user
  locks = ap (meets (needs.has_locked user)) view_kept ∙ by body.locked_by refl
    where
      by : (other : Option ℕ) → body.locked_by ≡ other →
          needs.has_locked user (seen part (above_of part.tree page) body)
          ≡ is_by body.locked_by user
      by None e = rw e refl
      by (Some other) e = rw e refl

  -- whoever has locked a page may unlock it
  pub unlock_met : (result : Bool) → result ≡ is_by body.locked_by user → result ≡ true →
      None ≡ first_unmet (needs.unlock_needs part user page)
  unlock_met result is holds =
      only_is (unless_met (meets (needs.has_locked user) (view_of part page)
      || has part user Unlock page) (permission_number Unlock)) None
      (met _ (permission_number Unlock)
      (ap (λ t. t || has part user Unlock page) (locks ∙ (sym is ∙ holds))))

  -- anybody else needs the permission
  pub unlock_else : (result : Bool) (need : Option ℕ) → result ≡ is_by body.locked_by user →
      result ≡ false → need ≡ need_at part user Unlock page →
      need ≡ first_unmet (needs.unlock_needs part user page)
  unlock_else result need is fails told =
      only_is (unless_met (meets (needs.has_locked user) (view_of part page)
      || has part user Unlock page) (permission_number Unlock)) need
      (told ∙ ap (λ t. unless_met (t || has part user Unlock page) (permission_number Unlock))
      (sym (locks ∙ (sym is ∙ fails))))

  -- whoever has submitted a moderation may give it up
  pub cancel_met : (result : Bool) → result ≡ needs.has_submitted user (Some body) →
      result ≡ true → None ≡ first_unmet (needs.cancel_needs part user page)
  cancel_met result is holds =
      only_is (unless_met (needs.has_submitted user (body_of part.tree page)
      || has part user Publish page) (permission_number Publish)) None
      (met _ (permission_number Publish)
      (ap (λ t. t || has part user Publish page)
      (ap (needs.has_submitted user) kept ∙ (sym is ∙ holds))))

  -- anybody else needs the permission
  pub cancel_else : (result : Bool) (need : Option ℕ) →
      result ≡ needs.has_submitted user (Some body) → result ≡ false →
      need ≡ need_at part user Publish page →
      need ≡ first_unmet (needs.cancel_needs part user page)
  cancel_else result need is fails told =
      only_is (unless_met (needs.has_submitted user (body_of part.tree page)
      || has part user Publish page) (permission_number Publish)) need
      (told ∙ ap (λ t. unless_met (t || has part user Publish page) (permission_number Publish))
      (sym (ap (needs.has_submitted user) kept ∙ (sym is ∙ fails))))

  -- who may answer a moderation, by where it stands
  answers_kept : answers (rights_of part user) (stage_of part body.moderation)
      ≡ meets (needs.may_answer (rights_of part user)) (view_of part page)
  answers_kept =
      by (stage_of part body.moderation) refl
      ∙ ap (meets (needs.may_answer (rights_of part user))) (sym view_kept)
    where
      by : (stage : Option Stage) → stage_of part body.moderation ≡ stage →
          answers (rights_of part user) stage
          ≡ needs.may_answer (rights_of part user) (seen part (above_of part.tree page) body)
      by None e = rw e refl
      by (Some stage) e = rw e refl

  module _ (result : Bool)
      (is : result ≡ answers (rights_of part user) (stage_of part body.moderation)) where
    -- who may answer needs nothing more
    pub answer_met : result ≡ true → None ≡ first_unmet (needs.answer_needs part user page)
    answer_met holds =
        only_is (unless_met (meets (needs.may_answer (rights_of part user)) (view_of part page))
        needs.APPROVE_NEED) None
        (met _ needs.APPROVE_NEED (sym (is ∙ answers_kept) ∙ holds))

    -- and else the need to be asked is not met
    pub answer_unmet : result ≡ false →
        Some needs.APPROVE_NEED ≡ first_unmet (needs.answer_needs part user page)
    answer_unmet fails =
        only_is (unless_met (meets (needs.may_answer (rights_of part user)) (view_of part page))
        needs.APPROVE_NEED) (Some needs.APPROVE_NEED)
        (not_met _ needs.APPROVE_NEED (sym (is ∙ answers_kept) ∙ fails))

-- who is no superuser among the users of a store is none in a world
pub no_superuser : (part : TreePart) (users : List UserRow) (user : ℕ) → users ≡ part.users →
    is_superuser users user ≡ false → is_superuser part.users user ≡ false
no_superuser part users user same none = ap (λ us. is_superuser us user) (sym same) ∙ none

-- who is one, is one there
pub superuser_there : (part : TreePart) (users : List UserRow) (user : ℕ) → users ≡ part.users →
    is_superuser users user ≡ true → (all : List (Option ℕ)) → None ≡ unmet part user all
superuser_there part users user same super all =
    let there : is_superuser part.users user ≡ true =
    ap (λ us. is_superuser us user) (sym same) ∙ super in
    rw there refl

-- the first need that is not met, of one who is no superuser
pub unmet_is : (part : TreePart) (user : ℕ) → is_superuser part.users user ≡ false →
    (all : List (Option ℕ)) (need : Option ℕ) → need ≡ first_unmet all →
    need ≡ unmet part user all
unmet_is part user none all need is = is ∙ ap (λ t. cond t None (first_unmet all)) (sym none)

-- one who is no superuser needs to be one
pub super_unmet : (part : TreePart) (user : ℕ) → is_superuser part.users user ≡ false →
    Some needs.SUPERUSER_NEED ≡ first_unmet (needs.superuser_needs part user)
super_unmet part user none = rw none refl
