-- Other bodies for pages that are due, one after another, keep a world sound; what is known of each
-- page that is due.
use Rattle.std.proofs.Common.{◌≡◌, ℕ, Bool, true, false, cond, nat_le, List, [], ◌∷◌, ◌++◌, Option, None, Some, refl, sym, subst, ◌∙◌, arith}
use Rattle.std.specs.Prelude.{IfSome}
use Rattle.std.specs.List.{AllByRecursion}
use Rattle.page_tree.specs.Tree.{Forest, bare, grown}
use Rattle.page_tree.specs.Rows.{Row, rows_below, rows_of, child_url}
use Rattle.site_ids.specs.Moment.{IsMoment}
use Rattle.site_types.specs.declared.body.Body.{Body}
use Rattle.site_types.specs.declared.revision.Revision.{Revision}
use Rattle.tree_model.specs.Shape.{AllPages}
use Rattle.tree_model.proofs.CountLemmas.{once}
use Rattle.tree_model.proofs.PageLemmas.{AllPages-both, all_weaker}
use Rattle.tree_model.proofs.SiblingLemmas.{all_append}
use Rattle.site_model.specs.World.{TreePart, time_at}
use Rattle.site_model.specs.Views.{body_of}
use Rattle.site_model.specs.Bodies.{rebodied}
use Rattle.site_model.specs.Ticks.{DuePage, due_key, with_due, all_due, due_by, each_changed}
use Rattle.site_model.specs.Sound.{IsRegular}
use Rattle.site_model.proofs.BodyLemmas.{AllPages-found}
use Rattle.site_model.proofs.BodySound.{IsKept, body_keeps_regular, body_keeps_sound}
use Rattle.site_model.proofs.Groups.{AreGroups}
use Rattle.site_model.proofs.OrderLemmas.{all_put}
use Rattle.site_model.proofs.RegularLemmas.{KeepRegular, regular_source, found_regular}
use Rattle.site_model.proofs.SourceLemmas.{same_body, found_is_there}

-- Another body for a regular page that is as it should be, whatever is kept of it by then.
pub record FitsDue (part : TreePart) (due : DuePage) (change : Body → Body) : Type 0 where
  pub regular : IsRegular part.tree due.page
  pub source : (body : Body) → (change body).source ≡ body.source
  pub kept :
      (body : Body) → IsKept part due.page body → body.source ≡ None →
      IsKept part due.page (change body)

-- a sound part at any moment is sound
pub at_moment : (part : TreePart) (time : ℕ) → IsMoment time → AreGroups part →
    AreGroups (record part { time = time })
at_moment part time moment sound = record {
  time = moment;
  pages = sound.pages;
  revisions = sound.revisions;
  bodies = sound.bodies;
  people = sound.people;
  tasks = sound.tasks;
  grants = sound.grants;
}

-- another body of a page that is due keeps a world sound
pub changed_sound : (part : TreePart) (due : DuePage) (change : Body → Body) → AreGroups part →
    FitsDue part due change →
    AreGroups (record part { tree = rebodied due.page change part.tree })
changed_sound part due change sound fits =
    let after = rebodied due.page change part.tree in
    at_moment (record part { time = time_at part 0; tree = after }) part.time sound.time
    (body_keeps_sound part 0 due.page change sound (omega arith) (record {
      source = fits.source;
      kept = λ body found is. fits.kept body is
          (regular_source part.tree due.page fits.regular body found);
    }))

-- what is due fits a part in which one page has another body
pub still_fits : (part : TreePart) (page : ℕ) (change other : Body → Body) (due : DuePage) →
    ((body : Body) → (change body).source ≡ body.source) → FitsDue part due other →
    FitsDue (record part { tree = rebodied page change part.tree }) due other
still_fits part page change other due same fits = record {
  regular = body_keeps_regular part.tree page change same due.page fits.regular;
  source = fits.source;
  kept = fits.kept;
}

-- the bodies of all pages that are due, one after another
pub each_sound : (change : DuePage → Body → Body) (due : List DuePage) (part : TreePart) →
    AreGroups part → AllByRecursion (λ one. FitsDue part one (change one)) due →
    AreGroups (each_changed change due part)
each_sound change [] part sound all = sound
each_sound change (due ∷ more) part sound all =
    each_sound change more (record part { tree = rebodied due.page (change due) part.tree })
    (changed_sound part due (change due) sound all.0)
    (all_weaker (λ one. FitsDue part one (change one)) _ more
    (λ one fits. still_fits part due.page (change due) (change one) one all.0.source fits) all.1)

-- the regular pages are regular afterwards
pub each_regular : (change : DuePage → Body → Body) (due : List DuePage) (part : TreePart) →
    ((one : DuePage) (body : Body) → (change one body).source ≡ body.source) →
    KeepRegular part.tree (each_changed change due part).tree
each_regular change [] part same page regular = regular
each_regular change (due ∷ more) part same page regular =
    each_regular change more (record part { tree = rebodied due.page (change due) part.tree }) same
    page (body_keeps_regular part.tree due.page (change due) (same due) page regular)

-- What other bodies for pages leave of a part.
pub record KeepsLists (part after : TreePart) : Type 0 where
  pub pairs : after.desk_pairs ≡ part.desk_pairs
  pub users : after.next_user ≡ part.next_user
  pub tasks : part.tasks ≡ after.tasks
  pub workflows : part.workflows ≡ after.workflows

-- other bodies for pages leave all but the tree
pub each_kept : (change : DuePage → Body → Body) (due : List DuePage) (part : TreePart) →
    KeepsLists part (each_changed change due part)
each_kept change [] part = record { pairs = refl; users = refl; tasks = refl; workflows = refl }
each_kept change (due ∷ more) part =
    let after : TreePart = record part { tree = rebodied due.page (change due) part.tree } in
    let kept = each_kept change more after in
    record {
      pairs = kept.pairs;
      users = kept.users;
      tasks = kept.tasks;
      workflows = kept.workflows;
    }

-- What is known of a page by its row.
pub record IsKnown (part : TreePart) (id : ℕ) (body : Body) : Type 0 where
  pub kept : IsKept part id body
  pub found : body_of part.tree id ≡ Some body

-- what holds of each page of one id, for every id, holds of each page
pub each_id : (R : ℕ → ℕ → Body → Type 0) (f : Forest Body) →
    ((page : ℕ) → AllPages (λ id slug body. R page id body) f) →
    AllPages (λ id slug body. R id id body) f
each_id R bare all = tt
each_id R (grown i step slug body kids rest) all =
    ((all i).0, each_id R kids (λ page. (all page).1), each_id R rest (λ page. (all page).2))

-- what holds of each page holds of each row
pub rows_hold : (P : ℕ → Body → Type 0) (parent : Option ℕ) (path url : List ℕ) (f : Forest Body) →
    AllPages (λ id slug body. P id body) f →
    AllByRecursion (λ (row : Row Body). P row.id row.body) (rows_below parent path url f)
rows_hold P parent path url bare all = tt
rows_hold P parent path url (grown i step slug body kids rest) all = (
  all.0,
  all_append (λ (row : Row Body). P row.id row.body)
      (rows_below (Some i) (path ++ step ∷ []) (child_url url slug) kids)
      (rows_below parent path url rest)
      (rows_hold P (Some i) (path ++ step ∷ []) (child_url url slug) kids all.1)
      (rows_hold P parent path url rest all.2),
)

-- each row of a sound part is known
pub rows_known : (part : TreePart) → AreGroups part →
    AllByRecursion (λ (row : Row Body). IsKnown part row.id row.body) (rows_of part.tree)
rows_known part sound =
    let tree = part.tree in
    rows_hold (λ id body. IsKnown part id body) None [] [] tree
    (AllPages-both (λ id slug body. IsKept part id body)
    (λ id slug body. id ≡ id → body_of tree id ≡ Some body)
    (λ id slug body. IsKnown part id body) tree
    (λ id slug body kept found. record { kept = kept; found = found refl }) sound.bodies.bodies
    (each_id (λ page id body. id ≡ page → body_of tree page ≡ Some body) tree
    (λ page. AllPages-found page tree (once tree sound.pages.distinct page))))

-- what holds of what is due of each row holds of all that is due
pub all_due_hold : (Q : DuePage → Type 0) (test : Row Body → Option DuePage)
    (rows : List (Row Body)) → AllByRecursion (λ (row : Row Body). IfSome (test row) Q) rows →
    AllByRecursion Q (all_due test rows)
all_due_hold Q test [] all = tt
all_due_hold Q test (row ∷ rows) all = one (test row) all.0 (all_due_hold Q test rows all.1)
  where
    one : (found : Option DuePage) → IfSome found Q → AllByRecursion Q (all_due test rows) →
        AllByRecursion Q (with_due found (all_due test rows))
    one None is more = more
    one (Some due) is more = all_put Q due_key due (all_due test rows) is more

-- what holds whenever a moment of a revision comes
pub due_holds : (Q : DuePage → Type 0) (now page : ℕ) (moment : Option ℕ) (revision : Revision) →
    ((at : ℕ) → Q (record { moment = at; page = page; revision = revision })) →
    IfSome (due_by now page moment revision) Q
due_holds Q now page None revision each = tt
due_holds Q now page (Some at) revision each = choice (nat_le at now)
  where
    choice : (t : Bool) →
        IfSome (cond t (Some (record { moment = at; page = page; revision = revision })) None) Q
    choice true = each at
    choice false = tt

-- What a page is that is live, or for which a revision is scheduled: it is regular.
pub record IsOwnPage (part : TreePart) (id : ℕ) (body : Body) : Type 0 where
  pub below : id ≡ 1 → ⊥
  pub none : body.source ≡ None

-- neither the root nor an alias is live
pub live_own : (part : TreePart) (id : ℕ) (body : Body) → IsKept part id body → body.live ≡ true →
    IsOwnPage part id body
live_own part id body kept live = record {
  below = λ same.
      let off : body.live ≡ false =
      subst (λ (one : Body). one.live ≡ false) (sym (kept.root same)) refl in
      both_values (sym off ∙ live);
  none = by body.source refl;
}
  where
    both_values : false ≡ true → ⊥
    both_values e = cc

    by : (source : Option ℕ) → body.source ≡ source → source ≡ None
    by None is = refl
    by (Some source) is =
        let alias = rw is at (kept.alias) in
        absurd (both_values (sym alias.live ∙ live))

-- neither the root nor an alias has a schedule
pub scheduled_own : (part : TreePart) (id : ℕ) (body : Body) (revision : ℕ) → IsKept part id body →
    body.scheduled ≡ Some revision → IsOwnPage part id body
scheduled_own part id body revision kept some = record {
  below = λ same.
      let off : body.scheduled ≡ None =
      subst (λ (one : Body). one.scheduled ≡ None) (sym (kept.root same)) refl in
      both_values (sym off ∙ some);
  none = by body.source refl;
}
  where
    both_values : ◌≡◌ {A = Option ℕ} None (Some revision) → ⊥
    both_values e = cc

    by : (source : Option ℕ) → body.source ≡ source → source ≡ None
    by None is = refl
    by (Some source) is =
        let alias = rw is at (kept.alias) in absurd (both_values (sym alias.scheduled ∙ some))

-- a page like that is regular
pub own_regular : (part : TreePart) (id : ℕ) (body : Body) → AreGroups part → IsKnown part id body →
    IsOwnPage part id body → IsRegular part.tree id
own_regular part id body sound known own =
    found_regular part.tree id (once part.tree sound.pages.distinct id) own.below
    (found_is_there part.tree id body known.found)
    (λ other found. subst (λ (one : Body). one.source ≡ None)
    (same_body body other (sym known.found ∙ found)) own.none)
