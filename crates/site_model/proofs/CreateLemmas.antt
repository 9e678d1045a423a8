-- What a page that is appended below its parent does to the rows of the other pages.
use Rattle.std.proofs.Common.{◌≡◌, ◌+◌, ℕ, Bool, true, false, not, List, [], ◌∷◌, ◌++◌, Option, Some, None, Ok, cond, ◌||◌, nat_eq, refl, sym, ap, subst, ◌∙◌, arith}
use Rattle.std.specs.List.{AllByRecursion, IsDistinct}
use Rattle.std.proofs.lemmas.Bool.Decides.{nat_tests}
use Rattle.std.proofs.lemmas.List.{append-nil, map-append}
use Rattle.std.proofs.lemmas.List.Elements.{filter-append}
use Rattle.page_tree.specs.Tree.{Forest, bare, grown, End, AllIds, ids_of, HasDistinctIds, has_page, last_step, put_last, graft}
use Rattle.page_tree.specs.Walk.{kid_count}
use Rattle.page_tree.specs.Rows.{Row, rows_below, rows_of, child_url, is_parent, with_kid, raise_count}
use Rattle.page_tree.proofs.RowLemmas.{raise_count-others, AllIds-ids_of, AllIds-weaker}
use Rattle.page_tree.proofs.RootLemmas.{leaf_row, rows_below-put_last, kid_count-put_last}
use Rattle.site_types.specs.Content.{ContentValue}
use Rattle.site_types.specs.declared.command.Command.TheVariants.{Create}
use Rattle.site_model.specs.World.{TreePart, Effect, time_at}
use Rattle.site_model.specs.Create.{fresh_body, plain_revision}
use Rattle.site_model.specs.Step.{step_by}
use Rattle.site_model.specs.Step as steps
use Rattle.site_model.specs.Laws.{KeepsLists, other_rows}
use Rattle.site_model.proofs.AcceptLemmas.{accepted}

-- what holds of each of two lists together holds of each of either
all_split : (P : ℕ → Type 0) (xs ys : List ℕ) → AllByRecursion P (xs ++ ys) →
    AllByRecursion P xs × AllByRecursion P ys
all_split P [] ys h = (tt, h)
all_split P (x ∷ xs) ys h = let more = all_split P xs ys h.1 in ((h.0, more.0), more.1)

-- two lists that are distinct together are distinct each
distinct_split : (xs ys : List ℕ) → IsDistinct nat_eq (xs ++ ys) →
    IsDistinct nat_eq xs × IsDistinct nat_eq ys
unfolding IsDistinct
distinct_split [] ys h = (tt, h)
distinct_split (x ∷ xs) ys h =
    let more = distinct_split xs ys h.1 in
    let first = all_split _ xs ys h.0 in
    ((first.0, more.0), more.1)

-- two ids that differ, by the test
other_id : (id new : ℕ) → (id ≡ new → ⊥) → nat_eq id new ≡ false
other_id id new h = grind (arith, nat_tests)

module _ {Body : Type 0} where
  -- the ids of a page's children and of its later siblings are distinct, and none of them is the
  -- page's
  parts_apart : (i s : ℕ) (own : List ℕ) (body : Body) (kids rest : Forest Body) →
      HasDistinctIds (grown i s own body kids rest) →
      AllIds (λ id. id ≡ i → ⊥) kids × AllIds (λ id. id ≡ i → ⊥) rest × HasDistinctIds kids ×
      HasDistinctIds rest
  unfolding IsDistinct
  parts_apart i s own body kids rest h =
      let ids = all_split _ (ids_of kids) (ids_of rest) h.0 in
      let more = distinct_split (ids_of kids) (ids_of rest) h.1 in (
        AllIds-weaker _ _ kids apart (AllIds-ids_of _ kids ids.0),
        AllIds-weaker _ _ rest apart
            (AllIds-ids_of _ rest ids.1),
        more.0,
        more.1,
      )
    where
      apart : (id : ℕ) → nat_eq i id ≡ false → id ≡ i → ⊥
      apart id h e = grind (arith, nat_tests)

  -- an id that no page has differs from each page's id
  free_apart : (new : ℕ) (f : Forest Body) → has_page new f ≡ false → AllIds (λ id. id ≡ new → ⊥) f
  free_apart new bare h = tt
  free_apart new (grown i s own body kids rest) h = parts (nat_eq i new) (has_page new kids)
      (has_page new rest) refl refl refl (free_apart new kids) (free_apart new rest) h
    where
      differs : (id : ℕ) → nat_eq id new ≡ false → id ≡ new → ⊥
      differs id k e = grind (arith, nat_tests)

      parts : (a b c : Bool) → nat_eq i new ≡ a → has_page new kids ≡ b → has_page new rest ≡ c →
          (has_page new kids ≡ false → AllIds (λ id. id ≡ new → ⊥) kids) →
          (has_page new rest ≡ false → AllIds (λ id. id ≡ new → ⊥) rest) → (a || (b || c)) ≡ false →
          AllIds (λ id. id ≡ new → ⊥) (grown i s own body kids rest)
      parts false false false p q r below after none = (differs i p, below q, after r)
      parts true b c p q r below after none = absurd (cc)
      parts false true c p q r below after none = absurd (cc)
      parts false false true p q r below after none = absurd (cc)

  -- without the row of an id that no page has, the rows are the same
  other_rows-free : (new : ℕ) (q : Option ℕ) (path url : List ℕ) (f : Forest Body) →
      AllIds (λ id. id ≡ new → ⊥) f →
      other_rows new (rows_below q path url f) ≡ rows_below q path url f
  other_rows-free new q path url bare apart = refl
  other_rows-free new q path url (grown i s own body kids rest) apart =
      let below = other_rows-free new (Some i) (path ++ s ∷ []) (child_url url own) kids apart.1 in
      let after = other_rows-free new q path url rest apart.2 in
      let differs : nat_eq i new ≡ false = grind (arith, nat_tests) in
      rw (
        differs,
        filter-append (λ (row : Row Body). not (nat_eq row.id new))
            (rows_below (Some i) (path ++ s ∷ []) (child_url url own) kids)
            (rows_below q path url rest),
        below,
        after,
      ) refl

  -- a graft further down keeps the number of siblings
  kid_count-graft : (parent : ℕ) (node f : Forest Body) →
      kid_count (graft parent End node f) ≡ kid_count f
  kid_count-graft parent node bare = refl
  kid_count-graft parent node (grown i s own body kids rest) = choice (nat_eq i parent)
      (kid_count-graft parent node rest)
    where
      choice : (t : Bool) → kid_count (graft parent End node rest) ≡ kid_count rest →
          kid_count (cond t (grown i s own body (put_last 0 node kids) rest)
          (grown i s own body (graft parent End node kids) (graft parent End node rest))) ≡
          kid_count rest + 1
      choice true e = refl
      choice false e = ap (λ n. n + 1) e

  -- The rows but the new one are those that were there, but that the parent counts one child more.
  pub other_rows-graft : (parent new step : ℕ) (slug : List ℕ) (body : Body) (q : Option ℕ)
      (path url : List ℕ) (f : Forest Body) →
      HasDistinctIds f → AllIds (λ id. id ≡ new → ⊥) f →
      other_rows new (rows_below q path url
      (graft parent End (grown new step slug body bare bare) f)) ≡ raise_count (Some parent)
      (rows_below q path url f)
  other_rows-graft parent new step slug body q path url bare distinct free = refl
  other_rows-graft parent new step slug body q path url (grown i s own b kids rest) distinct free =
      let apart = parts_apart i s own b kids rest distinct in
      choice (nat_eq i parent) refl
      (other_rows-graft parent new step slug body (Some i) (path ++ s ∷ []) (child_url url own) kids
      apart.2 free.1)
      (other_rows-graft parent new step slug body q path url rest apart.3 free.2)
    where
      choice : (t : Bool) → nat_eq i parent ≡ t →
          other_rows new (rows_below (Some i) (path ++ s ∷ []) (child_url url own)
          (graft parent End (grown new step slug body bare bare) kids)) ≡ raise_count
          (Some parent) (rows_below (Some i) (path ++ s ∷ []) (child_url url own) kids) →
          other_rows new (rows_below q path url
          (graft parent End (grown new step slug body bare bare) rest)) ≡ raise_count
          (Some parent) (rows_below q path url rest) →
          other_rows new (rows_below q path url
          (cond t (grown i s own b (put_last 0 (grown new step slug body bare bare) kids) rest)
          (grown i s own b (graft parent End (grown new step slug body bare bare) kids)
          (graft parent End (grown new step slug body bare bare) rest)))) ≡ raise_count
          (Some parent) (rows_below q path url (grown i s own b kids rest))
      choice true is below after =
          let apart = parts_apart i s own b kids rest distinct in
          let found : i ≡ parent = grind (arith, nat_tests) in
          let differs : nat_eq i new ≡ false = other_id i new free.0 in
          let same : nat_eq new new ≡ true = grind (arith, nat_tests) in
          let turned : nat_eq parent i ≡ true = grind (arith, nat_tests) in
          let grafted = rows_below-put_last (Some i) (path ++ s ∷ []) (child_url url own) 0 new step
          slug body kids in
          let both = filter-append (λ (row : Row Body). not (nat_eq row.id new))
          (rows_below (Some i) (path ++ s ∷ []) (child_url url own) kids ++ leaf_row new
          (Some i) ((path ++ s ∷ []) ++ (last_step 0 kids + 1) ∷ [])
          (child_url (child_url url own) slug) slug body ∷ []) (rows_below q path url rest) in
          let last = filter-append (λ (row : Row Body). not (nat_eq row.id new))
          (rows_below (Some i) (path ++ s ∷ []) (child_url url own) kids)
          (leaf_row new (Some i) ((path ++ s ∷ []) ++ (last_step 0 kids + 1) ∷ [])
          (child_url (child_url url own) slug) slug body ∷ []) in
          let kids_free = other_rows-free new (Some i) (path ++ s ∷ []) (child_url url own) kids
          free.1 in
          let rest_free = other_rows-free new q path url rest free.2 in
          let kids_same = raise_count-others parent (Some i) (path ++ s ∷ []) (child_url url own)
          kids (subst (λ k. AllIds (λ id. id ≡ k → ⊥) kids) found apart.0) in
          let rest_same = raise_count-others parent q path url rest
          (subst (λ k. AllIds (λ id. id ≡ k → ⊥) rest) found apart.1) in
          let raised = map-append (λ (row : Row Body). cond (is_parent row.id (Some parent))
          (with_kid row) row) (rows_below (Some i) (path ++ s ∷ []) (child_url url own) kids)
          (rows_below q path url rest) in
          rw (
            differs,
            kid_count-put_last 0 new step slug body kids,
            grafted,
            both,
            last,
            same,
            append-nil,
            kids_free,
            rest_free,
            turned,
            raised,
            kids_same,
            rest_same,
          ) refl
      choice false is below after =
          let differs : nat_eq i new ≡ false = other_id i new free.0 in
          let turned : nat_eq parent i ≡ false = grind (arith, nat_tests) in
          let both = filter-append (λ (row : Row Body). not (nat_eq row.id new))
          (rows_below (Some i) (path ++ s ∷ []) (child_url url own)
          (graft parent End (grown new step slug body bare bare) kids))
          (rows_below q path url (graft parent End (grown new step slug body bare bare) rest))
          in
          let raised = map-append (λ (row : Row Body). cond (is_parent row.id (Some parent))
          (with_kid row) row) (rows_below (Some i) (path ++ s ∷ []) (child_url url own) kids)
          (rows_below q path url rest) in
          rw (
            differs,
            kid_count-graft parent (grown new step slug body bare bare) kids,
            both,
            below,
            after,
            turned,
            raised,
          ) refl

-- What a creation does not name stays as it was.
pub creation_keeps_the_rest : (before after : TreePart) (told : Effect)
    (desk : Option ContentValue) (now caller parent : ℕ) (slug : List ℕ)
    (content : ContentValue) →
    step_by before desk now caller (Create parent slug content) ≡ Ok (after, told) →
    KeepsLists before after
    × (after.revisions
    ≡ before.revisions
    ++ plain_revision before.next_revision before.next_page caller (time_at before now) content
    ∷ [])
    × (HasDistinctIds before.tree → has_page before.next_page before.tree ≡ false →
    other_rows before.next_page (rows_of after.tree) ≡ raise_count (Some parent)
    (rows_of before.tree))
unfolding steps.effect
creation_keeps_the_rest before after told desk now caller parent slug content is =
    let one = accepted before after told desk now caller (Create parent slug content) is in
    let same = ap (λ (p : TreePart × Effect). p.0) one.done in (
      record {
        users = ap (λ (part : TreePart). part.users) (sym same);
        tasks = ap (λ (part : TreePart). part.tasks) (sym same);
        workflows = ap (λ (part : TreePart). part.workflows) (sym same);
        members = ap (λ (part : TreePart). part.members) (sym same);
        grants = ap (λ (part : TreePart). part.grants) (sym same);
        next_user = ap (λ (part : TreePart). part.next_user) (sym same);
        next_group = ap (λ (part : TreePart). part.next_group) (sym same);
        next_task = ap (λ (part : TreePart). part.next_task) (sym same);
        next_workflow = ap (λ (part : TreePart). part.next_workflow) (sym same);
      },
      ap (λ (part : TreePart). part.revisions) (sym same),
      λ distinct free. ap (λ (part : TreePart). other_rows before.next_page (rows_of part.tree))
          (sym same) ∙ other_rows-graft parent before.next_page 1 slug
          (fresh_body caller before.next_revision) None [] [] before.tree distinct
          (free_apart before.next_page before.tree free),
    )
