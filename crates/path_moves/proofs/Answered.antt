-- The answers of the program to a move, as its calls tell them.
use Rattle.std.proofs.Common.{◌≡◌, ◌⊎◌, inl, inr, ℕ, ◌+◌, ◌≤◌, List, ◌++◌, Option, Some, None, Ok, Err, map, length, take, drop, slice_get, refl, ap, sym, ◌∙◌, subst}
use Rattle.std.specs.List.{AllByRecursion}
use Rattle.std.specs.Option.{SomeIff}
use Rattle.page_tree.specs.Tree.{Forest}
use Rattle.page_tree.specs.Rows.{rows_of}
use Rattle.step_path.specs.declared.step.TheConstants.{LAST_STEP}
use Rattle.site_types.specs.declared.body.Body.{Body}
use Rattle.site_types.specs.declared.position.Position.{Position}
use Rattle.tree_model.specs.Places.{parent_at}
use Rattle.page_store.specs.Pages.{Page}
use Rattle.path_moves.specs.declared.fault.PathFault.{PathFault}
use Rattle.path_moves.specs.declared.fault.PathFault.TheVariants.{StepsFull, TooDeep, Memory}
use Rattle.path_moves.specs.declared.spot.Spot.{Spot}
use Rattle.path_moves.specs.declared.standing.Standing.{Standing}
use Rattle.tree_rows.specs.Subtree.{step_after}
use Rattle.tree_rows.specs.Cuts.{other_rows}
use Rattle.path_moves.specs.Plans.{UnlessMemory, planned_move}
use Rattle.path_moves.specs.Spots.{spot_for, place_past, place_of_spot, place_without, last_place, path_of_spot, rows_between, moved_pair, raised_pair, FitBelow, GoesUp}
use Rattle.path_moves.proofs.Planned.{Leads}
use Rattle.path_moves.proofs.Verdicts.{path, within, steps_full, next_found, path_found, deep_page, deep_below, all_go_up, plan_with}
use Rattle.path_moves.proofs.VerdictPlans.{plan_made}

-- What the calls up to the spot tell, where the step behind the last kid is this one.
pub record Told (pages : List Page) (position : Position) (own goal above : Standing)
    (next behind : ℕ) (spot : Spot) : Type 0 where
  pub step : (last : Page) →
      slice_get pages (last_place own.place own.count (above.place + above.count)) ≡ Some last →
      SomeIff (Some next) (step_after above.path last.path ≤ LAST_STEP)
      (step_after above.path last.path)
  pub behind_is : behind ≡ place_past own.place own.count (goal.place + goal.count)
  pub spot_is : spot ≡ spot_for position goal.place behind (above.place + above.count)

module _ (pages : List Page) (tree : Forest Body) (page target : ℕ) (position : Position)
    (own goal above : Standing) (same : pages ≡ rows_of tree)
    (it : Leads tree page target position own goal above) where
  -- the answer where no step is left
  pub full_answer : ((last : Page) →
      slice_get pages (last_place own.place own.count (above.place + above.count)) ≡ Some last →
      SomeIff None (step_after above.path last.path ≤ LAST_STEP) (step_after above.path last.path)) →
      UnlessMemory (planned_move tree page target position) (Err StepsFull)
  full_answer none =
      inr (sym (steps_full tree page target position own goal above it
      (subst (λ rows. (last : Page) →
      slice_get rows (last_place own.place own.count (above.place + above.count)) ≡ Some last →
      SomeIff None (step_after above.path last.path ≤ LAST_STEP)
      (step_after above.path last.path)) same none)))

  module _ (next behind : ℕ) (spot : Spot)
      (told : Told pages position own goal above next behind spot) where
    -- the step that was found
    step_is : (next ≡ Rattle.path_moves.proofs.Verdicts.next_step tree page target position own
        goal above it)
        × (Rattle.path_moves.proofs.Verdicts.next_step tree page target position own goal above it
        ≤ LAST_STEP)
    step_is = next_found tree page target position own goal above it next
        (subst (λ rows. (last : Page) →
        slice_get rows (last_place own.place own.count (above.place + above.count)) ≡ Some last →
        SomeIff (Some next) (step_after above.path last.path ≤ LAST_STEP)
        (step_after above.path last.path)) same told.step)

    -- the spot that was found
    spot_told : spot ≡ spot_for position goal.place
        (place_past own.place own.count (goal.place + goal.count)) (above.place + above.count)
    spot_told = told.spot_is
        ∙ ap (λ k. spot_for position goal.place k (above.place + above.count)) told.behind_is

    -- the path that was found
    path_told : (result : Option (List ℕ)) → path_of_spot pages above.path next spot result →
        SomeIff result (length (path tree page target position own goal above it) ≤ 63)
        (path tree page target position own goal above it)
    path_told result made =
        path_found tree page target position own goal above it next result step_is.0
        (subst (λ s. path_of_spot (rows_of tree) above.path next s result) spot_told
        (subst (λ rows. path_of_spot rows above.path next spot result) same made))

    -- the answer where the page has no path
    pub deep_answer : path_of_spot pages above.path next spot None →
        UnlessMemory (planned_move tree page target position) (Err TooDeep)
    deep_answer none =
        inr (sym (deep_page tree page target position own goal above it step_is.1
        (path_told None none)))

    module _ (new : List ℕ) (from : ℕ) (made : path_of_spot pages above.path next spot (Some new))
        (from_is : from ≡ place_of_spot spot above.place (above.place + above.count)) where
      -- the path is that of the page after the move
      new_is : new ≡ path tree page target position own goal above it
      new_is = (path_told (Some new) made).1

      -- the place of the spot
      from_told : from ≡ place_of_spot (spot_for position goal.place
          (place_past own.place own.count (goal.place + goal.count)) (above.place + above.count))
          above.place (above.place + above.count)
      from_told = from_is
          ∙ ap (λ s. place_of_spot s above.place (above.place + above.count)) spot_told

      -- it is no later than the end
      order : from ≤ above.place + above.count
      order = subst (λ k. k ≤ above.place + above.count) (sym from_told)
          (within tree page target position own goal above it).1

      -- the plan
      pub plan_answer : (parent here : ℕ) (list : List (ℕ × List ℕ)) →
          parent ≡ parent_at tree target position →
          here ≡ place_without own.place own.count from →
          (own.path ≡ new → from ≤ above.place + above.count →
          list ≡ map (raised_pair (length above.path)) (other_rows own.path
          (rows_between from (above.place + above.count) pages))) →
          ((own.path ≡ new → ⊥) → from ≤ above.place + above.count →
          list ≡ map (moved_pair own.path new) (take own.count (drop own.place pages))
          ++ map (raised_pair (length above.path)) (other_rows own.path
          (rows_between from (above.place + above.count) pages))) →
          ((own.path ≡ new → ⊥) →
          FitBelow own.path new (take own.count (drop own.place pages))) →
          UnlessMemory (planned_move tree page target position) (Ok (record {
            page = page;
            parent = parent;
            place = here;
            rows = list;
          }))
      plan_answer parent here list parent_is here_is keeps other fits =
          inr (same_plan parent here _ parent_is
          (here_is ∙ ap (place_without own.place own.count) from_told)
          ∙ sym (plan_made tree page target position own goal above it new list step_is.1 new_is
          (λ e. keeps e order ∙ raised_told)
          (λ e. other e order ∙ (ap (λ rows. map (moved_pair own.path new)
          (take own.count (drop own.place rows))
          ++ map (raised_pair (length above.path)) (other_rows own.path
          (rows_between from (above.place + above.count) pages))) same
          ∙ ap (λ xs. map (moved_pair own.path new)
          (take own.count (drop own.place (rows_of tree))) ++ xs) raised_told))
          (λ e. subst (λ rows. FitBelow own.path new (take own.count (drop own.place rows))) same
          (fits e))))
        where
          raised_told : map (raised_pair (length above.path)) (other_rows own.path
              (rows_between from (above.place + above.count) pages))
              ≡ map (raised_pair (length above.path)) (other_rows own.path
              (rows_between (place_of_spot (spot_for position goal.place
              (place_past own.place own.count (goal.place + goal.count))
              (above.place + above.count)) above.place (above.place + above.count))
              (above.place + above.count) (rows_of tree)))
          raised_told =
              ap (λ rows. map (raised_pair (length above.path)) (other_rows own.path
              (rows_between from (above.place + above.count) rows))) same
              ∙ ap (λ k. map (raised_pair (length above.path)) (other_rows own.path
              (rows_between k (above.place + above.count) (rows_of tree)))) from_told

          same_plan : (q k k' : ℕ) → q ≡ parent_at tree target position → k ≡ k' →
              plan_with page q k list
              ≡ plan_with page (parent_at tree target position) k' list
          same_plan q k k' one more = rw (one, more) refl

      -- the answer where the list of changes is refused
      pub fault_answer : (fault : PathFault) →
          ((fault ≡ Memory) ⊎ (((fault ≡ TooDeep) × (own.path ≡ new → ⊥)
          × (FitBelow own.path new (take own.count (drop own.place pages)) → ⊥))
          ⊎ ((fault ≡ StepsFull) × (AllByRecursion (λ (row : Page). GoesUp above.path row.path)
          (other_rows own.path (rows_between from (above.place + above.count) pages)) → ⊥)))) →
          UnlessMemory (planned_move tree page target position) (Err fault)
      fault_answer fault (inl none) = inl (ap Err none)
      fault_answer fault (inr (inl (is, differs, many))) =
          inr (ap Err is ∙ sym (deep_below tree page target position own goal above it new step_is.1
          new_is (λ fits. many (subst (λ rows. FitBelow own.path new
          (take own.count (drop own.place rows))) (sym same) fits))))
      fault_answer fault (inr (inr (is, stuck))) =
          absurd (stuck (subst (λ rows. AllByRecursion (λ (row : Page). GoesUp above.path row.path)
          (other_rows own.path (rows_between from (above.place + above.count) rows))) (sym same)
          (subst (λ k. AllByRecursion (λ (row : Page). GoesUp above.path row.path)
          (other_rows own.path (rows_between k (above.place + above.count) (rows_of tree))))
          (sym from_told) (all_go_up tree page target position own goal above it step_is.1))))
