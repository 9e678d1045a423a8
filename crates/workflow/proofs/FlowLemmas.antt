-- Lists by their numbers, and one list more.
use Rattle.std.proofs.Common.{◌≡◌, ◌<◌, ◌≤◌, ◌+◌, ◌-◌, ℕ, zero, suc, Bool, true, false, cond, nat_lt, List, [], ◌∷◌, ◌++◌, length, Option, Some, None, refl, sym, ◌∙◌, arith, length-append}
use Rattle.std.proofs.lemmas.Bool.Decides.{nat_tests}
use Rattle.std.specs.List.{slice_get, AllByRecursion}
use Rattle.site_ids.specs.declared.ids.TheConstants.{LAST_TASK_ID, LAST_WORKFLOW_ID}
use Rattle.site_model.specs.Limits.{MAX_NAMED}
use Rattle.site_model.specs.Views.{list_at}
use Rattle.site_model.specs.Rules.{is_given}
use Rattle.site_model.specs.Sound.{IsGiven, NamesSome}
use Rattle.workflow.specs.Flows.{IsTask, IsWorkflow, AreFlows, list_with}

-- nothing stands at a place of no list
none_placed : (place : ℕ) →
    ◌≡◌ {A = Option (List ℕ)} None (cond (nat_lt place 0) (Some []) None)
none_placed place = let past : nat_lt place 0 ≡ false = grind (arith, nat_tests) in rw past refl

-- a place that is there is that of a list
at_place : (lists : List (List ℕ)) (place : ℕ) → slice_get lists place
    ≡ cond (nat_lt place (length lists)) (Some (list_at lists (suc place))) None
at_place [] place = none_placed place
at_place (list ∷ lists) zero =
    let there : nat_lt 0 (length (list ∷ lists)) ≡ true = grind (arith, nat_tests) in rw there refl
at_place (list ∷ lists) (suc place) =
    let same : nat_lt (suc place) (length (list ∷ lists)) ≡ nat_lt place (length lists) =
    grind (arith, nat_tests) in
    rw same (at_place lists place)

-- the number after a place is given exactly where the place is there
given_after : (count place : ℕ) → is_given (count + 1) (suc place) ≡ nat_lt place count
given_after count place = grind (arith, nat_tests)

-- the list with a number stands at the place before it
pub placed : (lists : List (List ℕ)) (number place : ℕ) → 1 ≤ number → place ≡ number - 1 →
    slice_get lists place ≡ list_with lists number
placed lists number place some before =
    let after : number ≡ suc place = omega arith in
    rw (after, given_after (length lists) place) (at_place lists place)

-- no list has a number that is not given
not_given : (lists : List (List ℕ)) (number : ℕ) → is_given (length lists + 1) number ≡ false →
    list_at lists number ≡ []
not_given [] number none = refl
not_given (list ∷ lists) zero none = refl
not_given (list ∷ lists) (suc zero) none =
    let given : is_given (length (list ∷ lists) + 1) 1 ≡ true = grind (arith, nat_tests) in
    absurd (cc)
not_given (list ∷ lists) (suc (suc number)) none =
    let same : is_given (length (list ∷ lists) + 1) (suc (suc number))
    ≡ is_given (length lists + 1) (suc number) = grind (arith, nat_tests) in
    not_given lists (suc number) (sym same ∙ none)

-- the list that is found by its number is the one with it
pub found : (lists : List (List ℕ)) (number : ℕ) (list : List ℕ) →
    Some list ≡ list_with lists number → list ≡ list_at lists number
found lists number list is = choice (is_given (length lists + 1) number) is
  where
    choice : (t : Bool) → Some list ≡ cond t (Some (list_at lists number)) None →
        list ≡ list_at lists number
    choice true told = cc
    choice false told = cc

-- where none is found, the one with the number is empty
pub not_found : (lists : List (List ℕ)) (number : ℕ) →
    ◌≡◌ {A = Option (List ℕ)} None (list_with lists number) → [] ≡ list_at lists number
not_found lists number is = choice (is_given (length lists + 1) number) refl is
  where
    choice : (t : Bool) → is_given (length lists + 1) number ≡ t →
        ◌≡◌ {A = Option (List ℕ)} None (cond t (Some (list_at lists number)) None) →
        [] ≡ list_at lists number
    choice true e told = cc
    choice false e told = sym (not_given lists number e)

-- a list by its number has at most so many members as the lists have at most
pub at_fits : (next : ℕ) (lists : List (List ℕ)) (number : ℕ) →
    AllByRecursion (NamesSome next) lists → length (list_at lists number) ≤ MAX_NAMED
at_fits next [] number all = omega arith
at_fits next (list ∷ lists) zero all = omega arith
at_fits next (list ∷ lists) (suc zero) all = all.0.fits
at_fits next (list ∷ lists) (suc (suc number)) all = at_fits next lists (suc number) all.1

-- what holds of each list and of one more holds of all of them
pub one_more : (P : List ℕ → Type 0) (lists : List (List ℕ)) (list : List ℕ) →
    AllByRecursion P lists → P list → AllByRecursion P (lists ++ list ∷ [])
one_more P [] list all last = (last, tt)
one_more P (one ∷ lists) list all last = (all.0, one_more P lists list all.1 last)

-- ids that are given stay so where the next id is greater
pub still_given : (next later : ℕ) (ids : List ℕ) → next ≤ later → AllByRecursion (IsGiven next) ids →
    AllByRecursion (IsGiven later) ids
still_given next later [] more all = tt
still_given next later (id ∷ ids) more all =
    ((all.0.0, omega (arith, all.0.1)), still_given next later ids more all.1)

-- workflows stay workflows where there are more tasks
still_workflows : (count later : ℕ) (lists : List (List ℕ)) → count ≤ later →
    AllByRecursion (IsWorkflow count) lists → AllByRecursion (IsWorkflow later) lists
still_workflows count later [] more all = tt
still_workflows count later (list ∷ lists) more all = (
  record {
    not_empty = all.0.not_empty;
    fits = all.0.fits;
    there = still_given (count + 1) (later + 1) list (omega arith) all.0.there;
  },
  still_workflows count later lists more all.1,
)

-- tasks and workflows are so with one more task
pub task_more : (tasks workflows : List (List ℕ)) (groups : List ℕ) → AreFlows tasks workflows →
    length tasks < LAST_TASK_ID → IsTask groups → AreFlows (tasks ++ groups ∷ []) workflows
task_more tasks workflows groups kept left is =
    record {
      task_count = let count = length-append tasks (groups ∷ []) in omega arith;
      workflow_count = kept.workflow_count;
      task_groups = one_more IsTask tasks groups kept.task_groups is;
      workflow_tasks = still_workflows (length tasks) (length (tasks ++ groups ∷ [])) workflows
          (let count = length-append tasks (groups ∷ []) in omega arith) kept.workflow_tasks;
    }

-- and with one more workflow
pub workflow_more : (tasks workflows : List (List ℕ)) (ids : List ℕ) → AreFlows tasks workflows →
    length workflows < LAST_WORKFLOW_ID → IsWorkflow (length tasks) ids →
    AreFlows tasks (workflows ++ ids ∷ [])
workflow_more tasks workflows ids kept left is =
    record {
      task_count = kept.task_count;
      workflow_count = let count = length-append workflows (ids ∷ []) in omega arith;
      task_groups = kept.task_groups;
      workflow_tasks = one_more (IsWorkflow (length tasks)) workflows ids kept.workflow_tasks is;
    }
