-- Positions, permissions and lists of ids are read as they are written.
use Rattle.std.proofs.Common.{◌≡◌, ℕ, ◌<◌, ◌≤◌, nat_lt, nat_le, true, List, [], ◌∷◌, length, All, Some, None, Decides, refl, arith}
use Rattle.std.specs.List.{AllByRecursion, list_all}
use Rattle.std.proofs.lemmas.Bool.{ltb-true}
use Rattle.std.proofs.lemmas.Bool.Decides.{nat_tests, Decides-by_and}
use Rattle.std.proofs.lemmas.List.Elements.{All-from_recursion, recursion_from_All}
use Rattle.site_types.specs.Ids.{IsGroupId, IsTaskId}
use Rattle.site_ids.specs.declared.ids.TheConstants.{LAST_GROUP_ID, LAST_TASK_ID}
use Rattle.site_types.specs.declared.position.Position.{Position}
use Rattle.site_types.specs.declared.position.Position.TheVariants.{FirstChild, LastChild, FirstSibling, Left, Right, LastSibling}
use Rattle.site_types.specs.declared.permission.Permission.{Permission}
use Rattle.site_types.specs.declared.permission.Permission.TheVariants.{Add, Change, Publish, BulkDelete, Lock, Unlock}
use Rattle.byte_forms.specs.Fields.{ids_form, AreGroups, AreTasks, RisesAbove}
use Rattle.byte_forms.specs.Commands.{position_number, position_form, permission_number, permission_form}
use Rattle.content_codec.specs.Reading.{is_within}
use Rattle.content_codec.proofs.Readings.{IsReading, kept_reading, byte_reading, coded_reading, code_is}
use Rattle.content_codec.proofs.Fields.{numbers_reading, and_gives, and_holds}
use Rattle.content_codec.proofs.Limits.{nat_le_decides, is_within_decides}
use Rattle.entry_codec.specs.Lists.{position_of, position_at, permission_of, permission_at, rise_above, are_groups, groups_at, are_tasks, tasks_at}

-- positions
pub position_reading : IsReading position_form (λ position. Unit {0}) position_at
unfolding position_at
position_reading =
    coded_reading byte_reading position_number position_of (λ _. Unit {0}) small back forth
  where
    small : (position : Position) → Unit {0} → position_number position < 256
    small FirstChild is = omega arith
    small LastChild is = omega arith
    small FirstSibling is = omega arith
    small Left is = omega arith
    small Right is = omega arith
    small LastSibling is = omega arith

    back : (position : Position) → Unit {0} →
        position_of (position_number position) ≡ Some position
    back FirstChild is = refl
    back LastChild is = refl
    back FirstSibling is = refl
    back Left is = refl
    back Right is = refl
    back LastSibling is = refl

    forth : (n : ℕ) (position : Position) → position_of n ≡ Some position →
        (position_number position ≡ n) × Unit {0}
    forth n position e = (
      code_is position_number n 1 FirstChild _ position refl
          (code_is position_number n 2 LastChild _ position refl
          (code_is position_number n 3 FirstSibling _ position refl
          (code_is position_number n 4 Left _ position refl
          (code_is position_number n 5 Right _ position refl
          (code_is position_number n 6 LastSibling None position refl (λ none. absurd cc)))))) e,
      tt,
    )

-- permissions
pub permission_reading : IsReading permission_form (λ permission. Unit {0}) permission_at
unfolding permission_at
permission_reading =
    coded_reading byte_reading permission_number permission_of (λ _. Unit {0}) small back forth
  where
    small : (permission : Permission) → Unit {0} → permission_number permission < 256
    small Add is = omega arith
    small Change is = omega arith
    small Publish is = omega arith
    small BulkDelete is = omega arith
    small Lock is = omega arith
    small Unlock is = omega arith

    back : (permission : Permission) → Unit {0} →
        permission_of (permission_number permission) ≡ Some permission
    back Add is = refl
    back Change is = refl
    back Publish is = refl
    back BulkDelete is = refl
    back Lock is = refl
    back Unlock is = refl

    forth : (n : ℕ) (permission : Permission) → permission_of n ≡ Some permission →
        (permission_number permission ≡ n) × Unit {0}
    forth n permission e = (
      code_is permission_number n 1 Add _ permission refl
          (code_is permission_number n 2 Change _ permission refl
          (code_is permission_number n 3 Publish _ permission refl
          (code_is permission_number n 4 BulkDelete _ permission refl
          (code_is permission_number n 5 Lock _ permission refl
          (code_is permission_number n 6 Unlock None permission refl (λ none. absurd cc)))))) e,
      tt,
    )

-- ids that pass the test of rising are ids of groups that rise
rise_gives : (low : ℕ) (ids : List ℕ) → rise_above low ids ≡ true →
    AllByRecursion IsGroupId ids × RisesAbove low ids
rise_gives low [] e = (tt, tt)
rise_gives low (id ∷ ids) e =
    let first = and_gives (nat_lt low id) _ e in
    let second = and_gives (nat_le id LAST_GROUP_ID) _ first.1 in
    let above : low < id = ltb-true _ _ first.0 in
    let last : id ≤ LAST_GROUP_ID = (nat_le_decides id LAST_GROUP_ID).0 second.0 in
    let rest = rise_gives id ids second.1 in
    (((omega arith, last), rest.0), (above, rest.1))

-- ids of groups that rise pass the test
rise_holds : (low : ℕ) (ids : List ℕ) → AllByRecursion IsGroupId ids → RisesAbove low ids →
    rise_above low ids ≡ true
rise_holds low [] all rise = refl
rise_holds low (id ∷ ids) all rise =
    let above : nat_lt low id ≡ true = lt_holds low id rise.0 in
    let last = (nat_le_decides id LAST_GROUP_ID).1 all.0.1 in
    and_holds _ _ above (and_holds _ _ last (rise_holds id ids all.1 rise.1))
  where
    lt_holds : (a b : ℕ) → a < b → nat_lt a b ≡ true
    lt_holds a b lt = grind (arith, nat_tests)

-- each of some ids is a number of four bytes
groups_small : (ids : List ℕ) → AllByRecursion IsGroupId ids →
    AllByRecursion (λ n. n < 4294967296) ids
groups_small [] all = tt
groups_small (id ∷ ids) all = (below id all.0, groups_small ids all.1)
  where
    below : (n : ℕ) → IsGroupId n → n < 4294967296
    below n is = omega arith

-- groups of a task
pub groups_reading : IsReading ids_form AreGroups groups_at
unfolding groups_at are_groups
groups_reading =
    kept_reading numbers_reading are_groups AreGroups
    (λ ids is.
    let all = recursion_from_All IsGroupId ids is.are_ids in
    let size = (is_within_decides 1 16 (length ids)).1 (is.not_empty, is.few) in
    let few : length ids < 256 = omega (arith, is.few) in
    ((few, groups_small ids all), and_holds _ _ size (rise_holds 0 ids all is.rise)))
    (λ ids _ e.
    let both = and_gives (is_within 1 16 (length ids)) _ e in
    let size = (is_within_decides 1 16 (length ids)).0 both.0 in
    let rise = rise_gives 0 ids both.1 in
    record {
      not_empty = size.0;
      few = size.1;
      are_ids = All-from_recursion IsGroupId ids rise.0;
      rise = rise.1;
    })

-- the test of tasks
tasks_decides : (ids : List ℕ) →
    Decides (list_all (is_within 1 LAST_TASK_ID) ids) (All IsTaskId ids)
tasks_decides ids =
    Decides-by_and (is_within 1 LAST_TASK_ID) IsTaskId (list_all (is_within 1 LAST_TASK_ID))
    (λ n. is_within_decides 1 LAST_TASK_ID n) refl (λ _ _. refl) ids

-- each of some ids is a number of four bytes
tasks_small : (ids : List ℕ) → AllByRecursion IsTaskId ids →
    AllByRecursion (λ n. n < 4294967296) ids
tasks_small [] all = tt
tasks_small (id ∷ ids) all = (below id all.0, tasks_small ids all.1)
  where
    below : (n : ℕ) → IsTaskId n → n < 4294967296
    below n is = omega arith

-- tasks of a workflow
pub tasks_reading : IsReading ids_form AreTasks tasks_at
unfolding tasks_at are_tasks
tasks_reading =
    kept_reading numbers_reading are_tasks AreTasks
    (λ ids is.
    let all = recursion_from_All IsTaskId ids is.are_ids in
    let size = (is_within_decides 1 16 (length ids)).1 (is.not_empty, is.few) in
    let few : length ids < 256 = omega (arith, is.few) in
    ((few, tasks_small ids all), and_holds _ _ size ((tasks_decides ids).1 is.are_ids)))
    (λ ids _ e.
    let both = and_gives (is_within 1 16 (length ids)) _ e in
    let size = (is_within_decides 1 16 (length ids)).0 both.0 in
    record {
      not_empty = size.0;
      few = size.1;
      are_ids = (tasks_decides ids).0 both.1;
    })
