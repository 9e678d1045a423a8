-- The ranges of the numbers that name things.
use Rattle.std.specs.Prelude.{ℕ, ◌≤◌}
use Rattle.site_ids.specs.declared.ids.TheConstants.{LAST_PAGE_ID, LAST_REVISION_ID, LAST_USER_ID, LAST_GROUP_ID, LAST_TASK_ID, LAST_WORKFLOW_ID}

-- a number of a page is from 1 to 1,000,000
abbrev pub IsPageId : ℕ → Type 0
IsPageId n = (1 ≤ n) × (n ≤ LAST_PAGE_ID)

-- a number of a revision is from 1 to 4,000,000,000
abbrev pub IsRevisionId : ℕ → Type 0
IsRevisionId n = (1 ≤ n) × (n ≤ LAST_REVISION_ID)

-- a number of a user is from 0 to 65,535
abbrev pub IsUserId : ℕ → Type 0
IsUserId n = n ≤ LAST_USER_ID

-- a number of a group is from 1 to 65,535
abbrev pub IsGroupId : ℕ → Type 0
IsGroupId n = (1 ≤ n) × (n ≤ LAST_GROUP_ID)

-- a number of a task is from 1 to 65,535
abbrev pub IsTaskId : ℕ → Type 0
IsTaskId n = (1 ≤ n) × (n ≤ LAST_TASK_ID)

-- a number of a workflow is from 1 to 65,535
abbrev pub IsWorkflowId : ℕ → Type 0
IsWorkflowId n = (1 ≤ n) × (n ≤ LAST_WORKFLOW_ID)
