-- The definition of the commands on users, groups, memberships, grants and desks, of aliases, copies,
-- ticks, tasks, workflows and assignments at worked values.
use Rattle.std.proofs.Common.{◌≡◌, ℕ, List, [], ◌∷◌, map, replicate, Some, None, refl, codes, true, false}
use Rattle.serde_json.specs.Data.{Data, null, boolean, unsigned, number, string, array, object, no_items, no_members, member}
use Rattle.serde_json.specs.View.{items_of}
use Rattle.civil_time.specs.Periods.{days_of_first, place_of}
use Rattle.civil_time.specs.TimeText.{civil_at, time_text}
use Rattle.site_types.specs.declared.command.Command.TheVariants.{Alias, Copy, SaveDesk, File, DefineUser, DefineGroup, Member, Grant, Tick, DefineTask, DefineWorkflow, Assign}
use Rattle.site_types.specs.declared.permission.Permission.TheVariants.{BulkDelete}
use Rattle.wire_model.specs.Times.{time_of}
use Rattle.wire_model.specs.Forms.{hex_bytes, digest_of, alias_in, copy_in, tick_in, saving_in, filing_in, user_definition_in, group_definition_in, membership_in, grant_in, task_definition_in, workflow_definition_in, assignment_in}

-- the SHA-256 digest of `hello`, as bytes
abbrev hello : List ℕ
hello =
    44 ∷ 242 ∷ 77 ∷ 186 ∷ 95 ∷ 176 ∷ 163 ∷ 14 ∷ 38 ∷ 232 ∷ 59 ∷ 42 ∷ 197 ∷ 185 ∷ 226 ∷ 158
    ∷ 27 ∷ 22 ∷ 30 ∷ 92 ∷ 31 ∷ 167 ∷ 66 ∷ 94 ∷ 115 ∷ 4 ∷ 51 ∷ 98 ∷ 147 ∷ 139 ∷ 152 ∷ 36 ∷ []

-- it is read from its digits
a_digest : digest_of (codes "2cf24dba5fb0a30e26e83b2ac5b9e29e1b161e5c1fa7425e73043362938b9824")
    ≡ Some hello
a_digest = refl

-- two digits write a byte, the higher first
a_byte : hex_bytes (codes "1f") ≡ Some (31 ∷ [])
a_byte = refl

-- a digit in upper case is none
upper_case : hex_bytes (codes "1F") ≡ None
upper_case = refl

-- nor is a letter after `f`
a_letter_too_far : hex_bytes (codes "1g") ≡ None
a_letter_too_far = refl

-- nor is one digit alone
an_odd_digit : hex_bytes (codes "1f0") ≡ None
an_odd_digit = refl

-- a text that is too short is no digest
too_short : digest_of (codes "1f") ≡ None
too_short = refl

-- {"digest":"2cf2..","superuser":..} with this value
abbrev user_object : Data → Data
user_object superuser =
    object
    (member (codes "digest")
    (string (codes "2cf24dba5fb0a30e26e83b2ac5b9e29e1b161e5c1fa7425e73043362938b9824"))
    (member (codes "superuser") superuser no_members))

-- it is read, and a number is no truth value
a_user : user_definition_in (user_object (boolean false)) ≡ Some (DefineUser false hello)
a_user = refl

-- no truth value
no_user : user_definition_in (user_object (number (unsigned 1))) ≡ None
no_user = refl

-- a group has no members, and an empty array is no object
a_group : group_definition_in (object no_members) ≡ Some DefineGroup
a_group = refl

-- no object
no_group : group_definition_in (array no_items) ≡ None
no_group = refl

-- {"group":1,"on":true,"user":..} with this user
abbrev member_object : ℕ → Data
member_object user =
    object
    (member (codes "group") (number (unsigned 1))
    (member (codes "on") (boolean true)
    (member (codes "user") (number (unsigned user)) no_members)))

-- the last user joins group 1
a_member : membership_in (member_object 65535) ≡ Some (Member 65535 1 true)
a_member = refl

-- no user has the id 0
no_member : membership_in (member_object 0) ≡ None
no_member = refl

-- nor one past the last
past_the_last : membership_in (member_object 65536) ≡ None
past_the_last = refl

-- {"group":2,"on":false,"page":3,"permission":..} with this permission
abbrev grant_object : List ℕ → Data
grant_object permission =
    object
    (member (codes "group") (number (unsigned 2))
    (member (codes "on") (boolean false)
    (member (codes "page") (number (unsigned 3))
    (member (codes "permission") (string permission) no_members))))

-- a grant to group 2 at page 3 ends
a_grant : grant_in (grant_object (codes "bulk_delete")) ≡ Some (Grant 2 3 BulkDelete false)
a_grant = refl

-- other letters name no permission
other_letters : grant_in (grant_object (codes "ADD")) ≡ None
other_letters = refl

-- {"content":{"blocks":[],"title":..},"page":2} with this title
abbrev saving_object : List ℕ → Data
saving_object title =
    object
    (member (codes "content")
    (object
    (member (codes "blocks") (array no_items) (member (codes "title") (string title) no_members)))
    (member (codes "page") (number (unsigned 2)) no_members))

-- a text is saved at the desk on page 2, and one without a title is none
a_saving : saving_in (saving_object (codes "New"))
    ≡ Some (SaveDesk 2 (record { title = codes "New"; blocks = [] }))
a_saving = refl

-- no title
no_saving : saving_in (saving_object []) ≡ None
no_saving = refl

-- {"expire_at":..,"go_live_at":..,"page":2} with these moments
abbrev filing_object : Data → Data → Data
filing_object expire go_live =
    object
    (member (codes "expire_at") expire
    (member (codes "go_live_at") go_live
    (member (codes "page") (number (unsigned 2)) no_members)))

-- a text is filed without moments
a_filing : filing_in (filing_object null null) ≡ Some (File 2 None None)
a_filing = refl

-- a text is a moment's if it is that moment's text
a_moment : time_of (codes "2023-11-14T22:13:20Z") ≡ Some 1_700_000_000
unfolding time_of time_text civil_at place_of days_of_first
a_moment = refl

-- the year has no such day
no_such_day : time_of (codes "2023-02-29T00:00:00Z") ≡ None
unfolding time_of time_text civil_at place_of days_of_first
no_such_day = refl

-- `T` and `Z` are capital
small_letters : time_of (codes "2023-11-14t22:13:20z") ≡ None
unfolding time_of time_text civil_at place_of days_of_first
small_letters = refl

-- so the go-live and the expiry of a filing are read
a_scheduled_filing : filing_in
    (filing_object (string (codes "2023-11-14T22:13:20Z")) (string (codes "1970-01-01T00:00:00Z")))
    ≡ Some (File 2 (Some 0) (Some 1_700_000_000))
unfolding time_of time_text civil_at place_of days_of_first
a_scheduled_filing = refl

-- a number is no moment
no_moment : filing_in (filing_object (number (unsigned 0)) null) ≡ None
no_moment = refl

-- {"parent":1,"slug":..,"source":2} with this slug
abbrev alias_object : List ℕ → Data
alias_object slug =
    object
    (member (codes "parent") (number (unsigned 1))
    (member (codes "slug") (string slug)
    (member (codes "source") (number (unsigned 2)) no_members)))

-- an alias of page 2 is added below the root, and no slug is empty
an_alias : alias_in (alias_object (codes "q")) ≡ Some (Alias 2 1 (codes "q"))
an_alias = refl

-- no slug
no_alias : alias_in (alias_object []) ≡ None
no_alias = refl

-- {"deep":..,"page":2,"parent":3,"slug":"c"} with this depth
abbrev copy_object : Data → Data
copy_object deep =
    object
    (member (codes "deep") deep
    (member (codes "page") (number (unsigned 2))
    (member (codes "parent") (number (unsigned 3))
    (member (codes "slug") (string (codes "c")) no_members))))

-- page 2 is copied below page 3 with its descendants, and a number is no truth value
a_copy : copy_in (copy_object (boolean true)) ≡ Some (Copy 2 3 (codes "c") true)
a_copy = refl

-- no truth value
no_copy : copy_in (copy_object (number (unsigned 1))) ≡ None
no_copy = refl

-- a tick has no members
a_tick : tick_in (object no_members) ≡ Some Tick
a_tick = refl

-- a member too many
no_tick : tick_in (copy_object null) ≡ None
no_tick = refl

-- the whole numbers of a list
abbrev numbers : List ℕ → Data
numbers ids = array (items_of (map (λ id. number (unsigned id)) ids))

-- {"groups":..} with these groups
abbrev task_object : List ℕ → Data
task_object groups = object (member (codes "groups") (numbers groups) no_members)

-- the groups of a task come in any order, and rise then
a_task : task_definition_in (task_object (3 ∷ 1 ∷ 65535 ∷ 2 ∷ []))
    ≡ Some (DefineTask (1 ∷ 2 ∷ 3 ∷ 65535 ∷ []))
a_task = refl

-- the same group twice is no task
a_group_twice : task_definition_in (task_object (2 ∷ 1 ∷ 2 ∷ [])) ≡ None
a_group_twice = refl

-- nor is no group
no_groups : task_definition_in (task_object []) ≡ None
no_groups = refl

-- {"tasks":..} with these tasks
abbrev workflow_object : List ℕ → Data
workflow_object tasks = object (member (codes "tasks") (numbers tasks) no_members)

-- the tasks of a workflow keep their order, and may come again
a_workflow : workflow_definition_in (workflow_object (2 ∷ 1 ∷ 2 ∷ []))
    ≡ Some (DefineWorkflow (2 ∷ 1 ∷ 2 ∷ []))
a_workflow = refl

-- 16 tasks are a workflow
abbrev sixteen : List ℕ
sixteen = replicate 16 7

-- they are read
sixteen_tasks : workflow_definition_in (workflow_object sixteen) ≡ Some (DefineWorkflow sixteen)
sixteen_tasks = refl

-- one more is one too many
seventeen_tasks : workflow_definition_in (workflow_object (7 ∷ sixteen)) ≡ None
seventeen_tasks = refl

-- no task has the id 0
task_zero : workflow_definition_in (workflow_object (1 ∷ 0 ∷ [])) ≡ None
task_zero = refl

-- {"page":3,"workflow":..} with this workflow
abbrev assignment_object : ℕ → Data
assignment_object workflow =
    object
    (member (codes "page") (number (unsigned 3))
    (member (codes "workflow") (number (unsigned workflow)) no_members))

-- page 3 gets workflow 2
an_assignment : assignment_in (assignment_object 2) ≡ Some (Assign 3 (Some 2))
an_assignment = refl

-- workflow 0 is none
no_workflow : assignment_in (assignment_object 0) ≡ Some (Assign 3 None)
no_workflow = refl

-- there is no workflow after the last one
workflow_too_far : assignment_in (assignment_object 65536) ≡ None
workflow_too_far = refl
