-- The forms of worked values.
use Rattle.std.proofs.Common.{◌≡◌, [], ◌∷◌, ◌++◌, None, Some, true, false, refl, codes, replicate, length}
use Rattle.site_types.specs.Content.{ContentValue}
use Rattle.site_types.specs.RootBody.{root_body}
use Rattle.site_types.specs.declared.world_rows.WorldRows.{WorldRows}
use Rattle.site_types.specs.declared.entry.Entry.{Entry}
use Rattle.site_types.specs.declared.command.Command.TheVariants.{Create, Copy, File, DefineTask, Grant, Tick}
use Rattle.site_types.specs.declared.permission.Permission.TheVariants as permissions
use Rattle.byte_forms.specs.Fields.{u32_form, u64_form, optional_moment_form}
use Rattle.byte_forms.specs.Commands.{command_form}
use Rattle.byte_forms.specs.Entries.{entry_form}
use Rattle.byte_forms.specs.Worlds.{world_form}

-- the content of the title Home without blocks
abbrev home : ContentValue
home = record { title = codes "Home"; blocks = [] }

-- entry 1 of user 1 at second 1,700,000,000: the page `home` below the root
abbrev first_entry : Entry
first_entry = record {
  number = 1;
  moment = 1700000000;
  caller = 1;
  command = Create 1 (codes "home") home;
}

-- its form, 41 bytes
first_entry_form : entry_form first_entry
    ≡ (0 ∷ 0 ∷ 0 ∷ 0 ∷ 0 ∷ 0 ∷ 0 ∷ 1 ∷ [])
    ++ (0 ∷ 0 ∷ 0 ∷ 0 ∷ 0x65 ∷ 0x53 ∷ 0xf1 ∷ 0 ∷ [])
    ++ (0 ∷ 0 ∷ 0 ∷ 1 ∷ [])
    ++ (1 ∷ [])
    ++ (0 ∷ 0 ∷ 0 ∷ 1 ∷ [])
    ++ (4 ∷ 0x68 ∷ 0x6f ∷ 0x6d ∷ 0x65 ∷ [])
    ++ (4 ∷ 0x48 ∷ 0x6f ∷ 0x6d ∷ 0x65 ∷ [])
    ++ (0 ∷ 0 ∷ [])
unfolding entry_form command_form u32_form u64_form
first_entry_form = refl

-- a copy of page 2 below page 1 with its descendants
copy_form : command_form (Copy 2 1 (codes "z") true)
    ≡ 7 ∷ 0 ∷ 0 ∷ 0 ∷ 2 ∷ 0 ∷ 0 ∷ 0 ∷ 1 ∷ 1 ∷ 0x7a ∷ 1 ∷ []
unfolding command_form u32_form
copy_form = refl

-- no go-live is eight bytes 255
file_form : command_form (File 2 None (Some 256))
    ≡ (11 ∷ 0 ∷ 0 ∷ 0 ∷ 2 ∷ replicate 8 255) ++ (0 ∷ 0 ∷ 0 ∷ 0 ∷ 0 ∷ 0 ∷ 1 ∷ 0 ∷ [])
unfolding command_form optional_moment_form u32_form u64_form
file_form = refl

-- a task of the groups 1 and 300
task_form : command_form (DefineTask (1 ∷ 300 ∷ []))
    ≡ 18 ∷ 2 ∷ 0 ∷ 0 ∷ 0 ∷ 1 ∷ 0 ∷ 0 ∷ 1 ∷ 44 ∷ []
unfolding command_form u32_form
task_form = refl

-- the grant of bulk deletion at page 1 to group 2 is taken away
grant_form : command_form (Grant 2 1 permissions.BulkDelete false)
    ≡ 28 ∷ 0 ∷ 0 ∷ 0 ∷ 2 ∷ 0 ∷ 0 ∷ 0 ∷ 1 ∷ 4 ∷ 0 ∷ []
unfolding command_form u32_form
grant_form = refl

-- a tick is its tag
tick_form : command_form Tick ≡ 29 ∷ []
unfolding command_form
tick_form = refl

-- the root with one user, who is a superuser, at moment 0
abbrev first_world : WorldRows
first_world = record {
  time = 0;
  next_page = 2;
  next_revision = 1;
  next_user = 2;
  next_group = 1;
  next_task = 1;
  next_workflow = 1;
  users = record { superuser = true; digest = replicate 32 0 } ∷ [];
  tasks = [];
  workflows = [];
  members = [];
  grants = [];
  pages =
      record {
        id = 1;
        path = codes "0001";
        depth = 1;
        numchild = 0;
        slug = [];
        body = root_body;
      } ∷ [];
  revisions = [];
  desks = [];
}

-- its form has 147 bytes
first_world_length : length (world_form first_world) ≡ 147
unfolding world_form u32_form u64_form optional_moment_form
first_world_length = refl
