-- Reading commands: a tag, and the fields of the command that has it.
use Rattle.std.specs.Prelude.{ℕ, zero, suc, List, [], ◌∷◌, Option, Some, None}
use Rattle.std.specs.List.{slice_get}
use Rattle.site_ids.specs.declared.digest.TheConstants.{DIGEST_BYTES}
use Rattle.site_types.specs.declared.command.Command.{Command}
use Rattle.site_types.specs.declared.command.Command.TheVariants.{Create, Move, Delete, SetSlug, Alias, Detach, Copy, OpenDesk, SaveDesk, ShutDesk, File, Publish, Unpublish, Unschedule, Lock, Unlock, Purge, DefineTask, DefineWorkflow, Assign, Submit, Approve, Reject, Cancel, DefineUser, DefineGroup, Member, Grant, Tick}
use Rattle.content_codec.specs.Reading.{◌>>=◌, made, both_at, byte_at, bytes_at}
use Rattle.content_codec.specs.Fields.{truth_at, page_at, user_at, group_at, optional_workflow_at, optional_moment_at, slug_at}
use Rattle.content_codec.specs.Contents.{content_at}
use Rattle.entry_codec.specs.Lists.{position_at, permission_at, groups_at, tasks_at}

-- the fields of a Create
unfoldable pub create_at : List ℕ → Option (Command × List ℕ)
create_at bytes =
    made (λ x. Create x.0.0 x.0.1 x.1) (both_at (both_at page_at slug_at) content_at bytes)

-- the fields of a Move
unfoldable pub move_at : List ℕ → Option (Command × List ℕ)
move_at bytes =
    made (λ x. Move x.0.0 x.0.1 x.1) (both_at (both_at page_at page_at) position_at bytes)

-- the fields of a SetSlug
unfoldable pub set_slug_at : List ℕ → Option (Command × List ℕ)
set_slug_at bytes = made (λ x. SetSlug x.0 x.1) (both_at page_at slug_at bytes)

-- the fields of an Alias
unfoldable pub alias_at : List ℕ → Option (Command × List ℕ)
alias_at bytes =
    made (λ x. Alias x.0.0 x.0.1 x.1) (both_at (both_at page_at page_at) slug_at bytes)

-- the fields of a Copy
unfoldable pub copy_at : List ℕ → Option (Command × List ℕ)
copy_at bytes =
    made (λ x. Copy x.0.0.0 x.0.0.1 x.0.1 x.1)
    (both_at (both_at (both_at page_at page_at) slug_at) truth_at bytes)

-- the fields of a SaveDesk
unfoldable pub save_at : List ℕ → Option (Command × List ℕ)
save_at bytes = made (λ x. SaveDesk x.0 x.1) (both_at page_at content_at bytes)

-- the fields of a File
unfoldable pub file_at : List ℕ → Option (Command × List ℕ)
file_at bytes =
    made (λ x. File x.0.0 x.0.1 x.1)
    (both_at (both_at page_at optional_moment_at) optional_moment_at bytes)

-- the fields of an Assign
unfoldable pub assign_at : List ℕ → Option (Command × List ℕ)
assign_at bytes = made (λ x. Assign x.0 x.1) (both_at page_at optional_workflow_at bytes)

-- the fields of a DefineUser
unfoldable pub define_user_at : List ℕ → Option (Command × List ℕ)
define_user_at bytes =
    made (λ x. DefineUser x.0 x.1) (both_at truth_at (bytes_at DIGEST_BYTES) bytes)

-- the fields of a Member
unfoldable pub member_at : List ℕ → Option (Command × List ℕ)
member_at bytes =
    made (λ x. Member x.0.0 x.0.1 x.1) (both_at (both_at user_at group_at) truth_at bytes)

-- the fields of a Grant
unfoldable pub grant_at : List ℕ → Option (Command × List ℕ)
grant_at bytes =
    made (λ x. Grant x.0.0.0 x.0.0.1 x.0.1 x.1)
    (both_at (both_at (both_at group_at page_at) permission_at) truth_at bytes)

-- the field of a command that has a page alone
abbrev pub on_page : (ℕ → Command) → List ℕ → Option (Command × List ℕ)
on_page make bytes = made make (page_at bytes)

-- what reads the fields of each command, in the order of the tags from 1
abbrev pub readers : List (List ℕ → Option (Command × List ℕ))
readers =
    create_at ∷ move_at ∷ on_page Delete ∷ set_slug_at ∷ alias_at ∷ on_page Detach ∷ copy_at
    ∷ on_page OpenDesk ∷ save_at ∷ on_page ShutDesk ∷ file_at
    ∷ on_page Publish ∷ on_page Unpublish ∷ on_page Unschedule
    ∷ on_page Lock ∷ on_page Unlock ∷ on_page Purge
    ∷ (λ bytes. made DefineTask (groups_at bytes))
    ∷ (λ bytes. made DefineWorkflow (tasks_at bytes))
    ∷ assign_at ∷ on_page Submit ∷ on_page Approve ∷ on_page Reject ∷ on_page Cancel
    ∷ define_user_at ∷ (λ bytes. Some (DefineGroup, bytes))
    ∷ member_at ∷ grant_at ∷ (λ bytes. Some (Tick, bytes)) ∷ []

-- the fields of the command with a tag
unfoldable pub fields_at : ℕ → List ℕ → Option (Command × List ℕ)
fields_at zero bytes = None
fields_at (suc n) bytes = slice_get readers n >>= λ read. read bytes

-- a command
unfoldable pub command_at : List ℕ → Option (Command × List ℕ)
command_at bytes = byte_at bytes >>= λ tag. fields_at tag.0 tag.1
