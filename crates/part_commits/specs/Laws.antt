-- Laws of changes that are carried out, each proved in src/laws.rt.
use Rattle.std.specs.Prelude.{◌≡◌, ℕ}
use Rattle.page_tree.specs.Rows.{rows_of}
use Rattle.site_model.specs.Sound.{IsSoundPart}
use Rattle.site_model.specs.World as worlds
use Rattle.page_store.specs.Pages.{EachPair, HasOtherId}
use Rattle.flat_model.specs.Fits.{Fits}
use Rattle.flat_model.specs.Flat.{lists_of}
use Rattle.flat_model.specs.Lists.{PartLists}
use Rattle.flat_model.specs.Made.{made}
use Rattle.flat_model.specs.Single.{tree_change}
use Rattle.flat_model.specs.declared.change.Change.{Change}
use Rattle.flat_model.specs.declared.change.TreeChange.TheVariants.{Nothing}
use Rattle.link_plans.specs.Told.{TellsPages}
use Rattle.part_commits.specs.InStep.{StaysInStep}

-- a change that leads from a sound world to another leaves each page that it does not touch its
-- moments
abbrev pub SoundStepsStay : Type 0
SoundStepsStay =
    (before after : worlds.TreePart) (change : Change) → IsSoundPart before → IsSoundPart after →
    Fits (lists_of before) change → EachPair HasOtherId (rows_of before.tree) →
    (made change (lists_of before)).pages ≡ rows_of after.tree →
    (made change (lists_of before)).revisions ≡ after.revisions →
    StaysInStep (lists_of before) change

-- a change of nothing but the time and the next ids leaves each page its moments
abbrev pub NothingStays : Type 0
NothingStays =
    (lists : PartLists) (time next_page next_revision : ℕ) →
    StaysInStep lists (tree_change Nothing time next_page next_revision)

-- a change that leads from a sound world to another tells all of the pages after it
abbrev pub SoundStepsTell : Type 0
SoundStepsTell =
    (before after : worlds.TreePart) (change : Change) → IsSoundPart before → IsSoundPart after →
    Fits (lists_of before) change → EachPair HasOtherId (rows_of before.tree) →
    (made change (lists_of before)).pages ≡ rows_of after.tree →
    (made change (lists_of before)).revisions ≡ after.revisions →
    TellsPages (rows_of before.tree) before.revisions change
