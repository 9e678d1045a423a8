-- What a stage of a moderation is seen as, and whom it asks.
use Rattle.std.specs.Prelude.{ℕ, List, [], Option, Some, None}
use Rattle.site_model.specs.Views.{Stage}
use Rattle.workflow.specs.declared.stage.Stage.{Stage as KeptStage}

-- the stage as the model has it
abbrev pub stage_seen : KeptStage → Stage
stage_seen kept = record { task = kept.task; groups = kept.groups.now }

-- the groups whose members may answer, or none where no answer is awaited
abbrev pub groups_asked : Option Stage → List ℕ
groups_asked None = []
groups_asked (Some stage) = stage.groups
