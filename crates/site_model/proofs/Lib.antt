pub mod ClearLemmas
pub mod OrderLemmas
pub mod ContentLemmas
pub mod RowLemmas
pub mod RoomLemmas
pub mod FullLemmas
pub mod AcceptLemmas
pub mod Groups
pub mod LooseGroups
pub mod Deeds
pub mod StrangerLemmas
pub mod KeptLemmas
pub mod StartLemmas
pub mod CreationSound
pub mod DeletionSound
pub mod MoveSound
pub mod SlugSound
pub mod PeopleSound
pub mod GrantSound
pub mod BodyLemmas
pub mod RegularLemmas
pub mod BodySound
pub mod PublishSound
pub mod PurgeSound
pub mod OpenSound
pub mod FileSound
pub mod DraftSound
pub mod NumberLemmas
pub mod TaskSound
pub mod ModerationSound
pub mod SubmitSound
pub mod FlowSound
pub mod FlowFacts
pub mod StepSound
pub mod ViewLemmas
pub mod DeskLemmas
pub mod DeskSound
pub mod OwnText
pub mod WorldSound
pub mod SettledLemmas
pub mod StripeLemmas
pub mod PartLemmas
pub mod AloneLemmas
pub mod ReachedSound
pub mod RightLemmas
pub mod DenialLemmas
pub mod PageDenials
pub mod FlowDenials
pub mod SuperLemmas
pub mod CreateLemmas
pub mod NeedLemmas
pub mod SourceLemmas
pub mod DetachSound
pub mod AliasesLeft
pub mod GraftSound
pub mod AliasSound
pub mod LiveLemmas
pub mod DueLemmas
pub mod TickSound
pub mod CopyLemmas
pub mod RiseLemmas
pub mod CopySound
pub mod CopyStepSound
pub mod LosingTrees
pub mod LosingRights
pub mod LosingLemmas
pub mod LosingBodies
pub mod EachDetached
pub mod DetachedForm
pub mod DeletedForm
pub mod AliasesTold
pub mod DeletingSound
pub mod LosingPeople
pub mod LosingStages
pub mod LosingPages
pub mod LosingWork
pub mod LosingNames
pub mod LosingOpen
pub mod LosingSteps
pub mod LosingMoves
pub mod LosingFacts
pub mod LosingAnswers
pub mod LosingMoved
pub mod LosingEnds
mod Sites
mod Examples
mod UserExamples
mod NeedExamples
mod DeskExamples
mod StepExamples
mod LaterExamples
mod DeletingExamples
mod SoundExamples
mod LosingExamples
