pub mod ShownLemmas
pub mod RowPlaces
pub mod ComingPairs
pub mod ComingRows
pub mod GraftedRows
pub mod CopyLemmas
pub mod CopiedRows
pub mod CopyGraft
