pub mod B1ByParity
pub mod ChangePlaces
pub mod ChangesAndPixels
pub mod EndedPlaces
pub mod Painting
pub mod ReferencePlaces
pub mod RowChanges
pub mod StepsOnRows
