mod ClearedRows
mod DrawnRows
mod LaidLists
mod LaidRows
mod OtherColours
mod PackedPictures
mod ShownColumns
mod TurnedBytes
