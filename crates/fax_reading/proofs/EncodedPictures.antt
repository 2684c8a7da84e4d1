pub mod EncodedLines
pub mod EncodingsExist
pub mod PictureLines
pub mod PicturesOfEachKind
pub mod PicturesT4
pub mod PicturesT6
