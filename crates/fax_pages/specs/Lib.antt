pub mod Keys
pub mod Pages
pub mod Pbm
pub mod PdfPages
pub mod Raw
pub mod Tags
pub mod TiffPages
