pub mod PartsOfLines
