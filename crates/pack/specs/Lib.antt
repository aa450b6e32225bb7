pub mod Rows
pub mod Columns
pub mod Tables
pub mod PackLaws
