pub mod Doubles
pub mod DoublesWorked
pub mod FarWorked
pub mod PatternLaws
pub mod MagnitudeLaws
pub mod FarLaws
