pub mod VerdictLaws
pub mod RulingLaws
pub mod WordLaws
