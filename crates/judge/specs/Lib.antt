pub mod Axes
pub mod Plans
pub mod PlanLaws
pub mod RangeLaws
