pub mod Surveys
pub mod SurveyLaws
