pub mod Tests
pub mod TestLaws
pub mod Scans
pub mod ScanLaws
