pub mod Tables
pub mod CodeLaws
pub mod WordLaws
pub mod BytesTold
