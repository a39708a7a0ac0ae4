pub mod Accepting
pub mod Leads
pub mod Marking
pub mod Judged
