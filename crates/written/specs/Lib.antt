pub mod Lines
pub mod Places
pub mod Reading
pub mod Pages
