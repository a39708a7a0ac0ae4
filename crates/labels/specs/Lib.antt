pub mod Rows
pub mod Draws
pub mod Printed
