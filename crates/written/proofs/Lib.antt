mod Putting
mod Figures
mod Rows
mod Read
