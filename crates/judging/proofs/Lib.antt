mod Acceptance
mod Confirming
mod Filling
mod Marking
mod Sheeted
