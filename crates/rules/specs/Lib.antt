pub mod TrapRows
