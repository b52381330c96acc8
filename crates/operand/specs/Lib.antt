pub mod Try
pub mod Round
pub mod Flag
pub mod Operand
pub mod inner
