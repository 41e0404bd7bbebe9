pub mod Table
mod Digits
