pub mod BitLaws
pub mod FormedLaws
pub mod Formed
pub mod Before
