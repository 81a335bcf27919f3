pub mod RunChecks
