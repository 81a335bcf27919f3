pub mod LogRefusals
