pub mod StepWord
