pub mod LineExamples
