pub mod Chunk
pub mod Batch
pub mod Theorem
pub mod Worked
pub mod Whole
pub mod Crew
pub mod Answers
pub mod inner
