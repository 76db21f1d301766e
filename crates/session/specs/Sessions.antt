-- What contracts see of a session's memory (this project's own).
use Rattle.std.specs.Prelude.{ℕ}

-- how many reads the session may make, and how many workers each of its batches may have
pub record SessionState : Type 0 where
  pub reads : ℕ
  pub workers : ℕ

-- a session that may make as many reads as any, 2^32
abbrev pub full_session : ℕ → SessionState
full_session workers = record { reads = 4294967296; workers = workers }
