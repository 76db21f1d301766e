-- Pieces of a batch, each at the index of its chunk's number, as its jobs take them. This project's own.
use Rattle.std.specs.Prelude.{◌≡◌, ℕ, List, [], ◌∷◌, ◌++◌, Option, Some, None, map, drop}
use Rattle.csr_store.specs.Along.{along}
use Rattle.csr_store.specs.Run.{Run}
use Rattle.job_plan.specs.Job.{Job}
use Rattle.job_runner.specs.declared.piece.Piece.{Piece}
use Rattle.job_runner.specs.Chunk.{chunk_total, run_in_job, steps_in_job, at_chunk}

-- what the piece at an index gives: its rows, and its steps
abbrev pub given : Option Piece → Option (Run × ℕ)
given None = None
given (Some p) = Some (p.rows, p.steps)

abbrev pub given_at : List (Option Piece) → List (Option (Run × ℕ))
given_at completed_pieces = map given completed_pieces

-- what chunk c of a job gives, and of the jobs
abbrev pub job_gives : Job → ℕ → Option (Run × ℕ)
job_gives job c = Some (run_in_job job c, steps_in_job job c)

abbrev pub gives : List Job → ℕ → Option (Run × ℕ)
gives jobs c = at_chunk job_gives None jobs c

-- f 0, f 1 and so on, n of them
abbrev pub listed : {T : Type 0} → (ℕ → T) → ℕ → List T
listed f n = along (λ c. f c ∷ []) 0 n

-- a list begins with these
abbrev pub BeginsWith : {T : Type 0} → (ℕ → T) → ℕ → List T → Type 0
BeginsWith f n xs = xs ≡ listed f n ++ drop n xs

-- the places have the pieces of all chunks of the jobs, in order of their numbers
abbrev pub AreAll : List Job → List (Option Piece) → Type 0
AreAll jobs completed_pieces = given_at completed_pieces ≡ listed (gives jobs) (chunk_total jobs)

-- the first places have the pieces of the first n chunks of a job
abbrev pub BeginWith : Job → ℕ → List (Option Piece) → Type 0
BeginWith job n completed_pieces = BeginsWith (job_gives job) n (given_at completed_pieces)

-- the later ones are those behind the first n of the earlier
abbrev pub AreBehind : ℕ → List (Option Piece) → List (Option Piece) → Type 0
AreBehind n before after = given_at after ≡ drop n (given_at before)
