-- Lines of a stream of bytes, after this project's session protocol: a line ends at LF, a CR before that LF is dropped, and the
-- last line may lack its LF. A line is too long where it has over 1,024 bytes, LF and CR not counted.
use Rattle.std.specs.Prelude.{ℕ, ◌==◌, ◌≤◌, nat_lt, Bool, true, false, if◌then◌else◌}
use Rattle.std.specs.Prelude.{List, [], ◌∷◌, ◌++◌, length}
use Rattle.std.specs.Str.Lines.{strip_carriage_return}

-- bytes cut at their first LF: there is none, or there are bytes before it and after it
pub data Cut : Type 0 where
  Uncut : Cut
  At : (line rest : List ℕ) → Cut

abbrev pub after_front : List ℕ → Cut → Cut
after_front front Uncut = Uncut
after_front front (At line rest) = At (front ++ line) rest

abbrev pub cut_line : List ℕ → Cut
cut_line [] = Uncut
cut_line (b ∷ bs) = if b == 10 then At [] bs else after_front (b ∷ []) (cut_line bs)

-- What the bytes of a stream begin with:
pub data First : Type 0 where
  Partial : First  -- less than a line, and more may come
  Over : First  -- a line that is too long
  Line : (line rest : List ℕ) → First  -- a line, and what follows it
  Nothing : First  -- nothing, and nothing more comes

-- so many bytes of a stream may be a line, which takes so many with its line end
abbrev pub MayBeLine : (len taken : ℕ) → List ℕ → Type 0
MayBeLine len taken bytes = (len ≤ taken) × (taken ≤ length bytes) × (len ≤ 1024)

-- a line of at most 1,024 bytes
abbrev pub measured : List ℕ → List ℕ → First
measured line rest = if nat_lt 1024 (length line) then Over else Line line rest

-- Bytes with no LF. Where the stream has ended they are its last line, if there are any. Else more may come, unless 1,026
-- bytes are there already: whatever follows, that line is too long.
abbrev pub unfinished : Bool → List ℕ → First
unfinished true [] = Nothing
unfinished true (b ∷ bs) = measured (b ∷ bs) []
unfinished false bs = if nat_lt (length bs) 1026 then Partial else Over

abbrev pub first_of : Bool → List ℕ → Cut → First
first_of ended bytes Uncut = unfinished ended bytes
first_of ended bytes (At line rest) = measured (strip_carriage_return line) rest

-- what they begin with, whether the stream has ended or not
abbrev pub first : Bool → List ℕ → First
first ended bytes = first_of ended bytes (cut_line bytes)
