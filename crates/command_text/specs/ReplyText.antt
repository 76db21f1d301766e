-- The reply to a command (this project's own).
use Rattle.std.specs.Prelude.{ℕ, List, ◌++◌}

-- lines, and a text that follows them
pub record ReplyText : Type 0 where
  pub line : List ℕ
  pub text : List ℕ

-- all of a reply
abbrev pub whole : ReplyText → List ℕ
whole reply = reply.line ++ reply.text
