-- Shares of a purse, by which a pass knows whether it is the only one. This project's own. A share is some parts, each of them the
-- whole halved so many times. A split halves a share, and a join adds two: so the shares of all passes add up to the whole.
use Rattle.std.specs.Prelude.{◌≡◌, ℕ, ◌+◌, ◌*◌, ◌^◌}
use Rattle.step_purse.specs.declared.views.Share.{Share}

abbrev pub share_of : ℕ → ℕ → Share
share_of parts halvings = record { parts = parts; halvings = halvings }

-- the share of the pass that a purse is opened with
abbrev pub whole : Share
whole = share_of 1 0

abbrev pub no_share : Share
no_share = share_of 0 0

abbrev pub half : Share → Share
half s = share_of s.parts (s.halvings + 1)

-- two shares in one
abbrev pub both_shares : Share → Share → Share
both_shares s t = share_of (s.parts * 2 ^ t.halvings + t.parts * 2 ^ s.halvings) (s.halvings + t.halvings)

abbrev pub IsWhole : Share → Type 0
IsWhole s = s.parts ≡ 2 ^ s.halvings
