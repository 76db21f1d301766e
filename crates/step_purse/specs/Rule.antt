-- What a pass knows before its first call, and when it may call the purse. This project's own. The rule of a purse's cell and
-- the seven kinds of step are in inner/Rule.antt.
use Rattle.std.specs.Prelude.{◌≡◌, ◌<◌, ℕ, List, [], true, false}
use Rattle.step_purse.specs.declared.dealings.Dealing.{Dealing}
use Rattle.step_purse.specs.declared.views.View.{View}
use Rattle.step_purse.specs.declared.views.Share.{Share}
use Rattle.step_purse.specs.Shares.{no_share}
use Rattle.step_purse.specs.Histories.{newcomer}

-- the first view, of a cell that is no purse's yet
abbrev pub blank : View
blank = record { opened = false; allowance = 0; known = newcomer [] no_share; beside = [] }

-- a view without a call
abbrev pub idle : ℕ → List Dealing → Share → View
idle allowance seen share = record { opened = true; allowance = allowance; known = newcomer seen share; beside = [] }

-- a pass with this view may call the purse: it has a share, and isn't amid a join
pub record MayCall (v : View) : Type 0 where
  pub opened : v.opened ≡ true
  pub rested : v.beside ≡ []
  pub part : 0 < v.known.share.parts
