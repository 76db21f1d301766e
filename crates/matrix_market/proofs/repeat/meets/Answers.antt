use Rattle.std.proofs.Common.{sym, ◌∙◌}
use Rattle.matrix_market.proofs.Repeated.{entry_again, entry_first, mirror_again, mirror_first}
use Rattle.matrix_market.proofs.repeat.meets.Goals as goal

pub returns-then-meet-clause-again : goal.returns-then-meet-clause-again
returns-then-meet-clause-again c = λ e entries done left met.
    entry_again c.args.header.banner.symmetric c.args.found.row c.args.found.column c.args.found.word entries done left c.args.repeats.now (sym c.meet.ensures.met ∙ c.if-meet.true) met

pub returns-then-has_mirror-clause-again : goal.returns-then-has_mirror-clause-again
returns-then-has_mirror-clause-again c = λ e entries done left met.
    mirror_again c.args.header.banner.symmetric c.args.found.row c.args.found.column c.args.found.word entries done left c.args.repeats.now c.meet.new.self
    (sym c.has_mirror.ensures ∙ c.if-has_mirror.true) (sym c.meet.ensures.met ∙ c.if-meet.false) c.meet.ensures.marked (sym c.meet-then-has_mirror.ensures.met ∙ e) met

pub returns-then-has_mirror-clause-first : goal.returns-then-has_mirror-clause-first
returns-then-has_mirror-clause-first c = λ e entries done left met.
    mirror_first c.args.header.banner.symmetric c.args.found.row c.args.found.column c.args.found.word entries done left c.args.repeats.now c.meet.new.self
    (sym c.has_mirror.ensures ∙ c.if-has_mirror.true) (sym c.meet.ensures.met ∙ c.if-meet.false) c.meet.ensures.marked
    c.meet-then-has_mirror.new.self (sym c.meet-then-has_mirror.ensures.met ∙ e) c.meet-then-has_mirror.ensures.marked met

pub returns-clause-first : goal.returns-clause-first
returns-clause-first c = λ e entries done left met.
    entry_first c.args.header.banner.symmetric c.args.found.row c.args.found.column c.args.found.word entries done left c.args.repeats.now c.meet.new.self
    (sym c.has_mirror.ensures ∙ c.if-has_mirror.false) (sym c.meet.ensures.met ∙ c.if-meet.false) c.meet.ensures.marked met
