use Rattle.std.proofs.Common.{◌≡◌, ◌∙◌, Some, None, Bor, List, ℕ, sym, ap}
use Rattle.std.specs.Prelude.{option_map}
use Rattle.clap.specs.Words.{first_of, found_of, rows_of}
use Rattle.clap.proofs.WalkLemmas.{first_value-rows}
use Rattle.command_line.specs.Words.{is_set}
use Rattle.command_line.proofs.words.is_set.Goals as goal

pub returns-in-Some : goal.returns-in-Some
returns-in-Some c =
    let text : first_of c.args.name.now (rows_of (found_of c.args.matches.now)) ≡ Some c.in-Some.text.now =
    sym (first_value-rows (found_of c.args.matches.now) c.args.name.now) ∙ (sym c.get_str.ensures ∙ ap (option_map (λ (s : Bor (List ℕ)). s.now)) c.in-Some.is) in
    c.eq.ensures ∙ sym (ap is_set text)

pub returns-in-None : goal.returns-in-None
returns-in-None c =
    let text : first_of c.args.name.now (rows_of (found_of c.args.matches.now)) ≡ None =
    sym (first_value-rows (found_of c.args.matches.now) c.args.name.now) ∙ (sym c.get_str.ensures ∙ ap (option_map (λ (s : Bor (List ℕ)). s.now)) c.in-None.is) in
    sym (ap is_set text)
