use Rattle.std.proofs.Common.{◌≡◌, ◌≢◌, ◌∙◌, Option, Some, None, Bor, List, ℕ, codes, refl, sym, ap, subst, arith}
use Rattle.std.specs.Prelude.{option_map}
use Rattle.clap.specs.Words.{Text, first_of, found_of, rows_of}
use Rattle.clap.proofs.WalkLemmas.{first_value-rows}
use Rattle.session_log.specs.declared.journal.LogFormat.{LogFormat}
use Rattle.session_log.specs.declared.journal.LogFormat.TheVariants as formats
use Rattle.command_line.specs.Words.{IsFormatIfAny}
use Rattle.command_line.proofs.words.format_if_any.Goals as goal

-- the two names differ
apart : codes "text" ≡ codes "json" → ⊥
apart bad = grind arith

-- of a text with this name no other format is given
text_only : (text : Text) (o : Option LogFormat) → text ≡ codes "text" → IsFormatIfAny (Some text) o → Some (Some formats.Text) ≡ Some o
text_only text None e is = absurd is
text_only text (Some formats.Text) e is = refl
text_only text (Some formats.Json) e is = absurd (apart (sym e ∙ is))

json_only : (text : Text) (o : Option LogFormat) → text ≡ codes "json" → IsFormatIfAny (Some text) o → Some (Some formats.Json) ≡ Some o
json_only text None e is = absurd is
json_only text (Some formats.Text) e is = absurd (apart (sym is ∙ e))
json_only text (Some formats.Json) e is = refl

-- a text that is neither name has no format
neither : (text : Text) (o : Option LogFormat) → text ≢ codes "text" → text ≢ codes "json" → IsFormatIfAny (Some text) o → ⊥
neither text None no_text no_json is = is
neither text (Some formats.Text) no_text no_json is = no_text is
neither text (Some formats.Json) no_text no_json is = no_json is

pub returns-in-None-clause-given : goal.returns-in-None-clause-given
returns-in-None-clause-given c =
    let none : first_of (codes "log-format") (rows_of (found_of c.args.matches.now)) ≡ None =
    sym (first_value-rows (found_of c.args.matches.now) (codes "log-format")) ∙ (sym c.get_str.ensures ∙ ap (option_map (λ (s : Bor (List ℕ)). s.now)) c.in-None.is) in
    subst (λ (t : Option Text). IsFormatIfAny t None) (sym none) refl

pub returns-in-None-clause-taken : goal.returns-in-None-clause-taken
returns-in-None-clause-taken c o is =
    let none : first_of (codes "log-format") (rows_of (found_of c.args.matches.now)) ≡ None =
    sym (first_value-rows (found_of c.args.matches.now) (codes "log-format")) ∙ (sym c.get_str.ensures ∙ ap (option_map (λ (s : Bor (List ℕ)). s.now)) c.in-None.is) in
    ap Some (sym (subst (λ (t : Option Text). IsFormatIfAny t o) none is))

pub returns-in-text-clause-given : goal.returns-in-text-clause-given
returns-in-text-clause-given c =
    let text : first_of (codes "log-format") (rows_of (found_of c.args.matches.now)) ≡ Some c.in-Some.text.now =
    sym (first_value-rows (found_of c.args.matches.now) (codes "log-format")) ∙ (sym c.get_str.ensures ∙ ap (option_map (λ (s : Bor (List ℕ)). s.now)) c.in-Some.is) in
    subst (λ (t : Option Text). IsFormatIfAny t (Some formats.Text)) (sym text) c.in-text.is

pub returns-in-text-clause-taken : goal.returns-in-text-clause-taken
returns-in-text-clause-taken c o is =
    let text : first_of (codes "log-format") (rows_of (found_of c.args.matches.now)) ≡ Some c.in-Some.text.now =
    sym (first_value-rows (found_of c.args.matches.now) (codes "log-format")) ∙ (sym c.get_str.ensures ∙ ap (option_map (λ (s : Bor (List ℕ)). s.now)) c.in-Some.is) in
    text_only c.in-Some.text.now o c.in-text.is (subst (λ (t : Option Text). IsFormatIfAny t o) text is)

pub returns-in-json-clause-given : goal.returns-in-json-clause-given
returns-in-json-clause-given c =
    let text : first_of (codes "log-format") (rows_of (found_of c.args.matches.now)) ≡ Some c.in-Some.text.now =
    sym (first_value-rows (found_of c.args.matches.now) (codes "log-format")) ∙ (sym c.get_str.ensures ∙ ap (option_map (λ (s : Bor (List ℕ)). s.now)) c.in-Some.is) in
    subst (λ (t : Option Text). IsFormatIfAny t (Some formats.Json)) (sym text) c.in-json.is

pub returns-in-json-clause-taken : goal.returns-in-json-clause-taken
returns-in-json-clause-taken c o is =
    let text : first_of (codes "log-format") (rows_of (found_of c.args.matches.now)) ≡ Some c.in-Some.text.now =
    sym (first_value-rows (found_of c.args.matches.now) (codes "log-format")) ∙ (sym c.get_str.ensures ∙ ap (option_map (λ (s : Bor (List ℕ)). s.now)) c.in-Some.is) in
    json_only c.in-Some.text.now o c.in-json.is (subst (λ (t : Option Text). IsFormatIfAny t o) text is)

pub returns-in_default-clause-taken : goal.returns-in_default-clause-taken
returns-in_default-clause-taken c o is =
    let text : first_of (codes "log-format") (rows_of (found_of c.args.matches.now)) ≡ Some c.in-Some.text.now =
    sym (first_value-rows (found_of c.args.matches.now) (codes "log-format")) ∙ (sym c.get_str.ensures ∙ ap (option_map (λ (s : Bor (List ℕ)). s.now)) c.in-Some.is) in
    absurd (neither c.in-Some.text.now o c.in_default.not-text c.in_default.not-json (subst (λ (t : Option Text). IsFormatIfAny t o) text is))
