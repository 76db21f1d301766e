use Rattle.std.proofs.Common.{◌∷◌, ◌∙◌, [], ap, sym}
use Rattle.std.specs.List.{slice_split}
use Rattle.bpf_text.specs.Lines.{is_comma}
use Rattle.bpf_text.proofs.Operands.{first_part, cut_off, texts_cut, says_nothing, too_many}
use Rattle.bpf_text.proofs.argument.Arguments.parse.Goals as goal

pub returns-in_err-first : goal.returns-in_err-first
returns-in_err-first c =
    let text = c.args.text.now in
    let first = cut_off c.cut.result.1 (slice_split is_comma text) c.cut.result.0.now c.cut.ensures.parts in
    let none = sym c.parse_operand.ensures ∙ c.in_err-first.was in
    rw c.from_residual.ensures (λ all l e. says_nothing [] c.cut.result.0.now first.0 _ all (texts_cut text (sym c.is_blank_text.ensures ∙ c.if-is_blank_text.false) ∙ first.1) none e)

pub returns-in_err-second : goal.returns-in_err-second
returns-in_err-second c =
    let text = c.args.text.now in
    let cut = texts_cut text (sym c.is_blank_text.ensures ∙ c.if-is_blank_text.false) in
    let first = rw c.in-Some.is at c.cut.ensures.parts in
    let second = cut_off c.cut-2.result.1 (slice_split is_comma c.in-Some.rest.now) c.cut-2.result.0.now c.cut-2.ensures.parts in
    let parts = cut ∙ first ∙ ap (λ more. c.cut.result.0.now ∷ more) second.1 in
    let none = sym c.parse_operand-2.ensures ∙ c.in_err-second.was in
    rw c.from_residual-in_err-second.ensures (λ all l e. says_nothing (c.cut.result.0.now ∷ []) c.cut-2.result.0.now second.0 _ all parts none e)

pub returns-in_err-third : goal.returns-in_err-third
returns-in_err-third c =
    let text = c.args.text.now in
    let cut = texts_cut text (sym c.is_blank_text.ensures ∙ c.if-is_blank_text.false) in
    let first = rw c.in-Some.is at c.cut.ensures.parts in
    let second = rw c.in-Some-rest.is at c.cut-2.ensures.parts in
    let third = cut_off c.cut-3.result.1 (slice_split is_comma c.in-Some-rest.rest.now) c.cut-3.result.0.now c.cut-3.ensures.parts in
    let parts = cut ∙ first ∙ ap (λ more. c.cut.result.0.now ∷ more) (second ∙ ap (λ more. c.cut-2.result.0.now ∷ more) third.1) in
    let none = sym c.parse_operand-3.ensures ∙ c.in_err-third.was in
    rw c.from_residual-in_err-third.ensures
    (λ all l e. says_nothing (c.cut.result.0.now ∷ c.cut-2.result.0.now ∷ []) c.cut-3.result.0.now third.0 _ all parts none e)

pub returns-in-Some-rest-2 : goal.returns-in-Some-rest-2
returns-in-Some-rest-2 c =
    let text = c.args.text.now in
    let cut = texts_cut text (sym c.is_blank_text.ensures ∙ c.if-is_blank_text.false) in
    let first = rw c.in-Some.is at c.cut.ensures.parts in
    let second = rw c.in-Some-rest.is at c.cut-2.ensures.parts in
    let third = rw c.in-Some-rest-2.is at c.cut-3.ensures.parts in
    let fourth = first_part is_comma c.in-Some-rest-2.field-0.now in
    let behind = third ∙ ap (λ more. c.cut-3.result.0.now ∷ more) fourth.2 in
    let parts = cut ∙ first ∙ ap (λ more. c.cut.result.0.now ∷ more) (second ∙ ap (λ more. c.cut-2.result.0.now ∷ more) behind) in
    λ all l e. too_many c.cut.result.0.now c.cut-2.result.0.now c.cut-3.result.0.now fourth.0 fourth.1 _ all parts l e
