use Rattle.std.proofs.Common.{sym, ap, ◌∙◌, not, rules, inl, inr}
use Rattle.hex.specs.Hex.{decode_of}
use Rattle.std.proofs.lemmas.List.Elements.{filter_from_retain}
use Rattle.command_text.specs.Hexadecimal.{is_gap}
use Rattle.command_text.proofs.hexadecimal.unhex.Goals as goal

pub returns-in-Ok-clause-ok : goal.returns-in-Ok-clause-ok
returns-in-Ok-clause-ok c =
    let kept = filter_from_retain _ (λ b. not (is_gap b)) (λ p x b q h. search rules) _ _ _ c.retain.ensures.filtered in
    sym (ap decode_of (c.as_slice.ensures.value ∙ kept)) ∙ c.in-Ok.ensures.ok

pub returns-clause-malformed : goal.returns-clause-malformed
returns-clause-malformed c =
    let kept = filter_from_retain _ (λ b. not (is_gap b)) (λ p x b q h. search rules) _ _ _ c.retain.ensures.filtered in
    λ h. (c.in-Err.e, elim c.in-Err.ensures.err [ inl m ↦ absurd (c.in_default.not-OutOfMemory m) | inr d ↦ sym (ap decode_of (c.as_slice.ensures.value ∙ kept)) ∙ d ])
