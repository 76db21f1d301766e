use Rattle.std.proofs.Common.{◌≡◌, ◌∙◌, ap, take, drop}
use Rattle.bpf_text.specs.inner.Tables.{mnemonic_of_parts, count_of_letters}
use Rattle.bpf_text.proofs.Mnemonics.{parsed}
use Rattle.bpf_text.proofs.mnemonic.Mnemonic.parse.Goals as goal

pub returns : goal.returns
returns c =
    let word = c.args.word.now in
    let n : c.count_of_letters.result ≡ count_of_letters word = c.count_of_letters.ensures.count in
    let front = c.split_at.ensures.front ∙ ap (λ k. take k word) n in
    let back = c.split_at.ensures.back ∙ ap (λ k. drop k word) n in
    parsed word c.parse_parts.result (c.parse_parts.ensures ∙ (λ i. mnemonic_of_parts (front i) (back i)))
