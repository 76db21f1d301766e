-- Lines of entries, and what is put in front of others.
use Rattle.std.proofs.Common.{◌≡◌, ◌≤◌, ◌+◌, ◌-◌, ℕ, List, ◌++◌, length, take, drop, ap, sym, ◌∙◌, arith}
use Rattle.std.proofs.lemmas.List.{take-append-drop, length-take-le, drop-append-le, drop-drop, map-append}
use Rattle.std.proofs.lemmas.List.Concat.{flat_map-append}
use Rattle.std.proofs.Math.Seq.{drop-append-add}
use borrow.Rule.Slice.PartMut.{put_mid, post_of}
use Rattle.csr_store.specs.Grid.{Cell, Entry, at_row}
use Rattle.matrix_market.specs.CanonicalText.{entry_line, entry_lines}

-- the lines of a row's cells are those of its first cells, and of the others
pub lines_cut : (row n : ℕ) (cells front back : List Cell) → front ≡ take n cells → back ≡ drop n cells
    → entry_lines (at_row row cells) ≡ entry_lines (at_row row front) ++ entry_lines (at_row row back)
lines_cut row n cells front back f b =
    let first : take n cells ≡ front = sym f in
    let rest : drop n cells ≡ back = sym b in
    let whole : cells ≡ take n cells ++ drop n cells = sym (take-append-drop n cells) in
    let entry : Cell → Entry = λ c. ((row, c.0), c.1) in
    ap (λ (cs : List Cell). entry_lines (at_row row cs)) whole
    ∙ ap (λ (es : List Entry). entry_lines es) (map-append entry (take n cells) (drop n cells))
    ∙ flat_map-append entry_line (at_row row (take n cells)) (at_row row (drop n cells))
    ∙ (λ i. entry_lines (at_row row (first i)) ++ entry_lines (at_row row (rest i)))

-- sixteen bytes are put before a place, of which the last are a text
pub put_before : (end start : ℕ) (buffer bytes new text : List ℕ) → 16 ≤ end → end ≤ length buffer → start ≤ 16 → length new ≡ 16 → new ≡ bytes
    → drop start bytes ≡ text → drop (end - 16 + start) (put_mid (end - 16) (end - (end - 16)) buffer new) ≡ text ++ drop end buffer
put_before end start buffer bytes new text low high within long is has =
    let front : length (take (end - 16) buffer) ≡ end - 16 = length-take-le (end - 16) buffer (omega arith) in
    let behind = post_of (end - 16) (end - (end - 16)) buffer in
    let place : end - 16 + (end - (end - 16)) ≡ end = omega arith in
    ap (λ n. drop (n + start) (take (end - 16) buffer ++ (new ++ behind))) (sym front)
    ∙ drop-append-add (take (end - 16) buffer) (new ++ behind) start
    ∙ drop-append-le start new behind (omega arith)
    ∙ ap (λ (bs : List ℕ). drop start bs ++ behind) is
    ∙ ap (λ (t : List ℕ). t ++ behind) has
    ∙ ap (λ (r : List ℕ). text ++ r) (drop-drop (end - (end - 16)) (end - 16) buffer ∙ ap (λ n. drop n buffer) place)
