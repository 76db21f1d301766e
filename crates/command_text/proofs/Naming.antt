-- A name is a short text.
use Rattle.std.proofs.Common.{leb-true, ◌≡◌, ◌≤◌, ◌<◌, arith, ◌&&◌, length, [], ◌∷◌, ℕ, Bool, true, false, List, refl}
use Rattle.std.proofs.lemmas.Bool.Decides.{nat_tests}
use Rattle.std.proofs.lemmas.Str.{IsUtf8-from_ascii}
use Rattle.std.proofs.lemmas.Str.Ascii.{IsAscii-from_all}
use Rattle.std.proofs.lemmas.List.Elements.{All-cons, All-nil}
use Rattle.std.specs.Prelude.{nat_le, All}
use Rattle.std.specs.List.{list_all}
use Rattle.std.specs.Str.{IsUtf8}
use Rattle.command_text.specs.Words.{is_name, is_name_byte}

-- both tests of a conjunction
pub both : (a b : Bool) → (a && b) ≡ true → (a ≡ true) × (b ≡ true)
both true b h = (refl, h)
both false b h = absurd (cc)

name_byte_is_ascii : (b : ℕ) → is_name_byte b ≡ true → b < 128
name_byte_is_ascii b h = grind (arith, nat_tests)

all_ascii : (bs : List ℕ) → list_all is_name_byte bs ≡ true → All (λ b. b < 128) bs
all_ascii [] h = All-nil (λ b. b < 128)
all_ascii (b ∷ bs) h =
    let t = both (is_name_byte b) (list_all is_name_byte bs) h in
    All-cons (λ b. b < 128) b bs (name_byte_is_ascii b t.0) (all_ascii bs t.1)

-- a name is text
pub name_is_text : (word : List ℕ) → is_name word ≡ true → IsUtf8 word
name_is_text word h =
    let t = both (nat_le 1 (length word)) (nat_le (length word) 32 && list_all is_name_byte word) h in
    IsUtf8-from_ascii word (IsAscii-from_all word (all_ascii word (both (nat_le (length word) 32) (list_all is_name_byte word) t.1).1))

-- a name has at most 32 bytes
pub name_is_short : (word : List ℕ) → is_name word ≡ true → length word ≤ 32
name_is_short word h =
    let t = both (nat_le 1 (length word)) (nat_le (length word) 32 && list_all is_name_byte word) h in
    leb-true (length word) 32 (both (nat_le (length word) 32) (list_all is_name_byte word) t.1).0
