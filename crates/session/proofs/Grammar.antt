-- A command that is whole stays so, whatever follows.
use Rattle.std.proofs.Common.{◌≡◌, ◌≢◌, ℕ, ◌≤◌, Bool, true, false, cond, List, ◌++◌, length, refl, ap, ◌∙◌, arith, take, drop, ltb, length-append}
use Rattle.std.proofs.lemmas.List.{take-append-le, drop-append-le}
use Rattle.std.proofs.lemmas.Bool.{ltb-false, le-ltb}
use Rattle.wire.specs.Lines.{first, Partial, Over, Line, Nothing}
use Rattle.wire.specs.Fetching.{Follows}
use Rattle.wire.proofs.Stays.{first-more, ended_same}
use Rattle.text_words.specs.Words.{words}
use Rattle.command_text.specs.Requests.{Command, Blank, Matrix, Op, Asm, Dis, Submit, Run, Show, Types, Budget, Quit, Refuse, Break, Request, Plain, Body, Fatal, request, with_body}
use Rattle.session.specs.NextCommand.{Waits, Goes, next, next_of, next_plain, next_request}

-- of the commands without a body, `quit` alone ends the session
pub plain_goes : (c : Command) (rest : List ℕ) → c ≢ Quit → next_plain c rest ≡ Goes c rest
plain_goes Blank rest other = refl
plain_goes (Matrix name body) rest other = refl
plain_goes (Op name kind body) rest other = refl
plain_goes (Asm name kind body) rest other = refl
plain_goes (Dis name) rest other = refl
plain_goes (Submit submission) rest other = refl
plain_goes Run rest other = refl
plain_goes (Show name) rest other = refl
plain_goes (Types name) rest other = refl
plain_goes Budget rest other = refl
plain_goes Quit rest other = absurd (other refl)
plain_goes (Refuse rule) rest other = refl
plain_goes (Break rule) rest other = refl

next_plain-more : (d c : Command) (rest left more : List ℕ) → next_plain d rest ≡ Goes c left → next_plain d (rest ++ more) ≡ Goes c (left ++ more)
next_plain-more Blank c rest left more e = cc
next_plain-more (Matrix name body) c rest left more e = cc
next_plain-more (Op name kind body) c rest left more e = cc
next_plain-more (Asm name kind body) c rest left more e = cc
next_plain-more (Dis name) c rest left more e = cc
next_plain-more (Submit submission) c rest left more e = cc
next_plain-more Run c rest left more e = cc
next_plain-more (Show name) c rest left more e = cc
next_plain-more (Types name) c rest left more e = cc
next_plain-more Budget c rest left more e = cc
next_plain-more Quit c rest left more e = absurd (cc)
next_plain-more (Refuse rule) c rest left more e = cc
next_plain-more (Break rule) c rest left more e = cc

next_request-more : (e : Bool) (r : Request) (c : Command) (rest left more : List ℕ) → next_request false r rest ≡ Goes c left → next_request e r (rest ++ more) ≡ Goes c (left ++ more)
next_request-more e (Plain d) c rest left more h = next_plain-more d c rest left more h
next_request-more e (Fatal rule) c rest left more h = absurd (cc)
next_request-more e (Body head len) c rest left more h =
    elim (ltb (length rest) len) as (λ t. ltb (length rest) len ≡ t → cond t Waits (Goes (with_body head (take len rest)) (drop len rest)) ≡ Goes c left → next_request e (Body head len) (rest ++ more) ≡ Goes c (left ++ more)) [
      | true ↦ λ t k. absurd (cc)
      | false ↦ λ t k.
          let fits : len ≤ length rest = ltb-false (length rest) len t in
          let longer : ltb (length (rest ++ more)) len ≡ false = le-ltb (length (rest ++ more)) len (omega (arith, length-append rest more)) in
          let front : take len (rest ++ more) ≡ take len rest = take-append-le len rest more fits in
          let back : drop len (rest ++ more) ≡ drop len rest ++ more = drop-append-le len rest more fits in
          rw (longer, front, back) (cc)
    ] refl h

-- a command that is whole stays so
pub next-more : (known e : Bool) (bytes more rest : List ℕ) (c : Command) → next known bytes ≡ Goes c rest → Follows known more e → next e (bytes ++ more) ≡ Goes c (rest ++ more)
next-more true e bytes more rest c n f = rw (f.1, ended_same more bytes f.0, ended_same more rest f.0) n
next-more false e bytes more rest c n f =
    elim (first false bytes) as (λ o. first false bytes ≡ o → next_of false o ≡ Goes c rest → next e (bytes ++ more) ≡ Goes c (rest ++ more)) [
      | Partial ↦ λ r k. absurd (cc)
      | Over ↦ λ r k. absurd (cc)
      | Line l m ↦ λ r k. ap (next_of e) (first-more false e bytes more l m r f) ∙ next_request-more e (request (words l)) c m rest more k
      | Nothing ↦ λ r k. absurd (cc)
    ] refl n

-- what stands next, where a line and the bytes behind it are known
pub next_behind : (known e : Bool) (bytes more line rest : List ℕ) → first known bytes ≡ Line line rest → Follows known more e → next e (bytes ++ more) ≡ next_request e (request (words line)) (rest ++ more)
next_behind known e bytes more line rest h f = ap (next_of e) (first-more known e bytes more line rest h f)
