use Rattle.std.proofs.Common.{◌-◌, ◌<◌, length, length-append, List, ℕ, ◌++◌, Result, Ok, refl, ap, ◌∙◌, subst, append_assoc, arith}
use Rattle.wire.specs.InputState.{InputState}
use Rattle.wire.specs.Fetching.{IsBody, LacksBytes}
use Rattle.wire.specs.inner.Keeping.{IsKept, IsSkipped}
use Rattle.wire.specs.declared.fault.ReadFault.{ReadFault}
use Rattle.wire.specs.declared.fetch.Body.{Body}
use Rattle.wire.specs.declared.fetch.Received.TheVariants.{Full}
use Rattle.wire.proofs.Asking.{ask_on}
use Rattle.wire.proofs.Fetching.{fetched_on}
use Rattle.wire.proofs.Gathering.{skipped_behind}
use Rattle.wire.proofs.fetch.read_rest.Goals as goal

-- what came of a body was dropped, and the rest of it was passed over
dropped_then : (len came : ℕ) (first bytes got : List ℕ) (mid new : InputState) (result : Result Body ReadFault) → IsKept len first (Ok (Full came)) mid bytes → IsSkipped (len - came) result new (mid.bytes ++ got)
    → IsBody len result new (first ++ (bytes ++ got))
dropped_then len came first bytes got mid new result k s =
    let short = k.1.0 in
    subst (IsBody len result new) (ap (λ xs. (first ++ bytes) ++ (xs ++ got)) k.1.1.0 ∙ append_assoc first bytes got)
    (skipped_behind len came (first ++ bytes) (mid.bytes ++ got) new result k.0 (omega arith) s)

pub returns-in-Ok-Full-clause-fetched : goal.returns-in-Ok-Full-clause-fetched
returns-in-Ok-Full-clause-fetched g c =
    let len = c.args.length in
    let first = c.args.first.items in
    let mid = c.keep.new.input in
    let new = c.skip.new.input in
    let came = c.in-Ok-Full.came in
    let f = c.in-Ok-Full.ensures.fetched in
    let more = c.skip.ensures.fetched in
    fetched_on 0 _ _ _ _ (IsKept len first (Ok c.in-Ok-Full.field-0) mid) (IsSkipped (len - came) c.skip.result new) (λ bytes. IsBody len c.skip.result new (first ++ bytes)) f more refl
    (λ bytes k. dropped_then len came first bytes more.got mid new c.skip.result (subst (λ b. IsKept len first (Ok b) mid bytes) c.in-Ok-Full.field-0-is k) more.holds)

-- more of the rest is missing
rest_lacks : (len came : ℕ) (first bytes more : List ℕ) (mid : InputState) → IsKept len first (Ok (Full came)) mid bytes → length (mid.bytes ++ more) < len - came
    → length (first ++ (bytes ++ more)) < len
rest_lacks len came first bytes more mid k short =
    let all = k.0 in
    omega (arith, length-append first bytes, length-append bytes more, length-append first (bytes ++ more), length-append mid.bytes more)

pub skip-requires : goal.skip-requires
skip-requires g c =
    let len = c.args.length in
    let first = c.args.first.items in
    let mid = c.keep.new.input in
    let came = c.in-Ok-Full.came in
    ask_on g.R.Asked.may_ask _ (record { source = g.R.Asked.state c.keep.new.reader; held = mid }) _ (λ bytes. LacksBytes len (first ++ bytes)) (IsKept len first (Ok c.in-Ok-Full.field-0) mid) (LacksBytes (len - came)) c.in-Ok-Full.ensures.fetched c.requires.asked
    (λ bytes more k short. rest_lacks len came first bytes more mid (subst (λ b. IsKept len first (Ok b) mid bytes) c.in-Ok-Full.field-0-is k) short)
