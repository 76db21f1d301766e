use Rattle.std.proofs.Common.{◌++◌, [], ◌∷◌, List, refl, unwrap_or, ap, sym, ◌∙◌, subst, arith}
use Rattle.std.specs.List.Sorted.{IsPermutation}
use Rattle.csr_store.specs.declared.error.StoreError.TheVariants.{Memory}
use Rattle.csr_store.specs.Grid.{Grid, Position, Entry}
use Rattle.csr_store.specs.Refusal.{put_fault}
use Rattle.csr_store.proofs.Filling.{raise}
use Rattle.csr_store.proofs.Laws.{fits-put_fault, is_none}
use Rattle.csr_store.proofs.Collecting.{with_entry, spanned, first_twice, second_twice, too_many, fits, pushed, put_between, more_collected, more_same}
use Rattle.csr_store.proofs.builder.Builder.put.Goals as goal

pub returns-then-has-clause-refused : goal.returns-then-has-clause-refused
returns-then-has-clause-refused c =
    let p : Position = (c.args.row, c.args.column) in
    let s = spanned c.self.inside.ascending c.args.row c.args.column (cc) in
    let fault = first_twice c.self.inside.ascending c.self.inside.others.entries c.self.invariant p s.0 s.1 (cc) in
    ap (λ o. unwrap_or o Memory) (sym fault ∙ ap (λ (g : Grid). put_fault g p) c.self.view_is)

pub returns-then-contains_key-clause-refused : goal.returns-then-contains_key-clause-refused
returns-then-contains_key-clause-refused c =
    let p : Position = (c.args.row, c.args.column) in
    let s = spanned c.self.inside.ascending c.args.row c.args.column (cc) in
    let fault = second_twice c.self.inside.ascending c.self.inside.others.entries c.self.invariant p s.0 s.1 (cc) in
    ap (λ o. unwrap_or o Memory) (sym fault ∙ ap (λ (g : Grid). put_fault g p) c.self.view_is)

pub returns-then-len-ge-MOST_ENTRIES-clause-refused : goal.returns-then-len-ge-MOST_ENTRIES-clause-refused
returns-then-len-ge-MOST_ENTRIES-clause-refused c =
    let p : Position = (c.args.row, c.args.column) in
    let s = spanned c.self.inside.ascending c.args.row c.args.column (cc) in
    let m = c.len.ensures in let n = c.len-2.ensures.len in
    let fault = too_many c.self.inside.ascending c.self.inside.others.entries c.self.invariant p s.0 s.1 (is_none _ (cc)) (is_none _ (cc)) (omega arith) in
    ap (λ o. unwrap_or o Memory) (sym fault ∙ ap (λ (g : Grid). put_fault g p) c.self.view_is)

pub invariant_of-self : goal.invariant_of-self
invariant_of-self c =
    let l = c.self.inside.ascending in
    let os = c.self.inside.others.entries in
    let p : Position = (c.args.row, c.args.column) in
    let s = spanned l c.args.row c.args.column (cc) in
    let m = c.len.ensures in let n = c.len-2.ensures.len in
    let f = fits l os c.self.invariant p s.0 s.1 (is_none _ (cc)) (is_none _ (cc)) (omega arith) in
    more_collected l os c.self.invariant p c.args.value f (let w = c.ranges.value.fits in omega arith) (l.entries ++ (p, c.args.value) ∷ []) os (pushed l.entries os (p, c.args.value)) c.add.new.self c.in-Ok.ensures.added
    (raise p p 0 c.args.value l.entries (λ x g. g) (c.if-ends_before.ensures refl))

pub returns-in-Ok-clause-fits : goal.returns-in-Ok-clause-fits
returns-in-Ok-clause-fits c =
    let l = c.self.inside.ascending in
    let os = c.self.inside.others.entries in
    let p : Position = (c.args.row, c.args.column) in
    let s = spanned l c.args.row c.args.column (cc) in
    let m = c.len.ensures in let n = c.len-2.ensures.len in
    let f = fits l os c.self.invariant p s.0 s.1 (is_none _ (cc)) (is_none _ (cc)) (omega arith) in
    sym (ap (λ (g : Grid). put_fault g p) c.self.view_is) ∙ fits-put_fault _ _ f

pub returns-in-Ok-clause-added : goal.returns-in-Ok-clause-added
returns-in-Ok-clause-added c =
    let l = c.self.inside.ascending in
    let os = c.self.inside.others.entries in
    let p : Position = (c.args.row, c.args.column) in
    let s = spanned l c.args.row c.args.column (cc) in
    let m = c.len.ensures in let n = c.len-2.ensures.len in
    let f = fits l os c.self.invariant p s.0 s.1 (is_none _ (cc)) (is_none _ (cc)) (omega arith) in
    more_same l os c.self.invariant p c.args.value f (let w = c.ranges.value.fits in omega arith) (l.entries ++ (p, c.args.value) ∷ []) os (pushed l.entries os (p, c.args.value)) c.add.new.self c.in-Ok.ensures.added
    ∙ ap (λ (g : Grid). with_entry g p c.args.value) c.self.view_is

pub returns-in-Err-clause-refused : goal.returns-in-Err-clause-refused
returns-in-Err-clause-refused c =
    let l = c.self.inside.ascending in
    let os = c.self.inside.others.entries in
    let p : Position = (c.args.row, c.args.column) in
    let s = spanned l c.args.row c.args.column (cc) in
    let m = c.len.ensures in let n = c.len-2.ensures.len in
    let f = fits l os c.self.invariant p s.0 s.1 (is_none _ (cc)) (is_none _ (cc)) (omega arith) in
    ap (λ o. unwrap_or o Memory) (sym (sym (ap (λ (g : Grid). put_fault g p) c.self.view_is) ∙ fits-put_fault _ _ f))

pub invariant_of-self-2 : goal.invariant_of-self-2
invariant_of-self-2 c =
    let l = c.self.inside.ascending in
    let os = c.self.inside.others.entries in
    let p : Position = (c.args.row, c.args.column) in
    let s = spanned l c.args.row c.args.column (cc) in
    let m = c.len.ensures in let n = c.len-2.ensures.len in
    let f = fits l os c.self.invariant p s.0 s.1 (is_none _ (cc)) (is_none _ (cc)) (omega arith) in
    let more : IsPermutation ((l.entries ++ os) ++ (p, c.args.value) ∷ []) (l.entries ++ c.insert.new.self.entries) =
    subst (λ (es : List Entry). IsPermutation ((l.entries ++ os) ++ (p, c.args.value) ∷ []) (l.entries ++ es)) (sym c.in-Ok-insert.ensures.entries) (put_between l.entries os p c.args.value (is_none _ (cc))) in
    more_collected l os c.self.invariant p c.args.value f (let w = c.ranges.value.fits in omega arith) l.entries c.insert.new.self.entries more l refl c.self.invariant.rises

pub returns-clause-fits : goal.returns-clause-fits
returns-clause-fits c =
    let l = c.self.inside.ascending in
    let os = c.self.inside.others.entries in
    let p : Position = (c.args.row, c.args.column) in
    let s = spanned l c.args.row c.args.column (cc) in
    let m = c.len.ensures in let n = c.len-2.ensures.len in
    let f = fits l os c.self.invariant p s.0 s.1 (is_none _ (cc)) (is_none _ (cc)) (omega arith) in
    sym (ap (λ (g : Grid). put_fault g p) c.self.view_is) ∙ fits-put_fault _ _ f

pub returns-clause-added : goal.returns-clause-added
returns-clause-added c =
    let l = c.self.inside.ascending in
    let os = c.self.inside.others.entries in
    let p : Position = (c.args.row, c.args.column) in
    let s = spanned l c.args.row c.args.column (cc) in
    let m = c.len.ensures in let n = c.len-2.ensures.len in
    let f = fits l os c.self.invariant p s.0 s.1 (is_none _ (cc)) (is_none _ (cc)) (omega arith) in
    let more : IsPermutation ((l.entries ++ os) ++ (p, c.args.value) ∷ []) (l.entries ++ c.insert.new.self.entries) =
    subst (λ (es : List Entry). IsPermutation ((l.entries ++ os) ++ (p, c.args.value) ∷ []) (l.entries ++ es)) (sym c.in-Ok-insert.ensures.entries) (put_between l.entries os p c.args.value (is_none _ (cc))) in
    more_same l os c.self.invariant p c.args.value f (let w = c.ranges.value.fits in omega arith) l.entries c.insert.new.self.entries more l refl
    ∙ ap (λ (g : Grid). with_entry g p c.args.value) c.self.view_is

pub returns-in-Err-insert-clause-refused : goal.returns-in-Err-insert-clause-refused
returns-in-Err-insert-clause-refused c =
    let l = c.self.inside.ascending in
    let os = c.self.inside.others.entries in
    let p : Position = (c.args.row, c.args.column) in
    let s = spanned l c.args.row c.args.column (cc) in
    let m = c.len.ensures in let n = c.len-2.ensures.len in
    let f = fits l os c.self.invariant p s.0 s.1 (is_none _ (cc)) (is_none _ (cc)) (omega arith) in
    ap (λ o. unwrap_or o Memory) (sym (sym (ap (λ (g : Grid). put_fault g p) c.self.view_is) ∙ fits-put_fault _ _ f))
