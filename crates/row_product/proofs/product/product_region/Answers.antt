use Rattle.std.proofs.Common.{◌-◌, ◌∙◌, [], ap, sym, subst}
use Rattle.csr_store.specs.Mask.{mask_of, rows_under, all_listed_under}
use Rattle.job_forms.specs.Product.{product_at, product_calls_at}
use Rattle.job_forms.specs.Region.{IsMade, Adds, nothing_made}
use Rattle.job_forms.specs.declared.region.Making.{Making}
use Rattle.job_forms.specs.declared.region.Chunk.{Chunk}
use Rattle.job_forms.proofs.Regions.{made-of_nothing}
use Rattle.row_product.proofs.product.product_region.Goals as goal

pub returns : goal.returns
returns c =
    let f = c.args.factors.now in
    let n = f.b.now.columns in
    let mask = mask_of c.args.region.mask in
    let first = c.args.region.range.start in
    let count = c.args.region.range.end - first in
    let rows = rows_under mask n (product_at f.add.now f.mul.now f.a.now f.b.now) first count in
    let calls = all_listed_under mask n (product_calls_at f.add.now f.mul.now f.a.now f.b.now) first count in
    subst (λ (made : Chunk). IsMade (record { first = first; columns = n; ended = rows; opened = [] }) calls made)
    (sym c.finish.ensures)
    (made-of_nothing first n rows calls c.fill-filled.new.making c.fill-filled.result
    (subst (λ (m : Making). Adds rows calls m c.fill-filled.new.making c.fill-filled.result)
    (c.begin-making.ensures ∙ ap (nothing_made first) c.columns.ensures.columns) c.fill-filled.ensures))
