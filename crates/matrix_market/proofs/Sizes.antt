-- A text of which entries are read has its sizes.
use Rattle.std.proofs.Common.{ℕ, List, ap, ◌∙◌, arith}
use Rattle.std.specs.Str.Lines.{lines}
use Rattle.csr_store.specs.Grid.{Grid}
use Rattle.matrix_market.specs.declared.kinds.Banner.{Banner}
use Rattle.matrix_market.specs.declared.kinds.Size.{Size}
use Rattle.matrix_market.specs.Market.{size_of}
use Rattle.matrix_market.specs.inner.Filling.{Filled}
use Rattle.matrix_market.specs.Refusal.{HasSizes}

pub has_sizes : (text : List ℕ) (b : Banner) (s : Size) (g : Grid) (rest : List ℕ) (n given : ℕ) → Filled text b s g rest n given
    → HasSizes text
has_sizes text b s g rest n given f =
    let count = f.here.counts in
    record {
      first = f.here.first;
      others = f.here.done;
      behind = lines rest;
      cut = f.here.split;
      banner = b;
      banner_is = f.here.banner_is;
      size = s;
      size_is = ap size_of f.here.content_is ∙ f.size_is;
      faultless = λ k some few. f.here.clean k some (omega (arith, few, count));
    }
