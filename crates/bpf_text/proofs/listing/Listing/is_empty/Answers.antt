use Rattle.std.proofs.Common.{◌∙◌, ap, arith, eq-eqb}
use Rattle.std.proofs.lemmas.Bool.{eqb-true}
use Rattle.bpf_insn.specs.Program.{slot_count}
use Rattle.bpf_text.proofs.Listings.{no_slots}
use Rattle.bpf_text.proofs.listing.Listing.is_empty.Goals as goal

pub returns : goal.returns
returns c = λ is h. (
  λ t. no_slots is (let none = eqb-true c.args.self.now.slots 0 t in let count = h.count in omega arith),
  λ e. eq-eqb c.args.self.now.slots 0 (h.count ∙ ap slot_count e),
)
