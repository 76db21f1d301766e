use Rattle.std.proofs.Common.{◌≡◌, ◌∙◌, ◌++◌, ◌∷◌, [], true, ap, arith, is_ok, rules}
use Rattle.std.proofs.lemmas.Bool.{false≢true}
use Rattle.bpf_text.proofs.Listings.{slot_count-push}
use Rattle.bpf_text.proofs.listing.Listing.add.Goals as goal

pub returns-then-is_err : goal.returns-then-is_err
returns-then-is_err c = λ before h. record {
  count = let old = h.count in let more = slot_count-push before c.args.insn in let size = c.slots_of.ensures.count in omega arith;
  kept = λ t. absurd (false≢true t);
}

pub returns-else-is_err : goal.returns-else-is_err
returns-else-is_err c = λ before h. record {
  count = let old = h.count in let more = slot_count-push before c.args.insn in let size = c.slots_of.ensures.count in omega arith;
  kept = λ t.
      let ok : is_ok c.push.result ≡ true = search rules in
      (rw ok at c.push.ensures.items) ∙ ap (λ xs. xs ++ c.args.insn ∷ []) (h.kept t);
}
