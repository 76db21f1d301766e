-- How far a text was assembled.
use Rattle.std.proofs.Common.{◌≡◌, ◌≢◌, ◌≤◌, ◌+◌, ℕ, List, [], ◌∷◌, ◌++◌, Option, None, Some, inl, inr, length, filter, refl, sym, ap, ◌∙◌, subst, arith, append_assoc, length-append}
use Rattle.std.specs.Option.{option_to_list}
use Rattle.std.specs.Str.Lines.{lines}
use Rattle.std.proofs.lemmas.List.{append-nil}
use Rattle.bpf_insn.specs.declared.insn.Insn.{Insn}
use Rattle.bpf_insn.specs.Program.{slot_count}
use Rattle.bpf_text.specs.declared.listing.Listing.{Listing}
use Rattle.bpf_text.specs.declared.rule.AsmRule.{AsmRule}
use Rattle.bpf_text.specs.declared.rule.AsmRule.TheVariants.{BadLength}
use Rattle.bpf_text.specs.Lines.{is_statement}
use Rattle.bpf_text.specs.Text.{AreFaultless, IsTextOf, IsTextFault, IsLowestBroken}
use Rattle.bpf_text.specs.inner.Reading.{Lists, Reads, Gives}
use Rattle.bpf_text.proofs.Listings.{no_slots}
use Rattle.bpf_text.proofs.Standing.{faultless_skipped, faultless_more, stand_fits}

-- the lines before the rest are without fault, and the listing is of their instructions
pub record Progress (text rest : List ℕ) (n : ℕ) (listing : Listing) : Type 0 where
  pub done : List (List ℕ)
  pub insns : List Insn
  pub cut : lines text ≡ done ++ lines rest
  pub count : length done ≡ n
  pub faultless : AreFaultless done insns
  pub lists : Lists listing insns

pub progress_none : (text : List ℕ) (listing : Listing) → Lists listing [] → Progress text text 0 listing
progress_none text listing l = record {
  done = [];
  insns = [];
  cut = refl;
  count = refl;
  faultless = record { short = tt; stand = tt; few = omega arith };
  lists = l;
}

gives_more : (ls : List (List ℕ)) (l : List ℕ) (is : List Insn) (o : Option Insn) → AreFaultless ls is → length l ≤ 1024 → Gives l o → slot_count (is ++ option_to_list o) ≤ 4096
    → AreFaultless (ls ++ l ∷ []) (is ++ option_to_list o)
gives_more ls l is None f short g few = faultless_skipped ls l is f short g
gives_more ls l is (Some i) f short g few = faultless_more ls l is i f short g few

pub progress_more : (text rest first behind : List ℕ) (n : ℕ) (old new : Listing) → (p : Progress text rest n old) → lines rest ≡ first ∷ lines behind → Reads first p.insns new → Progress text behind (n + 1) new
progress_more text rest first behind n old new p e r =
    let lists = r.lists in
    let few : slot_count (p.insns ++ option_to_list r.insn) ≤ 4096 = let count = lists.count in let most = new.few in omega arith in
    record {
      done = p.done ++ first ∷ [];
      insns = p.insns ++ option_to_list r.insn;
      cut = p.cut ∙ (ap (λ ls. p.done ++ ls) e ∙ sym (append_assoc p.done (first ∷ []) (lines behind)));
      count = length-append p.done (first ∷ []) ∙ ap (λ k. k + 1) p.count;
      faultless = gives_more p.done first p.insns r.insn p.faultless r.short r.gives few;
      lists = lists;
    }

pub progress_fault : (text rest first behind : List ℕ) (n : ℕ) (listing : Listing) (rule : AsmRule) → (p : Progress text rest n listing) → lines rest ≡ first ∷ lines behind → IsLowestBroken p.insns first rule
    → IsTextFault text (record { line = n + 1; rule = rule })
progress_fault text rest first behind n listing rule p e b = inl (record {
  before = p.done;
  line = first;
  behind = lines behind;
  insns = p.insns;
  cut = p.cut ∙ ap (λ ls. p.done ++ ls) e;
  numbered = ap (λ k. k + 1) (sym p.count);
  faultless = p.faultless;
  fault = b;
})

all_done : (text rest : List ℕ) (n : ℕ) (listing : Listing) → (p : Progress text rest n listing) → lines rest ≡ [] → lines text ≡ p.done
all_done text rest n listing p e = p.cut ∙ (ap (λ ls. p.done ++ ls) e ∙ append-nil p.done)

pub progress_empty : (text rest : List ℕ) (n : ℕ) (listing : Listing) → (p : Progress text rest n listing) → lines rest ≡ [] → p.insns ≡ [] → IsTextFault text (record { line = n + 1; rule = BadLength })
progress_empty text rest n listing p e none =
    let whole = all_done text rest n listing p e in
    inr (record {
      faultless = subst (λ (ls : List (List ℕ)). AreFaultless ls []) (sym whole) (subst (λ (is : List Insn). AreFaultless p.done is) none p.faultless);
      numbered = ap (λ k. k + 1) (sym (ap length whole ∙ p.count));
      name = refl;
    })

pub progress_all : (text rest : List ℕ) (n : ℕ) (listing : Listing) → (p : Progress text rest n listing) → lines rest ≡ [] → p.insns ≢ [] → IsTextOf text p.insns
progress_all text rest n listing p e some =
    let faultless = p.faultless in
    let whole = all_done text rest n listing p e in
    record {
      program = record {
        fits = stand_fits (filter is_statement p.done) p.insns faultless.stand;
        some = let none : slot_count p.insns ≡ 0 → ⊥ = λ z. some (no_slots p.insns z) in omega arith;
        few = faultless.few;
      };
      faultless = subst (λ (ls : List (List ℕ)). AreFaultless ls p.insns) (sym whole) faultless;
    }
