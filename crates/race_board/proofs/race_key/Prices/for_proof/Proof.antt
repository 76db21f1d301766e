-- The walk of a function that does nothing: its result has the list that the caller's proof names. Assumes `Logic`.
use Rattle.atomic_table.proofs.Names.{◌≡◌, [], ◌∷◌, refl, Val, List, SProp, ‵, raw, ◌⊛◌, ◌$◌, ◌∵◌, !, qed, by, keep, split, fjoin, fpack, feq_i, no_more, returns, enter, alloc_all, pass_all, free_all, look_at, sets, agg, tables, Valss, owns, types_at, nothing, alive, Stays, walk_of, fact, fact_i, use0, emp}
use Rattle.atomic_table.proofs.Walks.{proved, leaves}
use mir.Val.{vstruct, vnil}
use denote.Struct.Struct.{within}
use Rattle.race_board.specs.contracts.race_key.Prices as prices
use Rattle.race_board.specs.contracts.race_key.Prices.for_proof.{ended, clauses}
use Rattle.race_board.specs.contracts.race_key.Prices.for_proof.Key.{name as #self}
use Rattle.race_board.proofs.race_key.Prices.for_proof.Statement.{statement}
use Rattle.race_board.proofs.race_key.Prices.for_proof.Code as code

pub for_proof_spec : {M : Type 1} → statement M
for_proof_spec 𝓤 𝓛 𝓜 𝓡 wired =
    let H = 𝓛.H in
    let 𝓣 = tables 𝓤 H 𝓜 𝓡 𝓡.env in
    let c = clauses 𝓛 𝓜.mem 𝓡.returns in
    let fn = code.function in
    let none : Val = vstruct vnil in
    let hs : Stays ended.signature.params ended.kept = tt in
    proved 𝓛 ended hs c 𝓜 𝓡 tt #self fn (code.unfolded 𝓤 H 𝓜 𝓡 wired) (λ κs. tt) (λ κs. tt) (λ κs qs bounds a gh are.
    let r : prices.the_row.Denot = record { each = gh } in
    let y : (walk_of 𝓛 ended hs c).Ghost = ((κs, qs, bounds, a, tt), gh) in
    let Post : Val → SProp 𝓤 = (walk_of 𝓛 ended hs c).post y in
    qed 𝓛 ((raw (alive 𝓛 ended.signature κs qs) ⊛ ‵ (owns (types_at ended.signature.params κs) a y.0.4)) ∷ raw ((c κs a).requires gh) ∷ []) ∵
    split ! $ keep ! (0 ∷ []) $
    enter ! 𝓣.C 𝓣.Λ fn [] Post $ alloc_all ! (λ l. pass_all ! refl tt $
    sets ! (agg ! (no_more !)) refl (tt, tt) $ nothing ! $
    nothing ! $ feq_i ! (List Val) (none ∷ []) (none ∷ []) refl $ fjoin ! $
    fpack ! (Valss []) (within (record { name = []; args = []; types = []; fields = [] }) tt (none ∷ [])) tt $ fjoin ! $
    use0 𝓛 (raw (fact 𝓤 (gh ≡ gh))) (fact_i 𝓤 (gh ≡ gh) (emp 𝓤) refl) $ nothing ! $
    returns ! (look_at ! 0 refl) $ free_all ! refl $ keep ! (3 ∷ 0 ∷ 2 ∷ 1 ∷ []) $ by ! (leaves 𝓛 ended hs c y none r tt tt)))
