use Rattle.std.proofs.Common.{sym, ◌∙◌, rules, tests}
use Rattle.std.specs.Str.{bytes_eq}
use Rattle.std.proofs.lemmas.Iterator.{YieldsList-from_slice}
use Rattle.std.proofs.lemmas.Iterator.Consumers.{YieldsList-from_copied}
use Rattle.std.proofs.lemmas.Iterator.Search.{find_from_yields_List}
use Rattle.bpf_text.specs.Names.{order_name}
use Rattle.bpf_text.specs.inner.Tables.{all_orders}
use Rattle.bpf_text.proofs.Tables.{option_map-same}
use Rattle.bpf_text.proofs.names.order_named.Goals as goal

pub returns : goal.returns
returns c =
    sym (option_map-same c.find.result)
    ∙ find_from_yields_List (λ x. bytes_eq (order_name x) c.args.name.now) _ _ c.find.result c.find.ensures.ran
    (YieldsList-from_copied (YieldsList-from_slice all_orders cc)) (λ x b q k. search (rules, tests))
