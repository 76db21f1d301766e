use Rattle.listener.proofs.Speaking.{served_over}
use Rattle.listener.proofs.sides.serve_counted.Goals as goal

pub returns : goal.returns
returns g c =
    let s = c.serve_sides in
    served_over c.args.server.now.purse.now c.args.given.pass c.args.server.now.terms s.result.pass s.result.outcome s.result.spent _ _ _ _ _ _
    c.new-source.ensures c.new-sink.ensures s.ensures.said s.ensures.own s.ensures.owed s.ensures.within
