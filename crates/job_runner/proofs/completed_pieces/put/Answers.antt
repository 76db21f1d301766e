use Rattle.std.proofs.Common.{◌<◌, length, subst, arith}
use Rattle.std.specs.Prelude.{Some}
use Rattle.std.specs.List.{AllByRecursion}
use Rattle.std.proofs.lemmas.List.{length-set}
use Rattle.job_runner.specs.Worked.{IsPieceOf}
use Rattle.job_runner.proofs.Placing.{put_placed, put_kept, put_there, all_front, all_end}
use Rattle.job_runner.proofs.completed_pieces.put.Goals as goal

pub loop-piece-preserved-in-Some : goal.loop-piece-preserved-in-Some
loop-piece-preserved-in-Some c =
    let jobs = c.args.plan.now in
    let i = c.loop-piece.invariant in
    let completed_pieces = c.loop-piece.completed_pieces.items in
    let rest = c.pop.new.self.items in
    let piece = c.in-Some.piece in
    let right = subst (AllByRecursion (IsPieceOf jobs)) c.in-Some.ensures.items i.right in
    let is = all_end (IsPieceOf jobs) rest piece right in
    let there = is.there in
    let long = i.completed_pieces.long in
    let inside : piece.chunk < length completed_pieces = omega (arith, there, long) in
    let same = length-set completed_pieces piece.chunk (Some piece) in
    record {
      completed_pieces = record { long = omega (arith, long, same); placed = put_placed jobs completed_pieces piece inside is i.completed_pieces.placed };
      right = all_front (IsPieceOf jobs) rest piece right;
      kept = λ k f. put_kept completed_pieces piece k inside (i.kept k f);
      there = λ k l. put_there completed_pieces rest c.loop-piece.pieces.items piece k inside c.in-Some.ensures.items (i.there k l);
    }

pub loop-piece-preserved : goal.loop-piece-preserved
loop-piece-preserved c =
    let jobs = c.args.plan.now in
    let i = c.loop-piece.invariant in
    let completed_pieces = c.loop-piece.completed_pieces.items in
    let rest = c.pop.new.self.items in
    let piece = c.in-Some.piece in
    let right = subst (AllByRecursion (IsPieceOf jobs)) c.in-Some.ensures.items i.right in
    let is = all_end (IsPieceOf jobs) rest piece right in
    let there = is.there in
    let long = i.completed_pieces.long in
    let inside : piece.chunk < length completed_pieces = omega (arith, there, long) in
    let same = length-set completed_pieces piece.chunk (Some piece) in
    record {
      completed_pieces = record { long = omega (arith, long, same); placed = put_placed jobs completed_pieces piece inside is i.completed_pieces.placed };
      right = all_front (IsPieceOf jobs) rest piece right;
      kept = λ k f. put_kept completed_pieces piece k inside (i.kept k f);
      there = λ k l. put_there completed_pieces rest c.loop-piece.pieces.items piece k inside c.in-Some.ensures.items (i.there k l);
    }
