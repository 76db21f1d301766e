use Rattle.bpf_text.proofs.listing.Listing.read.Goals as goal

pub returns-in-Err : goal.returns-in-Err
returns-in-Err c = λ before h. c.in-Err.ensures.err before
