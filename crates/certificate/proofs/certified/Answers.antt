-- `certificate::certified` meets its contract. Assumes nothing.
use Rattle.certificate.proofs.Walk.{arrays-certify}
use Rattle.certificate.proofs.certified.Goals as goal

pub returns : goal.returns
returns c =
    arrays-certify c.args.table.now c.arrays_of-k.result c.arrays_of-k.ensures c.requires _
    c.confirmed.ensures
