-- So far all records were right and taken in, and the rest comes to what the whole comes to.
use Rattle.std.proofs.Common.{◌≡◌}
use Rattle.sheet.proofs.Listed.{Listed}
use Rattle.sheet.proofs.listing.read_list.Given as goal

abbrev pub invariant-loop : goal.invariant-loop
invariant-loop g l =
    let t = g.L.RecordList in
    Listed t.layout.place t.layout.form t.read (t.check l.initial.list) t.layout.most (t.bytes l.initial.list) t.layout.from l.start (t.taken l.list)
    × (t.taken l.list ≡ l.counter)
    × (t.bytes l.list ≡ t.bytes l.initial.list)
    × (t.check l.list ≡ t.check l.initial.list)
